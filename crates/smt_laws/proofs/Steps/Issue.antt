-- What an issue changes: its instruction leaves the queue, and is its actor's job with the operands that it reads now.
use Rattle.std.specs.Prelude.{◌≡◌, ◌≢◌, ℕ, ◌+◌, Bool, true, not, ◌==◌, if◌then◌else◌, List, ◌∷◌, length, Option, Some}
use Rattle.std.specs.Prelude.{None, is_none}
use Rattle.std.specs.List.{filter}
use Rattle.std.proofs.Common.{◌∙◌, refl, sym, ap, arith}
use Rattle.std.proofs.{lemmas.Bool.Decides.nat_tests, lemmas.List.append-nil}
use Rattle.rv_instr.specs.declared.op.Op.{Op}
use Rattle.events.specs.{declared.event.Event.Event, declared.event.Event.TheVariants.Issue}
use Rattle.smt_model.specs.{Setup.Setup, Kinds.first_source, Kinds.second_source, Rules.refused, Rules.is_legal}
use Rattle.smt_model.specs.{Jobs.job, Picture.picture, Steps.IsIssue}
use Rattle.smt_model.specs.Fates.{Fate, Renamed, Issued, fate, is, is_in_flight, is_counted, stands, is_of}
use Rattle.smt_model.specs.Flights.{numbers, all_numbers, queue, icount}
use Rattle.smt_model.specs.Registers.{writer, reads, operand, committed}
use Rattle.smt_model.proofs.{Lists.filter-loses, Lists.how_many-loses, Fates.Moves.fate_at, Fates.Moves.issue_was}
use Rattle.smt_model.proofs.Fates.Numbers.{numbers-member, numbers-rise}
use Rattle.smt_laws.proofs.Registers.Committing.{committed-kept, committer-Issue}
use Rattle.smt_laws.proofs.{Events.Freeing.free-same, Events.Freeing.keeps_readings, Events.Harts.claims-calm}
use Rattle.smt_laws.proofs.Staying.{others-calm, hart-calm}
use Rattle.smt_model.proofs.Allowed.{issue_allowed}
use Rattle.smt_laws.proofs.Events.Calm.{IsCalm, fate-other, calm-flights, writer-calm, mapped-kept, keeps_jobs}

now-Issue : (setup : Setup) (past : List Event) (actor n : ℕ) → refused setup past (Issue actor n) ≡ None
    → fate (Issue actor n ∷ past) n ≡ Issued
now-Issue setup past actor n ok =
    let was =
    issue_was setup past actor n ok in fate_at (fate (Issue actor n ∷ past) n) Issued (grind (arith, nat_tests))

was-Issue : (setup : Setup) (past : List Event) (actor n : ℕ) → refused setup past (Issue actor n) ≡ None
    → fate past n ≡ Renamed
was-Issue setup past actor n ok = fate_at (fate past n) Renamed (issue_was setup past actor n ok)

own-Issue : (setup : Setup) (past : List Event) (actor n : ℕ) → refused setup past (Issue actor n) ≡ None
    → (test : Fate → Bool)
    → test Issued ≡ test Renamed → test (fate (Issue actor n ∷ past) n) ≡ test (fate past n)
own-Issue setup past actor n ok test same =
    ap test (now-Issue setup past actor n ok) ∙ (same ∙ ap test (sym (was-Issue setup past actor n ok)))

other-Issue : (past : List Event) (actor n s : ℕ) (test : Fate → Bool) → s ≢ n
    → test (fate (Issue actor n ∷ past) s) ≡ test (fate past s)
other-Issue past actor n s test other = ap test (fate-other (Issue actor n) past s (λ same. other (sym same)) refl)

no_job : (o : Option ℕ) → is_none o ≡ true → o ≡ None
no_job None none = refl
no_job (Some s) none = absurd (grind arith)

job_given : (k j n : ℕ) (before : Option ℕ) → (if k == j then Some n else before) ≡ (if j == k then Some n else before)
job_given k j n before = grind (arith, nat_tests)

idle-Issue : (setup : Setup) (past : List Event) (actor n : ℕ) → refused setup past (Issue actor n) ≡ None
    → job past actor ≡ None
idle-Issue setup past actor n ok =
    let idle = (issue_allowed setup past actor n ok).idle in no_job (job past actor) (grind arith)

icount-Issue : (setup : Setup) (past : List Event) → is_legal setup past → (actor n : ℕ)
    → refused setup past (Issue actor n) ≡ None → (h : ℕ)
    → is_of past h n ≡ true → icount past h ≡ icount (Issue actor n ∷ past) h + 1
icount-Issue setup past legal actor n ok h of_n =
    how_many-loses (λ s. is_counted (fate past s)) (λ s. is_counted (fate (Issue actor n ∷ past) s)) n (numbers past h)
    (numbers-rise setup past legal h) (numbers-member setup past legal h n of_n)
    (ap is_counted (was-Issue setup past actor n ok)) (ap is_counted (now-Issue setup past actor n ok))
    (λ x m other. other-Issue past actor n x is_counted other)
    ∙ ap (λ xs. length (filter (λ s. is_counted (fate (Issue actor n ∷ past) s)) xs) + 1)
    (sym (append-nil (numbers past h)))

queue-Issue : (setup : Setup) (past : List Event) (actor n : ℕ) → refused setup past (Issue actor n) ≡ None
    → queue (Issue actor n ∷ past) ≡ filter (λ s. not (s == n)) (queue past)
queue-Issue setup past actor n ok =
    ap (filter (λ s. is (fate (Issue actor n ∷ past) s) Renamed)) (append-nil (all_numbers past))
    ∙ filter-loses (λ s. is (fate past s) Renamed) (λ s. is (fate (Issue actor n ∷ past) s) Renamed) n
    (all_numbers past)
    (ap (λ f. is f Renamed) (now-Issue setup past actor n ok))
    (λ x m other. other-Issue past actor n x (λ f. is f Renamed) other)

operand-Issue : (setup : Setup) (past : List Event) (actor n : ℕ) (which : Op → ℕ)
    → operand setup which (Issue actor n ∷ past) n ≡ reads setup which past n
operand-Issue setup past actor n which = let same : (n == n) ≡ true = grind (arith, nat_tests) in rw same refl

pub steps-Issue : (setup : Setup) (past : List Event) → is_legal setup past → (actor n : ℕ)
    → refused setup past (Issue actor n) ≡ None
    → (h : ℕ) → is_of past h n ≡ true → IsIssue (picture setup past) (picture setup (Issue actor n ∷ past)) h n actor
steps-Issue setup past legal actor n ok h of_n =
    let e = Issue actor n in
    let calm : IsCalm past e = λ s. refl in
    let commits = committer-Issue setup past legal actor n ok in
    let writes_same : (g r : ℕ) → writer (e ∷ past) g r ≡ writer past g r =
    λ g r. writer-calm setup past legal e ok calm refl g r (λ mine late. own-Issue setup past actor n ok stands refl) in
    let commits_same : (g r : ℕ) → committed (e ∷ past) g r ≡ committed past g r =
    λ g r. committed-kept setup past legal e ok g r (commits g r) in
    record {
      of_hart = of_n;
      idle = idle-Issue setup past actor n ok;
      waited = was-Issue setup past actor n ok;
      fate = now-Issue setup past actor n ok;
      phys = refl;
      completion = refl;
      icount = icount-Issue setup past legal actor n ok h of_n;
      queue = queue-Issue setup past actor n ok;
      job = λ j. job_given actor j n (job past j);
      first_operand = operand-Issue setup past actor n first_source;
      second_operand = operand-Issue setup past actor n second_source;
      flights = calm-flights setup e past calm;
      stays = record {
        hart = hart-calm setup past e calm h refl Renamed Issued (was-Issue setup past actor n ok)
            (now-Issue setup past actor n ok)
            refl refl refl tt
            (λ r low high. mapped-kept setup past legal e ok h r (writes_same h r))
            (λ r low high. commits_same h r) refl refl;
        others = others-calm setup past legal e ok calm (λ g. refl) h of_n writes_same commits_same (λ g other. refl)
            (λ g. refl);
        shared = record {
          kept = λ s f at. at;
          operands = keeps_jobs setup past legal e ok;
          queue = tt;
          free = free-same setup past (e ∷ past) legal (ok, legal)
              (claims-calm setup past e ok calm (own-Issue setup past actor n ok is_in_flight refl) commits_same);
          values = λ x claimed. refl;
          readings = keeps_readings setup past legal e ok (λ x. refl);
          job = tt;
          fetches = record { fetched = λ s. refl; fetches = refl; last_fetched = refl };
          records = refl;
          output = refl;
          memory = record { byte = λ addr. refl; reserved = λ g. refl; touched = λ s. refl; looks = refl };
        };
      };
    }
