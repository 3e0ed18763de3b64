-- What a fetch changes: its hart's decode latch, counter and fetch pc.
use Rattle.std.specs.Prelude.{◌≡◌, ◌≢◌, ℕ, Bool, true, false, ◌==◌, if◌then◌else◌, List, [], ◌∷◌, ◌++◌, length, Option}
use Rattle.std.specs.Prelude.{Some, None}
use Rattle.std.specs.List.{filter}
use Rattle.std.proofs.Common.{◌∙◌, refl, ap, inl, inr, arith}
use Rattle.std.proofs.{lemmas.Bool.cases_lt, lemmas.Bool.Decides.nat_tests, lemmas.List.append-nil}
use Rattle.std.proofs.{lemmas.List.length_push}
use Rattle.events.specs.{declared.event.Event.Event, declared.event.Event.TheVariants.Fetch}
use Rattle.smt_model.specs.{Basics.holds_of, Setup.Setup, Registers.writer, Registers.committed, Rules.refused}
use Rattle.smt_model.specs.{Rules.is_legal, Fetching.fetch_pc, Picture.picture, Steps.IsFetch, Steps.KeepsFetched}
use Rattle.smt_model.specs.Fates.{Fate, InDecode, InRename, Renamed, stage, fate, fetches, fetching, is, is_in_flight}
use Rattle.smt_model.specs.Fates.{is_counted}
use Rattle.smt_model.specs.Flights.{numbers, added, all_numbers, in_rename, flight, queue}
use Rattle.smt_model.proofs.{Lists.filter-same, Lists.filter-append, Fates.Moves.fate_at, Fates.Moves.fetch_number}
use Rattle.smt_model.proofs.{Fates.Moves.fetch_was, Fates.Sound.sound}
use Rattle.smt_laws.proofs.Registers.Committing.{committed-kept}
use Rattle.smt_laws.proofs.{Registers.Committing.committer-Fetch, Fates.Choosing.fetch_chosen}
use Rattle.smt_laws.proofs.{Events.Freeing.free-same, Events.Freeing.keeps_readings, Events.Harts.IsElsewhere}
use Rattle.smt_laws.proofs.Events.Harts.{elsewhere, claims-calm}
use Rattle.smt_model.proofs.Fates.Numbers.{is_of-below, fetching-none, fetching-kept, numbers-of, all_numbers-below}
use Rattle.smt_laws.proofs.Events.Calm.{IsCalm, fate-other, calm-all_flights, writer-calm, mapped-kept, keeps_jobs}

grounded : (f : Fate) → stage f ≡ 0 → is_in_flight f ≡ false
grounded f was = grind (arith, nat_tests)

grounded-still : (past : List Event) (actor h n pc : ℕ) (word : Option ℕ) (predicted : ℕ) → stage (fate past n) ≡ 0
    → is_in_flight (fate (Fetch actor h n pc word predicted ∷ past) n) ≡ is_in_flight (fate past n)
grounded-still past actor h n pc word predicted was = grind (arith, nat_tests)

pub own_fetched : (past : List Event) (actor h n pc : ℕ) (word : Option ℕ) (predicted : ℕ)
    → fetching (Fetch actor h n pc word predicted ∷ past) n ≡ Some
    (record { hart = h; pc = pc; word = word; predicted = predicted })
own_fetched past actor h n pc word predicted = let same : (n == n) ≡ true = grind (arith, nat_tests) in rw same refl

fetched_fate : (setup : Setup) (past : List Event) → is_legal setup past
    → (actor h n pc : ℕ) (word : Option ℕ) (predicted : ℕ)
    → refused setup past (Fetch actor h n pc word predicted) ≡ None
    → fate (Fetch actor h n pc word predicted ∷ past) n ≡ InDecode
fetched_fate setup past legal actor h n pc word predicted ok =
    let was = fetch_was setup past (sound setup past legal) actor h n pc word predicted ok in
    fate_at (fate (Fetch actor h n pc word predicted ∷ past) n) InDecode (grind (arith, nat_tests))

other_pc : (setup : Setup) (past : List Event) (actor h n pc : ℕ) (word : Option ℕ) (predicted g : ℕ) → g ≢ h
    → fetch_pc setup (Fetch actor h n pc word predicted ∷ past) g ≡ fetch_pc setup past g
other_pc setup past actor h n pc word predicted g other =
    let apart : (h == g) ≡ false = grind (arith, nat_tests) in rw apart refl

true_false : true ≢ false
true_false same = grind arith

away : (setup : Setup) (past : List Event) → is_legal setup past → (actor h n pc : ℕ) (word : Option ℕ) (predicted : ℕ)
    → refused setup past (Fetch actor h n pc word predicted) ≡ None → (g : ℕ) → g ≢ h
    → IsElsewhere past (Fetch actor h n pc word predicted) g
away setup past legal actor h n pc word predicted ok g other =
    let apart : (h == g) ≡ false = grind (arith, nat_tests) in
    let given = fetch_number setup past actor h n pc word predicted ok in
    record {
      calm = λ s. refl;
      adds_none = rw apart refl;
      not_of = ap (λ o. holds_of (λ f. f.hart == g) o) (fetching-none setup past legal n (omega arith));
    }

queue-Fetch : (setup : Setup) (past : List Event) → is_legal setup past
    → (actor h n pc : ℕ) (word : Option ℕ) (predicted : ℕ)
    → refused setup past (Fetch actor h n pc word predicted) ≡ None
    → queue (Fetch actor h n pc word predicted ∷ past) ≡ queue past
queue-Fetch setup past legal actor h n pc word predicted ok =
    let e = Fetch actor h n pc word predicted in
    let given = fetch_number setup past actor h n pc word predicted ok in
    let now = fetched_fate setup past legal actor h n pc word predicted ok in
    filter-append (λ s. is (fate (e ∷ past) s) Renamed) (all_numbers past) (n ∷ [])
    ∙ (ap (λ f. filter (λ s. is (fate (e ∷ past) s) Renamed) (all_numbers past)
    ++ (if is f Renamed then n ∷ [] else [])) now
    ∙ (append-nil (filter (λ s. is (fate (e ∷ past) s) Renamed) (all_numbers past))
    ∙ filter-same (λ s. is (fate (e ∷ past) s) Renamed) (λ s. is (fate past s) Renamed) (all_numbers past) (λ s m.
    let under = all_numbers-below setup past legal s m in
    ap (λ f. is f Renamed) (fate-other e past s (λ same. absurd (omega arith)) refl))))

-- A place of the hart with the new instruction behind it.
pub place-Fetch : (setup : Setup) (past : List Event) → is_legal setup past
    → (actor h n pc : ℕ) (word : Option ℕ) (predicted : ℕ)
    → refused setup past (Fetch actor h n pc word predicted) ≡ None → (test : Fate → Bool)
    → filter (λ s. test (fate (Fetch actor h n pc word predicted ∷ past) s))
    (numbers (Fetch actor h n pc word predicted ∷ past) h)
    ≡ filter (λ s. test (fate past s)) (numbers past h) ++ (if test InDecode then n ∷ [] else [])
place-Fetch setup past legal actor h n pc word predicted ok test =
    let e = Fetch actor h n pc word predicted in
    let given = fetch_number setup past actor h n pc word predicted ok in
    let mine : added e h ≡ n ∷ [] = (let same : (h == h) ≡ true = grind (arith, nat_tests) in rw same refl) in
    let now = fetched_fate setup past legal actor h n pc word predicted ok in
    ap (λ xs. filter (λ s. test (fate (e ∷ past) s)) (numbers past h ++ xs)) mine
    ∙ (filter-append (λ s. test (fate (e ∷ past) s)) (numbers past h) (n ∷ [])
    ∙ (ap (λ xs. xs ++ filter (λ s. test (fate (e ∷ past) s)) (n ∷ []))
    (filter-same (λ s. test (fate (e ∷ past) s)) (λ s. test (fate past s)) (numbers past h) (λ s m.
    let under = is_of-below setup past legal h s (numbers-of setup past legal h s m) in
    ap test (fate-other e past s (λ same. absurd (omega arith)) refl)))
    ∙ ap (λ f. filter (λ s. test (fate past s)) (numbers past h) ++ (if test f then n ∷ [] else [])) now))

kept-Fetch : (setup : Setup) (past : List Event) → is_legal setup past → (e : Event) → refused setup past e ≡ None
    → KeepsFetched (picture setup past) (picture setup (e ∷ past))
kept-Fetch setup past legal e ok s f at =
    elim (cases_lt s (fetches past)) [
      | inl under ↦ fetching-kept setup past legal e ok s under ∙ at
      | inr above ↦ let none = fetching-none setup past legal s above in absurd (grind arith)
    ]

pub steps-Fetch : (setup : Setup) (past : List Event) → is_legal setup past
    → (actor h n pc : ℕ) (word : Option ℕ) (predicted : ℕ)
    → refused setup past (Fetch actor h n pc word predicted) ≡ None
    → IsFetch (picture setup past) (picture setup (Fetch actor h n pc word predicted ∷ past)) n
    (record { hart = h; pc = pc; word = word; predicted = predicted })
steps-Fetch setup past legal actor h n pc word predicted ok =
    let e = Fetch actor h n pc word predicted in
    let calm : IsCalm past e = λ s. refl in
    let was = fetch_was setup past (sound setup past legal) actor h n pc word predicted ok in
    let commits = committer-Fetch setup past legal actor h n pc word predicted ok in
    let writes_same : (g r : ℕ) → writer (e ∷ past) g r ≡ writer past g r =
    λ g r. writer-calm setup past legal e ok calm refl g r (λ mine late. absurd (omega arith)) in
    let commits_same : (g r : ℕ) → committed (e ∷ past) g r ≡ committed past g r =
    λ g r. committed-kept setup past legal e ok g r (commits g r) in
    record {
      number = fetch_number setup past actor h n pc word predicted ok;
      going = (fetch_chosen setup past actor h n pc word predicted ok).going;
      fetched = own_fetched past actor h n pc word predicted;
      in_decode = place-Fetch setup past legal actor h n pc word predicted ok (λ f. is f InDecode);
      icount = ap length (place-Fetch setup past legal actor h n pc word predicted ok is_counted)
          ∙ length_push (filter (λ s. is_counted (fate past s)) (numbers past h)) n;
      fetch_pc = (let same : (h == h) ≡ true = grind (arith, nat_tests) in rw same refl);
      fetches = omega arith;
      last_fetched = refl;
      flights = calm-all_flights setup e past calm (grounded (fate past n) was);
      stays = record {
        hart = record {
          in_decode = tt;
          in_rename = place-Fetch setup past legal actor h n pc word predicted ok (λ f. is f InRename)
              ∙ append-nil (in_rename past h);
          flight =
              place-Fetch setup past legal actor h n pc word predicted ok is_in_flight ∙ append-nil (flight past h);
          icount = tt;
          mapped = λ r low high. mapped-kept setup past legal e ok h r (writes_same h r);
          committed = λ r low high. commits_same h r;
          fetch_pc = tt;
          status = refl;
        };
        others = λ g other.
            elsewhere setup past legal e ok g (away setup past legal actor h n pc word predicted ok g other)
            (λ r. mapped-kept setup past legal e ok g r (writes_same g r)) (commits_same g)
            (other_pc setup past actor h n pc word predicted g other) refl;
        shared = record {
          kept = kept-Fetch setup past legal e ok;
          operands = keeps_jobs setup past legal e ok;
          queue = queue-Fetch setup past legal actor h n pc word predicted ok;
          free = free-same setup past (e ∷ past) legal (ok, legal)
              (claims-calm setup past e ok calm (grounded-still past actor h n pc word predicted was) commits_same);
          values = λ x claimed. refl;
          readings = keeps_readings setup past legal e ok (λ x. refl);
          job = λ k. refl;
          fetches = tt;
          records = refl;
          output = refl;
          memory = record { byte = λ addr. refl; reserved = λ g. refl; touched = λ s. refl; looks = refl };
        };
      };
    }
