-- What a decode changes: its hart's oldest in decode goes to the end of the rename latch.
use Rattle.std.specs.Prelude.{◌≡◌, ◌≢◌, ℕ, ◌<◌, Bool, true, List, [], ◌∷◌, ◌++◌, None}
use Rattle.std.specs.List.{filter}
use Rattle.std.proofs.Common.{◌∙◌, refl, sym, ap, inl, inr, arith}
use Rattle.std.proofs.{lemmas.Bool.cases_lt, lemmas.Bool.Decides.nat_tests, lemmas.List.append-nil}
use Rattle.events.specs.{declared.event.Event.Event, declared.event.Event.TheVariants.Decode}
use Rattle.smt_model.specs.{Setup.Setup, Flights.numbers, Flights.in_decode, Flights.in_rename, Registers.writer}
use Rattle.smt_model.specs.{Registers.committed, Rules.refused, Rules.is_legal, Picture.picture, Steps.IsDecode}
use Rattle.smt_model.specs.Fates.{Fate, InDecode, InRename, Renamed, fate, is, is_in_flight, is_of}
use Rattle.smt_model.proofs.{Lists.filter-loses-first, Lists.filter-gains-last, Fates.Moves.fate_at}
use Rattle.smt_model.proofs.Fates.Moves.{decode_was}
use Rattle.smt_laws.proofs.{Fates.Order.in_order, Registers.Committing.committed-kept}
use Rattle.smt_laws.proofs.{Registers.Committing.committer-Decode, Events.Freeing.free-same}
use Rattle.smt_laws.proofs.{Events.Freeing.keeps_readings, Events.Harts.claims-calm, Staying.others-calm}
use Rattle.smt_laws.proofs.Staying.{hart-calm}
use Rattle.smt_model.proofs.Allowed.{decode_allowed}
use Rattle.smt_model.proofs.Fates.Numbers.{first_of_hart, numbers-of, numbers-member, numbers-rise}
use Rattle.smt_laws.proofs.Events.Calm.{IsCalm, fate-other, calm-all_flights, queue-calm, writer-calm, mapped-kept}
use Rattle.smt_laws.proofs.Events.Calm.{keeps_jobs}

now-Decode : (setup : Setup) (past : List Event) (actor n : ℕ) → refused setup past (Decode actor n) ≡ None
    → fate (Decode actor n ∷ past) n ≡ InRename
now-Decode setup past actor n ok =
    let was =
    decode_was setup past actor n ok in fate_at (fate (Decode actor n ∷ past) n) InRename (grind (arith, nat_tests))

was-Decode : (setup : Setup) (past : List Event) (actor n : ℕ) → refused setup past (Decode actor n) ≡ None
    → fate past n ≡ InDecode
was-Decode setup past actor n ok = fate_at (fate past n) InDecode (decode_was setup past actor n ok)

own-Decode : (setup : Setup) (past : List Event) (actor n : ℕ) → refused setup past (Decode actor n) ≡ None
    → (test : Fate → Bool)
    → test InRename ≡ test InDecode → test (fate (Decode actor n ∷ past) n) ≡ test (fate past n)
own-Decode setup past actor n ok test same =
    ap test (now-Decode setup past actor n ok) ∙ (same ∙ ap test (sym (was-Decode setup past actor n ok)))

other-Decode : (past : List Event) (actor n s : ℕ) (test : Fate → Bool) → s ≢ n
    → test (fate (Decode actor n ∷ past) s) ≡ test (fate past s)
other-Decode past actor n s test other = ap test (fate-other (Decode actor n) past s (λ same. other (sym same)) refl)

-- The list of the hart's instructions is the same.
list-Decode : (past : List Event) (actor n h : ℕ) (test : Fate → Bool)
    → filter (λ s. test (fate (Decode actor n ∷ past) s)) (numbers (Decode actor n ∷ past) h)
    ≡ filter (λ s. test (fate (Decode actor n ∷ past) s)) (numbers past h)
list-Decode past actor n h test = ap (filter (λ s. test (fate (Decode actor n ∷ past) s))) (append-nil (numbers past h))

pub leaves-Decode : (setup : Setup) (past : List Event) → is_legal setup past → (actor n : ℕ)
    → refused setup past (Decode actor n) ≡ None → (h : ℕ)
    → is_of past h n ≡ true → in_decode past h ≡ n ∷ in_decode (Decode actor n ∷ past) h
leaves-Decode setup past legal actor n ok h of_n =
    filter-loses-first (λ s. is (fate past s) InDecode) (λ s. is (fate (Decode actor n ∷ past) s) InDecode) n
    (numbers past h)
    (numbers-rise setup past legal h)
    (first_of_hart past (in_decode past) h n of_n (decode_allowed setup past actor n ok).oldest)
    (ap (λ f. is f InDecode) (now-Decode setup past actor n ok))
    (λ x m other. other-Decode past actor n x (λ f. is f InDecode) other)
    ∙ ap (λ xs. n ∷ xs) (sym (list-Decode past actor n h (λ f. is f InDecode)))

-- All that are further along are older.
older-Decode : (setup : Setup) (past : List Event) → is_legal setup past → (actor n : ℕ)
    → refused setup past (Decode actor n) ≡ None → (h x : ℕ)
    → is_of past h n ≡ true → is_of past h x ≡ true → is (fate past x) InRename ≡ true → x < n
older-Decode setup past legal actor n ok h x of_n of_x ahead =
    let was = decode_was setup past actor n ok in
    elim (cases_lt x n) [
      | inl under ↦ under
      | inr above ↦
          let other : n ≢ x = λ same. absurd (grind (arith, nat_tests)) in
          let order = in_order setup past legal h n x of_n of_x (omega arith) (grind (arith, nat_tests)) in
          absurd (grind (arith, nat_tests))
    ]

enters-Decode : (setup : Setup) (past : List Event) → is_legal setup past → (actor n : ℕ)
    → refused setup past (Decode actor n) ≡ None → (h : ℕ)
    → is_of past h n ≡ true → in_rename (Decode actor n ∷ past) h ≡ in_rename past h ++ n ∷ []
enters-Decode setup past legal actor n ok h of_n =
    list-Decode past actor n h (λ f. is f InRename)
    ∙ filter-gains-last (λ s. is (fate past s) InRename) (λ s. is (fate (Decode actor n ∷ past) s) InRename) n
    (numbers past h)
    (numbers-rise setup past legal h) (numbers-member setup past legal h n of_n)
    (ap (λ f. is f InRename) (was-Decode setup past actor n ok))
    (ap (λ f. is f InRename) (now-Decode setup past actor n ok))
    (λ x m other. other-Decode past actor n x (λ f. is f InRename) other)
    (λ x m ahead. older-Decode setup past legal actor n ok h x of_n (numbers-of setup past legal h x m) ahead)

pub steps-Decode : (setup : Setup) (past : List Event) → is_legal setup past → (actor n : ℕ)
    → refused setup past (Decode actor n) ≡ None
    → (h : ℕ) → is_of past h n ≡ true → IsDecode (picture setup past) (picture setup (Decode actor n ∷ past)) h n
steps-Decode setup past legal actor n ok h of_n =
    let e = Decode actor n in
    let calm : IsCalm past e = λ s. refl in
    let was = decode_was setup past actor n ok in
    let commits = committer-Decode setup past legal actor n ok in
    let writes_same : (g r : ℕ) → writer (e ∷ past) g r ≡ writer past g r =
    λ g r. writer-calm setup past legal e ok calm refl g r (λ mine late. absurd (omega arith)) in
    let commits_same : (g r : ℕ) → committed (e ∷ past) g r ≡ committed past g r =
    λ g r. committed-kept setup past legal e ok g r (commits g r) in
    record {
      of_hart = of_n;
      in_decode = leaves-Decode setup past legal actor n ok h of_n;
      in_rename = enters-Decode setup past legal actor n ok h of_n;
      flights = calm-all_flights setup e past calm (ap is_in_flight (was-Decode setup past actor n ok));
      stays = record {
        hart = hart-calm setup past e calm h refl InDecode InRename (was-Decode setup past actor n ok)
            (now-Decode setup past actor n ok)
            tt tt refl refl
            (λ r low high. mapped-kept setup past legal e ok h r (writes_same h r))
            (λ r low high. commits_same h r) refl refl;
        others = others-calm setup past legal e ok calm (λ g. refl) h of_n writes_same commits_same (λ g other. refl)
            (λ g. refl);
        shared = record {
          kept = λ s f at. at;
          operands = keeps_jobs setup past legal e ok;
          queue = queue-calm e past calm refl (own-Decode setup past actor n ok (λ f. is f Renamed) refl);
          free = free-same setup past (e ∷ past) legal (ok, legal)
              (claims-calm setup past e ok calm (own-Decode setup past actor n ok is_in_flight refl) commits_same);
          values = λ x claimed. refl;
          readings = keeps_readings setup past legal e ok (λ x. refl);
          job = λ k. refl;
          fetches = record { fetched = λ s. refl; fetches = refl; last_fetched = refl };
          records = refl;
          output = refl;
          memory = record { byte = λ addr. refl; reserved = λ g. refl; touched = λ s. refl; looks = refl };
        };
      };
    }
