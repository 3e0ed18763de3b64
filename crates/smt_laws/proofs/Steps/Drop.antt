-- What a drop changes: its actor's job is done, and all else stays.
use Rattle.std.specs.Prelude.{◌≡◌, ℕ, Bool, ◌==◌, if◌then◌else◌, List, ◌∷◌, Option, None, length}
use Rattle.std.proofs.{Common.refl, Common.ap, Common.arith, lemmas.Bool.Decides.nat_tests, lemmas.List.append-nil}
use Rattle.std.specs.List.{filter}
use Rattle.events.specs.{declared.event.Event.Event, declared.event.Event.TheVariants.Drop}
use Rattle.smt_model.specs.{Setup.Setup, Flights.numbers, Flights.all_numbers, Rules.refused, Rules.is_legal, Jobs.job}
use Rattle.smt_model.specs.{Picture.picture, Steps.IsSameHart, Steps.IsDrop}
use Rattle.smt_model.specs.Fates.{Fate, InDecode, InRename, Renamed, fate, is, is_in_flight, is_counted}
use Rattle.smt_model.proofs.Fates.Moves.{drop_lent}
use Rattle.smt_laws.proofs.{Events.Calm.keeps_jobs, Events.Freeing.ClaimsTheSame}
use Rattle.smt_laws.proofs.Events.Freeing.{free-same, keeps_readings}

place-Drop : (past : List Event) (actor n : ℕ) (test : Fate → Bool) (h : ℕ)
    → filter (λ s. test (fate (Drop actor n ∷ past) s)) (numbers (Drop actor n ∷ past) h)
    ≡ filter (λ s. test (fate past s)) (numbers past h)
place-Drop past actor n test h = ap (filter (λ s. test (fate past s))) (append-nil (numbers past h))

hart-Drop : (setup : Setup) (past : List Event) (actor n g : ℕ)
    → IsSameHart (picture setup past) (picture setup (Drop actor n ∷ past)) g
hart-Drop setup past actor n g = record {
  in_decode = place-Drop past actor n (λ f. is f InDecode) g;
  in_rename = place-Drop past actor n (λ f. is f InRename) g;
  flight = place-Drop past actor n is_in_flight g;
  icount = ap length (place-Drop past actor n is_counted g);
  mapped = λ r low high. refl;
  committed = λ r low high. refl;
  fetch_pc = refl;
  status = refl;
}

-- The job of an actor whose job is done.
pub job_done : (k j : ℕ) (before : Option ℕ) → (if k == j then None else before) ≡ (if j == k then None else before)
job_done k j before = grind (arith, nat_tests)

pub steps-Drop : (setup : Setup) (past : List Event) → is_legal setup past → (actor n : ℕ)
    → refused setup past (Drop actor n) ≡ None
    → IsDrop (picture setup past) (picture setup (Drop actor n ∷ past)) n actor
steps-Drop setup past legal actor n ok =
    let same : ClaimsTheSame setup past (Drop actor n ∷ past) =
    record { flies = λ s. refl; names = λ s flies. refl; commits = λ h r is_register. refl } in
    record {
      lent = drop_lent setup past actor n ok;
      job = λ j. job_done actor j (job past j);
      flights = λ t flies. record { fate = refl; phys = refl; completion = refl };
      harts = λ g. hart-Drop setup past actor n g;
      shared = record {
        kept = λ s f at. at;
        operands = keeps_jobs setup past legal (Drop actor n) ok;
        queue = ap (filter (λ s. is (fate past s) Renamed)) (append-nil (all_numbers past));
        free = free-same setup past (Drop actor n ∷ past) legal (ok, legal) same;
        values = λ x claimed. refl;
        readings = keeps_readings setup past legal (Drop actor n) ok (λ x. refl);
        job = tt;
        fetches = record { fetched = λ s. refl; fetches = refl; last_fetched = refl };
        records = refl;
        output = refl;
        memory = record { byte = λ addr. refl; reserved = λ g. refl; touched = λ s. refl; looks = refl };
      };
    }
