-- The steps of an order of harts, one after another.
use Rattle.std.proofs.Common.{ℕ, List, [], ◌∷◌, ◌++◌, reverse, refl, ap, ◌∙◌}
use Rattle.std.proofs.lemmas.List.{reverse-append}
use Rattle.smt_model.specs.{Words.Record}
use Rattle.smt_model.specs.Plain.{advance, step}
use Rattle.sc_machine.specs.Machine.{Machine}
use Rattle.sc_machine.specs.Steps.{InEachRun, IsStep, Runs, run_on, GoesOnFromTheStart}

pub runs_more : (earlier : List ℕ) (h room : ℕ) (said : Record) (old mid new : Machine) → Runs (reverse earlier) old mid
    → InEachRun mid (λ setup before. IsStep setup room before h said new) → Runs (reverse (earlier ++ h ∷ [])) old new
runs_more earlier h room said old mid new ran made setup before agrees =
    let first = ran setup before agrees in
    let one = made setup first.after first.agrees in
    record {
      after = advance setup h first.after;
      runs = ap (λ order. run_on setup order before) (reverse-append earlier (h ∷ []))
          ∙ (ap (step setup h) first.runs ∙ one.made);
      agrees = one.agrees;
    }

pub from_start : GoesOnFromTheStart
from_start setup [] = refl
from_start setup (h ∷ order) = ap (step setup h) (from_start setup order)
