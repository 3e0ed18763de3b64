-- The steps of an order, one after another, with their records.
use Rattle.std.proofs.Common.{◌≡◌, ℕ, ◌+◌, ◌≤◌, List, [], ◌∷◌, ◌++◌, Option, Some, None, map, reverse, refl, ap, sym, subst}
use Rattle.std.proofs.Common.{◌∙◌, arith}
use Rattle.std.specs.Prelude.{IfSome}
use native.Mathlib.Numerals.{unary_clauses}
use Rattle.std.proofs.lemmas.List.{map-append, reverse-append}
use Rattle.smt_model.specs.{Basics.below, Words.Record, Setup.Setup}
use Rattle.smt_model.specs.declared.config.Status.{Status}
use Rattle.smt_model.specs.Plain.{Plain, Run, start, record_at, advance, step, run}
use Rattle.events.specs.{Width.HasWidth, declared.effect.Written.Written}
use Rattle.smt_laws.specs.Writes.{bytes_of, WritesAWord}
use Rattle.sc_machine.specs.{Machine.Machine, Machine.Agrees, Steps.InEachRun, Steps.IsStep}

-- ---- The statuses of the harts

below_next : (n : ℕ) → below (n + 1) ≡ below n ++ n ∷ []
below_next n = simp unary_clauses refl

-- One more hart's status.
pub statuses_more : (s : Plain) (n : ℕ) (xs : List Status) (x : Status) → xs ≡ map s.statuses (below n)
    → x ≡ s.statuses n → xs ++ x ∷ [] ≡ map s.statuses (below (n + 1))
statuses_more s n xs x is one =
    ap (λ ys. ys ++ x ∷ []) is
    ∙ (ap (λ y. map s.statuses (below n) ++ y ∷ []) one
    ∙ (sym (map-append s.statuses (below n) (n ∷ [])) ∙ ap (map s.statuses) (sym (below_next n))))

-- ---- The steps

-- The definitions' machine makes these steps, with these records, and the machine agrees with where
-- that stands. Order and records have their oldest first.
pub record HasMade (setup : Setup) (order : List ℕ) (said : List Record) (m : Machine) : Type 0 where
  pub ran : Run
  pub runs : run setup (reverse order) ≡ Some ran
  pub records : said ≡ reverse ran.records
  pub agrees : Agrees setup ran.state m

pub made_none : (setup : Setup) (m : Machine) → Agrees setup (start setup) m → HasMade setup [] [] m
made_none setup m agrees =
    record { ran = record { records = []; state = start setup }; runs = refl; records = refl; agrees = agrees }

pub made_more : (setup : Setup) (order : List ℕ) (said : List Record) (h room : ℕ) (one : Record) (old new : Machine)
    → HasMade setup order said old → InEachRun old (λ setup before. IsStep setup room before h one new)
    → HasMade setup (order ++ h ∷ []) (said ++ one ∷ []) new
made_more setup order said h room one old new made steps =
    let now = steps setup made.ran made.agrees in
    record {
      ran = advance setup h made.ran;
      runs = ap (run setup) (reverse-append order (h ∷ [])) ∙ (ap (step setup h) made.runs ∙ now.made);
      records = ap (λ xs. xs ++ one ∷ []) made.records
          ∙ (ap (λ r. reverse made.ran.records ++ r ∷ []) now.said_is
          ∙ sym (reverse-append (record_at setup made.ran.state h ∷ []) made.ran.records));
      agrees = now.agrees;
    }
