-- No word of a schedule issues alone.
use Rattle.std.specs.Prelude.{ℕ, Bool, true, false, List, [], ◌∷◌, ◌++◌, Option, Some, None}
use Rattle.scripts.specs.{declared.actions.ScriptWord.ScriptWord, Lines.words_in}
use Rattle.schedules.specs.{declared.units.Units.Units, Asks.HasNoIssue}
use Rattle.smt_model.specs.declared.turn.Turn.{Turn}
use Rattle.schedules.specs.Turns.{unit_words, fetch_words, turn_words, turn_lines, schedule_lines}

both : (xs ys : List ScriptWord) → HasNoIssue xs → HasNoIssue ys → HasNoIssue (xs ++ ys)
both [] ys one two = two
both (x ∷ xs) ys one two = (one.0, both xs ys one.1 two)

of_unit : (unit : Option ℕ) → HasNoIssue (unit_words unit)
of_unit None = tt
of_unit (Some actor) = (tt, tt)

of_fetch : (fetches : Bool) → HasNoIssue (fetch_words fetches)
of_fetch true = (tt, tt)
of_fetch false = tt

of_turn : (units : Units) (t : Turn) → HasNoIssue (turn_words units t)
of_turn units t =
    let mem = both (unit_words units.mem) _ (of_unit units.mem) (tt, of_fetch t.fetches) in
    let mul = both (unit_words units.mul) _ (of_unit units.mul) mem in
    (tt, (tt, both (unit_words units.alu) _ (of_unit units.alu) mul))

of_turns : (units : Units) (turns : List Turn) → HasNoIssue (words_in (turn_lines units turns))
of_turns units [] = tt
of_turns units (t ∷ turns) =
    both (turn_words units t) (words_in (turn_lines units turns)) (of_turn units t) (of_turns units turns)

pub by_units : (harts : ℕ) (units : Units) (turns : List Turn)
    → HasNoIssue (words_in (schedule_lines harts units turns))
by_units harts units turns = (tt, of_turns units turns)
