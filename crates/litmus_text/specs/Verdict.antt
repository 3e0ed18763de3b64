-- What is said of all final states, in numbers: those of the text of the states. [herd's own form: Alglave, Maranget and
-- Tautschnig 2014, "Herding Cats"]
use Rattle.std.specs.Prelude.{List, length}
use Rattle.outcomes.specs.{Found.Told}
use Rattle.litmus_tests.specs.declared.test.LitmusTest.{LitmusTest}
use Rattle.litmus_tests.specs.Conditions.{holding, is_as_asked}
use Rattle.litmus_text.specs.States.{states_in, told_in}
use Rattle.litmus_text.specs.declared.verdict.StatesVerdict.{StatesVerdict}

abbrev pub verdict_of : LitmusTest → List Told → StatesVerdict
verdict_of test listed = record {
  held = holding (states_in test listed) test.condition;
  count = length (told_in test listed);
  is_as_asked = is_as_asked test.quantifier test.condition (states_in test listed);
}
