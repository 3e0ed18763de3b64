use Rattle.std.proofs.Common.{◌≡◌, true, List, length}
use Rattle.litmus_words.specs.declared.word.Word.{Word}
use Rattle.litmus_reading.specs.Declarations.{begins}
use Rattle.litmus_reading.specs.Rows.{is_asking}
use Rattle.litmus_reading.specs.Texts.{IsTable}
use Rattle.litmus_reading.proofs.Tables.{RowsLeft}
use Rattle.litmus_reading.proofs.Wholes.{RowsBefore}
use Rattle.litmus_reading.proofs.rows.rows_of.Given as goal

-- what is left stands behind rows, and begins with those that are left
abbrev pub invariant-loop-row : goal.invariant-loop-row
invariant-loop-row l = record {
  before : RowsBefore l.harts l.words l.rest;
  left : (rows asked : List Word) → IsTable l.harts l.words rows asked
      → begins is_asking asked ≡ true → RowsLeft l.harts rows l.rest asked;
}

abbrev pub decreases-loop-row : goal.decreases-loop-row
decreases-loop-row l = length l.rest
