-- How the end of a run stands to a litmus test. (This project's own choice.)
use Rattle.std.specs.Prelude.{◌&&◌, not, Bool}
use Rattle.std.specs.List.{list_any}
use Rattle.smt_model.specs.Plain.{is_going_status}
use Rattle.watched_outcomes.specs.Endings.{Ending}
use Rattle.litmus_tests.specs.declared.test.LitmusTest.{LitmusTest}
use Rattle.litmus_tests.specs.Conditions.{holds}
use Rattle.litmus_images.specs.Watching.{final_state}
use Rattle.litmus_histograms.specs.declared.kinds.RunKind.{RunKind}
use Rattle.litmus_histograms.specs.declared.kinds.RunKind.TheVariants.{Held, Other, LeftOut, NotEnded}

-- No hart goes any more.
abbrev pub is_over : Ending → Bool
is_over end = not (list_any is_going_status end.statuses)

-- The test's filter holds of it, and its condition.
abbrev pub is_passed : LitmusTest → Ending → Bool
is_passed test end = holds (final_state test end) test.filter

abbrev pub is_held : LitmusTest → Ending → Bool
is_held test end = holds (final_state test end) test.condition

-- A run is of exactly one kind.
abbrev pub is_kind : LitmusTest → RunKind → Ending → Bool
is_kind test Held end = is_over end && (is_passed test end && is_held test end)
is_kind test Other end = is_over end && (is_passed test end && not (is_held test end))
is_kind test LeftOut end = is_over end && not (is_passed test end)
is_kind test NotEnded end = not (is_over end)
