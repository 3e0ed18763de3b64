-- What the rows of a history say of its instructions.
use Rattle.std.specs.Prelude.{◌≡◌, ℕ, ◌<◌, false, List, length, reverse, None, is_some, option_and_then, slice_get}
use Rattle.std.specs.Prelude.{Some, Option}
use Rattle.std.proofs.Common.{get_or, refl, sym, ap, ◌∙◌}
use Rattle.std.proofs.lemmas.List.{reverse-reverse}
use Rattle.events.specs.{declared.event.Event.Event}
use Rattle.smt_model.specs.{Basics.how_many, Basics.holds_of, Nexts.redirect_pc, Fates.Fetched, Fates.fetching}
use Rattle.smt_model.specs.Fates.{mispredicts, completion}
use Rattle.chart_rows.specs.{declared.row.Row.Row, Rows.AreRows, Rows.IsRow}
use Rattle.history_counts.specs.declared.instructions.Reason.{Reason}
use Rattle.history_counts.specs.Numbers.{mispredictions, replays, squashed_for, squashes_for, is_mispredicted}
use Rattle.history_counts.specs.Numbers.{is_squashed_for}
use Rattle.history_counts.specs.OfRows.{is_mispredicted_row, is_replayed_row, is_squashed_row, goes_elsewhere}
use Rattle.history_counts.proofs.Listing.{how_many-rows}
use Rattle.history_counts.proofs.Places.{completed_is, squasher_is}

-- Stands where there is no row.
abbrev no_row : Row
no_row = record {
  hart = 0;
  pc = 0;
  word = None;
  predicted = 0;
  fetched = 0;
  decoded = None;
  renamed = None;
  issued = None;
  completed = None;
  dropped = None;
  retired = None;
  refetched = None;
  squashed = None;
  value = None;
  replayed = false;
}

-- What was predicted is what the row says.
predicts_as : (past : List Event) (s : ℕ) (f : Fetched) → fetching past s ≡ Some f
    → holds_of (λ o. is_some (redirect_pc o.next f.predicted)) (completion past s) ≡ is_mispredicted past s
unfolding mispredicts
predicts_as past s f is = rw is refl

mispredicted_row : (past : List Event) (s : ℕ) (row : Row) → IsRow past s row
    → is_mispredicted_row (reverse past) row ≡ is_mispredicted past s
mispredicted_row past s row is =
    ap (λ o. holds_of (goes_elsewhere row.predicted) (option_and_then (slice_get (reverse past)) o)) (sym is.completed)
    ∙ completed_is row.predicted past s
    ∙ predicts_as past s _ is.instruction

squashed_row : (reason : Reason) (past : List Event) (s : ℕ) (row : Row) → IsRow past s row
    → is_squashed_row reason (reverse past) row ≡ is_squashed_for reason past s
squashed_row reason past s row is =
    ap (λ o. holds_of (squashes_for reason) (option_and_then (λ q. slice_get (reverse past) q.place) o)) (sym is.squashed)
    ∙ ap (holds_of (squashes_for reason)) (sym (squasher_is past s))

module _ (past : List Event) (rows : List Row) (are : AreRows past rows) where
  of_mispredicted : how_many (is_mispredicted_row (reverse past)) rows ≡ mispredictions past
  of_mispredicted =
      how_many-rows (is_mispredicted_row (reverse past)) (is_mispredicted past) rows no_row
      (λ s inside. mispredicted_row past s (get_or rows s no_row) (are.each s no_row inside)) _ are.count

  pub of_replayed : how_many is_replayed_row rows ≡ replays past
  of_replayed =
      how_many-rows is_replayed_row _ rows no_row
      (λ s inside. sym (are.each s no_row inside).replayed) _ are.count

  of_squashed : (reason : Reason) → how_many (is_squashed_row reason (reverse past)) rows ≡ squashed_for reason past
  of_squashed reason =
      how_many-rows (is_squashed_row reason (reverse past)) (is_squashed_for reason past) rows no_row
      (λ s inside. squashed_row reason past s (get_or rows s no_row) (are.each s no_row inside)) _ are.count

-- The same of events that stand in their order.
pub mispredicted_rows : (events : List Event) (rows : List Row) → AreRows (reverse events) rows
    → how_many (is_mispredicted_row events) rows ≡ mispredictions (reverse events)
mispredicted_rows events rows are =
    ap (λ es. how_many (is_mispredicted_row es) rows) (sym (reverse-reverse events))
    ∙ of_mispredicted (reverse events) rows are

pub squashed_rows : (reason : Reason) (events : List Event) (rows : List Row) → AreRows (reverse events) rows
    → how_many (is_squashed_row reason events) rows ≡ squashed_for reason (reverse events)
squashed_rows reason events rows are =
    ap (λ es. how_many (is_squashed_row reason es) rows) (sym (reverse-reverse events))
    ∙ of_squashed (reverse events) rows are reason
