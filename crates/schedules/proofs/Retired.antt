-- What a core retires by a schedule.
use Rattle.std.specs.Prelude.{◌≡◌, ◌≤◌, ℕ, List, length, reverse}
use Rattle.std.proofs.Common.{sym, ap, subst, ◌∙◌, arith}
use Rattle.std.proofs.{lemmas.List.length-reverse, lemmas.List.reverse-reverse}
use Rattle.events.specs.declared.event.Event.{Event}
use Rattle.smt_model.specs.{Setup.Setup, Account.records, Account.order}
use Rattle.smt_laws.specs.Scripts.{HasReplied}
use Rattle.core_state.specs.View.{CoreView}
use Rattle.scripts.specs.Unambiguous.{ScriptsAreUnambiguous}
use Rattle.schedules.specs.{Asks.asks_of, Asks.HasNoIssue, Schedules.IsScheduleOf, Schedules.room_for}
use Rattle.schedules.specs.{Schedules.IsShownInTurns}
use Rattle.scripts.specs.Session.{AreAskedWith}
use Rattle.schedules.specs.Replies.{predictor_of, IsFunction, FillsNoMoreThanItsScript}
use Rattle.schedules.specs.Retiring.{RetiresOrder, SchedulesAreRetired, OfFunctions}

module _ {P : Type 0} (predicts : P → ℕ → ℕ → ℕ → ℕ → P → Type 0) (fills : FillsNoMoreThanItsScript predicts)
    (unambiguous : ScriptsAreUnambiguous) (guess : ℕ → ℕ → ℕ → ℕ) (function : IsFunction predicts guess)
    (setup : Setup) (limit : ℕ) (harts script : List ℕ) (is : IsScheduleOf setup limit harts script) where
  by_schedule : IsShownInTurns setup (predictor_of guess) (reverse harts) is.ran
  by_schedule = is.shown (predictor_of guess)

  short_enough : (past : List Event) → length past ≤ room_for setup (length (reverse harts))
      → length past ≤ room_for setup (length harts)
  short_enough past short = subst (λ n. length past ≤ room_for setup n) (length-reverse harts) short

  -- The history is the one that the schedule's definition names.
  has_history : (before after : P) (core : CoreView) (text : List ℕ) → core.setup ≡ setup → core.limit ≡ limit
      → AreAskedWith predicts before after script core text → (past : List Event)
      → HasReplied setup (predictor_of guess) (reverse (asks_of is.words)) past
      → length past ≤ room_for setup (length harts) → core.past ≡ past
  has_history before after core text own same made past replied short =
      let words = unambiguous script made.asked.words is.words made.asked.is_script is.is_script in
      let alone = subst HasNoIssue (sym words) is.by_units in
      let asks = subst (λ ws. HasReplied setup (predictor_of guess) (reverse (asks_of ws)) past) (sym words) replied in
      let here = subst (λ s. HasReplied s (predictor_of guess) (reverse (asks_of made.asked.words)) past) (sym own)
      asks in
      let room = is.room in
      fills guess function before after script core text made alone past here (omega (arith, short, room, same))

  by_history : (shown : IsShownInTurns setup (predictor_of guess) (reverse harts) is.ran) (past : List Event)
      → past ≡ shown.shown.past → RetiresOrder setup harts past
  by_history shown past same = record {
    ran = is.ran;
    runs = is.runs;
    retired = ap (λ p. reverse (records p)) same ∙ ap reverse shown.shown.retired;
    in_order = ap (λ p. reverse (order p)) same ∙ (ap reverse shown.shown.in_order ∙ reverse-reverse harts);
    short = subst (λ p. length p ≤ room_for setup (length harts)) (sym same)
        (short_enough shown.shown.past shown.shown.short);
  }

  retired_by : (before after : P) (core : CoreView) (text : List ℕ) → core.setup ≡ setup → core.limit ≡ limit
      → AreAskedWith predicts before after script core text → RetiresOrder setup harts core.past
  retired_by before after core text own same made =
      let shown = by_schedule in
      by_history shown core.past
      (has_history before after core text own same made shown.shown.past
      (subst (λ asks. HasReplied setup (predictor_of guess) asks shown.shown.past) (sym is.asks) shown.replied)
      (short_enough shown.shown.past shown.shown.short))

pub retired : {P : Type 0} (predicts : P → ℕ → ℕ → ℕ → ℕ → P → Type 0) → FillsNoMoreThanItsScript predicts
    → ScriptsAreUnambiguous → OfFunctions predicts (SchedulesAreRetired predicts)
retired predicts fills unambiguous guess function setup limit harts script is before after core text own same made =
    retired_by predicts fills unambiguous guess function setup limit harts script is before after core text own same
    made
