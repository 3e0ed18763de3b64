-- The events of a core, the oldest first, are a legal history.
use Rattle.std.specs.Prelude.{◌≡◌, List, reverse}
use Rattle.std.proofs.Common.{◌∙◌, sym, ap, subst}
use Rattle.events.specs.declared.event.Event.{Event}
use Rattle.smt_model.specs.Rules.{is_legal}
use Rattle.core_state.specs.View.{CoreView}
use Rattle.chart_rows.specs.Rows.{AreHistory}

pub history_in : (core : CoreView) (items events : List Event) → reverse items ≡ core.past
    → is_legal core.setup core.past → events ≡ items → AreHistory events
history_in core items events past legal same =
    (core.setup, subst (is_legal core.setup) (sym (ap reverse same ∙ past)) legal)
