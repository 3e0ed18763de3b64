-- What is told of a trace that is refused, put together.
use Rattle.std.specs.Prelude.{◌≡◌, ◌⊎◌, ℕ, ◌+◌, Bool, true, false, List, [], Option, length, reverse, slice_index_or}
use Rattle.std.proofs.Common.{refl, sym, subst, ◌∙◌}
use Rattle.std.proofs.lemmas.Bool.{false≢true}
use mathlib.Core.Logic.{inl, inr}
use Rattle.elf_image.specs.Image.{ProgramImage}
use Rattle.events.specs.{declared.event.Event.Event}
use Rattle.event_text.specs.{Contents.TraceContent, Heads.head_count}
use Rattle.smt_model.specs.Setup.{Setup, is_accepted}
use Rattle.core_state.specs.View.{CoreView}
use Rattle.smt_core.specs.Shown.{Shown}
use Rattle.history_check.specs.Checking.{IsFirstBroken, IsStoppedAt, past_at}
use Rattle.history_check.specs.declared.checking.Stopped.{Stopped}
use Rattle.refused_traces.specs.Why.{IsWhy}
use Rattle.refused_traces.specs.declared.explaining.Place.{Place}
use Rattle.text_fields.specs.Printing.{Prints}
use Rattle.sim_inputs.specs.declared.settings.Settings.{Settings}
use Rattle.command_parts.specs.declared.refused.Refused.{Refused}
use Rattle.command_parts.specs.declared.refused.Refused.TheVariants.{Output}
use Rattle.core_commands.specs.Check.{AreHistory, IsCheckRefusal, IsTraceOf, OfEvents, setup_by}
use Rattle.core_commands.specs.Told.{IsCheckRefusalWith, IsEventOfTextTold, IsEventTold, IsJudged, IsOfTrace, IsTold}
use Rattle.core_commands.specs.Told.{IsToldOn, WhereTold}

-- A core that has stopped at this place, by this rule, is one of which that is told.
pub event_told : (setup : Setup) (trace : TraceContent) (stopped : Stopped) (e d : Event) (index rule : ℕ)
    (why : List ℕ) → IsStoppedAt setup trace.events stopped → stopped.index ≡ index → stopped.rule ≡ rule
    → slice_index_or trace.events index d ≡ e
    → IsWhy stopped.core e (record { index = index; line = index + head_count trace.head + 1; rule = rule }) why
    → IsEventTold setup trace index rule why
event_told setup trace stopped e d index rule why at same_index same_rule there told =
    let first =
    subst (λ r. IsFirstBroken setup trace.events index r) same_rule
    (subst (λ n. IsFirstBroken setup trace.events n stopped.rule) same_index at.first) in
    let core =
    subst
    (λ n. stopped.core ≡ record { setup = setup; limit = length trace.events; past = past_at trace.events n })
    same_index at.core in
    let place : Place = record { index = index; line = index + head_count trace.head + 1; rule = rule } in
    record {
      broken = first;
      told =
          subst
          (λ (one : Event). IsWhy
          (record { setup = setup; limit = length trace.events; past = past_at trace.events index }) one place why)
          (sym there ∙ first.there d)
          (subst (λ (u : CoreView). IsWhy u e place why) core told);
    }

-- So it is of a text that is that trace.
pub text_told : (settings : Settings) (image : ProgramImage) (text : List ℕ) (trace : TraceContent) (index rule : ℕ)
    (why : List ℕ) → IsTraceOf text trace
    → WhereTold (IsEventTold (setup_by settings image trace.head) trace index rule) why
    → WhereTold (IsEventOfTextTold settings image text index rule) why
text_told settings image text trace index rule why is (inl nothing) = inl nothing
text_told settings image text trace index rule why is (inr told) =
    inr (record { trace = trace; is_trace = is; told = told })

-- The refusal of a trace, or of what takes what is told of it.
pub refused_with : (wanted : Bool) (settings : Settings) (image : ProgramImage) (trace : List ℕ)
    (reason given : Refused) → IsCheckRefusal settings image trace reason
    → (given ≡ reason) ⊎ ((wanted ≡ true) × (given ≡ Output)) → IsCheckRefusalWith wanted settings image trace given
refused_with wanted settings image trace reason given is (inl same) =
    inr (subst (IsCheckRefusal settings image trace) (sym same) is)
refused_with wanted settings image trace reason given is (inr taken) = inl taken

-- Nothing is told where it isn't wanted, nor of the output.
pub unwanted : (settings : Settings) (image : ProgramImage) (trace : List ℕ) (old new : Option (List ℕ))
    (reason : Refused) (wanted : Bool) → wanted ≡ false → IsToldOn wanted settings image trace old new reason
unwanted settings image trace old new reason wanted isnt = λ is of. absurd (false≢true (sym isnt ∙ is))

pub untold_output : (settings : Settings) (image : ProgramImage) (trace : List ℕ) (old new : Option (List ℕ))
    (wanted : Bool) → IsToldOn wanted settings image trace old new Output
untold_output settings image trace old new wanted = λ is of. absurd of

-- A core that has followed a trace's events: they are its history.
pub judged_history : (settings : Settings) (image : ProgramImage) (text : List ℕ) (core : CoreView)
    → IsJudged settings image text core → OfEvents settings image text AreHistory
judged_history settings image text core judged = (
  judged.trace,
  judged.is_trace,
  (
    subst (λ (u : CoreView). is_accepted u.setup u.limit ≡ true) judged.whole judged.accepted,
    (subst Shown judged.whole judged.shown).legal,
  ),
)
