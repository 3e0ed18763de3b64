-- The command `check`: its refusals from those of the trace and of its events, and what it comes to.
use Rattle.std.specs.Prelude.{◌≡◌, ◌⊎◌, ℕ, true, List, [], Option, length, reverse}
use Rattle.std.proofs.Common.{refl, sym, subst}
use mathlib.Core.Logic.{inl, inr}
use Rattle.elf_image.specs.Image.{ProgramImage}
use Rattle.event_text.specs.{Contents.TraceContent}
use Rattle.smt_model.specs.Setup.{is_accepted}
use Rattle.core_state.specs.{View.CoreView}
use Rattle.smt_core.specs.Shown.{Shown}
use Rattle.sim_inputs.specs.declared.settings.Settings.{Settings}
use Rattle.command_parts.specs.declared.refused.Refused.{Refused}
use Rattle.command_parts.specs.declared.refused.Refused.TheVariants.{Memory, Output}
use Rattle.address_labels.specs.Labels.{Marks}
use Rattle.core_commands.specs.{Account.IsReported, Wanted.Wants}
use Rattle.core_commands.specs.Check.{IsCheckRefusal, IsTraceOf, setup_by}
use Rattle.core_commands.specs.Check.{CheckComesTo}
use Rattle.core_commands.specs.Told.{IsOfTrace}

-- The core that has followed the events of a trace, as the definitions have it.
abbrev pub following : Settings → ProgramImage → TraceContent → CoreView
following settings image read = record {
  setup = setup_by settings image read.head;
  limit = length read.events;
  past = reverse read.events;
}

output_refusal : (settings : Settings) (image : ProgramImage) (trace : List ℕ) (read : TraceContent)
    (core : CoreView) (reason : Refused) → IsTraceOf trace read
    → core ≡ following settings image read → is_accepted core.setup core.limit ≡ true → Shown core
    → reason ≡ Output → IsCheckRefusal settings image trace reason
output_refusal settings image trace read core reason is_trace is_core accepted shown output =
    subst (IsCheckRefusal settings image trace) (sym output) (
      read,
      is_trace,
      (
        subst (λ (u : CoreView). is_accepted u.setup u.limit ≡ true) is_core accepted,
        (subst Shown is_core shown).legal,
      ),
    )

-- Behind a history that is accepted, the report is refused for memory or by the output.
pub report_refusal : (settings : Settings) (image : ProgramImage) (trace : List ℕ) (read : TraceContent)
    (core : CoreView) (reason : Refused) → IsTraceOf trace read
    → core ≡ following settings image read → is_accepted core.setup core.limit ≡ true → Shown core
    → (reason ≡ Memory) ⊎ (reason ≡ Output) → IsCheckRefusal settings image trace reason
report_refusal settings image trace read core reason is_trace is accepted shown (inl memory) =
    subst (IsCheckRefusal settings image trace) (sym memory) tt
report_refusal settings image trace read core reason is_trace is accepted shown (inr output) =
    output_refusal settings image trace read core reason is_trace is accepted shown output

-- It is none of a trace, of which more would be told.
pub report_untold : (reason : Refused) → (reason ≡ Memory) ⊎ (reason ≡ Output) → IsOfTrace reason → ⊥
report_untold reason (inl memory) of = subst IsOfTrace memory of
report_untold reason (inr output) of = subst IsOfTrace output of

pub comes_to : (settings : Settings) (image : ProgramImage) (trace : List ℕ) (wanted : Wants) (marks : Marks)
    (read : TraceContent) (core : CoreView) (old new : Option (List ℕ)) (exit_status : ℕ)
    → IsTraceOf trace read → core ≡ following settings image read
    → is_accepted core.setup core.limit ≡ true → Shown core → IsReported core [] wanted marks old new exit_status
    → CheckComesTo settings image trace wanted marks old new exit_status
comes_to settings image trace wanted marks read core old new exit_status is_trace is_core accepted shown reported =
    let report = subst (λ (u : CoreView). IsReported u [] wanted marks old new exit_status) is_core reported in
    record {
      read = read;
      is_trace = is_trace;
      core = following settings image read;
      setup = refl;
      limit = refl;
      past = refl;
      accepted = subst (λ (u : CoreView). is_accepted u.setup u.limit ≡ true) is_core accepted;
      shown = subst Shown is_core shown;
      printed = report.printed;
      harts = report.harts;
    }
