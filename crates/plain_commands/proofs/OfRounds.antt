-- The command `plain` with `--rounds`: what it comes to from what rounds leave.
use Rattle.std.specs.Prelude.{◌≡◌, ℕ, Bool, true, false, List, Option, Some, None, Result, Err}
use Rattle.std.specs.Prelude.{◌↔◌}
use Rattle.std.proofs.Common.{refl, sym, ◌∙◌}
use Rattle.std.proofs.lemmas.List.{length-reverse}
use Rattle.std.proofs.lemmas.Bool.{cases_Bool}
use mathlib.Core.Logic.{inl, inr}
use Rattle.elf_image.specs.Image.{ProgramImage}
use Rattle.core_state.specs.Setup.{setup_of}
use Rattle.sc_machine.specs.Steps.{are_harts}
use Rattle.plain_run.specs.Orders.{OfEachSetup}
use Rattle.rounds.specs.declared.{rules.Rounds.Rounds, running.RoundsRun.RoundsRun}
use Rattle.rounds.specs.declared.stopped.RoundsStopped.{RoundsStopped}
use Rattle.rounds.specs.declared.stopped.RoundsStopped.TheVariants as stopped
use Rattle.rounds.specs.Rounds.{HasLeft}
use Rattle.sim_inputs.specs.declared.settings.Settings.{Settings}
use Rattle.address_labels.specs.Labels.{Marks}
use Rattle.text_fields.proofs.Appending.{appends_more}
use Rattle.plain_commands.specs.PlainRounds.{InRounds, IsRoundsRefusal, IsReported, RoundsComeTo, rounds_refusal}

-- ---- With rounds or without

pub from_rounds : (o : Option Rounds) (P : Rounds → Type 0) (Q R : Type 0) → ((rounds : Rounds) → P rounds → R)
    → (Q → R) → InRounds o P Q → R
from_rounds (Some rounds) P Q R first other is = first rounds is
from_rounds None P Q R first other is = other is

pub in_rounds : (o : Option Rounds) (P P2 : Rounds → Type 0) (Q Q2 : Type 0)
    → ((rounds : Rounds) → P rounds → P2 rounds) → (Q → Q2) → InRounds o P Q → InRounds o P2 Q2
in_rounds (Some rounds) P P2 Q Q2 first other is = first rounds is
in_rounds None P P2 Q Q2 first other is = other is

-- ---- What rounds leave

-- Harts that aren't refused are accepted.
pub accepted_harts : {A : Type 0} (answer : Result A RoundsStopped) (accepted : Bool) (other : Result A RoundsStopped)
    → (answer ≡ Err stopped.Harts) ↔ (accepted ≡ false) → answer ≡ other → (other ≡ Err stopped.Harts → ⊥)
    → accepted ≡ true
accepted_harts answer accepted other exact is differs =
    elim (cases_Bool accepted) [
      | inl accepts ↦ accepts
      | inr none ↦ absurd (differs (sym is ∙ exact.1 none))
    ]

pub refusal : {A : Type 0} (settings : Settings) (why : RoundsStopped) (answer : Result A RoundsStopped)
    → (answer ≡ Err stopped.Harts) ↔ (are_harts settings.config.harts ≡ false) → answer ≡ Err why
    → IsRoundsRefusal settings (rounds_refusal why)
refusal settings stopped.Harts answer exact is = exact.0 is
refusal settings stopped.Memory answer exact is = tt
refusal settings stopped.Output answer exact is =
    accepted_harts answer (are_harts settings.config.harts) (Err stopped.Output) exact is (λ same. absurd (cc))

pub comes_to : (settings : Settings) (image : ProgramImage) (rounds : Rounds) (with_records : Bool) (marks : Marks)
    (left : RoundsRun) (old mid new : Option (List ℕ)) (status : ℕ) → are_harts settings.config.harts ≡ true
    → OfEachSetup image settings.config.harts (λ setup. HasLeft setup rounds with_records marks old mid left)
    → IsReported left mid new status → RoundsComeTo settings image rounds with_records marks old new status
comes_to settings image rounds with_records marks left old mid new status accepted left_each reported =
    let has = left_each (setup_of image settings.config) refl refl in
    record {
      accepted = accepted;
      turns = has.turns;
      ran = has.ran;
      are = has.are;
      printed = appends_more old mid new _ _ has.printed
          (rw (has.retired ∙ sym (length-reverse has.ran.records), has.statuses, has.agrees.output)
          at reported.printed);
      stands = rw has.statuses at reported.stands;
    }
