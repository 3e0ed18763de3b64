-- The command `run`: its refusals from those of the actors' run, and what it comes to.
use Rattle.std.specs.Prelude.{◌≡◌, ◌⊎◌, ◌↔◌, ℕ, true, false, List, Option, Result, Ok, Err}
use Rattle.std.proofs.{Common.refl, Common.sym, Common.subst, Common.◌∙◌, lemmas.Bool.cases_Bool}
use mathlib.Core.Logic.{inl, inr}
use Rattle.core_state.specs.{Setup.setup_of, View.CoreView}
use Rattle.smt_model.specs.Setup.{is_accepted}
use Rattle.smt_model.specs.declared.config.Config as configs
use Rattle.elf_image.specs.Image.{ProgramImage}
use Rattle.actors.specs.{Roles.HaveEveryRole, declared.refused.RunRefused.RunRefused}
use Rattle.actors.specs.declared.refused.RunRefused.TheVariants as refused
use Rattle.smt_core.specs.Shown.{Shown}
use Rattle.sim_inputs.specs.declared.settings.Settings.{Settings}
use Rattle.command_parts.specs.declared.refused.Refused.{Refused}
use Rattle.command_parts.specs.declared.refused.Refused.TheVariants.{Image, Memory, Output}
use Rattle.command_parts.specs.Refused.{AreAccepted}
use Rattle.address_labels.specs.Labels.{Marks}
use Rattle.core_commands.specs.{Account.IsReported, Account.idle_of, Wanted.Wants}
use Rattle.core_commands.specs.Run.{IsRunRefusal, RunTells, LackARole, run_refusal}

-- What a run's answer says of the sizes and of the roles.
apart : {F A : Type 0} (finished : F) (why : RunRefused) → Ok finished ≡ Err why → A
apart finished why same = cc

abbrev pub IsForSizes : {F : Type 0} → Result F RunRefused → ProgramImage → Settings → Type 0
IsForSizes r program settings =
    (r ≡ Err refused.Config) ↔ (is_accepted (setup_of program settings.config) settings.limit ≡ false)

abbrev pub IsForRoles : {F : Type 0} → Result F RunRefused → ProgramImage → Settings → Type 0
IsForRoles r program settings = (r ≡ Err refused.Roles)
    ↔ (is_accepted (setup_of program settings.config) settings.limit ≡ true)
    × (HaveEveryRole settings.config.roles.items → ⊥)

-- A configuration that is copied makes the same setup, and an answer of a run of the copy says this
-- of the settings.
pub same_setup : (program : ProgramImage) (config copy : configs.Config)
    → (copy.harts ≡ config.harts) × (copy.extra ≡ config.extra) × (copy.queue ≡ config.queue)
    → copy.roles.items ≡ config.roles.items → setup_of program copy ≡ setup_of program config
same_setup program config copy sizes roles = rw (sizes.0, sizes.1, sizes.2, roles) refl

pub for_sizes : {F : Type 0} (settings : Settings) (program : ProgramImage) (copy : configs.Config)
    (r : Result F RunRefused) → setup_of program copy ≡ setup_of program settings.config
    → ((r ≡ Err refused.Config) ↔ (is_accepted (setup_of program copy) settings.limit ≡ false))
    → IsForSizes r program settings
for_sizes settings program copy r same is =
    subst (λ setup. (r ≡ Err refused.Config) ↔ (is_accepted setup settings.limit ≡ false)) same is

pub for_roles : {F : Type 0} (settings : Settings) (program : ProgramImage) (copy : configs.Config)
    (r : Result F RunRefused) → setup_of program copy ≡ setup_of program settings.config
    → copy.roles.items ≡ settings.config.roles.items
    → ((r ≡ Err refused.Roles) ↔ (is_accepted (setup_of program copy) settings.limit ≡ true)
    × (HaveEveryRole copy.roles.items → ⊥))
    → IsForRoles r program settings
for_roles settings program copy r same roles is =
    subst
    (λ listed. (r ≡ Err refused.Roles) ↔ (is_accepted (setup_of program settings.config) settings.limit ≡ true)
    × (HaveEveryRole listed → ⊥)) roles
    (subst
    (λ setup. (r ≡ Err refused.Roles) ↔ (is_accepted setup settings.limit ≡ true)
    × (HaveEveryRole copy.roles.items → ⊥)) same is)

pub are_accepted : {F : Type 0} (settings : Settings) (program : ProgramImage) (finished : F)
    (r : Result F RunRefused) → r ≡ Ok finished → IsForSizes r program settings → AreAccepted settings
are_accepted settings program finished r is sizes =
    λ image. elim (cases_Bool (is_accepted (setup_of program settings.config) settings.limit)) [
      | inl accepted ↦ accepted
      | inr unfit ↦ apart finished refused.Config (sym is ∙ sizes.1 unfit)
    ]

pub are_manned : {F : Type 0} (settings : Settings) (program : ProgramImage) (finished : F)
    (r : Result F RunRefused) → r ≡ Ok finished → IsForSizes r program settings → IsForRoles r program settings
    → LackARole settings → ⊥
are_manned settings program finished r is sizes roles lacks =
    apart finished refused.Roles (sym is ∙ roles.1 (are_accepted settings program finished r is sizes program, lacks))

-- What is refused where the actors' run is.
pub ran_refusal : {F : Type 0} (settings : Settings) (program : ProgramImage) (r : Result F RunRefused)
    (why : RunRefused) → r ≡ Err why → IsForSizes r program settings → IsForRoles r program settings
    → IsRunRefusal settings (run_refusal why)
ran_refusal settings program r refused.Config is sizes roles = inl (λ image. sizes.0 is)
ran_refusal settings program r refused.Roles is sizes roles =
    inr ((λ image. (roles.0 is).0), (roles.0 is).1)
ran_refusal settings program r refused.Memory is sizes roles = tt
ran_refusal settings program r refused.Thread is sizes roles = tt

-- Behind a run, the report is refused for memory or by the output.
pub report_refusal : (settings : Settings) (reason : Refused) → AreAccepted settings → (LackARole settings → ⊥)
    → (reason ≡ Memory) ⊎ (reason ≡ Output) → IsRunRefusal settings reason
report_refusal settings reason accepted manned (inl same) = subst (IsRunRefusal settings) (sym same) tt
report_refusal settings reason accepted manned (inr same) =
    subst (IsRunRefusal settings) (sym same) (accepted, manned)

-- An image is none of what is refused behind it.
pub never_image : (settings : Settings) (number : ℕ) → IsRunRefusal settings (Image number) → ⊥
never_image settings number is = is

pub tells : (settings : Settings) (image : ProgramImage) (wanted : Wants) (marks : Marks) (core : CoreView)
    (idle told : List ℕ) (Traced : CoreView → Type 0) (old new : Option (List ℕ)) (exit_status : ℕ)
    → AreAccepted settings → (LackARole settings → ⊥)
    → core.setup ≡ setup_of image settings.config → core.limit ≡ settings.limit → Shown core
    → Traced core → IsReported core (idle_of core idle) wanted marks old new exit_status → idle ≡ told
    → RunTells settings image wanted marks Traced old new told exit_status
tells settings image wanted marks core idle told Traced old new exit_status accepted manned setup limit shown traced
    reported are = (
      record {
        accepted = accepted;
        manned = manned;
        core = core;
        setup = setup;
        limit = limit;
        shown = shown;
        traced = traced;
        idle = idle;
        printed = reported.printed;
        harts = reported.harts;
      },
      are,
    )
