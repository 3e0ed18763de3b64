-- What is found of a program is found of the same program.
use Rattle.std.specs.Prelude.{◌≡◌, ℕ, true, false, Result, Ok, Err, IfOk, IfErr}
use Rattle.std.proofs.Common.{sym, subst, inl, inr, arith}
use Rattle.std.proofs.lemmas.Bool.{cases_Bool}
use Rattle.elf_image.specs.Image.{ProgramImage}
use Rattle.live_registers.specs.declared.targets.Targets.{Targets}
use Rattle.watched_outcomes.specs.declared.{watch.Watch.Watch}
use Rattle.outcomes.specs.declared.unfound.Unfound.{Unfound}
use Rattle.outcomes.specs.declared.unfound.Unfound.TheVariants.{Refused, Lacks}
use Rattle.outcomes.specs.{Refusals.IsRefusedFor, Passes.IsUnfoundFor, Passes.IsCutShort}

pub of_same : {A E : Type 0} → (P : ProgramImage → ℕ → A → Type 0) (i j : ProgramImage) (h k : ℕ) (r : Result A E)
    → i ≡ j → h ≡ k → IfOk r (P i h) → IfOk r (P j k)
of_same P i j h k r images harts is =
    subst (λ n. IfOk r (P j n)) harts (subst (λ z. IfOk r (P z h)) images is)

pub so_of_same : (P : ProgramImage → ℕ → Type 0) (i j : ProgramImage) (h k : ℕ) → i ≡ j → h ≡ k → P i h → P j k
so_of_same P i j h k images harts is = subst (P j) harts (subst (λ z. P z h) images is)

-- A search that is cut short finds none.
pub when_cut_short : (image : ProgramImage) (harts : ℕ) (watch : Watch) (own targets : Targets) (why : Unfound)
    → own ≡ targets → IsCutShort own why → IsUnfoundFor image harts watch targets why
when_cut_short image harts watch own targets (Refused why) same is = subst (IsRefusedFor image harts watch) (sym is) tt
when_cut_short image harts watch own targets (Lacks jump) same is =
    subst (λ (t : Targets). t.anywhere ≡ false) same is

-- A machine whose own targets allow all wherever those given do says of its own ones what is so of those given.
pub unfound_of_same : {A : Type 0} → (i j : ProgramImage) (h k : ℕ) (watch : Watch) (own given : Targets)
    (r : Result A Unfound) → i ≡ j → h ≡ k → (given.anywhere ≡ true → own.anywhere ≡ true)
    → IfErr r (IsUnfoundFor i h watch own) → IfErr r (IsUnfoundFor j k watch given)
unfound_of_same i j h k watch own given (Ok found) images harts anywhere is = tt
unfound_of_same i j h k watch own given (Err (Refused why)) images harts anywhere is =
    subst (λ n. IsRefusedFor j n watch why) harts (subst (λ z. IsRefusedFor z h watch why) images is)
unfound_of_same i j h k watch own given (Err (Lacks jump)) images harts anywhere is =
    elim (cases_Bool given.anywhere) [
      | inl all ↦ let own_all = anywhere all in absurd (grind arith)
      | inr some ↦ some
    ]
