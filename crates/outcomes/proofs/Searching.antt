-- By which search the states were counted, handed on to the program that was asked for.
use Rattle.std.specs.Prelude.{◌≡◌, ℕ, Bool, true, false, Result, Ok, Err, IfOk}
use Rattle.std.proofs.Common.{◌∙◌}
use Rattle.elf_image.specs.Image.{ProgramImage}
use Rattle.reductions.specs.declared.without.Without.{Without}
use Rattle.condensed_machine.specs.Machine.{Program}
use Rattle.outcomes.specs.{Found.Found, Searched.IsSearchedWith, Searched.IsSearchedBy}

-- A program that is the one which was asked for, and whose jumps may go anywhere where that was asked.
pub searched_for : (p : Program) (image : ProgramImage) (harts : ℕ) (without : Without) (anywhere : Bool) (budget : ℕ)
    (found : Found) → p.image ≡ image → p.harts ≡ harts → p.without ≡ without
    → (anywhere ≡ true → p.targets.anywhere ≡ true) → IsSearchedBy p budget found
    → IsSearchedWith image harts without anywhere budget found
searched_for p image harts without anywhere budget found images counts reductions jumps is = record {
  machine = is.machine;
  sound = is.sound;
  image_is = is.image_is ∙ images;
  harts_are = is.harts_are ∙ counts;
  without_is = is.without_is ∙ reductions;
  jumps = λ all. is.jumps (jumps all);
  distinct = is.distinct;
  begun = is.begun;
  begins = is.begins;
  graph_of = is.graph_of;
  known = is.known;
  explored = is.explored;
  count = is.count;
}

pub if_searched_for : {E : Type 0} → (p : Program) (image : ProgramImage) (harts : ℕ) (without : Without)
    (anywhere : Bool) (budget : ℕ) (r : Result Found E) → p.image ≡ image → p.harts ≡ harts → p.without ≡ without
    → (anywhere ≡ true → p.targets.anywhere ≡ true) → IfOk r (IsSearchedBy p budget)
    → IfOk r (IsSearchedWith image harts without anywhere budget)
if_searched_for p image harts without anywhere budget (Ok found) images counts reductions jumps is =
    searched_for p image harts without anywhere budget found images counts reductions jumps is
if_searched_for p image harts without anywhere budget (Err why) images counts reductions jumps is = tt

-- Whether they may go anywhere needn't be said.
pub searched_some : (image : ProgramImage) (harts : ℕ) (without : Without) (anywhere : Bool) (budget : ℕ) (found : Found)
    → IsSearchedWith image harts without anywhere budget found → IsSearchedWith image harts without false budget found
searched_some image harts without anywhere budget found is = record {
  machine = is.machine;
  sound = is.sound;
  image_is = is.image_is;
  harts_are = is.harts_are;
  without_is = is.without_is;
  jumps = λ all. absurd_of all;
  distinct = is.distinct;
  begun = is.begun;
  begins = is.begins;
  graph_of = is.graph_of;
  known = is.known;
  explored = is.explored;
  count = is.count;
}
  where
    absurd_of : false ≡ true → is.machine.program.targets.anywhere ≡ true
    absurd_of all = cc

pub if_searched_some : {E : Type 0} → (image : ProgramImage) (harts : ℕ) (without : Without) (anywhere : Bool)
    (budget : ℕ) (r : Result Found E) → IfOk r (IsSearchedWith image harts without anywhere budget)
    → IfOk r (IsSearchedWith image harts without false budget)
if_searched_some image harts without anywhere budget (Ok found) is =
    searched_some image harts without anywhere budget found is
if_searched_some image harts without anywhere budget (Err why) is = tt
