-- The file of an image with some locations, and with none.
use Rattle.std.proofs.Common.{◌≡◌, ℕ, ◌<◌, List, [], ◌∷◌, ◌++◌, ◌-◌, length, take, drop, refl, arith, append_assoc, ◌∙◌}
use Rattle.std.proofs.lemmas.List.{length-drop, take_all}
use Rattle.litmus_tests.specs.declared.location.Location.{Location}
use Rattle.litmus_files.specs.File.{begun, file_with, named_file, numbered, spoken_for}

module _ (words : ℕ) where
  pub with_none : (locations : List Location) (image : List ℕ) → length locations ≡ 0
      → file_with words locations image ≡ image
  with_none [] image none = refl
  with_none (location ∷ locations) image none = absurd (omega (arith, none))

  pub with_some : (locations : List Location) (image : List ℕ) → 0 < length locations
      → file_with words locations image ≡ named_file words locations image
  with_some [] image some = absurd (omega (arith, some))
  with_some (location ∷ locations) image some = refl

-- The three parts of the file of an image, one behind the other; the last is all that is left.
pub spoken : (file image : List ℕ)
    → ((file ++ begun image) ++ numbered image) ++ take (length image - 52) (drop 52 image) ≡ file ++ spoken_for image
unfolding spoken_for
spoken file image =
    let long = length-drop 52 image in
    let rest : take (length image - 52) (drop 52 image) ≡ drop 52 image =
    take_all (length image - 52) (drop 52 image) (omega (arith, long)) in
    rw rest
    (append_assoc (file ++ begun image) (numbered image) (drop 52 image)
    ∙ append_assoc file (begun image) (numbered image ++ drop 52 image))
