use Rattle.std.proofs.Common.{◌≤◌, length, drop, [], ◌++◌, ap, ap₂, refl, ◌∙◌, arith}
use Rattle.std.proofs.lemmas.List.{length-drop, length-take-le, take_all, take-append-drop}
use Rattle.std.proofs.lemmas.Option.{get_or_from_slice_get, slice_get_within}
use Rattle.condensed_machine.proofs.numbering.state_of.Goals as goal

pub returns-clause-numbered : goal.returns-clause-numbered
returns-clause-numbered c =
    let keys = c.number_far.new.far_harts.keys in
    let numbers = c.args.numbers in
    let others = c.copy_from_slice-2.new.self in
    let has = c.in_ok-far.ensures.number in
    let few : length (drop 4 numbers) ≤ 12 = omega (arith, length-drop 4 numbers, c.requires) in
    record {
      near = ap length c.copy_from_slice.ensures.after ∙ length-take-le 4 numbers (omega (arith, c.requires));
      numbers_are =
          ap₂ ◌++◌ c.copy_from_slice.ensures.after
          (get_or_from_slice_get keys c.in_ok-far.far others [] has ∙ c.copy_from_slice-2.ensures.after
          ∙ take_all 12 (drop 4 numbers) few)
          ∙ take-append-drop 4 numbers;
      shared_is = refl;
      known = slice_get_within keys c.in_ok-far.far others has;
    }
