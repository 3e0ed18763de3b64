-- How many harts are asked for, where there may not be so many.
use Rattle.std.proofs.Common.{◌≡◌, ℕ, ◌≤◌, List, Result, Ok, Err, Option, None, Some}
use Rattle.std.proofs.Common.{option_map, codes, sym, ap, ◌∙◌, arith}
use Rattle.std.specs.Result.{result_ok}
use Rattle.std.proofs.lemmas.{Option.same_Some, Bool.leb-true}
use Rattle.numbers.specs.Sizes.{most_harts}
use Rattle.clap.specs.Words.{Row, Text, first_of}
use Rattle.text_fields.specs.{Reading.decimal_field, declared.read.FieldError.FieldError}
use Rattle.text_fields.proofs.DecimalLaws.{decimal_field_only}
use Rattle.sim_inputs.specs.{CommandLine.AreHarts, CommandLine.Finds, CommandLine.number_in}
use Rattle.sim_inputs.specs.{Configuration.IsHartCount}

read_as : (read : Result ℕ FieldError) (n : ℕ) → option_map (λ number. Some number) (result_ok read) ≡ Some (Some n)
    → read ≡ Ok n
read_as (Ok number) n found = ap Ok (same_Some _ _ (same_Some _ _ found))
read_as (Err why) n found = cc

-- a number that was found is no greater than it may be
few : (n : ℕ) (text : Option Text) → number_in most_harts text ≡ Some (Some n) → n ≤ most_harts
few n None found = cc
few n (Some text) found =
    (decimal_field_only most_harts n text (omega arith) (read_as (decimal_field most_harts text) n found)).0

no_harts : (rows : List Row) (n : ℕ) → number_in most_harts (first_of (codes "harts") rows) ≡ Some (Some n)
    → (IsHartCount n → ⊥) → (harts : Option ℕ) → AreHarts rows harts → ⊥
no_harts rows n found off None are = let same = sym are.found ∙ found in cc
no_harts rows n found off (Some count) are =
    let same = same_Some _ _ (same_Some _ _ (sym are.found ∙ found)) in
    let some = leb-true 1 count are.some in
    off (omega (arith, some, same), few n (first_of (codes "harts") rows) found)

-- where none are found since there may not be so many, none are asked for
pub finds_no_harts : (rows : List Row) (n : ℕ) (result : Option (Option ℕ)) → result ≡ None
    → number_in most_harts (first_of (codes "harts") rows) ≡ Some (Some n) → (IsHartCount n → ⊥)
    → Finds (AreHarts rows) result
finds_no_harts rows n result is found off = rw is (no_harts rows n found off)
