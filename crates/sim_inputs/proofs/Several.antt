-- The names of several tests, as they were found.
use Rattle.std.proofs.Common.{◌≡◌, ◌||◌, Bool, List, [], ◌∷◌, length, map, Option, None, Some, option_map, Bor}
use Rattle.std.proofs.Common.{refl, sym, ap, ◌∙◌}
use Rattle.std.specs.Prelude.{nat_lt, true, false, codes, unwrap_or, option_and_then}
use Rattle.std.specs.List.{list_any}
use Rattle.std.proofs.lemmas.List.{length-map}
use Rattle.std.proofs.lemmas.Option.{same_Some}
use Rattle.clap.specs.Words.{App, HasMatchesOf, Row, Text, all_of, found_of, rows_of, subcommand_of, subcommand_rows_of}
use Rattle.clap.specs.Matches.{matched_of, raw_values}
use Rattle.clap.specs.declared.parser.matches.ArgMatches.{ArgMatches}
use Rattle.clap.proofs.WalkLemmas.{raw_values-rows}
use Rattle.sim_inputs.specs.SeveralTests.{are_several, names_input, names_list, tests_in, tests_named}
use Rattle.sim_inputs.specs.Rules.{smtsim}
use Rattle.sim_inputs.proofs.Refusals.{matched}
use Rattle.sim_inputs.specs.Files.{is_standard_input}

-- a test of texts, over those behind references
any_now : (p : Text → Bool) (names : List (Bor Text)) → list_any p (map (λ name. name.now) names) ≡ list_any (λ name. p name.now) names
any_now p [] = refl
any_now p (name ∷ names) = ap (λ b. p name.now || b) (any_now p names)

-- what was found for TEST
pub some_found : (m : ArgMatches) (names : Bor (List (Bor Text)))
    → option_map (λ s. map (λ v. v.now) s.now) (Some names)
    ≡ option_map raw_values (matched_of (found_of m) (codes "TEST"))
    → map (λ name. name.now) names.now ≡ tests_in (rows_of (found_of m))
some_found m names same = ap (λ o. unwrap_or o []) (same ∙ raw_values-rows (found_of m) (codes "TEST"))

pub none_found : (m : ArgMatches) → None ≡ option_map raw_values (matched_of (found_of m) (codes "TEST"))
    → [] ≡ tests_in (rows_of (found_of m))
none_found m same = ap (λ o. unwrap_or o []) (same ∙ raw_values-rows (found_of m) (codes "TEST"))

several : (names : List (Bor Text)) (texts : List Text) → map (λ name. name.now) names ≡ texts
    → (nat_lt 1 (length names) || list_any (λ name. names_list name.now) names) ≡ are_several texts
several names texts same =
    let long = length-map names (λ (name : Bor Text). name.now) in
    rw (sym same, any_now names_list names, long) refl

-- more names than one, and no more
pub several_names : (names : List (Bor Text)) (texts : List Text) → map (λ name. name.now) names ≡ texts
    → nat_lt 1 (length names) ≡ true → nat_lt 1 (length names) ≡ are_several texts
several_names names texts same more = more
    ∙ (ap (λ b. b || list_any (λ name. names_list name.now) names) (sym more) ∙ several names texts same)

pub several_listed : (names : List (Bor Text)) (texts : List Text) → map (λ name. name.now) names ≡ texts
    → nat_lt 1 (length names) ≡ false → list_any (λ name. names_list name.now) names ≡ are_several texts
several_listed names texts same more =
    ap (λ b. b || list_any (λ name. names_list name.now) names) (sym more) ∙ several names texts same

pub inputs : (names : List (Bor Text)) (texts : List Text) → map (λ name. name.now) names ≡ texts
    → list_any (λ name. is_standard_input name.now) names ≡ names_input texts
inputs names texts same = sym (any_now is_standard_input names) ∙ ap (list_any is_standard_input) same

-- the tests of the subcommand that was found are those that the words name
of_rows : (found : Option (Text × List Row)) (rows : List Row) → option_map (λ (p : Text × List Row). p.1) found ≡ Some rows
    → tests_in rows ≡ unwrap_or (option_and_then (λ (p : Text × List Row). all_of (codes "TEST") p.1) found) []
of_rows None rows has = cc
of_rows (Some found) rows has = ap tests_in (sym (same_Some _ _ has))

pub asked_tests : (words : List Text) (a : App) (m : ArgMatches) (rows : List Row) → a ≡ smtsim → HasMatchesOf a words m
    → option_map (λ (p : Text × List Row). p.1) (subcommand_rows_of m) ≡ Some rows → tests_in rows ≡ tests_named words
asked_tests words a m rows same has is =
    of_rows (subcommand_of smtsim words) rows
    (ap (option_map (λ (p : Text × List Row). p.1)) (sym (matched a words m same has)) ∙ is)
