-- Litmus tests of which there are several. (This project's own choice, after herd's lists.)
use Rattle.std.specs.Prelude.{ℕ, nat_lt, ◌==◌, Bool, false, ◌&&◌, ◌||◌, not, List, [], length, is_some, slice_get}
use Rattle.std.specs.Prelude.{codes, unwrap_or, option_and_then}
use Rattle.std.specs.{Option.option_map_or, List.list_any}
use Rattle.clap.specs.Words.{Row, Text, all_of, subcommand_of}
use Rattle.sim_inputs.specs.declared.line.LitmusCommand.{LitmusCommand}
use Rattle.sim_inputs.specs.Files.{is_standard_input}
use Rattle.sim_inputs.specs.Rules.{smtsim}

-- The names that were found for TEST, as they are written.
abbrev pub tests_in : List Row → List Text
tests_in rows = unwrap_or (all_of (codes "TEST") rows) []

-- A name of a list begins with `@` (64).
abbrev pub names_list : List ℕ → Bool
names_list name = option_map_or (λ byte. byte == 64) (slice_get name 0) false

-- There are more names than one, or one of a list.
abbrev pub are_several : List Text → Bool
are_several names = nat_lt 1 (length names) || list_any names_list names

-- Standard input is one of them.
abbrev pub names_input : List Text → Bool
names_input names = list_any is_standard_input names

-- Something else is printed than the states of the tests.
abbrev pub is_summed : LitmusCommand → Bool
is_summed litmus = litmus.summary || is_some litmus.expect

-- A file is written, the order of a state is, and runs of the core are made, of one test alone, whose states are printed.
abbrev pub is_of_one : LitmusCommand → Bool
is_of_one litmus = is_some litmus.image || is_some litmus.svg || is_some litmus.outcome || is_some litmus.run

abbrev pub is_made_alone : LitmusCommand → Bool
is_made_alone litmus = not (is_of_one litmus) || not (litmus.several || is_summed litmus)

-- In place of the states stands a summary, or what differs from one, and behind it no reasons.
abbrev pub is_told_alone : LitmusCommand → Bool
is_told_alone litmus = not (litmus.summary && is_some litmus.expect) && not (litmus.why && is_summed litmus)

-- The tests that the words name.
abbrev pub tests_named : List Text → List Text
tests_named words = unwrap_or (option_and_then (λ p. all_of (codes "TEST") p.1) (subcommand_of smtsim words)) []
