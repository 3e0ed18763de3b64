-- What was found for a subcommand's arguments and options.
use Rattle.std.proofs.Common.{◌≡◌, Option, option_map, Bor, ◌∙◌}
use Rattle.clap.specs.Words.{Text, first_of, first_value, found_of, rows_of}
use Rattle.clap.specs.declared.parser.matches.ArgMatches.{ArgMatches}
use Rattle.clap.proofs.WalkLemmas.{first_value-rows}

-- what was found for an option is the value of its row
pub option_row : (inner : ArgMatches) (id : Text) (found : Option (Bor Text))
    → option_map (λ s. s.now) found ≡ first_value (found_of inner) id →
    option_map (λ s. s.now) found ≡ first_of id (rows_of (found_of inner))
option_row inner id found same = same ∙ first_value-rows (found_of inner) id
