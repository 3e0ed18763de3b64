-- The subcommand that was found, with its rows, and the line that it is.
use Rattle.std.proofs.Common.{◌≡◌, List, Option, Some, None, option_map, ap₂}
use Rattle.std.proofs.lemmas.Option.{same_Some}
use Rattle.clap.specs.Words.{Row, Text, found_of, rows_of, subcommand_rows_of}
use Rattle.clap.specs.Matches.{subcommand_name_of}
use Rattle.clap.specs.declared.parser.matches.ArgMatches.{ArgMatches}
use Rattle.clap.specs.declared.parser.matches.ArgMatches.TheViews.{out-ArgMatches, out-SubCommand}
use Rattle.std.specs.Box.{box_value}
use Rattle.sim_inputs.specs.{declared.line.Line.Line, CommandLine.IsLineOf, CommandLine.Names}

-- two fields of an optional value, from each by itself
both : {X : Type 0} (f : X → Text) (g : X → List Row) (o : Option X) (name : Text) (rows : List Row)
    → option_map f o ≡ Some name
    → option_map (λ (p : Text × List Row). p.1) (option_map {U = Text × List Row} (λ b. (f b, g b)) o) ≡ Some rows →
    option_map {U = Text × List Row} (λ b. (f b, g b)) o ≡ Some (name, rows)
both f g None name rows named has = cc
both f g (Some b) name rows named has =
    ap₂ (λ (n : Text) (r : List Row). Some (n, r)) (same_Some _ _ named) (same_Some _ _ has)

named_rows : (m : ArgMatches) (name : Text) (rows : List Row) → subcommand_name_of m ≡ Some name
    → option_map (λ (p : Text × List Row). p.1) (subcommand_rows_of m) ≡ Some rows →
    subcommand_rows_of m ≡ Some (name, rows)
named_rows m name rows =
    both (λ b. (out-SubCommand (box_value b)).name.now)
    (λ b. rows_of (found_of (out-SubCommand (box_value b)).matches)) (out-ArgMatches m).subcommand name rows

-- the line of this subcommand is that of the one that was found
pub found_in : (m : ArgMatches) (name : Text) (rows : List Row) (line : Line) → subcommand_name_of m ≡ Some name
    → option_map (λ (p : Text × List Row). p.1) (subcommand_rows_of m) ≡ Some rows → IsLineOf name rows line →
    Names (subcommand_rows_of m) line
found_in m name rows line named has is = rw (named_rows m name rows named has) is

-- and the one that was found is that of this subcommand
pub is_line : (m : ArgMatches) (name : Text) (rows : List Row) (line : Line) → subcommand_name_of m ≡ Some name
    → option_map (λ (p : Text × List Row). p.1) (subcommand_rows_of m) ≡ Some rows → Names (subcommand_rows_of m) line →
    IsLineOf name rows line
is_line m name rows line named has names = rw (named_rows m name rows named has) at names
