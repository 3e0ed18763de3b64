-- What the matches of the words say of them, and what the kind of an error does.
use Rattle.std.proofs.Common.{◌≡◌, true, List, [], refl, subst, inl, inr}
use Rattle.clap.specs.Words.{App, Text, HasKind, HasMatchesOf, is_simple_and_free, fault_of, kind_of, subcommand_of}
use Rattle.clap.specs.Words.{subcommand_rows_of}
use Rattle.clap.specs.{declared.error.Error.Error, declared.parser.matches.ArgMatches.ArgMatches}
use Rattle.sim_inputs.specs.{declared.line.Line.Line, declared.line.WordsRefused.WordsRefused}
use Rattle.sim_inputs.specs.{declared.line.WordsRefused.TheVariants.Help}
use Rattle.sim_inputs.specs.{declared.line.WordsRefused.TheVariants.Version}
use Rattle.sim_inputs.specs.{declared.line.WordsRefused.TheVariants.Refused}
use Rattle.sim_inputs.specs.{declared.line.WordsRefused.TheVariants.Memory}
use Rattle.sim_inputs.specs.Rules.{smtsim}
use Rattle.sim_inputs.specs.CommandLine.{Asks, AsksNothing, IsRefusalOf, AreWordsRefusedFor, Names}

is_simple : is_simple_and_free smtsim ≡ true
is_simple = refl

-- what was matched, and that there is no fault, of the command that was described
pub matched : (a : App) (words : List Text) (m : ArgMatches) → a ≡ smtsim → HasMatchesOf a words m
    → subcommand_rows_of m ≡ subcommand_of smtsim words
matched a words m same has = (subst (λ (b : App). HasMatchesOf b words m) same has refl).1

faultless : (a : App) (words : List Text) → a ≡ smtsim → (is_simple_and_free a ≡ true → fault_of a words ≡ [])
    → fault_of smtsim words ≡ []
faultless a words same none =
    subst (λ (b : App). is_simple_and_free b ≡ true → fault_of b words ≡ []) same none is_simple

-- a line that the matches hold is asked for
pub asked : (words : List Text) (a : App) (m : ArgMatches) (line : Line) → a ≡ smtsim → HasMatchesOf a words m
    → (is_simple_and_free a ≡ true → fault_of a words ≡ []) → Names (subcommand_rows_of m) line → Asks words line
asked words a m line same has none finds = record {
  taken = faultless a words same none;
  holds = rw (matched a words m same has) at finds;
}

-- and where they hold none, nothing is asked for
pub not_asked : (words : List Text) (a : App) (m : ArgMatches) → a ≡ smtsim → HasMatchesOf a words m
    → (is_simple_and_free a ≡ true → fault_of a words ≡ [])
    → ((line : Line) → Names (subcommand_rows_of m) line → ⊥) → AsksNothing words
not_asked words a m same has none finds = record {
  no_line = λ line asks. finds line (rw (matched a words m same has) asks.holds);
  no_help = λ alone. let no_fault = faultless a words same none in cc;
  no_version = λ alone. let no_fault = faultless a words same none in cc;
}

-- the kinds of the command that was described
pub kinds_of : (a : App) (words : List Text) (e : Error) → a ≡ smtsim
    → (is_simple_and_free a ≡ true → HasKind (fault_of a words) e) →
    HasKind (fault_of smtsim words) e
kinds_of a words e same h =
    subst (λ (b : App). is_simple_and_free b ≡ true → HasKind (fault_of b words) e) same h is_simple

pub refused_for : (words : List Text) (e : Error) (r : WordsRefused) → HasKind (fault_of smtsim words) e
    → IsRefusalOf (kind_of e) r →
    AreWordsRefusedFor words r
refused_for words e (Help text) (inl memory) help = cc
refused_for words e (Help text) (inr among) help = rw help at among
refused_for words e (Version text) (inl memory) version = cc
refused_for words e (Version text) (inr among) version = rw version at among
refused_for words e Refused (inl memory) other = absurd (other.2 memory)
refused_for words e Refused (inr among) other = record {
  no_line = λ line asks. rw asks.taken at among;
  no_help = λ alone. elim (rw alone at among) [ inl help ↦ other.0 help | inr none ↦ none ];
  no_version = λ alone. elim (rw alone at among) [ inl version ↦ other.1 version | inr none ↦ none ];
}
refused_for words e Memory has says = tt
