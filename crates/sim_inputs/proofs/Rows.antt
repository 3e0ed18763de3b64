-- The definitions at command lines and configurations that are written out, computed.
use Rattle.std.specs.Prelude.{◌≡◌, ℕ, true, false, List, [], ◌∷◌, Some, None, option_map, pos, codes, refl}
use Rattle.std.proofs.Common.{sym, ap, ◌∙◌}
use Rattle.std.proofs.lemmas.Option.{same_Some}
use Rattle.clap.specs.Words.{Text, fault_of, first_of, subcommand_of}
use Rattle.clap.specs.declared.error.kind.ErrorKind.TheVariants.{ArgumentConflict, UnknownArgument}
use Rattle.clap.proofs.OnLiterals.{clap_on_literals}
use Rattle.toml.specs.Data.{Data, integer, no_members, member}
use Rattle.toml.specs.Parse.{parse_document}
use Rattle.toml.proofs.OnLiterals.{toml_on_literals}
use Rattle.sim_inputs.specs.{Rules.smtsim, CommandLine.is_flag_set, Configuration.IsConfiguration}
use Rattle.sim_inputs.specs.{declared.settings.Settings.Settings}

-- `step` with a configuration and tables, but no records.
abbrev words : List Text
words = codes "smtsim" ∷ codes "step" ∷ codes "a" ∷ codes "--config" ∷ codes "c" ∷ codes "b" ∷ codes "--show" ∷ []

is_taken : fault_of smtsim words ≡ []
unfolding clap_on_literals
is_taken = refl

config_is : option_map (λ p. first_of (codes "config") p.1) (subcommand_of smtsim words) ≡ Some (Some (codes "c"))
unfolding clap_on_literals
config_is = refl

script_is : option_map (λ p. first_of (codes "SCRIPT") p.1) (subcommand_of smtsim words) ≡ Some (Some (codes "b"))
unfolding clap_on_literals
script_is = refl

show_is : option_map (λ p. is_flag_set (codes "show") p.1) (subcommand_of smtsim words) ≡ Some true
unfolding clap_on_literals
show_is = refl

records_are : option_map (λ p. is_flag_set (codes "records") p.1) (subcommand_of smtsim words) ≡ Some false
unfolding clap_on_literals
records_are = refl

-- `plain` with records; it has no tables.
abbrev plain_words : List Text
plain_words = codes "smtsim" ∷ codes "plain" ∷ codes "a" ∷ codes "b" ∷ codes "--records" ∷ []

plain_is_taken : fault_of smtsim plain_words ≡ []
unfolding clap_on_literals
plain_is_taken = refl

order_is : option_map (λ p. first_of (codes "ORDER") p.1) (subcommand_of smtsim plain_words) ≡ Some (Some (codes "b"))
unfolding clap_on_literals
order_is = refl

no_tables : fault_of smtsim (codes "smtsim" ∷ codes "plain" ∷ codes "--show" ∷ codes "a" ∷ codes "b" ∷ [])
    ≡ UnknownArgument ∷ []
unfolding clap_on_literals
no_tables = refl

-- An option of another subcommand, and one that is given twice.
other_option : fault_of smtsim (codes "smtsim" ∷ codes "list" ∷ codes "--show" ∷ codes "a" ∷ []) ≡ UnknownArgument ∷ []
unfolding clap_on_literals
other_option = refl

twice : fault_of smtsim (codes "smtsim" ∷ codes "step" ∷ codes "--show" ∷ codes "--show" ∷ codes "a" ∷ codes "b" ∷ [])
    ≡ ArgumentConflict ∷ []
unfolding clap_on_literals
twice = refl

-- `run` with a trace that is written, and `check` with one that is read.
abbrev run_words : List Text
run_words = codes "smtsim" ∷ codes "run" ∷ codes "--trace" ∷ codes "t" ∷ codes "a" ∷ []

run_is_taken : fault_of smtsim run_words ≡ []
unfolding clap_on_literals
run_is_taken = refl

kept_is : option_map (λ p. first_of (codes "trace") p.1) (subcommand_of smtsim run_words) ≡ Some (Some (codes "t"))
unfolding clap_on_literals
kept_is = refl

abbrev check_words : List Text
check_words = codes "smtsim" ∷ codes "check" ∷ codes "a" ∷ codes "--records" ∷ codes "t" ∷ []

check_is_taken : fault_of smtsim check_words ≡ []
unfolding clap_on_literals
check_is_taken = refl

trace_is : option_map (λ p. first_of (codes "TRACE") p.1) (subcommand_of smtsim check_words) ≡ Some (Some (codes "t"))
unfolding clap_on_literals
trace_is = refl

-- `schedule` makes no trace, and `step` no two.
no_trace : fault_of smtsim (codes "smtsim" ∷ codes "schedule" ∷ codes "--trace" ∷ codes "a" ∷ codes "b" ∷ [])
    ≡ UnknownArgument ∷ []
unfolding clap_on_literals
no_trace = refl

two_traces : fault_of smtsim (codes "smtsim" ∷ codes "step" ∷ codes "--trace" ∷ codes "t" ∷ codes "--trace"
    ∷ codes "u" ∷ codes "a" ∷ codes "b" ∷ [])
    ≡ ArgumentConflict ∷ []
unfolding clap_on_literals
two_traces = refl

-- A document of one key, and one that is cut.
one_key : parse_document (codes "harts = 2") ≡ Some (member (codes "harts") (integer (pos 2)) no_members)
unfolding toml_on_literals
one_key = refl

cut : parse_document (codes "harts = ") ≡ None
unfolding toml_on_literals
cut = refl

key_twice : parse_document (codes "a=1\na=1") ≡ None
unfolding toml_on_literals
key_twice = refl

seventeen : parse_document (codes "harts = 17") ≡ Some (member (codes "harts") (integer (pos 17)) no_members)
unfolding toml_on_literals
seventeen = refl

abbrev number_of : Data → ℕ
number_of (integer (pos n)) = n
number_of found = 0

-- The settings of a document that has this key alone.
harts_of : (text : List ℕ) (n : ℕ) (settings : Settings)
    → parse_document text ≡ Some (member (codes "harts") (integer (pos n)) no_members) →
    IsConfiguration text settings → (settings.config.harts ≡ n) × (settings.config.extra ≡ 64)
    × (settings.turns ≡ 1000000000)
harts_of text n settings read is =
    let members : is.members ≡ member (codes "harts") (integer (pos n)) no_members =
    same_Some _ _ (sym is.document ∙ read) in
    let harts = rw members at is.sets.sizes.harts in
    let extra = rw members at is.sets.sizes.extra in
    let turns = rw members at is.sets.turns in (sym (ap number_of harts), extra, turns)

two_harts : (settings : Settings) → IsConfiguration (codes "harts = 2") settings
    → (settings.config.harts ≡ 2) × (settings.config.extra ≡ 64) × (settings.turns ≡ 1000000000)
two_harts settings is = harts_of (codes "harts = 2") 2 settings one_key is

-- Seventeen harts are too many.
seventeen_harts : (settings : Settings) → IsConfiguration (codes "harts = 17") settings → ⊥
seventeen_harts settings is =
    let harts = (harts_of (codes "harts = 17") 17 settings seventeen is).0 in
    let accepted = rw harts at is.sets.in_range.accepted in cc
