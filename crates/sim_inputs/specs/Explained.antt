-- Why a configuration is refused: its faults, and when each is one. (This project's own choice.)
use Rattle.std.specs.Prelude.{◌≡◌, ℕ, ◌≤◌, List, length, Some, None, Contains, IsUtf8, codes}
use Rattle.std.specs.Prelude.{string_bytes}
use Rattle.numbers.specs.Sizes.{most_harts, most_extra, fewest_queued, most_queued, most_actors}
use Rattle.numbers.specs.Sizes.{most_events}
use Rattle.toml.specs.{Data.Members, Data.get_member, Parse.parse_document}
use Rattle.elf_image.specs.Image.{IsRamSize}
use Rattle.events.specs.declared.role.Role.{Role}
use Rattle.sim_inputs.specs.{declared.settings.Settings.Settings}
use Rattle.sim_inputs.specs.declared.explained.fault.NumberKey.{NumberKey}
use Rattle.sim_inputs.specs.declared.explained.fault.NumberKey.TheVariants as key
use Rattle.sim_inputs.specs.declared.explained.fault.ConfigFault.{ConfigFault}
use Rattle.sim_inputs.specs.declared.explained.fault.ConfigFault.TheVariants as faults
use Rattle.sim_inputs.specs.Configuration.{known_keys, keys_in, IsNumber, AreRoles, Sets}
use Rattle.sim_inputs.specs.Configuration.{IsConfiguration}

-- A key whose value is a number, as it is written; and the number where it is absent.
abbrev pub name_of : NumberKey → List ℕ
name_of key.Harts = codes "harts"
name_of key.Extra = codes "extra"
name_of key.Queue = codes "queue"
name_of key.Ram = codes "ram"
name_of key.Limit = codes "limit"
name_of key.Turns = codes "turns"

abbrev pub default_of : NumberKey → ℕ
default_of key.Harts = 1
default_of key.Extra = 64
default_of key.Queue = 16
default_of key.Ram = 65536
default_of key.Limit = 1000000
default_of key.Turns = 1000000000

-- The least and the greatest number that it may have.
abbrev pub least_of : NumberKey → ℕ
least_of key.Harts = 1
least_of key.Extra = 1
least_of key.Queue = fewest_queued
least_of key.Ram = 4096
least_of key.Limit = 0
least_of key.Turns = 0

abbrev pub greatest_of : NumberKey → ℕ
greatest_of key.Harts = most_harts
greatest_of key.Extra = most_extra
greatest_of key.Queue = most_queued
greatest_of key.Ram = 16777216
greatest_of key.Limit = most_events
greatest_of key.Turns = 1000000000000000000

-- A number that it may have: one of that range, and of memory a size.
abbrev pub MayBe : NumberKey → ℕ → Type 0
MayBe key.Ram number = IsRamSize number
MayBe key number = (least_of key ≤ number) × (number ≤ greatest_of key)

-- No configuration has the key.
pub record IsUnknown (key : List ℕ) : Type 0 where
  pub unknown : Contains known_keys key → ⊥

-- A document has a key that no configuration has.
abbrev pub IsUnknownIn : Members → List ℕ → Type 0
IsUnknownIn document key = Contains (keys_in document) key × IsUnknown key

-- A document has the fault: a key that no configuration has, no number at a key that it may have, or
-- no list of roles at `actors` that a core may have. Of memory nothing is said.
abbrev pub IsFaultIn : Members → ConfigFault → Type 0
IsFaultIn document (faults.UnknownKey key) = IsUnknownIn document (string_bytes key)
IsFaultIn document (faults.Number key) = (number : ℕ)
    → IsNumber (default_of key) (get_member (name_of key) document) number → MayBe key number → ⊥
IsFaultIn document (faults.Actors why) = (roles : List Role)
    → AreRoles (get_member (codes "actors") document) roles → 1 ≤ length roles
    → length roles ≤ most_actors → ⊥
IsFaultIn document (faults.NoDocument place message) = ⊥
IsFaultIn document faults.Memory = Unit {0}

-- A text has the fault: it is no document, or one that has it.
abbrev pub IsFaultOf : List ℕ → ConfigFault → Type 0
IsFaultOf text (faults.NoDocument place message) = IsUtf8 text → parse_document text ≡ None
IsFaultOf text faults.Memory = Unit {0}
IsFaultOf text fault = (document : Members) × (parse_document text ≡ Some document)
    × IsFaultIn document fault

-- No settings are those of the document, and none those of the text. Of memory nothing is said.
abbrev pub AreNoSettings : Members → ConfigFault → Type 0
AreNoSettings document faults.Memory = Unit {0}
AreNoSettings document fault = (settings : Settings) → Sets document settings → ⊥

abbrev pub IsNoConfiguration : List ℕ → ConfigFault → Type 0
IsNoConfiguration text faults.Memory = Unit {0}
IsNoConfiguration text fault = (settings : Settings) → IsConfiguration text settings → ⊥

-- The kinds of faults that parts of the code answer, or want of memory.
abbrev pub IsReaderFault : ConfigFault → Type 0
IsReaderFault (faults.NoDocument place message) = Unit {0}
IsReaderFault faults.Memory = Unit {0}
IsReaderFault fault = ⊥

abbrev pub IsActorsFault : ConfigFault → Type 0
IsActorsFault (faults.Actors why) = Unit {0}
IsActorsFault faults.Memory = Unit {0}
IsActorsFault fault = ⊥

abbrev pub IsUnknownFault : List ℕ → ConfigFault → Type 0
IsUnknownFault key (faults.UnknownKey told) = string_bytes told ≡ key
IsUnknownFault key faults.Memory = Unit {0}
IsUnknownFault key fault = ⊥
