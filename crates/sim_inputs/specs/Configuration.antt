-- What a configuration says: the keys that it may have, and the settings that it makes. (This
-- project's own choice.)
use Rattle.std.specs.Prelude.{◌≡◌, ℕ, ◌≤◌, ◌&&◌, nat_le, pos, true, List, [], ◌∷◌, map, length}
use Rattle.std.specs.Prelude.{Option, Some, None, All, Contains, IsUtf8, codes, unwrap_or}
use Rattle.numbers.specs.Sizes.{most_events, most_harts}
use Rattle.toml.specs.Data.{Data, string, integer, array, Members, no_members, member, get_member}
use Rattle.toml.specs.{View.items_of, Parse.parse_document, Errors.IsBlank}
use Rattle.elf_image.specs.Image.{IsRamSize}
use Rattle.events.specs.{declared.role.Role.Role, Roles.role_name}
use Rattle.smt_model.specs.{declared.config.Config.Config}
use Rattle.numbers.specs.Sizes.{are_core_sizes}
use Rattle.events.specs.declared.role.Role.TheVariants as role
use Rattle.sim_inputs.specs.{declared.settings.Settings.Settings}
use Rattle.sim_inputs.specs.{declared.configuration.ConfigRefused.ConfigRefused}
use Rattle.sim_inputs.specs.declared.configuration.ConfigRefused.TheVariants as refused

-- The keys that a configuration may have, and those that a document has.
abbrev pub known_keys : List (List ℕ)
known_keys = codes "harts" ∷ codes "extra" ∷ codes "queue" ∷ codes "ram" ∷ codes "limit"
    ∷ codes "turns" ∷ codes "actors" ∷ []

abbrev pub keys_in : Members → List (List ℕ)
keys_in no_members = []
keys_in (member key found rest) = key ∷ keys_in rest

-- What was found at a key is the number; where nothing was found, the number is the default.
abbrev pub IsNumber : ℕ → Option Data → ℕ → Type 0
IsNumber default None number = number ≡ default
IsNumber default (Some found) number = found ≡ integer (pos number)

-- What was found is the list of the roles' names; where nothing was found, there is one actor of
-- each role.
abbrev pub AreRoles : Option Data → List Role → Type 0
AreRoles None roles =
    roles ≡ role.Fetch ∷ role.Front ∷ role.Retire ∷ role.Alu ∷ role.Mul ∷ role.Mem ∷ []
AreRoles (Some found) roles = found ≡ array (items_of (map (λ r. string (role_name r)) roles))

-- So many harts may there be.
abbrev pub IsHartCount : ℕ → Type 0
IsHartCount count = (1 ≤ count) × (count ≤ most_harts)

-- Settings with so many harts in place of their own, where that is given.
abbrev pub with_harts : Option ℕ → Settings → Settings
with_harts harts settings =
    record settings { config = record settings.config { harts = unwrap_or harts settings.config.harts } }

-- The settings are those that a simulation may have: a core is made of the sizes and the limit, the
-- memory has a size that it may have, and there are at most 10^18 turns.
pub record AreInRange (settings : Settings) : Type 0 where
  pub accepted : (are_core_sizes settings.config.harts settings.config.extra settings.config.queue
      (length settings.config.roles.items)
      && nat_le settings.limit most_events) ≡ true
  pub ram : IsRamSize settings.ram
  pub turns : settings.turns ≤ 1000000000000000000

-- Each size of a core is what its key has.
pub record SetsSizes (members : Members) (config : Config) : Type 0 where
  pub harts : IsNumber 1 (get_member (codes "harts") members) config.harts
  pub extra : IsNumber 64 (get_member (codes "extra") members) config.extra
  pub queue : IsNumber 16 (get_member (codes "queue") members) config.queue
  pub actors : AreRoles (get_member (codes "actors") members) config.roles.items

-- A document has known keys alone, and each setting is what its key has and may be.
pub record Sets (members : Members) (settings : Settings) : Type 0 where
  pub known : All (Contains known_keys) (keys_in members)
  pub sizes : SetsSizes members settings.config
  pub ram : IsNumber 65536 (get_member (codes "ram") members) settings.ram
  pub limit : IsNumber 1000000 (get_member (codes "limit") members) settings.limit
  pub turns : IsNumber 1000000000 (get_member (codes "turns") members) settings.turns
  pub in_range : AreInRange settings

-- The settings where a configuration says nothing.
abbrev pub IsDefault : Settings → Type 0
IsDefault = Sets no_members

-- The bytes are a configuration that makes these settings: text in UTF-8, and a document by TOML's
-- grammar.
pub record IsConfiguration (text : List ℕ) (settings : Settings) : Type 0 where
  pub utf8 : IsUtf8 text
  pub members : Members
  pub document : parse_document text ≡ Some members
  pub sets : Sets members settings

-- When each refusal comes: the bytes are no configuration, whatever the settings. For want of
-- memory no text is refused that has only white space and comments.
abbrev pub IsConfigRefusedFor : List ℕ → ConfigRefused → Type 0
IsConfigRefusedFor text refused.Refused = (settings : Settings) → IsConfiguration text settings → ⊥
IsConfigRefusedFor text refused.Memory = IsBlank text → ⊥
