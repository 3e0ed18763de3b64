-- The text of settings. (This project's own choice.)
use Rattle.std.specs.Prelude.{ℕ, if◌then◌else◌, List, [], ◌∷◌, ◌++◌, codes, flat_map}
use Rattle.std.specs.{Fmt.decimal, List.list_any}
use Rattle.events.specs.{declared.role.Role.Role, Roles.role_name, Roles.every_role}
use Rattle.events.specs.contracts.role.RolePartialEq.TheImpl.{eq-value}
use Rattle.text_fields.specs.Each.{each_from}
use Rattle.smt_model.specs.{declared.config.Config.Config}
use Rattle.sim_inputs.specs.{declared.settings.Settings.Settings}

-- A line with a key and its number.
abbrev pub number_line : List ℕ → ℕ → List ℕ
number_line key number = key ++ 32 ∷ (decimal number ++ 10 ∷ [])

-- The sizes of a core, and how far a simulation goes.
abbrev pub sizes_text : Config → List ℕ
sizes_text config = number_line (codes "harts") config.harts ++ (number_line (codes "extra") config.extra
    ++ number_line (codes "queue") config.queue)

abbrev pub bounds_text : Settings → List ℕ
bounds_text settings = number_line (codes "ram") settings.ram ++ (number_line (codes "limit") settings.limit
    ++ number_line (codes "turns") settings.turns)

-- A line for each actor, by number, with its role.
abbrev pub actor_line : ℕ → Role → List ℕ
actor_line actor role = codes "actor " ++ (decimal actor ++ 32 ∷ (role_name role ++ 10 ∷ []))

-- A line for each role that no actor has.
unfoldable pub lacking_line : List ℕ → List ℕ
lacking_line name =
    codes "no actor is `" ++ (name ++ codes "`: `run`, which needs one of each role, refuses this\n")

abbrev pub lacking_text : List Role → Role → List ℕ
lacking_text roles role = if list_any (λ there. eq-value.it there role) roles then [] else lacking_line (role_name role)

abbrev pub actors_text : List Role → List ℕ
actors_text roles = each_from actor_line 0 roles ++ flat_map (lacking_text roles) every_role

-- The whole text.
unfoldable pub settings_text : Settings → List ℕ
settings_text settings = sizes_text settings.config ++ (bounds_text settings ++ actors_text settings.config.roles.items)

-- What is said of a configuration that makes these settings.
abbrev pub accepted_config : Settings → List ℕ
accepted_config settings = codes "config accepted\n" ++ settings_text settings
