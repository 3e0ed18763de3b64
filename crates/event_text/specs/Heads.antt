-- How a trace begins: the line that names its version, and from version 2 on a line that says of what core it is.
-- (This project's own choice.)

use Rattle.std.specs.Prelude.{ℕ, ◌+◌, ◌-◌, zero, suc, ◌||◌, nat_lt, nat_le, if◌then◌else◌, List, [], ◌∷◌, ◌++◌}
use Rattle.std.specs.Prelude.{flat_map, codes, Bool, true, false}
use Rattle.std.specs.Prelude.{Option, None, Some, Result, Ok, Err}
use Rattle.std.specs.{Fmt.decimal, Str.bytes_eq}
use Rattle.numbers.specs.Sizes.{most_harts, most_extra, fewest_queued, most_queued, most_actors}
use Rattle.text_fields.specs.{declared.read.FieldError.FieldError}
use Rattle.text_fields.specs.{declared.read.FieldError.TheVariants.Misspelled}
use Rattle.text_fields.specs.{declared.read.FieldError.TheVariants.OutOfRange}
use Rattle.text_fields.specs.{Reading.decimal_field, Splitting.field_count}
use Rattle.events.specs.{declared.role.Role.Role, Roles.role_name, Roles.role_of_name}
use Rattle.event_text.specs.{Line.after_space, Reading.first_field, Reading.others, Reading.◌>>=◌}
use Rattle.event_text.specs.{Core.CoreSizes, declared.head.TraceHead.TraceHead, declared.read.Rule.Rule}
use Rattle.event_text.specs.{declared.read.Rule.TheVariants.FirstField, declared.read.Rule.TheVariants.FieldCount}
use Rattle.event_text.specs.{declared.read.Rule.TheVariants.Field}
use Rattle.event_text.specs.{declared.head.LaterVersion.LaterVersion}
use Rattle.event_text.specs.declared.head.LaterVersion.TheVariants.{Second, Third}
use Rattle.event_text.specs.declared.head.TraceHead.TheVariants.{First, Later}

-- a line, with the newline that ends it
abbrev pub ended : List ℕ → List ℕ
ended line = line ++ 10 ∷ []

-- the line that names a version
abbrev pub first_header : List ℕ
first_header = codes "smt-trace 1"

abbrev pub later_header : LaterVersion → List ℕ
later_header Second = codes "smt-trace 2"
later_header Third = codes "smt-trace 3"

-- `config`, harts, extra registers, entries, and the name of each role
abbrev pub config_line : CoreSizes → List ℕ
config_line sizes =
    codes "config" ++ after_space (decimal sizes.harts) ++ after_space (decimal sizes.extra)
    ++ after_space (decimal sizes.queue) ++ flat_map (λ role. after_space (role_name role)) sizes.roles

-- the lines before those of the events, and how many they are
abbrev pub head_lines : TraceHead → List ℕ
head_lines First = ended first_header
head_lines (Later version sizes) = ended (later_header version) ++ ended (config_line sizes)

abbrev pub head_count : TraceHead → ℕ
head_count First = 1
head_count (Later version sizes) = 2

-- what a trace says of its core, which one of version 1 doesn't
abbrev pub told_core : TraceHead → Option CoreSizes
told_core First = None
told_core (Later version sizes) = Some sizes

-- how a trace of version 3 begins up to a line of its core that is there, or with that of this core
abbrev pub newest_head : Bool → CoreSizes → List ℕ
newest_head true sizes = ended (later_header Third)
newest_head false sizes = head_lines (Later Third sizes)

-- how the line of a core is read: a number of at least `least` and at most `most`
unfoldable pub size_field : ℕ → ℕ → List ℕ → Result ℕ FieldError
size_field least most text = do
  number ← decimal_field most text
  if nat_le least number then Ok number else Err OutOfRange

-- a role's name; a text that names none is misspelled
abbrev pub role_read : Option Role → Result Role FieldError
role_read (Some role) = Ok role
role_read None = Err Misspelled

unfoldable pub role_field : List ℕ → Result Role FieldError
role_field text = role_read (role_of_name text)

-- so many roles, each a field
unfoldable pub roles_of : ℕ → List ℕ → Result (List Role) FieldError
roles_of zero fields = Ok []
roles_of (suc n) fields = do
  role ← role_field (first_field fields)
  more ← roles_of n (others fields)
  Ok (role ∷ more)

-- the fields behind `config`, of which there are so many
unfoldable pub sizes_of : ℕ → List ℕ → Result CoreSizes FieldError
sizes_of count fields = do
  harts ← size_field 1 most_harts (first_field fields)
  extra ← size_field 1 most_extra (first_field (others fields))
  queue ← size_field fewest_queued most_queued (first_field (others (others fields)))
  roles ← roles_of (count - 3) (others (others (others fields)))
  Ok (record { harts = harts; extra = extra; queue = queue; roles = roles })

-- a refused field breaks a rule of the line
abbrev pub of_sizes : Result CoreSizes FieldError → Result CoreSizes Rule
of_sizes (Ok sizes) = Ok sizes
of_sizes (Err error) = Err (Field error)

-- the core of a line without its newline: the three numbers, and at least one role
unfoldable pub config_of : List ℕ → Result CoreSizes Rule
config_of line =
    if bytes_eq (first_field line) (codes "config")
    then (if nat_lt (field_count 32 (others line)) 4 || nat_lt (3 + most_actors) (field_count 32 (others line))
    then Err FieldCount
    else of_sizes (sizes_of (field_count 32 (others line)) (others line)))
    else Err FirstField
