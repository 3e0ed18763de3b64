-- What is compared by `==`, and what is hashed.
use Rattle.std.specs.Prelude.{ℕ, ◌+◌, ◌*◌, ◌^◌, Bool, ◌&&◌, nat_eq, [], ◌∷◌, ◌++◌, Option}
use Rattle.std.specs.Cmp.Lexicographic.{pointwise}
use Rattle.std.specs.Option.{option_eq}
use Rattle.std.specs.Hash as fed
use Rattle.std.specs.Hash.{HashWrites}
use Rattle.changed_memory.specs.declared.change.Change.{Change}
use Rattle.changed_memory.specs.Shared.{Shared}

abbrev pub is_same_change : Change → Change → Bool
is_same_change a b = nat_eq a.addr b.addr && nat_eq a.byte b.byte

abbrev pub is_same_reserved : Option ℕ → Option ℕ → Bool
is_same_reserved = option_eq nat_eq

abbrev pub is_same : Shared → Shared → Bool
is_same s t =
    (pointwise is_same_change s.changes t.changes
    && pointwise is_same_reserved s.reserved t.reserved)
    && pointwise nat_eq s.output t.output

abbrev pub writes_of_change : Change → HashWrites
writes_of_change c = fed.u64 (2 ^ 8 * c.addr + c.byte)

abbrev pub writes_of : Shared → HashWrites
writes_of s =
    fed.slice writes_of_change s.changes
    ++ (fed.slice (fed.option fed.u32) s.reserved ++ s.output ∷ [])
