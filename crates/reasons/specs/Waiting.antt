-- What an entry of the issue queue waits for, as the queue has it.
use Rattle.std.specs.Prelude.{ℕ, if◌then◌else◌, List, [], ◌∷◌, slice_index_or}
use Rattle.issue_queue.specs.{Entry.is_value, declared.entry.Entry.Entry, declared.entry.Source.Source}
use Rattle.issue_queue.specs.declared.entry.Source.TheVariants.{Value, Waits}
use Rattle.smt_model.specs.Kinds.{first_source, second_source}

-- The register of the first source that has no number, if one of the two has none.
abbrev pub register_waited : Entry → ℕ
register_waited e =
    if is_value (slice_index_or e.sources 0 (Value 0)) then second_source e.op else first_source e.op

-- The physical register that the first source without a number waits for.
abbrev pub first_waiting : List Source → ℕ
first_waiting [] = 0
first_waiting (Value number ∷ others) = first_waiting others
first_waiting (Waits register ∷ others) = register
