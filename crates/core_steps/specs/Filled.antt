-- What is left once a register has been given a number.
use Rattle.std.specs.Prelude.{◌≡◌, ℕ, ◌<◌, length, map, Option, Some, None, slice_index_or}
use Rattle.issue_queue.specs.{declared.entry.Entry.Entry, declared.entry.Source.Source}
use Rattle.issue_queue.specs.{Entry.woken_source}
use Rattle.smt_model.specs.Steps.{filled_value}
use Rattle.core_parts.specs.declared.parts.Parts.{Parts}

-- An entry's source once register `register` has been given the number `filled`, if any.
abbrev pub filled_source : Option ℕ → Option ℕ → Source → Source
filled_source None filled source = source
filled_source (Some register) None source = source
filled_source (Some register) (Some number) source = woken_source register number source

abbrev pub filled_entry : Option ℕ → Option ℕ → Entry → Entry
filled_entry register filled e =
    record e { sources = map (filled_source register filled) e.sources }

-- A number has been given to a register and to the entries that wait for it; nothing else has
-- changed.
pub record IsFilled (register filled : Option ℕ) (old new : Parts) : Type 0 where
  pub harts : new.harts ≡ old.harts
  pub queue : new.queue
      ≡ record old.queue { entries = map (filled_entry register filled) old.queue.entries }
  pub free : new.free ≡ old.free
  pub count : length new.values ≡ length old.values
  pub values : (x : ℕ) (d : Option ℕ) → x < length old.values
      → slice_index_or new.values x d ≡ filled_value register filled x
      (slice_index_or old.values x d)
  pub jobs : new.jobs ≡ old.jobs
  pub accesses : new.accesses ≡ old.accesses
  pub memory : new.memory ≡ old.memory
