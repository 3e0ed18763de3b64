use Rattle.std.proofs.Common.{◌∙◌, ap, map}
use Rattle.litmus_reading.specs.Starts.{start_in, unplaced}
use Rattle.litmus_reading.proofs.Contained.{ended_index, ended_offset}
use Rattle.litmus_reading.proofs.Entries.{none_of_same, register_added}
use Rattle.litmus_reading.proofs.Placeless.{same_starts}
use Rattle.litmus_reading.proofs.start.add_register.Goals as goal

pub returns-clause-taken : goal.returns-clause-taken
returns-clause-taken c =
    register_added _ _ _ _ _ _ c.in_ok-start.ensures.taken
    (none_of_same (λ entries. start_in entries c.in_ok-start.start.hart c.in_ok-start.start.register) _ _ _
    c.as_slice.ensures.value c.start_in-before.ensures c.in_ok-check_once.ensures.none)
    c.in_ok-add_entry.ensures.added

pub returns-in_err-start-clause-only : goal.returns-in_err-start-clause-only
returns-in_err-start-clause-only c = λ start rest taken once ended.
    absurd (c.in_err-start.ensures.only start rest taken (ended_index rest ended) (ended_offset rest ended))

pub returns-clause-only : goal.returns-clause-only
returns-clause-only c = λ start rest taken once ended.
    let read = c.in_ok-start.ensures.only start rest taken (ended_index rest ended) (ended_offset rest ended) in (
      read.3,
      ap (map unplaced) c.in_ok-add_entry.ensures.added
          ∙ same_starts c.args.entries.now.items c.in_ok-start.start start read.0 read.1 read.2,
    )
