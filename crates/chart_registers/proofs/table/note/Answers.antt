use Rattle.std.specs.Prelude.{◌<◌, List, Option, length}
use Rattle.std.proofs.Common.{subst, sym}
use Rattle.chart_registers.specs.declared.registers.Registers.{Registers}
use Rattle.chart_registers.proofs.Noted.{given_inside, holders_renamed, registers_fetched, renamed_inside}
use Rattle.chart_registers.proofs.table.note.Goals as goal

pub set_registers-requires : goal.set_registers-requires
set_registers-requires c =
    let core = c.args.core.now in
    let allowed = rw c.in-Rename.is at c.requires.allowed in
    subst (λ (xs : List (Option Registers)). c.in-Rename.seq < length xs) (sym c.as_mut_slice.ensures.value)
    (renamed_inside core.setup core.past c.requires.legal c.in-Rename.actor c.in-Rename.seq c.in-Rename.phys allowed
    c.args.table.now.items c.requires.table)

pub set_holder-requires : goal.set_holder-requires
set_holder-requires c =
    let core = c.args.core.now in
    let allowed = rw c.in-Rename.is at c.requires.allowed in
    given_inside core.setup core.past c.in-Rename.actor c.in-Rename.seq c.in-Rename.phys allowed c.args.holders.now
    c.requires.room

pub returns-in_ok-push-in-Fetch-clause-table : goal.returns-in_ok-push-in-Fetch-clause-table
returns-in_ok-push-in-Fetch-clause-table c =
    let core = c.args.core.now in
    let it = c.in-Fetch in
    rw (it.is, c.in_ok-push-in-Fetch.ensures.items)
    (registers_fetched core.setup core.past c.requires.legal it.actor it.hart it.seq it.pc it.word it.predicted
    c.args.table.now.items c.requires.table)

pub returns-in-Rename-clause-holders : goal.returns-in-Rename-clause-holders
returns-in-Rename-clause-holders c =
    let core = c.args.core.now in
    let it = c.in-Rename in
    let allowed = rw it.is at c.requires.allowed in
    rw (it.is, c.set_holder.ensures)
    (holders_renamed core.setup core.past c.requires.legal it.actor it.seq it.phys allowed c.args.holders.now
    c.requires.room c.requires.holders)
