use Rattle.litmus_reading.proofs.Made.{makes_atomic, makes_immediate, makes_load, makes_muldiv, makes_register, makes_shift, makes_store, makes_upper}
use Rattle.litmus_reading.proofs.operands.operands_of.Goals as goal

pub returns-in-Load-clause-only : goal.returns-in-Load-clause-only
returns-in-Load-clause-only c =
    makes_load c.args.row c.in-Load.field-0 _ c.load_operands.result c.in-Load.is c.load_operands.ensures.only

pub returns-in-Store-clause-only : goal.returns-in-Store-clause-only
returns-in-Store-clause-only c =
    makes_store c.args.row c.in-Store.field-0 _ c.store_operands.result c.in-Store.is c.store_operands.ensures.only

pub returns-in-Immediate-clause-only : goal.returns-in-Immediate-clause-only
returns-in-Immediate-clause-only c =
    makes_immediate c.args.row c.in-Immediate.field-0 _ c.immediate_operands.result c.in-Immediate.is c.immediate_operands.ensures.only

pub returns-in-Shift-clause-only : goal.returns-in-Shift-clause-only
returns-in-Shift-clause-only c =
    makes_shift c.args.row c.in-Shift.field-0 _ c.shift_operands.result c.in-Shift.is c.shift_operands.ensures.only

pub returns-in-Register-clause-only : goal.returns-in-Register-clause-only
returns-in-Register-clause-only c =
    makes_register c.args.row c.in-Register.field-0 _ c.register_operands.result c.in-Register.is c.register_operands.ensures.only

pub returns-in-MulDiv-clause-only : goal.returns-in-MulDiv-clause-only
returns-in-MulDiv-clause-only c =
    makes_muldiv c.args.row c.in-MulDiv.field-0 _ c.register_operands-in-MulDiv.result c.in-MulDiv.is c.register_operands-in-MulDiv.ensures.only

pub returns-in-Lui-clause-only : goal.returns-in-Lui-clause-only
returns-in-Lui-clause-only c =
    makes_upper c.args.row _ c.upper_operands.result c.in-Lui.is c.upper_operands.ensures.only

pub returns-in-Atomic-clause-only : goal.returns-in-Atomic-clause-only
returns-in-Atomic-clause-only c =
    makes_atomic c.args.row c.in-Atomic.op c.in-Atomic.field-1 _ c.of_atomic.result c.in-Atomic.is
    c.of_atomic.ensures.only
