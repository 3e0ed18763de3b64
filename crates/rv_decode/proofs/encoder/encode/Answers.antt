use Rattle.std.proofs.Common.{sym, ◌∙◌, rules}
use Rattle.rv_decode.proofs.encoder.encode.Goals as goal

pub returns-in-Lui-clause-spelled : goal.returns-in-Lui-clause-spelled
returns-in-Lui-clause-spelled c = let w = c.format_u.ensures in rw c.in-Lui.is (w.opcode, w.rd, w.imm)

pub returns-in-Auipc-clause-spelled : goal.returns-in-Auipc-clause-spelled
returns-in-Auipc-clause-spelled c = let w = c.format_u-in-Auipc.ensures in rw c.in-Auipc.is (w.opcode, w.rd, w.imm)

pub returns-in-Jal-clause-spelled : goal.returns-in-Jal-clause-spelled
returns-in-Jal-clause-spelled c = let w = c.format_j.ensures in rw c.in-Jal.is (w.opcode, w.rd, search rules)

pub returns-in-Jalr-clause-spelled : goal.returns-in-Jalr-clause-spelled
returns-in-Jalr-clause-spelled c =
    let w = c.format_i.ensures in
    rw c.in-Jalr.is (w.opcode, w.funct3, w.rd, w.rs1, search rules)

pub returns-in-Branch-clause-spelled : goal.returns-in-Branch-clause-spelled
returns-in-Branch-clause-spelled c =
    let w = c.format_b.ensures in
    rw c.in-Branch.is (w.opcode, w.funct3 ∙ c.branch_funct3.ensures.row, w.rs1, w.rs2, search rules)

pub returns-in-Load-clause-spelled : goal.returns-in-Load-clause-spelled
returns-in-Load-clause-spelled c =
    let w = c.format_i-in-Load.ensures in
    rw c.in-Load.is (w.opcode, w.funct3 ∙ c.load_funct3.ensures.row, w.rd, w.rs1, search rules)

pub returns-in-Store-clause-spelled : goal.returns-in-Store-clause-spelled
returns-in-Store-clause-spelled c =
    let w = c.format_s.ensures in
    rw c.in-Store.is (w.opcode, w.funct3 ∙ c.store_funct3.ensures.row, w.rs2, w.rs1, search rules)

pub returns-in-Immediate-clause-spelled : goal.returns-in-Immediate-clause-spelled
returns-in-Immediate-clause-spelled c =
    let w = c.format_i-in-Immediate.ensures in
    rw c.in-Immediate.is (w.opcode, w.funct3 ∙ c.immediate_funct3.ensures.row, w.rd, w.rs1, search rules)

pub returns-in-Shift-clause-spelled : goal.returns-in-Shift-clause-spelled
returns-in-Shift-clause-spelled c =
    let w = c.format_r.ensures in
    let r = c.shift_functs-funct7.ensures in
    rw c.in-Shift.is (w.opcode, w.funct7 ∙ r.funct7, w.funct3 ∙ r.funct3, w.rd, w.rs1, w.rs2)

pub returns-in-Register-clause-spelled : goal.returns-in-Register-clause-spelled
returns-in-Register-clause-spelled c =
    let w = c.format_r-in-Register.ensures in
    let r = c.register_functs-funct7.ensures in
    rw c.in-Register.is (w.opcode, w.funct7 ∙ r.funct7, w.funct3 ∙ r.funct3, w.rd, w.rs1, w.rs2)

pub returns-in-MulDiv-clause-spelled : goal.returns-in-MulDiv-clause-spelled
returns-in-MulDiv-clause-spelled c =
    let w = c.format_r-in-MulDiv.ensures in
    rw c.in-MulDiv.is (w.opcode, w.funct7, w.funct3 ∙ c.muldiv_funct3.ensures.row, w.rd, w.rs1, w.rs2)

pub returns-in-LoadReserved-clause-spelled : goal.returns-in-LoadReserved-clause-spelled
returns-in-LoadReserved-clause-spelled c =
    let w = c.format_atomic.ensures in
    rw c.in-LoadReserved.is (w.opcode, w.funct3, w.funct5, sym w.rs2, w.rd, w.rs1, w.ordering)

pub returns-in-StoreConditional-clause-spelled : goal.returns-in-StoreConditional-clause-spelled
returns-in-StoreConditional-clause-spelled c =
    let w = c.format_atomic-in-StoreConditional.ensures in
    rw c.in-StoreConditional.is (w.opcode, w.funct3, w.funct5, w.rd, w.rs1, w.rs2, w.ordering)

pub returns-in-Amo-clause-spelled : goal.returns-in-Amo-clause-spelled
returns-in-Amo-clause-spelled c =
    let w = c.format_atomic-in-Amo.ensures in
    rw c.in-Amo.is (w.opcode, w.funct3, w.funct5 ∙ c.amo_funct5.ensures.row, w.rd, w.rs1, w.rs2, w.ordering)
