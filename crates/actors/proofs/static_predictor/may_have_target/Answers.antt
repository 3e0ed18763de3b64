use Rattle.std.proofs.Common.{◌≡◌, ◌==◌, false, arith}
use Rattle.std.proofs.lemmas.Bool.Decides.{nat_tests}
use Rattle.rv_instr.specs.Fields.{opcode_at}
use Rattle.actors.proofs.GoingBehind.{goes_behind}
use Rattle.actors.proofs.static_predictor.may_have_target.Goals as goal

pub returns-else-opcode-eq-JUMP : goal.returns-else-opcode-eq-JUMP
returns-else-opcode-eq-JUMP c =
    let no_jump : (opcode_at c.args.word == 0b1101111) ≡ false = grind (arith, nat_tests, c.if-opcode-eq-JUMP.false) in
    λ other pc.
    let no_branch : (opcode_at c.args.word == 0b1100011) ≡ false = grind (arith, nat_tests, other) in
    goes_behind pc c.args.word no_jump no_branch
