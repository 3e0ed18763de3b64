use Rattle.litmus_reading.proofs.Branches.{branch_only, branch_spelled, said}
use Rattle.litmus_reading.proofs.Chains.{ok_both}
use Rattle.litmus_words.specs.declared.mnemonic.Mnemonic.TheVariants as name
use Rattle.std.proofs.Common.{◌∙◌, ap}
use Rattle.litmus_words.specs.declared.word.Token.TheVariants.{Mnemonic as name_token}
use Rattle.litmus_reading.proofs.instruction.read_instruction.Goals as goal

pub returns-in-Branch-clause-spelled : goal.returns-in-Branch-clause-spelled
returns-in-Branch-clause-spelled c =
    ok_both c.branch-op.result _ _ _ (λ written spells label.
    branch_spelled c.args.text.now c.args.words.now c.in_ok-name.operands.now c.in_ok-name.name (name.Branch c.in-Branch.op) written
    c.in_ok-name.ensures.first (c.in-Mnemonic.is ∙ ap name_token c.in-Branch.is) (λ fence no. no) spells label)
    c.branch-op.ensures.spelled c.branch-op.ensures.label

pub returns-in-Branch-clause-only : goal.returns-in-Branch-clause-only
returns-in-Branch-clause-only c = λ written it.
    branch_only c.in_ok-name.operands.now (name.Branch c.in-Branch.op) c.branch-op.result (λ i no. no) (λ register value no. no)
    (λ fence no. no) c.branch-op.ensures.only written
    (said c.args.text.now c.args.words.now c.in_ok-name.operands.now c.in_ok-name.name (name.Branch c.in-Branch.op) written
    c.in_ok-name.ensures.first (c.in-Mnemonic.is ∙ ap name_token c.in-Branch.is) it)

pub returns-in-SwappedBranch-clause-spelled : goal.returns-in-SwappedBranch-clause-spelled
returns-in-SwappedBranch-clause-spelled c =
    ok_both c.swapped_branch.result _ _ _ (λ written spells label.
    branch_spelled c.args.text.now c.args.words.now c.in_ok-name.operands.now c.in_ok-name.name (name.SwappedBranch c.in-SwappedBranch.op) written
    c.in_ok-name.ensures.first (c.in-Mnemonic.is ∙ ap name_token c.in-SwappedBranch.is) (λ fence no. no) spells label)
    c.swapped_branch.ensures.spelled c.swapped_branch.ensures.label

pub returns-in-SwappedBranch-clause-only : goal.returns-in-SwappedBranch-clause-only
returns-in-SwappedBranch-clause-only c = λ written it.
    branch_only c.in_ok-name.operands.now (name.SwappedBranch c.in-SwappedBranch.op) c.swapped_branch.result (λ i no. no) (λ register value no. no)
    (λ fence no. no) c.swapped_branch.ensures.only written
    (said c.args.text.now c.args.words.now c.in_ok-name.operands.now c.in_ok-name.name (name.SwappedBranch c.in-SwappedBranch.op) written
    c.in_ok-name.ensures.first (c.in-Mnemonic.is ∙ ap name_token c.in-SwappedBranch.is) it)

pub returns-in-BranchZero-clause-spelled : goal.returns-in-BranchZero-clause-spelled
returns-in-BranchZero-clause-spelled c =
    ok_both c.branch_zero.result _ _ _ (λ written spells label.
    branch_spelled c.args.text.now c.args.words.now c.in_ok-name.operands.now c.in_ok-name.name (name.BranchZero c.in-BranchZero.op) written
    c.in_ok-name.ensures.first (c.in-Mnemonic.is ∙ ap name_token c.in-BranchZero.is) (λ fence no. no) spells label)
    c.branch_zero.ensures.spelled c.branch_zero.ensures.label

pub returns-in-BranchZero-clause-only : goal.returns-in-BranchZero-clause-only
returns-in-BranchZero-clause-only c = λ written it.
    branch_only c.in_ok-name.operands.now (name.BranchZero c.in-BranchZero.op) c.branch_zero.result (λ i no. no) (λ register value no. no)
    (λ fence no. no) c.branch_zero.ensures.only written
    (said c.args.text.now c.args.words.now c.in_ok-name.operands.now c.in_ok-name.name (name.BranchZero c.in-BranchZero.op) written
    c.in_ok-name.ensures.first (c.in-Mnemonic.is ∙ ap name_token c.in-BranchZero.is) it)

pub returns-in-ZeroBranch-clause-spelled : goal.returns-in-ZeroBranch-clause-spelled
returns-in-ZeroBranch-clause-spelled c =
    ok_both c.zero_branch.result _ _ _ (λ written spells label.
    branch_spelled c.args.text.now c.args.words.now c.in_ok-name.operands.now c.in_ok-name.name (name.ZeroBranch c.in-ZeroBranch.op) written
    c.in_ok-name.ensures.first (c.in-Mnemonic.is ∙ ap name_token c.in-ZeroBranch.is) (λ fence no. no) spells label)
    c.zero_branch.ensures.spelled c.zero_branch.ensures.label

pub returns-in-ZeroBranch-clause-only : goal.returns-in-ZeroBranch-clause-only
returns-in-ZeroBranch-clause-only c = λ written it.
    branch_only c.in_ok-name.operands.now (name.ZeroBranch c.in-ZeroBranch.op) c.zero_branch.result (λ i no. no) (λ register value no. no)
    (λ fence no. no) c.zero_branch.ensures.only written
    (said c.args.text.now c.args.words.now c.in_ok-name.operands.now c.in_ok-name.name (name.ZeroBranch c.in-ZeroBranch.op) written
    c.in_ok-name.ensures.first (c.in-Mnemonic.is ∙ ap name_token c.in-ZeroBranch.is) it)

pub returns-in-Jump-clause-spelled : goal.returns-in-Jump-clause-spelled
returns-in-Jump-clause-spelled c =
    ok_both c.jump.result _ _ _ (λ written spells label.
    branch_spelled c.args.text.now c.args.words.now c.in_ok-name.operands.now c.in_ok-name.name name.Jump written
    c.in_ok-name.ensures.first (c.in-Mnemonic.is ∙ ap name_token c.in-Jump.is) (λ fence no. no) spells label)
    c.jump.ensures.spelled c.jump.ensures.label

pub returns-in-Jump-clause-only : goal.returns-in-Jump-clause-only
returns-in-Jump-clause-only c = λ written it.
    branch_only c.in_ok-name.operands.now name.Jump c.jump.result (λ i no. no) (λ register value no. no)
    (λ fence no. no) c.jump.ensures.only written
    (said c.args.text.now c.args.words.now c.in_ok-name.operands.now c.in_ok-name.name name.Jump written
    c.in_ok-name.ensures.first (c.in-Mnemonic.is ∙ ap name_token c.in-Jump.is) it)

pub returns-in-JumpAndLink-clause-spelled : goal.returns-in-JumpAndLink-clause-spelled
returns-in-JumpAndLink-clause-spelled c =
    ok_both c.jump_and_link.result _ _ _ (λ written spells label.
    branch_spelled c.args.text.now c.args.words.now c.in_ok-name.operands.now c.in_ok-name.name name.JumpAndLink written
    c.in_ok-name.ensures.first (c.in-Mnemonic.is ∙ ap name_token c.in-JumpAndLink.is) (λ fence no. no) spells label)
    c.jump_and_link.ensures.spelled c.jump_and_link.ensures.label

pub returns-in-JumpAndLink-clause-only : goal.returns-in-JumpAndLink-clause-only
returns-in-JumpAndLink-clause-only c = λ written it.
    branch_only c.in_ok-name.operands.now name.JumpAndLink c.jump_and_link.result (λ i no. no) (λ register value no. no)
    (λ fence no. no) c.jump_and_link.ensures.only written
    (said c.args.text.now c.args.words.now c.in_ok-name.operands.now c.in_ok-name.name name.JumpAndLink written
    c.in_ok-name.ensures.first (c.in-Mnemonic.is ∙ ap name_token c.in-JumpAndLink.is) it)
