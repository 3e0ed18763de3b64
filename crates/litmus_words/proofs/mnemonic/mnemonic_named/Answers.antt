use Rattle.litmus_words.proofs.{InstructionNames.no_instruction, Once.if_none_then}
use Rattle.litmus_words.proofs.mnemonic.mnemonic_named.Goals as goal

pub returns-in-Some-row_named-clause-none : goal.returns-in-Some-row_named-clause-none
returns-in-Some-row_named-clause-none c =
    let none = rw c.in_default.is at c.pseudo_named.ensures.none in
    let none' = rw c.in_default-branch_named.is at c.branch_named.ensures.none in
    if_none_then c.of_row.result c.of_row.ensures.none
    (λ none''. λ m is. no_instruction c.args.name.now c.in-Some-row_named.row none none' c.in-Some-row_named.ensures.found
    none'' m is)
