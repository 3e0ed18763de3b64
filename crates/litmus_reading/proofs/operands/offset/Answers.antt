use Rattle.std.proofs.Common.{ap, ◌∙◌}
use Rattle.litmus_words.specs.Tokens.{tokens}
use Rattle.litmus_reading.proofs.Chains.{gives_so, offset_taken}
use Rattle.litmus_reading.proofs.operands.offset.Goals as goal

pub returns-clause-only : goal.returns-clause-only
returns-clause-only c = λ offset base it.
    let taken = offset_taken c.args.words.now offset base (c.begins_with.ensures.no c.if-begins_with.false) it in
    gives_so c.short.result _ _ (λ p same. (same.0, ap tokens same.1 ∙ taken.2))
    (c.short.ensures.only offset taken.0 taken.1)
