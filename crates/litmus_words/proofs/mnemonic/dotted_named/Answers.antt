use Rattle.std.proofs.Common.{◌≡◌, ◌∙◌, refl, lit<, arith}
use Rattle.std.specs.{Prelude.codes}
use Rattle.std.proofs.lemmas.{Grind.common_steps, Slice.Eq.bytes_eq-Decides, Str.Pattern.split_parts}
use Rattle.litmus_words.proofs.mnemonic.dotted_named.Goals as goal

pub returns-in-Some-atomic_named-clause-found : goal.returns-in-Some-atomic_named-clause-found
returns-in-Some-atomic_named-clause-found c =
    let parts =
    rw c.in-Some.is at (split_parts 46 c.args.name.now c.split_once.result c.split_once.ensures.cases (lit< tt)) in
    let bits : c.in-Some.bits.now ≡ codes "w.aq.rl" =
    grind (arith, common_steps, bytes_eq-Decides c.in-Some.bits.now (codes "w.aq.rl"), c.ne.ensures, c.if-ne.false) in
    (parts.0 ∙ rw (c.in-Some-atomic_named.ensures.found, bits) refl, refl, refl)
