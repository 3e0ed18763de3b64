use Rattle.std.proofs.Common.{◌-◌, Some, slice_index_or, sym, ap, ◌∙◌, arith}
use Rattle.std.proofs.lemmas.Fmt.{decimal_injective}
use Rattle.scripts.proofs.Decimals.{one_digit}
use Rattle.scripts.proofs.fields.read_hart.Goals as goal

pub returns-in-48-to-57-clause-found : goal.returns-in-48-to-57-clause-found
returns-in-48-to-57-clause-found c =
    let text = c.args.text.now in
    record { in_range = omega arith; spelled = one_digit text (omega arith) (omega arith) (omega arith) }

pub returns-in-48-to-57-clause-only : goal.returns-in-48-to-57-clause-only
returns-in-48-to-57-clause-only c = λ hart spells.
    let text = c.args.text.now in
    let number = slice_index_or text 0 0 - 48 in
    let same = sym (one_digit text (omega arith) (omega arith) (omega arith)) ∙ spells.spelled in
    ap Some (decimal_injective number hart (omega arith) (omega (arith, spells.in_range)) same)
