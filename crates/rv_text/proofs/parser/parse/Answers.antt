use Rattle.std.proofs.Common.{rules, sym, ◌∙◌, ap}
use Rattle.rv_text.specs.Spelling.{mnemonic_of}
use Rattle.rv_text.specs.Reading.{instr_at}
use Rattle.rv_text.proofs.TextLaws.{row_named, said_is_read, result_is_said}
use Rattle.rv_text.proofs.parser.parse.Goals as goal

pub returns-in_default-clause-only : goal.returns-in_default-clause-only
returns-in_default-clause-only c = λ i says.
    let found = c.mnemonic_named.ensures.only (mnemonic_of i)
    (c.split_name.ensures.name ∙ row_named c.args.pc c.args.text.now i says) in
    absurd (cc (found, c.in_default.is))

pub returns-clause-read : goal.returns-clause-read
returns-clause-read c = result_is_said c.args.pc c.ranges.pc.fits c.args.text.now c.in-Some.row c.instr_of.result
    (sym c.split_name.ensures.name ∙ c.in-Some.ensures.found)
    (c.instr_of.ensures ∙ ap (instr_at c.args.pc c.in-Some.row) c.split_name.ensures.operands)

pub returns-clause-only : goal.returns-clause-only
returns-clause-only c =
    λ i says. c.instr_of.ensures ∙ ap (instr_at c.args.pc c.in-Some.row) c.split_name.ensures.operands
    ∙ said_is_read c.args.pc c.ranges.pc.fits c.args.text.now c.in-Some.row
    (sym c.split_name.ensures.name ∙ c.in-Some.ensures.found) i says

pub returns-clause-operands : goal.returns-clause-operands
returns-clause-operands c = search rules
