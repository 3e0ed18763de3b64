use Rattle.std.proofs.Common.{◌∙◌, sym}
use Rattle.symbols.specs.Tables.{table_of}
use Rattle.symbols.proofs.NameMeanings.{is_one, are_several, is_nothing}
use Rattle.symbols.proofs.meanings.meaning_of.Goals as goal

pub returns-in_default : goal.returns-in_default
returns-in_default c =
    is_nothing (table_of c.args.symbols.now) c.args.name.now c.is_known-global_alone.result
    c.is_known-global_alone.ensures (sym c.first_namesake.ensures ∙ c.in_default.is)

pub returns-then-is_elsewhere : goal.returns-then-is_elsewhere
returns-then-is_elsewhere c =
    are_several (table_of c.args.symbols.now) c.args.name.now c.is_known-global_alone.result c.in-Some.first
    c.is_known-global_alone.ensures (sym c.first_namesake.ensures ∙ c.in-Some.is)
    (sym c.is_elsewhere.ensures ∙ c.if-is_elsewhere.true)

pub returns : goal.returns
returns c =
    is_one (table_of c.args.symbols.now) c.args.name.now c.is_known-global_alone.result c.in-Some.first
    c.is_known-global_alone.ensures (sym c.first_namesake.ensures ∙ c.in-Some.is)
    (sym c.is_elsewhere.ensures ∙ c.if-is_elsewhere.false)
