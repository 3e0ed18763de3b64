use Rattle.std.proofs.Common.{sym, ◌∙◌, length, arith, ◌<◌}
use Rattle.std.proofs.lemmas.Bool.{eqb-true}
use Rattle.litmus_files.proofs.Files.{with_none, with_some}
use Rattle.litmus_files.proofs.file.file_with.Goals as goal

pub returns-then-is_empty : goal.returns-then-is_empty
returns-then-is_empty c =
    let none = eqb-true (length c.args.locations.now) 0 (sym c.is_empty.ensures ∙ c.if-is_empty.true) in
    sym (with_none c.args.words c.args.locations.now c.args.plain.items none)

pub returns : goal.returns
returns c =
    let some : 0 < length c.args.locations.now = grind arith in
    rw (with_some c.args.words c.args.locations.now c.args.plain.items some, sym c.as_slice.ensures.value)
    c.named_file.ensures
