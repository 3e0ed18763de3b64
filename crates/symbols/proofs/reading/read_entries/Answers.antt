use Rattle.std.proofs.Common.{◌∙◌, rules}
use Rattle.symbols.proofs.Entries.{with_name, without_name}
use Rattle.symbols.proofs.reading.read_entries.Goals as goal

pub loop-index-preserved-then-not-is_name : goal.loop-index-preserved-then-not-is_name
loop-index-preserved-then-not-is_name c =
    without_name c.args.file.now c.args.names.now c.args.place c.loop-index.index c.symbol_at-symbol.result
    c.loop-index.symbols.items c.symbol_at-symbol.ensures (search rules) c.loop-index.invariant

pub loop-index-preserved : goal.loop-index-preserved
loop-index-preserved c =
    c.in_ok-push.ensures.items ∙
    with_name c.args.file.now c.args.names.now c.args.place c.loop-index.index c.symbol_at-symbol.result
    c.loop-index.symbols.items c.symbol_at-symbol.ensures (search rules) c.loop-index.invariant
