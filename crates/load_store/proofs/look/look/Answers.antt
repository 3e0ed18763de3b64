use Rattle.std.proofs.Common.{◌∙◌, sym}
use Rattle.load_store.proofs.Youngest.{sees_memory, sees_write, sized_youngest}
use Rattle.load_store.proofs.look.look.Goals as goal

pub number_after-requires-clause-sized : goal.number_after-requires-clause-sized
number_after-requires-clause-sized c =
    sized_youngest c.args.seq c.args.addr c.args.n c.args.stores.now c.in-Whole.write c.requires.sized
    (sym c.forwarding.ensures ∙ c.in-Whole.is)

pub returns-in-Whole : goal.returns-in-Whole
returns-in-Whole c =
    c.number_after.ensures
    ∙ sees_write c.args.seq c.args.addr c.args.n c.args.stores.now c.args.memory.now c.in-Whole.write
    (sym c.forwarding.ensures ∙ c.in-Whole.is)

pub returns-in-Nothing : goal.returns-in-Nothing
returns-in-Nothing c =
    c.read.ensures
    ∙ sees_memory c.args.seq c.args.addr c.args.n c.args.stores.now c.args.memory.now
    (sym c.forwarding.ensures ∙ c.in-Nothing.is)
