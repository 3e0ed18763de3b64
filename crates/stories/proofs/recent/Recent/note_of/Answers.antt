use Rattle.std.proofs.Common.{ap, sym, ◌∙◌}
use Rattle.smt_model.specs.Kinds.{store_size}
use Rattle.stories.specs.Spans.{span_of}
use Rattle.stories.specs.Notes.{again, lost_update, note_of}
use Rattle.stories.proofs.recent.Recent.note_of.Goals as goal

pub returns-in-Stored : goal.returns-in-Stored
returns-in-Stored c = λ past has.
    let h = c.args.hart in
    let addr = c.in-Stored.addr in
    c.lost_update.ensures
    ∙ ap (λ size. lost_update h (span_of addr size) c.newest-rows.result.now) c.store_size.ensures
    ∙ ap (lost_update h (span_of addr (store_size c.in-Stored.op))) (c.newest-rows.ensures past has)
    ∙ sym (ap (λ deed. note_of h deed past) c.in-Stored.is)

pub returns-in-Reserved : goal.returns-in-Reserved
returns-in-Reserved c = λ past has.
    let h = c.args.hart in
    c.again.ensures
    ∙ ap (again h c.in-Reserved.addr c.in-Reserved.number) (c.newest-rows.ensures past has)
    ∙ sym (ap (λ deed. note_of h deed past) c.in-Reserved.is)
