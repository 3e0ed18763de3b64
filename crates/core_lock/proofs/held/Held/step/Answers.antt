use Rattle.std.proofs.Common.{◌≡◌, ◌∙◌, true, ap, refl, subst, sym}
use Rattle.core_lock.specs.{Asks.is_reply, Passes.more, Passes.later, Passes.IsTold}
use Rattle.core_lock.proofs.Replies.{own_reply, reply_grows, told_still, counted_still, setup_still, limit_still}
use Rattle.core_lock.proofs.held.Held.step.Goals as goal

pub invariant_of-self-clause-counted : goal.invariant_of-self-clause-counted
invariant_of-self-clause-counted g c =
    counted_still _ _ _ _ _ _ _ c.ask_core-said.ensures.answer c.args.self.now.counted
    (c.note.ensures.total ∙ ap (more c.args.self.now.book.total) c.event.ensures)

pub invariant_of-self-clause-setup : goal.invariant_of-self-clause-setup
invariant_of-self-clause-setup g c = setup_still _ _ _ _ _ c.ask_core-said.ensures.answer ∙ c.args.self.now.setup

pub invariant_of-self-clause-limit : goal.invariant_of-self-clause-limit
invariant_of-self-clause-limit g c = limit_still _ _ _ _ _ c.ask_core-said.ensures.answer ∙ c.args.self.now.limit

pub invariant_of-result : goal.invariant_of-result
invariant_of-result g c = record {
  own = subst (λ a. is_reply c.args.pass.now.actor a c.ask_core-said.result ≡ true) (sym c.asked-asked.ensures)
      (own_reply _ _ _ _ _ c.ask_core-said.ensures.answer);
}

pub returns-clause-stepped : goal.returns-clause-stepped
returns-clause-stepped g c =
    let answer = c.ask_core-said.ensures.answer in
    let counts = c.note.ensures.count ∙ ap (more c.args.pass.now.count) c.event.ensures in
    let ends = c.note.ensures.last ∙ ap (later c.args.pass.now.last) c.event.ensures in
    record {
      maker = refl;
      asked = c.asked-asked.ensures;
      answer = answer;
      predicted = c.ask_core-said.ensures.predicted;
      grows = reply_grows _ _ _ _ _ answer;
      going = c.going.ensures;
      actor = c.note.ensures.actor;
      count = counts;
      last = ends;
      idle = c.count.ensures;
      own = own_reply _ _ _ _ _ answer;
      shown = (c.show.ensures.shown, c.show-2.ensures.shown);
      told = λ told.
          subst (λ k. IsTold c.ask_core-said.new.core.past k c.note.new.pass.count c.note.new.pass.last)
          (sym c.note.ensures.actor)
          (told_still _ _ _ _ _ _ _ _ _ answer counts ends told);
    }

pub returns-clause-origin : goal.returns-clause-origin
returns-clause-origin g c = (c.args.self.now.setup, c.args.self.now.limit)
