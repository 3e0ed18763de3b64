use Rattle.std.proofs.Common.{◌≡◌, ◌≤◌, ◌+◌, [], ◌∷◌, ◌++◌, length, get_or, take, ap, sym, subst, ◌∙◌, arith, List}
use Rattle.std.proofs.lemmas.List.{length_push, take_all, take_more}
use Rattle.events.specs.declared.effect.Record.{Record}
use Rattle.plain_run.proofs.{Running.HasMade, Running.made_none, Running.made_more, Refusing.stops_at}
use Rattle.plain_run.proofs.order.run_order.Goals as goal

pub loop-index-init : goal.loop-index-init
loop-index-init c =
    let none = c.in-Ok-with_capacity.ensures.items in
    record {
      room = c.in-Ok.ensures.ok.room_is;
      count = ap length none;
      space = c.in-Ok-with_capacity.ensures.capacity;
      made = λ setup of_image of_harts.
          subst (λ (xs : List Record). HasMade setup [] xs c.in-Ok.machine) (sym none)
          (made_none setup c.in-Ok.machine (c.in-Ok.ensures.ok.agrees setup of_image of_harts));
    }

pub returns-in-Err-step-clause-stopped : goal.returns-in-Err-step-clause-stopped
returns-in-Err-step-clause-stopped c =
    stops_at c.args.image.now c.args.harts c.args.order.now c.loop-index.index c.in-Err-step.why
    c.loop-index.records.items c.loop-index.machine c.loop-index-test.true c.loop-index.invariant.room
    c.loop-index.invariant.made c.in-Err-step.ensures.refused

pub loop-index-preserved : goal.loop-index-preserved
loop-index-preserved c =
    let order = c.args.order.now in
    let k = c.loop-index.index in
    let said = c.loop-index.records.items in
    let one = c.in-Ok-step.record in
    let more : c.push.new.self.items ≡ said ++ one ∷ [] = rw c.unwrap.ensures at c.push.ensures.items in
    let inside = c.loop-index-test.true in
    record {
      room = c.step.ensures.room ∙ c.loop-index.invariant.room;
      count = ap length more ∙ (length_push said one ∙ ap (λ n. n + 1) c.loop-index.invariant.count);
      space = omega arith;
      made = λ setup of_image of_harts.
          subst (λ xs. HasMade setup xs c.push.new.self.items c.step.new.self) (sym (take_more order k 0 inside))
          (subst (λ (xs : List Record). HasMade setup (take k order ++ get_or order k 0 ∷ []) xs c.step.new.self)
          (sym more)
          (made_more setup (take k order) said (get_or order k 0) c.loop-index.machine.room one c.loop-index.machine
          c.step.new.self (c.loop-index.invariant.made setup of_image of_harts) c.in-Ok-step.ensures.done));
    }

pub returns-clause-ran : goal.returns-clause-ran
returns-clause-ran c = λ setup of_image of_harts.
    let order = c.args.order.now in
    let end : length order ≤ c.loop-index.index = omega arith in
    let said = c.loop-index.records.items in
    let made = subst (λ xs. HasMade setup xs said c.loop-index.machine) (take_all c.loop-index.index order end)
    (c.loop-index.invariant.made setup of_image of_harts) in
    record {
      ran = made.ran;
      runs = made.runs;
      records = made.records;
      output = made.agrees.output;
      statuses = c.statuses_of-statuses.ensures setup made.ran.state made.agrees;
      agrees = made.agrees;
    }
