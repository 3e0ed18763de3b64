use Rattle.std.proofs.Common.{Option, List, IfSome, sym, subst}
use Rattle.std.proofs.lemmas.List.Elements.{All-pop, All-push}
use Rattle.litmus_runs.specs.declared.finding.Found.{Found}
use Rattle.program_ways.specs.declared.{hart.Hart.Hart, following.Going.Going}
use Rattle.program_ways.specs.Keeping.{IsGoing, AreGoing, MayFind}
use Rattle.program_ways.proofs.following.share.Goals as goal

pub share_with-requires-clause-found : goal.share_with-requires-clause-found
share_with-requires-clause-found c =
    let may = MayFind c.args.asked.now.known.now.held.items c.args.sharing in
    subst (λ (o : Option Found). IfSome o may) c.in-Some.is
    (All-pop may c.loop-found.all.items c.pop.new.self.items c.pop.result c.pop.ensures.items
    c.loop-found.invariant.all).1

pub loop-found-preserved-in-Continue-branch-7 : goal.loop-found-preserved-in-Continue-branch-7
loop-found-preserved-in-Continue-branch-7 c =
    let asked = c.args.asked.now in
    let may = MayFind asked.known.now.held.items c.args.sharing in
    let is_going = IsGoing asked.program.now asked.shared.now asked.index in
    let one : Going = record { hart = c.in-Some-2.next; before = c.in_ok-before.before } in
    record {
      all = (All-pop may c.loop-found.all.items c.pop.new.self.items c.pop.result c.pop.ensures.items
          c.loop-found.invariant.all).0;
      going = subst (λ (xs : List Going). AreGoing asked.program.now asked.shared.now asked.index xs)
          (sym c.in_ok-push-in-Some-2.ensures.items)
          (All-push (λ (it : Going). is_going it.hart) c.loop-found.going.items one c.loop-found.invariant.going
          (subst (λ (o : Option Hart). IfSome o is_going) c.in-Some-2.is c.in_ok-next.ensures));
      runs = c.loop-found.invariant.runs;
      written = c.loop-found.invariant.written;
    }

pub loop-found-preserved : goal.loop-found-preserved
loop-found-preserved c =
    let may = MayFind c.args.asked.now.known.now.held.items c.args.sharing in
    record {
      all = (All-pop may c.loop-found.all.items c.pop.new.self.items c.pop.result c.pop.ensures.items
          c.loop-found.invariant.all).0;
      going = c.loop-found.invariant.going;
      runs = c.loop-found.invariant.runs;
      written = c.in_ok-learn-in-None.ensures;
    }
