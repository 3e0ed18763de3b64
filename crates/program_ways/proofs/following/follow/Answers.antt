use Rattle.std.proofs.Common.{Option, List, IfSome, length, sym, ap, subst, arith}
use Rattle.std.proofs.lemmas.List.Elements.{All-pop, All-push}
use Rattle.litmus_runs.specs.declared.runs.Run.{Run}
use Rattle.program_ways.specs.declared.following.Going.{Going}
use Rattle.program_ways.specs.Keeping.{AreGoing, IsGoing}
use Rattle.program_ways.proofs.following.follow.Goals as goal

pub ways-init : goal.ways-init
ways-init c =
    let asked = c.args.asked.now in
    let p = asked.program.now in
    let shared = asked.shared.now in
    let first : Going = record { hart = c.new-2.result; before = c.new-3.result } in
    let none = ap (λ (xs : List Going). length xs) c.new-going.ensures.items in
    let nothing = ap (λ (xs : List Run). length xs) c.new.ensures.items in
    record {
      going = subst (λ (xs : List Going). AreGoing p shared asked.index xs) (sym c.in_ok-push.ensures.items)
          (All-push (λ (one : Going). IsGoing p shared asked.index one.hart) c.new-going.result.items first
          (λ k d within. absurd (omega (arith, within, none)))
          (record { way = c.new-2.ensures.way shared; same = c.new-2.ensures.index }));
      runs = λ k d within. absurd (omega (arith, within, nothing));
      written = c.requires.written;
    }

pub go_on-requires-clause-from : goal.go_on-requires-clause-from
go_on-requires-clause-from c =
    let asked = c.args.asked.now in
    subst (λ (o : Option Going). IfSome o (λ one. IsGoing asked.program.now asked.shared.now asked.index one.hart))
    c.in-Some.is
    (All-pop (λ (one : Going). IsGoing asked.program.now asked.shared.now asked.index one.hart)
    c.ways.going.items c.pop.new.self.items c.pop.result c.pop.ensures.items c.ways.invariant.going).1

pub go_on-requires-clause-going : goal.go_on-requires-clause-going
go_on-requires-clause-going c =
    let asked = c.args.asked.now in
    (All-pop (λ (one : Going). IsGoing asked.program.now asked.shared.now asked.index one.hart)
    c.ways.going.items c.pop.new.self.items c.pop.result c.pop.ensures.items c.ways.invariant.going).0
