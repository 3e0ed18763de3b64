use Rattle.std.proofs.Common.{◌≡◌, ◌<◌, true, sym, subst, ◌∙◌, arith}
use Rattle.std.specs.Prelude.{nat_lt}
use Rattle.std.proofs.lemmas.Bool.Decides.{nat_tests}
use Rattle.sc_machine.specs.{Machine.Agrees, MachineInside.machine_of}
use Rattle.sc_machine.proofs.Stepping.{refused_standing, refused_full, not_refused, made, blocked_same, after_same}
use Rattle.sc_machine.proofs.machine.Plain.step.Goals as goal

pub returns-then-not-is_going-clause-refused : goal.returns-then-not-is_going-clause-refused
returns-then-not-is_going-clause-refused c = λ setup s agrees.
    let h = c.args.hart in
    let here : Agrees setup s (machine_of c.self.inside) = subst (Agrees setup s) (sym c.self.view_is) agrees in
    let inside : h < setup.harts =
    omega (arith, here.count, c.from.ensures, c.len.ensures, c.if-from-len.false) in
    let there : nat_lt h setup.harts ≡ true = grind (arith, nat_tests) in
    refused_standing setup c.args.self.now.room s h there
    (sym (c.is_going.ensures setup s agrees) ∙ c.if-not-is_going.true)

pub returns-then-lacks_room-clause-refused : goal.returns-then-lacks_room-clause-refused
returns-then-lacks_room-clause-refused c = λ setup s agrees.
    let h = c.args.hart in
    let here : Agrees setup s (machine_of c.self.inside) = subst (Agrees setup s) (sym c.self.view_is) agrees in
    let inside : h < setup.harts =
    omega (arith, here.count, c.from.ensures, c.len.ensures, c.if-from-len.false) in
    let there : nat_lt h setup.harts ≡ true = grind (arith, nat_tests) in
    let same = blocked_same setup s c.args.self.now h c.execution-execution.result agrees
    (c.execution-execution.ensures.is setup s agrees) in
    refused_full setup c.args.self.now.room s h there
    (sym (c.is_going.ensures setup s agrees) ∙ c.if-not-is_going.false)
    (sym same ∙ (sym c.lacks_room.ensures.blocked ∙ c.if-lacks_room.true))

pub returns-clause-done : goal.returns-clause-done
returns-clause-done c = λ setup before agrees.
    let h = c.args.hart in
    let s = before.state in
    let e = c.execution-execution.result in
    let here : Agrees setup s (machine_of c.self.inside) = subst (Agrees setup s) (sym c.self.view_is) agrees in
    let inside : h < setup.harts =
    omega (arith, here.count, c.from.ensures, c.len.ensures, c.if-from-len.false) in
    let there : nat_lt h setup.harts ≡ true = grind (arith, nat_tests) in
    let goes = sym (c.is_going.ensures setup s agrees) ∙ c.if-not-is_going.false in
    let is = c.execution-execution.ensures.is setup s agrees in
    let same = blocked_same setup s c.args.self.now h e agrees is in
    record {
      goes = not_refused setup c.args.self.now.room s h there goes
          (sym same ∙ (sym c.lacks_room.ensures.blocked ∙ c.if-lacks_room.false));
      made = made setup h before there goes;
      said_is = is.said;
      agrees = subst (λ p. Agrees setup p c.apply.new.self) (after_same setup before h e is)
          (c.apply.ensures.agrees setup s agrees);
    }
