use Rattle.std.proofs.Common.{◌≡◌, ◌<◌, refl, sym, ap, subst, ◌∙◌, arith}
use Rattle.condensed_machine.specs.Machine.{Grows, IsSound, Machine, Program}
use Rattle.condensed_machine.specs.MachineInside.{machine_of}
use Rattle.condensed_machine.specs.Decoded.{no_shared}
use Rattle.condensed_machine.specs.Learning.{kept_within, learns_more, still_knows}
use Rattle.condensed_machine.proofs.LosersInTurn.{HaveFollowed, follows_more, have_followed, none_has_followed}
use Rattle.condensed_machine.proofs.LosersInTurn.{one_follows, passes_one}
use Rattle.condensed_machine.proofs.machine.CondensedMachine.follow_losers.Goals as goal
use Rattle.condensed_machine.proofs.machine.CondensedMachine.follow_losers.Goals.{After-number, else-other-hart}
use Rattle.condensed_machine.proofs.machine.CondensedMachine.follow_losers.Goals.{then-other-hart+then-has_lost+in_ok-rest+in_ok-now}

pub loop-other-init : goal.loop-other-init
loop-other-init c = none_has_followed c.args.self.now c.args.state c.requires.known

pub has_lost-requires-clause-before : goal.has_lost-requires-clause-before
has_lost-requires-clause-before c =
    kept_within c.args.self.now.shared_states c.loop-other.self.shared_states c.args.before no_shared
    c.loop-other.invariant.grows.shared_states c.requires.before

pub moved_to-requires-clause-known : goal.moved_to-requires-clause-known
moved_to-requires-clause-known c =
    still_knows c.loop-other.self c.rest_of.new.self c.loop-other.now c.rest_of.ensures.grows
    c.loop-other.invariant.knows

pub returns-in_err-now-clause-grows : goal.returns-in_err-now-clause-grows
returns-in_err-now-clause-grows c =
    learns_more c.args.self.now c.rest_of.new.self c.moved_to.new.self
    (learns_more c.args.self.now c.loop-other.self c.rest_of.new.self c.loop-other.invariant.grows
    c.rest_of.ensures.grows) c.moved_to.ensures.grows

pub loop-other-preserved : goal.loop-other-preserved
loop-other-preserved c =
    let m = c.loop-other.self in
    let now = c.loop-other.now in
    let g = c.loop-other.other in
    let before = c.loop-other.invariant in
    elim c.if-other-hart.branch [
      | then-other-hart+then-has_lost+in_ok-rest+in_ok-now w ↦
          let k = w.rest_of.new.self in
          let n = w.moved_to.new.self in
          let number = w.hart_number-number.result in
          let to = w.in_ok-rest.rest in
          let found = w.rest_of.ensures.grows in
          let grows = w.moved_to.ensures.grows in
          let sound : IsSound k.program = subst IsSound grows.program w.moved_to.ensures.sound in
          let here : g < c.self.inside.program.harts =
          omega (arith, c.loop-other-test.true, c.harts-other-end.ensures.value) in
          let inside : g < m.program.harts =
          subst (λ (p : Program). g < p.harts) (sym before.grows.program)
          (subst (λ (v : Machine). g < v.program.harts) c.self.view_is here) in
          rw (w.self-is, w.now-is, w.turns-is, w.from.ensures)
          (follows_more c.args.self.now m k n c.args.state now w.in_ok-now.now c.loop-other.turns g number to
          c.requires.known before
          (one_follows m k n now w.in_ok-now.now g number to sound found grows before.knows inside
          (w.has_lost.ensures.free w.if-has_lost.true) w.has_lost.ensures.code w.hart_number-number.ensures.value
          w.in_ok-rest.ensures.rest w.in_ok-now.ensures.moved) found)
      | else-other-hart w ↦
          rw (w.self-is, w.now-is, w.turns-is)
          (passes_one c.args.self.now m c.args.state now c.loop-other.turns g before)
    ]

-- ---- Behind the last hart

abbrev after : After-number → Machine
after c = record {
  program = c.self-2.inside.program;
  hart_states = c.self-2.inside.hart_states.keys;
  far_harts = c.self-2.inside.far_harts.keys;
  shared_states = c.self-2.inside.shared_states.keys;
  rows = c.number.new.self;
}

grows : (c : After-number) → Grows (machine_of c.self-2.inside) (after c)
grows c = record {
  program = refl;
  hart_states = λ n x is. is;
  far_harts = λ n x is. is;
  shared_states = λ n x is. is;
  rows = c.number.ensures.kept;
}

pub returns-clause-followed : goal.returns-clause-followed
returns-clause-followed c =
    let at = (goal.at.returns-clause-followed c).After-number in
    let l = c.args.self.now in
    let m = c.loop-other.self in
    let all = c.loop-other.invariant in
    let last : c.loop-other.other ≡ c.harts-other-end.result =
    omega (arith, c.loop-other-test.false, c.loop-other.auto.other-end) in
    let is : c.loop-other.other ≡ m.program.harts =
    last ∙ c.harts-other-end.ensures.value ∙ ap (λ (v : Machine). v.program.harts) c.self.view_is
    ∙ ap (λ (p : Program). p.harts) (sym all.grows.program) in
    have_followed l m (after at) c.args.state c.loop-other.now c.loop-other.turns c.in_ok-others.others
    c.requires.known (subst (λ m. Grows m (after at)) c.self-2.view_is (grows at)) c.in_ok-others.ensures.number
    (subst (HaveFollowed l m c.args.state c.loop-other.now c.loop-other.turns) is all)
