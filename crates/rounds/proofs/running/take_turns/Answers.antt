use Rattle.address_labels.specs.Labels.{marks_of}
use Rattle.std.proofs.Common.{◌≡◌, ◌<◌, min, ◌∙◌, ap, sym, arith}
use Rattle.rounds.proofs.Taking.{had_none, had_some, had_more, made_all, made_until}
use Rattle.rounds.proofs.running.take_turns.Goals as goal

pub loop-left-init : goal.loop-left-init
loop-left-init g c = λ setup agrees.
    had_none setup c.args.rounds c.args.records (marks_of c.args.labels.now) (g.W.Write.contents c.args.out.now) c.first_number-number.result
    c.args.machine.now c.first_number-number.ensures agrees

pub overflow_sub-result : goal.overflow_sub-result
overflow_sub-result g c =
    let count = (c.loop-left.invariant c.requires.start.0 c.requires.start.1).count in omega arith

pub returns-in_default : goal.returns-in_default
returns-in_default g c = λ setup agrees.
    made_until setup c.args.rounds c.args.records (marks_of c.args.labels.now) _ _ c.loop-left.left c.loop-left.number c.loop-left.last
    c.loop-left.machine (c.loop-left.invariant setup agrees)
    (λ other s has. sym c.in_default.is ∙ c.next_hart.ensures other s has)

pub loop-left-smaller : goal.loop-left-smaller
loop-left-smaller g c =
    let setup = c.requires.start.0 in
    let is : c.min-limit.result ≡ min c.loop-left.left c.args.rounds.each =
    c.min-limit.ensures ∙ ap (λ n. min c.loop-left.left n) c.from.ensures in
    let going : 0 < c.min-limit.result = omega arith in
    let some : 0 < c.in_ok-left.field-0 = had_some setup c.args.rounds c.args.records (marks_of c.args.labels.now) _ _ _ c.loop-left.left
    c.in-Some.hart c.in_ok-left.field-0 c.min-limit.result c.loop-left.number c.loop-left.last c.loop-left.machine
    c.take_turn.new.machine (c.loop-left.invariant setup c.requires.start.1)
    (λ other s has. sym c.in-Some.is ∙ c.next_hart.ensures other s has) c.in_ok-left.ensures.made
    c.in_ok-left.ensures.stands going in
    omega arith

pub loop-left-preserved : goal.loop-left-preserved
loop-left-preserved g c = λ setup agrees.
    let is : c.min-limit.result ≡ min c.loop-left.left c.args.rounds.each =
    c.min-limit.ensures ∙ ap (λ n. min c.loop-left.left n) c.from.ensures in
    let going : 0 < c.min-limit.result = omega arith in
    had_more setup c.args.rounds c.args.records (marks_of c.args.labels.now) _ _ _ c.loop-left.left c.in-Some.hart c.in_ok-left.field-0
    c.min-limit.result c.loop-left.number c.loop-left.last c.following-number.result c.loop-left.machine
    c.take_turn.new.machine (c.loop-left.invariant setup agrees)
    (λ other s has. sym c.in-Some.is ∙ c.next_hart.ensures other s has) c.in_ok-left.ensures.made
    c.in_ok-left.ensures.stands is c.in_ok-left.ensures.within going c.following-number.ensures

pub returns : goal.returns
returns g c = λ setup agrees.
    made_all setup c.args.rounds c.args.records (marks_of c.args.labels.now) _ _ c.loop-left.left c.loop-left.number c.loop-left.last
    c.loop-left.machine (c.loop-left.invariant setup agrees) (omega arith)
