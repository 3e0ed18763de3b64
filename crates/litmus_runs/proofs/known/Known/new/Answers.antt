use Rattle.std.proofs.Common.{sym, ◌∙◌, arith}
use Rattle.std.proofs.lemmas.List.Elements.{All-push}
use Rattle.litmus_runs.specs.declared.known.Held.{Held}
use Rattle.litmus_runs.specs.Ways.{MayHave, initially}
use Rattle.litmus_runs.proofs.Tables.{initial_more, initial_less, initial_all}
use Rattle.litmus_runs.proofs.known.Known.new.Goals as goal
use Rattle.litmus_runs.proofs.known.Known.new.Goals.{in-Some+in_ok-push, in_default}

pub loop-location-preserved : goal.loop-location-preserved
loop-location-preserved c = elim c.match-initial_number.branch [
  | in-Some+in_ok-push w ↦
      let there = sym (sym w.in-Some.is ∙ c.initial_number.ensures) in
      rw (w.held-is, w.in_ok-push.ensures.items) record {
        known = All-push (λ (held : Held). MayHave c.args.test.now held.location held.number) c.loop-location.held.items _
            c.loop-location.invariant.known (initially c.loop-location.location w.in-Some.number there);
        initial = initial_more c.args.test.now c.loop-location.held.items c.loop-location.location w.in-Some.number there
            c.loop-location.invariant.initial;
      }
  | in_default w ↦ rw w.held-is record {
    known = c.loop-location.invariant.known;
    initial = initial_less c.args.test.now c.loop-location.held.items c.loop-location.location
        (sym c.initial_number.ensures ∙ w.in_default.is) c.loop-location.invariant.initial;
  }
]

pub returns-clause-initial : goal.returns-clause-initial
returns-clause-initial c = initial_all c.args.test.now c.loop-location.held.items c.loop-location.location
    (omega (arith, c.loop-location-test.false, c.len-location-end.ensures, c.args.test.now.words.ok.0))
    c.loop-location.invariant.initial
