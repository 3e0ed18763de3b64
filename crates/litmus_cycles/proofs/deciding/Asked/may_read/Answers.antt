use Rattle.std.proofs.Common.{◌<◌, length, refl, sym, ◌∙◌, arith}
use Rattle.std.proofs.lemmas.Option.{slice_get_read}
use Rattle.litmus_cycles.proofs.Given.{none_given}
use Rattle.litmus_cycles.proofs.deciding.Asked.may_read.Goals as goal

pub returns-in-Some : goal.returns-in-Some
returns-in-Some c =
    let inside : c.args.index < length c.args.events.now = omega (arith, c.in-Some.ensures.lookup.3.0) in
    let at = slice_get_read c.args.events.now (length c.args.events.now) c.args.index c.in-Some.event.now refl inside
    c.in-Some.ensures.lookup.1 in
    let asked = c.args.self.now in
    record {
      none = λ fails rest given unsourced. none_given asked.test.now asked.runs.now asked.chosen.now asked.demand rest
          c.args.events.now c.args.index c.in-Some.event.now unsourced given at (sym c.may_have_source.ensures ∙ fails);
    }
