use Rattle.std.proofs.Common.{◌<◌, length, refl, sym, ◌∙◌, arith}
use Rattle.std.proofs.lemmas.Option.{slice_get_read}
use Rattle.litmus_cycles.proofs.Standing.{none_placed}
use Rattle.litmus_cycles.proofs.deciding.Asked.may_stand.Goals as goal

pub returns-in-Some : goal.returns-in-Some
returns-in-Some c =
    let inside : c.args.index < length c.args.events.now = omega (arith, c.in-Some.ensures.lookup.3.0) in
    let at = slice_get_read c.args.events.now (length c.args.events.now) c.args.index c.in-Some.write.now refl inside
    c.in-Some.ensures.lookup.1 in
    let asked = c.args.self.now in
    record {
      none = λ fails rest stands unsourced. none_placed asked.test.now asked.runs.now asked.chosen.now asked.demand rest
          c.args.events.now c.args.index c.in-Some.write.now unsourced stands at (sym c.may_have_place.ensures ∙ fails);
    }
