use Rattle.std.specs.Prelude.{IsTrue, ◌↔◌, ◌≡◌}
use Rattle.std.proofs.Common.{◌∙◌, sym, subst}
use Rattle.core_state.specs.Setup.{setup_of}
use Rattle.scripts.proofs.Sessions.{run_whole}
use Rattle.scripts.proofs.session.run_dealt.Goals as goal

pub returns : goal.returns
returns g c =
    let left = c.finish.ensures in
    let setup = left.origin.0 ∙ sym c.requires.origin.0 in
    rw c.and.ensures
    (run_whole g.P.Predict.predicts c.make_asks-written.result c.finish.result c.args.words.now
    (setup_of c.args.image.now c.args.config.now) c.args.core _ _ _ _ _ _ _ _ c.empty.ensures c.new.ensures
    left.core left.idle setup (left.origin.1 ∙ sym c.requires.origin.1) left.told
    (subst (λ s. IsTrue c.finish.result.own ↔ (s ≡ setup_of c.args.image.now c.args.config.now)) setup left.own)
    left.counts left.counted left.shown c.make_asks-written.ensures)
