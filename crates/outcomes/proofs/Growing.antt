-- A machine that has learned has begun as it had.
use Rattle.std.proofs.Common.{sym, subst}
use Rattle.smt_model.specs.{Plain.start}
use Rattle.condensed_machine.specs.Machine.{Machine, Program, Grows, InEachSetup}
use Rattle.condensed_machine.specs.{Decoded.state_of, Decoded.Knows, Learning.state_same}
use Rattle.condensed_machine.specs.Steps.{SettlesBy, HasBegun, turns}
use Rattle.condensed_machine.specs.declared.begun.Begun.{Begun}

pub still_begun : (m n : Machine) (begun : Begun) → Grows m n → Knows m begun.state → HasBegun m begun
    → HasBegun n begun
still_begun m n begun grows knows was = record {
  leads = subst (λ z. InEachSetup n.program (λ setup.
      SettlesBy setup n.program (turns begun.ways n.program.harts) (start setup) z))
      (sym (state_same m n begun.state grows knows))
      (subst (λ (p : Program). InEachSetup p (λ setup.
      SettlesBy setup p (turns begun.ways p.harts) (start setup) (state_of m begun.state))) (sym grows.program) was.leads);
}
