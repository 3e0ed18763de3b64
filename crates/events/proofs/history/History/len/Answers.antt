use Rattle.std.proofs.Common.{length, ap, arith}
use Rattle.std.proofs.lemmas.List.{length-map}
use Rattle.events.specs.Packed.{event_in}
use Rattle.events.proofs.history.History.len.Goals as goal

pub returns-clause-count : goal.returns-clause-count
returns-clause-count c =
    omega (arith, length-map c.self.inside.events.items event_in, ap (λ v. length v.items) c.self.view_is)
