use Rattle.std.proofs.lemmas.List.Elements.{All-push}
use Rattle.program_ways.specs.declared.known.Held.{Held}
use Rattle.program_ways.specs.Keeping.{setup_here, MayHaveAt}
use Rattle.program_ways.proofs.known.Known.new.Goals as goal

pub loop-location-preserved : goal.loop-location-preserved
loop-location-preserved c =
    rw c.in_ok-push.ensures.items
    (All-push (λ (held : Held). MayHaveAt (setup_here c.args.program.now) c.args.shared.now held.location held.number)
    c.loop-location.held.items _ c.loop-location.invariant c.first_at-number.ensures)
