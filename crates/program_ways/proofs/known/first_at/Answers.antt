use Rattle.program_ways.specs.Keeping.{setup_here}
use Rattle.program_ways.proofs.Listing.{first_there}
use Rattle.program_ways.proofs.known.first_at.Goals as goal

pub returns : goal.returns
returns c = first_there (setup_here c.args.program.now) c.args.shared.now c.args.location 0 c.first_number.result
    (c.first_number.ensures (c.requires.words c.args.location 0 c.requires.there))
