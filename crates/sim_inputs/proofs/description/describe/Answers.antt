use Rattle.sim_inputs.specs.Rules.{top}
use Rattle.sim_inputs.proofs.description.describe.Goals as goal

pub returns : goal.returns
returns c =
    let of_reports = rw c.in_ok-of_reports.was at c.add_of_reports.ensures top c.without_subcommands.ensures in
    let of_images = rw c.in_ok-of_images.was at c.add_of_images.ensures _ of_reports in
    c.add_subcommands.ensures _ of_images
