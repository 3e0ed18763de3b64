use Rattle.std.proofs.Common.{◌∙◌}
use Rattle.core_commands.proofs.OfRun.{ran_refusal, same_setup, are_accepted, are_manned, for_sizes, for_roles}
use Rattle.core_commands.proofs.run.run_locked.Goals as goal

pub returns-in-Ok-clause-accepted : goal.returns-in-Ok-clause-accepted
returns-in-Ok-clause-accepted g c =
    let settings = c.args.settings.now in
    let program = c.args.image.now in
    let copy = c.copied-config in
    let same = same_setup program settings.config copy.result copy.ensures.sizes copy.ensures.roles in
    are_accepted settings program c.in-Ok.unlocked c.run_counted.result c.in-Ok.is
    (for_sizes settings program copy.result c.run_counted.result same c.run_counted.ensures.config)

pub returns-in-Ok-clause-manned : goal.returns-in-Ok-clause-manned
returns-in-Ok-clause-manned g c =
    let settings = c.args.settings.now in
    let program = c.args.image.now in
    let copy = c.copied-config in
    let same = same_setup program settings.config copy.result copy.ensures.sizes copy.ensures.roles in
    are_manned settings program c.in-Ok.unlocked c.run_counted.result c.in-Ok.is
    (for_sizes settings program copy.result c.run_counted.result same c.run_counted.ensures.config)
    (for_roles settings program copy.result c.run_counted.result same copy.ensures.roles c.run_counted.ensures.roles)

pub returns-in-Err-clause-refused : goal.returns-in-Err-clause-refused
returns-in-Err-clause-refused g c =
    let settings = c.args.settings.now in
    let program = c.args.image.now in
    let copy = c.copied-config in
    let same = same_setup program settings.config copy.result copy.ensures.sizes copy.ensures.roles in
    rw c.refused_run.ensures
    (ran_refusal settings program c.run_counted.result c.in-Err.why c.in-Err.is
    (for_sizes settings program copy.result c.run_counted.result same c.run_counted.ensures.config)
    (for_roles settings program copy.result c.run_counted.result same copy.ensures.roles c.run_counted.ensures.roles))

pub returns-in-Ok-clause-ran : goal.returns-in-Ok-clause-ran
returns-in-Ok-clause-ran g c =
    let settings = c.args.settings.now in
    let copy = c.copied-config in
    let ran = c.in-Ok.ensures in
    record {
      setup = ran.setup
          ∙ same_setup c.args.image.now settings.config copy.result copy.ensures.sizes copy.ensures.roles;
      limit = ran.limit;
      own = ran.own;
      counted = ran.counted;
      told = ran.told;
      shown = ran.shown;
    }
