use Rattle.std.specs.Prelude.{◌≡◌, true}
use Rattle.std.proofs.Common.{subst, ◌∙◌}
use Rattle.live_registers.specs.{Table.kept_of, Targets.allows, Onward.goes_on_at}
use Rattle.live_registers.proofs.Listed.{allowed}
use Rattle.live_registers.proofs.checking.is_kept_behind.Goals as goal

pub returns-else-targets : goal.returns-else-targets
returns-else-targets c = λ to going kept.
    let targets = c.args.targets.now in
    c.is_kept_at_target.ensures
    ∙ allowed (kept_of c.args.table.now) targets c.args.pc to
    (subst (λ onward. goes_on_at (allows targets) c.args.pc onward to ≡ true) c.in-AsListed.is going)
    c.if-targets.false kept
