use Rattle.std.specs.Prelude.{◌≡◌, ℕ, true}
use Rattle.std.proofs.Common.{subst, ◌∙◌}
use Rattle.live_registers.specs.{Table.live_of, Targets.allows, Onward.goes_on_at}
use Rattle.live_registers.proofs.Listed.{allowed}
use Rattle.live_registers.proofs.checking.is_live_behind.Goals as goal

pub returns-else-targets : goal.returns-else-targets
returns-else-targets c = λ to going live.
    let targets = c.args.targets.now in
    c.is_live_at_target.ensures
    ∙ allowed (λ (pc : ℕ). live_of c.args.table.now pc c.args.register) targets c.args.pc to
    (subst (λ onward. goes_on_at (allows targets) c.args.pc onward to ≡ true) c.in-AsListed.is going)
    c.if-targets.false live
