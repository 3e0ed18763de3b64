use Rattle.std.proofs.Common.{◌≡◌}
use Rattle.program_ways.specs.Keeping.{HasWay}
use Rattle.program_ways.proofs.hart.Hart.go_on.Given as goal

abbrev pub invariant-loop-steps : goal.invariant-loop-steps
invariant-loop-steps l = record {
  way : HasWay l.program l.shared l.self;
  index : l.self.index ≡ l.initial.self.index;
}
