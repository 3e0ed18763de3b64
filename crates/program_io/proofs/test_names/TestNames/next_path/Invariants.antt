use Rattle.std.proofs.Common.{◌≤◌}
use Rattle.program_io.specs.Names.{owed}
use Rattle.program_io.proofs.test_names.TestNames.next_path.Given as goal

-- what is opened comes to something later
abbrev pub invariant-loop-turn : goal.invariant-loop-turn
invariant-loop-turn g l = record { owed : owed l.initial.self ≤ owed l.self }
