use Rattle.std.proofs.Common.{◌≡◌}
use Rattle.program_io.proofs.test_folder.TestFolder.next_path.Given as goal

-- folders alone were passed over so far
abbrev pub invariant-loop-turn : goal.invariant-loop-turn
invariant-loop-turn g l = record { empty : l.self.is_empty ≡ l.initial.self.is_empty }
