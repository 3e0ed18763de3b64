use Rattle.std.proofs.Common.{◌≡◌}
use Rattle.program_io.proofs.test_list.TestList.next_word.Given as goal

-- lines without a word were passed over so far
abbrev pub invariant-loop-turn : goal.invariant-loop-turn
invariant-loop-turn l = record { empty : l.self.is_empty ≡ l.initial.self.is_empty }
