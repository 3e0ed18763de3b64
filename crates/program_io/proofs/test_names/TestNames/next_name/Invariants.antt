use Rattle.std.proofs.Common.{◌≡◌, vec_len}
use Rattle.program_io.specs.Names.{owed_of_names}
use Rattle.program_io.proofs.test_names.TestNames.next_name.Given as goal

-- each list is left out, until one has a name
abbrev pub decreases-loop-list : goal.decreases-loop-list
decreases-loop-list g l = vec_len l.self.lists

abbrev pub invariant-loop-list : goal.invariant-loop-list
invariant-loop-list g l = record {
  folder : l.self.folder ≡ l.initial.self.folder;
  names : owed_of_names l.self ≡ owed_of_names l.initial.self;
}
