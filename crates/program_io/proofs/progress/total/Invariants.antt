use Rattle.std.proofs.Common.{◌≡◌, ◌%◌, ◌^◌, take, sum}
use Rattle.program_io.proofs.progress.total.Given as goal

-- the counts so far are added up
abbrev pub invariant-loop-count : goal.invariant-loop-count
invariant-loop-count l = l.all ≡ sum (take l.count-index l.counts) % 2 ^ 64
