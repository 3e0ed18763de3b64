use Rattle.std.proofs.Common.{rules, arith}
use Rattle.core_tests.proofs.ShortThreads.{one_short}
use Rattle.core_tests.proofs.litmus_images_tests.branching.Goals as goal

pub returns : goal.returns
returns c =
    let threads = c.in_ok-threads.ensures in
    let short = one_short 0 c.in_ok-threads.threads.items threads.sound threads.one in
    search (rules, short)
