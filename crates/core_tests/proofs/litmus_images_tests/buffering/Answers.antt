use Rattle.std.proofs.Common.{rules, arith}
use Rattle.core_tests.proofs.ShortThreads.{two_short}
use Rattle.core_tests.proofs.litmus_images_tests.buffering.Goals as goal

pub returns : goal.returns
returns c =
    let threads = c.in_ok-threads.ensures in
    let short = two_short 2 c.in_ok-threads.threads.items threads.sound threads.two in
    search (rules, short)
