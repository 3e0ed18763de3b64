use Rattle.std.proofs.Common.{slice_index}
use Rattle.shared_memory.proofs.Places.{nothing_written}
use Rattle.shared_memory.proofs.bytes.put_word.Goals as goal

pub returns-clause-bytes : goal.returns-clause-bytes
returns-clause-bytes c =
    let before = c.args.bytes.now in
    c.put_byte-4.ensures.bytes before
    (c.put_byte-3.ensures.bytes before
    (c.put_byte-2.ensures.bytes before
    (c.put_byte.ensures.bytes before
    (λ k. nothing_written c.args.place c.args.datum k (slice_index before k)))))
