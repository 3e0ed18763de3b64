use Rattle.std.proofs.Common.{ap, ◌∙◌}
use Rattle.shared_memory.specs.Contents.{byte_of}
use Rattle.smt_model.specs.{Bytes.number_at, Memory.byte_at}
use Rattle.watched_outcomes.specs.Watching.{bytes_of}
use Rattle.stress_runs.proofs.Watched.{number_same}
use Rattle.stress_runs.proofs.end.word_in.Goals as goal

pub returns : goal.returns
returns c =
    let core = c.args.core.now in
    c.read.ensures ∙ ap (λ n. number_at (byte_of c.memory.result.now) c.args.bytes.address n) c.bytes.ensures
    ∙ number_same (byte_of c.memory.result.now) (byte_at core.setup core.past) c.memory.ensures.bytes
    c.args.bytes.address (bytes_of c.args.bytes.width)
