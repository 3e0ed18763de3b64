use Rattle.shared_memory.proofs.Starting.{is_start, none_reserved}
use Rattle.shared_memory.proofs.memory.Memory.new.Goals as goal

pub returns : goal.returns
returns c =
    let made = c.in_ok-first_bytes.ensures in
    is_start c.args.image.now _ made.well_formed made.bytes c.in_ok-try_clone.ensures none_reserved
