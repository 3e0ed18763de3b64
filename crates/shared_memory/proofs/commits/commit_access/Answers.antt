use Rattle.std.specs.Prelude.{◌≡◌, ℕ}
use Rattle.std.proofs.Common.{◌∙◌, refl, ap}
use Rattle.smt_model.specs.Bytes.{byte_after}
use Rattle.shared_memory.specs.Contents.{Contents, byte_of}
use Rattle.shared_memory.proofs.commits.commit_access.Goals as goal

same_byte : (m n : Contents) (addr : ℕ) → m.bytes ≡ n.bytes → byte_of m addr ≡ byte_of n addr
unfolding byte_of
same_byte m n addr same = rw same refl

pub returns-clause-bytes : goal.returns-clause-bytes
returns-clause-bytes c a =
    c.write_memory.ensures.bytes a
    ∙ ap (byte_after c.args.write a)
    (same_byte c.change_reservation.new.memory c.args.memory.now a c.change_reservation.ensures.bytes)
