use Rattle.std.proofs.Common.{ℕ, List, Option, Some, None, slice_index_or, refl, ap, ◌∙◌}
use Rattle.smt_model.specs.Bytes.{write_of}
use Rattle.smt_model.specs.Reservations.{reservation_after_write}
use Rattle.shared_memory.specs.Contents.{Contents, byte_of, reserved_of}
use Rattle.shared_memory.proofs.Ending.{all_ended, still_none}
use Rattle.shared_memory.proofs.memory.Memory.write.Goals as goal

pub invariant_of-self : goal.invariant_of-self
invariant_of-self c =
    let w = write_of c.args.addr c.args.n c.args.datum in
    let was = c.self.invariant in
    record {
      whole = was.whole;
      within = was.within;
      pages = was.pages;
      room = was.room;
      few = was.few;
      none = λ h above. still_none w c.self.inside.reach h _ _ above (was.none h above) (c.end_below.ensures.held w h refl);
    }

pub returns : goal.returns
unfolding byte_of
returns c =
    let w = write_of c.args.addr c.args.n c.args.datum in
    record {
      same = ap (λ (m : Contents). m.image) c.self.view_is ∙ c.write_bytes.ensures.image;
      bytes = λ a. ap (λ (m : Contents). byte_of m a) c.self.view_is ∙ c.write_bytes.ensures.bytes a;
      reserved = λ h. all_ended w c.self.inside.reach h _ _ (c.self.invariant.none h) (c.end_below.ensures.held w h refl)
          ∙ ap (λ (m : Contents). reservation_after_write (Some w) (reserved_of m h)) c.self.view_is
          ∙ ap (λ (rs : List (Option ℕ)). reservation_after_write (Some w) (slice_index_or rs h None))
          c.write_bytes.ensures.reserved;
    }
