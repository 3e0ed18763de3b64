use Rattle.std.proofs.Common.{sym, subst}
use Rattle.std.proofs.lemmas.Result.{on_ok_weaker}
use Rattle.elf_image.specs.Image.{byte_in}
use Rattle.shared_memory.specs.Contents.{byte_of}
use Rattle.changed_memory.specs.Canonical.{IsCanonical}
use Rattle.changed_memory.proofs.Canonical.{stay_of}
use Rattle.changed_memory.proofs.shared.SharedState.advance.Goals as goal

pub returns-clause-canonical : goal.returns-clause-canonical
returns-clause-canonical c = on_ok_weaker c.put_out.result (λ put is.
    let image = c.args.start.now.image in
    let bytes = c.requires.start.bytes in
    let old = subst (IsCanonical image) (sym c.self.view_is) is in
    record {
      changes = stay_of (byte_of c.args.start.now) (byte_in image) c.write.new.changes.items bytes
          (c.in_ok-write.ensures.canonical
          (stay_of (byte_in image) (byte_of c.args.start.now) c.self.inside.changes.items (λ a. sym (bytes a))
          old.changes));
      room = c.reserve.ensures.room;
    }) c.put_out.ensures
