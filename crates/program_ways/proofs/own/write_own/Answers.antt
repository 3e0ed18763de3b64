use Rattle.std.proofs.Common.{◌≡◌, ◌%◌, Option, List, sym, ap, subst, ◌∙◌, IfSome, slice_index}
use Rattle.std.proofs.lemmas.Result.{on_ok_weaker}
use Rattle.events.specs.declared.effect.Written.{Written}
use Rattle.smt_model.specs.Bytes.{byte_after, written_byte}
use Rattle.shared_memory.specs.Contents.{CanWrite}
use Rattle.program_ways.specs.declared.own.OwnWord.{OwnWord}
use Rattle.program_ways.specs.Keeping.{own_byte}
use Rattle.program_ways.proofs.Bytes.{written_own}
use Rattle.program_ways.proofs.own.write_own.Goals as goal

pub returns : goal.returns
returns c = on_ok_weaker c.keep.result
    (λ kept addr inside.
    let image = c.args.program.now.memory.image in
    let bytes = c.bytes_behind-bytes.result in
    kept image addr
    ∙ written_own image c.args.own.now.items c.in-Some.written bytes c.word_around.result addr
    (subst (λ (o : Option Written). IfSome o (CanWrite image)) c.in-Some.is c.requires.write) c.word_around.ensures
    (λ same. subst (λ (own : List OwnWord). slice_index bytes (addr % 4)
    ≡ written_byte c.in-Some.written addr (own_byte image own addr)) c.as_slice.ensures.value
    (c.bytes_behind-bytes.ensures addr inside same))
    ∙ ap (λ (o : Option Written). byte_after o addr (own_byte image c.args.own.now.items addr)) (sym c.in-Some.is))
    c.keep.ensures
