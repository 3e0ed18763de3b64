use Rattle.std.proofs.Common.{◌≡◌, ℕ, sym, subst, ap, Some, None, Option, ◌∙◌}
use Rattle.std.specs.Prelude.{IfSome}
use Rattle.events.specs.declared.effect.Written.{Written}
use Rattle.rv_instr.specs.Decode.{op_of_word}
use Rattle.smt_model.specs.Bytes.{byte_after}
use Rattle.shared_memory.specs.Contents.{CanWrite, byte_of}
use Rattle.decoded_code.proofs.Writing.{kept, decoded_anew, same_bytes}
use Rattle.decoded_code.proofs.code.decode_write.Goals as goal

pub returns-in-Some-place_of : goal.returns-in-Some-place_of
returns-in-Some-place_of c before is written =
    let w = c.in-Some.field-0 in
    let image = c.args.memory.now.image in
    let can : CanWrite image w = subst (λ (o : Option Written). IfSome o (CanWrite image)) c.in-Some.is c.requires in
    let so : (a : ℕ) → byte_of c.args.memory.now a ≡ byte_after (Some w) a (before a) =
    λ a. subst (λ (o : Option Written). byte_of c.args.memory.now a ≡ byte_after o a (before a)) c.in-Some.is (written a) in
    decoded_anew image before (byte_of c.args.memory.now) w can so c.args.code.now is c.in-Some-place_of.place
    c.decoded.result (sym c.place_of.ensures.value ∙ c.in-Some-place_of.is)
    (c.decoded.ensures.word ∙ c.word_around.ensures) (c.decoded.ensures.op ∙ ap (λ word. op_of_word (Some word)) (sym c.decoded.ensures.word)) c.decoded.ensures.in_range

pub returns-in_default-place_of : goal.returns-in_default-place_of
returns-in_default-place_of c before is written =
    let w = c.in-Some.field-0 in
    let image = c.args.memory.now.image in
    let can : CanWrite image w = subst (λ (o : Option Written). IfSome o (CanWrite image)) c.in-Some.is c.requires in
    let so : (a : ℕ) → byte_of c.args.memory.now a ≡ byte_after (Some w) a (before a) =
    λ a. subst (λ (o : Option Written). byte_of c.args.memory.now a ≡ byte_after o a (before a)) c.in-Some.is (written a) in
    kept image before (byte_of c.args.memory.now) w can so c.args.code.now is
    (sym c.place_of.ensures.value ∙ c.in_default-place_of.is)
