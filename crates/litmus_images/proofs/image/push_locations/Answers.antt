use Rattle.std.proofs.Common.{sym, ◌∙◌, append-nil, length, arith, ◌<◌}
use Rattle.std.proofs.lemmas.Bool.{eqb-true}
use Rattle.litmus_images.proofs.Images.{no_segment, one_segment}
use Rattle.litmus_images.proofs.image.push_locations.Goals as goal

pub returns-then-is_empty : goal.returns-then-is_empty
returns-then-is_empty c =
    let none = eqb-true (length c.args.values.now) 0 (sym c.is_empty.ensures ∙ c.if-is_empty.true) in
    rw (no_segment c.args.values.now none) (sym (append-nil c.args.segments.now.items))

pub returns : goal.returns
returns c =
    let some : 0 < length c.args.values.now = grind arith in
    rw (
      one_segment c.args.values.now some,
      c.in_ok-push.ensures.items,
      c.new.ensures,
      c.in_ok-bytes.ensures,
      c.deref.ensures.value,
      c.in_ok-words.ensures,
    )
