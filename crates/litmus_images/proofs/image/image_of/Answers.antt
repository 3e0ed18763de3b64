use Rattle.std.proofs.Common.{◌≡◌}
use Rattle.litmus_images.specs.Image.{code_begin}
use Rattle.litmus_images.proofs.Images.{well_formed}
use Rattle.litmus_images.proofs.image.image_of.Goals as goal

pub new-requires-2 : goal.new-requires-2
new-requires-2 c =
    let is = rw c.unwrap-ram.ensures at c.new.ensures.value in
    let size : c.unwrap-ram.result ≡ 65536 = is in
    rw size (well_formed c.args.test.now
    (record { ram = 65536; entry = code_begin; segments = c.in_ok-segments.segments.items })
    c.requires c.in_ok-segments.ensures)
