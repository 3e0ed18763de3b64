use Rattle.litmus_images.specs.Image.{litmus_image}
use Rattle.litmus_images.proofs.image.segments_of.Goals as goal

pub returns : goal.returns
unfolding litmus_image
returns c = record {
  code = c.in_ok-bytes.bytes.items;
  spelled = c.in_ok-bytes.ensures;
  made = rw (
    c.in_ok-push.ensures.items,
    c.in_ok-push_locations.ensures,
    c.new-segments.ensures.items,
    c.new.ensures,
    c.deref.ensures.value,
  );
}
