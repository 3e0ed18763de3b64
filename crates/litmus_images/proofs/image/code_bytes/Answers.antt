use Rattle.litmus_images.proofs.Ranges.{code_in_range}
use Rattle.litmus_images.proofs.image.code_bytes.Goals as goal

pub words_of-requires : goal.words_of-requires
words_of-requires c = rw (c.deref.ensures.value, c.in_ok-code.ensures) (code_in_range c.args.test.now c.requires)
