use Rattle.std.proofs.Common.{◌≡◌, ◌*◌, length, arith}
use Rattle.elf_image.specs.Image.{code_size}
use Rattle.decoded_code.proofs.code.Code.new.Goals as goal

pub returns : goal.returns
returns c =
    let words = c.loop-index.words in
    let size : 4 * length words.items ≡ code_size c.args.image.now =
    omega (arith, c.code-start.ensures.size, c.code-start.ensures.aligned, c.loop-index.invariant.0) in
    record {
      start = c.code-start.ensures.start;
      aligned = c.code-start.ensures.aligned.0;
      size = size;
      each = c.loop-index.invariant.1;
    }
