use Rattle.std.proofs.Common.{◌≡◌, length}
use Rattle.elf_image.specs.Image.{byte_in}
use Rattle.decoded_code.proofs.Fetching.{AreFetched}
use Rattle.decoded_code.proofs.code.Code.new.Given as goal

-- the words so far are the image's, decoded
abbrev pub invariant-loop-index : goal.invariant-loop-index
invariant-loop-index l = (length l.words.items ≡ l.index) × AreFetched l.image (byte_in l.image) l.start l.words.items
