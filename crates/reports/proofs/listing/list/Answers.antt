use Rattle.std.proofs.Common.{◌+◌, ◌*◌, ℕ, refl, subst}
use Rattle.std.specs.Io.KnownBytes.{Appends}
use Rattle.elf_image.specs.Image.{word_in}
use Rattle.address_labels.specs.Labels.{marks_of}
use Rattle.reports.specs.Listing.{listing_line}
use Rattle.reports.proofs.WordLines.{has_word, word_is, lines_step}
use Rattle.reports.proofs.listing.list.Goals as goal

pub unwrap-word-requires : goal.unwrap-word-requires
unwrap-word-requires g c =
    let code = c.code-start.ensures in
    let there =
    has_word c.args.image.now _ _ c.loop-index.index code.start code.size code.aligned c.loop-index-test.true in
    rw (c.code_word.ensures, there) refl

pub loop-index-preserved : goal.loop-index-preserved
loop-index-preserved g c =
    let code = c.code-start.ensures in
    let pc : ℕ = c.code-start.result.0 + 4 * c.loop-index.index in
    let there =
    has_word c.args.image.now _ _ c.loop-index.index code.start code.size code.aligned c.loop-index-test.true in
    let word = word_is c.args.image.now pc c.unwrap-word.result c.code_word.result c.code_word.ensures
    c.unwrap-word.ensures there in
    lines_step _ _ _ (λ at. listing_line (marks_of c.args.labels.now) at (word_in c.args.image.now at)) c.code-start.result.0 c.loop-index.index
    c.loop-index.invariant
    (subst
    (λ w. Appends (g.W.Write.contents c.loop-index.out) (g.W.Write.contents c.write_line.new.out)
    (listing_line (marks_of c.args.labels.now) pc w)) word c.in_ok-write_line.ensures)
