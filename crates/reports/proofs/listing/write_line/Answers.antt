use Rattle.std.proofs.Common.{◌≡◌, ◌++◌, subst, arith}
use Rattle.std.specs.Io.KnownBytes.{Appends}
use Rattle.std.proofs.{lemmas.Grind.common_steps, lemmas.Result.on_ok_weaker}
use Rattle.text_fields.proofs.Appending.{appends_more}
use Rattle.rv_instr.specs.Decode.{decoded}
use Rattle.reports.specs.Listing.{field_of, text_of}
use Rattle.reports.proofs.listing.write_line.Goals as goal

-- the address, the word and the text are written at once, then the labels, then the newline
pub returns : goal.returns
returns g c =
    let head : c.as_bytes.result.now
    ≡ field_of c.args.pc ++ field_of c.args.word ++ text_of (decoded c.args.word) c.args.pc = grind (arith, common_steps) in
    let first =
    subst (λ t. Appends (g.W.Write.contents c.args.out.now) (g.W.Write.contents c.write_all.new.self) t) head
    c.in_ok-write_all.ensures.bytes in
    on_ok_weaker c.write_all-2.result
    (λ told. appends_more _ _ _ _ _ (appends_more _ _ _ _ _ first c.in_ok-write_labels.ensures) told)
    c.write_all-2.ensures.bytes
