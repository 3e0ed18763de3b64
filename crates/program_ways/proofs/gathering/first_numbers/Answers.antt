use Rattle.std.proofs.Common.{ℕ, ◌<◌, List, [], ◌∷◌, ◌++◌, length, take, map, sym, ap, ◌∙◌, arith}
use Rattle.std.proofs.lemmas.List.{map_more}
use Rattle.elf_image.specs.Image.{word_in}
use Rattle.program_ways.proofs.gathering.first_numbers.Goals as goal

pub loop-index-preserved : goal.loop-index-preserved
loop-index-preserved c =
    let words = c.args.words.now in
    let at = c.loop-index.index in
    let f = word_in c.args.program.now.memory.image in
    let within : at < length words = omega (arith, c.loop-index-test.true) in
    c.in_ok-push.ensures.items
    ∙ ap (λ (xs : List ℕ). xs ++ c.first_number.result ∷ []) c.loop-index.invariant
    ∙ ap (λ (n : ℕ). map f (take at words) ++ n ∷ []) (c.first_number.ensures (c.requires.words at 0 within))
    ∙ sym (map_more f words at 0 within)
