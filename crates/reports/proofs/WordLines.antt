-- One more line of a listing, and that there is a word at each of its addresses.
use Rattle.std.proofs.Common.{◌≡◌, ℕ, ◌+◌, ◌*◌, ◌/◌, ◌%◌, ◌<◌, ◌&&◌, ◌==◌, true, List, [], ◌++◌, flat_map, Some, refl}
use Rattle.std.proofs.Common.{sym, ◌∙◌, ap, subst, arith}
use Rattle.std.specs.{Prelude.nat_le, Io.KnownBytes.Appends, declared.option.Option.Option}
use Rattle.std.proofs.{lemmas.List.flat_map_more, lemmas.List.FromFn.map-range_with_len_more}
use Rattle.std.proofs.{lemmas.Bool.Decides.nat_tests}
use Rattle.elf_image.specs.Image.{ProgramImage, code_start, code_size, code_word, word_now, word_in}
use Rattle.reports.specs.Listing.{word_addresses}
use Rattle.text_fields.proofs.Appending.{appends_more}

lines_more : (line : ℕ → List ℕ) (start n : ℕ)
    → flat_map line (word_addresses start (n + 1)) ≡ flat_map line (word_addresses start n) ++ line (start + 4 * n)
lines_more line start n =
    let last : 0 + n ≡ n = omega arith in
    ap (flat_map line) (map-range_with_len_more (λ i. start + 4 * i) 0 n n last)
    ∙ sym (flat_map_more line [] (word_addresses start n) (start + 4 * n))

-- a turn of the loop over the words
pub lines_step : (old mid new : Option (List ℕ)) (line : ℕ → List ℕ) (start n : ℕ)
    → Appends old mid (flat_map line (word_addresses start n))
    → Appends mid new (line (start + 4 * n)) → Appends old new (flat_map line (word_addresses start (n + 1)))
lines_step old mid new line start n first next =
    subst (λ t. Appends old new t) (sym (lines_more line start n)) (appends_more old mid new _ _ first next)

tests : (start size i : ℕ) → start % 4 ≡ 0 → size % 4 ≡ 0 → i < size / 4
    → (start + 4 * i) % 4 == 0 && nat_le start (start + 4 * i) && nat_le (start + 4 * i + 4) (start + size) ≡ true
tests start size i aligned whole below = grind (arith, nat_tests)

-- each address of the listing has a word
pub has_word : (image : ProgramImage) (start size i : ℕ) → start ≡ code_start image → size ≡ code_size image
    → (start % 4 ≡ 0) × (size % 4 ≡ 0)
    → i < size / 4 → code_word image (start + 4 * i) ≡ Some (word_in image (start + 4 * i))
unfolding word_now
has_word image start size i is_start is_size aligned below =
    rw (sym is_start, sym is_size, tests start size i aligned.0 aligned.1 below) refl

same_value : (x y : ℕ) → Some x ≡ Some y → x ≡ y
same_value x y e = cc

-- and it is the one that is listed
pub word_is : (image : ProgramImage) (pc word : ℕ) (found : Option ℕ) → found ≡ code_word image pc → found ≡ Some word
    → code_word image pc ≡ Some (word_in image pc) → word ≡ word_in image pc
word_is image pc word found read is there = same_value word (word_in image pc) (sym is ∙ read ∙ there)
