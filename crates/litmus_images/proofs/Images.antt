-- The image of a well-formed test is a well-formed image.
use Rattle.std.proofs.Common.{◌≡◌, ℕ, ◌+◌, ◌*◌, ◌%◌, ◌≤◌, ◌<◌, List, [], ◌∷◌, ◌++◌, length, All}
use Rattle.std.proofs.Common.{refl, sym, ap, subst, arith, IsTrue}
use Rattle.std.specs.Prelude.{flat_map, AllPairs, nat_lt}
use Rattle.std.proofs.lemmas.{List.length-map, List.Elements.All-nil, List.Elements.All-cons}
use Rattle.std.proofs.lemmas.{List.Kept.AllPairs-cons, Bool.lt-ltb}
use Rattle.rv_instr.specs.declared.instr.Instr.{Instr}
use Rattle.elf_image.specs.Image.{ProgramSegment, ProgramImage, IsWellFormed as IsImage, ram_start}
use Rattle.elf_image.specs.Image.{code_segment, code_start, code_size}
use Rattle.elf_image.specs.Written.{word_bytes}
use Rattle.litmus_tests.specs.declared.{test.LitmusTest.LitmusTest, value.Value.Value}
use Rattle.litmus_tests.specs.{WellFormed.IsWellFormed, Conditions.number_of}
use Rattle.litmus_images.specs.Image.{code_begin, initial_words, locations_segment, litmus_image, SpellEach, IsSpelled}
use Rattle.litmus_images.specs.{Image.IsLitmusImage, Code.code_of}
use Rattle.litmus_images.proofs.{Lengths.code_length}

bytes_length : (words : List ℕ) → length (flat_map word_bytes words) ≡ 4 * length words
unfolding word_bytes
bytes_length [] = refl
bytes_length (word ∷ words) = let so_far = bytes_length words in omega (arith, so_far)

each_length : (words : List ℕ) (code : List Instr) → SpellEach words code → length words ≡ length code
each_length [] [] spelled = refl
each_length (word ∷ words) (instruction ∷ code) spelled =
    let so_far = each_length words code spelled.2 in omega (arith, so_far)
each_length [] (instruction ∷ code) spelled = absurd spelled
each_length (word ∷ words) [] spelled = absurd spelled

spelled_length : (bytes : List ℕ) (code : List Instr) → IsSpelled bytes code → length bytes ≡ 4 * length code
spelled_length bytes code spelled =
    let laid = ap length spelled.laid in
    let bytes_are = bytes_length spelled.words in
    let words_are = each_length spelled.words code spelled.spelled in omega (arith, laid, bytes_are, words_are)

-- the segments
pub no_segment : (values : List Value) → length values ≡ 0 → locations_segment values ≡ []
unfolding locations_segment
no_segment [] none = refl
no_segment (value ∷ others) none = absurd (omega (arith, none))

pub one_segment : (values : List Value) → 0 < length values
    → locations_segment values
    ≡ record { address = ram_start; bytes = flat_map word_bytes (initial_words values); flags = 6 } ∷ []
unfolding locations_segment
one_segment [] some = absurd (omega (arith, some))
one_segment (value ∷ others) some = refl

-- both kinds of image
abbrev data_part : List ℕ → ProgramSegment
data_part bytes = record { address = ram_start; bytes = bytes; flags = 6 }

abbrev code_part : List ℕ → ProgramSegment
code_part code = record { address = code_begin; bytes = code; flags = 5 }

abbrev Follows : ProgramSegment → ProgramSegment → Type 0
Follows s t = s.address + length s.bytes ≤ t.address

of_one : (P : ProgramSegment → Type 0) (s : ProgramSegment) → P s → All P (s ∷ [])
of_one P s is = All-cons P s [] is (All-nil P)

of_two : (P : ProgramSegment → Type 0) (s t : ProgramSegment) → P s → P t → All P (s ∷ t ∷ [])
of_two P s t is so = All-cons P s (t ∷ []) is (of_one P t so)

none_follows : AllPairs Follows []
none_follows i j d low high = absurd (omega arith)

one_follows : (s : ProgramSegment) → AllPairs Follows (s ∷ [])
one_follows s = AllPairs-cons Follows s [] (All-nil (Follows s)) none_follows

two_follow : (s t : ProgramSegment) → Follows s t → AllPairs Follows (s ∷ t ∷ [])
two_follow s t follows = AllPairs-cons Follows s (t ∷ []) (of_one (Follows s) t follows) (one_follows t)

entry_inside : (size : ℕ) → 0 < size → IsTrue (nat_lt code_begin (code_begin + size))
entry_inside size some = lt-ltb code_begin (code_begin + size) (omega arith)

with_code : (code : List ℕ) → 0 < length code → length code ≤ 65280 → length code % 4 ≡ 0
    → IsImage (record { ram = 65536; entry = code_begin; segments = code_part code ∷ [] })
unfolding code_segment code_start code_size
with_code code some few whole = record {
  ram = (refl, omega arith, omega arith);
  count = (omega arith, omega arith);
  filled = of_one (λ s. 0 < length s.bytes) (code_part code) some;
  within = of_one (λ s. (ram_start ≤ s.address) × (s.address + length s.bytes ≤ ram_start + 65536)) (code_part code)
      (omega arith, omega arith);
  rising = one_follows (code_part code);
  flags = of_one (λ s. s.flags < 8) (code_part code) (omega arith);
  one_code = refl;
  code_within = (omega arith, omega arith);
  code_aligned = (refl, whole);
  entry_aligned = refl;
  entry_in_code = entry_inside (length code) some;
}

with_data : (bytes code : List ℕ) → 0 < length bytes → length bytes ≤ 256 → 0 < length code → length code ≤ 65280
    → length code % 4 ≡ 0
    → IsImage (record { ram = 65536; entry = code_begin; segments = data_part bytes ∷ code_part code ∷ [] })
unfolding code_segment code_start code_size
with_data bytes code there short some few whole = record {
  ram = (refl, omega arith, omega arith);
  count = (omega arith, omega arith);
  filled = of_two (λ s. 0 < length s.bytes) (data_part bytes) (code_part code) there some;
  within = of_two (λ s. (ram_start ≤ s.address) × (s.address + length s.bytes ≤ ram_start + 65536)) (data_part bytes)
      (code_part code) (omega arith, omega arith) (omega arith, omega arith);
  rising = two_follow (data_part bytes) (code_part code) (omega arith);
  flags = of_two (λ s. s.flags < 8) (data_part bytes) (code_part code) (omega arith) (omega arith);
  one_code = refl;
  code_within = (omega arith, omega arith);
  code_aligned = (refl, whole);
  entry_aligned = refl;
  entry_in_code = entry_inside (length code) some;
}

with_locations : (values : List Value) (code : List ℕ) → length values ≤ 64 → 0 < length code
    → length code ≤ 65280 → length code % 4 ≡ 0
    → IsImage (record {
      ram = 65536;
      entry = code_begin;
      segments = locations_segment values ++ code_part code ∷ [];
    })
unfolding locations_segment
with_locations [] code short some few whole = with_code code some few whole
with_locations (value ∷ others) code short some few whole =
    let words = initial_words (value ∷ others) in
    let bytes = bytes_length words in
    let count : length words ≡ length (value ∷ others) =
    length-map (value ∷ others) number_of in
    with_data (flat_map word_bytes words) code (omega (arith, bytes, count))
    (omega (arith, bytes, count)) some few whole

pub well_formed : (test : LitmusTest) (image : ProgramImage) → IsWellFormed test → IsLitmusImage test image
    → IsImage image
unfolding litmus_image
well_formed test image sound is =
    let bytes = spelled_length is.code (code_of test) is.spelled in
    let size = code_length test sound in
    subst IsImage (sym is.made)
    (with_locations test.words.items is.code sound.words (omega (arith, bytes, size.0))
    (omega (arith, bytes, size.1))
    (omega (arith, bytes)))
