-- Which segment covers an address, and what its byte is.
use Rattle.std.proofs.Common.{◌≡◌, ℕ, zero, suc, ◌+◌, ◌-◌, ◌<◌, ◌≤◌, Bool, true, false, List, [], ◌∷◌, length, get_or}
use Rattle.std.proofs.Common.{sym, ◌∙◌, ap, subst, refl, arith, cond, Some, drop, get_or-drop}
use Rattle.std.specs.Prelude.{All, AllPairs, find, slice_index}
use Rattle.std.proofs.{lemmas.Bool.Decides.nat_tests, lemmas.List.Elements.All-head, lemmas.List.Elements.All-tail}
use Rattle.elf_image.specs.Image.{ProgramSegment, ProgramImage, IsWellFormed, byte_in, covers, segment_byte, byte_among}
use Rattle.elf_image.specs.Image.{code_segment, word_in, word_of, is_code_segment}
use Rattle.elf_image.specs.Layout.{word_at}
use Rattle.std.specs.Option.{option_map_or}

-- the first segment ends where the second begins, or before it
abbrev pub EndsBefore : ProgramSegment → ProgramSegment → Type 0
EndsBefore s t = s.address + length s.bytes ≤ t.address

pub pairs_tail : {X : Type 0} (R : X → X → Type 0) (x : X) (xs : List X) → AllPairs R (x ∷ xs) → AllPairs R xs
pairs_tail R x xs pairs i j d less inside = pairs (suc i) (suc j) d (omega arith) (omega arith)

pub covers_from : (s : ProgramSegment) (addr : ℕ) → s.address ≤ addr → addr < s.address + length s.bytes
    → covers s addr ≡ true
covers_from s addr low high = grind (arith, nat_tests)

pub covers_low : (s : ProgramSegment) (addr : ℕ) → covers s addr ≡ true → s.address ≤ addr
covers_low s addr covered = grind (arith, nat_tests)

pub covers_high : (s : ProgramSegment) (addr : ℕ) → covers s addr ≡ true → addr < s.address + length s.bytes
covers_high s addr covered = grind (arith, nat_tests)

pub covers_past : (s : ProgramSegment) (addr : ℕ) → s.address + length s.bytes ≤ addr → covers s addr ≡ false
covers_past s addr past = grind (arith, nat_tests)

-- no other segment covers an address of a segment
pub find_covering : (xs : List ProgramSegment) (addr k : ℕ) (s : ProgramSegment) → AllPairs EndsBefore xs
    → k < length xs → get_or xs k s ≡ s
    → covers s addr ≡ true → find (λ t. covers t addr) xs ≡ Some s
find_covering [] addr k s rising below at covered = absurd (omega arith)
find_covering (x ∷ xs) addr zero s rising below at covered =
    let here : covers x addr ≡ true = ap (λ (t : ProgramSegment). covers t addr) at ∙ covered in
    rw here (ap (λ (t : ProgramSegment). Some t) at)
find_covering (x ∷ xs) addr (suc k) s rising below at covered =
    let before : EndsBefore x (get_or xs k s) = rising 0 (suc k) s (omega arith) below in
    let ends : EndsBefore x s = subst (EndsBefore x) at before in
    let low : s.address ≤ addr = covers_low s addr covered in
    let not_here : covers x addr ≡ false = covers_past x addr (omega arith) in
    rw not_here (find_covering xs addr k s (pairs_tail EndsBefore x xs rising) (omega arith) at covered)

pub byte_covered : (xs : List ProgramSegment) (addr k : ℕ) (s : ProgramSegment) → AllPairs EndsBefore xs → k < length xs
    → get_or xs k s ≡ s
    → covers s addr ≡ true → byte_among xs addr ≡ segment_byte s addr
byte_covered xs addr k s rising below at covered = rw (find_covering xs addr k s rising below at covered) refl

-- the byte is 0 where each segment that covers the address has a 0 there
first_zero : (x : ProgramSegment) (xs : List ProgramSegment) (addr : ℕ) (b : Bool) → covers x addr ≡ b
    → (covers x addr ≡ true → segment_byte x addr ≡ 0)
    → byte_among xs addr ≡ 0
    → option_map_or (λ t. segment_byte t addr) (cond b (Some x) (find (λ t. covers t addr) xs)) 0 ≡ 0
first_zero x xs addr true is here rest = here is
first_zero x xs addr false is here rest = rest

pub byte_zero : (xs : List ProgramSegment) (addr : ℕ) → All (λ t. covers t addr ≡ true → segment_byte t addr ≡ 0) xs
    → byte_among xs addr ≡ 0
byte_zero [] addr all = refl
byte_zero (x ∷ xs) addr all =
    let IsZero : ProgramSegment → Type 0 = λ t. covers t addr ≡ true → segment_byte t addr ≡ 0 in
    first_zero x xs addr (covers x addr) refl (All-head IsZero x xs all) (byte_zero xs addr (All-tail IsZero x xs all))

-- the place of what was found
pub record FoundAt {X : Type 0} (p : X → Bool) (xs : List X) (x : X) : Type 0 where
  pub place : ℕ
  pub below : place < length xs
  pub at : get_or xs place x ≡ x
  pub passes : p x ≡ true

first_found : {X : Type 0} (p : X → Bool) (y : X) (xs : List X) (x : X) (b : Bool) → p y ≡ b
    → cond b (Some y) (find p xs) ≡ Some x
    → (find p xs ≡ Some x → FoundAt p xs x) → FoundAt p (y ∷ xs) x
first_found p y xs x true is found rest =
    let same : y ≡ x = cc in
    record { place = 0; below = omega arith; at = same; passes = ap p (sym same) ∙ is }
first_found p y xs x false is found rest =
    let r = rest found in
    record { place = suc r.place; below = omega (arith, r.below); at = r.at; passes = r.passes }

pub found_at : {X : Type 0} (p : X → Bool) (xs : List X) (x : X) → find p xs ≡ Some x → FoundAt p xs x
found_at p [] x found = absurd (cc)
found_at p (y ∷ xs) x found = first_found p y xs x (p y) refl found (found_at p xs x)

-- a byte of the code, counted from the pc
code_byte : (image : ProgramImage) (s : ProgramSegment) (pc k addr : ℕ) → IsWellFormed image
    → code_segment image ≡ Some s
    → s.address ≤ pc → addr ≡ pc + k → pc + k < s.address + length s.bytes
    → byte_in image addr ≡ slice_index (drop (pc - s.address) s.bytes) k
unfolding code_segment byte_in
code_byte image s pc k addr ok code low is high =
    let f = found_at is_code_segment image.segments s code in
    let covered = covers_from s addr (omega arith) (omega arith) in
    let place : pc - s.address + k ≡ addr - s.address = omega arith in
    byte_covered image.segments addr f.place s ok.rising f.below f.at covered
    ∙ sym (get_or-drop (pc - s.address) s.bytes k 0 ∙ ap (λ (n : ℕ). get_or s.bytes n 0) place)

-- a word of the code is read from the code's bytes
pub word_read : (image : ProgramImage) (s : ProgramSegment) (pc : ℕ) → IsWellFormed image → code_segment image ≡ Some s
    → s.address ≤ pc → pc + 4 ≤ s.address + length s.bytes → word_at s.bytes (pc - s.address) ≡ word_in image pc
unfolding word_at word_of
word_read image s pc ok code low high =
    let first = code_byte image s pc 0 pc ok code low (omega arith) (omega arith) in
    let second = code_byte image s pc 1 (pc + 1) ok code low refl (omega arith) in
    let third = code_byte image s pc 2 (pc + 2) ok code low refl (omega arith) in
    let fourth = code_byte image s pc 3 (pc + 3) ok code low refl (omega arith) in
    rw (first, second, third, fourth) (omega arith)
