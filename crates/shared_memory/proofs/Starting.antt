-- A memory with the bytes of an image is its start: behind the last segment, and below RAM, no segment has a byte.
use Rattle.std.proofs.Common.{◌≡◌, ℕ, ◌+◌, ◌-◌, ◌<◌, ◌≤◌, Option, length, get_or, slice_index, None, sym, ap, ◌∙◌}
use Rattle.std.proofs.Common.{arith, inl, inr, refl, zero, suc, [], List, ◌++◌, replicate, subst, take}
use Rattle.std.proofs.lemmas.Bool.{cases_lt}
use Rattle.std.proofs.lemmas.List.{get_or_past, get_or_default, get_or_append_left, get_or-append_right}
use Rattle.std.proofs.lemmas.List.{get_or-replicate, length-replicate, length-append, take_all}
use Rattle.numbers.specs.Sizes.{most_harts}
use Rattle.elf_image.specs.Image.{ProgramSegment, ProgramImage, IsWellFormed, ram_start, byte_in}
use Rattle.elf_image.proofs.Covering.{byte_zero, byte_covered, covers_from, covers_low, covers_high}
use Rattle.shared_memory.specs.Contents.{Contents, byte_of, reserved_of, IsStart}
use Rattle.shared_memory.proofs.Places.{byte_there, byte_below}

-- Below RAM no segment has a byte.
uncovered : (image : ProgramImage) (addr : ℕ) → IsWellFormed image → addr < ram_start → byte_in image addr ≡ 0
unfolding byte_in
uncovered image addr ok below =
    byte_zero image.segments addr (λ k d inside covered.
    let segment = get_or image.segments k d in
    let within = ok.within k d inside in
    let low = covers_low segment addr covered in
    absurd (omega arith))

all_zero : (n k : ℕ) → slice_index (replicate {A = ℕ} n 0) k ≡ 0
all_zero zero k = refl
all_zero (suc n) zero = refl
all_zero (suc n) (suc k) = all_zero n k

-- Zeros behind a list of bytes change none of them.
pub zeros_behind : (bytes : List ℕ) (size long k : ℕ) → length bytes ≤ size → long ≡ length bytes
    → slice_index (take size bytes ++ replicate (size - long) 0) k ≡ slice_index bytes k
zeros_behind bytes size long k fits counted =
    rw (counted, take_all size bytes fits)
    (elim (cases_lt k (length bytes)) [
      | inl old ↦ get_or_append_left bytes (replicate (size - length bytes) 0) 0 k old
      | inr past ↦
          get_or-append_right bytes (replicate (size - length bytes) 0) (length bytes) k 0 refl past
          ∙ all_zero (size - length bytes) (k - length bytes) ∙ sym (get_or_past bytes k 0 past)
    ])

-- ---- The bytes, a segment at a time

-- These are the first bytes of RAM: up to the first n segments' ends, and no further than the others begin.
pub record IsLaid (image : ProgramImage) (bytes : List ℕ) (n : ℕ) : Type 0 where
  pub within : length bytes ≤ image.ram
  pub filled : (k : ℕ) → k < length bytes → slice_index bytes k ≡ byte_in image (ram_start + k)
  pub behind : (j : ℕ) (d : ProgramSegment) → j < n → j < length image.segments
      → (get_or image.segments j d).address + length (get_or image.segments j d).bytes ≤ ram_start + length bytes
  pub before : (j : ℕ) (d : ProgramSegment) → n ≤ j → j < length image.segments
      → ram_start + length bytes ≤ (get_or image.segments j d).address

-- Zeros up to an address, and then the bytes of the segment that begins there.
abbrev pub laid : List ℕ → ProgramSegment → List ℕ
laid bytes s = bytes ++ replicate (s.address - ram_start - length bytes) 0 ++ s.bytes

module _ (image : ProgramImage) (ok : IsWellFormed image) where
  pub none_laid : IsLaid image [] 0
  none_laid = record {
    within = omega arith;
    filled = λ k below. absurd (omega arith);
    behind = λ j d earlier inside. absurd (omega arith);
    before = λ j d later inside. let within = ok.within j d inside in omega (arith, within);
  }

  -- Behind what is laid, up to where all the others begin, no segment has a byte.
  between : (bytes : List ℕ) (n k : ℕ) → IsLaid image bytes n → length bytes ≤ k
      → ((j : ℕ) (d : ProgramSegment) → n ≤ j → j < length image.segments
      → ram_start + k < (get_or image.segments j d).address)
      → byte_in image (ram_start + k) ≡ 0
  unfolding byte_in
  between bytes n k is past short =
      byte_zero image.segments (ram_start + k) (λ j d inside covered.
      let s = get_or image.segments j d in
      let low = covers_low s (ram_start + k) covered in
      let high = covers_high s (ram_start + k) covered in
      elim (cases_lt j n) [
        | inl earlier ↦ let ends = is.behind j d earlier inside in absurd (omega (arith, ends, high, past))
        | inr later ↦ let begins = short j d later inside in absurd (omega (arith, begins, low))
      ])

  module _ (bytes : List ℕ) (n : ℕ) (s : ProgramSegment) (is : IsLaid image bytes n) (inside : n < length image.segments)
      (at : get_or image.segments n s ≡ s) where
    begins : ram_start + length bytes ≤ s.address
    begins = subst (λ (t : ProgramSegment). ram_start + length bytes ≤ t.address) at (is.before n s (omega arith) inside)

    zeros : List ℕ
    zeros = replicate (s.address - ram_start - length bytes) 0

    reached : length (bytes ++ zeros) ≡ s.address - ram_start
    unfolding zeros
    reached =
        let both = length-append bytes zeros in
        let gap = length-replicate {A = ℕ} (s.address - ram_start - length bytes) 0 in
        omega (arith, both, gap, begins)

    long : length (laid bytes s) ≡ s.address - ram_start + length s.bytes
    unfolding zeros
    long = let both = length-append (bytes ++ zeros) s.bytes in omega (arith, both, reached)

    later_begins : (j : ℕ) (d : ProgramSegment) → n < j → j < length image.segments
        → s.address + length s.bytes ≤ (get_or image.segments j d).address
    later_begins j d later within =
        subst (λ (t : ProgramSegment). t.address + length t.bytes ≤ (get_or image.segments j d).address)
        (get_or_default image.segments n d s inside ∙ at) (ok.rising n j d later within)

    in_gap : (k : ℕ) → length bytes ≤ k → ram_start + k < s.address → byte_in image (ram_start + k) ≡ 0
    in_gap k past short =
        between bytes n k is past (λ j d from within.
        elim (cases_lt n j) [
          | inl later ↦ let ends = later_begins j d later within in omega (arith, ends, short)
          | inr here ↦
              let same : j ≡ n = omega (arith, from, here) in
              let it : get_or image.segments j d ≡ s =
              ap (λ i. get_or image.segments i d) same ∙ get_or_default image.segments n d s inside ∙ at in
              subst (λ (t : ProgramSegment). ram_start + k < t.address) (sym it) short
        ])

    in_segment : (k : ℕ) → s.address ≤ ram_start + k → ram_start + k < s.address + length s.bytes
        → slice_index s.bytes (ram_start + k - s.address) ≡ byte_in image (ram_start + k)
    unfolding byte_in
    in_segment k low high =
        sym (byte_covered image.segments (ram_start + k) n s ok.rising inside at
        (covers_from s (ram_start + k) low high))

    laid_before : (k : ℕ) → ram_start + k < s.address
        → slice_index (bytes ++ zeros) k ≡ byte_in image (ram_start + k)
    unfolding zeros
    laid_before k short =
        elim (cases_lt k (length bytes)) [
          | inl old ↦ get_or_append_left bytes zeros 0 k old ∙ is.filled k old
          | inr past ↦
              get_or-append_right bytes zeros (length bytes) k 0 refl past
              ∙ get_or-replicate (s.address - ram_start - length bytes) (k - length bytes) 0 0 (omega (arith, past, short))
              ∙ sym (in_gap k past short)
        ]

    laid_filled : (k : ℕ) → k < length (laid bytes s) → slice_index (laid bytes s) k ≡ byte_in image (ram_start + k)
    unfolding zeros
    laid_filled k below =
        elim (cases_lt k (length (bytes ++ zeros))) [
          | inl short ↦
              get_or_append_left (bytes ++ zeros) s.bytes 0 k short
              ∙ laid_before k (omega (arith, short, reached, begins))
          | inr from ↦
              let low : s.address ≤ ram_start + k = omega (arith, from, reached, begins) in
              let high : ram_start + k < s.address + length s.bytes = omega (arith, below, long, begins) in
              let place : k - length (bytes ++ zeros) ≡ ram_start + k - s.address =
              omega (arith, from, reached, begins) in
              get_or-append_right (bytes ++ zeros) s.bytes (length (bytes ++ zeros)) k 0 refl from
              ∙ ap (slice_index s.bytes) place ∙ in_segment k low high
        ]

    pub laid_more : IsLaid image (laid bytes s) (n + 1)
    laid_more = record {
      within =
          let ends = subst (λ (t : ProgramSegment). t.address + length t.bytes ≤ ram_start + image.ram) at
          (ok.within n s inside).1 in
          omega (arith, ends, long, begins);
      filled = laid_filled;
      behind = λ j d earlier within. elim (cases_lt j n) [
        | inl old ↦ let ends = is.behind j d old within in omega (arith, ends, long, begins)
        | inr here ↦
            let same : j ≡ n = omega (arith, earlier, here) in
            let it : get_or image.segments j d ≡ s =
            ap (λ i. get_or image.segments i d) same ∙ get_or_default image.segments n d s inside ∙ at in
            subst (λ (t : ProgramSegment). t.address + length t.bytes ≤ ram_start + length (laid bytes s)) (sym it)
            (omega (arith, long, begins))
      ];
      before = λ j d later within.
          let ends = later_begins j d (omega arith) within in omega (arith, ends, long, begins);
    }

  -- Once all segments are laid, all bytes behind are 0.
  pub laid_whole : (bytes : List ℕ) (n k : ℕ) → IsLaid image bytes n → length image.segments ≤ n
      → slice_index bytes k ≡ byte_in image (ram_start + k)
  laid_whole bytes n k is all =
      elim (cases_lt k (length bytes)) [
        | inl old ↦ is.filled k old
        | inr past ↦
            get_or_past bytes k 0 past
            ∙ sym (between bytes n k is past (λ j d from inside. absurd (omega (arith, from, inside, all))))
      ]

-- ---- The start

module _ (image : ProgramImage) (m : Contents) (ok : IsWellFormed image)
    (filled : (k : ℕ) → slice_index m.bytes k ≡ byte_in image (ram_start + k)) where
  byte_filled : (addr : ℕ) → byte_of m addr ≡ byte_in image addr
  byte_filled addr =
      elim (cases_lt addr ram_start) [
        | inl below ↦ byte_below m addr below ∙ sym (uncovered image addr ok below)
        | inr within ↦
            byte_there m addr within ∙ filled (addr - ram_start) ∙ ap (byte_in image) (omega (arith, within))
      ]

  pub is_start : m.image ≡ image → ((h : ℕ) → reserved_of m h ≡ None) → IsStart image m
  is_start same reserved = record { same = same; bytes = byte_filled; reserved = reserved }

all_none : (n h : ℕ) → get_or {A = Option ℕ} (replicate n None) h None ≡ None
all_none zero h = refl
all_none (suc n) zero = refl
all_none (suc n) (suc h) = all_none n h

-- No hart has a reservation.
pub none_reserved : (h : ℕ) → get_or {A = Option ℕ} (replicate most_harts None) h None ≡ None
none_reserved h = all_none most_harts h
