-- A written file passes all checks, and its image is the one that was written.
use Rattle.std.proofs.Common.{◌≡◌, ℕ, suc, ◌+◌, ◌-◌, ◌*◌, ◌%◌, ◌^◌, ◌<◌, ◌≤◌, ◌&&◌, Bool, true, false, List, [], ◌∷◌}
use Rattle.std.proofs.Common.{◌++◌, length, get_or, take, drop, map, refl, sym, ◌∙◌, ap, subst, arith, cond, Some, inl}
use Rattle.std.proofs.Common.{append_assoc, append-nil, length-append}
use Rattle.std.specs.Prelude.{All, AllPairs, find, flat_map, count_by, slice_index, IsPermutation, IsTrue, nat_le}
use Rattle.std.specs.Prelude.{nat_lt}
use Rattle.std.proofs.{lemmas.List.take_at, lemmas.List.drop_at, lemmas.List.Kept.AllPairs-cons}
use Rattle.std.proofs.{lemmas.List.Sums.sum_by-cons, lemmas.Bool.Decides.nat_tests}
use Rattle.std.proofs.lemmas.List.Elements.{All-nil, All-cons, All-head, All-tail, All-weaker}
use Rattle.elf_image.specs.{declared.program_header.ProgramHeader.ProgramHeader}
use Rattle.elf_image.specs.{declared.refusal.LoadRefused.LoadRefused, Loaded.segment_of, Loaded.image_from}
use Rattle.elf_image.specs.{Loaded.IsImageOf}
use Rattle.elf_image.specs.Written.{file_header, program_headers, file_of}
use Rattle.elf_image.specs.declared.refusal.LoadRefused.TheVariants.{TooShort, NotElf, NotClass32, NotLittleEndian}
use Rattle.elf_image.specs.declared.refusal.LoadRefused.TheVariants.{WrongVersion, NotExecutable, NotRiscV}
use Rattle.elf_image.specs.declared.refusal.LoadRefused.TheVariants.{WrongHeaderSize, TableOutsideFile}
use Rattle.elf_image.specs.declared.refusal.LoadRefused.TheVariants.{WrongSegmentCount, SegmentOutsideFile}
use Rattle.elf_image.specs.declared.refusal.LoadRefused.TheVariants.{WrongMemorySize, SegmentOutsideRam}
use Rattle.elf_image.specs.declared.refusal.LoadRefused.TheVariants.{SegmentsOverlap, WrongCodeSegment, MisalignedCode}
use Rattle.elf_image.specs.declared.refusal.LoadRefused.TheVariants.{WrongEntry, OutOfMemory}
use Rattle.elf_image.proofs.Covering.{EndsBefore, pairs_tail}
use Rattle.elf_image.specs.Image.{ProgramSegment, ProgramImage, IsWellFormed, ram_start, is_code_segment}
use Rattle.elf_image.specs.Image.{code_segment, code_start, code_size}
use Rattle.elf_image.specs.Layout.{half_at, word_at, entry_of, table_offset, table_count, loadable, loadable_from}
use Rattle.elf_image.specs.Checks.{Passes, AreApart, is_executable}
use Rattle.elf_image.proofs.{Loading.find_counted}
use Rattle.elf_image.proofs.Rising.{AreRising, same_order}
use Rattle.elf_image.proofs.WrittenFields.{header_of, headers_of, Fits, magic, class, order, version, file_version}
use Rattle.elf_image.proofs.WrittenFields.{kind, machine, header_size, entry_size, table, table_length, enters}
use Rattle.elf_image.proofs.WrittenFields.{length-file_header, length-program_headers, loadable_read}

-- a fact of each header that is written, from that of its segment
headers_all : (P : ProgramHeader → Type 0) (Q : ProgramSegment → Type 0)
    → ((s : ProgramSegment) (offset : ℕ) → Q s → P (header_of s offset))
    → (segments : List ProgramSegment) (offset : ℕ) → All Q segments → All P (headers_of segments offset)
headers_all P Q from [] offset all = All-nil P
headers_all P Q from (s ∷ segments) offset all =
    let next : ℕ = offset + length s.bytes in
    All-cons P (header_of s offset) (headers_of segments next) (from s offset (All-head Q s segments all))
    (headers_all P Q from segments next (All-tail Q s segments all))

pairs_head : {X : Type 0} (R : X → X → Type 0) (x : X) (xs : List X) → AllPairs R (x ∷ xs) → All (R x) xs
pairs_head R x xs pairs k d below = pairs 0 (suc k) d (omega arith) (omega arith)

-- the same of each two
headers_pairs : (R : ProgramHeader → ProgramHeader → Type 0) (E : ProgramSegment → ProgramSegment → Type 0)
    → ((s t : ProgramSegment) (p q : ℕ) → E s t → R (header_of s p) (header_of t q))
    → (segments : List ProgramSegment) (offset : ℕ) → AllPairs E segments → AllPairs R (headers_of segments offset)
headers_pairs R E from [] offset pairs = λ i j d less inside. absurd (omega arith)
headers_pairs R E from (s ∷ segments) offset pairs =
    let next : ℕ = offset + length s.bytes in
    AllPairs-cons R (header_of s offset) (headers_of segments next)
    (headers_all (R (header_of s offset)) (E s) (λ t q e. from s t offset q e) segments next
    (pairs_head E s segments pairs))
    (headers_pairs R E from segments next (pairs_tail E s segments pairs))

length-headers_of : (segments : List ProgramSegment) (offset : ℕ)
    → length (headers_of segments offset) ≡ length segments
length-headers_of [] offset = refl
length-headers_of (s ∷ segments) offset = ap (λ (n : ℕ). suc n) (length-headers_of segments (offset + length s.bytes))

count-headers_of : (segments : List ProgramSegment) (offset : ℕ)
    → count_by is_executable (headers_of segments offset) ≡ count_by is_code_segment segments
count-headers_of [] offset = refl
count-headers_of (s ∷ segments) offset =
    let next : ℕ = offset + length s.bytes in
    sum_by-cons (λ (h : ProgramHeader). cond (is_executable h) 1 0) (header_of s offset) (headers_of segments next)
    ∙ ap (λ (n : ℕ). cond (is_code_segment s) 1 0 + n) (count-headers_of segments next)
    ∙ sym (sum_by-cons (λ (t : ProgramSegment). cond (is_code_segment t) 1 0) s segments)

-- each segment's bytes are before the end of the contents
headers_inside : (segments : List ProgramSegment) (offset end : ℕ)
    → offset + length (flat_map (λ s. s.bytes) segments) ≤ end
    → All (λ h. h.offset + h.file_size ≤ end) (headers_of segments offset)
headers_inside [] offset end inside = All-nil (λ (h : ProgramHeader). h.offset + h.file_size ≤ end)
headers_inside (s ∷ segments) offset end inside =
    let next : ℕ = offset + length s.bytes in
    let more : offset + (length s.bytes + length (flat_map (λ t. t.bytes) segments)) ≤ end =
    rw (← length-append s.bytes (flat_map (λ t. t.bytes) segments)) inside in
    All-cons (λ (h : ProgramHeader). h.offset + h.file_size ≤ end) (header_of s offset) (headers_of segments next)
    (omega arith)
    (headers_inside segments next end (omega arith))

-- the headers' fields fit
fits_from : (segments : List ProgramSegment) (offset : ℕ)
    → All (λ s. (s.address < 2 ^ 32) × (length s.bytes ≤ 16777216) × (s.flags < 8)) segments
    → offset + 16777216 * length segments < 2 ^ 32 → Fits segments offset
fits_from [] offset all below = tt
fits_from (s ∷ segments) offset all below =
    let Small : ProgramSegment → Type 0 = λ t. (t.address < 2 ^ 32) × (length t.bytes ≤ 16777216) × (t.flags < 8) in
    let first = All-head Small s segments all in (
      omega arith,
      first.0,
      omega (arith, first.1),
      omega (arith, first.2),
      fits_from segments (offset + length s.bytes) (All-tail Small s segments all) (omega (arith, first.1)),
    )

-- the segment that a header of the file stands for
segment_back : (s : ProgramSegment) (offset : ℕ) (front rest : List ℕ) → offset ≡ length front → s.flags < 8
    → segment_of (front ++ (s.bytes ++ rest)) (header_of s offset) ≡ s
segment_back s offset front rest at flags =
    let cut : drop offset (front ++ (s.bytes ++ rest)) ≡ s.bytes ++ rest =
    drop_at front (s.bytes ++ rest) offset (sym at) in
    let kept : take (length s.bytes) (s.bytes ++ rest) ≡ s.bytes = take_at s.bytes rest (length s.bytes) refl in
    let no_more : length s.bytes - length s.bytes ≡ 0 = omega arith in
    let low : s.flags % 8 ≡ s.flags = omega arith in
    rw (cut, kept, no_more, append-nil, low) refl

segments_back : (segments : List ProgramSegment) (offset : ℕ) (front rest : List ℕ) → offset ≡ length front
    → All (λ s. s.flags < 8) segments
    → map (segment_of (front ++ (flat_map (λ s. s.bytes) segments ++ rest))) (headers_of segments offset) ≡ segments
segments_back [] offset front rest at flags = refl
segments_back (s ∷ segments) offset front rest at flags =
    let Small : ProgramSegment → Type 0 = λ t. t.flags < 8 in
    let next : ℕ = offset + length s.bytes in
    let others : List ℕ = flat_map (λ (t : ProgramSegment). t.bytes) segments in
    let behind_front : front ++ (s.bytes ++ others ++ rest) ≡ front ++ (s.bytes ++ (others ++ rest))
    = ap (λ (l : List ℕ). front ++ l) (append_assoc s.bytes others rest) in
    let behind_first : front ++ (s.bytes ++ others ++ rest) ≡ front ++ s.bytes ++ (others ++ rest)
    = behind_front ∙ sym (append_assoc front s.bytes (others ++ rest)) in
    let head : segment_of (front ++ (s.bytes ++ others ++ rest)) (header_of s offset) ≡ s
    = ap (λ (l : List ℕ). segment_of l (header_of s offset)) behind_front
    ∙ segment_back s offset front (others ++ rest) at (All-head Small s segments flags) in
    let after : next ≡ length (front ++ s.bytes) = omega (arith, at, length-append front s.bytes) in
    let tail : map (segment_of (front ++ (s.bytes ++ others ++ rest))) (headers_of segments next) ≡ segments
    = ap (λ (l : List ℕ). map (segment_of l) (headers_of segments next)) behind_first
    ∙ segments_back segments next (front ++ s.bytes) rest after (All-tail Small s segments flags) in
    ap (λ (t : ProgramSegment). t ∷ map (segment_of (front ++ (s.bytes ++ others ++ rest))) (headers_of segments next))
    head
    ∙ ap (λ (ts : List ProgramSegment). s ∷ ts) tail

-- where one passes, any that passes is the one that is found
passed_once : (b : Bool) (n : ℕ) → b ≡ true → cond b 1 0 + n ≡ 0 → ⊥
passed_once true n passes sum = omega (arith, sum)
passed_once false n passes sum = cc

none_passes : {X : Type 0} (p : X → Bool) (xs : List X) → count_by p xs ≡ 0 → All (λ t. p t ≡ true → ⊥) xs
none_passes {X} p [] none = All-nil (λ (t : X). p t ≡ true → ⊥)
none_passes {X} p (x ∷ xs) none =
    let sum : cond (p x) 1 0 + count_by p xs ≡ 0 = sym (sum_by-cons (λ (t : X). cond (p t) 1 0) x xs) ∙ none in
    All-cons (λ (t : X). p t ≡ true → ⊥) x xs (λ passes. passed_once (p x) (count_by p xs) passes sum)
    (none_passes p xs (omega (arith, sum)))

by_first : {X : Type 0} (p : X → Bool) (x : X) (xs : List X) (s : X) (b : Bool) → p x ≡ b
    → cond b (Some x) (find p xs) ≡ Some s
    → cond b 1 0 + count_by p xs ≡ 1 → (find p xs ≡ Some s → count_by p xs ≡ 1 → All (λ t. p t ≡ true → t ≡ s) xs)
    → All (λ t. p t ≡ true → t ≡ s) (x ∷ xs)
by_first {X} p x xs s true is here sum rest =
    let Same : X → Type 0 = λ t. p t ≡ true → t ≡ s in
    All-cons Same x xs (λ passes. cc)
    (All-weaker (λ (t : X). p t ≡ true → ⊥) Same (λ t none passes. absurd (none passes)) xs
    (none_passes p xs (omega (arith, sum))))
by_first {X} p x xs s false is later sum rest =
    let Same : X → Type 0 = λ t. p t ≡ true → t ≡ s in
    All-cons Same x xs (λ passes. cc) (rest later (omega (arith, sum)))

one_passes : {X : Type 0} (p : X → Bool) (xs : List X) (s : X) → find p xs ≡ Some s → count_by p xs ≡ 1
    → All (λ t. p t ≡ true → t ≡ s) xs
one_passes {X} p [] s found one = All-nil (λ (t : X). p t ≡ true → t ≡ s)
one_passes {X} p (x ∷ xs) s found one =
    let sum : cond (p x) 1 0 + count_by p xs ≡ 1 = sym (sum_by-cons (λ (t : X). cond (p t) 1 0) x xs) ∙ one in
    by_first p x xs s (p x) refl found sum (one_passes p xs s)

-- the tests of an interval
tests_within : (start size addr : ℕ) → nat_le start addr && nat_lt addr (start + size) ≡ true
    → (start ≤ addr) × (addr < start + size)
tests_within start size addr within = (grind (arith, nat_tests), grind (arith, nat_tests))

module _ (image : ProgramImage) (ok : IsWellFormed image) where
  abbrev table_end : ℕ
  table_end = 52 + 32 * length image.segments

  abbrev head : List ℕ
  head = file_header image.entry (length image.segments)

  abbrev headers : List ℕ
  headers = program_headers image.segments (52 + 32 * length image.segments)

  abbrev contents : List ℕ
  contents = flat_map (λ s. s.bytes) image.segments

  whole : file_of image ≡ head ++ (headers ++ contents)
  unfolding file_of
  whole = append_assoc head headers contents

  contents_last : file_of image ≡ head ++ headers ++ (contents ++ [])
  unfolding file_of
  contents_last = ap (λ (l : List ℕ). head ++ headers ++ l) (sym (append-nil contents))

  small : All (λ s. (s.address < 2 ^ 32) × (length s.bytes ≤ 16777216) × (s.flags < 8)) image.segments
  small k d below =
      let s = get_or image.segments k d in
      let place = ok.within k d below in
      (omega (arith, place.1, ok.ram.2), omega (arith, place.0, place.1, ok.ram.2), ok.flags k d below)

  fits : Fits image.segments table_end
  fits = fits_from image.segments table_end small (omega (arith, ok.count.1))

  entry_fits : image.entry < 2 ^ 32
  entry_fits =
      omega (
        arith,
        (tests_within (code_start image) (code_size image) image.entry ok.entry_in_code).1,
        ok.code_within.1,
        ok.ram.2,
      )

  at_file : (P : List ℕ → Type 0) → P (head ++ (headers ++ contents)) → P (file_of image)
  at_file P = subst P (sym whole)

  pub entry_written : entry_of (file_of image) ≡ image.entry
  entry_written = at_file (λ l. entry_of l ≡ image.entry)
      (enters image.entry (length image.segments) (headers ++ contents) entry_fits)

  table_written : table_offset (file_of image) ≡ 52
  table_written = at_file (λ l. table_offset l ≡ 52) (table image.entry (length image.segments) (headers ++ contents))

  count_written : table_count (file_of image) ≡ length image.segments
  count_written = at_file (λ l. table_count l ≡ length image.segments)
      (table_length image.entry (length image.segments) (headers ++ contents) (omega (arith, ok.count.1)))

  loadable_written : loadable (file_of image) ≡ headers_of image.segments table_end
  loadable_written =
      rw (table_written, count_written)
      (at_file (λ l. loadable_from l 52 (length image.segments) ≡ headers_of image.segments table_end)
      (loadable_read image.segments table_end head contents 52
      (sym (length-file_header image.entry (length image.segments) [])) fits))

  segments_written : map (segment_of (file_of image)) (headers_of image.segments table_end) ≡ image.segments
  segments_written =
      let before : table_end ≡ length (head ++ headers) = omega (
        arith,
        length-append head headers,
        length-file_header image.entry (length image.segments) [],
        length-program_headers image.segments table_end,
      ) in
      subst (λ (l : List ℕ). map (segment_of l) (headers_of image.segments table_end) ≡ image.segments)
      (sym contents_last)
      (segments_back image.segments table_end (head ++ headers) [] before ok.flags)

  length_written : length (file_of image) ≡ table_end + length contents
  length_written =
      ap (length {A = ℕ}) whole ∙ omega (
        arith,
        length-append head (headers ++ contents),
        length-append headers contents,
        length-file_header image.entry (length image.segments) [],
        length-program_headers image.segments table_end,
      )

  rising_written : AreRising (λ h. h.address) (headers_of image.segments table_end)
  rising_written =
      headers_pairs (λ g h. g.address < h.address) (λ s t. s.address < t.address)
      (λ s t p q less. less) image.segments table_end
      (λ i j d less inside. omega (arith, ok.rising i j d less inside, ok.filled i d (omega arith)))

  -- what is so of each segment is so of each header that is read
  each : (P : ProgramHeader → Type 0) (Q : ProgramSegment → Type 0)
      → ((s : ProgramSegment) (offset : ℕ) → Q s → P (header_of s offset)) → All Q image.segments
      → All P (loadable (file_of image))
  each P Q from all = subst (All P) (sym loadable_written) (headers_all P Q from image.segments table_end all)

  -- what is so of the code is so of any segment that may be executed
  code_only : (P : ProgramSegment → Type 0) → ((s : ProgramSegment) → code_segment image ≡ Some s → P s)
      → All (λ t. is_code_segment t ≡ true → P t) image.segments
  unfolding code_segment
  code_only P of_code =
      let found = find_counted is_code_segment image.segments (rw ok.one_code (omega arith)) in
      All-weaker (λ (t : ProgramSegment). is_code_segment t ≡ true → t ≡ found.0)
      (λ (t : ProgramSegment). is_code_segment t ≡ true → P t)
      (λ t same passes. subst P (sym (same passes)) (of_code found.0 found.1)) image.segments
      (one_passes is_code_segment image.segments found.0 found.1 ok.one_code)

  start_of : (s : ProgramSegment) → code_segment image ≡ Some s → code_start image ≡ s.address
  unfolding code_start
  start_of s found = rw found refl

  size_of : (s : ProgramSegment) → code_segment image ≡ Some s → code_size image ≡ length s.bytes
  unfolding code_size
  size_of s found = rw found refl

  IsAligned : ProgramSegment → Type 0
  IsAligned s = (s.address % 4 ≡ 0) × (length s.bytes % 4 ≡ 0)

  IsEntered : ProgramSegment → Type 0
  IsEntered s = (s.address ≤ image.entry) × (image.entry < s.address + length s.bytes)

  aligned : All (λ t. is_code_segment t ≡ true → IsAligned t) image.segments
  unfolding IsAligned
  aligned = code_only IsAligned (λ s found. rw (← start_of s found, ← size_of s found) ok.code_aligned)

  entered : All (λ t. is_code_segment t ≡ true → IsEntered t) image.segments
  unfolding IsEntered
  entered = code_only IsEntered (λ s found.
      rw (← start_of s found, ← size_of s found)
      (tests_within (code_start image) (code_size image) image.entry ok.entry_in_code))

  pub passes : (check : LoadRefused) → Passes (file_of image) image.ram check
  unfolding IsAligned IsEntered
  passes TooShort = omega (arith, length_written)
  passes NotElf = at_file (λ l. take 4 l ≡ 0x7f ∷ 0x45 ∷ 0x4c ∷ 0x46 ∷ [])
      (magic image.entry (length image.segments) (headers ++ contents))
  passes NotClass32 =
      at_file (λ l. slice_index l 4 ≡ 1) (class image.entry (length image.segments) (headers ++ contents))
  passes NotLittleEndian =
      at_file (λ l. slice_index l 5 ≡ 1) (order image.entry (length image.segments) (headers ++ contents))
  passes WrongVersion = at_file (λ l. (slice_index l 6 ≡ 1) × (word_at l 20 ≡ 1)) (
    version image.entry (length image.segments) (headers ++ contents),
    file_version image.entry (length image.segments) (headers ++ contents),
  )
  passes NotExecutable =
      at_file (λ l. half_at l 16 ≡ 2) (kind image.entry (length image.segments) (headers ++ contents))
  passes NotRiscV =
      at_file (λ l. half_at l 18 ≡ 243) (machine image.entry (length image.segments) (headers ++ contents))
  passes WrongHeaderSize = at_file (λ l. (half_at l 40 ≡ 52) × (half_at l 42 ≡ 32)) (
    header_size image.entry (length image.segments) (headers ++ contents),
    entry_size image.entry (length image.segments) (headers ++ contents),
  )
  passes TableOutsideFile = omega (arith, length_written, table_written, count_written)
  passes WrongSegmentCount = rw (loadable_written, length-headers_of image.segments table_end) ok.count
  passes SegmentOutsideFile =
      subst (All (λ h. h.offset + h.file_size ≤ length (file_of image))) (sym loadable_written)
      (headers_inside image.segments table_end (length (file_of image)) (omega (arith, length_written)))
  passes WrongMemorySize =
      each (λ h. (0 < h.memory_size) × (h.file_size ≤ h.memory_size)) (λ s. 0 < length s.bytes)
      (λ s offset filled. (filled, omega arith)) ok.filled
  passes SegmentOutsideRam =
      each (λ h. (ram_start ≤ h.address) × (h.address + h.memory_size ≤ ram_start + image.ram))
      (λ s. (ram_start ≤ s.address) × (s.address + length s.bytes ≤ ram_start + image.ram))
      (λ s offset within. within) ok.within
  passes SegmentsOverlap =
      subst (AllPairs AreApart) (sym loadable_written)
      (headers_pairs AreApart EndsBefore (λ s t p q before. inl before) image.segments table_end ok.rising)
  passes WrongCodeSegment = rw loadable_written (count-headers_of image.segments table_end ∙ ok.one_code)
  passes MisalignedCode =
      each (λ h. IsTrue (is_executable h) → (h.address % 4 ≡ 0) × (h.memory_size % 4 ≡ 0))
      (λ s. is_code_segment s ≡ true → IsAligned s)
      (λ s offset so. so) aligned
  passes WrongEntry = (
    rw entry_written ok.entry_aligned,
    each (λ h. IsTrue (is_executable h)
        → (h.address ≤ entry_of (file_of image)) × (entry_of (file_of image) < h.address + h.memory_size))
        (λ s. is_code_segment s ≡ true → IsEntered s) (λ s offset so passed. rw entry_written (so passed)) entered,
  )
  passes OutOfMemory = tt

  -- no other image is that of the file
  pub same_image : (other : ProgramImage) → IsImageOf (file_of image) image.ram other → other ≡ image
  same_image other of_file =
      let moved : IsPermutation (headers_of image.segments table_end) of_file.order
      = subst (λ (hs : List ProgramHeader). IsPermutation hs of_file.order) loadable_written of_file.all in
      let in_order : of_file.order ≡ headers_of image.segments table_end
      = same_order (λ (h : ProgramHeader). h.address) (headers_of image.segments table_end) of_file.order rising_written
      moved of_file.rising in
      of_file.same ∙ ap (λ (hs : List ProgramHeader). image_from (file_of image) image.ram hs) in_order
      ∙ rw (entry_written, segments_written) refl
