-- The image of a file that passes all checks.
use Rattle.std.proofs.Common.{◌≡◌, ℕ, ◌+◌, ◌-◌, ◌/◌, ◌%◌, ◌<◌, ◌≤◌, ◌==◌, ◌&&◌, Bool, true, false, List, [], ◌∷◌}
use Rattle.std.proofs.Common.{length, get_or, take, drop, map, replicate, sym, ◌∙◌, ap, subst, refl, arith, cond, Some}
use Rattle.std.proofs.Common.{inl, inr, length-append, length-drop}
use Rattle.std.specs.Prelude.{All, AllPairs, Contains, find, count_by, slice_index, IsPermutation, IsTrue, nat_le}
use Rattle.std.specs.Prelude.{nat_lt}
use Rattle.std.specs.List.Sorted.{IsNonDecreasingBy}
use Rattle.std.proofs.lemmas.List.{get_or-map, get_or_append_left, get_or-append_right, get_or-take, get_or-drop}
use Rattle.std.proofs.lemmas.List.{get_or-replicate, length-map, length-take, length-replicate}
use Rattle.std.proofs.{lemmas.List.Elements.All-map, lemmas.List.Elements.All-weaker}
use Rattle.std.proofs.{lemmas.List.Elements.Contains-get_or, lemmas.List.Sums.sum_by-cons}
use Rattle.std.proofs.{lemmas.Bool.Decides.nat_tests}
use Rattle.std.proofs.lemmas.List.Sorted.{All-permutation, Contains-permutation, length_permutation}
use Rattle.std.proofs.lemmas.List.Sorted.{sum_by-IsPermutation}
use Rattle.elf_image.specs.{declared.program_header.ProgramHeader.ProgramHeader}
use Rattle.elf_image.specs.{declared.refusal.LoadRefused.LoadRefused, Layout.entry_of, Layout.loadable}
use Rattle.elf_image.specs.declared.refusal.LoadRefused.TheVariants.{WrongSegmentCount, SegmentOutsideFile}
use Rattle.elf_image.specs.declared.refusal.LoadRefused.TheVariants.{WrongMemorySize, SegmentOutsideRam}
use Rattle.elf_image.specs.declared.refusal.LoadRefused.TheVariants.{SegmentsOverlap, WrongCodeSegment, MisalignedCode}
use Rattle.elf_image.specs.declared.refusal.LoadRefused.TheVariants.{WrongEntry}
use Rattle.elf_image.specs.Image.{ProgramSegment, IsRamSize, IsWellFormed, ram_start, is_code_segment}
use Rattle.elf_image.specs.Image.{code_segment, code_start, code_size, covers, segment_byte}
use Rattle.elf_image.specs.Image.{byte_among, byte_in}
use Rattle.elf_image.specs.Checks.{Passes, AreApart, is_executable}
use Rattle.elf_image.specs.Loaded.{segment_of, image_from, IsOutside, IsImageOf}
use Rattle.elf_image.proofs.Covering.{EndsBefore, found_at, covers_from, covers_low, covers_high, byte_covered}
use Rattle.elf_image.proofs.Covering.{byte_zero}
use Rattle.elf_image.proofs.Pairs.{AllPairs-permutation}

blank : ProgramHeader
blank = record { kind = 0; offset = 0; address = 0; file_size = 0; memory_size = 0; flags = 0 }

-- what the checks say of each loadable header
pub record Good (file : List ℕ) (ram : ℕ) (h : ProgramHeader) : Type 0 where
  pub in_file : h.offset + h.file_size ≤ length file
  pub filled : 0 < h.memory_size
  pub sized : h.file_size ≤ h.memory_size
  pub low : ram_start ≤ h.address
  pub high : h.address + h.memory_size ≤ ram_start + ram
  pub aligned : IsTrue (is_executable h) → (h.address % 4 ≡ 0) × (h.memory_size % 4 ≡ 0)
  pub entry : IsTrue (is_executable h) → (h.address ≤ entry_of file) × (entry_of file < h.address + h.memory_size)

pub are_good : (file : List ℕ) (ram : ℕ) → ((check : LoadRefused) → Passes file ram check)
    → All (Good file ram) (loadable file)
are_good file ram ok k d below = record {
  in_file = ok SegmentOutsideFile k d below;
  filled = (ok WrongMemorySize k d below).0;
  sized = (ok WrongMemorySize k d below).1;
  low = (ok SegmentOutsideRam k d below).0;
  high = (ok SegmentOutsideRam k d below).1;
  aligned = ok MisalignedCode k d below;
  entry = (ok WrongEntry).1 k d below;
}

pub length_segment : (file : List ℕ) (h : ProgramHeader) → h.offset + h.file_size ≤ length file
    → h.file_size ≤ h.memory_size
    → length (segment_of file h).bytes ≡ h.memory_size
length_segment file h inside less = simp (length-append, length-take, length-drop, length-replicate) (omega arith)

low_bit : (n : ℕ) → n % 8 % 2 ≡ n % 2
low_bit n = omega arith

pub same_code : (file : List ℕ) (h : ProgramHeader) → is_code_segment (segment_of file h) ≡ is_executable h
same_code file h = ap (λ (n : ℕ). n == 1) (low_bit h.flags)

count_by-map : {X Y : Type 0} (p : Y → Bool) (q : X → Bool) (f : X → Y) → ((x : X) → p (f x) ≡ q x) → (xs : List X)
    → count_by p (map f xs) ≡ count_by q xs
count_by-map p q f same [] = refl
count_by-map p q f same (x ∷ xs) =
    rw (
      sum_by-cons (λ y. cond (p y) 1 0) (f x) (map f xs),
      sum_by-cons (λ y. cond (q y) 1 0) x xs,
      same x,
      count_by-map p q f same xs,
    ) refl

-- where one passes, one is found
pub find_counted : {X : Type 0} (p : X → Bool) (xs : List X) → 0 < count_by p xs → (x : X) × (find p xs ≡ Some x)
find_counted p [] some = absurd (omega arith)
find_counted {X} p (x ∷ xs) some =
    let more : 0 < cond (p x) 1 0 + count_by p xs = rw (← sum_by-cons (λ (y : X). cond (p y) 1 0) x xs) some in
    find_first p x xs (p x) more (find_counted p xs)
  where
    find_first : {X : Type 0} (p : X → Bool) (x : X) (xs : List X) (b : Bool) → 0 < cond b 1 0 + count_by p xs
        → (0 < count_by p xs → (y : X) × (find p xs ≡ Some y)) → (y : X) × (cond b (Some x) (find p xs) ≡ Some y)
    find_first p x xs true more rest = (x, refl)
    find_first p x xs false more rest = rest (omega arith)

within_tests : (start size addr : ℕ) → (start ≤ addr) × (addr < start + size)
    → nat_le start addr && nat_lt addr (start + size) ≡ true
within_tests start size addr within = grind (arith, nat_tests)

module _ (file : List ℕ) (ram : ℕ) (order : List ProgramHeader) (ok : (check : LoadRefused) → Passes file ram check)
    (all : IsPermutation (loadable file) order) (rising : IsNonDecreasingBy (λ h. h.address) order) where
  pub good : All (Good file ram) order
  good = All-permutation (Good file ram) (loadable file) order all (are_good file ram ok)

  turn : (g h : ProgramHeader) → AreApart g h → AreApart h g
  turn g h (inl before) = inr before
  turn g h (inr after) = inl after

  first_ends : (g h : ProgramHeader) → AreApart g h → g.address ≤ h.address → 0 < h.memory_size
      → g.address + g.memory_size ≤ h.address
  first_ends g h (inl before) less filled = before
  first_ends g h (inr after) less filled = absurd (omega arith)

  apart : AllPairs (λ g h. g.address + g.memory_size ≤ h.address) order
  apart i j d less inside =
      let g = get_or order i d in
      let h = get_or order j d in
      first_ends g h
      (AllPairs-permutation AreApart turn (loadable file) order all (ok SegmentsOverlap) i j d less inside)
      (rising i j d (omega arith) inside) (good j d inside).filled

  -- a fact of each segment, from that of its header
  each : (P : ProgramSegment → Type 0) → ((h : ProgramHeader) → Good file ram h → P (segment_of file h))
      → All P (map (segment_of file) order)
  each P from =
      All-map P (segment_of file) order (All-weaker (Good file ram) (λ h. P (segment_of file h)) from order good)

  sized : (h : ProgramHeader) → Good file ram h → length (segment_of file h).bytes ≡ h.memory_size
  sized h g = length_segment file h g.in_file g.sized

  pub rising_segments : AllPairs EndsBefore (map (segment_of file) order)
  rising_segments i j d less inside =
      let within : j < length order = omega (arith, length-map order (segment_of file)) in
      let earlier : i < length order = omega arith in
      let left = get_or-map (segment_of file) order i blank d earlier in
      let right = get_or-map (segment_of file) order j blank d within in
      let before : (segment_of file (get_or order i blank)).address + length
      (segment_of file (get_or order i blank)).bytes ≤ (segment_of file (get_or order j blank)).address
      = rw (sized (get_or order i blank) (good i blank earlier)) (apart i j blank less within) in
      subst (λ (s : ProgramSegment). EndsBefore s (get_or (map (segment_of file) order) j d)) (sym left)
      (subst (λ (t : ProgramSegment). EndsBefore (segment_of file (get_or order i blank)) t) (sym right) before)

  one : count_by is_code_segment (map (segment_of file) order) ≡ 1
  one =
      count_by-map is_code_segment is_executable (segment_of file) (same_code file) order
      ∙ sum_by-IsPermutation (λ (h : ProgramHeader). cond (is_executable h) 1 0) (loadable file) order all
      ∙ ok WrongCodeSegment

  -- what is so of the code
  pub record IsCode (s : ProgramSegment) : Type 0 where
    pub low : ram_start ≤ s.address
    pub high : s.address + length s.bytes ≤ ram_start + ram
    pub aligned : (s.address % 4 ≡ 0) × (length s.bytes % 4 ≡ 0)
    pub entry : (s.address ≤ entry_of file) × (entry_of file < s.address + length s.bytes)

  code_of_header : (h : ProgramHeader) → Good file ram h → is_code_segment (segment_of file h) ≡ true
      → IsCode (segment_of file h)
  code_of_header h g executable =
      let same : is_executable h ≡ true = sym (same_code file h) ∙ executable in
      record {
        low = g.low;
        high = rw (sized h g) g.high;
        aligned = rw (sized h g) (g.aligned same);
        entry = rw (sized h g) (g.entry same);
      }

  code : (s : ProgramSegment) → find is_code_segment (map (segment_of file) order) ≡ Some s → IsCode s
  code s found =
      let f = found_at is_code_segment (map (segment_of file) order) s found in
      let IfCode : ProgramSegment → Type 0 = λ t. is_code_segment t ≡ true → IsCode t in
      subst IfCode f.at (each IfCode code_of_header f.place s f.below) f.passes

  the_code : (s : ProgramSegment) × (find is_code_segment (map (segment_of file) order) ≡ Some s)
  the_code = find_counted is_code_segment (map (segment_of file) order) (rw one (omega arith))

  starts : (s : ProgramSegment) → find is_code_segment (map (segment_of file) order) ≡ Some s
      → code_start (image_from file ram order) ≡ s.address
  unfolding code_start code_segment
  starts s found = rw found refl

  sizes : (s : ProgramSegment) → find is_code_segment (map (segment_of file) order) ≡ Some s
      → code_size (image_from file ram order) ≡ length s.bytes
  unfolding code_size code_segment
  sizes s found = rw found refl

  pub well_formed : IsRamSize ram → IsWellFormed (image_from file ram order)
  well_formed size =
      let s = the_code.0 in
      let start = starts s the_code.1 in
      let sized_code = sizes s the_code.1 in
      let facts = code s the_code.1 in
      let n : length (map (segment_of file) order) ≡ length (loadable file) =
      length-map order (segment_of file) ∙ length_permutation (loadable file) order all in
      record {
        ram = size;
        count = rw n (ok WrongSegmentCount);
        filled = each (λ t. 0 < length t.bytes) (λ h g. rw (sized h g) g.filled);
        within = each (λ t. (ram_start ≤ t.address) × (t.address + length t.bytes ≤ ram_start + ram))
            (λ h g. (g.low, rw (sized h g) g.high));
        rising = rising_segments;
        flags = each (λ t. t.flags < 8) (λ h g. omega arith);
        one_code = one;
        code_within = rw (start, sized_code) (facts.low, facts.high);
        code_aligned = rw (start, sized_code) facts.aligned;
        entry_aligned = (ok WrongEntry).0;
        entry_in_code = rw (start, sized_code) (within_tests s.address (length s.bytes) (entry_of file) facts.entry);
      }

  -- the place of a header among the sorted ones
  place_of : (h : ProgramHeader) → Contains (loadable file) h → Contains order h
  place_of h there = Contains-permutation (loadable file) order h all there

  byte_of_file : (h : ProgramHeader) → Contains order h → Good file ram h → (i : ℕ) → i < h.file_size
      → byte_among (map (segment_of file) order) (h.address + i) ≡ slice_index file (h.offset + i)
  byte_of_file h there g i less =
      let s = segment_of file h in
      let inside : there.0 < length (map (segment_of file) order) = rw (length-map order (segment_of file)) there.1 in
      let at : get_or (map (segment_of file) order) there.0 s ≡ s =
      get_or-map (segment_of file) order there.0 h s there.1 ∙ ap (segment_of file) there.2 in
      let n = sized h g in
      let covered = covers_from s (h.address + i) (omega arith) (rw n (omega (arith, g.sized))) in
      let offset : h.address + i - h.address ≡ i = omega arith in
      let first : i < length (take h.file_size (drop h.offset file)) =
      rw (length-take, length-drop) (omega (arith, g.in_file)) in
      byte_covered (map (segment_of file) order) (h.address + i) there.0 s rising_segments inside at covered
      ∙ rw (offset, get_or_append_left, get_or-take, get_or-drop) refl

  past_file : (addr : ℕ) (h : ProgramHeader) → h.address ≤ addr → IsOutside addr h → h.file_size ≤ addr - h.address
  past_file addr h low (inl before) = absurd (omega arith)
  past_file addr h low (inr after) = omega arith

  zero_of_header : (addr : ℕ) (h : ProgramHeader) → Good file ram h → IsOutside addr h
      → covers (segment_of file h) addr ≡ true → segment_byte (segment_of file h) addr ≡ 0
  zero_of_header addr h g outside covered =
      let n = sized h g in
      let low : h.address ≤ addr = covers_low (segment_of file h) addr covered in
      let high : addr < h.address + h.memory_size = rw n at (covers_high (segment_of file h) addr covered) in
      let past = past_file addr h low outside in
      let front : length (take h.file_size (drop h.offset file)) ≡ h.file_size =
      rw (length-take, length-drop) (omega (arith, g.in_file)) in
      get_or-append_right (take h.file_size (drop h.offset file))
      (replicate (h.memory_size - h.file_size) 0) h.file_size (addr - h.address) 0 front past
      ∙ get_or-replicate (h.memory_size - h.file_size) (addr - h.address - h.file_size) 0 0 (omega arith)

  pub is_image : IsImageOf file ram (image_from file ram order)
  unfolding byte_in
  is_image = record {
    order = order;
    all = all;
    rising = rising;
    same = refl;
    from_file = λ k d below. byte_of_file _ (place_of _ (Contains-get_or (loadable file) k d below))
        (are_good file ram ok k d below);
    elsewhere = λ addr outside. byte_zero (map (segment_of file) order) addr
        (All-map (λ t. covers t addr ≡ true → segment_byte t addr ≡ 0) (segment_of file) order
        (λ k d below. zero_of_header addr _ (good k d below)
        (All-permutation (IsOutside addr) (loadable file) order all outside k d below)));
  }
