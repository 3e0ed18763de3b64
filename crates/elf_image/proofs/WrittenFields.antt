-- What the headers of a written file read as.
use Rattle.std.proofs.Common.{◌≡◌, ℕ, ◌+◌, ◌*◌, ◌^◌, ◌<◌, List, [], ◌∷◌, ◌++◌, length, take, refl, sym, ◌∙◌, ap, arith}
use Rattle.std.proofs.Common.{append_assoc, length-append}
use Rattle.std.specs.Prelude.{slice_index, filter}
use Rattle.std.proofs.Math.Seq.{drop-append-add}
use Rattle.byteorder.specs.Numbers.{little_number-reads_back}
use Rattle.elf_image.specs.Image.{ProgramSegment}
use Rattle.elf_image.specs.{declared.program_header.ProgramHeader.ProgramHeader}
use Rattle.elf_image.specs.Layout.{half_at, word_at, header_at, headers_from, loadable_from, is_loadable}
use Rattle.elf_image.specs.Written.{half_bytes, word_bytes, file_header, program_header, program_headers}

-- the header that is written for a segment whose bytes lie at an offset
abbrev pub header_of : ProgramSegment → ℕ → ProgramHeader
header_of s offset = record {
  kind = 1;
  offset = offset;
  address = s.address;
  file_size = length s.bytes;
  memory_size = length s.bytes;
  flags = s.flags;
}

abbrev pub headers_of : List ProgramSegment → ℕ → List ProgramHeader
headers_of [] offset = []
headers_of (s ∷ segments) offset = header_of s offset ∷ headers_of segments (offset + length s.bytes)

-- the fields fit
abbrev pub Fits : List ProgramSegment → ℕ → Type 0
Fits [] offset = Unit {0}
Fits (s ∷ segments) offset =
    (offset < 2 ^ 32) × (s.address < 2 ^ 32) × (length s.bytes < 2 ^ 32) × (s.flags < 2 ^ 32)
    × Fits segments (offset + length s.bytes)

module _ (entry count : ℕ) (rest : List ℕ) where
  pub magic : take 4 (file_header entry count ++ rest) ≡ 0x7f ∷ 0x45 ∷ 0x4c ∷ 0x46 ∷ []
  unfolding file_header
  magic = refl

  pub class : slice_index (file_header entry count ++ rest) 4 ≡ 1
  unfolding file_header
  class = refl

  pub order : slice_index (file_header entry count ++ rest) 5 ≡ 1
  unfolding file_header
  order = refl

  pub version : slice_index (file_header entry count ++ rest) 6 ≡ 1
  unfolding file_header
  version = refl

  pub file_version : word_at (file_header entry count ++ rest) 20 ≡ 1
  unfolding file_header word_at word_bytes half_bytes
  file_version = refl

  pub kind : half_at (file_header entry count ++ rest) 16 ≡ 2
  unfolding file_header half_at word_bytes half_bytes
  kind = refl

  pub machine : half_at (file_header entry count ++ rest) 18 ≡ 243
  unfolding file_header half_at word_bytes half_bytes
  machine = refl

  pub header_size : half_at (file_header entry count ++ rest) 40 ≡ 52
  unfolding file_header half_at word_bytes half_bytes
  header_size = refl

  pub entry_size : half_at (file_header entry count ++ rest) 42 ≡ 32
  unfolding file_header half_at word_bytes half_bytes
  entry_size = refl

  pub table : word_at (file_header entry count ++ rest) 28 ≡ 52
  unfolding file_header word_at word_bytes half_bytes
  table = refl

  pub table_length : count < 2 ^ 16 → half_at (file_header entry count ++ rest) 44 ≡ count
  unfolding file_header half_at word_bytes half_bytes
  table_length fits = little_number-reads_back 2 count [] fits

  pub enters : entry < 2 ^ 32 → word_at (file_header entry count ++ rest) 24 ≡ entry
  unfolding file_header word_at word_bytes half_bytes
  enters fits = little_number-reads_back 4 entry [] fits

  pub length-file_header : length (file_header entry count) ≡ 52
  unfolding file_header word_bytes half_bytes
  length-file_header = refl

-- a field behind a front is the same field of the rest
word_behind : (front xs : List ℕ) (place n : ℕ) → place ≡ length front + n → word_at (front ++ xs) place ≡ word_at xs n
unfolding word_at
word_behind front xs place n is = rw (is, drop-append-add front xs n) refl

header_behind : (front xs : List ℕ) (place : ℕ) → place ≡ length front → header_at (front ++ xs) place ≡ header_at xs 0
unfolding header_at
header_behind front xs place is =
    let first = word_behind front xs place 0 (omega arith) in
    let second = word_behind front xs (place + 4) 4 (omega arith) in
    let third = word_behind front xs (place + 8) 8 (omega arith) in
    let fifth = word_behind front xs (place + 16) 16 (omega arith) in
    let sixth = word_behind front xs (place + 20) 20 (omega arith) in
    let seventh = word_behind front xs (place + 24) 24 (omega arith) in
    rw (first, second, third, fifth, sixth, seventh) refl

header_read : (s : ProgramSegment) (offset : ℕ) (rest : List ℕ) → offset < 2 ^ 32 → s.address < 2 ^ 32
    → length s.bytes < 2 ^ 32 → s.flags < 2 ^ 32
    → header_at (program_header s offset ++ rest) 0 ≡ header_of s offset
unfolding header_at program_header word_at word_bytes
header_read s offset rest a b c d =
    let where_it_lies = little_number-reads_back 4 offset [] a in
    let address = little_number-reads_back 4 s.address [] b in
    let size = little_number-reads_back 4 (length s.bytes) [] c in
    let flags = little_number-reads_back 4 s.flags [] d in
    rw (where_it_lies, address, size, flags) refl

length-program_header : (s : ProgramSegment) (offset : ℕ) → length (program_header s offset) ≡ 32
unfolding program_header word_bytes
length-program_header s offset = refl

pub length-program_headers : (segments : List ProgramSegment) (offset : ℕ)
    → length (program_headers segments offset) ≡ 32 * length segments
unfolding program_headers
length-program_headers [] offset = omega arith
length-program_headers (s ∷ segments) offset =
    let first = length-program_header s offset in
    let others = length-program_headers segments (offset + length s.bytes) in
    omega (arith, length-append (program_header s offset) (program_headers segments (offset + length s.bytes)))

-- the table is read as it was written
pub headers_read : (segments : List ProgramSegment) (offset : ℕ) (front tail : List ℕ) (place : ℕ)
    → place ≡ length front → Fits segments offset
    → headers_from (front ++ (program_headers segments offset ++ tail)) place (length segments)
    ≡ headers_of segments offset
unfolding headers_from program_headers
headers_read [] offset front tail place at fits = refl
headers_read (s ∷ segments) offset front tail place at fits =
    let next : ℕ = offset + length s.bytes in
    let first : List ℕ = program_header s offset in
    let others : List ℕ = program_headers segments next ++ tail in
    let behind_front : front ++ (first ++ program_headers segments next ++ tail) ≡ front ++ (first ++ others)
    = ap (λ (l : List ℕ). front ++ l) (append_assoc first (program_headers segments next) tail) in
    let behind_first : front ++ (first ++ program_headers segments next ++ tail) ≡ front ++ first ++ others
    = behind_front ∙ sym (append_assoc front first others) in
    let head : header_at (front ++ (first ++ program_headers segments next ++ tail)) place ≡ header_of s offset
    = ap (λ (l : List ℕ). header_at l place) behind_front ∙ header_behind front (first ++ others) place at
    ∙ header_read s offset others fits.0 fits.1 fits.2 fits.3 in
    let after : place + 32 ≡ length (front ++ first) =
    omega (arith, at, length-append front first, length-program_header s offset) in
    let rest : headers_from (front ++ (first ++ program_headers segments next ++ tail)) (place + 32) (length segments)
    ≡ headers_of segments next
    = ap (λ (l : List ℕ). headers_from l (place + 32) (length segments)) behind_first
    ∙ headers_read segments next (front ++ first) tail (place + 32) after fits.4 in
    ap (λ (h : ProgramHeader). h ∷ headers_from (front ++ (first ++ program_headers segments next ++ tail)) (place + 32)
    (length segments)) head
    ∙ ap (λ (hs : List ProgramHeader). header_of s offset ∷ hs) rest

all_loadable : (segments : List ProgramSegment) (offset : ℕ)
    → filter is_loadable (headers_of segments offset) ≡ headers_of segments offset
all_loadable [] offset = refl
all_loadable (s ∷ segments) offset =
    ap (λ (hs : List ProgramHeader). header_of s offset ∷ hs) (all_loadable segments (offset + length s.bytes))

pub loadable_read : (segments : List ProgramSegment) (offset : ℕ) (front tail : List ℕ) (place : ℕ)
    → place ≡ length front → Fits segments offset
    → loadable_from (front ++ (program_headers segments offset ++ tail)) place (length segments)
    ≡ headers_of segments offset
unfolding loadable_from
loadable_read segments offset front tail place at fits =
    ap (λ (hs : List ProgramHeader). filter is_loadable hs) (headers_read segments offset front tail place at fits)
    ∙ all_loadable segments offset
