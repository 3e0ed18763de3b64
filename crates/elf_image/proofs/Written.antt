-- One more segment of a file that is written.
use Rattle.std.proofs.Common.{◌≡◌, ℕ, suc, ◌+◌, ◌<◌, ◌≤◌, List, [], ◌∷◌, ◌++◌, length, get_or, drop, refl, sym, ap}
use Rattle.std.proofs.Common.{drop-cons, add-one}
use Rattle.std.proofs.lemmas.List.{drop_all}
use Rattle.elf_image.specs.Image.{ProgramSegment}
use Rattle.elf_image.specs.Written.{program_header, program_headers}

headers_of_more : (s : ProgramSegment) (segments : List ProgramSegment) (offset : ℕ)
    → program_headers (s ∷ segments) offset ≡ program_header s offset
    ++ program_headers segments (offset + length s.bytes)
unfolding program_headers
headers_of_more s segments offset = refl

pub program_headers_with : (segments : List ProgramSegment) (i offset : ℕ) (s : ProgramSegment) → i < length segments
    → s ≡ get_or segments i s
    → program_headers (drop i segments) offset ≡ program_header s offset
    ++ program_headers (drop (i + 1) segments) (offset + length s.bytes)
program_headers_with segments i offset s below is =
    let first : drop i segments ≡ s ∷ drop (i + 1) segments =
    rw (add-one, drop-cons segments i s) (ap (λ (x : ProgramSegment). x ∷ drop (suc i) segments) (sym is)) in
    rw first (headers_of_more s (drop (i + 1) segments) offset)

pub program_headers_none : (segments : List ProgramSegment) (i offset : ℕ) → length segments ≤ i
    → program_headers (drop i segments) offset ≡ []
unfolding program_headers
program_headers_none segments i offset past = rw (drop_all i segments past) refl
