-- One more line behind those that were read.
use Rattle.std.proofs.Common.{◌≡◌, ℕ, suc, ◌+◌, ◌<◌, true, List, [], ◌∷◌, ◌++◌, length, false, ◌==◌}
use Rattle.std.proofs.Common.{Some, None, refl, sym, ap, subst, ◌∙◌, append_assoc, append-nil, arith}
use Rattle.std.proofs.lemmas.Bool.Decides.{nat_tests}
use Rattle.std.proofs.lemmas.List.{flat_map_more}
use Rattle.std.proofs.lemmas.List.Elements.{All-nil, All-cons, All-push}
use Rattle.std.proofs.lemmas.List.Quantifiers.{all_pairs_push}
use Rattle.std.proofs.lemmas.List.{map-append, length-map}
use Rattle.std.specs.List.{All}
use Rattle.source_lines.specs.declared.line.SourceLine.{SourceLine}
use Rattle.source_lines.specs.declared.line.LineFault.{LineFault}
use Rattle.elf_image.specs.Image.{ProgramImage}
use Rattle.source_lines.specs.Lines.{AreLinesOf, AreRising, IsOriginIn, Origin, line_text, lines_text, origin_of, origins_of}
use Rattle.source_lines.specs.Faults.{IsFirstRefused, fault_of, is_behind, last_address}

tail_rises : (o : Origin) (os : List Origin) → AreRising (o ∷ os) → AreRising os
tail_rises o os rising i j d less inside = rising (suc i) (suc j) d (omega arith) (omega arith)

-- what is behind the last address is behind all
pub all_before : (os : List Origin) (address : ℕ) → AreRising os → is_behind (last_address os) address ≡ true
    → All (λ (o : Origin). o.address < address) os
all_before [] address rising behind = All-nil (λ (o : Origin). o.address < address)
all_before (o ∷ []) address rising behind =
    All-cons (λ (one : Origin). one.address < address) o [] (grind (arith, nat_tests))
    (All-nil (λ (one : Origin). one.address < address))
all_before (o ∷ next ∷ os) address rising behind =
    let others = all_before (next ∷ os) address (tail_rises o (next ∷ os) rising) behind in
    let second : next.address < address = others 0 next (omega arith) in
    let first : o.address < next.address = rising 0 1 next (omega arith) (omega arith) in
    All-cons (λ (one : Origin). one.address < address) o (next ∷ os) (omega (arith, second, first)) others

pub rises_more : (os : List Origin) (o : Origin) → AreRising os → is_behind (last_address os) o.address ≡ true
    → AreRising (os ++ o ∷ [])
rises_more os o rising behind =
    all_pairs_push (λ (one : Origin) (other : Origin). one.address < other.address) os o rising
    (all_before os o.address rising behind)

pub last_of_more : (os : List Origin) (o : Origin) → last_address (os ++ o ∷ []) ≡ Some o.address
last_of_more [] o = refl
last_of_more (one ∷ []) o = refl
last_of_more (one ∷ next ∷ os) o = last_of_more (next ∷ os) o

pub text_of_more : (os : List Origin) (o : Origin) → lines_text (os ++ o ∷ []) ≡ lines_text os ++ (line_text o ++ 10 ∷ [])
text_of_more os o = sym (flat_map_more (λ (origin : Origin). line_text origin ++ 10 ∷ []) [] os o)

-- what was read of a text, and what is left of it
pub record AreRead (image : ProgramImage) (text : List ℕ) (os : List Origin) (left : List ℕ) : Type 0 where
  pub whole : text ≡ lines_text os ++ left
  pub each : All (IsOriginIn image) os
  pub rising : AreRising os

pub none_read : (image : ProgramImage) (text : List ℕ) → AreRead image text [] text
none_read image text = record {
  whole = refl;
  each = All-nil (IsOriginIn image);
  rising = λ i j d less inside. absurd (omega arith);
}

pub more_read : (image : ProgramImage) (text left others : List ℕ) (os : List Origin) (o : Origin)
    → AreRead image text os left → left ≡ line_text o ++ 10 ∷ others → IsOriginIn image o
    → is_behind (last_address os) o.address ≡ true → AreRead image text (os ++ o ∷ []) others
more_read image text left others os o before cut one behind = record {
  whole = before.whole ∙ ap (λ bs. lines_text os ++ bs) cut
      ∙ ap (λ bs. lines_text os ++ bs) (sym (append_assoc (line_text o) (10 ∷ []) others))
      ∙ sym (append_assoc (lines_text os) (line_text o ++ 10 ∷ []) others)
      ∙ ap (λ bs. bs ++ others) (sym (text_of_more os o));
  each = All-push (IsOriginIn image) os o before.each one;
  rising = rises_more os o before.rising behind;
}

-- the same of lines as they are kept
pub begins : (image : ProgramImage) (text : List ℕ) (lines : List SourceLine) → lines ≡ []
    → AreRead image text (origins_of lines) text
begins image text lines none =
    subst (λ (all : List SourceLine). AreRead image text (origins_of all) text) (sym none) (none_read image text)

pub last_of_none : (lines : List SourceLine) → lines ≡ [] → None ≡ last_address (origins_of lines)
last_of_none lines none = ap (λ (all : List SourceLine). last_address (origins_of all)) (sym none)

pushed : (lines all : List SourceLine) (line : SourceLine) → all ≡ lines ++ line ∷ []
    → origins_of all ≡ origins_of lines ++ origin_of line ∷ []
pushed lines all line is = ap origins_of is ∙ map-append origin_of lines (line ∷ [])

pub goes_on : (image : ProgramImage) (text left others : List ℕ) (lines all : List SourceLine) (line : SourceLine)
    → AreRead image text (origins_of lines) left → all ≡ lines ++ line ∷ []
    → left ≡ line_text (origin_of line) ++ 10 ∷ others → IsOriginIn image (origin_of line)
    → is_behind (last_address (origins_of lines)) line.address ≡ true → AreRead image text (origins_of all) others
goes_on image text left others lines all line before is cut one behind =
    subst (λ (os : List Origin). AreRead image text os others) (sym (pushed lines all line is))
    (more_read image text left others (origins_of lines) (origin_of line) before cut one behind)

pub last_of_pushed : (lines all : List SourceLine) (line : SourceLine) → all ≡ lines ++ line ∷ []
    → Some line.address ≡ last_address (origins_of all)
last_of_pushed lines all line is =
    sym (ap last_address (pushed lines all line is) ∙ last_of_more (origins_of lines) (origin_of line))

pub first_refused : (image : ProgramImage) (text left : List ℕ) (lines : List SourceLine) (number : ℕ) (fault : LineFault)
    → AreRead image text (origins_of lines) left → number ≡ length lines + 1 → (length left == 0) ≡ false
    → fault_of image (last_address (origins_of lines)) left ≡ Some fault → IsFirstRefused image text number fault
first_refused image text left lines number fault before count more fails =
    let long = length-map lines origin_of in
    record {
      before = origins_of lines;
      left = left;
      whole = before.whole;
      are = record { whole = refl; each = before.each; rising = before.rising };
      count = omega (arith, count, long);
      more = more;
      fails = fails;
    }

all_of : (text first left : List ℕ) → text ≡ first ++ left → (length left == 0) ≡ true → text ≡ first
all_of text first [] is none = is ∙ append-nil first
all_of text first (c ∷ cs) is none = absurd (grind (arith, nat_tests))

pub all_read : (image : ProgramImage) (text left : List ℕ) (lines : List SourceLine)
    → AreRead image text (origins_of lines) left → (length left == 0) ≡ true → AreLinesOf image text (origins_of lines)
all_read image text left lines before none = record {
  whole = all_of text (lines_text (origins_of lines)) left before.whole none;
  each = before.each;
  rising = before.rising;
}
