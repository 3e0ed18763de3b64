-- One more line behind those that were read.
use Rattle.std.proofs.Common.{◌≡◌, ℕ, ◌+◌, true, false, List, [], ◌∷◌, ◌++◌, length, ◌==◌, refl, sym, ap, subst, ◌∙◌}
use Rattle.std.proofs.Common.{append_assoc, append-nil, arith}
use Rattle.std.proofs.lemmas.Bool.Decides.{nat_tests}
use Rattle.std.proofs.lemmas.List.{flat_map_more}
use Rattle.std.proofs.lemmas.List.Elements.{All-nil, All-push}
use Rattle.std.specs.List.{All}
use Rattle.litmus_suites.specs.Reading.{AreLinesOf, IsFirstRefused, IsSummaryLine, begins_with_line, line_of, lines_text}
use Rattle.litmus_suites.specs.declared.summary_lines.ExpectedLine.{ExpectedLine}

-- what was read of a text, and what is left of it
pub record AreRead (text : List ℕ) (lines : List ExpectedLine) (left : List ℕ) : Type 0 where
  pub whole : text ≡ lines_text lines ++ left
  pub each : All IsSummaryLine lines

pub begins : (text : List ℕ) (lines : List ExpectedLine) → lines ≡ [] → AreRead text lines text
begins text lines none = subst (λ (all : List ExpectedLine). AreRead text all text) (sym none)
    (record { whole = refl; each = All-nil IsSummaryLine })

text_of_more : (lines : List ExpectedLine) (line : ExpectedLine)
    → lines_text (lines ++ line ∷ []) ≡ lines_text lines ++ (line_of line ++ 10 ∷ [])
text_of_more lines line = sym (flat_map_more (λ (l : ExpectedLine). line_of l ++ 10 ∷ []) [] lines line)

pub goes_on : (text left others : List ℕ) (lines all : List ExpectedLine) (line : ExpectedLine) → AreRead text lines left
    → all ≡ lines ++ line ∷ [] → left ≡ line_of line ++ 10 ∷ others → IsSummaryLine line → AreRead text all others
goes_on text left others lines all line before is cut one =
    subst (λ (a : List ExpectedLine). AreRead text a others) (sym is) (record {
      whole = before.whole ∙ ap (λ bs. lines_text lines ++ bs) cut
          ∙ ap (λ bs. lines_text lines ++ bs) (sym (append_assoc (line_of line) (10 ∷ []) others))
          ∙ sym (append_assoc (lines_text lines) (line_of line ++ 10 ∷ []) others)
          ∙ ap (λ bs. bs ++ others) (sym (text_of_more lines line));
      each = All-push IsSummaryLine lines line before.each one;
    })

pub first_refused : (text left : List ℕ) (lines : List ExpectedLine) (number : ℕ) → AreRead text lines left
    → number ≡ length lines + 1 → (length left == 0) ≡ false → begins_with_line left ≡ false → IsFirstRefused text number
first_refused text left lines number before count more fails = record {
  before = lines;
  left = left;
  whole = before.whole;
  each = before.each;
  count = count;
  more = more;
  fails = fails;
}

all_of : (text first left : List ℕ) → text ≡ first ++ left → (length left == 0) ≡ true → text ≡ first
all_of text first [] is none = is ∙ append-nil first
all_of text first (c ∷ cs) is none = absurd (grind (arith, nat_tests))

pub all_read : (text left : List ℕ) (lines : List ExpectedLine) → AreRead text lines left → (length left == 0) ≡ true
    → AreLinesOf text lines
all_read text left lines before none =
    record { whole = all_of text (lines_text lines) left before.whole none; each = before.each }
