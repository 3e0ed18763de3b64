-- The last line of a suite. (This project's own choice.)
use Rattle.std.specs.Prelude.{ℕ, Bool, true, false, ◌+◌, ◌%◌, ◌^◌, ◌==◌, ◌&&◌, if◌then◌else◌, List, ◌++◌, codes}
use Rattle.std.specs.{Fmt.decimal}
use Rattle.litmus_suites.specs.declared.counts.Counts.{Counts}
use Rattle.litmus_suites.specs.declared.counts.Differences.{Differences}
use Rattle.litmus_suites.specs.declared.expectation.Met.{Met}
use Rattle.litmus_suites.specs.declared.expectation.Met.TheVariants.{Same, Changed, New}
use Rattle.litmus_suites.specs.declared.verdict.Verdict.{Verdict}
use Rattle.litmus_suites.specs.declared.verdict.Verdict.TheVariants.{Whole, NotComplete}

-- One more, as it is counted in 64 bits, and two counts together.
abbrev pub sum : ℕ → ℕ → ℕ
sum one other = (one + other) % 2 ^ 64

abbrev pub more : ℕ → ℕ
more count = sum count 1

-- One more test of which this is said, and one that is refused.
abbrev pub counted_whole : Bool → Counts → Counts
counted_whole true counts = record counts { as_asked = more counts.as_asked }
counted_whole false counts = record counts { otherwise = more counts.otherwise }

abbrev pub counted : Verdict → Counts → Counts
counted (Whole held others asked stuck) counts = counted_whole asked counts
counted NotComplete counts = record counts { not_complete = more counts.not_complete }

abbrev pub counted_refused : Counts → Counts
counted_refused counts = record counts { refused = more counts.refused }

unfoldable pub all_of : Counts → ℕ
all_of counts = sum (sum (sum counts.as_asked counts.otherwise) counts.not_complete) counts.refused

-- A count behind what it is of.
unfoldable pub count_text : List ℕ → ℕ → List ℕ
count_text text count = text ++ decimal count

unfoldable pub made_text : ℕ → ℕ → List ℕ
made_text as_asked otherwise = count_text (codes ": Ok ") as_asked ++ count_text (codes ", No ") otherwise

unfoldable pub others_text : ℕ → ℕ → List ℕ
others_text not_complete refused =
    codes ", not" ++ (count_text (codes " complete ") not_complete ++ count_text (codes ", refused ") refused)

unfoldable pub kinds_text : Counts → List ℕ
kinds_text counts = made_text counts.as_asked counts.otherwise ++ others_text counts.not_complete counts.refused

unfoldable pub counts_text : Counts → List ℕ
counts_text counts = count_text (codes "tests ") (all_of counts) ++ (kinds_text counts ++ codes "\n")

-- One more test that is this beside the line that it takes, and one that is refused.
abbrev pub noted : Met → Differences → Differences
noted Same differences = record differences { same = more differences.same }
noted Changed differences = record differences { changed = more differences.changed }
noted New differences = record differences { added = more differences.added }

abbrev pub noted_refused : Differences → Differences
noted_refused differences = record differences { refused = more differences.refused }

-- The exit status is 1 where something differs.
abbrev pub status_of : Differences → ℕ
status_of differences =
    if (differences.changed == 0 && differences.added == 0) && differences.gone == 0 then 0 else 1

abbrev pub tests_of : Differences → ℕ
tests_of differences = sum (sum (sum differences.same differences.changed) differences.added) differences.refused

unfoldable pub differences_text : Differences → List ℕ
differences_text differences = count_text (codes "tests ") (tests_of differences)
    ++ (count_text (codes ": the same ") differences.same ++ (count_text (codes ", changed ") differences.changed
    ++ (count_text (codes ", new ") differences.added ++ (count_text (codes ", not there ") differences.gone
    ++ (count_text (codes ", refused ") differences.refused ++ codes "\n")))))

-- The counts of no test.
abbrev pub no_counts : Counts
no_counts = record { as_asked = 0; otherwise = 0; not_complete = 0; refused = 0 }

abbrev pub no_differences : Differences
no_differences = record { same = 0; changed = 0; added = 0; gone = 0; refused = 0 }
