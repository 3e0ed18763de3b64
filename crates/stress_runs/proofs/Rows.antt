-- The rows of a table, as a loop prints them.
use Rattle.std.proofs.Common.{◌≡◌, ℕ, Bool, zero, suc, ◌+◌, ◌<◌, List, [], ◌∷◌, ◌++◌, length, take, get_or, Option}
use Rattle.std.proofs.Common.{sym, ap, subst, ◌∙◌, append_assoc, append-nil, arith}
use Rattle.std.specs.Io.KnownBytes.{Appends}
use Rattle.text_fields.proofs.Appending.{appends_more, each_step}
use Rattle.text_fields.specs.Each.{each_from}
use Rattle.watched_outcomes.specs.declared.watch.Watch.{Watch}
use Rattle.outcome_queries.specs.declared.question.Question.{Question}
use Rattle.outcome_text.specs.Answers.{place_of, settles}
use Rattle.outcome_queries.specs.declared.watched.Asked.{Asked}
use Rattle.stress_runs.specs.declared.tally.Row.{Row}
use Rattle.stress_runs.specs.Table.{row_text, row_texts}
use Rattle.stress_runs.specs.Answers.{end_place}

row_texts_suc : (regs words : List Asked) (first : ℕ) (rows : List Row) (i : ℕ) (d : Row) → i < length rows
    → row_texts regs words first (take (suc i) rows)
    ≡ row_texts regs words first (take i rows) ++ row_text regs words (first + i) (get_or rows i d)
row_texts_suc regs words first [] i d inside = absurd (omega arith)
row_texts_suc regs words first (row ∷ rows) zero d inside =
    let same : first + 0 ≡ first = omega arith in
    append-nil (row_text regs words first row) ∙ ap (λ k. row_text regs words k row) (sym same)
row_texts_suc regs words first (row ∷ rows) (suc i) d inside =
    let same : first + 1 + i ≡ first + suc i = omega arith in
    ap (λ t. row_text regs words first row ++ t) (row_texts_suc regs words (first + 1) rows i d (omega arith))
    ∙ sym (append_assoc (row_text regs words first row) (row_texts regs words (first + 1) (take i rows))
    (row_text regs words (first + 1 + i) (get_or rows i d)))
    ∙ ap (λ k. (row_text regs words first row ++ row_texts regs words (first + 1) (take i rows))
    ++ row_text regs words k (get_or rows i d)) same

pub rows_step : (regs words : List Asked) (old mid new : Option (List ℕ)) (rows : List Row) (i : ℕ) (d : Row)
    → i < length rows → d ≡ get_or rows i d → Appends old mid (row_texts regs words 1 (take i rows))
    → Appends mid new (row_text regs words (i + 1) d)
    → Appends old new (row_texts regs words 1 (take (i + 1) rows))
rows_step regs words old mid new rows i d inside is before next =
    let on : i + 1 ≡ suc i = omega arith in
    let same : 1 + i ≡ i + 1 = omega arith in
    let more : row_texts regs words 1 (take (i + 1) rows)
    ≡ row_texts regs words 1 (take i rows) ++ row_text regs words (i + 1) (get_or rows i d) =
    ap (λ n. row_texts regs words 1 (take n rows)) on ∙ row_texts_suc regs words 1 rows i d inside
    ∙ ap (λ k. row_texts regs words 1 (take i rows) ++ row_text regs words k (get_or rows i d)) same in
    subst (λ t. Appends old new t) (sym more) (appends_more old mid new _ _ before
    (subst (λ (row : Row). Appends mid new (row_text regs words (i + 1) row)) is next))

-- The numbers of the ends that settle a question, as a loop prints them.
pub place_step : (watch : Watch) (question : Question) (old mid new : Option (List ℕ)) (rows : List Row) (i : ℕ) (d : Row)
    (b : Bool) → i < length rows → d ≡ get_or rows i d → b ≡ settles watch question d.end
    → Appends old mid (each_from (end_place watch question) 0 (take i rows)) → Appends mid new (place_of b (i + 1))
    → Appends old new (each_from (end_place watch question) 0 (take (i + 1) rows))
place_step watch question old mid new rows i d b inside is said before next =
    each_step (end_place watch question) old mid new rows i d inside before
    (subst (λ h. Appends mid new (place_of h (i + 1)))
    (said ∙ ap (λ (row : Row). settles watch question row.end) is) next)
