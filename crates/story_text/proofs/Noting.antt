-- How far a story is told once another step was.
use Rattle.std.proofs.Common.{◌≡◌, ◌∙◌, ℕ, suc, ◌+◌, ◌<◌, ◌≤◌, List, [], ◌∷◌, ◌++◌, Bool, true, false, Option, Some}
use Rattle.std.proofs.Common.{None, refl, sym, ap, subst, arith, length}
use Rattle.std.specs.Prelude.{filter, min, ◌-◌, ◌^◌}
use Rattle.std.specs.List.{before_first}
use Rattle.std.proofs.lemmas.List.Sums.{count_by-le-length, length-filter}
use Rattle.stories.specs.{Story.has_row, Story.row_count, Story.row_of, Story.row_list, Story.rows}
use Rattle.stories.specs.{declared.step.Step.Step, declared.row.Row.Row, declared.teller.Teller.Teller}
use Rattle.stories.specs.{Takers.HasHeard, Notes.HasKept, declared.recent.Note.Note}
use Rattle.story_text.specs.{Fields.unseen_text, Text.Plan, Text.numbered_line, Text.piece, Text.note_for, Text.unseen}
use Rattle.story_text.specs.{Telling.HasTold, Telling.most_told, declared.telling.Telling.Telling}

before_hit : (p : Step → Bool) (x : Step) (xs : List Step) → p x ≡ true → before_first p (x ∷ xs) ≡ []
before_hit p x xs hit = rw hit refl

count_hit : (p : Step → Bool) (x : Step) (xs : List Step) → p x ≡ true
    → length (filter p (x ∷ xs)) ≡ length (filter p xs) + 1
count_hit p x xs hit = rw hit (omega arith)

-- No more rows than steps.
pub few_rows : (all : Bool) (past : List Step) → row_count all past ≤ length past
few_rows all past = subst (λ n. n ≤ length past) (sym (length-filter (has_row all) past))
    (count_by-le-length (has_row all) past)

pub one_row : (all : Bool) (past : List Step) (was : Telling) (rows : ℕ) → HasTold all past was
    → length past < most_told → rows ≡ min (was.rows + 1) (2 ^ 64 - 1) → rows ≡ was.rows + 1
one_row all past was rows has few is =
    let few_now = few_rows all past in
    omega (arith, has.rows_are, few, few_now, is)

pub noted : (all : Bool) (past : List Step) (step : Step) (was now : Telling) (row : Row) → HasTold all past was
    → has_row all step ≡ true → now.rows ≡ was.rows + 1 → now.unseen ≡ 0 → row_of now.rows step ≡ Some row
    → ((told : List Row) → HasHeard told was.teller → HasHeard (row ∷ told) now.teller)
    → ((told : List Row) → HasKept told was.recent → HasKept (row ∷ told) now.recent)
    → HasTold all (step ∷ past) now
noted all past step was now row has hit more none is hears keeps =
    let counted : row_count all (step ∷ past) ≡ row_count all past + 1 = count_hit (has_row all) step past hit in
    let same : now.rows ≡ row_count all (step ∷ past) = more ∙ ap (λ n. n + 1) has.rows_are ∙ sym counted in
    let told : rows all (step ∷ past) ≡ row ∷ rows all past =
    ap (λ n. row_list (row_of n step) ++ rows all past) (sym same) ∙ ap (λ r. row_list r ++ rows all past) is in
    record {
      heard = subst (λ told. HasHeard told now.teller) (sym told) (hears (rows all past) has.heard);
      kept = subst (λ told. HasKept told now.recent) (sym told) (keeps (rows all past) has.kept);
      rows_are = same;
      unseen_are = none ∙ sym (ap length (before_hit (has_row all) step past hit));
    }

-- So it is of a step that shows nothing, where all have a row.
pub noted_bare : (all : Bool) (past : List Step) (step : Step) (was now : Telling) → HasTold all past was
    → has_row all step ≡ true → now.rows ≡ was.rows + 1 → now.unseen ≡ 0 → row_of now.rows step ≡ None
    → now.teller ≡ was.teller → now.recent ≡ was.recent → HasTold all (step ∷ past) now
noted_bare all past step was now has hit more none is same_teller same_recent =
    let counted : row_count all (step ∷ past) ≡ row_count all past + 1 = count_hit (has_row all) step past hit in
    let same : now.rows ≡ row_count all (step ∷ past) = more ∙ ap (λ n. n + 1) has.rows_are ∙ sym counted in
    let told : rows all (step ∷ past) ≡ rows all past =
    ap (λ n. row_list (row_of n step) ++ rows all past) (sym same) ∙ ap (λ r. row_list r ++ rows all past) is in
    record {
      heard = subst (λ told. HasHeard told now.teller) (sym told)
          (subst (HasHeard (rows all past)) (sym same_teller) has.heard);
      kept = subst (λ told. HasKept told now.recent) (sym told)
          (subst (HasKept (rows all past)) (sym same_recent) has.kept);
      rows_are = same;
      unseen_are = none ∙ sym (ap length (before_hit (has_row all) step past hit));
    }

-- What a step with a row adds.
pub piece_is : (plan : Plan) (past : List Step) (step : Step) (unseen_now number : ℕ) (note : Option Note)
    → has_row plan.all step ≡ true → unseen_now ≡ unseen plan.all past → number ≡ row_count plan.all past + 1
    → note ≡ note_for plan.all past step.hart step.deed
    → unseen_text unseen_now ++ numbered_line plan number note step ≡ piece plan past step
piece_is plan past step unseen_now number note hit none more is =
    rw hit (ap (λ n. unseen_text n ++ numbered_line plan number note step) none
    ∙ ap (λ n. unseen_text (unseen plan.all past) ++ numbered_line plan n note step) more
    ∙ ap (λ taken. unseen_text (unseen plan.all past) ++ numbered_line plan (row_count plan.all past + 1) taken step)
    is)
