-- The rows of an order, a step after another.
use Rattle.std.proofs.Common.{◌≡◌, ◌∙◌, ℕ, ◌+◌, ◌<◌, ◌≤◌, List, [], ◌∷◌, ◌++◌, true, false, Option, Some, None}
use Rattle.std.proofs.Common.{get_or, refl, sym, ap, subst, arith, length, take, reverse}
use Rattle.std.specs.Prelude.{is_some}
use Rattle.std.proofs.lemmas.List.{length-reverse, reverse-append}
use Rattle.smt_model.specs.{Setup.Setup, Plain.Plain, Plain.Run, Plain.advance, Plain.run, Plain.start, Plain.step}
use Rattle.sc_machine.specs.{Machine.Machine, Machine.Agrees, Machine.InEachState, Refusals.refusal}
use Rattle.sc_machine.specs.{Steps.InEachRun}
use Rattle.stories.specs.{Story.has_row, Story.row_count, Story.row_list, Story.row_of, Story.rows, Story.story}
use Rattle.stories.specs.{Story.step_behind, Story.step_of, Story.steps}
use Rattle.stories.specs.{declared.deed.Deed.Deed, declared.row.Row.Row, declared.step.Step.Step}
use Rattle.story_text.specs.Order.{OfEachStart}
use Rattle.story_pictures.specs.{Form.most_rows, Order.HasDrawnStep, Order.IsUndrawn}
use Rattle.story_pictures.specs.{Order.IsUnmade, Order.IsUnpushed, Order.rows_told, Order.undrawn_at}
use Rattle.story_pictures.specs.declared.order.Unmade.{Unmade}
use Rattle.story_pictures.specs.declared.order.Unmade.TheVariants as unmade

-- These steps were made, the first word first, and these are their rows.
pub record IsDrawn (setup : Setup) (order : List ℕ) (rows : List Row) (m : Machine) : Type 0 where
  pub ran : Run
  pub runs : run setup (reverse order) ≡ Some ran
  pub agrees : Agrees setup ran.state m
  pub rows_are : rows ≡ rows_told setup (reverse order)

pub none_drawn : (setup : Setup) (m : Machine) → Agrees setup (start setup) m → IsDrawn setup [] [] m
none_drawn setup m agrees = record {
  ran = record { records = []; state = start setup };
  runs = refl;
  agrees = agrees;
  rows_are = refl;
}

-- ---- How many rows there are

count_hit : (past : List Step) (step : Step) → has_row false step ≡ true
    → row_count false (step ∷ past) ≡ row_count false past + 1
count_hit past step hit = rw hit (omega arith)

counted_step : (past : List Step) (step : Step) (shown : Option Deed) → step.deed ≡ shown
    → length (rows false past) ≡ row_count false past
    → length (rows false (step ∷ past)) ≡ row_count false (step ∷ past)
counted_step past step None is before = rw is before
counted_step past step (Some d) is before = rw is (omega (arith, before))

counted : (past : List Step) → length (rows false past) ≡ row_count false past
counted [] = refl
counted (step ∷ past) = counted_step past step step.deed refl (counted past)

-- The row of a step has the number behind those told so far.
numbered : (past : List Step) (step : Step) (shown : Option Deed) (n : ℕ) → step.deed ≡ shown
    → n ≡ row_count false past
    → row_list (row_of (row_count false (step ∷ past)) step) ≡ row_list (row_of (n + 1) step)
numbered past step None n is count = rw is refl
numbered past step (Some d) n is count =
    ap (λ k. row_list (row_of k step)) (count_hit past step (ap is_some is) ∙ ap (λ k. k + 1) (sym count))

alone : (row : Option Row) → reverse (row_list row) ≡ row_list row
alone None = refl
alone (Some row) = refl

-- ---- One step more

steps_more : (setup : Setup) (order : List ℕ) (h : ℕ) (ran : Run) → run setup (reverse order) ≡ Some ran
    → steps setup (reverse (order ++ h ∷ [])) ≡ step_of setup ran.state h ∷ steps setup (reverse order)
steps_more setup order h ran runs =
    ap (steps setup) (reverse-append order (h ∷ []))
    ∙ ap (λ o. step_behind setup o h ++ steps setup (reverse order)) runs

count_told : (setup : Setup) (order : List ℕ) (told : List Row) → told ≡ rows_told setup order
    → length told ≡ row_count false (steps setup order)
count_told setup order told is =
    ap length is ∙ (length-reverse (story setup order) ∙ counted (steps setup order))

rows_more : (setup : Setup) (order : List ℕ) (h : ℕ) (ran : Run) (old : List Row)
    → run setup (reverse order) ≡ Some ran → old ≡ rows_told setup (reverse order)
    → old ++ row_list (row_of (length old + 1) (step_of setup ran.state h))
    ≡ rows_told setup (reverse (order ++ h ∷ []))
rows_more setup order h ran old runs is =
    let past = steps setup (reverse order) in
    let this = step_of setup ran.state h in
    let row = row_list (row_of (row_count false (this ∷ past)) this) in
    let same : row ≡ row_list (row_of (length old + 1) this) =
    numbered past this this.deed (length old) refl (count_told setup (reverse order) old is) in
    let turned : reverse (rows false (this ∷ past)) ≡ reverse (rows false past) ++ row =
    reverse-append row (rows false past)
    ∙ ap (λ xs. reverse (rows false past) ++ xs) (alone (row_of (row_count false (this ∷ past)) this)) in
    ap (λ xs. xs ++ row_list (row_of (length old + 1) this)) is
    ∙ (ap (λ xs. reverse (rows false past) ++ xs) (sym same)
    ∙ (sym turned ∙ ap (λ xs. reverse (rows false xs)) (sym (steps_more setup order h ran runs))))

pub one_drawn : (setup : Setup) (order : List ℕ) (h : ℕ) (old new : List Row) (m after : Machine)
    → IsDrawn setup order old m → InEachRun m (λ setup before. HasDrawnStep setup before h old new after)
    → IsDrawn setup (order ++ h ∷ []) new after
one_drawn setup order h old new m after so each =
    let one = each setup so.ran so.agrees in
    record {
      ran = advance setup h so.ran;
      runs = ap (run setup) (reverse-append order (h ∷ [])) ∙ (ap (step setup h) so.runs ∙ one.made);
      agrees = one.agrees;
      rows_are = one.drawn ∙ rows_more setup order h so.ran old so.runs so.rows_are;
    }

-- ---- Where there are no rows

many_rows : (setup : Setup) (order : List ℕ) (h : ℕ) (ran : Run) (old : List Row)
    → run setup (reverse order) ≡ Some ran → old ≡ rows_told setup (reverse order) → most_rows ≤ length old
    → is_some (step_of setup ran.state h).deed ≡ true
    → most_rows < length (story setup (reverse (order ++ h ∷ [])))
many_rows setup order h ran old runs is few shows =
    let past = steps setup (reverse order) in
    let this = step_of setup ran.state h in
    let before = count_told setup (reverse order) old is in
    let more = count_hit past this shows in
    let now = counted (this ∷ past) in
    subst (λ steps. most_rows < length (rows false steps)) (sym (steps_more setup order h ran runs))
    (omega (arith, few, before, more, now))

pub undrawn : (order : List ℕ) (index : ℕ) (old : List Row) (first m : Machine) (why : Unmade)
    → index < length order → m.room ≡ first.room
    → take (index + 1) order ≡ take index order ++ get_or order index 0 ∷ []
    → OfEachStart first (λ setup. IsDrawn setup (take index order) old m)
    → InEachState m (λ setup s. IsUnmade setup m.room s old (get_or order index 0) why)
    → IsUndrawn order first (undrawn_at index why)
undrawn order index old first m (unmade.Step why) inside room next so refused = (
  inside,
  λ setup agrees.
      let one = so setup agrees in
      record {
        before = one.ran;
        runs = one.runs;
        refused = subst (λ room. refusal setup room one.ran.state (get_or order index 0) ≡ Some why) room
            (refused setup one.ran.state one.agrees);
      },
)
undrawn order index old first m unmade.Many inside room next so refused = λ setup agrees.
    let one = so setup agrees in
    let is = refused setup one.ran.state one.agrees in
    record {
      steps = index + 1;
      inside = omega (arith, inside);
      many = subst (λ xs. most_rows < length (story setup (reverse xs))) (sym next)
          (many_rows setup (take index order) (get_or order index 0) one.ran old one.runs one.rows_are is.0 is.1);
    }
undrawn order index old first m unmade.Memory inside room next so refused = tt

-- A row that can't be kept.
pub unpushed : (setup : Setup) (room : ℕ) (s : Plain) (old : List Row) (h : ℕ) (step : Step) (why : Unmade)
    → step ≡ step_of setup s h → IsUnpushed old step why → IsUnmade setup room s old h why
unpushed setup room s old h step (unmade.Step why) same is = absurd is
unpushed setup room s old h step unmade.Many same is =
    (is.0, subst (λ (it : Step). is_some it.deed ≡ true) same is.1)
unpushed setup room s old h step unmade.Memory same is = tt
