-- A column, a cell more at each turn.
use Rattle.std.proofs.Common.{◌≡◌, ℕ, zero, suc, ◌+◌, ◌<◌, ◌≤◌, List, [], ◌∷◌, ◌++◌, length, take, get_or, refl, sym, ap, ◌∙◌, subst, arith}
use Rattle.std.proofs.Common.{Bool, true, false, if◌then◌else◌, Some, None, drop, append_assoc, append-nil, length-append, drop_of_length-le}
use Rattle.std.proofs.lemmas.List.{take_more, take_all}
use Rattle.std.proofs.lemmas.Option.{slice_get_within}
use Rattle.std.specs.Prelude.{slice_get}
use Rattle.litmus_tests.specs.declared.step.LitmusStep.{LitmusStep}
use Rattle.litmus_tests.specs.declared.step.LitmusStep.TheVariants as step_of
use Rattle.litmus_tests.specs.declared.fence.Fence.TheVariants.{TotalStoreOrder}
use Rattle.litmus_reading.specs.Instructions.{SpellsInstruction}
use Rattle.litmus_words.specs.declared.word.Word.{Word}
use Rattle.litmus_words.specs.Bytes.{same_bytes}
use Rattle.litmus_reading.specs.declared.instruction.Written.{Written}
use Rattle.litmus_reading.specs.declared.thread.Label.{Label}
use Rattle.litmus_reading.specs.Rows.{cell_at, column_of}
use Rattle.litmus_reading.specs.Threads.{instruction_of, instructions_of, if_some, label_at, labels_from}
use Rattle.litmus_reading.specs.Threads.{target_of, AreOnce, AreSpelled, SpellsThread, StepAdded, IsStepOf, AreStepsOf}
use Rattle.litmus_reading.proofs.Naming.{drop_here}

append_spelled : (text : List ℕ) (a b : List (List Word)) (x y : List Written) → AreSpelled text a x → AreSpelled text b y
    → AreSpelled text (a ++ b) (x ++ y)
append_spelled text [] b [] y h k = k
append_spelled text [] b (w ∷ x) y h k = absurd h
append_spelled text (i ∷ a) b [] y h k = absurd h
append_spelled text (i ∷ a) b (w ∷ x) y h k = (h.0, append_spelled text a b x y h.1 k)

as_many : (text : List ℕ) (a : List (List Word)) (x : List Written) → AreSpelled text a x → length x ≡ length a
as_many text [] [] h = refl
as_many text [] (w ∷ x) h = absurd h
as_many text (i ∷ a) [] h = absurd h
as_many text (i ∷ a) (w ∷ x) h = let rest = as_many text a x h.1 in omega (arith, rest)

pub steps_more : {text : List ℕ} (all : List (List Word)) (column cells : List (List Word)) (cell : List Word)
    (steps after : List Written) → column ≡ cell ∷ cells
    → ((more : List Written) → AreSpelled text (instructions_of column) more → AreSpelled text all (steps ++ more))
    → StepAdded text (instruction_of cell) steps after
    → (more : List Written) → AreSpelled text (instructions_of cells) more → AreSpelled text all (after ++ more)
steps_more {text} all column cells cell steps after next before added more spelled =
    subst (AreSpelled text all)
    (sym (append_assoc steps added.written more) ∙ ap (λ (t : List Written). t ++ more) (sym added.added))
    (before (added.written ++ more)
    (subst (λ (t : List (List Word)). AreSpelled text (instructions_of t) (added.written ++ more)) (sym next)
    (append_spelled text (if_some (instruction_of cell)) (instructions_of cells) added.written more added.spelled spelled)))

-- how many steps there are, with those of one cell more
counted : {text : List ℕ} (steps after : List Written) (cell : List Word) → StepAdded text (instruction_of cell) steps after
    → length after ≡ length steps + length (if_some (instruction_of cell))
counted {text} steps after cell added =
    ap length added.added ∙ length-append steps added.written
    ∙ ap (λ (n : ℕ). length steps + n) (as_many text (if_some (instruction_of cell)) added.written added.spelled)

append_once : (text : List ℕ) (before a b : List Label) → AreOnce text before a → AreOnce text (before ++ a) b
    → AreOnce text before (a ++ b)
append_once text before [] b h k = subst (λ (t : List Label). AreOnce text t b) (append-nil before) k
append_once text before (l ∷ a) b h k = (
  h.0,
  append_once text (before ++ l ∷ []) a b h.1
      (subst (λ (t : List Label). AreOnce text t b) (sym (append_assoc before (l ∷ []) a)) k),
)

pub once_more : (text : List ℕ) (all : List Label) (column cells : List (List Word)) (cell : List Word)
    (steps after : List Written) (labels later : List Label) → column ≡ cell ∷ cells
    → (AreOnce text labels (labels_from (length steps) column) → AreOnce text [] all)
    → StepAdded text (instruction_of cell) steps after → later ≡ labels ++ label_at (length steps) cell
    → AreOnce text labels (label_at (length steps) cell)
    → AreOnce text later (labels_from (length after) cells) → AreOnce text [] all
once_more text all column cells cell steps after labels later next before added is here rest =
    before (subst (λ (t : List (List Word)). AreOnce text labels (labels_from (length steps) t)) (sym next)
    (append_once text labels (label_at (length steps) cell)
    (labels_from (length steps + length (if_some (instruction_of cell))) cells) here
    (subst (λ (t : List Label). AreOnce text t
    (labels_from (length steps + length (if_some (instruction_of cell))) cells)) is
    (subst (λ (n : ℕ). AreOnce text later (labels_from n cells)) (counted steps after cell added) rest))))

pub once_end : (text : List ℕ) (all : List Label) (column : List (List Word)) (k : ℕ) (labels : List Label)
    → column ≡ [] → (AreOnce text labels (labels_from k column) → AreOnce text [] all) → AreOnce text [] all
once_end text all column k labels none before =
    before (subst (λ (t : List (List Word)). AreOnce text labels (labels_from k t)) (sym none) tt)

pub labels_more : {text : List ℕ} (all : List Label) (column cells : List (List Word)) (cell : List Word) (steps after : List Written)
    (labels later : List Label) → column ≡ cell ∷ cells → labels ++ labels_from (length steps) column ≡ all
    → StepAdded text (instruction_of cell) steps after → later ≡ labels ++ label_at (length steps) cell
    → later ++ labels_from (length after) cells ≡ all
labels_more {text} all column cells cell steps after labels later next before added is =
    let many : length after ≡ length steps + length (if_some (instruction_of cell)) = counted steps after cell added in
    ap (λ (t : List Label). t ++ labels_from (length after) cells) is
    ∙ append_assoc labels (label_at (length steps) cell) (labels_from (length after) cells)
    ∙ ap (λ (n : ℕ). labels ++ (label_at (length steps) cell ++ labels_from n cells)) many
    ∙ ap (λ (t : List (List Word)). labels ++ labels_from (length steps) t) (sym next)
    ∙ before

-- what a turn adds, of the cell as it is handed on
pub record Turn (text : List ℕ) (hart : ℕ) (rest behind cell : List Word) (steps after : List Written)
    (labels later : List Label) : Type 0 where
  pub next : column_of hart rest ≡ cell ∷ column_of hart behind
  pub added : StepAdded text (instruction_of cell) steps after
  pub more : later ≡ labels ++ label_at (length steps) cell
  pub once : AreOnce text labels (label_at (length steps) cell)

pub turn : (text : List ℕ) (hart : ℕ) (rest row behind cell instruction : List Word) (steps after : List Written)
    (labels later : List Label) (place : ℕ) → column_of hart rest ≡ cell_at hart row ∷ column_of hart behind
    → cell ≡ cell_at hart row → instruction ≡ instruction_of cell → StepAdded text instruction steps after
    → place ≡ length steps → later ≡ labels ++ label_at place cell → AreOnce text labels (label_at place cell)
    → Turn text hart rest behind cell steps after labels later
turn text hart rest row behind cell instruction steps after labels later place next cut of added many more once =
    record {
      next = next ∙ ap (λ (t : List Word). t ∷ column_of hart behind) (sym cut);
      added = subst (λ (t : List Word). StepAdded text t steps after) of added;
      more = more ∙ ap (λ (n : ℕ). labels ++ label_at n cell) many;
      once = subst (λ (n : ℕ). AreOnce text labels (label_at n cell)) many once;
    }

pub no_rows : (hart : ℕ) (rest : List Word) → length rest ≡ 0 → column_of hart rest ≡ []
no_rows hart [] none = refl
no_rows hart (word ∷ rest) none = absurd (omega (arith, none))

-- the column is over
pub steps_end : (text : List ℕ) (all : List (List Word)) (column : List (List Word)) (steps : List Written) → column ≡ []
    → ((more : List Written) → AreSpelled text (instructions_of column) more → AreSpelled text all (steps ++ more))
    → AreSpelled text all steps
steps_end text all column steps none before =
    subst (AreSpelled text all) (append-nil steps)
    (before [] (subst (λ (t : List (List Word)). AreSpelled text (instructions_of t) []) (sym none) tt))

pub labels_end : (all : List Label) (column : List (List Word)) (k : ℕ) (labels : List Label) → column ≡ []
    → labels ++ labels_from k column ≡ all → labels ≡ all
labels_end all column k labels none before =
    sym (append-nil labels) ∙ ap (λ (t : List (List Word)). labels ++ labels_from k t) (sym none) ∙ before

-- steps, one more at each turn
append_steps : (text : List ℕ) (labels : List Label) (x : List Written) (a : List LitmusStep) (written : Written)
    (step : LitmusStep) → AreStepsOf text labels x a → IsStepOf text labels written step
    → AreStepsOf text labels (x ++ written ∷ []) (a ++ step ∷ [])
append_steps text labels [] [] written step h k = (k, tt)
append_steps text labels [] (s ∷ a) written step h k = absurd h
append_steps text labels (w ∷ x) [] written step h k = absurd h
append_steps text labels (w ∷ x) (s ∷ a) written step h k = (h.0, append_steps text labels x a written step h.1 k)

pub one_step_more : (text : List ℕ) (labels : List Label) (x : List Written) (i : ℕ) (d : Written)
    (a after : List LitmusStep) (step : LitmusStep) → i < length x → AreStepsOf text labels (take i x) a
    → IsStepOf text labels (get_or x i d) step → after ≡ a ++ step ∷ []
    → AreStepsOf text labels (take (i + 1) x) after
one_step_more text labels x i d a after step inside h k is =
    subst (λ (t : List LitmusStep). AreStepsOf text labels (take (i + 1) x) t) (sym is)
    (subst (λ (t : List Written). AreStepsOf text labels t (a ++ step ∷ [])) (sym (take_more x i d inside))
    (append_steps text labels (take i x) a (get_or x i d) step h k))

pub all_steps : (text : List ℕ) (labels : List Label) (x : List Written) (i : ℕ) (a : List LitmusStep) → length x ≤ i
    → AreStepsOf text labels (take i x) a → AreStepsOf text labels x a
all_steps text labels x i a past h = subst (λ (t : List Written). AreStepsOf text labels t a) (take_all i x past) h

-- the labels, one more at each turn
pub target_later : (text : List ℕ) (labels : List Label) (word : Word) (i : ℕ) (d : Label) → i < length labels
    → same_bytes text (get_or labels i d).word word ≡ false
    → target_of text (drop i labels) word ≡ target_of text (drop (i + 1) labels) word
target_later text labels word i d inside other =
    ap (λ (t : List Label). target_of text t word) (drop_here labels i d inside)
    ∙ ap (λ (b : Bool). if b then Some (get_or labels i d).place else target_of text (drop (i + 1) labels) word) other

pub target_here : (text : List ℕ) (labels : List Label) (word : Word) (i : ℕ) (d : Label) → i < length labels
    → same_bytes text (get_or labels i d).word word ≡ true
    → target_of text (drop i labels) word ≡ Some (get_or labels i d).place
target_here text labels word i d inside same =
    ap (λ (t : List Label). target_of text t word) (drop_here labels i d inside)
    ∙ ap (λ (b : Bool). if b then Some (get_or labels i d).place else target_of text (drop (i + 1) labels) word) same

pub no_target : (text : List ℕ) (labels : List Label) (word : Word) (i : ℕ) → length labels ≤ i
    → target_of text (drop i labels) word ≡ None
no_target text labels word i past =
    ap (λ (t : List Label). target_of text t word) (drop_of_length-le labels past)

-- a hart, by its column
pub spelled_thread : (text : List ℕ) (rows : List Word) (hart : ℕ) (written all : List Written)
    (labels held : List Label) (steps : List LitmusStep) → AreSpelled text (instructions_of (column_of hart rows)) written
    → labels ≡ labels_from 0 (column_of hart rows) → AreOnce text [] (labels_from 0 (column_of hart rows))
    → held ≡ labels → all ≡ written → AreStepsOf text held all steps → SpellsThread text rows hart steps
spelled_thread text rows hart written all labels held steps spelled are once same as_written so = record {
  written = written;
  spelled = spelled;
  once = once;
  steps_are = subst (λ (t : List Written).
      AreStepsOf text (labels_from 0 (column_of hart rows)) t steps) as_written
      (subst (λ (t : List Label). AreStepsOf text t all steps) (same ∙ are) so);
}

-- one step for each instruction
pub as_many_steps : (text : List ℕ) (labels : List Label) (x : List Written) (a : List LitmusStep)
    → AreStepsOf text labels x a → length x ≡ length a
as_many_steps text labels [] [] h = refl
as_many_steps text labels [] (s ∷ a) h = absurd h
as_many_steps text labels (w ∷ x) [] h = absurd h
as_many_steps text labels (w ∷ x) (s ∷ a) h = let rest = as_many_steps text labels x a h.1 in omega (arith, rest)

pub step_at : (text : List ℕ) (labels : List Label) (x : List Written) (a : List LitmusStep) (i : ℕ) (d : Written)
    (e : LitmusStep) → i < length x → AreStepsOf text labels x a
    → IsStepOf text labels (get_or x i d) (get_or a i e)
step_at text labels [] a i d e inside h = absurd (omega (arith, inside))
step_at text labels (w ∷ x) [] i d e inside h = absurd h
step_at text labels (w ∷ x) (s ∷ a) zero d e inside h = h.0
step_at text labels (w ∷ x) (s ∷ a) (suc i) d e inside h = step_at text labels x a i d e (omega (arith, inside)) h.1

pub some_step : LitmusStep
some_step = step_of.Fence TotalStoreOrder

pub so_far_more : (text : List ℕ) (labels : List Label) (x : List Written) (a found after : List LitmusStep)
    (i : ℕ) (step : LitmusStep) → i < length x → AreStepsOf text labels x a → found ≡ take i a
    → step ≡ get_or a i some_step → after ≡ found ++ step ∷ [] → after ≡ take (i + 1) a
so_far_more text labels x a found after i step inside h so_far is added =
    let many = as_many_steps text labels x a h in
    added ∙ (λ k. so_far k ++ is k ∷ []) ∙ sym (take_more a i some_step (omega (arith, many, inside)))

pub so_far_all : (text : List ℕ) (labels : List Label) (x : List Written) (a found : List LitmusStep) (i : ℕ)
    → length x ≤ i → AreStepsOf text labels x a → found ≡ take i a → found ≡ a
so_far_all text labels x a found i past h so_far =
    let many = as_many_steps text labels x a h in so_far ∙ take_all i a (omega (arith, many, past))

-- the one instruction of a cell that has one
pub one_spelled : (text : List ℕ) (instruction : List Word) (written : List Written)
    → 0 < length instruction → AreSpelled text (if_some instruction) written
    → (one : Written) × (written ≡ one ∷ []) × SpellsInstruction text instruction one
one_spelled text [] written some h = absurd (omega (arith, some))
one_spelled text (word ∷ words) [] some h = absurd h
one_spelled text (word ∷ words) (one ∷ []) some h = (one, refl, h.0)
one_spelled text (word ∷ words) (one ∷ other ∷ more) some h = absurd h.1

pub some_of : (words : List Word) (i : ℕ) (word : Word) → slice_get words i ≡ Some word → 0 < length words
some_of words i word there = let inside = slice_get_within words i word there in omega (arith, inside)

-- what all cells say, those that are left say behind what has been read
pub record SpelledInParts (text : List ℕ) (a b : List (List Word)) (x : List Written) : Type 0 where
  pub front : List Written
  pub back : List Written
  pub is : x ≡ front ++ back
  pub before : AreSpelled text a front
  pub behind : AreSpelled text b back

pub split_spelled : (text : List ℕ) (a b : List (List Word)) (x : List Written) → AreSpelled text (a ++ b) x
    → SpelledInParts text a b x
split_spelled text [] b x h = record { front = []; back = x; is = refl; before = tt; behind = h }
split_spelled text (i ∷ a) b [] h = absurd h
split_spelled text (i ∷ a) b (w ∷ x) h =
    let rest = split_spelled text a b x h.1 in
    record {
      front = w ∷ rest.front;
      back = rest.back;
      is = ap (λ (t : List Written). w ∷ t) rest.is;
      before = (h.0, rest.before);
      behind = rest.behind;
    }

pub record Left (text : List ℕ) (column : List (List Word)) (steps all : List Written) : Type 0 where
  pub more : List Written
  pub is : all ≡ steps ++ more
  pub spelled : AreSpelled text (instructions_of column) more

pub first_left : (text : List ℕ) (column cells : List (List Word)) (cell : List Word) (steps all : List Written)
    → column ≡ cell ∷ cells → (it : Left text column steps all)
    → SpelledInParts text (if_some (instruction_of cell)) (instructions_of cells) it.more
first_left text column cells cell steps all next it =
    split_spelled text (if_some (instruction_of cell)) (instructions_of cells) it.more
    (subst (λ (t : List (List Word)). AreSpelled text (instructions_of t) it.more) next it.spelled)

pub left_more : (text : List ℕ) (column cells : List (List Word)) (cell : List Word) (steps after all : List Written)
    (it : Left text column steps all)
    (parts : SpelledInParts text (if_some (instruction_of cell)) (instructions_of cells) it.more)
    → after ≡ steps ++ parts.front → Left text cells after all
left_more text column cells cell steps after all it parts added = record {
  more = parts.back;
  is = it.is ∙ ap (λ (t : List Written). steps ++ t) parts.is ∙ sym (append_assoc steps parts.front parts.back)
      ∙ ap (λ (t : List Written). t ++ parts.back) (sym added);
  spelled = parts.behind;
}

pub left_few : (text : List ℕ) (column cells : List (List Word)) (cell : List Word) (steps all : List Written)
    (most : ℕ) (it : Left text column steps all)
    (parts : SpelledInParts text (if_some (instruction_of cell)) (instructions_of cells) it.more)
    → length all ≤ most → length steps + length parts.front ≤ most
left_few text column cells cell steps all most it parts few =
    let whole = ap length it.is ∙ length-append steps it.more in
    let front = ap length parts.is ∙ length-append parts.front parts.back in
    omega (arith, whole, front, few)

no_spelled : (text : List ℕ) (more : List Written) → AreSpelled text [] more → more ≡ []
no_spelled text [] h = refl
no_spelled text (w ∷ more) h = absurd h

pub none_left : (text : List ℕ) (column : List (List Word)) (steps all : List Written) → column ≡ []
    → Left text column steps all → steps ≡ all
none_left text column steps all none it =
    let no_more = no_spelled text it.more
    (subst (λ (t : List (List Word)). AreSpelled text (instructions_of t) it.more) none it.spelled) in
    sym (append-nil steps) ∙ ap (λ (t : List Written). steps ++ t) (sym no_more) ∙ sym it.is

pub split_once : (text : List ℕ) (before a b : List Label) → AreOnce text before (a ++ b)
    → AreOnce text before a × AreOnce text (before ++ a) b
split_once text before [] b h = (tt, subst (λ (t : List Label). AreOnce text t b) (sym (append-nil before)) h)
split_once text before (l ∷ a) b h =
    let rest = split_once text (before ++ l ∷ []) a b h.1 in (
      (h.0, rest.0),
      subst (λ (t : List Label). AreOnce text t b) (append_assoc before (l ∷ []) a) rest.1,
    )

pub first_once : (text : List ℕ) (column cells : List (List Word)) (cell : List Word) (place : ℕ)
    (labels : List Label) → column ≡ cell ∷ cells → AreOnce text labels (labels_from place column)
    → AreOnce text labels (label_at place cell)
    × AreOnce text (labels ++ label_at place cell) (labels_from (place + length (if_some (instruction_of cell))) cells)
first_once text column cells cell place labels next once =
    split_once text labels (label_at place cell) (labels_from (place + length (if_some (instruction_of cell))) cells)
    (subst (λ (t : List (List Word)). AreOnce text labels (labels_from place t)) next once)

pub once_left : (text : List ℕ) (column cells : List (List Word)) (cell : List Word) (steps after : List Written)
    (labels later : List Label) → column ≡ cell ∷ cells → AreOnce text labels (labels_from (length steps) column)
    → StepAdded text (instruction_of cell) steps after → later ≡ labels ++ label_at (length steps) cell
    → AreOnce text later (labels_from (length after) cells)
once_left text column cells cell steps after labels later next once added is =
    subst (λ (n : ℕ). AreOnce text later (labels_from n cells)) (sym (counted steps after cell added))
    (subst (λ (t : List Label). AreOnce text t
    (labels_from (length steps + length (if_some (instruction_of cell))) cells)) (sym is)
    (first_once text column cells cell (length steps) labels next once).1)

pub cut_cell : (hart : ℕ) (rest row behind cell : List Word)
    → column_of hart rest ≡ cell_at hart row ∷ column_of hart behind → cell ≡ cell_at hart row
    → column_of hart rest ≡ cell ∷ column_of hart behind
cut_cell hart rest row behind cell next cut = next ∙ ap (λ (t : List Word). t ∷ column_of hart behind) (sym cut)

pub once_at : (text : List ℕ) (column cells : List (List Word)) (cell : List Word) (steps : List Written) (place : ℕ)
    (labels : List Label) → column ≡ cell ∷ cells → place ≡ length steps
    → AreOnce text labels (labels_from (length steps) column) → AreOnce text labels (label_at place cell)
once_at text column cells cell steps place labels next many once =
    subst (λ (n : ℕ). AreOnce text labels (label_at n cell)) (sym many)
    (first_once text column cells cell (length steps) labels next once).0

pub as_few_written : (text : List ℕ) (labels : List Label) (x : List Written) (a : List LitmusStep) (most : ℕ)
    → AreStepsOf text labels x a → length a ≤ most → length x ≤ most
as_few_written text labels x a most are few = let many = as_many_steps text labels x a are in omega (arith, many, few)

-- steps of what is lent
pub lent_steps : (text : List ℕ) (labels lent found : List Label) (all written : List Written)
    (steps : List LitmusStep) → found ≡ labels → lent ≡ found → all ≡ written → AreStepsOf text labels written steps
    → AreStepsOf text lent all steps
lent_steps text labels lent found all written steps are same same_all so =
    subst (λ (t : List Label). AreStepsOf text t all steps) (sym (same ∙ are))
    (subst (λ (t : List Written). AreStepsOf text labels t steps) (sym same_all) so)
