-- What earlier rows make of a row, a row after another.
use Rattle.std.proofs.Common.{◌≡◌, ◌∙◌, ℕ, ◌+◌, ◌<◌, List, [], ◌∷◌, ◌++◌, Bool, true, false, Option, Some, None}
use Rattle.std.proofs.Common.{get_or, refl, sym, ap, subst, arith, length, nat_lt, take, reverse, if◌then◌else◌}
use Rattle.std.proofs.lemmas.Bool.Decides.{nat_tests}
use Rattle.std.proofs.lemmas.List.{length-reverse, length-take-le, reverse-append, take_more}
use Rattle.numbers.specs.Sizes.{most_harts}
use Rattle.stories.specs.{Notes.note_of, Story.rows as rows_of_steps}
use Rattle.stories.specs.declared.{deed.Deed.Deed, row.Row.Row, step.Step.Step, recent.Note.Note}
use Rattle.stories.specs.declared.deed.Deed.TheVariants as deed
use Rattle.story_text.specs.Text.{taken_or, taker_for}
use Rattle.story_pictures.specs.Notes.{NotesAreTold, is_fault, last_fault, note_in, taker_in}

-- The rows before the next one, the newest first.
pub past_more : (rows : List Row) (i : ℕ) (d : Row) → i < length rows
    → reverse (take (i + 1) rows) ≡ get_or rows i d ∷ reverse (take i rows)
past_more rows i d inside =
    ap reverse (take_more rows i d inside) ∙ reverse-append (take i rows) (get_or rows i d ∷ [])

length_past : (rows : List Row) (i : ℕ) → i < length rows → length (reverse (take i rows)) ≡ i
length_past rows i inside = length-reverse (take i rows) ∙ length-take-le i rows (omega (arith, inside))

-- The last row that strikes the eye, where it is known of the rows before.
pub fault_more : (rows : List Row) (i : ℕ) (d : Row) (noted : Option Note) (last next : Option ℕ) → i < length rows
    → last ≡ last_fault (reverse (take i rows)) → noted ≡ note_in (reverse (take i rows)) (get_or rows i d)
    → next ≡ (if is_fault noted then Some i else last) → next ≡ last_fault (reverse (take (i + 1) rows))
fault_more rows i d noted last next inside so_far is more =
    let past = reverse (take i rows) in
    more ∙ ap (λ n. if is_fault n then Some i else last) is
    ∙ ap (λ l. if is_fault (note_in past (get_or rows i d)) then Some i else l) so_far
    ∙ ap (λ k. if is_fault (note_in past (get_or rows i d)) then Some k else last_fault past)
    (sym (length_past rows i inside))
    ∙ sym (ap last_fault (past_more rows i d inside))

-- ---- What the story's text says

taker_told : (past : List Step) (h : ℕ) (d : Deed) → h < most_harts
    → taker_in (rows_of_steps false past) h d ≡ taker_for false past h (Some d)
taker_told past h (deed.Loaded op addr number) few = refl
taker_told past h (deed.Reserved addr number) few = refl
taker_told past h (deed.Stored op addr number) few = refl
taker_told past h (deed.Conditional addr number) few = refl
taker_told past h (deed.Failed addr) few = let there : nat_lt h most_harts ≡ true = grind (arith, nat_tests) in rw there refl
taker_told past h (deed.Atomic kind addr old new) few = refl
taker_told past h (deed.Out byte) few = refl
taker_told past h (deed.Ended number) few = refl
taker_told past h (deed.Stopped cause) few = refl

pub told : NotesAreTold
told past row few =
    ap (λ taken. taken_or taken (note_of row.hart row.deed (rows_of_steps false past)))
    (taker_told past row.hart row.deed few)
