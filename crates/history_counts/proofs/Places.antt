-- What stands at a place of a history: the event that completed an instruction, and the one that squashed it.
use Rattle.std.specs.Prelude.{◌≡◌, ℕ, ◌<◌, ◌≤◌, Bool, true, false, ◌==◌, if◌then◌else◌, List, [], ◌∷◌, ◌++◌, length}
use Rattle.std.specs.Prelude.{reverse, Option, Some, None, is_some, option_and_then, slice_get}
use Rattle.std.proofs.Common.{get_or, refl, sym, ap, ◌∙◌, arith, inl, inr, length-append}
use Rattle.std.proofs.lemmas.{Bool.cases_Bool, Option.slice_get-get_or, List.reverse-append, List.length-reverse}
use Rattle.std.proofs.lemmas.List.{get_or_append_left, get_or_push, length_push}
use Rattle.events.specs.{Event.seq_of, declared.event.Event.Event}
use Rattle.events.specs.declared.event.Event.TheVariants.{Fetch, Decode, Rename, Issue, Complete}
use Rattle.events.specs.declared.event.Event.TheVariants.{Drop, Retire, Refetch}
use Rattle.events.specs.declared.kind.EventKind.TheVariants as kinds
use Rattle.smt_model.specs.{Basics.holds_of, Basics.or_else, Nexts.redirect_pc, Fates.squashes, Fates.completion}
use Rattle.chart_rows.specs.Rows.{place, squash, squash_of}
use Rattle.chart_rows.specs.Causes.{cause}
use Rattle.chart_rows.specs.declared.cause.Cause.{Cause}
use Rattle.chart_rows.specs.declared.row.Squash.{Squash as AnySquash}
use Rattle.history_counts.specs.Numbers.{squasher}
use Rattle.history_counts.specs.OfRows.{goes_elsewhere}

-- ---- The events of a history with one more

older : (e : Event) (past : List Event) (p : ℕ) → p < length past
    → slice_get (reverse (e ∷ past)) p ≡ slice_get (reverse past) p
older e past p inside =
    let turned : reverse (e ∷ past) ≡ reverse past ++ e ∷ [] = reverse-append (e ∷ []) past in
    let many = length-reverse past in
    let more = length_push (reverse past) e in
    ap (λ xs. slice_get xs p) turned
    ∙ slice_get-get_or (reverse past ++ e ∷ []) p e (omega arith)
    ∙ ap Some (get_or_append_left (reverse past) (e ∷ []) e p (omega arith))
    ∙ sym (slice_get-get_or (reverse past) p e (omega arith))

newest : (e : Event) (past : List Event) → slice_get (reverse (e ∷ past)) (length past) ≡ Some e
newest e past =
    let turned : reverse (e ∷ past) ≡ reverse past ++ e ∷ [] = reverse-append (e ∷ []) past in
    let many = length-reverse past in
    let more = length_push (reverse past) e in
    ap (λ xs. slice_get xs (length past)) turned
    ∙ slice_get-get_or (reverse past ++ e ∷ []) (length past) e (omega arith)
    ∙ ap Some (get_or_push (reverse past) e e (length past) many)

-- ---- Places

abbrev at : List Event → Option ℕ → Option Event
at past place = option_and_then (slice_get (reverse past)) place

-- The place is one of the history's.
abbrev Inside : List Event → Option ℕ → Type 0
Inside past None = Unit {0}
Inside past (Some p) = p < length past

kept : (e : Event) (past : List Event) (o : Option ℕ) → Inside past o → at (e ∷ past) o ≡ at past o
kept e past None inside = refl
kept e past (Some p) inside = older e past p inside

wider : (e : Event) (past : List Event) (o : Option ℕ) → Inside past o → Inside (e ∷ past) o
wider e past None inside = tt
wider e past (Some p) inside = omega arith

-- ---- Completions

inside-place : (past : List Event) (s : ℕ) → Inside past (place kinds.Complete past s)
inside-place [] s = tt
inside-place (Fetch actor hart seq pc word predicted ∷ past) s = wider (Fetch actor hart seq pc word predicted) past _ (inside-place past s)
inside-place (Decode actor seq ∷ past) s = wider (Decode actor seq) past _ (inside-place past s)
inside-place (Rename actor seq phys ∷ past) s = wider (Rename actor seq phys) past _ (inside-place past s)
inside-place (Issue actor seq ∷ past) s = wider (Issue actor seq) past _ (inside-place past s)
inside-place (Complete actor seq outcome ∷ past) s =
    elim (cases_Bool (seq == s)) [
      | inl here ↦ rw here (omega arith)
      | inr other ↦ rw other (wider (Complete actor seq outcome) past _ (inside-place past s))
    ]
inside-place (Drop actor seq ∷ past) s = wider (Drop actor seq) past _ (inside-place past s)
inside-place (Retire actor seq effect ∷ past) s = wider (Retire actor seq effect) past _ (inside-place past s)
inside-place (Refetch actor seq ∷ past) s = wider (Refetch actor seq) past _ (inside-place past s)

-- Where an instruction's completion goes on.
pub completed_is : (predicted : ℕ) (past : List Event) (s : ℕ)
    → holds_of (goes_elsewhere predicted) (at past (place kinds.Complete past s))
    ≡ holds_of (λ o. is_some (redirect_pc o.next predicted)) (completion past s)
completed_is predicted [] s = refl
completed_is predicted (Fetch actor hart seq pc word other ∷ past) s =
    ap (holds_of (goes_elsewhere predicted)) (kept (Fetch actor hart seq pc word other) past _ (inside-place past s)) ∙ completed_is predicted past s
completed_is predicted (Decode actor seq ∷ past) s =
    ap (holds_of (goes_elsewhere predicted)) (kept (Decode actor seq) past _ (inside-place past s)) ∙ completed_is predicted past s
completed_is predicted (Rename actor seq phys ∷ past) s =
    ap (holds_of (goes_elsewhere predicted)) (kept (Rename actor seq phys) past _ (inside-place past s)) ∙ completed_is predicted past s
completed_is predicted (Issue actor seq ∷ past) s =
    ap (holds_of (goes_elsewhere predicted)) (kept (Issue actor seq) past _ (inside-place past s)) ∙ completed_is predicted past s
completed_is predicted (Complete actor seq outcome ∷ past) s =
    elim (cases_Bool (seq == s)) [
      | inl here ↦
          rw here (ap (holds_of (goes_elsewhere predicted)) (newest (Complete actor seq outcome) past))
      | inr other ↦
          rw other (ap (holds_of (goes_elsewhere predicted)) (kept (Complete actor seq outcome) past _ (inside-place past s))
          ∙ completed_is predicted past s)
    ]
completed_is predicted (Drop actor seq ∷ past) s =
    ap (holds_of (goes_elsewhere predicted)) (kept (Drop actor seq) past _ (inside-place past s)) ∙ completed_is predicted past s
completed_is predicted (Retire actor seq effect ∷ past) s =
    ap (holds_of (goes_elsewhere predicted)) (kept (Retire actor seq effect) past _ (inside-place past s)) ∙ completed_is predicted past s
completed_is predicted (Refetch actor seq ∷ past) s =
    ap (holds_of (goes_elsewhere predicted)) (kept (Refetch actor seq) past _ (inside-place past s)) ∙ completed_is predicted past s

-- ---- Squashes

abbrev pub at_squash : List Event → Option AnySquash → Option Event
at_squash events squashed = option_and_then (λ (q : AnySquash). slice_get events q.place) squashed

abbrev InsideSquash : List Event → Option AnySquash → Type 0
InsideSquash past None = Unit {0}
InsideSquash past (Some q) = q.place < length past

inside_more : (e : Event) (past : List Event) (by : ℕ) (why : Cause) (o : Option AnySquash) (b : Bool) → InsideSquash past o
    → InsideSquash (e ∷ past) (or_else o (if b then Some (record { place = length past; by = by; cause = why }) else None))
inside_more e past by why None true inside = omega arith
inside_more e past by why None false inside = tt
inside_more e past by why (Some q) b inside = omega arith

inside-squash : (past : List Event) (s : ℕ) → InsideSquash past (squash past s)
inside-squash [] s = tt
inside-squash (e ∷ past) s = inside_more e past (seq_of e) (cause e past) (squash past s) (squashes e past s) (inside-squash past s)

one_more : (e : Event) (past : List Event) (by : ℕ) (why : Cause) (o : Option AnySquash) (w : Option Event) (b : Bool)
    → InsideSquash past o → w ≡ at_squash (reverse past) o
    → or_else w (if b then Some e else None)
    ≡ at_squash (reverse (e ∷ past)) (or_else o (if b then Some (record { place = length past; by = by; cause = why }) else None))
one_more e past by why None w true inside is = rw is (sym (newest e past))
one_more e past by why None w false inside is = rw is refl
one_more e past by why (Some q) w b inside is =
    let many = length-reverse past in
    let there : w ≡ Some (get_or (reverse past) q.place e) =
    is ∙ slice_get-get_or (reverse past) q.place e (omega arith) in
    ap (λ (o : Option Event). or_else o (if b then Some e else None)) there
    ∙ sym there ∙ is ∙ sym (older e past q.place inside)

-- The event that squashed an instruction stands where its row says.
pub squasher_is : (past : List Event) (s : ℕ) → squasher past s ≡ at_squash (reverse past) (squash past s)
squasher_is [] s = refl
squasher_is (e ∷ past) s =
    one_more e past (seq_of e) (cause e past) (squash past s) (squasher past s) (squashes e past s) (inside-squash past s)
    (squasher_is past s)
