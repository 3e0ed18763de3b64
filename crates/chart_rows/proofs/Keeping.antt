-- An event of another instruction leaves what a row says, but for a squash; and what each event says of its own.
use Rattle.std.specs.Prelude.{◌≡◌, ℕ, Bool, true, false, not, ◌==◌, ◌&&◌, nat_lt, nat_le, List, [], ◌∷◌, Option}
use Rattle.std.specs.Prelude.{Some, None, is_some}
use Rattle.std.proofs.Common.{refl, sym, ap, ◌∙◌, arith, inl, inr}
use Rattle.std.proofs.{Math.Bool.and-false, lemmas.Bool.cases_Bool, lemmas.Bool.Decides.nat_tests}
use Rattle.events.specs.{Event.seq_of, Kind.event_kind, Kind.letter_of}
use Rattle.events.specs.{declared.effect.Outcome.Outcome, declared.effect.Effect.Effect, declared.effect.Next.Next}
use Rattle.events.specs.{declared.event.Event.Event, declared.kind.EventKind.EventKind}
use Rattle.events.specs.declared.event.Event.TheVariants.{Fetch, Decode, Rename, Issue, Complete}
use Rattle.events.specs.declared.event.Event.TheVariants.{Drop, Retire, Refetch}
use Rattle.events.specs.declared.kind.EventKind.TheVariants as kinds
use Rattle.smt_model.specs.{Basics.or_else, Basics.holds_of, Basics.same_number, Nexts.redirect_pc}
use Rattle.smt_model.specs.Fates.{fetching, completion, squashes, is_replayed, mispredicts, same_hart}
use Rattle.smt_model.specs.Fates.{squashes_at_retirement, op_of_fetched}
use Rattle.chart_rows.specs.{declared.row.Row.Row, declared.row.Squash.Squash}
use Rattle.chart_rows.specs.Rows.{IsRow, is_event, place, squash_of, looked_twice, value_of}
use Rattle.chart_rows.specs.Moves.{is_replay, cuts}

-- ---- Another instruction's event

pub or_none : (o : Option Squash) → or_else o None ≡ o
or_none None = refl
or_none (Some x) = refl

pub record IsKept (e : Event) (past : List Event) (s : ℕ) : Type 0 where
  pub instruction : fetching (e ∷ past) s ≡ fetching past s
  pub completion : completion (e ∷ past) s ≡ completion past s
  pub places : (kind : EventKind) → place kind (e ∷ past) s ≡ place kind past s
  pub replayed : looked_twice (e ∷ past) s ≡ looked_twice past s

place_kept : (e : Event) (past : List Event) (s : ℕ) → (seq_of e == s) ≡ false → (kind : EventKind)
    → place kind (e ∷ past) s ≡ place kind past s
place_kept e past s other kind =
    let no : is_event kind e s ≡ false = rw other (and-false (letter_of (event_kind e) == letter_of kind)) in rw no refl

pub kept : (e : Event) (past : List Event) (s : ℕ) → (seq_of e == s) ≡ false → IsKept e past s
kept (Fetch actor hart seq pc word predicted) past s other = record {
  instruction = rw other refl;
  completion = refl;
  places = place_kept (Fetch actor hart seq pc word predicted) past s other;
  replayed = refl;
}
kept (Decode actor seq) past s other =
    record { instruction = refl; completion = refl; places = place_kept (Decode actor seq) past s other; replayed = refl }
kept (Rename actor seq phys) past s other = record {
  instruction = refl;
  completion = refl;
  places = place_kept (Rename actor seq phys) past s other;
  replayed = refl;
}
kept (Issue actor seq) past s other =
    record { instruction = refl; completion = refl; places = place_kept (Issue actor seq) past s other; replayed = refl }
kept (Complete actor seq outcome) past s other = record {
  instruction = refl;
  completion = rw other refl;
  places = place_kept (Complete actor seq outcome) past s other;
  replayed = refl;
}
kept (Drop actor seq) past s other =
    record { instruction = refl; completion = refl; places = place_kept (Drop actor seq) past s other; replayed = refl }
kept (Retire actor seq effect) past s other = record {
  instruction = refl;
  completion = refl;
  places = place_kept (Retire actor seq effect) past s other;
  replayed = rw other refl;
}
kept (Refetch actor seq) past s other =
    record { instruction = refl; completion = refl; places = place_kept (Refetch actor seq) past s other; replayed = refl }

-- The row of another instruction, which the event may squash.
pub other_row : (e : Event) (past : List Event) (s : ℕ) (row : Row) → (seq_of e == s) ≡ false → IsRow past s row
    → IsRow (e ∷ past) s (record row { squashed = or_else row.squashed (squash_of e past s) })
other_row e past s row other was =
    let same = kept e past s other in
    record {
      instruction = same.instruction ∙ was.instruction;
      fetched = same.places kinds.Fetch ∙ was.fetched;
      decoded = same.places kinds.Decode ∙ was.decoded;
      renamed = same.places kinds.Rename ∙ was.renamed;
      issued = same.places kinds.Issue ∙ was.issued;
      completed = same.places kinds.Complete ∙ was.completed;
      dropped = same.places kinds.Drop ∙ was.dropped;
      retired = same.places kinds.Retire ∙ was.retired;
      refetched = same.places kinds.Refetch ∙ was.refetched;
      squashed = ap (λ o. or_else o (squash_of e past s)) was.squashed;
      value = ap value_of same.completion ∙ was.value;
      replayed = same.replayed ∙ was.replayed;
    }

-- ---- What the code tests of a row

completed_is : (past : List Event) (s : ℕ) → is_some (place kinds.Complete past s) ≡ is_some (completion past s)
completed_is [] s = refl
completed_is (Fetch actor hart seq pc word predicted ∷ past) s = completed_is past s
completed_is (Decode actor seq ∷ past) s = completed_is past s
completed_is (Rename actor seq phys ∷ past) s = completed_is past s
completed_is (Issue actor seq ∷ past) s = completed_is past s
completed_is (Complete actor seq outcome ∷ past) s = grind (arith, completed_is past s)
completed_is (Drop actor seq ∷ past) s = completed_is past s
completed_is (Retire actor seq effect ∷ past) s = completed_is past s
completed_is (Refetch actor seq ∷ past) s = completed_is past s

differs : (o : Option Outcome) (value : Option ℕ)
    → holds_of (λ (x : Outcome). not (same_number x.value value)) o
    ≡ (is_some o && not (same_number (value_of o) value))
differs None value = refl
differs (Some outcome) value = refl

pub replay_is : (past : List Event) (s : ℕ) (row : Row) (effect : Effect) → IsRow past s row
    → is_replayed past s effect ≡ is_replay row effect
replay_is past s row effect was =
    let op = ap op_of_fetched was.instruction in
    let some = sym (completed_is past s) ∙ ap is_some was.completed in
    rw (op, differs (completion past s) effect.value, some, was.value) refl

pub mispredicts_is : (past : List Event) (s : ℕ) (row : Row) (next : Next) → IsRow past s row
    → mispredicts past s next ≡ is_some (redirect_pc next row.predicted)
unfolding mispredicts
mispredicts_is past s row next was = rw was.instruction refl

pub retires_is : (past : List Event) (s : ℕ) (row : Row) (effect : Effect) → IsRow past s row
    → squashes_at_retirement past s effect ≡ cuts (Retire 0 s effect) row
unfolding squashes_at_retirement
retires_is past s row effect was = rw (replay_is past s row effect was) refl

pub same_hart_is : (past : List Event) (s t : ℕ) (own row : Row) → IsRow past s own → IsRow past t row
    → same_hart past s t ≡ (row.hart == own.hart)
unfolding same_hart
same_hart_is past s t own row was is = rw (was.instruction, is.instruction) refl

and_assoc : (a b c : Bool) → (a && (b && c)) ≡ ((a && b) && c)
and_assoc true b c = refl
and_assoc false b c = refl

-- Of another instruction, not older is younger.
younger_is : (n t : ℕ) → (n == t) ≡ false → nat_le n t ≡ nat_lt n t
younger_is n t other =
    elim (cases_Bool (nat_lt n t)) [
      | inl less ↦ let no_less : nat_le n t ≡ true = grind (arith, nat_tests) in no_less ∙ sym less
      | inr above ↦ let no : nat_le n t ≡ false = grind (arith, nat_tests) in no ∙ sym above
    ]

-- An event squashes another instruction than its own as the code tests it.
pub squashes_is : (e : Event) (past : List Event) (t : ℕ) (own row : Row) → (seq_of e == t) ≡ false
    → IsRow past (seq_of e) own → IsRow past t row
    → squashes e past t ≡ ((cuts e own && nat_lt (seq_of e) t) && (row.hart == own.hart))
squashes_is (Fetch actor hart seq pc word predicted) past t own row other was is = refl
squashes_is (Decode actor seq) past t own row other was is = refl
squashes_is (Rename actor seq phys) past t own row other was is = refl
squashes_is (Issue actor seq) past t own row other was is = refl
squashes_is (Complete actor seq outcome) past t own row other was is =
    rw (mispredicts_is past seq own outcome.next was, same_hart_is past seq t own row was is)
    (and_assoc (is_some (redirect_pc outcome.next own.predicted)) (nat_lt seq t) (row.hart == own.hart))
squashes_is (Drop actor seq) past t own row other was is = refl
squashes_is (Retire actor seq effect) past t own row other was is =
    rw (retires_is past seq own effect was, same_hart_is past seq t own row was is)
    (and_assoc (cuts (Retire 0 seq effect) own) (nat_lt seq t) (row.hart == own.hart))
squashes_is (Refetch actor seq) past t own row other was is =
    rw (younger_is seq t other, same_hart_is past seq t own row was is) refl
