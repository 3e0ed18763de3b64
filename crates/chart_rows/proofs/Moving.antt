-- The row of each instruction behind an event, from its row before.
use Rattle.std.specs.Prelude.{◌≡◌, ℕ, Bool, true, false, ◌==◌, ◌&&◌, nat_lt, nat_le}
use Rattle.std.specs.Prelude.{if◌then◌else◌, List, ◌∷◌, length, Option, Some, None}
use Rattle.std.proofs.Common.{refl, sym, ap, subst, ◌∙◌, arith, inl, inr}
use Rattle.std.proofs.{Math.Bool.and-false, lemmas.Bool.Decides.nat_tests, lemmas.Bool.cases_Bool}
use Rattle.events.specs.{Event.seq_of}
use Rattle.events.specs.{declared.effect.Outcome.Outcome, declared.effect.Effect.Effect}
use Rattle.events.specs.{declared.event.Event.Event}
use Rattle.events.specs.declared.event.Event.TheVariants.{Fetch, Decode, Rename, Issue, Complete}
use Rattle.events.specs.declared.event.Event.TheVariants.{Drop, Retire, Refetch}
use Rattle.smt_model.specs.{Basics.or_else, Fates.squashes, Fates.mispredicts, Fates.same_hart}
use Rattle.smt_model.specs.{Fates.squashes_at_retirement}
use Rattle.chart_rows.specs.{declared.row.Row.Row, declared.row.Squash.Squash}
use Rattle.chart_rows.specs.Causes.{cause, cause_as, predicted_of}
use Rattle.chart_rows.specs.Rows.{IsRow, squash, squash_of}
use Rattle.chart_rows.specs.Moves.{cuts, cut, moved, row_after}
use Rattle.chart_rows.proofs.Keeping.{or_none, other_row, replay_is, same_hart_is, squashes_is}

itself : (n : ℕ) → (n == n) ≡ true
itself n = grind (arith, nat_tests)

not_below : (n : ℕ) → nat_lt n n ≡ false
not_below n = grind (arith, nat_tests)

spared : (m s : Bool) (n : ℕ) → (m && (nat_lt n n && s)) ≡ false
spared m s n = rw (not_below n) (and-false m)

-- But for a refetch, an event doesn't squash its own instruction.
abbrev SparesItself : Event → Type 0
SparesItself (Refetch actor seq) = ⊥
SparesItself _ = Unit {0}

unsquashed : (e : Event) (past : List Event) → SparesItself e → squash_of e past (seq_of e) ≡ None
unsquashed (Fetch actor hart seq pc word predicted) past spares = refl
unsquashed (Decode actor seq) past spares = refl
unsquashed (Rename actor seq phys) past spares = refl
unsquashed (Issue actor seq) past spares = refl
unsquashed (Complete actor seq outcome) past spares =
    rw (spared (mispredicts past seq outcome.next) (same_hart past seq seq) seq) refl
unsquashed (Drop actor seq) past spares = refl
unsquashed (Retire actor seq effect) past spares =
    rw (spared (squashes_at_retirement past seq effect) (same_hart past seq seq) seq) refl
unsquashed (Refetch actor seq) past spares = absurd spares

squash_kept : (e : Event) (past : List Event) (row : Row) → SparesItself e → IsRow past (seq_of e) row
    → squash (e ∷ past) (seq_of e) ≡ row.squashed
squash_kept e past row spares was =
    ap (λ o. or_else (squash past (seq_of e)) o) (unsquashed e past spares) ∙ (or_none (squash past (seq_of e)) ∙ was.squashed)

-- ---- The event's own instruction

own-Decode : (past : List Event) (actor seq : ℕ) (row : Row) → IsRow past seq row
    → IsRow (Decode actor seq ∷ past) seq (moved (Decode actor seq) (length past) row)
own-Decode past actor seq row was = record {
  instruction = was.instruction;
  fetched = was.fetched;
  decoded = rw (itself seq) refl;
  renamed = was.renamed;
  issued = was.issued;
  completed = was.completed;
  dropped = was.dropped;
  retired = was.retired;
  refetched = was.refetched;
  squashed = squash_kept (Decode actor seq) past row tt was;
  value = was.value;
  replayed = was.replayed;
}

own-Rename : (past : List Event) (actor seq : ℕ) (phys : Option ℕ) (row : Row) → IsRow past seq row
    → IsRow (Rename actor seq phys ∷ past) seq (moved (Rename actor seq phys) (length past) row)
own-Rename past actor seq phys row was = record {
  instruction = was.instruction;
  fetched = was.fetched;
  decoded = was.decoded;
  renamed = rw (itself seq) refl;
  issued = was.issued;
  completed = was.completed;
  dropped = was.dropped;
  retired = was.retired;
  refetched = was.refetched;
  squashed = squash_kept (Rename actor seq phys) past row tt was;
  value = was.value;
  replayed = was.replayed;
}

own-Issue : (past : List Event) (actor seq : ℕ) (row : Row) → IsRow past seq row
    → IsRow (Issue actor seq ∷ past) seq (moved (Issue actor seq) (length past) row)
own-Issue past actor seq row was = record {
  instruction = was.instruction;
  fetched = was.fetched;
  decoded = was.decoded;
  renamed = was.renamed;
  issued = rw (itself seq) refl;
  completed = was.completed;
  dropped = was.dropped;
  retired = was.retired;
  refetched = was.refetched;
  squashed = squash_kept (Issue actor seq) past row tt was;
  value = was.value;
  replayed = was.replayed;
}

own-Complete : (past : List Event) (actor seq : ℕ) (outcome : Outcome) (row : Row) → IsRow past seq row
    → IsRow (Complete actor seq outcome ∷ past) seq (moved (Complete actor seq outcome) (length past) row)
own-Complete past actor seq outcome row was = record {
  instruction = was.instruction;
  fetched = was.fetched;
  decoded = was.decoded;
  renamed = was.renamed;
  issued = was.issued;
  completed = rw (itself seq) refl;
  dropped = was.dropped;
  retired = was.retired;
  refetched = was.refetched;
  squashed = squash_kept (Complete actor seq outcome) past row tt was;
  value = rw (itself seq) refl;
  replayed = was.replayed;
}

own-Drop : (past : List Event) (actor seq : ℕ) (row : Row) → IsRow past seq row
    → IsRow (Drop actor seq ∷ past) seq (moved (Drop actor seq) (length past) row)
own-Drop past actor seq row was = record {
  instruction = was.instruction;
  fetched = was.fetched;
  decoded = was.decoded;
  renamed = was.renamed;
  issued = was.issued;
  completed = was.completed;
  dropped = rw (itself seq) refl;
  retired = was.retired;
  refetched = was.refetched;
  squashed = squash_kept (Drop actor seq) past row tt was;
  value = was.value;
  replayed = was.replayed;
}

own-Retire : (past : List Event) (actor seq : ℕ) (effect : Effect) (row : Row) → IsRow past seq row
    → IsRow (Retire actor seq effect ∷ past) seq (moved (Retire actor seq effect) (length past) row)
own-Retire past actor seq effect row was = record {
  instruction = was.instruction;
  fetched = was.fetched;
  decoded = was.decoded;
  renamed = was.renamed;
  issued = was.issued;
  completed = was.completed;
  dropped = was.dropped;
  retired = rw (itself seq) refl;
  refetched = was.refetched;
  squashed = squash_kept (Retire actor seq effect) past row tt was;
  value = was.value;
  replayed = rw (itself seq) (replay_is past seq row effect was);
}

-- A refetch squashes its own instruction.
not_above : (n : ℕ) → nat_le n n ≡ true
not_above n = grind (arith, nat_tests)

own-Refetch : (past : List Event) (actor seq : ℕ) (row : Row) → IsRow past seq row
    → IsRow (Refetch actor seq ∷ past) seq (moved (Refetch actor seq) (length past) row)
own-Refetch past actor seq row was =
    let mine : same_hart past seq seq ≡ true =
    same_hart_is past seq seq row row was was ∙ itself row.hart in
    record {
      instruction = was.instruction;
      fetched = was.fetched;
      decoded = was.decoded;
      renamed = was.renamed;
      issued = was.issued;
      completed = was.completed;
      dropped = was.dropped;
      retired = was.retired;
      refetched = rw (itself seq) refl;
      squashed = rw (not_above seq, mine, was.squashed) refl;
      value = was.value;
      replayed = was.replayed;
    }

-- The event fetches no instruction.
abbrev pub FetchesNone : Event → Type 0
FetchesNone (Fetch actor hart seq pc word predicted) = ⊥
FetchesNone _ = Unit {0}

own_row : (e : Event) (past : List Event) (row : Row) → FetchesNone e → IsRow past (seq_of e) row
    → IsRow (e ∷ past) (seq_of e) (moved e (length past) row)
own_row (Fetch actor hart seq pc word predicted) past row none was = absurd none
own_row (Decode actor seq) past row none was = own-Decode past actor seq row was
own_row (Rename actor seq phys) past row none was = own-Rename past actor seq phys row was
own_row (Issue actor seq) past row none was = own-Issue past actor seq row was
own_row (Complete actor seq outcome) past row none was = own-Complete past actor seq outcome row was
own_row (Drop actor seq) past row none was = own-Drop past actor seq row was
own_row (Retire actor seq effect) past row none was = own-Retire past actor seq effect row was
own_row (Refetch actor seq) past row none was = own-Refetch past actor seq row was

-- ---- Any instruction

-- What the code makes of another instruction's row is what the squash says.
cut_as : (row : Row) (by : Squash) (own_hart : ℕ) (squashing here : Bool) → here ≡ (squashing && (row.hart == own_hart))
    → record row { squashed = or_else row.squashed (if here then Some by else None) }
    ≡ (if squashing then cut own_hart by row else row)
cut_as row by own_hart true here is =
    elim (cases_Bool (row.hart == own_hart)) [
      | inl mine ↦ let yes : here ≡ true = is ∙ mine in rw (yes, mine) refl
      | inr other ↦
          let no : here ≡ false = is ∙ other in
          rw (no, other) (ap (λ (o : Option Squash). record row { squashed = o }) (or_none row.squashed))
    ]
cut_as row by own_hart false here is =
    rw is (ap (λ (o : Option Squash). record row { squashed = o }) (or_none row.squashed))

-- Why it squashes them is what the row of its own instruction says.
cause_is : (e : Event) (past : List Event) (own : Row) → IsRow past (seq_of e) own
    → cause e past ≡ cause_as e own.predicted
cause_is e past own was = ap (λ o. cause_as e (predicted_of o)) was.instruction

any_other : (e : Event) (past : List Event) (k : ℕ) (own row : Row) → IsRow past (seq_of e) own → IsRow past k row
    → (seq_of e == k) ≡ false → IsRow (e ∷ past) k (row_after e (length past) own k row)
any_other e past k own row was is other =
    rw (other, sym (cause_is e past own was)) (subst (IsRow (e ∷ past) k)
    (cut_as row (record { place = length past; by = seq_of e; cause = cause e past }) own.hart (cuts e own && nat_lt (seq_of e) k)
    (squashes e past k) (squashes_is e past k own row other was is)) (other_row e past k row other is))

any_own : (e : Event) (past : List Event) (k : ℕ) (own row : Row) → FetchesNone e → seq_of e ≡ k → IsRow past k row
    → IsRow (e ∷ past) k (row_after e (length past) own k row)
any_own e past k own row none same is =
    let here : (seq_of e == k) ≡ true = rw same (itself k) in
    rw here (subst (λ n. IsRow (e ∷ past) n (moved e (length past) row)) same
    (own_row e past row none (subst (λ n. IsRow past n row) (sym same) is)))

pub any_row : (e : Event) (past : List Event) (k : ℕ) (own row : Row) → FetchesNone e → IsRow past (seq_of e) own
    → IsRow past k row → IsRow (e ∷ past) k (row_after e (length past) own k row)
any_row e past k own row none was is =
    elim (cases_Bool (seq_of e == k)) [
      | inl here ↦
          let same : seq_of e ≡ k = grind (arith, nat_tests) in any_own e past k own row none same is
      | inr other ↦ any_other e past k own row was is other
    ]
