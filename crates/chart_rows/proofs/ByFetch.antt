-- No row was fetched before one with a lower number.
use Rattle.std.proofs.Common.{◌≡◌, ℕ, zero, suc, ◌+◌, ◌<◌, ◌≤◌, Bool, true, false, List, [], ◌∷◌, ◌++◌, length, get_or}
use Rattle.std.proofs.Common.{refl, sym, ap, subst, ◌∙◌, arith, inl, inr, length-append}
use Rattle.std.specs.Prelude.{if◌then◌else◌, ◌==◌, ◌&&◌, nat_lt}
use Rattle.std.proofs.lemmas.Bool.{cases_Bool, cases_lt}
use Rattle.std.proofs.lemmas.List.{get_or_default}
use Rattle.events.specs.{Event.seq_of, declared.event.Event.Event}
use Rattle.events.specs.declared.event.Event.TheVariants.{Fetch, Decode, Rename, Issue, Complete}
use Rattle.events.specs.declared.event.Event.TheVariants.{Drop, Retire, Refetch}
use Rattle.chart_rows.specs.{declared.row.Row.Row, declared.row.Squash.Squash}
use Rattle.chart_rows.specs.Causes.{cause_as}
use Rattle.chart_rows.specs.Moves.{HaveMoved, cut, cuts, moved, row_after}
use Rattle.chart_rows.specs.Order.{AreByFetch}

-- So it is, and each was fetched before an event.
pub record AreFetchedBefore (rows : List Row) (place : ℕ) : Type 0 where
  pub by : AreByFetch rows
  pub before : (k : ℕ) (d : Row) → k < length rows → (get_or rows k d).fetched < place

pub none_before : (place : ℕ) → AreFetchedBefore [] place
none_before place = record {
  by = λ i j d rises below. absurd (omega (arith, below));
  before = λ k d below. absurd (omega (arith, below));
}

-- ---- Whatever moves on or is squashed was fetched where it was

moved_keeps : (e : Event) (place : ℕ) (row : Row) → (moved e place row).fetched ≡ row.fetched
moved_keeps (Fetch actor hart seq pc word predicted) place row = refl
moved_keeps (Decode actor seq) place row = refl
moved_keeps (Rename actor seq phys) place row = refl
moved_keeps (Issue actor seq) place row = refl
moved_keeps (Complete actor seq outcome) place row = refl
moved_keeps (Drop actor seq) place row = refl
moved_keeps (Retire actor seq effect) place row = refl
moved_keeps (Refetch actor seq) place row = refl

cut_keeps : (hart : ℕ) (by : Squash) (row : Row) → (cut hart by row).fetched ≡ row.fetched
cut_keeps hart by row = elim (cases_Bool (row.hart == hart)) [
  | inl own ↦ rw own refl
  | inr other ↦ rw other refl
]

after_keeps : (e : Event) (place : ℕ) (own : Row) (k : ℕ) (row : Row)
    → (row_after e place own k row).fetched ≡ row.fetched
after_keeps e place own k row = elim (cases_Bool (seq_of e == k)) [
  | inl its ↦ rw its (moved_keeps e place row)
  | inr other ↦ elim (cases_Bool (cuts e own && nat_lt (seq_of e) k)) [
    | inl squashed ↦
        rw (other, squashed) (cut_keeps own.hart (record { place = place; by = seq_of e; cause = cause_as e own.predicted }) row)
    | inr left ↦ rw (other, left) refl
  ]
]

pub moved_by : (e : Event) (place : ℕ) (old new : List Row) → HaveMoved e place old new → AreFetchedBefore old place
    → AreFetchedBefore new (place + 1)
moved_by e place old new so were =
    let same : (k : ℕ) (d : Row) → k < length new → (get_or new k d).fetched ≡ (get_or old k d).fetched = λ k d below.
    ap (λ (row : Row). row.fetched) (so.each k d (omega (arith, so.count, below)))
    ∙ after_keeps e place (get_or old (seq_of e) d) k (get_or old k d) in
    record {
      by = λ i j d rises below. omega (
        arith,
        same i d (omega (arith, rises, below)),
        same j d below,
        were.by i j d rises (omega (arith, so.count, below)),
      );
      before = λ k d below. omega (arith, same k d below, were.before k d (omega (arith, so.count, below)));
    }

-- ---- One more is fetched

behind : (rows : List Row) (row d : Row) (k : ℕ) → k < length rows → get_or (rows ++ row ∷ []) k d ≡ get_or rows k d
behind [] row d k below = absurd (omega (arith, below))
behind (x ∷ xs) row d zero below = refl
behind (x ∷ xs) row d (suc k) below = behind xs row d k (omega (arith, below))

last_is : (rows : List Row) (row d : Row) → get_or (rows ++ row ∷ []) (length rows) d ≡ row
last_is [] row d = refl
last_is (x ∷ xs) row d = last_is xs row d

one_longer : (rows : List Row) (row : Row) → length (rows ++ row ∷ []) ≡ length rows + 1
one_longer [] row = refl
one_longer (x ∷ xs) row = let more = one_longer xs row in omega (arith, more)

pub fetched_by : (place : ℕ) (old new : List Row) (row : Row) → new ≡ old ++ row ∷ [] → row.fetched ≡ place
    → AreFetchedBefore old place → AreFetchedBefore new (place + 1)
fetched_by place old new row same at were = subst (λ (rows : List Row). AreFetchedBefore rows (place + 1)) (sym same)
    (record { by = by; before = before }) where
      fetched_at : (k : ℕ) (d : Row) → k < length old → (get_or (old ++ row ∷ []) k d).fetched ≡ (get_or old k d).fetched
      fetched_at k d below = ap (λ (one : Row). one.fetched) (behind old row d k below)

      newest : (k : ℕ) (d : Row) → k ≡ length old → (get_or (old ++ row ∷ []) k d).fetched ≡ place
      newest k d is = ap (λ n. (get_or (old ++ row ∷ []) n d).fetched) is ∙ ap (λ (one : Row). one.fetched)
          (last_is old row d) ∙ at

      before : (k : ℕ) (d : Row) → k < length (old ++ row ∷ []) → (get_or (old ++ row ∷ []) k d).fetched < place + 1
      before k d below = elim (cases_lt k (length old)) [
        | inl older ↦ omega (arith, fetched_at k d older, were.before k d older)
        | inr last ↦ omega (arith, newest k d (omega (arith, last, below, one_longer old row)))
      ]

      by : AreByFetch (old ++ row ∷ [])
      by i j d rises below = elim (cases_lt j (length old)) [
        | inl older ↦ omega (
          arith,
          fetched_at i d (omega (arith, rises, older)),
          fetched_at j d older,
          were.by i j d rises older,
        )
        | inr last ↦
            let at_last = newest j d (omega (arith, last, below, one_longer old row)) in
            let short : i < length (old ++ row ∷ []) = omega (arith, rises, below) in
            omega (arith, at_last, before i d short)
      ]
