-- The limits, from mark to mark and from row to row.
use Rattle.std.specs.Prelude.{◌≡◌, ℕ, suc, ◌+◌, ◌<◌, ◌≤◌, Bool, true, false, ◌==◌, ◌&&◌, ◌||◌, nat_le, nat_lt, if◌then◌else◌}
use Rattle.std.specs.Prelude.{List, [], ◌∷◌, ◌++◌, length, take, max, replicate, Option, Some, None}
use Rattle.std.specs.List.{list_any}
use Rattle.std.proofs.Common.{get_or, refl, sym, ap, subst, ◌∙◌, arith, inl, inr}
use Rattle.std.proofs.lemmas.Bool.{cases_Bool, Decides.nat_tests}
use Rattle.std.proofs.lemmas.Grind.{common_steps}
use Rattle.std.proofs.lemmas.List.{take_more, take_all, get_or-replicate, length-replicate}
use Rattle.std.proofs.lemmas.List.Folds.{list_any-append}
use Rattle.chart_rows.specs.{declared.row.Row.Row, Cells.is_at}
use Rattle.chart_columns.specs.Rounds.{has_between, is_marked, lies_between, marks, shares_row}
use Rattle.chart_columns.specs.Limits.{AreBehind, AreLimits, AreRaised, AreRaisedBy, IsBehind}

or_false : (a : Bool) → (a || false) ≡ a
or_false true = refl
or_false false = refl

-- One more member of a list passes a test, or one before it.
pub any_more : {X : Type 0} (p : X → Bool) (xs : List X) (i : ℕ) (d : X) → i < length xs
    → list_any p (take (i + 1) xs) ≡ (list_any p (take i xs) || p (get_or xs i d))
any_more p xs i d inside =
    ap (list_any p) (take_more xs i d inside) ∙ list_any-append p (take i xs) (get_or xs i d ∷ [])
    ∙ ap (λ b. list_any p (take i xs) || b) (or_false (p (get_or xs i d)))

greater : (from one other : ℕ) → nat_lt from (max one other) ≡ (nat_lt from one || nat_lt from other)
greater from one other = grind (arith, nat_tests, common_steps)

-- Marks behind each other.
pub mark_is_behind : (place at : ℕ) → at < place → IsBehind place (Some at) (at + 1)
mark_is_behind place at before from = grind (arith, nat_tests, common_steps, before)

pub mark_is_late : (place at : ℕ) → place ≤ at → IsBehind place (Some at) 0
mark_is_late place at late from = grind (arith, nat_tests, common_steps, late)

pub behind_more : (place : ℕ) (all : List (Option ℕ)) (i : ℕ) (d : Option ℕ) (so_far one : ℕ) → i < length all
    → AreBehind place (take i all) so_far → IsBehind place (get_or all i d) one
    → AreBehind place (take (i + 1) all) (max so_far one)
behind_more place all i d so_far one inside before next from =
    greater from so_far one ∙ ap (λ b. b || nat_lt from one) (before from)
    ∙ ap (λ b. has_between from place (take i all) || b) (next from)
    ∙ sym (any_more (lies_between from place) all i d inside)

pub behind_none : (place : ℕ) → AreBehind place [] 0
behind_none place from = grind (arith, nat_tests, common_steps)

pub behind_all : (place : ℕ) (all : List (Option ℕ)) (i latest : ℕ) → length all ≤ i
    → AreBehind place (take i all) latest → AreBehind place all latest
behind_all place all i latest end are = subst (λ xs. AreBehind place xs latest) (take_all i all end) are

-- ---- Marks of a row

pub raised_none : (all : List (Option ℕ)) (old : List ℕ) → AreRaisedBy [] all old old
raised_none all old = record { count = refl; each = λ place d from inside. sym (or_false (nat_lt from (get_or old place d))) }

pub raised_skip : (all : List (Option ℕ)) (old : List ℕ) → AreRaisedBy (None ∷ []) all old old
raised_skip all old = record { count = refl; each = λ place d from inside. sym (or_false (nat_lt from (get_or old place d))) }

-- One mark enters.
raised_at : (k at from limit old new : ℕ) (between : Bool) → new ≡ (if k == at then max old limit else old)
    → (k ≡ at → nat_lt from limit ≡ between)
    → nat_lt from new ≡ (nat_lt from old || ((at == k || false) && between))
raised_at k at from limit old new between is says = elim (cases_Bool (k == at)) [
  | inl same ↦
      let equal : k ≡ at = grind (arith, nat_tests, same) in
      let turned : (at == k) ≡ true = grind (arith, nat_tests, same) in
      ap (nat_lt from) (is ∙ ap (λ b. if b then max old limit else old) same) ∙ greater from old limit
      ∙ ap (λ b. nat_lt from old || b) (says equal)
      ∙ ap (λ b. nat_lt from old || ((b || false) && between)) (sym turned)
  | inr apart ↦
      let turned : (at == k) ≡ false = grind (arith, nat_tests, apart) in
      ap (nat_lt from) (is ∙ ap (λ b. if b then max old limit else old) apart) ∙ sym (or_false (nat_lt from old))
      ∙ ap (λ b. nat_lt from old || ((b || false) && between)) (sym turned)
]

pub raised_one : (at limit : ℕ) (all : List (Option ℕ)) (old new : List ℕ) → AreBehind at all limit
    → length new ≡ length old
    → ((k d : ℕ) → k < length old → get_or new k d ≡ (if k == at then max (get_or old k d) limit else get_or old k d))
    → AreRaisedBy (Some at ∷ []) all old new
raised_one at limit all old new behind count each = record {
  count = count;
  each = λ place d from inside.
      raised_at place at from limit (get_or old place d) (get_or new place d) (has_between from place all)
      (each place d inside)
      (λ same. behind from ∙ ap (λ p. has_between from p all) (sym same));
}

distribute : (a b c d : Bool) → ((a || (b && d)) || (c && d)) ≡ (a || ((b || c) && d))
distribute true b c d = refl
distribute false true true true = refl
distribute false true true false = refl
distribute false true false true = refl
distribute false true false false = refl
distribute false false true true = refl
distribute false false true false = refl
distribute false false false true = refl
distribute false false false false = refl

or_assoc : (a b c : Bool) → ((a || b) || c) ≡ (a || (b || c))
or_assoc true b c = refl
or_assoc false b c = refl

-- One more mark, and one more row.
pub raised_more : (all : List (Option ℕ)) (i : ℕ) (d : Option ℕ) (old mid new : List ℕ) → i < length all
    → AreRaisedBy (take i all) all old mid → AreRaisedBy (get_or all i d ∷ []) all mid new
    → AreRaisedBy (take (i + 1) all) all old new
raised_more all i d old mid new inside before next = record {
  count = next.count ∙ before.count;
  each = λ place e from here.
      let there : place < length mid = subst (λ n. place < n) (sym before.count) here in
      let others = is_marked place (take i all) in
      let one = is_at (get_or all i d) place in
      let between = has_between from place all in
      next.each place e from there
      ∙ ap (λ b. b || ((one || false) && between)) (before.each place e from here)
      ∙ ap (λ b. (nat_lt from (get_or old place e) || (others && between)) || (b && between)) (or_false one)
      ∙ distribute (nat_lt from (get_or old place e)) others one between
      ∙ ap (λ b. nat_lt from (get_or old place e) || (b && between))
      (sym (any_more (λ mark. is_at mark place) all i d inside));
}

pub raised_all : (all : List (Option ℕ)) (i : ℕ) (old new : List ℕ) → length all ≤ i
    → AreRaisedBy (take i all) all old new → AreRaisedBy all all old new
raised_all all i old new end are = subst (λ xs. AreRaisedBy xs all old new) (take_all i all end) are

pub rows_none : (old : List ℕ) → AreRaised [] old old
rows_none old = record { count = refl; each = λ place d from inside. sym (or_false (nat_lt from (get_or old place d))) }

pub rows_more : (rows : List Row) (i : ℕ) (d : Row) (old mid new : List ℕ) (all : List (Option ℕ)) → i < length rows
    → all ≡ marks (get_or rows i d)
    → AreRaised (take i rows) old mid → AreRaisedBy all all mid new → AreRaised (take (i + 1) rows) old new
rows_more rows i d old mid new all inside is before next = record {
  count = next.count ∙ before.count;
  each = λ place e from here.
      let there : place < length mid = subst (λ n. place < n) (sym before.count) here in
      let others = shares_row (take i rows) from place in
      next.each place e from there
      ∙ ap (λ b. b || (is_marked place all && has_between from place all)) (before.each place e from here)
      ∙ or_assoc (nat_lt from (get_or old place e)) others (is_marked place all && has_between from place all)
      ∙ ap (λ some. nat_lt from (get_or old place e) || (others || (is_marked place some && has_between from place some)))
      is
      ∙ ap (λ b. nat_lt from (get_or old place e) || b)
      (sym (any_more (λ row. is_marked place (marks row) && has_between from place (marks row)) rows i d inside));
}

pub rows_all : (rows : List Row) (i : ℕ) (old new : List ℕ) → length rows ≤ i
    → AreRaised (take i rows) old new → AreRaised rows old new
rows_all rows i old new end are = subst (λ xs. AreRaised xs old new) (take_all i rows end) are

-- Limits that are raised from 0 are those of the rows.
pub limits_of : (rows : List Row) (count : ℕ) (old new : List ℕ) → old ≡ replicate count 0 → AreRaised rows old new
    → AreLimits rows new
limits_of rows count old new noughts raised = record {
  each = λ place d inside from.
      let here : place < length old = subst (λ n. place < n) raised.count inside in
      let there : place < count =
      subst (λ n. place < n) (ap length noughts ∙ length-replicate count 0) here in
      let nought : get_or old place d ≡ 0 =
      ap (λ xs. get_or xs place d) noughts ∙ get_or-replicate count place 0 d there in
      let none : nat_lt from (get_or old place d) ≡ false =
      ap (nat_lt from) nought ∙ grind (arith, nat_tests, common_steps) in
      raised.each place d from here ∙ ap (λ b. b || shares_row rows from place) none;
}
