-- The rounds of a history, from event to event.
use Rattle.std.specs.Prelude.{◌≡◌, ℕ, zero, suc, ◌+◌, ◌-◌, ◌<◌, ◌≤◌, Bool, true, false, ◌==◌, ◌&&◌, ◌||◌, nat_le, nat_lt}
use Rattle.std.specs.Prelude.{set, List, [], ◌∷◌, ◌++◌, length, reverse, take, drop, if◌then◌else◌, Option, Some, None, All}
use Rattle.std.specs.List.{list_any}
use Rattle.std.proofs.Common.{get_or, refl, sym, ap, subst, ◌∙◌, arith, inl, inr}
use Rattle.std.proofs.lemmas.Bool.{cases_Bool, cases_lt, Decides.nat_tests}
use Rattle.std.proofs.lemmas.Grind.{common_steps}
use Rattle.std.proofs.lemmas.List.{take_more, take-append-drop, drop-take, length-drop, length-reverse, length-take-le}
use Rattle.std.proofs.lemmas.List.{reverse-append, get_or-set_other}
use Rattle.std.proofs.lemmas.Grind.{get_or-set_at}
use Rattle.std.proofs.lemmas.List.Folds.{list_any-append, list_any_at}
use Rattle.numbers.specs.Sizes.{most_events}
use Rattle.events.specs.{declared.event.Event.Event, Event.actor_of}
use Rattle.chart_rows.specs.{declared.row.Row.Row, Cells.is_at}
use Rattle.chart_columns.specs.declared.rounds.Round.{Round}
use Rattle.chart_columns.specs.Rounds.{AreColumns, column_at, has_actor, has_between, is_marked, lies_between}
use Rattle.chart_columns.specs.Rounds.{marks, meets, next_round, round, shares_row}
use Rattle.chart_columns.specs.Limits.{AreLimits}
use Rattle.chart_columns.specs.Tables.{IsTable, KeepsApart, column}

-- ---- The events of a round

or_comm : (a b : Bool) → (a || b) ≡ (b || a)
or_comm true true = refl
or_comm true false = refl
or_comm false true = refl
or_comm false false = refl

or_none : (a : Bool) → (a || false) ≡ a
or_none true = refl
or_none false = refl

any_turned : {X : Type 0} (p : X → Bool) (xs : List X) → list_any p (reverse xs) ≡ list_any p xs
any_turned p [] = refl
any_turned p (x ∷ xs) =
    ap (list_any p) (reverse-append (x ∷ []) xs) ∙ list_any-append p (reverse xs) (x ∷ [])
    ∙ ap (λ b. list_any p (reverse xs) || b) (or_none (p x)) ∙ ap (λ b. b || p x) (any_turned p xs)
    ∙ or_comm (list_any p xs) (p x)

take_first : {X : Type 0} (xs ys : List X) → take (length xs) (xs ++ ys) ≡ xs
take_first [] ys = refl
take_first (x ∷ xs) ys = ap (λ rest. x ∷ rest) (take_first xs ys)

newest : {X : Type 0} (xs : List X) (from : ℕ) → take (length xs - from) (reverse xs) ≡ reverse (drop from xs)
newest xs from =
    let long : length xs - from ≡ length (reverse (drop from xs)) =
    sym (length-reverse (drop from xs) ∙ length-drop from xs) in
    let whole : reverse xs ≡ reverse (drop from xs) ++ reverse (take from xs) =
    ap reverse (sym (take-append-drop from xs)) ∙ reverse-append (take from xs) (drop from xs) in
    ap (λ n. take n (reverse xs)) long ∙ ap (take (length (reverse (drop from xs)))) whole
    ∙ take_first (reverse (drop from xs)) (reverse (take from xs))

-- ---- From event to event

module _ (rows : List Row) (events : List Event) where
  abbrev pub round_at : ℕ → Round
  round_at n = round rows (reverse (take n events))

  abbrev pub begins_at : (n : ℕ) (d : Event) → Bool
  begins_at n d = meets rows (get_or events n d) (reverse (take n events)) (round_at n).start

  long : (n : ℕ) → n ≤ length events → length (reverse (take n events)) ≡ n
  long n inside = length-reverse (take n events) ∙ length-take-le n events inside

  one_more : (n : ℕ) (d : Event) → n < length events
      → reverse (take (n + 1) events) ≡ get_or events n d ∷ reverse (take n events)
  one_more n d inside =
      ap reverse (take_more events n d inside) ∙ reverse-append (take n events) (get_or events n d ∷ [])

  pub next_at : (n : ℕ) (d : Event) → n < length events
      → round_at (n + 1) ≡ next_round (begins_at n d) n (round_at n)
  next_at n d inside =
      ap (round rows) (one_more n d inside)
      ∙ ap (λ place. next_round (begins_at n d) place (round_at n)) (long n (omega (arith, inside)))

  pub begins : (n : ℕ) (d : Event) (limit : ℕ) → n < length events
      → ((from : ℕ) → nat_lt from limit ≡ shares_row rows from n)
      → (round_at n).start ≤ n
      → begins_at n d ≡ (has_actor (actor_of (get_or events n d))
      (take (n - (round_at n).start) (drop (round_at n).start events)) || nat_lt (round_at n).start limit)
  begins n d limit inside says before =
      let from = (round_at n).start in
      let past = reverse (take n events) in
      let actor = actor_of (get_or events n d) in
      let here : length past ≡ n = long n (omega (arith, inside)) in
      let short : length past - from ≡ length (take n events) - from =
      ap (λ k. k - from) (length-reverse (take n events)) in
      let run = take (n - from) (drop from events) in
      let sum : n ≡ from + (n - from) = omega (arith, before) in
      let those : drop from (take n events) ≡ run =
      ap (λ k. drop from (take k events)) sum ∙ drop-take from (n - from) events in
      let same : has_actor actor (take (length past - from) past) ≡ has_actor actor run =
      ap (λ k. has_actor actor (take k past)) short ∙ ap (has_actor actor) (newest (take n events) from)
      ∙ any_turned (λ e. actor_of e == actor) (drop from (take n events)) ∙ ap (has_actor actor) those in
      ap (λ b. b || shares_row rows from (length past)) same
      ∙ ap (λ k. has_actor actor run || shares_row rows from k) here
      ∙ ap (λ b. has_actor actor run || b) (sym (says from))

-- ---- What rounds keep

-- The round of one more event, by its limit.
pub round_is : (rows : List Row) (events : List Event) (n : ℕ) (d : Event) (limit : ℕ) (r result : Round)
    → n < length events → ((from : ℕ) → nat_lt from limit ≡ shares_row rows from n) → r.start ≤ n
    → r ≡ round_at rows events n
    → result ≡ next_round (has_actor (actor_of (get_or events n d)) (take (n - r.start) (drop r.start events))
    || nat_lt r.start limit) n r
    → result ≡ round_at rows events (n + 1)
round_is rows events n d limit r result inside says within same is =
    let step : Round → Round = λ (old : Round). next_round (has_actor (actor_of (get_or events n d))
    (take (n - old.start) (drop old.start events)) || nat_lt old.start limit) n old in
    is ∙ ap step same
    ∙ ap (λ b. next_round b n (round_at rows events n))
    (sym (begins rows events n d limit inside says (subst (λ (old : Round). old.start ≤ n) same within)))
    ∙ sym (next_at rows events n d inside)

module _ (rows : List Row) (events : List Event) (table limits : List ℕ) (n column : ℕ)
    (count : length table ≡ length events) (inside : n < length events) where
  pub left_alike : ((k d : ℕ) → n ≤ k → k < length events → get_or table k d ≡ get_or limits k d)
      → (k d : ℕ) → n + 1 ≤ k → k < length events → get_or (set table n column) k d ≡ get_or limits k d
  left_alike before k d least below =
      get_or-set_other table n k column d (λ same. absurd (omega (arith, least, same)))
      ∙ before k d (omega (arith, least)) below

  pub done_more : ((k d : ℕ) → k < n → get_or table k d ≡ column_at rows events k)
      → column ≡ column_at rows events n
      → (k d : ℕ) → k < n + 1 → get_or (set table n column) k d ≡ column_at rows events k
  done_more before is k d below = elim (cases_lt k n) [
    | inl older ↦
        get_or-set_other table n k column d (λ same. absurd (omega (arith, older, same))) ∙ before k d older
    | inr newest ↦
        let same : k ≡ n = omega (arith, below, newest) in
        get_or-set_at table n k column d same (omega (arith, count, inside)) ∙ is
        ∙ ap (column_at rows events) (sym same)
  ]

pub limit_at : (rows : List Row) (limits : List ℕ) (n d limit : ℕ) → n < length limits → AreLimits rows limits
    → limit ≡ get_or limits n d → (from : ℕ) → nat_lt from limit ≡ shares_row rows from n
limit_at rows limits n d limit inside are same from = ap (nat_lt from) same ∙ are.each n d inside from

begun_start : (b : Bool) (n : ℕ) (r : Round) → r.start ≤ n → (next_round b n r).start ≤ n
begun_start true n r before = omega arith
begun_start false n r before = before

no_lower : (b : Bool) (n : ℕ) (r : Round) → r.column ≤ (next_round b n r).column
no_lower true n r = omega arith
no_lower false n r = omega arith

no_higher : (b : Bool) (n : ℕ) (r : Round) → (next_round b n r).column ≤ r.column + 1
no_higher true n r = omega arith
no_higher false n r = omega arith

pub start_stays : (n : ℕ) (r result : Round) (b : Bool) → r.start ≤ n → result ≡ next_round b n r
    → result.start ≤ n + 1
start_stays n r result b before is =
    let here = begun_start b n r before in
    subst (λ (new : Round). new.start ≤ n + 1) (sym is) (omega (arith, here))

pub column_stays : (n : ℕ) (r result : Round) (b : Bool) → r.column ≤ n → result ≡ next_round b n r
    → result.column ≤ n + 1
column_stays n r result b before is =
    let here = no_higher b n r in
    subst (λ (new : Round). new.column ≤ n + 1) (sym is) (omega (arith, here, before))

pub start_within : (b : Bool) (n : ℕ) (r : Round) → r.start ≤ n → (next_round b n r).start ≤ n + 1
start_within b n r before = let here = begun_start b n r before in omega arith

pub column_within : (b : Bool) (n : ℕ) (r : Round) → r.column ≤ n → (next_round b n r).column ≤ n + 1
column_within b n r before = let here = no_higher b n r in omega arith

any_true : (b : Bool) → (b || true) ≡ true
any_true true = refl
any_true false = refl

any_between : (all : List (Option ℕ)) (from one place : ℕ) → from ≤ one → one < place
    → is_marked one all ≡ true → has_between from place all ≡ true
any_between [] from one place least below is = grind (arith, common_steps, is)
any_between (None ∷ all) from one place least below is = any_between all from one place least below is
any_between (Some at ∷ all) from one place least below is = elim (cases_Bool (at == one)) [
  | inl same ↦
      let lies : lies_between from place (Some at) ≡ true = grind (arith, nat_tests, common_steps, same, least, below) in
      ap (λ b. b || has_between from place all) lies
  | inr apart ↦
      let later = any_between all from one place least below (subst (λ b. (b || is_marked one all) ≡ true) apart is) in
      ap (λ b. lies_between from place (Some at) || b) later ∙ any_true (lies_between from place (Some at))
]

shares : (rows : List Row) (k : ℕ) (d : Row) (from one place : ℕ) → k < length rows → from ≤ one → one < place
    → is_marked one (marks (get_or rows k d)) ≡ true → is_marked place (marks (get_or rows k d)) ≡ true
    → shares_row rows from place ≡ true
shares rows k d from one place inside least below is also =
    list_any_at (λ row. is_marked place (marks row) && has_between from place (marks row)) rows k d inside
    (ap (λ b. b && has_between from place (marks (get_or rows k d))) also
    ∙ any_between (marks (get_or rows k d)) from one place least below is)

module _ (rows : List Row) (events : List Event) (d : Event) where
  abbrev at : ℕ → Round
  at n = round_at rows events n

  steps : (n : ℕ) → n < length events → (b : Bool) × (at (n + 1) ≡ next_round b n (at n))
  steps n inside = (begins_at rows events n d, next_at rows events n d inside)

  pub start_before : (n : ℕ) → n ≤ length events → (at n).start ≤ n
  start_before zero inside = let none : (at 0).start ≡ 0 = refl in omega (arith, none)
  start_before (suc n) inside =
      let step = steps n (omega (arith, inside)) in
      let more : suc n ≡ n + 1 = omega arith in
      subst (λ k. (at k).start ≤ k) (sym more) (subst (λ (r : Round). r.start ≤ n + 1) (sym step.1)
      (start_within step.0 n (at n) (start_before n (omega (arith, inside)))))

  rises_by : (n k : ℕ) → n + k ≤ length events → (at n).column ≤ (at (n + k)).column
  rises_by n zero inside =
      let same : n ≡ n + 0 = omega arith in subst (λ m. (at n).column ≤ (at m).column) same (omega arith)
  rises_by n (suc k) inside =
      let step = steps (n + k) (omega (arith, inside)) in
      let more : n + k + 1 ≡ n + suc k = omega arith in
      let before = rises_by n k (omega (arith, inside)) in
      let next : (at (n + k)).column ≤ (at (n + k + 1)).column =
      subst (λ (r : Round). (at (n + k)).column ≤ r.column) (sym step.1) (no_lower step.0 (n + k) (at (n + k))) in
      subst (λ m. (at n).column ≤ (at m).column) more (omega (arith, before, next))

  pub rises : (n m : ℕ) → n ≤ m → m ≤ length events → (at n).column ≤ (at m).column
  rises n m least inside =
      let sum : n + (m - n) ≡ m = omega (arith, least) in
      subst (λ k. (at n).column ≤ (at k).column) sum (rises_by n (m - n) (omega (arith, least, inside)))

  -- What is before a round is in a lower column.
  lower_by : (b : Bool) (n k : ℕ) → n < length events → at (n + 1) ≡ next_round b n (at n) → k < (at (n + 1)).start
      → (k < (at n).start → (at (k + 1)).column < (at n).column) → (at n).start ≤ n
      → (at (k + 1)).column < (at (n + 1)).column
  lower_by true n k inside is before so_far within =
      let begun : k < n = subst (λ (r : Round). k < r.start) is before in
      let up = rises (k + 1) n (omega (arith, begun)) (omega (arith, inside)) in
      subst (λ (r : Round). (at (k + 1)).column < r.column) (sym is) (omega (arith, up))
  lower_by false n k inside is before so_far within =
      let stays : k < (at n).start = subst (λ (r : Round). k < r.start) is before in
      subst (λ (r : Round). (at (k + 1)).column < r.column) (sym is) (so_far stays)

  pub lower : (n k : ℕ) → n ≤ length events → k < (at n).start → (at (k + 1)).column < (at n).column
  lower zero k inside before = let none : (at 0).start ≡ 0 = refl in absurd (omega (arith, before, none))
  lower (suc n) k inside before =
      let more : suc n ≡ n + 1 = omega arith in
      let step = steps n (omega (arith, inside)) in
      subst (λ m. (at (k + 1)).column < (at m).column) (sym more)
      (lower_by step.0 n k (omega (arith, inside)) step.1 (subst (λ m. k < (at m).start) more before)
      (λ earlier. lower n k (omega (arith, inside)) earlier) (start_before n (omega (arith, inside))))

  apart_by : (b : Bool) (one other : ℕ) → one < other → other < length events
      → at (other + 1) ≡ next_round b other (at other) → ((at other).start ≤ one → b ≡ true)
      → (at (one + 1)).column < (at (other + 1)).column
  apart_by b one other below inside is meets_it = elim (cases_lt one (at other).start) [
    | inl before ↦
        let less = lower other one (omega (arith, inside)) before in
        let up = rises other (other + 1) (omega arith) (omega (arith, inside)) in
        omega (arith, less, up)
    | inr within ↦
        let up = rises (one + 1) other (omega (arith, below)) (omega (arith, inside)) in
        let begun : at (other + 1) ≡ next_round true other (at other) =
        is ∙ ap (λ begins. next_round begins other (at other)) (meets_it within) in
        subst (λ (r : Round). (at (one + 1)).column < r.column) (sym begun) (omega (arith, up))
  ]

  pub keeps_apart : (k : ℕ) (e : Row) (one other : ℕ) → k < length rows → one < other → other < length events
      → is_marked one (marks (get_or rows k e)) ≡ true → is_marked other (marks (get_or rows k e)) ≡ true
      → (at (one + 1)).column < (at (other + 1)).column
  keeps_apart k e one other row below inside is also =
      let past = reverse (take other events) in
      let here : length past ≡ other = long rows events other (omega (arith, inside)) in
      let from = (at other).start in
      apart_by (begins_at rows events other d) one other below inside (next_at rows events other d inside) (λ least.
      let actor = has_actor (actor_of (get_or events other d)) (take (length past - from) past) in
      ap (λ place. actor || shares_row rows from place) here
      ∙ ap (λ b. actor || b) (shares rows k e from one other row least below is also) ∙ any_true actor)

-- ---- The table

module _ (rows : List Row) (events : List Event) (columns : List ℕ) (are : AreColumns rows events columns)
    (d : Event) where
  pub table_is : length events ≤ most_events → IsTable columns
  table_is few = record {
    few = subst (λ n. n ≤ most_events) (sym are.count) few;
    rises = λ i j e least below.
        let inside : j < length events = subst (λ n. j < n) are.count below in
        let first : i < length events = omega (arith, least, inside) in
        let up = rises rows events d (i + 1) (j + 1) (omega (arith, least)) (omega (arith, inside)) in
        subst (λ n. n ≤ get_or columns j e) (sym (are.each i e first))
        (subst (λ n. column_at rows events i ≤ n) (sym (are.each j e inside)) up);
  }

  pub row_apart : (k : ℕ) (e : Row) → k < length rows → KeepsApart columns (get_or rows k e)
  row_apart k e row = record {
    apart = λ one other below inside is also.
        let there : other < length events = subst (λ n. other < n) are.count inside in
        let first : one < length events = omega (arith, below, there) in
        let less = keeps_apart rows events d k e one other row below there is also in
        subst (λ n. n < column columns other) (sym (are.each one one first))
        (subst (λ n. column_at rows events one < n) (sym (are.each other other there)) less);
  }
