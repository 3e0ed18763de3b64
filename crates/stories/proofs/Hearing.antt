-- What is kept of the rows once another was told.
use Rattle.std.proofs.Common.{◌≡◌, ◌∙◌, ℕ, suc, ◌+◌, ◌<◌, List, [], ◌∷◌, ◌++◌, Bool, true, false, Option, Some, None}
use Rattle.std.proofs.Common.{refl, sym, ap, subst, arith}
use Rattle.std.specs.Prelude.{find, reverse, take, not, if◌then◌else◌, ◌==◌, nat_lt, is_some}
use Rattle.std.specs.{List.before_first, List.prefix_len, Option.option_or}
use Rattle.std.proofs.lemmas.Bool.Decides.{nat_tests}
use Rattle.std.proofs.lemmas.List.{reverse-append}
use Rattle.std.proofs.lemmas.List.Folds.{find-append}
use Rattle.stories.specs.declared.{row.Row.Row, teller.Watch.Watch}
use Rattle.stories.specs.Takers.{IsWatch, address_of, first_taker, is_reserve_by, reserved_at, reserves_of, since}
use Rattle.stories.specs.Takers.{taken_heard, takes, watch_heard, watch_kept}

-- The first of a list, and what stands before it.

find_hit : (p : Row → Bool) (x : Row) (xs : List Row) → p x ≡ true → find p (x ∷ xs) ≡ Some x
find_hit p x xs hit = rw hit refl

find_miss : (p : Row → Bool) (x : Row) (xs : List Row) → p x ≡ false → find p (x ∷ xs) ≡ find p xs
find_miss p x xs miss = rw miss refl

before_hit : (p : Row → Bool) (x : Row) (xs : List Row) → p x ≡ true → before_first p (x ∷ xs) ≡ []
before_hit p x xs hit = rw hit refl

before_miss : (p : Row → Bool) (x : Row) (xs : List Row) → p x ≡ false
    → before_first p (x ∷ xs) ≡ x ∷ before_first p xs
before_miss p x xs miss =
    let more : 1 + prefix_len (λ y. not (p y)) xs ≡ suc (prefix_len (λ y. not (p y)) xs) = omega arith in
    rw miss (ap (λ n. take n (x ∷ xs)) more)

-- One row more behind the last LR.

heard_last : (word : ℕ) (row : Row) (found : Option Row)
    → taken_heard (Some word) row found ≡ option_or found (find (takes word) (row ∷ []))
heard_last word row None = refl
heard_last word row (Some earlier) = refl

heard_none : (row : Row) (found : Option Row) → found ≡ None → taken_heard None row found ≡ None
heard_none row found none = rw none refl

first_more : (word : Option ℕ) (row : Row) (rows : List Row)
    → taken_heard word row (first_taker word rows) ≡ first_taker word (row ∷ rows)
first_more None row rows = refl
first_more (Some word) row rows =
    heard_last word row (find (takes word) (reverse rows))
    ∙ sym (find-append (takes word) (reverse rows) (row ∷ []))
    ∙ sym (ap (find (takes word)) (reverse-append (row ∷ []) rows))

first_none : (word : Option ℕ) → first_taker word [] ≡ None
first_none None = refl
first_none (Some word) = refl

heard_by : (h : ℕ) (row : Row) (past : List Row) (watch : Watch) (reserved : Option ℕ) → reserves_of h row ≡ reserved
    → IsWatch h past watch → IsWatch h (row ∷ past) (watch_kept row watch reserved)
heard_by h row past watch (Some addr) e is =
    let p = is_reserve_by h in
    let hit : p row ≡ true = ap is_some e in
    record {
      word = sym (ap (address_of h) (find_hit p row past hit) ∙ e);
      taken = sym (ap (first_taker (reserved_at h (row ∷ past))) (before_hit p row past hit)
          ∙ first_none (reserved_at h (row ∷ past)));
    }
heard_by h row past watch None e is =
    let p = is_reserve_by h in
    let miss : p row ≡ false = ap is_some e in
    let same : reserved_at h (row ∷ past) ≡ reserved_at h past = ap (address_of h) (find_miss p row past miss) in
    record {
      word = is.word ∙ sym same;
      taken = ap (λ word. taken_heard word row watch.taken) is.word
          ∙ ap (taken_heard (reserved_at h past) row) is.taken
          ∙ first_more (reserved_at h past) row (since h past)
          ∙ ap (λ word. first_taker word (row ∷ since h past)) (sym same)
          ∙ ap (first_taker (reserved_at h (row ∷ past))) (sym (before_miss p row past miss));
    }

pub heard : (h : ℕ) (row : Row) (past : List Row) (watch : Watch) → IsWatch h past watch
    → IsWatch h (row ∷ past) (watch_heard h row watch)
heard h row past watch is = heard_by h row past watch (reserves_of h row) refl is

-- One hart more.
pub one_more : (h hart : ℕ) (row : Row) (now before first : Watch)
    → now ≡ (if h == hart then watch_heard hart row before else before)
    → before ≡ (if nat_lt h hart then watch_heard h row first else first)
    → now ≡ (if nat_lt h (hart + 1) then watch_heard h row first else first)
one_more h hart row now before first is was = grind (arith, nat_tests)

pub heard_then : (h harts : ℕ) (row : Row) (past : List Row) (first now : Watch) → IsWatch h past first → h < harts
    → now ≡ (if nat_lt h harts then watch_heard h row first else first) → IsWatch h (row ∷ past) now
heard_then h harts row past first now has inside is =
    let below : nat_lt h harts ≡ true = grind (arith, nat_tests) in
    let same : now ≡ watch_heard h row first = rw below at is in
    subst (IsWatch h (row ∷ past)) (sym same) (heard h row past first has)
