-- What `fill` leaves where it has no register or no number to give.
use Rattle.std.specs.Prelude.{◌≡◌, ℕ, ◌<◌, ◌==◌, List, Option, Some, None, length, slice_index_or, slice_set}
use Rattle.std.specs.Prelude.{if◌then◌else◌, true, false}
use Rattle.std.proofs.Common.{refl, ap, inl, inr, arith}
use Rattle.std.proofs.{lemmas.Bool.cases_eq, lemmas.Bool.Decides.nat_tests, lemmas.List.length-set}
use Rattle.std.proofs.{lemmas.List.get_or-set_same, lemmas.List.get_or-set_other}
use Rattle.core_steps.specs.{Filled.IsFilled}
use Rattle.core_parts.specs.{declared.parts.Parts.Parts}
use Rattle.core_steps.proofs.Agreement.Filled.{filled_none, filled_empty}

-- What stands at a place of a list in which one place was set.
pub at_set : {A : Type 0} → (xs : List A) (i x : ℕ) (y d : A) → x < length xs
    → slice_index_or (slice_set xs i y) x d ≡ (if x == i then y else slice_index_or xs x d)
at_set xs i x y d under = elim (cases_eq x i) [
  | inl same ↦
      let test : (x == i) ≡ true = grind (arith, nat_tests) in
      rw (test, same) (get_or-set_same xs i y d (omega arith))
  | inr other ↦
      let test : (x == i) ≡ false = grind (arith, nat_tests) in
      rw test (get_or-set_other xs i x y d other)
]

pub is_filled_none : (register filled : Option ℕ) (x : Parts) → register ≡ None → IsFilled register filled x x
is_filled_none register filled x none = rw none (record {
  harts = refl;
  queue = ap (λ es. record x.queue { entries = es }) (filled_none filled x.queue.entries);
  free = refl;
  count = refl;
  values = λ y d under. refl;
  jobs = refl;
  accesses = refl;
  memory = refl;
})

pub is_filled_empty : (register filled : Option ℕ) (x : Parts) (r : ℕ) (values : List (Option ℕ)) → register ≡ Some r
    → filled ≡ None
    → values ≡ slice_set x.values r filled → IsFilled register filled x (record x { values = values })
is_filled_empty register filled x r values some none set = rw (some, none) (record {
  harts = refl;
  queue = ap (λ es. record x.queue { entries = es }) (filled_empty r x.queue.entries);
  free = refl;
  count = rw (set, none) (length-set x.values r None);
  values = λ y d under. rw (set, none) (at_set x.values r y None d under);
  jobs = refl;
  accesses = refl;
  memory = refl;
})
