-- Ready entries by rising number.
use Rattle.std.specs.Prelude.{◌≡◌, ℕ, ◌+◌, ◌<◌, ◌≤◌, ◌==◌, not, nat_lt, if◌then◌else◌, List, [], ◌∷◌, filter}
use Rattle.std.specs.Prelude.{slice_index_or}
use Rattle.std.specs.List.{AllByRecursion}
use Rattle.issue_queue.specs.declared.order.Ready.{Ready}

-- each number is above those before it
abbrev pub AreReadyRising : List Ready → Type 0
AreReadyRising [] = Unit {0}
AreReadyRising (x ∷ xs) = AllByRecursion (λ y. x.seq < y.seq) xs × AreReadyRising xs

-- an order with one more, before the first of a higher number
abbrev pub in_order : Ready → List Ready → List Ready
in_order r [] = r ∷ []
in_order r (x ∷ xs) = if nat_lt r.seq x.seq then r ∷ x ∷ xs else x ∷ in_order r xs

-- an order without the one of this number
abbrev pub without : ℕ → List Ready → List Ready
without seq xs = filter (λ x. not (x.seq == seq)) xs

-- each has a higher number
abbrev pub AreAbove : ℕ → List Ready → Type 0
AreAbove seq xs = AllByRecursion (λ x. seq < x.seq) xs

-- the one before this place, if there is one, has no higher number
abbrev pub IsBehind : ℕ → ℕ → List Ready → Type 0
IsBehind seq place xs =
    (i : ℕ) (d : Ready) → i + 1 ≡ place → (slice_index_or xs i d).seq ≤ seq
