-- States that are equal by `==` are one. It is a law of an impl, so it stands here.
use Rattle.std.specs.Prelude.{◌≡◌, ℕ, Bool, true, ◌&&◌, nat_eq, Option, Some, None, IsTrue, Decides}
use Rattle.std.proofs.Common.{refl, sym, ap, subst}
use Rattle.std.proofs.lemmas.Bool.{true≢false}
use Rattle.std.specs.Cmp.{IsEquivalence, IsPartialEquivalence, decided, partial_equiv_from_equiv}
use Rattle.std.specs.Cmp.{first_so, second_so, unsigned_Decides}
use Rattle.std.specs.Cmp.Lexicographic.{pointwise, pointwise_decides}
use Rattle.changed_memory.specs.declared.change.Change.{Change}
use Rattle.changed_memory.specs.Shared.{Shared}
use Rattle.changed_memory.specs.Same.{is_same_change, is_same_reserved, is_same, writes_of, writes_of_change}

-- ---- Changes

both_so : (a b : Bool) → a ≡ true → b ≡ true → (a && b) ≡ true
both_so a b e f = λ i. e i && f i

same_change : (a b : Change) → is_same_change a b ≡ true → a ≡ b
same_change a b e =
    let addr = (unsigned_Decides a.addr b.addr).0
    (first_so (nat_eq a.addr b.addr) (nat_eq a.byte b.byte) e) in
    let byte = (unsigned_Decides a.byte b.byte).0
    (second_so (nat_eq a.addr b.addr) (nat_eq a.byte b.byte) e) in
    λ i. record { addr = addr i; byte = byte i }

own_change : (a : Change) → is_same_change a a ≡ true
own_change a =
    both_so _ _ ((unsigned_Decides a.addr a.addr).1 refl) ((unsigned_Decides a.byte a.byte).1 refl)

changes_decide : (a b : Change) → Decides (is_same_change a b) (a ≡ b)
changes_decide a b =
    (same_change a b, λ e. subst (λ x. is_same_change a x ≡ true) e (own_change a))

pub same_change_writes : (a b : Change) → IsTrue (is_same_change a b)
    → writes_of_change a ≡ writes_of_change b
same_change_writes a b e = ap writes_of_change (same_change a b e)

-- ---- Reservations

same_reserved : (x y : Option ℕ) → is_same_reserved x y ≡ true → x ≡ y
same_reserved None None e = refl
same_reserved None (Some y) e = absurd (true≢false (sym e))
same_reserved (Some x) None e = absurd (true≢false (sym e))
same_reserved (Some x) (Some y) e = ap Some ((unsigned_Decides x y).0 e)

own_reserved : (x : Option ℕ) → is_same_reserved x x ≡ true
own_reserved None = refl
own_reserved (Some x) = (unsigned_Decides x x).1 refl

reserved_decides : (x y : Option ℕ) → Decides (is_same_reserved x y) (x ≡ y)
reserved_decides x y =
    (same_reserved x y, λ e. subst (λ z. is_same_reserved x z ≡ true) e (own_reserved x))

-- ---- States

-- States that are equal by `==` are one.
pub equal_is_one : (s t : Shared) → is_same s t ≡ true → s ≡ t
equal_is_one s t e =
    let a = pointwise is_same_change s.changes t.changes in
    let b = pointwise is_same_reserved s.reserved t.reserved in
    let c = pointwise nat_eq s.output t.output in
    let changes = (pointwise_decides changes_decide s.changes t.changes).0
    (first_so a b (first_so (a && b) c e)) in
    let reserved = (pointwise_decides reserved_decides s.reserved t.reserved).0
    (second_so a b (first_so (a && b) c e)) in
    let output = (pointwise_decides unsigned_Decides s.output t.output).0
    (second_so (a && b) c e) in
    λ i. record { changes = changes i; reserved = reserved i; output = output i }

own_same : (s : Shared) → is_same s s ≡ true
own_same s =
    both_so _ _
    (both_so _ _ ((pointwise_decides changes_decide s.changes s.changes).1 refl)
    ((pointwise_decides reserved_decides s.reserved s.reserved).1 refl))
    ((pointwise_decides unsigned_Decides s.output s.output).1 refl)

pub same_is_equivalence : IsEquivalence is_same
same_is_equivalence =
    decided is_same
    (λ s t. (equal_is_one s t, λ e. subst (λ x. is_same s x ≡ true) e (own_same s)))

pub same_is_partial : IsPartialEquivalence is_same
same_is_partial = partial_equiv_from_equiv same_is_equivalence

pub same_writes : (s t : Shared) → IsTrue (is_same s t) → writes_of s ≡ writes_of t
same_writes s t e = ap writes_of (equal_is_one s t e)
