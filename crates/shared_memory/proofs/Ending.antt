-- Reservations end one hart after another.
use Rattle.std.proofs.Common.{◌≡◌, ◌∙◌, ℕ, ◌+◌, ◌≤◌, Option, Some, None, arith, inl, inr, sym, ap}
use Rattle.std.specs.Prelude.{◌==◌, nat_lt, if◌then◌else◌, true, false}
use Rattle.std.proofs.lemmas.Bool.{cases_lt}
use Rattle.std.proofs.lemmas.Bool.Decides.{nat_tests}
use Rattle.events.specs.declared.effect.Written.{Written}
use Rattle.smt_model.specs.Reservations.{reservation_after_write}

pub one_more : (left : Option ℕ → Option ℕ) (h hart : ℕ) (now before first : Option ℕ)
    → now ≡ (if h == hart then left before else before) → before ≡ (if nat_lt h hart then left first else first)
    → now ≡ (if nat_lt h (hart + 1) then left first else first)
one_more left h hart now before first is was = grind (arith, nat_tests)

-- Behind the harts at which a write looks, none had a reservation, and none has.
pub still_none : (w : Written) (reach h : ℕ) (now before : Option ℕ) → reach ≤ h → before ≡ None
    → now ≡ (if nat_lt h reach then reservation_after_write (Some w) before else before) → now ≡ None
still_none w reach h now before above none is =
    let past : nat_lt h reach ≡ false = grind (arith, nat_tests) in rw past at is ∙ none

-- So each hart has lost what the write ends.
pub all_ended : (w : Written) (reach h : ℕ) (now before : Option ℕ) → (reach ≤ h → before ≡ None)
    → now ≡ (if nat_lt h reach then reservation_after_write (Some w) before else before)
    → now ≡ reservation_after_write (Some w) before
all_ended w reach h now before none is =
    elim (cases_lt h reach) [
      | inl below ↦ let looks : nat_lt h reach ≡ true = grind (arith, nat_tests) in rw looks at is
      | inr above ↦
          let gone : before ≡ None = none (omega (arith, above)) in
          still_none w reach h now before (omega (arith, above)) gone is
          ∙ sym (ap (reservation_after_write (Some w)) gone)
    ]
