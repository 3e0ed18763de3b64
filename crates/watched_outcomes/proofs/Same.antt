-- Two outcomes that say the same are one.
use Rattle.std.specs.Prelude.{◌≡◌, ℕ, Bool, true, nat_eq, List, Decides}
use Rattle.std.proofs.Common.{◌∙◌, refl, ap, arith}
use Rattle.std.proofs.lemmas.Slice.Eq.{slice_eq-Decides}
use Rattle.std.specs.Cmp.{unsigned_Decides}
use Rattle.std.specs.Cmp.Lexicographic.{pointwise}
use Rattle.smt_model.specs.{declared.config.Status.Status}
use Rattle.smt_model.specs.declared.config.Status.TheVariants.{Going, Ended, Stopped}
use Rattle.smt_model.specs.contracts.config.StatusPartialEq.TheImpl.{eq-value}
use Rattle.watched_outcomes.specs.Endings.{Ending}

status_decides : (a b : Status) → Decides (eq-value.it a b) (a ≡ b)
status_decides Going Going = (λ e. refl, λ e. refl)
status_decides Going (Ended n) = (λ e. absurd (grind (arith, e)), λ e. absurd (grind (arith, e)))
status_decides Going (Stopped c) = (λ e. absurd (grind (arith, e)), λ e. absurd (grind (arith, e)))
status_decides (Ended n) Going = (λ e. absurd (grind (arith, e)), λ e. absurd (grind (arith, e)))
status_decides (Ended n) (Ended m) =
    (λ e. ap Ended ((unsigned_Decides n m).0 e), λ e. (unsigned_Decides n m).1 cc)
status_decides (Ended n) (Stopped c) = (λ e. absurd (grind (arith, e)), λ e. absurd (grind (arith, e)))
status_decides (Stopped c) Going = (λ e. absurd (grind (arith, e)), λ e. absurd (grind (arith, e)))
status_decides (Stopped c) (Ended n) = (λ e. absurd (grind (arith, e)), λ e. absurd (grind (arith, e)))
status_decides (Stopped c) (Stopped d) =
    (λ e. ap Stopped ((unsigned_Decides c d).0 e), λ e. (unsigned_Decides c d).1 cc)

pub statuses_same : (xs ys : List Status) (r : Bool) → r ≡ pointwise eq-value.it xs ys → r ≡ true → xs ≡ ys
statuses_same xs ys r is so = (slice_eq-Decides status_decides xs ys r is).0 so

pub numbers_same : (xs ys : List ℕ) (r : Bool) → r ≡ pointwise nat_eq xs ys → r ≡ true → xs ≡ ys
numbers_same xs ys r is so = (slice_eq-Decides unsigned_Decides xs ys r is).0 so

pub statuses_equal : (xs ys : List Status) (r : Bool) → r ≡ pointwise eq-value.it xs ys → xs ≡ ys → r ≡ true
statuses_equal xs ys r is same = (slice_eq-Decides status_decides xs ys r is).1 same

pub numbers_equal : (xs ys : List ℕ) (r : Bool) → r ≡ pointwise nat_eq xs ys → xs ≡ ys → r ≡ true
numbers_equal xs ys r is same = (slice_eq-Decides unsigned_Decides xs ys r is).1 same

abbrev ending : List Status → List ℕ → List ℕ → List ℕ → Ending
ending statuses registers words output =
    record { statuses = statuses; registers = registers; words = words; output = output }

pub same_ending : (s t : Ending) → s.statuses ≡ t.statuses → s.registers ≡ t.registers → s.words ≡ t.words
    → s.output ≡ t.output → s ≡ t
same_ending s t statuses registers words output =
    ap (λ z. ending z s.registers s.words s.output) statuses
    ∙ (ap (λ z. ending t.statuses z s.words s.output) registers
    ∙ (ap (λ z. ending t.statuses t.registers z s.output) words ∙ ap (ending t.statuses t.registers t.words) output))
