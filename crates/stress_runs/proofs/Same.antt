-- Two ends are the same by the test exactly where they are one.
use Rattle.std.proofs.Common.{◌≡◌, ℕ, Bool, true, false, List, refl, ap, sym, subst, rules, ◌∙◌, ◌&&◌, nat_eq}
use Rattle.std.proofs.lemmas.Bool.{false≢true}
use Rattle.std.proofs.lemmas.Slice.Eq.{slice_eq-Decides}
use Rattle.std.specs.{Bool.Decides, Bool.one_answer, Cmp.Lexicographic.pointwise}
use Rattle.std.proofs.lemmas.Bool.Decides.{Decides-eqb}
use Rattle.smt_model.specs.{declared.config.Status.Status}
use Rattle.smt_model.specs.declared.config.Status.TheVariants.{Going, Ended, Stopped}
use Rattle.smt_model.specs.contracts.config.StatusPartialEq.TheImpl.{eq-value as same_status}
use Rattle.watched_outcomes.specs.Endings.{Ending}
use Rattle.stress_runs.specs.{Ends.same_end}

status_one : (a b : Status) → same_status.it a b ≡ true → a ≡ b
status_one Going Going e = refl
status_one (Ended m) (Ended n) e = search rules
status_one (Stopped m) (Stopped n) e = search rules
status_one _ _ e = absurd (false≢true e)

status_self : (a : Status) → same_status.it a a ≡ true
status_self Going = refl
status_self (Ended m) = search rules
status_self (Stopped m) = search rules

status_decides : (a b : Status) → Decides (same_status.it a b) (a ≡ b)
status_decides a b = (status_one a b, λ e. subst (λ s. same_status.it a s ≡ true) e (status_self a))

both : (p q : Bool) → (p && q) ≡ true → (p ≡ true) × (q ≡ true)
both true q e = (refl, e)
both false q e = absurd (false≢true e)

and_both : (p q : Bool) → p ≡ true → q ≡ true → (p && q) ≡ true
and_both p q e f = rw (e, f) refl

-- The parts of two ends.
abbrev same_statuses : List Status → List Status → Bool
same_statuses one other = pointwise same_status.it one other

abbrev same_numbers : List ℕ → List ℕ → Bool
same_numbers one other = pointwise nat_eq one other

statuses_decide : (a b : List Status) → Decides (same_statuses a b) (a ≡ b)
statuses_decide a b = slice_eq-Decides status_decides a b _ refl

numbers_decide : (a b : List ℕ) → Decides (same_numbers a b) (a ≡ b)
numbers_decide a b = slice_eq-Decides Decides-eqb a b _ refl

abbrev ending : List Status → List ℕ → List ℕ → List ℕ → Ending
ending statuses registers words output =
    record { statuses = statuses; registers = registers; words = words; output = output }

end_one : (a b : Ending) → same_end a b ≡ true → a ≡ b
end_one a b e =
    let outer = both (same_statuses a.statuses b.statuses) _ e in
    let middle = both (same_numbers a.registers b.registers) _ outer.1 in
    let inner = both (same_numbers a.words b.words) (same_numbers a.output b.output) middle.1 in
    ap (λ s. ending s a.registers a.words a.output) ((statuses_decide a.statuses b.statuses).0 outer.0)
    ∙ (ap (λ n. ending b.statuses n a.words a.output) ((numbers_decide a.registers b.registers).0 middle.0)
    ∙ (ap (λ n. ending b.statuses b.registers n a.output) ((numbers_decide a.words b.words).0 inner.0)
    ∙ ap (ending b.statuses b.registers b.words) ((numbers_decide a.output b.output).0 inner.1)))

end_self : (a : Ending) → same_end a a ≡ true
end_self a =
    and_both (same_statuses a.statuses a.statuses) _ ((statuses_decide a.statuses a.statuses).1 refl)
    (and_both (same_numbers a.registers a.registers) _ ((numbers_decide a.registers a.registers).1 refl)
    (and_both (same_numbers a.words a.words) (same_numbers a.output a.output)
    ((numbers_decide a.words a.words).1 refl) ((numbers_decide a.output a.output).1 refl)))

-- The test is true exactly of ends that are one.
pub end_decides : (a b : Ending) → Decides (same_end a b) (a ≡ b)
end_decides a b = (end_one a b, λ e. subst (λ x. same_end a x ≡ true) e (end_self a))

pub end_turned : (a b : Ending) → same_end a b ≡ same_end b a
end_turned a b =
    let other : Decides (same_end b a) (a ≡ b) =
    (λ e. sym ((end_decides b a).0 e), λ e. (end_decides b a).1 (sym e)) in
    one_answer (same_end a b) (same_end b a) (end_decides a b) other

-- An answer that is true of one end alone, and false of two, is that of the test.
decided : (answer : Bool) (a b : Ending) → (answer ≡ true → a ≡ b) → (answer ≡ false → a ≡ b → ⊥)
    → Decides answer (a ≡ b)
decided true a b same different = (same, λ e. refl)
decided false a b same different = (same, λ e. absurd (different refl e))

pub is_test : (answer : Bool) (a b : Ending) → (answer ≡ true → a ≡ b) → (answer ≡ false → a ≡ b → ⊥)
    → answer ≡ same_end a b
is_test answer a b same different =
    one_answer answer (same_end a b) (decided answer a b same different) (end_decides a b)
