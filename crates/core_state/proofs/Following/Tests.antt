-- The first of some rules that fails, test by test.
use Rattle.std.specs.Prelude.{◌≡◌, ℕ, ◌≤◌, ◌==◌, nat_lt, not, Bool, true, false, List, ◌∷◌, Some}
use Rattle.std.proofs.Common.{◌∙◌, refl, sym, inl, inr, arith}
use Rattle.std.proofs.{lemmas.Bool.cases_eq, lemmas.Bool.Decides.nat_tests}
use Rattle.events.specs.declared.event.Event.{Event}
use Rattle.smt_model.specs.{Rules.first_failing, Rules.refused, Rules.rules, Setup.Setup}

pub refused-is : (setup : Setup) (past : List Event) (e : Event)
    → refused setup past e ≡ first_failing (rules setup past e)
unfolding refused
refused-is setup past e = refl

-- A rule that holds.
pub holds : (n : ℕ) (test : Bool) (rest : List (ℕ × Bool)) → test ≡ true
    → first_failing ((n, test) ∷ rest) ≡ first_failing rest
holds n test rest yes_it = rw yes_it refl

-- And one that doesn't.
pub fails : (n : ℕ) (test : Bool) (rest : List (ℕ × Bool)) → test ≡ false
    → first_failing ((n, test) ∷ rest) ≡ Some n
fails n test rest no_it = rw no_it refl

-- A rule of which another test is asked.
pub asks : (n : ℕ) (test other : Bool) (rest others : List (ℕ × Bool)) → test ≡ other
    → first_failing rest ≡ first_failing others
    → first_failing ((n, test) ∷ rest) ≡ first_failing ((n, other) ∷ others)
asks n test other rest others same same_rest = rw (same, same_rest) refl

-- A list with room.
pub not_full : (n size : ℕ) → n ≤ size → not (n == size) ≡ nat_lt n size
not_full n size within = elim (cases_eq n size) [
  | inl same ↦ rw same (grind (arith, nat_tests))
  | inr other ↦
      let left : not (n == size) ≡ true = grind (arith, nat_tests) in
      let right : nat_lt n size ≡ true = grind (arith, nat_tests) in
      left ∙ sym right
]
