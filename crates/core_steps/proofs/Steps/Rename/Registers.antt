-- The free registers, and what the others hold.
use Rattle.std.specs.Prelude.{◌≡◌, ◌≢◌, ℕ, ◌<◌, ◌&&◌, not, Bool, true, false, List}
use Rattle.std.specs.Prelude.{length, Option, Some, None, slice_index_or, slice_set}
use Rattle.std.proofs.Common.{◌∙◌, refl, sym, ap, subst, inl, inr, arith}
use Rattle.std.proofs.{lemmas.Bool.cases_Bool}
use Rattle.std.proofs.{lemmas.Bool.Decides.nat_tests}
use Rattle.std.proofs.lemmas.List.{length-set, get_or-set_same, get_or-set_other}
use Rattle.free_list.specs.Flags.{holds}
use Rattle.smt_model.specs.{Picture.Picture}
use Rattle.smt_model.specs.Steps.{IsRename, is_register_taken}
use Rattle.core_parts.specs.Agree.{FreeAgrees, ValuesAgree}
use Rattle.core_steps.specs.Renaming.{emptied}

pub free_renamed : (p q : Picture) (h n : ℕ) (taken : Option ℕ) (old new : List Bool) → IsRename p q h n taken
    → ((x : ℕ) → holds new x ≡ (holds old x && not (is_register_taken taken x))) → FreeAgrees p old → FreeAgrees q new
free_renamed p q h n taken old new step taken_out agrees =
    λ x. taken_out x ∙ (ap (λ b. b && not (is_register_taken taken x)) (agrees x) ∙ sym (step.free x))

pub emptied_length : (taken : Option ℕ) (values : List (Option ℕ)) → length (emptied taken values) ≡ length values
emptied_length None values = refl
emptied_length (Some x) values = length-set values x None

emptied_other : (taken : Option ℕ) (values : List (Option ℕ)) (x : ℕ) (d : Option ℕ) → is_register_taken taken x ≡ false
    → slice_index_or (emptied taken values) x d ≡ slice_index_or values x d
emptied_other None values x d apart = refl
emptied_other (Some y) values x d apart =
    let other : x ≢ y = λ same. absurd (grind (arith, nat_tests)) in get_or-set_other values y x None d other

emptied_own : (taken : Option ℕ) (values : List (Option ℕ)) (x : ℕ) (d : Option ℕ) → x < length values → taken ≡ Some x
    → slice_index_or (emptied taken values) x d ≡ None
emptied_own None values x d under same = absurd cc
emptied_own (Some y) values x d under same =
    let at : y ≡ x = cc in
    subst (λ z. slice_index_or (slice_set values z None) x d ≡ None) (sym at) (get_or-set_same values x None d under)

taken_is : (taken : Option ℕ) (x : ℕ) → is_register_taken taken x ≡ true → taken ≡ Some x
taken_is None x it = absurd (grind arith)
taken_is (Some y) x it = let at : y ≡ x = grind (arith, nat_tests) in ap Some at

and_true : (a b : Bool) → b ≡ false → (a && not b) ≡ false → a ≡ false
and_true true b gone both = absurd (grind arith)
and_true false b gone both = refl

pub values_renamed : (p q : Picture) (h n : ℕ) (taken : Option ℕ) (values : List (Option ℕ)) → IsRename p q h n taken
    → ValuesAgree p values
    → ValuesAgree q (emptied taken values)
values_renamed p q h n taken values step hold = λ x d under claimed.
    let within : x < length values = subst (λ m. x < m) (emptied_length taken values) under in
    elim (cases_Bool (is_register_taken taken x)) [
      | inl mine ↦
          let own : taken ≡ Some x = taken_is taken x mine in
          emptied_own taken values x d within own ∙ sym (step.emptied x own)
      | inr another ↦
          let was : p.free x ≡ false =
          and_true (p.free x) (is_register_taken taken x) another (sym (step.free x) ∙ claimed) in
          emptied_other taken values x d another ∙ (hold x d within was ∙ sym (step.values x claimed another))
    ]
