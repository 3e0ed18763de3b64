-- A load that is replayed: once all younger ones are squashed, it stands as it did, alone in its hart's flight.
use Rattle.std.specs.Prelude.{◌≡◌, ℕ, ◌<◌, nat_le, false, List, [], ◌∷◌, drop}
use Rattle.std.specs.List.{AllByRecursion}
use Rattle.std.proofs.Common.{◌∙◌, refl, sym, ap, subst, inl, inr, arith}
use Rattle.std.proofs.lemmas.{Bool.cases_Bool, Bool.Decides.nat_tests}
use Rattle.retire_squash.specs.declared.active.Active.{Active}
use Rattle.events.specs.declared.effect.Effect.{Effect}
use Rattle.smt_model.specs.{Kinds.destination, Picture.Picture, Fates.op_of_fetched}
use Rattle.smt_model.specs.Steps.{IsSquash, IsSameInstruction, op_in, up_to}
use Rattle.core_steps.specs.Retirement.{Commits, IsOldestActive, Replays}
use Rattle.core_parts.proofs.Agreement.Harts.{stage_flies, active_kept}

-- None of the younger ones is left.
none_up_to : (n : ℕ) (xs : List ℕ) → AllByRecursion (λ s. n < s) xs → up_to n xs ≡ []
none_up_to n [] younger = refl
none_up_to n (x ∷ xs) younger =
    let beyond = younger.0 in
    let gone : nat_le x n ≡ false = grind (arith, nat_tests) in
    rw gone (none_up_to n xs younger.1)

alone : (n : ℕ) (xs : List ℕ) → AllByRecursion (λ s. n < s) (drop 1 xs)
    → AllByRecursion (λ s. n < s) (drop 1 (up_to n xs))
alone n [] younger = tt
alone n (x ∷ xs) younger =
    let rest = none_up_to n xs younger in
    elim (cases_Bool (nat_le x n)) [
      | inl t ↦ rw t (subst (AllByRecursion (λ s. n < s)) (sym rest) tt)
      | inr f ↦ rw f (subst (λ l. AllByRecursion (λ s. n < s) (drop 1 l)) (sym rest) tt)
    ]

oldest_left : (p m : Picture) (h : ℕ) (x : Active) → IsSquash p m h x.seq → IsOldestActive p h x → IsOldestActive m h x
oldest_left p m h x squash oldest =
    let is = oldest.is_active in
    let kept = squash.stays.shared.kept in
    let same : IsSameInstruction p m x.seq =
    squash.flights x.seq (stage_flies p x.seq x.stage is.stage) (λ own. omega arith) in
    let op : op_in m x.seq ≡ op_in p x.seq =
    ap op_of_fetched (kept x.seq _ is.fetched) ∙ sym (ap op_of_fetched is.fetched) in
    record {
      is_active = active_kept p m h x kept same is;
      completed = same.fate ∙ oldest.completed;
      rd = oldest.rd ∙ ap destination (sym op);
      range = oldest.range;
      phys = oldest.phys ∙ sym same.phys;
      younger = subst (λ l. AllByRecursion (λ s. x.seq < s) (drop 1 l)) (sym squash.flight)
          (alone x.seq (p.flight h) oldest.younger);
    }

pub commits_then : (p q : Picture) (h : ℕ) (x : Active) (effect : Effect) (pc : ℕ)
    → (replays : Replays p q h x effect pc) → Commits replays.step.middle q h x effect pc
commits_then p q h x effect pc replays = record {
  is_oldest = oldest_left p replays.step.middle h x replays.step.squash replays.is_oldest;
  goes_on = replays.goes_on;
  step = replays.step.retire;
}
