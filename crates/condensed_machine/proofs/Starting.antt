-- Harts that begin, one after another.
use Rattle.std.proofs.Common.{◌≡◌, ◌≢◌, ℕ, ◌+◌, ◌<◌, ◌≤◌, List, length, sym, subst, ◌∙◌, arith, inl, inr}
use Rattle.std.specs.Prelude.{slice_set, slice_index}
use Rattle.std.proofs.lemmas.Bool.{cases_eq}
use Rattle.std.proofs.lemmas.List.{get_or-set_other, get_or-set_same}
use Rattle.sc_machine.specs.declared.hart.Hart.{Hart}
use Rattle.condensed_machine.specs.{Machine.Program, Machine.Keeps}
use Rattle.condensed_machine.specs.Beginning.{HasBegunAs, HaveBegun}

still_begun : (p : Program) (old new : List Hart) (h way number : ℕ) → Keeps old new → HasBegunAs p old h way number
    → HasBegunAs p new h way number
still_begun p old new h way number keeps begun = record {
  first = begun.first;
  is_first = begun.is_first;
  hart = begun.hart;
  rests = begun.rests;
  has = keeps number begun.hart begun.has;
}

pub begun_more : (p : Program) (old new : List Hart) (h way number : ℕ) (ways numbers : List ℕ) → h < length ways
    → h < length numbers → HaveBegun p old h ways numbers → Keeps old new → HasBegunAs p new h way number
    → HaveBegun p new (h + 1) (slice_set ways h way) (slice_set numbers h number)
begun_more p old new h way number ways numbers in_ways in_numbers before keeps begun g below =
    elim (cases_eq g h) [
      | inl same ↦
          subst (λ k. HasBegunAs p new k (slice_index (slice_set ways h way) k)
          (slice_index (slice_set numbers h number) k))
          (sym same)
          (subst (λ n. HasBegunAs p new h n (slice_index (slice_set numbers h number) h))
          (sym (get_or-set_same ways h way 0 in_ways))
          (subst (λ n. HasBegunAs p new h way n) (sym (get_or-set_same numbers h number 0 in_numbers)) begun))
      | inr other ↦
          let earlier : g < h = omega arith in
          subst (λ n. HasBegunAs p new g n (slice_index (slice_set numbers h number) g))
          (sym (get_or-set_other ways h g way 0 other))
          (subst (λ n. HasBegunAs p new g (slice_index ways g) n) (sym (get_or-set_other numbers h g number 0 other))
          (still_begun p old new g (slice_index ways g) (slice_index numbers g) keeps (before g earlier)))
    ]

pub absent_more : (h number : ℕ) (numbers : List ℕ) → ((g : ℕ) → h ≤ g → slice_index numbers g ≡ 0)
    → (g : ℕ) → h + 1 ≤ g → slice_index (slice_set numbers h number) g ≡ 0
absent_more h number numbers absent g beyond =
    let other : g ≢ h = omega arith in get_or-set_other numbers h g number 0 other ∙ absent g (omega arith)
