use Rattle.std.proofs.Common.{ℕ, List, refl, ap, ◌∙◌}
use Rattle.std.proofs.lemmas.List.{get_or-replicate}
use Rattle.litmus_tests.specs.declared.test.RegisterStart.{RegisterStart}
use Rattle.litmus_runs.specs.Ways.{started}
use Rattle.litmus_runs.proofs.hart.Hart.new.Goals as goal

pub returns-clause-start : goal.returns-clause-start
returns-clause-start c = record {
  registers = λ r below. c.write_starts.ensures r below
      ∙ ap (λ (n : ℕ). started c.as_slice.result.now r n) (get_or-replicate 32 r 0 0 below)
      ∙ ap (λ (xs : List RegisterStart). started xs r 0) c.as_slice.ensures.value;
  accesses = c.new.ensures.items;
  next = refl;
  reserved = refl;
  reserving = refl;
}
