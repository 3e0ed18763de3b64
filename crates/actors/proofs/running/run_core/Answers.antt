use Rattle.std.specs.Prelude.{◌≡◌, ◌⊎◌, IfErr}
use Rattle.std.proofs.Common.{sym, ◌∙◌, subst}
use Rattle.std.proofs.lemmas.Result.{IfOk-weaker, IfErr-weaker}
use Rattle.actors.specs.declared.refused.RunRefused.{RunRefused}
use Rattle.actors.specs.Counts.{HasRun}
use Rattle.core_lock.specs.declared.unlocked.Unlocked.{Unlocked}
use Rattle.actors.specs.declared.refused.RunRefused.TheVariants.{Memory, Thread}
use Rattle.core_lock.proofs.Telling.{told_counts}
use Rattle.actors.proofs.running.run_core.Goals as goal

-- Why a run is refused that has a core.
abbrev IsLate : RunRefused → Type 0
IsLate why = (why ≡ Memory) ⊎ (why ≡ Thread)

pub returns-clause-ran : goal.returns-clause-ran
returns-clause-ran g c =
    let finished = c.unlock.ensures in
    let setup = finished.origin.0 ∙ sym c.requires.origin.0 in
    let is_run : HasRun c.args.core c.unlock.result.finished = record {
      setup = setup;
      limit = finished.origin.1 ∙ sym c.requires.origin.1;
      own = finished.own.1 (setup ∙ c.requires.image);
      counted = finished.sum;
      told = λ told. told_counts (λ p. p.actor) (λ p. p.count) (λ p. p.last) _ _ _ finished.counts (finished.told.0 told);
      shown = finished.shown;
    } in
    IfOk-weaker c.only_if.result _ _ (λ same is. subst (λ (u : Unlocked). HasRun c.args.core u.finished) (sym is) is_run)
    c.only_if.ensures.unlocked

pub returns-clause-refused : goal.returns-clause-refused
returns-clause-refused g c =
    IfErr-weaker c.only_if.result _ _ (λ why is. subst (λ started. IfErr started IsLate) is c.start-started.ensures)
    c.only_if.ensures.refused
