use Rattle.std.proofs.Common.{◌∙◌, sym, refl}
use Rattle.litmus_runs.specs.declared.finding.Found.{Found}
use Rattle.litmus_runs.proofs.Finds.{written_or_failed, located}
use Rattle.litmus_runs.proofs.finding.conditional.Goals as goal

pub returns-clause-all : goal.returns-clause-all
returns-clause-all c = λ (one : Found) number told holds only.
    rw (c.in_ok-push-2.ensures.items, c.in_ok-push.ensures.items, c.new-all.ensures.items)
    (written_or_failed c.args.location c.held_at.result c.found_at.result one c.held_at.ensures.number
    c.held_at.ensures.held c.held_at.ensures.location c.found_at.ensures.number c.found_at.ensures.held
    c.found_at.ensures.location number
    (located one.location c.args.location (told ∙ sym c.holds_word.ensures ∙ c.if-not-holds_word.false) only) one.held refl)
