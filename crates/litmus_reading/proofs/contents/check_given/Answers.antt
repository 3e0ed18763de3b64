use Rattle.litmus_reading.proofs.Chains.{ok_both, ok_so}
use Rattle.litmus_reading.proofs.Fitted.{pointer_fits, width_fits, width_given}
use Rattle.litmus_reading.proofs.contents.check_given.Goals as goal

pub returns-then-given-clause-fits : goal.returns-then-given-clause-fits
returns-then-given-clause-fits c =
    ok_so c.check_pointer.result _ _ (λ none points. pointer_fits c.args.given c.args.words.now c.if-given.true points)
    c.check_pointer.ensures.points

pub returns-clause-fits : goal.returns-clause-fits
returns-clause-fits c =
    ok_both c.check_width.result _ _ _ (λ none within no_address.
    width_fits c.args.given c.args.words.now c.if-given.false within no_address)
    c.check_width.ensures.number c.check_width.ensures.address

pub returns-clause-only : goal.returns-clause-only
returns-clause-only c =
    width_given c.args.given c.args.words.now c.check_width.result c.if-given.false c.check_width.ensures.only_number
    c.check_width.ensures.only_address
