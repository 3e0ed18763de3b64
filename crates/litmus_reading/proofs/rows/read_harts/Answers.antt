use Rattle.std.proofs.Common.{ap, arith, tests, length}
use Rattle.litmus_reading.proofs.Tables.{few_heads, heads_at_place, heads_cut, no_whole}
use Rattle.litmus_reading.proofs.rows.read_harts.Goals as goal

pub returns-then-row-words-clause-only : goal.returns-then-row-words-clause-only
returns-then-row-words-clause-only c = λ harts behind it few.
    no_whole c.args.words.now c.cut.result.0.now behind harts it
    (heads_cut c.args.words.now c.cut.result.0.now c.cut.result.1.now behind harts c.cut.ensures.cut c.cut.ensures.first
    it).0 c.if-row-words.true

pub returns-in-Some-clause-only : goal.returns-in-Some-clause-only
returns-in-Some-clause-only c = λ harts behind it few.
    few_heads c.args.words.now c.cut.result.0.now behind harts it
    (heads_cut c.args.words.now c.cut.result.0.now c.cut.result.1.now behind harts c.cut.ensures.cut c.cut.ensures.first
    it).0 few
    (grind (arith, tests, c.in-Some.ensures.lookup.0))

pub returns-in_err-check_head-clause-only : goal.returns-in_err-check_head-clause-only
returns-in_err-check_head-clause-only c = λ harts behind it few.
    absurd (c.in_err-check_head.ensures.only (heads_at_place c.args.words.now c.cut.result.0.now behind harts
    c.loop-place.place _ it
    (heads_cut c.args.words.now c.cut.result.0.now c.cut.result.1.now behind harts c.cut.ensures.cut c.cut.ensures.first
    it).0 c.loop-place-test.true))

pub returns-then-row-eq0-clause-only : goal.returns-then-row-eq0-clause-only
returns-then-row-eq0-clause-only c = λ harts behind it few.
    let same = ap length (heads_cut c.args.words.now c.cut.result.0.now c.cut.result.1.now behind harts
    c.cut.ensures.cut c.cut.ensures.first it).0 in
    omega (arith, same, it.count, c.if-row-eq0.true)

pub returns-clause-only : goal.returns-clause-only
returns-clause-only c = λ harts behind it few.
    let cut = heads_cut c.args.words.now c.cut.result.0.now c.cut.result.1.now behind harts
    c.cut.ensures.cut c.cut.ensures.first it in
    let same = ap length cut.0 in
    (omega (arith, same, it.count), cut.1)
