use Rattle.std.proofs.Common.{sym, ◌∙◌}
use Rattle.litmus_cycles.proofs.Reasons.{said_incoherent, said_atomicity, said_nothing}
use Rattle.litmus_cycles.proofs.explaining.excluded.Goals as goal

pub returns-then-is_atomicity-clause-all : goal.returns-then-is_atomicity-clause-all
returns-then-is_atomicity-clause-all g c =
    let e = c.because.ensures in
    let r = c.requires in
    said_atomicity c.args.test.now c.args.runs.now c.args.none c.in_ok-coherent.coherent.shown
    c.because.result r.searched r.found r.fits e.candidates e.fitting e.whole e.shown
    (sym c.is_atomicity.ensures ∙ c.if-is_atomicity.true)

pub returns-then-is_incoherent-clause-all : goal.returns-then-is_incoherent-clause-all
returns-then-is_incoherent-clause-all g c =
    let e = c.because-then-is_incoherent.ensures in
    let r = c.requires in
    let s = c.in_ok-coherent.ensures in
    said_incoherent c.args.test.now c.args.runs.now c.args.none c.in_ok-coherent.coherent
    c.in_ok-writes.writes.shown c.because-then-is_incoherent.result r.searched r.found r.fits s.all s.found e.candidates e.fitting
    e.whole e.shown (sym c.is_incoherent.ensures ∙ c.if-is_incoherent.true)

pub returns-then-is_incoherent-2-clause-all : goal.returns-then-is_incoherent-2-clause-all
returns-then-is_incoherent-2-clause-all g c =
    let e = c.because-then-is_incoherent-2.ensures in
    let r = c.requires in
    let s = c.in_ok-coherent.ensures in
    said_incoherent c.args.test.now c.args.runs.now c.args.none c.in_ok-coherent.coherent
    c.in_ok-numbers.numbers.shown c.because-then-is_incoherent-2.result r.searched r.found r.fits s.all s.found
    e.candidates e.fitting e.whole e.shown (sym c.is_incoherent-2.ensures ∙ c.if-is_incoherent-2.true)

pub returns-clause-all : goal.returns-clause-all
returns-clause-all g c =
    let e = c.because-2.ensures in
    let r = c.requires in
    let s = c.in_ok-numbers.ensures in
    said_nothing c.args.test.now c.args.runs.now c.args.none c.in_ok-numbers.numbers c.because-2.result r.searched
    r.found r.fits s.all s.found e.candidates e.fitting e.whole e.shown
