use Rattle.std.proofs.Common.{◌≡◌, ℕ, ◌+◌, ◌-◌, ◌/◌, ◌<◌, List, sym, ap, subst, ◌∙◌, arith}
use Rattle.source_lines.specs.Lines.{AreRising, line_for, origins_of}
use Rattle.source_lines.specs.declared.line.SourceLine.{SourceLine}
use Rattle.source_lines.proofs.Halving.{found, goes_down, goes_up, none_left}
use Rattle.source_lines.proofs.reading.SourceLines.line_at.Goals as goal

pub returns-then-line-address : goal.returns-then-line-address
returns-then-line-address c =
    let same : c.as_slice-lines.result.now ≡ c.args.self.now.lines.items = cc (c.as_slice-lines.ensures.value) in
    let rising = subst (λ (lines : List SourceLine). AreRising (origins_of lines)) (sym same) c.args.self.now.rising in
    let end = c.loop-low.invariant.end in
    let middle : ℕ = c.loop-low.low + (c.loop-low.high - c.loop-low.low) / 2 in
    let until : middle < c.loop-low.high = omega arith in
    sym (found c.as_slice-lines.result.now middle _ c.args.address rising (omega (arith, end, until)) c.if-line-address.true)
    ∙ ap (λ (lines : List SourceLine). line_for (origins_of lines) c.args.address) same

pub loop-low-preserved-then-line-address-2 : goal.loop-low-preserved-then-line-address-2
loop-low-preserved-then-line-address-2 c =
    let same : c.as_slice-lines.result.now ≡ c.args.self.now.lines.items = cc (c.as_slice-lines.ensures.value) in
    let rising = subst (λ (lines : List SourceLine). AreRising (origins_of lines)) (sym same) c.args.self.now.rising in
    let end = c.loop-low.invariant.end in
    let middle : ℕ = c.loop-low.low + (c.loop-low.high - c.loop-low.low) / 2 in
    let until : middle < c.loop-low.high = omega arith in
    goes_up c.as_slice-lines.result.now c.args.address c.loop-low.low c.loop-low.high middle _ rising c.loop-low.invariant
    (omega arith) until c.if-line-address-2.true

pub loop-low-preserved : goal.loop-low-preserved
loop-low-preserved c =
    let same : c.as_slice-lines.result.now ≡ c.args.self.now.lines.items = cc (c.as_slice-lines.ensures.value) in
    let rising = subst (λ (lines : List SourceLine). AreRising (origins_of lines)) (sym same) c.args.self.now.rising in
    let end = c.loop-low.invariant.end in
    let middle : ℕ = c.loop-low.low + (c.loop-low.high - c.loop-low.low) / 2 in
    let until : middle < c.loop-low.high = omega arith in
    goes_down c.as_slice-lines.result.now c.args.address c.loop-low.low c.loop-low.high middle _ rising c.loop-low.invariant
    (omega arith) until c.if-line-address.false c.if-line-address-2.false

pub returns : goal.returns
returns c =
    let same : c.as_slice-lines.result.now ≡ c.args.self.now.lines.items = cc (c.as_slice-lines.ensures.value) in
    sym (none_left c.as_slice-lines.result.now c.args.address c.loop-low.low c.loop-low.high c.loop-low.invariant
    c.loop-low-test.false)
    ∙ ap (λ (lines : List SourceLine). line_for (origins_of lines) c.args.address) same
