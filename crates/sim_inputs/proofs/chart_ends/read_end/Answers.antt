use Rattle.std.proofs.Common.{arith, None, Some}
use Rattle.std.proofs.lemmas.Bool.Decides.{nat_tests}
use Rattle.std.proofs.lemmas.Str.Pattern.{strip_prefix_char, strip_suffix_char}
use Rattle.sim_inputs.specs.ChartEnds.{IsEndOf}
use Rattle.sim_inputs.proofs.ChartEnds.{empty_says_none, finds_none, nameless_says_none, unended_says_none, unquoted_says_none}
use Rattle.sim_inputs.proofs.chart_ends.read_end.Goals as goal

pub returns-then-is_empty : goal.returns-then-is_empty
returns-then-is_empty c =
    empty_says_none c.args.word.now c.args.greatest (let empty = c.if-is_empty.ensures in grind (arith, nat_tests))

pub returns-in_err-strip_prefix : goal.returns-in_err-strip_prefix
returns-in_err-strip_prefix c =
    finds_none (IsEndOf c.args.word.now c.args.greatest) _ c.from_residual-in_err-strip_prefix.ensures
    (unquoted_says_none c.args.word.now c.args.greatest (grind arith)
    (strip_prefix_char 39 c.args.word.now None c.in_err-strip_prefix.ensures.cases (omega arith)))

pub returns-in_err-name : goal.returns-in_err-name
returns-in_err-name c =
    let quoted = c.in_ok-strip_prefix.field-0 in
    finds_none (IsEndOf c.args.word.now c.args.greatest) _ c.from_residual-in_err-name.ensures
    (unended_says_none c.args.word.now quoted.now c.args.greatest (grind arith)
    (strip_prefix_char 39 c.args.word.now (Some quoted) c.in_ok-strip_prefix.ensures.cases (omega arith))
    (strip_suffix_char 39 quoted.now None c.in_err-name.ensures.cases (omega arith)))

pub returns-then-is_empty-2 : goal.returns-then-is_empty-2
returns-then-is_empty-2 c =
    let quoted = c.in_ok-strip_prefix.field-0 in
    let name = c.in_ok-name.name in
    nameless_says_none c.args.word.now quoted.now name.now c.args.greatest (grind arith)
    (strip_prefix_char 39 c.args.word.now (Some quoted) c.in_ok-strip_prefix.ensures.cases (omega arith))
    (strip_suffix_char 39 quoted.now (Some name) c.in_ok-name.ensures.cases (omega arith))
    (let empty = c.if-is_empty-2.ensures in grind (arith, nat_tests))
