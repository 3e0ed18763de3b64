use Rattle.std.proofs.Common.{subst, sym}
use Rattle.litmus_reading.specs.Questions.{MayFilter, MayList}
use Rattle.litmus_reading.proofs.Chains.{passed_on}
use Rattle.litmus_reading.proofs.QuestionRead.{filter_first, list_first}
use Rattle.litmus_reading.proofs.question.read_before.Goals as goal

pub returns-in_err-filter-clause-only : goal.returns-in_err-filter-clause-only
returns-in_err-filter-clause-only c = λ has list whole filter rest before over no_list no_filter.
    let first = c.begins_with.ensures.yes c.if-begins_with.true in
    let it = filter_first _ _ first.0 has list whole filter rest first.1 over no_filter before in
    passed_on c.from_residual.result c.in_err-filter.field-0.0 _ _ c.from_residual.ensures.1
    (c.in_err-filter.ensures.only filter it.between it.taken it.over)

pub returns-in_err-has_list-clause-only : goal.returns-in_err-has_list-clause-only
returns-in_err-has_list-clause-only c = λ has list whole filter rest before over no_list no_filter.
    let first = c.begins_with.ensures.yes c.if-begins_with.true in
    let it = filter_first _ _ first.0 has list whole filter rest first.1 over no_filter before in
    let read = c.in_ok-filter.ensures.only filter it.between it.taken it.over in
    passed_on c.from_residual-in_err-has_list.result c.in_err-has_list.field-0.0 _ _
    c.from_residual-in_err-has_list.ensures.1 (c.in_err-has_list.ensures.only has list whole rest
    (subst (λ t. MayList c.args.asked.now.harts t has list whole rest) (sym read.1) it.list) no_list)

pub returns-then-begins_with-clause-only : goal.returns-then-begins_with-clause-only
returns-then-begins_with-clause-only c = λ has list whole filter rest before over no_list no_filter.
    let first = c.begins_with.ensures.yes c.if-begins_with.true in
    let it = filter_first _ _ first.0 has list whole filter rest first.1 over no_filter before in
    let read = c.in_ok-filter.ensures.only filter it.between it.taken it.over in
    let behind = c.in_ok-has_list.ensures.only has list whole rest
    (subst (λ t. MayList c.args.asked.now.harts t has list whole rest) (sym read.1) it.list) no_list in
    (behind.0, read.0, behind.1, behind.2, behind.3)

pub returns-in_err-has_list-2-clause-only : goal.returns-in_err-has_list-2-clause-only
returns-in_err-has_list-2-clause-only c = λ has list whole filter rest before over no_list no_filter.
    let it = list_first _ _ has list whole filter rest (c.begins_with.ensures.no c.if-begins_with.false) no_list before in
    passed_on c.from_residual-in_err-has_list-2.result c.in_err-has_list-2.field-0.0 _ _
    c.from_residual-in_err-has_list-2.ensures.1
    (c.in_err-has_list-2.ensures.only has list whole it.between it.list it.other)

pub returns-in_err-filter-2-clause-only : goal.returns-in_err-filter-2-clause-only
returns-in_err-filter-2-clause-only c = λ has list whole filter rest before over no_list no_filter.
    let it = list_first _ _ has list whole filter rest (c.begins_with.ensures.no c.if-begins_with.false) no_list before in
    let read = c.in_ok-has_list-2.ensures.only has list whole it.between it.list it.other in
    passed_on c.from_residual-in_err-filter-2.result c.in_err-filter-2.field-0.0 _ _
    c.from_residual-in_err-filter-2.ensures.1 (c.in_err-filter-2.ensures.only filter rest
    (subst (λ t. MayFilter c.args.asked.now.harts t filter rest) (sym read.1) it.filtered) over no_filter)

pub returns-clause-only : goal.returns-clause-only
returns-clause-only c = λ has list whole filter rest before over no_list no_filter.
    let it = list_first _ _ has list whole filter rest (c.begins_with.ensures.no c.if-begins_with.false) no_list before in
    let read = c.in_ok-has_list-2.ensures.only has list whole it.between it.list it.other in
    let behind = c.in_ok-filter-2.ensures.only filter rest
    (subst (λ t. MayFilter c.args.asked.now.harts t filter rest) (sym read.1) it.filtered) over no_filter in
    (read.0, behind.0, behind.1, read.2, read.3)
