use Rattle.std.proofs.Common.{[], ◌∷◌, arith, subst, sym}
use Rattle.litmus_words.specs.declared.word.Token.TheVariants.{Mark}
use Rattle.litmus_words.specs.declared.word.Mark.TheVariants as mark
use Rattle.litmus_words.specs.Tokens.{Takes}
use Rattle.litmus_words.proofs.Taking.{shorter_by}
use Rattle.litmus_reading.proofs.AloneRead.{grouped_as, grouped_read, leaf_read, negated_as, negated_read}
use Rattle.litmus_reading.proofs.Chains.{passed_on}
use Rattle.litmus_reading.proofs.ImpliedRead.{implied_alone, implied_as, implied_stops, right_side}
use Rattle.litmus_reading.proofs.Conditions.{at_higher, conjoined, disjoined, implied, in_parentheses, made_equivalent, of_negation}
use Rattle.litmus_reading.proofs.Connectives.{conjoins, conjoins_first, conjoins_so, disjoins, disjoins_first, disjoins_so, equates, equates_first, equates_so}
use Rattle.litmus_reading.proofs.JoinedRead.{begun_left, first_stops, more_left, next_stops, none_left}
use Rattle.litmus_reading.proofs.condition.+condition.Goals as goal

pub read_alone-returns-in-Some-clause-taken : goal.read_alone-returns-in-Some-clause-taken
read_alone-returns-in-Some-clause-taken t c =
    of_negation _ _ _ _ _ _ _ _ _ _ c.in_ok-room.ensures.less c.in-Some.ensures.spelled c.in_ok-inner.ensures.taken
    c.in_ok-negation.ensures

pub read_alone-returns-in-Some-behind_mark-clause-taken : goal.read_alone-returns-in-Some-behind_mark-clause-taken
read_alone-returns-in-Some-behind_mark-clause-taken t c =
    in_parentheses _ _ _ _ _ _ _ _ _ _ c.in_ok-room-2.ensures.less c.in-Some-behind_mark.ensures.spelled
    c.in_ok-inner-2.ensures.taken c.in_ok-rest.ensures.spelled

pub read_both-loop-behind-init : goal.read_both-loop-behind-init
read_both-loop-behind-init t c =
    begun_left conjoins conjoins_so conjoins_first _ _ _ _ _ _ _
    (at_higher _ 0 1 _ _ _ _ _ _ (omega arith) c.in_ok-condition.ensures.taken) c.in_ok-condition.ensures.only

pub read_both-loop-behind-preserved : goal.read_both-loop-behind-preserved
read_both-loop-behind-preserved t c =
    more_left conjoins conjoins_so _ _ _ _ _ _ _ _ _ _ _ _ c.loop-behind.invariant c.in-Some.ensures.spelled
    c.in_ok-right.ensures.only c.in_ok-condition-2.ensures
    (conjoined _ _ _ _ _ _ _ _ _ _ _ _ c.loop-behind.invariant.taken c.in-Some.ensures.spelled
    c.in_ok-right.ensures.taken c.in_ok-condition-2.ensures)

pub read_either-loop-behind-init : goal.read_either-loop-behind-init
read_either-loop-behind-init t c =
    begun_left disjoins disjoins_so disjoins_first _ _ _ _ _ _ _
    (at_higher _ 1 2 _ _ _ _ _ _ (omega arith) c.in_ok-condition.ensures.taken) c.in_ok-condition.ensures.only

pub read_either-loop-behind-preserved : goal.read_either-loop-behind-preserved
read_either-loop-behind-preserved t c =
    more_left disjoins disjoins_so _ _ _ _ _ _ _ _ _ _ _ _ c.loop-behind.invariant c.in-Some.ensures.spelled
    c.in_ok-right.ensures.only c.in_ok-condition-2.ensures
    (disjoined _ _ _ _ _ _ _ _ _ _ _ _ c.loop-behind.invariant.taken c.in-Some.ensures.spelled
    c.in_ok-right.ensures.taken c.in_ok-condition-2.ensures)

pub read_implied-returns-clause-taken : goal.read_implied-returns-clause-taken
read_implied-returns-clause-taken t c =
    implied _ _ _ _ _ _ _ _ _ _ _ _ c.in_ok-left.ensures.taken c.in-Some.ensures.spelled c.in_ok-right.ensures.taken
    c.in_ok-whole.ensures

pub read_implied-returns-in_default-clause-taken : goal.read_implied-returns-in_default-clause-taken
read_implied-returns-in_default-clause-taken t c =
    at_higher _ 2 3 _ _ _ _ _ _ (omega arith) c.in_ok-left.ensures.taken

pub read_condition-loop-behind-init : goal.read_condition-loop-behind-init
read_condition-loop-behind-init t c =
    begun_left equates equates_so equates_first _ _ _ _ _ _ _
    (at_higher _ 3 4 _ _ _ _ _ _ (omega arith) c.in_ok-condition.ensures.taken) c.in_ok-condition.ensures.only

pub read_condition-loop-behind-preserved : goal.read_condition-loop-behind-preserved
read_condition-loop-behind-preserved t c =
    more_left equates equates_so _ _ _ _ _ _ _ _ _ _ _ _ c.loop-behind.invariant c.in-Some.ensures.spelled
    c.in_ok-right.ensures.only c.in_ok-condition-2.ensures
    (made_equivalent _ _ _ _ _ _ _ _ _ _ _ _ c.loop-behind.invariant.taken c.in-Some.ensures.spelled
    c.in_ok-right.ensures.taken c.in_ok-condition-2.ensures)

pub read_alone-returns-in_err-room-clause-only : goal.read_alone-returns-in_err-room-clause-only
read_alone-returns-in_err-room-clause-only t c = λ syntax condition rest it.
    let so = negated_read _ _ _ _ _ rest syntax condition c.in-Some.ensures.spelled it in
    absurd (c.in_err-room.ensures.only so.some)

pub read_alone-returns-in_err-inner-clause-only : goal.read_alone-returns-in_err-inner-clause-only
read_alone-returns-in_err-inner-clause-only t c = λ syntax condition rest it.
    let so = negated_read _ _ _ _ _ rest syntax condition c.in-Some.ensures.spelled it in
    passed_on c.from_residual-in_err-inner.result c.in_err-inner.field-0.0 _ _ c.from_residual-in_err-inner.ensures.1
    (c.in_err-inner.ensures.only so.inner so.denied rest (so.can _ c.in_ok-room.ensures.less))

pub read_alone-returns-in-Some-clause-only : goal.read_alone-returns-in-Some-clause-only
read_alone-returns-in-Some-clause-only t c = λ syntax condition rest it.
    let so = negated_read _ _ _ _ _ rest syntax condition c.in-Some.ensures.spelled it in
    negated_as _ _ _ _ _ rest _ syntax condition _ _ so
    (c.in_ok-inner.ensures.only so.inner so.denied rest (so.can _ c.in_ok-room.ensures.less)) c.in_ok-negation.ensures

pub read_alone-returns-in_err-room-2-clause-only : goal.read_alone-returns-in_err-room-2-clause-only
read_alone-returns-in_err-room-2-clause-only t c = λ syntax condition rest it.
    let so = grouped_read _ _ _ _ _ rest syntax condition c.in-Some-behind_mark.ensures.spelled it in
    absurd (c.in_err-room-2.ensures.only so.some)

pub read_alone-returns-in_err-inner-2-clause-only : goal.read_alone-returns-in_err-inner-2-clause-only
read_alone-returns-in_err-inner-2-clause-only t c = λ syntax condition rest it.
    let so = grouped_read _ _ _ _ _ rest syntax condition c.in-Some-behind_mark.ensures.spelled it in
    passed_on c.from_residual-in_err-inner-2.result c.in_err-inner-2.field-0.0 _ _
    c.from_residual-in_err-inner-2.ensures.1
    (c.in_err-inner-2.ensures.only so.inner condition so.last (so.can _ c.in_ok-room-2.ensures.less))

pub read_alone-returns-in_err-rest-clause-only : goal.read_alone-returns-in_err-rest-clause-only
read_alone-returns-in_err-rest-clause-only t c = λ syntax condition rest it.
    let so = grouped_read _ _ _ _ _ rest syntax condition c.in-Some-behind_mark.ensures.spelled it in
    let read = c.in_ok-inner-2.ensures.only so.inner condition so.last (so.can _ c.in_ok-room-2.ensures.less) in
    absurd (c.in_err-rest.ensures.only rest (subst (λ t. Takes t (Mark mark.RightParenthesis ∷ []) rest)
    (sym read.left) so.closes))

pub read_alone-returns-in-Some-behind_mark-clause-only : goal.read_alone-returns-in-Some-behind_mark-clause-only
read_alone-returns-in-Some-behind_mark-clause-only t c = λ syntax condition rest it.
    let so = grouped_read _ _ _ _ _ rest syntax condition c.in-Some-behind_mark.ensures.spelled it in
    grouped_as _ _ _ _ _ rest _ _ syntax condition _ so
    (c.in_ok-inner-2.ensures.only so.inner condition so.last (so.can _ c.in_ok-room-2.ensures.less))
    c.in_ok-rest.ensures.spelled

pub read_alone-returns-clause-only : goal.read_alone-returns-clause-only
read_alone-returns-clause-only t c = λ syntax condition rest it.
    c.read_leaf.ensures.only syntax condition rest
    (leaf_read _ _ _ _ rest syntax condition c.in_default.ensures.only c.in_default-behind_mark.ensures.only it)

pub read_implied-returns-in_err-left-clause-only : goal.read_implied-returns-in_err-left-clause-only
read_implied-returns-in_err-left-clause-only t c = λ syntax whole end can.
    implied_stops _ _ _ _ c.in_err-left.field-0.0 c.from_residual.result _ c.in_err-left.ensures.only
    c.from_residual.ensures.1 syntax whole end _ can

pub read_implied-returns-in_default-clause-only : goal.read_implied-returns-in_default-clause-only
read_implied-returns-in_default-clause-only t c =
    implied_alone _ _ _ _ _ _ _ c.in_ok-left.ensures.only c.in_default.ensures.only

pub read_implied-read_implied-requires : goal.read_implied-read_implied-requires
read_implied-read_implied-requires t c =
    let long = shorter_by _ _ _ c.in_ok-left.ensures.taken.takes in let less = c.in-Some.ensures.shorter in
    omega (arith, long, less)

pub read_implied-returns-in_err-right-clause-only : goal.read_implied-returns-in_err-right-clause-only
read_implied-returns-in_err-right-clause-only t c = λ syntax whole end can.
    let right = right_side _ _ _ _ _ _ _ _ c.in_ok-left.ensures.only c.in-Some.ensures.spelled syntax whole end can in
    passed_on c.from_residual-in_err-right.result c.in_err-right.field-0.0 _ _ c.from_residual-in_err-right.ensures.1
    (c.in_err-right.ensures.only right.so.right right.so.second end right.can)

pub read_implied-returns-clause-only : goal.read_implied-returns-clause-only
read_implied-returns-clause-only t c = λ syntax whole end can.
    let right = right_side _ _ _ _ _ _ _ _ c.in_ok-left.ensures.only c.in-Some.ensures.spelled syntax whole end can in
    implied_as _ _ _ _ _ _ end _ syntax whole _ _ _ right.so right.same right.is
    (c.in_ok-right.ensures.only right.so.right right.so.second end right.can) c.in_ok-whole.ensures

pub read_both-returns-in_err-condition-clause-only : goal.read_both-returns-in_err-condition-clause-only
read_both-returns-in_err-condition-clause-only t c = λ syntax whole end can.
    first_stops conjoins conjoins_so conjoins_first _ _ _ _ c.in_err-condition.field-0.0 c.from_residual.result _
    c.in_err-condition.ensures.only c.from_residual.ensures.1 syntax whole end _ can

pub read_both-read_alone-requires-in-Some : goal.read_both-read_alone-requires-in-Some
read_both-read_alone-requires-in-Some t c =
    let long = shorter_by _ _ _ c.loop-behind.invariant.taken.takes in let less = c.in-Some.ensures.shorter in
    omega (arith, long, less)

pub read_both-returns-in_err-right-clause-only : goal.read_both-returns-in_err-right-clause-only
read_both-returns-in_err-right-clause-only t c = λ syntax whole end can.
    next_stops conjoins conjoins_so _ _ _ _ _ _ _ _ c.in_err-right.field-0.0 c.from_residual-in_err-right.result _
    c.loop-behind.invariant c.in-Some.ensures.spelled c.in_err-right.ensures.only
    c.from_residual-in_err-right.ensures.1 syntax whole end _ can

pub read_both-loop-behind-smaller : goal.read_both-loop-behind-smaller
read_both-loop-behind-smaller t c =
    let long = shorter_by _ _ _ c.in_ok-right.ensures.taken.takes in let less = c.in-Some.ensures.shorter in
    omega (arith, long, less)

pub read_both-returns-clause-taken : goal.read_both-returns-clause-taken
read_both-returns-clause-taken t c = c.loop-behind.invariant.taken

pub read_both-returns-clause-only : goal.read_both-returns-clause-only
read_both-returns-clause-only t c =
    none_left conjoins conjoins_so _ _ _ _ _ _ _ c.loop-behind.invariant c.in_default.ensures.only

pub read_either-returns-in_err-condition-clause-only : goal.read_either-returns-in_err-condition-clause-only
read_either-returns-in_err-condition-clause-only t c = λ syntax whole end can.
    first_stops disjoins disjoins_so disjoins_first _ _ _ _ c.in_err-condition.field-0.0 c.from_residual.result _
    c.in_err-condition.ensures.only c.from_residual.ensures.1 syntax whole end _ can

pub read_either-read_both-requires-in-Some : goal.read_either-read_both-requires-in-Some
read_either-read_both-requires-in-Some t c =
    let long = shorter_by _ _ _ c.loop-behind.invariant.taken.takes in let less = c.in-Some.ensures.shorter in
    omega (arith, long, less)

pub read_either-returns-in_err-right-clause-only : goal.read_either-returns-in_err-right-clause-only
read_either-returns-in_err-right-clause-only t c = λ syntax whole end can.
    next_stops disjoins disjoins_so _ _ _ _ _ _ _ _ c.in_err-right.field-0.0 c.from_residual-in_err-right.result _
    c.loop-behind.invariant c.in-Some.ensures.spelled c.in_err-right.ensures.only
    c.from_residual-in_err-right.ensures.1 syntax whole end _ can

pub read_either-loop-behind-smaller : goal.read_either-loop-behind-smaller
read_either-loop-behind-smaller t c =
    let long = shorter_by _ _ _ c.in_ok-right.ensures.taken.takes in let less = c.in-Some.ensures.shorter in
    omega (arith, long, less)

pub read_either-returns-clause-taken : goal.read_either-returns-clause-taken
read_either-returns-clause-taken t c = c.loop-behind.invariant.taken

pub read_either-returns-clause-only : goal.read_either-returns-clause-only
read_either-returns-clause-only t c =
    none_left disjoins disjoins_so _ _ _ _ _ _ _ c.loop-behind.invariant c.in_default.ensures.only

pub read_condition-returns-in_err-condition-clause-only : goal.read_condition-returns-in_err-condition-clause-only
read_condition-returns-in_err-condition-clause-only t c = λ syntax whole end can.
    first_stops equates equates_so equates_first _ _ _ _ c.in_err-condition.field-0.0 c.from_residual.result _
    c.in_err-condition.ensures.only c.from_residual.ensures.1 syntax whole end _ can

pub read_condition-read_implied-requires-in-Some : goal.read_condition-read_implied-requires-in-Some
read_condition-read_implied-requires-in-Some t c =
    let long = shorter_by _ _ _ c.loop-behind.invariant.taken.takes in let less = c.in-Some.ensures.shorter in
    omega (arith, long, less)

pub read_condition-returns-in_err-right-clause-only : goal.read_condition-returns-in_err-right-clause-only
read_condition-returns-in_err-right-clause-only t c = λ syntax whole end can.
    next_stops equates equates_so _ _ _ _ _ _ _ _ c.in_err-right.field-0.0 c.from_residual-in_err-right.result _
    c.loop-behind.invariant c.in-Some.ensures.spelled c.in_err-right.ensures.only
    c.from_residual-in_err-right.ensures.1 syntax whole end _ can

pub read_condition-loop-behind-smaller : goal.read_condition-loop-behind-smaller
read_condition-loop-behind-smaller t c =
    let long = shorter_by _ _ _ c.in_ok-right.ensures.taken.takes in let less = c.in-Some.ensures.shorter in
    omega (arith, long, less)

pub read_condition-returns-clause-taken : goal.read_condition-returns-clause-taken
read_condition-returns-clause-taken t c = c.loop-behind.invariant.taken

pub read_condition-returns-clause-only : goal.read_condition-returns-clause-only
read_condition-returns-clause-only t c =
    none_left equates equates_so _ _ _ _ _ _ _ c.loop-behind.invariant c.in_default.ensures.only
