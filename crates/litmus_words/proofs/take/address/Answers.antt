use Rattle.std.proofs.Common.{◌≡◌, List, sym, subst}
use Rattle.litmus_words.specs.declared.word.{Word.Word, Declared.Declared}
use Rattle.litmus_words.specs.declared.word.Token.TheVariants.{Mark}
use Rattle.litmus_words.specs.declared.word.Mark.TheVariants as mark
use Rattle.litmus_words.proofs.Only.{address_parts, by_nothing, moved_one, turned}
use Rattle.litmus_words.proofs.Taking.{of_location, of_offset, of_element}
use Rattle.litmus_words.proofs.take.address.Goals as goal

pub returns-in-Some-clause-taken : goal.returns-in-Some-clause-taken
returns-in-Some-clause-taken c =
    of_offset _ _ _ _ _ _ _ c.in_ok-declared.ensures.taken c.in-Some.ensures.spelled c.in_ok-offset.ensures.taken
    c.in_ok-byte.ensures.inside c.in_ok-byte.ensures.byte

pub returns-then-begins_with-clause-taken : goal.returns-then-begins_with-clause-taken
returns-then-begins_with-clause-taken c =
    of_element _ _ _ _ _ _ _ c.in_ok-declared.ensures.taken c.in_ok-element.ensures.spelled
    c.in_ok-element.ensures.array c.in_ok-element.ensures.inside c.bytes_before-offset.ensures c.in_ok-byte-2.ensures.byte

pub returns-clause-taken : goal.returns-clause-taken
returns-clause-taken c = of_location _ _ _ c.in_ok-declared.ensures.taken

pub returns-in_err-declared-clause-only : goal.returns-in_err-declared-clause-only
returns-in_err-declared-clause-only c = λ byte rest taken no_index no_offset.
    absurd (c.in_err-declared.ensures.only _ _ (address_parts _ _ _ taken).name)

pub returns-clause-only : goal.returns-clause-only
returns-clause-only c = λ byte rest taken no_index no_offset.
    let parts = address_parts c.args.words.now rest byte taken in
    let same = c.in_ok-declared.ensures.only parts.declared parts.behind parts.name in
    subst (λ (p : Declared × List Word). (p.0.byte ≡ byte) × (p.1 ≡ rest)) (λ k. (sym same.0 k, sym same.1 k))
    (turned byte parts.declared rest parts.behind (by_nothing parts.behind rest parts.declared byte
    (λ after plus. c.in_default.ensures.only after
    (moved_one c.in_ok-declared.rest.now parts.behind after (Mark mark.Plus) same.1 plus))
    (λ after opens. c.begins_with.ensures.no c.if-begins_with.false after
    (moved_one c.in_ok-declared.rest.now parts.behind after (Mark mark.LeftBracket) same.1 opens)) parts.on))
