use Rattle.std.proofs.Common.{arith, refl}
use Rattle.std.proofs.lemmas.List.Elements.{All-nil, All-push}
use Rattle.litmus_words.specs.Words.{IsWordOf}
use Rattle.litmus_words.proofs.Ending.{closed_there}
use Rattle.litmus_words.proofs.Standing.{all_found, first_end, first_word, goes_behind, last_word, moved, next_word, none_left, one_less}
use Rattle.litmus_words.proofs.lexer.words_of.Goals as goal

pub loop-at-init : goal.loop-at-init
loop-at-init c =
    rw c.new-words.ensures.items (record {
      inside = c.in_ok-at.ensures.inside;
      words = All-nil (IsWordOf c.args.text.now);
      stand = first_word c.args.text.now c.args.from c.in_ok-at.at c.in_ok-at.ensures.gap;
      over = c.in_ok-at.ensures.over;
      only = λ all stand. record {
        rest = all;
        is = refl;
        stand = moved c.args.text.now c.args.from c.in_ok-at.at all stand c.in_ok-at.ensures.only;
      };
    })

pub loop-at-preserved : goal.loop-at-preserved
loop-at-preserved c = record {
  inside = c.in_ok-at-2.ensures.inside;
  words = rw c.in_ok-push.ensures.items (All-push (IsWordOf c.args.text.now) c.loop-at.words.items c.in_ok-word.word
      c.loop-at.invariant.words c.in_ok-word.ensures.spelled);
  stand = next_word c.args.text.now c.args.from c.loop-at.at c.in_ok-at-2.at c.loop-at.words.items
      c.push.new.self.items c.in_ok-word.word c.loop-at.invariant.stand c.in_ok-word.ensures.begins
      c.in_ok-word.ensures.start c.in_ok-word.ensures.inside c.in_ok-word.ensures.spelled c.in_ok-at-2.ensures.gap
      c.in_ok-push.ensures.items;
  over = c.in_ok-at-2.ensures.over;
  only = λ all stand. one_less c.args.text.now c.loop-at.at c.in_ok-at-2.at c.loop-at.words.items c.push.new.self.items all
      c.in_ok-word.word c.loop-at-test.true c.loop-at.invariant.over c.in_ok-word.ensures.begins c.in_ok-word.ensures.start
      c.in_ok-word.ensures.inside c.in_ok-word.ensures.spelled c.in_ok-at-2.ensures.only c.in_ok-push.ensures.items
      (c.loop-at.invariant.only all stand);
}

pub returns-clause-stand : goal.returns-clause-stand
returns-clause-stand c =
    last_word c.args.text.now c.args.from c.loop-at.at c.loop-at.words.items
    (omega (arith, c.loop-at-test.false, c.loop-at.invariant.inside)) c.loop-at.invariant.stand

pub returns-clause-only : goal.returns-clause-only
returns-clause-only c = λ all stand.
    let h = c.loop-at.invariant.only all stand in
    all_found c.args.text.now c.loop-at.at c.loop-at.words.items all h.rest c.loop-at-test.false h.is h.stand

pub returns-in_err-at-clause-only : goal.returns-in_err-at-clause-only
returns-in_err-at-clause-only c = λ all stand.
    let first = first_end c.args.text.now c.args.from all stand in absurd (c.in_err-at.ensures.only first.0 first.1 first.2)

pub returns-in_err-word-clause-only : goal.returns-in_err-word-clause-only
returns-in_err-word-clause-only c = λ all stand.
    absurd (none_left c.args.text.now c.loop-at.at c.loop-at.words.items all c.loop-at-test.true c.loop-at.invariant.over
    c.in_err-word.ensures.refused (c.loop-at.invariant.only all stand))

pub returns-in_err-at-2-clause-only : goal.returns-in_err-at-2-clause-only
returns-in_err-at-2-clause-only c = λ all stand.
    let next = goes_behind c.args.text.now c.loop-at.at c.loop-at.words.items all c.in_ok-word.word c.loop-at-test.true
    c.loop-at.invariant.over c.in_ok-word.ensures.begins c.in_ok-word.ensures.start c.in_ok-word.ensures.inside
    c.in_ok-word.ensures.spelled (c.loop-at.invariant.only all stand) in
    absurd (c.in_err-at-2.ensures.only next.0 next.1 next.2)

pub word_at-requires-clause-no_comment : goal.word_at-requires-clause-no_comment
word_at-requires-clause-no_comment c =
    closed_there c.args.text.now c.loop-at.at c.loop-at-test.true c.loop-at.invariant.over
