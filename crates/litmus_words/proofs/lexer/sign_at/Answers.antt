use Rattle.std.proofs.Common.{arith}
use Rattle.std.proofs.lemmas.Option.{IfSome_then}
use Rattle.litmus_words.proofs.Once.{if_none_then, no_sign, under_three, under_two, within_three}
use Rattle.litmus_words.proofs.lexer.sign_at.Goals as goal

pub returns-in-Some-clause-longest : goal.returns-in-Some-clause-longest
returns-in-Some-clause-longest c = λ mark end inside is.
    let most = (within_three c.args.text.now c.args.at end mark inside is).1 in
    let here = c.in-Some.ensures.end in omega (arith, most, here)

pub returns-in-Some-sign_of_length-clause-longest : goal.returns-in-Some-sign_of_length-clause-longest
returns-in-Some-sign_of_length-clause-longest c = λ mark end inside is.
    let none = rw c.in_default.is at c.sign_of_length.ensures.none in
    let most = under_three c.args.text.now c.args.at end mark none inside is in
    let here = c.in-Some-sign_of_length.ensures.end in omega (arith, most, here)

pub returns-clause-longest : goal.returns-clause-longest
returns-clause-longest c =
    let none = rw c.in_default.is at c.sign_of_length.ensures.none in
    let none' = rw c.in_default-sign_of_length.is at c.sign_of_length-2.ensures.none in
    IfSome_then c.sign_of_length-3.result c.sign_of_length-3.ensures.end
    (λ p here. λ mark end inside is.
    let most = under_two c.args.text.now c.args.at end mark none none' inside is in omega (arith, most, here))

pub returns-clause-none : goal.returns-clause-none
returns-clause-none c =
    let none = rw c.in_default.is at c.sign_of_length.ensures.none in
    let none' = rw c.in_default-sign_of_length.is at c.sign_of_length-2.ensures.none in
    if_none_then c.sign_of_length-3.result c.sign_of_length-3.ensures.none
    (λ none''. λ mark end inside is. no_sign c.args.text.now c.args.at end mark none none' none'' inside is)
