use Rattle.litmus_words.specs.declared.word.Token.TheVariants.{Register, Mark}
use Rattle.litmus_words.specs.declared.word.Mark.TheVariants as mark
use Rattle.litmus_words.proofs.Only.{moved_one}
use Rattle.litmus_reading.proofs.Entries.{of_register}
use Rattle.litmus_reading.proofs.EntryRead.{moved_given, register_parts}
use Rattle.litmus_reading.proofs.start.read_register.Goals as goal

pub returns-clause-taken : goal.returns-clause-taken
returns-clause-taken c =
    of_register _ _ _ _ _ _ _ _ c.in_ok-hart.ensures.taken c.in_ok-rest.ensures.spelled c.in_ok-register.ensures.spelled
    c.in_ok-register.ensures.other c.in_ok-rest-2.ensures.spelled c.in_ok-value.ensures.taken

pub returns-in_err-hart-clause-only : goal.returns-in_err-hart-clause-only
returns-in_err-hart-clause-only c = λ start rest taken no_index no_offset.
    let parts = register_parts c.args.given c.args.words.now rest start taken in
    absurd (c.in_err-hart.ensures.only start.hart parts.a parts.hart)

pub returns-in_err-register-clause-only : goal.returns-in_err-register-clause-only
returns-in_err-register-clause-only c = λ start rest taken no_index no_offset.
    let parts = register_parts c.args.given c.args.words.now rest start taken in
    let hart = c.in_ok-hart.ensures.only start.hart parts.a parts.hart in
    let colon = c.in_ok-rest.ensures.only parts.b
    (moved_one c.in_ok-hart.rest.now parts.a parts.b (Mark mark.Colon) hart.1 parts.colon) in
    absurd (c.in_err-register.ensures.only start.register parts.c
    (moved_one c.in_ok-rest.rest.now parts.b parts.c (Register start.register) colon parts.register) parts.other)

pub returns-in_err-value-clause-only : goal.returns-in_err-value-clause-only
returns-in_err-value-clause-only c = λ start rest taken no_index no_offset.
    let parts = register_parts c.args.given c.args.words.now rest start taken in
    let hart = c.in_ok-hart.ensures.only start.hart parts.a parts.hart in
    let colon = c.in_ok-rest.ensures.only parts.b
    (moved_one c.in_ok-hart.rest.now parts.a parts.b (Mark mark.Colon) hart.1 parts.colon) in
    let register = c.in_ok-register.ensures.only start.register parts.c
    (moved_one c.in_ok-rest.rest.now parts.b parts.c (Register start.register) colon parts.register) parts.other in
    let equals = c.in_ok-rest-2.ensures.only parts.d
    (moved_one c.in_ok-register.rest.now parts.c parts.d (Mark mark.Equals) register.1 parts.equals) in
    absurd (c.in_err-value.ensures.only start.value rest
    (moved_given c.args.given c.in_ok-rest-2.rest.now parts.d rest start.value equals parts.value) no_index no_offset)

pub returns-clause-only : goal.returns-clause-only
returns-clause-only c = λ start rest taken no_index no_offset.
    let parts = register_parts c.args.given c.args.words.now rest start taken in
    let hart = c.in_ok-hart.ensures.only start.hart parts.a parts.hart in
    let colon = c.in_ok-rest.ensures.only parts.b
    (moved_one c.in_ok-hart.rest.now parts.a parts.b (Mark mark.Colon) hart.1 parts.colon) in
    let register = c.in_ok-register.ensures.only start.register parts.c
    (moved_one c.in_ok-rest.rest.now parts.b parts.c (Register start.register) colon parts.register) parts.other in
    let equals = c.in_ok-rest-2.ensures.only parts.d
    (moved_one c.in_ok-register.rest.now parts.c parts.d (Mark mark.Equals) register.1 parts.equals) in
    let held = c.in_ok-value.ensures.only start.value rest
    (moved_given c.args.given c.in_ok-rest-2.rest.now parts.d rest start.value equals parts.value) no_index no_offset in
    (hart.0, register.0, held.0, held.1)
