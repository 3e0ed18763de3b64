-- What the parts decode is what the history allows to be decoded.
use Rattle.std.proofs.Common.{◌≡◌, true, None, subst, arith}
use Rattle.events.specs.declared.event.Event.TheVariants.{Decode}
use Rattle.smt_model.specs.{Fates.is_of, Asks.AskDecode, Asks.answers, Rules.refused, Jobs.is_actor}
use Rattle.core_state.specs.{Answers.AllowsNone, State.past_of, State.setup_in, View.CoreView}
use Rattle.core_state.proofs.Steps.Decode.Rules.{decode_idle}
use Rattle.core_state.proofs.Steps.Decode.State.{decode_in, decode_ok, decode_answers, decode_owns}
use Rattle.core_state.proofs.Steps.Decode.State.{none_decodes}
use Rattle.core_state.proofs.state.State.decode.Goals as goal

pub returns-then-not-has_actor-clause-idle : goal.returns-then-not-has_actor-clause-idle
returns-then-not-has_actor-clause-idle c =
    let i = c.self.inside in
    let tested = c.has_actor.ensures in
    let none = c.if-not-has_actor.true in
    subst (λ (v : CoreView). AllowsNone v.setup (AskDecode c.args.actor c.args.hart) v.past) c.self.view_is
    (decode_idle (setup_in i) (past_of i) c.self.invariant.legal c.args.actor c.args.hart (λ is_one there s can.
    let seen = subst (λ (v : CoreView). is_actor v.setup c.args.actor ≡ true) c.self.view_is is_one in
    absurd (grind arith)))

pub returns-in_err-seq-clause-idle : goal.returns-in_err-seq-clause-idle
returns-in_err-seq-clause-idle c =
    let i = c.self.inside in
    rw c.from_residual.ensures
    (subst (λ (v : CoreView). AllowsNone v.setup (AskDecode c.args.actor c.args.hart) v.past) c.self.view_is
    (decode_idle (setup_in i) (past_of i) c.self.invariant.legal c.args.actor c.args.hart
    (none_decodes i c.self.invariant c.args.actor c.args.hart c.in_err-seq.ensures.none)))

pub write_decode-requires-clause-allowed : goal.write_decode-requires-clause-allowed
write_decode-requires-clause-allowed c =
    let i = c.self.inside in
    let found = c.in_ok-seq.ensures in
    let is = decode_in i c.args.self.now c.self.view_is c.args.actor c.args.hart c.in_ok-seq.seq c.has_actor.result
    c.has_actor.ensures
    c.if-not-has_actor.false found.inside found.some in
    subst (λ (v : CoreView). refused v.setup v.past (Decode c.args.actor c.in_ok-seq.seq) ≡ None) c.self.view_is
    (decode_ok i c.self.invariant c.args.actor c.args.hart c.in_ok-seq.seq is)

pub write_decode-requires-clause-of_hart : goal.write_decode-requires-clause-of_hart
write_decode-requires-clause-of_hart c =
    let i = c.self.inside in
    let found = c.in_ok-seq.ensures in
    let is = decode_in i c.args.self.now c.self.view_is c.args.actor c.args.hart c.in_ok-seq.seq c.has_actor.result
    c.has_actor.ensures
    c.if-not-has_actor.false found.inside found.some in
    subst (λ (v : CoreView). is_of v.past c.args.hart c.in_ok-seq.seq ≡ true) c.self.view_is
    (decode_owns i c.self.invariant c.args.actor c.args.hart c.in_ok-seq.seq is)

pub returns-clause-allowed : goal.returns-clause-allowed
returns-clause-allowed c =
    let i = c.self.inside in
    let found = c.in_ok-seq.ensures in
    let is = decode_in i c.args.self.now c.self.view_is c.args.actor c.args.hart c.in_ok-seq.seq c.has_actor.result
    c.has_actor.ensures
    c.if-not-has_actor.false found.inside found.some in
    rw c.write_decode.ensures.event
    (subst (λ (v : CoreView). refused v.setup v.past (Decode c.args.actor c.in_ok-seq.seq) ≡ None) c.self.view_is
    (decode_ok i c.self.invariant c.args.actor c.args.hart c.in_ok-seq.seq is))

pub returns-clause-answer : goal.returns-clause-answer
returns-clause-answer c =
    let i = c.self.inside in
    let found = c.in_ok-seq.ensures in
    let is = decode_in i c.args.self.now c.self.view_is c.args.actor c.args.hart c.in_ok-seq.seq c.has_actor.result
    c.has_actor.ensures
    c.if-not-has_actor.false found.inside found.some in
    rw c.write_decode.ensures.event
    (subst
    (λ (v : CoreView). answers (AskDecode c.args.actor c.args.hart) v.past (Decode c.args.actor c.in_ok-seq.seq)
    ≡ true) c.self.view_is
    (decode_answers i c.self.invariant c.args.actor c.args.hart c.in_ok-seq.seq is))
