-- The tests of the parts are the rules of a fetch.
use Rattle.std.proofs.Common.{◌∙◌, ◌==◌, sym, ap}
use Rattle.core_state.proofs.Following.Fetch.{no_actor, not_chosen, there, chosen_there, fetched_view}
use Rattle.elf_image.specs.Image.{word_now}
use Rattle.smt_model.specs.{Basics.same_number, Memory.byte_at}
use Rattle.core_state.specs.View.{CoreView}
use Rattle.core_state.proofs.Steps.Fetch.State.{bytes_of}
use Rattle.core_state.proofs.state.State.fetch_refusal.Goals as goal

pub returns-then-not-has_actor : goal.returns-then-not-has_actor
returns-then-not-has_actor c =
    let point = c.args.point in
    sym (no_actor c.args.self.now.setup c.args.self.now.past c.args.actor point.hart c.args.seq point.pc point.word
    c.args.predicted (sym c.has_actor.ensures ∙ c.if-not-has_actor.true))

pub returns-then-not-is_chosen : goal.returns-then-not-is_chosen
returns-then-not-is_chosen c =
    let point = c.args.point in
    sym (not_chosen c.args.self.now.setup c.args.self.now.past c.args.actor point.hart c.args.seq point.pc point.word
    c.args.predicted (sym c.has_actor.ensures ∙ c.if-not-has_actor.false)
    (sym c.is_chosen.ensures ∙ c.if-not-is_chosen.true))

pub hart-requires : goal.hart-requires
hart-requires c =
    chosen_there c.args.self.now.setup c.args.self.now.past c.args.point.hart
    (sym c.is_chosen.ensures ∙ c.if-not-is_chosen.false)

pub returns : goal.returns
returns c =
    let i = c.self.inside in
    let v = c.args.self.now in
    let point = c.args.point in
    c.first_failing.ensures
    ∙ sym (there v.setup v.past c.args.actor point.hart c.args.seq point.pc point.word c.args.predicted
    (c.args.seq == i.fetched) (point.pc == c.hart.result.now.fetch_pc) c.is_same_number.result
    (sym c.has_actor.ensures ∙ c.if-not-has_actor.false) (sym c.is_chosen.ensures ∙ c.if-not-is_chosen.false)
    (ap (λ n. c.args.seq == n) (fetched_view i c.self.invariant v c.self.view_is))
    (ap (λ n. point.pc == n) c.hart.ensures.fetch_pc)
    (c.is_same_number.ensures ∙ ap (same_number point.word)
    (c.word_at.ensures i.image (bytes_of i) c.self.invariant.code
    ∙ ap (λ (u : CoreView). word_now u.setup.image (byte_at u.setup u.past) point.pc) c.self.view_is)))
