use Rattle.std.proofs.Common.{◌<◌, ◌∙◌, slice_index, ap, sym, subst, arith}
use Rattle.std.proofs.lemmas.List.{get_or-replicate}
use Rattle.core_lock.specs.Knowledge.{board_words}
use Rattle.core_lock.specs.declared.board.knowledge.Knowledge.{Knowledge}
use Rattle.core_lock.proofs.BoardRule.Dealing.{deals}
use Rattle.core_lock.proofs.board.Board.deal.Goals as goal

pub split_seat-token-requires : goal.split_seat-token-requires
split_seat-token-requires c = (
  c.requires.board,
  omega (arith, c.args.self.now.sized),
  deals c.args.rest.now.id c.args.rest.now.me.0
      (subst (λ (v : Knowledge). v.first < v.end) (sym c.requires.left) (omega (arith, c.requires.inside))),
)

pub invariant_of-result-clause-counted : goal.invariant_of-result-clause-counted
invariant_of-result-clause-counted c = λ low.
    ap (λ m. slice_index m.0.seen c.args.place) c.split_seat-token.ensures.4
    ∙ ap (λ (v : Knowledge). slice_index v.seen c.args.place) c.requires.left
    ∙ get_or-replicate board_words c.args.place 0 0 c.requires.inside
