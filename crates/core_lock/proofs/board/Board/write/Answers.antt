use Rattle.std.proofs.Common.{◌≡◌, ◌<◌, ℕ, slice_index, subst, sym, arith}
use Rattle.core_lock.specs.Knowledge.{stop_word}
use Rattle.core_lock.proofs.{BoardRule.Stepping.posts}
use Rattle.core_lock.proofs.board.Board.write.Goals as goal

pub store-requires : goal.store-requires
store-requires c =
    let seat = c.args.seat.now in
    let word : ℕ = c.from-word.result in
    let at : word ≡ seat.place = c.from-word.ensures in
    let low : word < stop_word = omega (arith, at, c.requires.inside) in
    let seen : slice_index seat.token.me.0.seen word ≡ seat.posted =
    subst (λ (k : ℕ). slice_index seat.token.me.0.seen k ≡ seat.posted) (sym at) (seat.counted c.requires.inside) in (
      c.requires.board,
      omega (arith, c.args.self.now.sized, low),
      posts _ seat.token.id seat.token.me word c.args.count low
          (omega (arith, at, seat.begins), omega (arith, at, seat.ends))
          (omega (arith, seen, c.requires.rises)),
    )
