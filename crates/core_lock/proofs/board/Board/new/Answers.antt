use Rattle.std.proofs.Common.{◌∷◌, [], ap}
use Rattle.core_lock.specs.Seats.{board_of}
use Rattle.core_lock.proofs.Laid.{four_alike, four_more, last_alike}
use Rattle.core_lock.proofs.board.Board.new.Goals as goal

pub returns-clause-places : goal.returns-clause-places
returns-clause-places c =
    let from_0 = c.deal_four-s0.ensures in
    let from_4 = c.deal_four-s4.ensures in
    let from_8 = c.deal_four-s8.ensures in
    let from_12 = c.deal_four-s12.ensures in
    let from_16 = c.deal_four-s16.ensures in
    let from_20 = c.deal_four-s20.ensures in
    let from_24 = c.deal_four-s24.ensures in
    let from_28 = c.deal_four-s28.ensures in
    four_more from_0.a.at from_0.b.at from_0.c.at from_0.d.at
    (four_more from_4.a.at from_4.b.at from_4.c.at from_4.d.at
    (four_more from_8.a.at from_8.b.at from_8.c.at from_8.d.at
    (four_more from_12.a.at from_12.b.at from_12.c.at from_12.d.at
    (four_more from_16.a.at from_16.b.at from_16.c.at from_16.d.at
    (four_more from_20.a.at from_20.b.at from_20.c.at from_20.d.at
    (four_more from_24.a.at from_24.b.at from_24.c.at from_24.d.at
    (four_more from_28.a.at from_28.b.at from_28.c.at from_28.d.at
    (ap (λ x. x ∷ []) c.deal-reader.ensures.new.at))))))))

pub returns-clause-posted : goal.returns-clause-posted
returns-clause-posted c =
    let from_0 = c.deal_four-s0.ensures in
    let from_4 = c.deal_four-s4.ensures in
    let from_8 = c.deal_four-s8.ensures in
    let from_12 = c.deal_four-s12.ensures in
    let from_16 = c.deal_four-s16.ensures in
    let from_20 = c.deal_four-s20.ensures in
    let from_24 = c.deal_four-s24.ensures in
    let from_28 = c.deal_four-s28.ensures in
    four_more from_0.a.posted from_0.b.posted from_0.c.posted from_0.d.posted
    (four_more from_4.a.posted from_4.b.posted from_4.c.posted from_4.d.posted
    (four_more from_8.a.posted from_8.b.posted from_8.c.posted from_8.d.posted
    (four_more from_12.a.posted from_12.b.posted from_12.c.posted from_12.d.posted
    (four_more from_16.a.posted from_16.b.posted from_16.c.posted from_16.d.posted
    (four_more from_20.a.posted from_20.b.posted from_20.c.posted from_20.d.posted
    (four_more from_24.a.posted from_24.b.posted from_24.c.posted from_24.d.posted
    (four_more from_28.a.posted from_28.b.posted from_28.c.posted from_28.d.posted
    (ap (λ x. x ∷ []) c.deal-reader.ensures.new.posted))))))))

pub returns-clause-asked : goal.returns-clause-asked
returns-clause-asked c =
    let from_0 = c.deal_four-s0.ensures in
    let from_4 = c.deal_four-s4.ensures in
    let from_8 = c.deal_four-s8.ensures in
    let from_12 = c.deal_four-s12.ensures in
    let from_16 = c.deal_four-s16.ensures in
    let from_20 = c.deal_four-s20.ensures in
    let from_24 = c.deal_four-s24.ensures in
    let from_28 = c.deal_four-s28.ensures in
    four_more from_0.a.asked from_0.b.asked from_0.c.asked from_0.d.asked
    (four_more from_4.a.asked from_4.b.asked from_4.c.asked from_4.d.asked
    (four_more from_8.a.asked from_8.b.asked from_8.c.asked from_8.d.asked
    (four_more from_12.a.asked from_12.b.asked from_12.c.asked from_12.d.asked
    (four_more from_16.a.asked from_16.b.asked from_16.c.asked from_16.d.asked
    (four_more from_20.a.asked from_20.b.asked from_20.c.asked from_20.d.asked
    (four_more from_24.a.asked from_24.b.asked from_24.c.asked from_24.d.asked
    (four_more from_28.a.asked from_28.b.asked from_28.c.asked from_28.d.asked
    (ap (λ x. x ∷ []) c.deal-reader.ensures.new.asked))))))))

pub returns-clause-seen : goal.returns-clause-seen
returns-clause-seen c =
    let from_0 = c.deal_four-s0.ensures in
    let from_4 = c.deal_four-s4.ensures in
    let from_8 = c.deal_four-s8.ensures in
    let from_12 = c.deal_four-s12.ensures in
    let from_16 = c.deal_four-s16.ensures in
    let from_20 = c.deal_four-s20.ensures in
    let from_24 = c.deal_four-s24.ensures in
    let from_28 = c.deal_four-s28.ensures in
    four_more from_0.a.seen from_0.b.seen from_0.c.seen from_0.d.seen
    (four_more from_4.a.seen from_4.b.seen from_4.c.seen from_4.d.seen
    (four_more from_8.a.seen from_8.b.seen from_8.c.seen from_8.d.seen
    (four_more from_12.a.seen from_12.b.seen from_12.c.seen from_12.d.seen
    (four_more from_16.a.seen from_16.b.seen from_16.c.seen from_16.d.seen
    (four_more from_20.a.seen from_20.b.seen from_20.c.seen from_20.d.seen
    (four_more from_24.a.seen from_24.b.seen from_24.c.seen from_24.d.seen
    (four_more from_28.a.seen from_28.b.seen from_28.c.seen from_28.d.seen
    (ap (λ x. x ∷ []) c.deal-reader.ensures.new.seen))))))))

pub returns-clause-board : goal.returns-clause-board
returns-clause-board c =
    let from_0 = c.deal_four-s0.ensures in
    let from_4 = c.deal_four-s4.ensures in
    let from_8 = c.deal_four-s8.ensures in
    let from_12 = c.deal_four-s12.ensures in
    let from_16 = c.deal_four-s16.ensures in
    let from_20 = c.deal_four-s20.ensures in
    let from_24 = c.deal_four-s24.ensures in
    let from_28 = c.deal_four-s28.ensures in
    (four_alike board_of from_0.a.of from_0.b.of from_0.c.of from_0.d.of
    (four_alike board_of from_4.a.of from_4.b.of from_4.c.of from_4.d.of
    (four_alike board_of from_8.a.of from_8.b.of from_8.c.of from_8.d.of
    (four_alike board_of from_12.a.of from_12.b.of from_12.c.of from_12.d.of
    (four_alike board_of from_16.a.of from_16.b.of from_16.c.of from_16.d.of
    (four_alike board_of from_20.a.of from_20.b.of from_20.c.of from_20.d.of
    (four_alike board_of from_24.a.of from_24.b.of from_24.c.of from_24.d.of
    (four_alike board_of from_28.a.of from_28.b.of from_28.c.of from_28.d.of
    (last_alike board_of c.deal-reader.ensures.new.of))))))))).at
