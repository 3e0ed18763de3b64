use Rattle.std.proofs.Common.{◌≡◌, ◌∙◌, refl, sym, ap, arith, length}
use Rattle.std.proofs.lemmas.List.{length-reverse}
use Rattle.smt_core.proofs.Counting.{all_from_0}
use Rattle.core_lock.proofs.Laid.{four_more}
use Rattle.core_lock.proofs.held.Held.new.Goals as goal

pub deal_four-p0-requires-clause-amount : goal.deal_four-p0-requires-clause-amount
deal_four-p0-requires-clause-amount g c =
    let long : length c.history.result.now.items ≡ length c.args.core.past =
    sym (length-reverse c.history.result.now.items) ∙ ap length c.history.ensures.events in
    omega (arith, c.add.ensures.amount, c.open-book.ensures.amount, long, all_from_0 c.args.core.past)

pub deal_four-p4-requires-clause-parts : goal.deal_four-p4-requires-clause-parts
deal_four-p4-requires-clause-parts g c = c.deal_four-p0.ensures.parts

pub deal_four-p4-requires-clause-amount : goal.deal_four-p4-requires-clause-amount
deal_four-p4-requires-clause-amount g c = c.deal_four-p0.ensures.amount

pub deal_four-p8-requires-clause-parts : goal.deal_four-p8-requires-clause-parts
deal_four-p8-requires-clause-parts g c = c.deal_four-p4.ensures.parts

pub deal_four-p8-requires-clause-amount : goal.deal_four-p8-requires-clause-amount
deal_four-p8-requires-clause-amount g c = c.deal_four-p4.ensures.amount

pub deal_four-p12-requires-clause-parts : goal.deal_four-p12-requires-clause-parts
deal_four-p12-requires-clause-parts g c = c.deal_four-p8.ensures.parts

pub deal_four-p12-requires-clause-amount : goal.deal_four-p12-requires-clause-amount
deal_four-p12-requires-clause-amount g c = c.deal_four-p8.ensures.amount

pub deal_four-p16-requires-clause-parts : goal.deal_four-p16-requires-clause-parts
deal_four-p16-requires-clause-parts g c = c.deal_four-p12.ensures.parts

pub deal_four-p16-requires-clause-amount : goal.deal_four-p16-requires-clause-amount
deal_four-p16-requires-clause-amount g c = c.deal_four-p12.ensures.amount

pub deal_four-p20-requires-clause-parts : goal.deal_four-p20-requires-clause-parts
deal_four-p20-requires-clause-parts g c = c.deal_four-p16.ensures.parts

pub deal_four-p20-requires-clause-amount : goal.deal_four-p20-requires-clause-amount
deal_four-p20-requires-clause-amount g c = c.deal_four-p16.ensures.amount

pub deal_four-p24-requires-clause-parts : goal.deal_four-p24-requires-clause-parts
deal_four-p24-requires-clause-parts g c = c.deal_four-p20.ensures.parts

pub deal_four-p24-requires-clause-amount : goal.deal_four-p24-requires-clause-amount
deal_four-p24-requires-clause-amount g c = c.deal_four-p20.ensures.amount

pub deal_four-p28-requires-clause-parts : goal.deal_four-p28-requires-clause-parts
deal_four-p28-requires-clause-parts g c = c.deal_four-p24.ensures.parts

pub deal_four-p28-requires-clause-amount : goal.deal_four-p28-requires-clause-amount
deal_four-p28-requires-clause-amount g c = c.deal_four-p24.ensures.amount

pub returns-clause-actors : goal.returns-clause-actors
returns-clause-actors g c =
    let from_0 = c.deal_four-p0.ensures in
    let from_4 = c.deal_four-p4.ensures in
    let from_8 = c.deal_four-p8.ensures in
    let from_12 = c.deal_four-p12.ensures in
    let from_16 = c.deal_four-p16.ensures in
    let from_20 = c.deal_four-p20.ensures in
    let from_24 = c.deal_four-p24.ensures in
    let from_28 = c.deal_four-p28.ensures in
    four_more from_0.a.0 from_0.b.0 from_0.c.0 from_0.d.0
    (four_more from_4.a.0 from_4.b.0 from_4.c.0 from_4.d.0
    (four_more from_8.a.0 from_8.b.0 from_8.c.0 from_8.d.0
    (four_more from_12.a.0 from_12.b.0 from_12.c.0 from_12.d.0
    (four_more from_16.a.0 from_16.b.0 from_16.c.0 from_16.d.0
    (four_more from_20.a.0 from_20.b.0 from_20.c.0 from_20.d.0
    (four_more from_24.a.0 from_24.b.0 from_24.c.0 from_24.d.0
    (four_more from_28.a.0 from_28.b.0 from_28.c.0 from_28.d.0
    refl)))))))

pub returns-clause-counts : goal.returns-clause-counts
returns-clause-counts g c =
    let from_0 = c.deal_four-p0.ensures in
    let from_4 = c.deal_four-p4.ensures in
    let from_8 = c.deal_four-p8.ensures in
    let from_12 = c.deal_four-p12.ensures in
    let from_16 = c.deal_four-p16.ensures in
    let from_20 = c.deal_four-p20.ensures in
    let from_24 = c.deal_four-p24.ensures in
    let from_28 = c.deal_four-p28.ensures in
    four_more from_0.a.1.counts from_0.b.1.counts from_0.c.1.counts from_0.d.1.counts
    (four_more from_4.a.1.counts from_4.b.1.counts from_4.c.1.counts from_4.d.1.counts
    (four_more from_8.a.1.counts from_8.b.1.counts from_8.c.1.counts from_8.d.1.counts
    (four_more from_12.a.1.counts from_12.b.1.counts from_12.c.1.counts from_12.d.1.counts
    (four_more from_16.a.1.counts from_16.b.1.counts from_16.c.1.counts from_16.d.1.counts
    (four_more from_20.a.1.counts from_20.b.1.counts from_20.c.1.counts from_20.d.1.counts
    (four_more from_24.a.1.counts from_24.b.1.counts from_24.c.1.counts from_24.d.1.counts
    (four_more from_28.a.1.counts from_28.b.1.counts from_28.c.1.counts from_28.d.1.counts
    refl)))))))

pub returns-clause-lasts : goal.returns-clause-lasts
returns-clause-lasts g c =
    let from_0 = c.deal_four-p0.ensures in
    let from_4 = c.deal_four-p4.ensures in
    let from_8 = c.deal_four-p8.ensures in
    let from_12 = c.deal_four-p12.ensures in
    let from_16 = c.deal_four-p16.ensures in
    let from_20 = c.deal_four-p20.ensures in
    let from_24 = c.deal_four-p24.ensures in
    let from_28 = c.deal_four-p28.ensures in
    four_more from_0.a.1.ends from_0.b.1.ends from_0.c.1.ends from_0.d.1.ends
    (four_more from_4.a.1.ends from_4.b.1.ends from_4.c.1.ends from_4.d.1.ends
    (four_more from_8.a.1.ends from_8.b.1.ends from_8.c.1.ends from_8.d.1.ends
    (four_more from_12.a.1.ends from_12.b.1.ends from_12.c.1.ends from_12.d.1.ends
    (four_more from_16.a.1.ends from_16.b.1.ends from_16.c.1.ends from_16.d.1.ends
    (four_more from_20.a.1.ends from_20.b.1.ends from_20.c.1.ends from_20.d.1.ends
    (four_more from_24.a.1.ends from_24.b.1.ends from_24.c.1.ends from_24.d.1.ends
    (four_more from_28.a.1.ends from_28.b.1.ends from_28.c.1.ends from_28.d.1.ends
    refl)))))))

pub returns-clause-idle : goal.returns-clause-idle
returns-clause-idle g c = c.none-idle.ensures

pub deal_four-p0-requires-clause-made : goal.deal_four-p0-requires-clause-made
deal_four-p0-requires-clause-made g c = c.made_of-made.ensures

pub deal_four-p4-requires-clause-made : goal.deal_four-p4-requires-clause-made
deal_four-p4-requires-clause-made g c = c.made_of-made.ensures

pub deal_four-p8-requires-clause-made : goal.deal_four-p8-requires-clause-made
deal_four-p8-requires-clause-made g c = c.made_of-made.ensures

pub deal_four-p12-requires-clause-made : goal.deal_four-p12-requires-clause-made
deal_four-p12-requires-clause-made g c = c.made_of-made.ensures

pub deal_four-p16-requires-clause-made : goal.deal_four-p16-requires-clause-made
deal_four-p16-requires-clause-made g c = c.made_of-made.ensures

pub deal_four-p20-requires-clause-made : goal.deal_four-p20-requires-clause-made
deal_four-p20-requires-clause-made g c = c.made_of-made.ensures

pub deal_four-p24-requires-clause-made : goal.deal_four-p24-requires-clause-made
deal_four-p24-requires-clause-made g c = c.made_of-made.ensures

pub deal_four-p28-requires-clause-made : goal.deal_four-p28-requires-clause-made
deal_four-p28-requires-clause-made g c = c.made_of-made.ensures

pub open-book-requires-clause-name : goal.open-book-requires-clause-name
open-book-requires-clause-name g c = c.requires.name

pub open-book-requires-clause-parts : goal.open-book-requires-clause-parts
open-book-requires-clause-parts g c = c.requires.parts.0

pub add-requires : goal.add-requires
add-requires g c = omega (arith, c.open-book.ensures.parts, c.requires.parts.1)

pub deal_four-p0-requires-clause-parts : goal.deal_four-p0-requires-clause-parts
deal_four-p0-requires-clause-parts g c =
    omega (arith, c.add.ensures.parts, c.open-book.ensures.parts, c.requires.parts.1)

pub returns-clause-core : goal.returns-clause-core
returns-clause-core g c = refl
