use Rattle.std.proofs.Common.{◌≡◌, ◌-◌, ◌*◌, ◌/◌, ◌%◌, ◌^◌, ◌<◌, sym, ◌∙◌, arith}
use Rattle.std.proofs.Math.Nat.{mod-eq_of_lt, div-le_self}
use Rattle.load_store.proofs.Youngest.{shifted_number}
use Rattle.load_store.proofs.look.number_after.Goals as goal

pub returns-in_default : goal.returns-in_default
returns-in_default c =
    let w = c.args.write in
    let d = w.datum / 2 ^ (8 * (c.args.addr - w.addr)) in
    let four : c.args.n ≡ 4 = grind arith in
    let small : d < 2 ^ 32 = omega (arith, div-le_self w.datum (2 ^ (8 * (c.args.addr - w.addr)))) in
    let whole : d % 2 ^ (8 * c.args.n) ≡ d = rw four (mod-eq_of_lt small) in
    sym whole ∙ sym (shifted_number w c.args.addr c.args.n c.requires.whole)
