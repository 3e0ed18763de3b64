-- What the rules take for the same is the same.
use Rattle.std.specs.Prelude.{◌≡◌, ◌==◌, ◌&&◌, true, Option, Some, None}
use Rattle.std.proofs.Common.{refl, ap, arith}
use Rattle.std.proofs.{lemmas.Bool.and_parts, lemmas.Bool.Decides.nat_tests}
use Rattle.events.specs.{declared.effect.Effect.Effect, declared.effect.Next.Next}
use Rattle.events.specs.{declared.effect.Written.Written}
use Rattle.events.specs.declared.effect.Next.TheVariants.{Pc, Ended, Stopped}
use Rattle.smt_model.specs.{Basics.same_number, Comparisons.same_next, Comparisons.same_write}
use Rattle.smt_model.specs.{Comparisons.same_effect}
use Rattle.smt_model.proofs.Fates.Moves.{same_number-is}

same_next-is : (a b : Next) → same_next a b ≡ true → a ≡ b
same_next-is (Pc a) (Pc b) same = let it : a ≡ b = grind (arith, nat_tests) in ap Pc it
same_next-is (Ended a) (Ended b) same = let it : a ≡ b = grind (arith, nat_tests) in ap Ended it
same_next-is (Stopped a) (Stopped b) same = let it : a ≡ b = grind (arith, nat_tests) in ap Stopped it
same_next-is (Pc a) (Ended b) same = absurd (grind arith)
same_next-is (Pc a) (Stopped b) same = absurd (grind arith)
same_next-is (Ended a) (Pc b) same = absurd (grind arith)
same_next-is (Ended a) (Stopped b) same = absurd (grind arith)
same_next-is (Stopped a) (Pc b) same = absurd (grind arith)
same_next-is (Stopped a) (Ended b) same = absurd (grind arith)

written_of_fields : (v w : Written) → v.addr ≡ w.addr → v.n ≡ w.n → v.datum ≡ w.datum → v ≡ w
written_of_fields v w a b c =
    let one : Written = record { addr = v.addr; n = v.n; datum = v.datum } in
    let two : Written = record { addr = w.addr; n = w.n; datum = w.datum } in
    let same : one ≡ two = cc (a, b, c) in
    same

same_write-is : (a b : Option Written) → same_write a b ≡ true → a ≡ b
same_write-is None None same = refl
same_write-is None (Some w) same = absurd (grind arith)
same_write-is (Some v) None same = absurd (grind arith)
same_write-is (Some v) (Some w) same =
    let one = and_parts (v.addr == w.addr) ((v.n == w.n) && (v.datum == w.datum)) same in
    let two = and_parts (v.n == w.n) (v.datum == w.datum) one.1 in
    let first = one.0 in
    let second = two.0 in
    let third = two.1 in
    let a : v.addr ≡ w.addr = grind (arith, nat_tests) in
    let b : v.n ≡ w.n = grind (arith, nat_tests) in
    let c : v.datum ≡ w.datum = grind (arith, nat_tests) in
    ap Some (written_of_fields v w a b c)

effect_of_fields : (x y : Effect) → x.value ≡ y.value → x.next ≡ y.next → x.write ≡ y.write → x.out ≡ y.out → x ≡ y
effect_of_fields x y a b c d =
    let one : Effect = record { value = x.value; next = x.next; write = x.write; out = x.out } in
    let two : Effect = record { value = y.value; next = y.next; write = y.write; out = y.out } in
    let same : one ≡ two = cc (a, b, c, d) in
    same

pub same_effect-is : (x y : Effect) → same_effect x y ≡ true → x ≡ y
same_effect-is x y same =
    let one = and_parts (same_number x.value y.value)
    (same_next x.next y.next && (same_write x.write y.write && same_number x.out y.out)) same in
    let two = and_parts (same_next x.next y.next) (same_write x.write y.write && same_number x.out y.out) one.1 in
    let three = and_parts (same_write x.write y.write) (same_number x.out y.out) two.1 in
    effect_of_fields x y (same_number-is x.value y.value one.0) (same_next-is x.next y.next two.0)
    (same_write-is x.write y.write three.0) (same_number-is x.out y.out three.1)
