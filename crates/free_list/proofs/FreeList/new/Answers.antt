use Rattle.std.proofs.Common.{◌≡◌, ◌&&◌, ◌∙◌, ℕ, sym, refl, false, ltb, leb, arith, replicate}
use Rattle.std.proofs.{lemmas.Bool.Decides.nat_tests, lemmas.List.get_or-replicate}
use Rattle.free_list.specs.Flags.{word_count}
use Rattle.free_list.proofs.Bits.{holds-none}
use Rattle.free_list.proofs.FreeList.new.Goals as goal

-- no number lies from n up to n
none_between : (n q : ℕ) → (leb n q && ltb q n) ≡ false
none_between n q = grind (arith, nat_tests)

pub loop-register-init : goal.loop-register-init
loop-register-init c =
    λ q. holds-none (replicate word_count 0) refl (λ k below. get_or-replicate word_count k 0 0 below) q
    ∙ sym (none_between c.first_extra-first.result q)
