-- A committed register has its number in the parts, since somebody claims it.
use Rattle.std.specs.Prelude.{◌≡◌, ℕ, ◌<◌, ◌==◌, ◌&&◌, nat_lt, true, false, length, Option, None, slice_index_or}
use Rattle.std.specs.Prelude.{if◌then◌else◌}
use Rattle.std.proofs.{Common.sym, Common.subst, Common.arith, lemmas.Bool.Decides.nat_tests}
use Rattle.rename_map.specs.Maps.{committed_of}
use Rattle.smt_model.specs.{Account.committed_value, Picture.is_free, Registers.committed}
use Rattle.smt_model.proofs.Registers.Claims.{IsRegister, committed_claimed}
use Rattle.smt_laws.proofs.Registers.Counts.{committed-range}
use Rattle.core_state.specs.State.{IsCore, past_of, setup_in, view_of}
use Rattle.core_state.specs.{View.CoreView, declared.state.State.TheInside.Inside}
use Rattle.core_parts.specs.{declared.hart.HartState.HartState}
use Rattle.core_state.proofs.Steps.Complete.State.{registers}

-- What the clause of `register` says.
abbrev pub read_as : CoreView → ℕ → ℕ → Option ℕ
read_as v h r = if nat_lt h v.setup.harts && nat_lt r 32 then committed_value v.setup v.past h r else None

module _ (i : Inside) (core : IsCore i) (v : CoreView) (is : view_of i ≡ v) (h : ℕ) where
  module _ (inside : h < length i.parts.harts.items) where
    hart_is : nat_lt h (setup_in i).harts ≡ true
    hart_is = let same = core.harts in grind (arith, nat_tests)

    pub committed_is : (x : HartState) (r : ℕ) → x ≡ slice_index_or i.parts.harts.items h x → 0 < r → r < 32
        → read_as v h r ≡ slice_index_or i.parts.values (committed_of x.maps r) None
    committed_is x r at above under =
        let setup = setup_in i in
        let past = past_of i in
        let p = committed past h r in
        let is_register : IsRegister setup h r =
        record { hart = (let same = core.harts in omega arith); low = omega arith; high = under } in
        let claimed : is_free setup past p ≡ false =
        let one = committed_claimed setup past h r is_register in grind (arith, nat_tests) in
        let in_range = committed-range setup past core.legal h r is_register in
        let few = registers i core in
        let count = core.agrees.registers in
        let hart = core.agrees.harts h x inside in
        let map : committed_of x.maps r ≡ p =
        subst (λ y. committed_of y.maps r ≡ p) (sym at) (hart.committed r above under) in
        let holds = core.agrees.values p None (omega arith) claimed in
        let named : (r == 0) ≡ false = grind (arith, nat_tests) in
        let low : nat_lt r 32 ≡ true = grind (arith, nat_tests) in
        subst (λ u. read_as u h r ≡ slice_index_or i.parts.values (committed_of x.maps r) None) is
        (rw (hart_is, low, named, map) (sym holds))
