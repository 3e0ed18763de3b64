-- What the numbers of a state stand for, as tables grow and as a number changes.
use Rattle.std.proofs.Common.{◌≡◌, ◌≢◌, ℕ, ◌<◌, List, map, length, sym, ap, subst, ◌∙◌, arith, Some}
use Rattle.std.specs.Prelude.{slice_get, slice_set, slice_index}
use Rattle.std.proofs.lemmas.List.{get_or-map, get_or-set_other, get_or-set_same, length-map, map-set}
use Rattle.std.proofs.lemmas.Option.{slice_get-get_or, get_or_from_slice_get}
use Rattle.sc_machine.specs.declared.hart.Hart.{Hart}
use Rattle.condensed_machine.specs.Machine.{Machine, HaveZero}
use Rattle.condensed_machine.specs.Decoded.{hart_at, hart_in, no_hart, numbers_of, Knows}
use Rattle.condensed_machine.specs.declared.state.State.{State}

-- ---- A state in which one hart has another number

pub own_number : (table : List Hart) (numbers : List ℕ) (h number : ℕ) (y : Hart) → h < length numbers
    → slice_get table number ≡ Some y → hart_at (map (hart_at table) (slice_set numbers h number)) h ≡ y
own_number table numbers h number y inside has =
    let there : h < length (map (hart_at table) numbers) = omega (arith, length-map numbers (hart_at table)) in
    ap (λ xs. hart_at xs h) (map-set (hart_at table) numbers h number)
    ∙ get_or-set_same (map (hart_at table) numbers) h (hart_at table number) no_hart there
    ∙ get_or_from_slice_get table number y no_hart has

pub other_number : (table : List Hart) (numbers : List ℕ) (h g number : ℕ) → g ≢ h
    → hart_at (map (hart_at table) (slice_set numbers h number)) g ≡ hart_at (map (hart_at table) numbers) g
other_number table numbers h g number other =
    ap (λ xs. hart_at xs g) (map-set (hart_at table) numbers h number)
    ∙ get_or-set_other (map (hart_at table) numbers) h g (hart_at table number) no_hart other

pub hart_of_number : (table : List Hart) (numbers : List ℕ) (h : ℕ) → h < length numbers
    → hart_at (map (hart_at table) numbers) h ≡ hart_at table (slice_index numbers h)
hart_of_number table numbers h inside = get_or-map (hart_at table) numbers h 0 no_hart inside

-- x0 is 0 in each hart of a state.
pub zero_in : (m : Machine) (s : State) (h : ℕ) → HaveZero m.hart_states → Knows m s → h < length (numbers_of m s)
    → slice_index (hart_in m s h).registers 0 ≡ 0
zero_in m s h zeros knows inside =
    let number = slice_index (numbers_of m s) h in
    let has = slice_get-get_or m.hart_states number no_hart (knows.harts h inside) in
    subst (λ (x : Hart). slice_index x.registers 0 ≡ 0) (sym (hart_of_number m.hart_states (numbers_of m s) h inside))
    (zeros number (hart_at m.hart_states number) has)
