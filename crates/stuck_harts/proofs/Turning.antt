-- Steps of harts in turn, one more at a time.
use Rattle.std.proofs.Common.{◌≡◌, ◌∙◌, ℕ, ◌+◌, ◌<◌, Bool, true, false, Option, length, refl, sym, ap, subst, add-one, arith}
use Rattle.std.proofs.Common.{[], ◌≤◌, Some}
use Rattle.std.specs.Prelude.{◌&&◌, nat_lt}
use Rattle.std.proofs.lemmas.Bool.Decides.{nat_tests}
use Rattle.events.specs.declared.effect.Record.{Record}
use Rattle.smt_model.specs.{Setup.Setup, Plain.Plain, Plain.is_going_status}
use Rattle.sc_machine.specs.{Machine.Machine, Machine.Agrees, Machine.InEachState, Steps.InEachRun, Steps.IsStep}
use Rattle.sc_machine.specs.Refusals.{refusal}
use Rattle.sc_machine.specs.declared.refused.Stopped.{Stopped}
use Rattle.rounds.proofs.Stepping.{agrees_with_room, stands}
use Rattle.stories.specs.declared.deed.Deed.{Deed}
use Rattle.stuck_harts.specs.Turns.{GoesUpTo, goes, stepped, stepping, turn, turns, up_to}
use Rattle.stuck_harts.specs.Spins.{kept, shown_in, spins_in}
use Rattle.stuck_harts.specs.declared.spins.Spin.{Spin}

-- One hart more, and one turn more.
pub up_to_none : (setup : Setup) (s : Plain) → up_to setup 0 s ≡ s
unfolding up_to
up_to_none setup s = refl

up_to_more : (setup : Setup) (h : ℕ) (s : Plain) → up_to setup (h + 1) s ≡ stepped setup h (up_to setup h s)
unfolding up_to
up_to_more setup h s = ap (λ n. up_to setup n s) (add-one h)

pub turns_none : (setup : Setup) (s : Plain) → turns setup 0 s ≡ s
unfolding turns
turns_none setup s = refl

pub turns_more : (setup : Setup) (n : ℕ) (s : Plain) → turns setup (n + 1) s ≡ turn setup (turns setup n s)
unfolding turns
turns_more setup n s = ap (λ k. turns setup k s) (add-one n)

pub spins_none : (setup : Setup) (h : ℕ) (s : Plain) → spins_in setup h 0 s ≡ []
unfolding spins_in
spins_none setup h s = refl

pub spins_more : (setup : Setup) (h n : ℕ) (s : Plain)
    → spins_in setup h (n + 1) s ≡ kept (spins_in setup h n s) (shown_in setup h (turns setup n s))
unfolding spins_in
spins_more setup h n s = ap (λ k. spins_in setup h k s) (add-one n)

-- A hart is there and goes, or not.
pub goes_there : (setup : Setup) (s : Plain) (h harts : ℕ) (m : Machine) → Agrees setup s m → harts ≡ length m.harts
    → h < harts → goes setup s h ≡ is_going_status (s.statuses h)
goes_there setup s h harts m agrees is inside =
    let there : nat_lt h setup.harts ≡ true = grind (arith, nat_tests, agrees.count) in
    ap (λ there. there && is_going_status (s.statuses h)) there

pub goes_nowhere : (setup : Setup) (s : Plain) (h harts : ℕ) (m : Machine) → Agrees setup s m → harts ≡ length m.harts
    → harts ≤ h → goes setup s h ≡ false
goes_nowhere setup s h harts m agrees is outside =
    let none : nat_lt h setup.harts ≡ false = grind (arith, nat_tests, agrees.count) in
    ap (λ there. there && is_going_status (s.statuses h)) none

is_there : (there going : Bool) → (there && going) ≡ true → there ≡ true
is_there true going is = refl
is_there false going is = absurd (cc)

is_on : (there going : Bool) → (there && going) ≡ true → going ≡ true
is_on true true is = refl
is_on true false is = absurd (cc)
is_on false going is = absurd (cc)

-- One step of a hart.
pub stood : (setup : Setup) (s : Plain) (h : ℕ) (m : Machine) → goes setup s h ≡ false → Agrees setup s m
    → Agrees setup (stepped setup h s) m
stood setup s h m none agrees = rw none agrees

pub went : (setup : Setup) (s : Plain) (h : ℕ) (said : Record) (m roomy new : Machine) (room : ℕ)
    → goes setup s h ≡ true → roomy ≡ record m { room = room }
    → InEachRun roomy (λ setup before. IsStep setup roomy.room before h said new) → Agrees setup s m
    → Agrees setup (stepped setup h s) new
went setup s h said m roomy new room on same steps agrees =
    let one = steps setup (record { records = []; state = s }) (agrees_with_room setup s m roomy room same agrees) in
    let made : Agrees setup (stepping setup h s) new = one.agrees in
    rw on made

pub never : {A : Type 0} → (setup : Setup) (s : Plain) (h : ℕ) (why : Stopped) (m roomy : Machine) (room : ℕ)
    → goes setup s h ≡ true → roomy ≡ record m { room = room } → length roomy.output < roomy.room
    → InEachState roomy (λ setup s. refusal setup roomy.room s h ≡ Some why) → Agrees setup s m → A
never setup s h why m roomy room on same free refused agrees =
    let inside : h < setup.harts = grind (
      arith,
      nat_tests,
      is_there (nat_lt h setup.harts)
          (is_going_status (s.statuses h)) on,
    ) in
    let none = stands h why roomy free refused setup s (agrees_with_room setup s m roomy room same agrees) inside in
    let goes_on = is_on (nat_lt h setup.harts) (is_going_status (s.statuses h)) on in
    absurd (cc)

-- One hart more in a turn.
pub one_hart : (from h : ℕ) (first old new : Machine) → GoesUpTo from h first old
    → InEachState old (λ setup s. Agrees setup (stepped setup h s) new) → GoesUpTo from (h + 1) first new
one_hart from h first old new so step setup s agrees =
    subst (λ s. Agrees setup s new) (sym (up_to_more setup h s)) (step setup (up_to setup h s) (so setup s agrees))

-- One turn more.
pub one_turn : (n harts : ℕ) (first old new : Machine)
    → InEachState first (λ setup s. Agrees setup (turns setup n s) old) → harts ≡ length old.harts
    → (0 ≤ harts → GoesUpTo 0 harts old new)
    → InEachState first (λ setup s. Agrees setup (turns setup (n + 1) s) new)
one_turn n harts first old new so is turned setup s agrees =
    let before = so setup s agrees in
    let all : harts ≡ setup.harts = is ∙ before.count in
    let went = turned (omega arith) setup (turns setup n s)
    (subst (λ s. Agrees setup s old) (sym (up_to_none setup (turns setup n s))) before) in
    subst (λ s. Agrees setup s new) (sym (turns_more setup n s))
    (subst (λ h. Agrees setup (up_to setup h (turns setup n s)) new) all went)

-- A turn in two parts: the harts below one, and those from it on.
pub first_harts : (setup : Setup) (s : Plain) (h : ℕ) (old mid : Machine) → (0 ≤ h → GoesUpTo 0 h old mid)
    → Agrees setup s old → Agrees setup (up_to setup h s) mid
first_harts setup s h old mid went agrees =
    went (omega arith) setup s (subst (λ s. Agrees setup s old) (sym (up_to_none setup s)) agrees)

pub whole_turn : (setup : Setup) (s : Plain) (h harts : ℕ) (mid new : Machine) → harts ≡ length mid.harts
    → h < setup.harts → (h ≤ harts → GoesUpTo h harts mid new) → Agrees setup (up_to setup h s) mid
    → Agrees setup (turn setup s) new
whole_turn setup s h harts mid new is inside went agrees =
    let all : harts ≡ setup.harts = is ∙ agrees.count in
    subst (λ n. Agrees setup (up_to setup n s) new) all (went (omega (arith, all, inside)) setup s agrees)
