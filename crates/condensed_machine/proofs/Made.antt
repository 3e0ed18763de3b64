-- A step of a machine that has learned of the parts of the next state.
use Rattle.std.proofs.Common.{◌≡◌, ◌≢◌, ℕ, ◌<◌, ◌≤◌, true, replicate, length, map, sym, ap, subst, ◌∙◌, arith}
use Rattle.std.proofs.Common.{Bool, inl, inr}
use Rattle.std.specs.Prelude.{slice_set, slice_index}
use Rattle.std.proofs.lemmas.Bool.{cases_eq}
use Rattle.std.proofs.lemmas.List.{get_or-set_other, get_or-set_same, length-set}
use Rattle.std.proofs.lemmas.Option.{get_or_from_slice_get, slice_get_within}
use Rattle.smt_model.specs.{Setup.Setup, Plain.is_going_status}
use Rattle.outcome_laws.specs.{Paths.can_step, Paths.stepped, Local.fits}
use Rattle.sc_machine.specs.declared.hart.Hart.{Hart}
use Rattle.changed_memory.specs.Shared.{Shared}
use Rattle.condensed_machine.specs.Machine.{Program, IsSound, tables_of, Machine, Grows, HasCode, InEachSetup}
use Rattle.condensed_machine.specs.Decoded.{AreDropped, Decoded, decoded, full, hart_at, hart_in, no_shared, numbers_of}
use Rattle.condensed_machine.specs.{Decoded.Knows, Numbering.near_harts}
use Rattle.condensed_machine.specs.Executing.{IsExecuted, IsBehind, ComesToRest, InEachState, SharedAfter}
use Rattle.condensed_machine.specs.{Tables.HasNumber, Tables.IsSharedAfter, Steps.SettlesBy, Steps.MakesMove}
use Rattle.condensed_machine.specs.{Resting.keeps_reservation, Settling.IsFree, declared.executed.Executed.Executed}
use Rattle.condensed_machine.specs.{declared.state.State.State}
use Rattle.condensed_machine.proofs.{Instructions.can_go}
use Rattle.condensed_machine.proofs.Dropped.{dropped_next}
use Rattle.condensed_machine.proofs.Moving.{IsNext, settles_by, hart_is, shared_is}
use Rattle.condensed_machine.specs.Learning.{still_decoded, still_numbered, kept_within}
use Rattle.condensed_machine.proofs.Numbers.{own_number, other_number}

-- Hart h, which is x, has moved on from s to t, where the harts share this, and the machine has become n by what it
-- learned of that.
pub record HasDone (m n : Machine) (s t : State) (h steps : ℕ) (x : Hart) (common : Shared) : Type 0 where
  pub zero : slice_index x.registers 0 ≡ 0
  pub code : HasCode m.program.image common
  pub going : is_going_status x.status ≡ true
  pub done : Executed
  pub behind : Hart
  pub moved : Hart
  pub number : ℕ
  pub executed : InEachState m.program h x common (λ setup u. IsExecuted setup u h done)
  pub is_behind : InEachState m.program h x common (λ setup u. IsBehind setup u h behind)
  pub fitting : InEachState m.program h x common (λ setup u. fits setup (tables_of m.program) h u ≡ true)
  pub free : Bool
  pub is_free : InEachState m.program h x common (λ setup u. IsFree free h (stepped setup h u))
  pub rests : ComesToRest m.program free behind steps moved
  pub has : HasNumber n.hart_states moved number
  pub numbered : numbers_of n t ≡ slice_set (numbers_of m s) h number
  pub near : length t.near ≡ near_harts
  pub far : t.far < length n.far_harts
  pub shared : IsSharedAfter m.program.image h done (keeps_reservation m.program moved) common n.shared_states
      t.shared

abbrev pub HasMoved : Machine → Machine → State → State → ℕ → ℕ → Type 0
HasMoved m n s t h steps = HasDone m n s t h steps (hart_in m s h) (decoded m s).shared

pub moved_from : (m n : Machine) (s t : State) (h steps : ℕ) (x : Hart) (common : Shared) → x ≡ hart_in m s h
    → common ≡ (decoded m s).shared → HasDone m n s t h steps x common → HasMoved m n s t h steps
moved_from m n s t h steps x common of_hart of_shared done =
    subst (λ y. HasDone m n s t h steps y (decoded m s).shared) of_hart
    (subst (HasDone m n s t h steps x) of_shared done)

module _ (m n : Machine) (s t : State) (h steps : ℕ) (sound : IsSound m.program) (grows : Grows m n)
    (knows : Knows m s) (inside : h < m.program.harts) (moved : HasMoved m n s t h steps) where
  in_room : h < length (numbers_of m s)
  in_room = omega (arith, sound.few, knows.room)

  own : hart_at (decoded n t).harts h ≡ moved.moved
  own =
      ap (λ numbers. hart_at (map (hart_at n.hart_states) numbers) h) moved.numbered
      ∙ own_number n.hart_states (numbers_of m s) h moved.number moved.moved in_room moved.has

  others : (g : ℕ) → g ≢ h → hart_at (decoded n t).harts g ≡ hart_at (decoded m s).harts g
  others g other =
      ap (λ numbers. hart_at (map (hart_at n.hart_states) numbers) g) moved.numbered
      ∙ other_number n.hart_states (numbers_of m s) h g moved.number other
      ∙ ap (λ numbers. hart_at (map (hart_at n.hart_states) numbers) g) (sym (still_numbered m n s grows knows))
      ∙ ap (λ (d : Decoded). hart_at d.harts g) (still_decoded m n s grows knows)

  next : IsNext m.program (decoded m s) (decoded n t) h moved.done steps moved.moved
  next = record {
    behind = moved.behind;
    executed = moved.executed;
    is_behind = moved.is_behind;
    free = moved.free;
    is_free = moved.is_free;
    rests = moved.rests;
    own = own;
    others = others;
    shared = subst (λ (after : Shared). SharedAfter m.program.image h moved.done
        (keeps_reservation m.program moved.moved) (decoded m s).shared after)
        (sym (get_or_from_slice_get n.shared_states t.shared moved.shared.after no_shared moved.shared.has))
        moved.shared.is;
  }

  abbrev Makes : Setup → Program → Decoded → Type 0
  Makes setup p d =
      (can_step setup h (full p d) ≡ true) × (fits setup (tables_of p) h (full p d) ≡ true)
      × SettlesBy setup p (replicate steps h) (stepped setup h (full p d)) (full p (decoded n t))

  makes : (setup : Setup) → setup.image ≡ m.program.image → setup.harts ≡ m.program.harts
      → Makes setup m.program (decoded m s)
  makes setup image harts =
      let there : h < setup.harts = omega (arith, harts) in (
        can_go setup (full m.program (decoded m s)) h (hart_in m s h) there
            (hart_is m.program (decoded m s) h inside moved.zero) moved.going,
        moved.fitting setup (full m.program (decoded m s)) image there
            (hart_is m.program (decoded m s) h inside moved.zero) (shared_is m.program (decoded m s)),
        settles_by m.program (decoded m s) (decoded n t) h steps moved.done moved.moved sound inside moved.zero
            moved.code next setup image harts,
      )

  pub known : Knows n t
  known = record {
    near = moved.near;
    room = ap length moved.numbered ∙ length-set (numbers_of m s) h moved.number ∙ knows.room;
    harts = λ g here.
        subst (λ numbers. slice_index numbers g < length n.hart_states) (sym moved.numbered)
        (elim (cases_eq g h) [
          | inl same ↦
              subst (λ k. slice_index (slice_set (numbers_of m s) h moved.number) k < length n.hart_states) (sym same)
              (subst (λ k. k < length n.hart_states) (sym (get_or-set_same (numbers_of m s) h moved.number 0 in_room))
              (slice_get_within n.hart_states moved.number moved.moved moved.has))
          | inr other ↦
              let at : g < length (numbers_of m s) =
              omega (arith, ap length moved.numbered, length-set (numbers_of m s) h moved.number, here) in
              subst (λ k. k < length n.hart_states) (sym (get_or-set_other (numbers_of m s) h g moved.number 0 other))
              (kept_within m.hart_states n.hart_states (slice_index (numbers_of m s) g) (hart_in m s h)
              grows.hart_states (knows.harts g at))
        ]);
    absent = λ g beyond.
        let at : m.program.harts ≤ g = subst (λ (p : Program). p.harts ≤ g) grows.program beyond in
        let other : g ≢ h = omega (arith, at) in
        ap (λ numbers. slice_index numbers g) moved.numbered
        ∙ get_or-set_other (numbers_of m s) h g moved.number 0 other ∙ knows.absent g at;
    far = moved.far;
    shared = slice_get_within n.shared_states t.shared moved.shared.after moved.shared.has;
    dropped =
        subst (λ (p : Program). AreDropped p (decoded n t)) (sym grows.program)
        (dropped_next m.program (decoded m s) (decoded n t) h steps moved.done moved.moved inside next knows.dropped);
  }

  pub made : InEachSetup n.program (λ setup. MakesMove setup n s h steps t)
  made = λ setup image harts.
      let now = makes setup (image ∙ ap (λ (p : Program). p.image) grows.program)
      (harts ∙ ap (λ (p : Program). p.harts) grows.program) in
      let then = subst (λ p. Makes setup p (decoded n s)) (sym grows.program)
      (subst (λ d. Makes setup m.program d) (sym (still_decoded m n s grows knows)) now) in
      record {
        can = then.0;
        fits = then.1;
        leads = then.2;
        knows = known;
      }
