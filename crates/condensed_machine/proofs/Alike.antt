-- The state in which a hart has come to rest is alike to the one that is kept of it.
use Rattle.std.proofs.Common.{◌≡◌, ◌≢◌, ℕ, ◌<◌, ◌≤◌, Bool, true, false}
use Rattle.std.proofs.Common.{refl, sym, ap, ◌∙◌, arith, inl, inr}
use Rattle.std.specs.Prelude.{◌==◌, ◌&&◌, ◌||◌, if◌then◌else◌, nat_lt, slice_index}
use Rattle.std.proofs.lemmas.Bool.{cases_lt, Decides.nat_tests}
use Rattle.smt_model.specs.{Setup.first_number, declared.config.Status.TheVariants.Going}
use Rattle.smt_model.specs.Plain.{Plain, is_going_status, read_register}
use Rattle.outcome_laws.specs.Live.{AreAlike, matters, reservation_matters}
use Rattle.live_registers.specs.Table.{live_of}
use Rattle.changed_memory.specs.Shared.{Shared, byte_at, reserved_at}
use Rattle.sc_machine.specs.{Harts.HartAgrees, declared.hart.Hart.Hart}
use Rattle.condensed_machine.specs.Machine.{keeps_at}
use Rattle.condensed_machine.specs.{Settling.HartsStay, Resting.IsRested, Resting.is_watched, Resting.is_kept}
use Rattle.condensed_machine.specs.{Machine.Program, Machine.tables_of, Decoded.Decoded, Decoded.full, Decoded.hart_at}
use Rattle.condensed_machine.specs.{Decoded.register_of, Decoded.pc_of, Decoded.status_of}
use Rattle.condensed_machine.proofs.Instructions.{both, second_no}

-- Hart h of s is y, but for registers that nobody reads again.
pub record IsKeptAs (p : Program) (s : Plain) (h : ℕ) (y : Hart) : Type 0 where
  pub pc : s.pcs h ≡ pc_of p h y
  pub status : s.statuses h ≡ status_of p h y
  pub registers : (r : ℕ) → r ≢ 0 → matters (is_watched p.watched) (live_of p.live) s h r ≡ true
      → s.registers h r ≡ register_of p h y r

-- What the harts share is so in s, but for reservations that nobody uses again.
pub record SharedIsKept (p : Program) (s : Plain) (shared : Shared) : Type 0 where
  pub reserved : (h : ℕ) → reservation_matters (keeps_at p) s h ≡ true → reserved_at shared h ≡ s.reserved h
  pub bytes : (a : ℕ) → byte_at p.image shared a ≡ s.bytes a
  pub output : shared.output ≡ s.output

pub alike_by_harts : (p : Program) (s : Plain) (d : Decoded)
    → ((h : ℕ) → IsKeptAs p s h (hart_at d.harts h)) → SharedIsKept p s d.shared
    → AreAlike (is_watched p.watched) (tables_of p) s (full p d)
alike_by_harts p s d kept shared = record {
  pcs = λ h. (kept h).pc;
  statuses = λ h. (kept h).status;
  reserved = λ h matter. sym (shared.reserved h matter);
  bytes = λ a. sym (shared.bytes a);
  output = sym shared.output;
  registers = λ h r some matter. (kept h).registers r some matter;
}

-- ---- The registers of a hart in a state

abbrev register_by : Program → ℕ → Hart → ℕ → Bool → ℕ
register_by p h x r there = if there then slice_index x.registers r else first_number p.harts h r

pub register_in : (p : Program) (h : ℕ) (x : Hart) (r : ℕ) → nat_lt h p.harts ≡ true → r < 32
    → register_of p h x r ≡ slice_index x.registers r
register_in p h x r there below =
    let small : nat_lt r 32 ≡ true = grind (arith, nat_tests) in
    ap (register_by p h x r) (both (nat_lt h p.harts) (nat_lt r 32) there small)

pub register_beyond : (p : Program) (h : ℕ) (x : Hart) (r : ℕ) → 32 ≤ r
    → register_of p h x r ≡ first_number p.harts h r
register_beyond p h x r past =
    let large : nat_lt r 32 ≡ false = grind (arith, nat_tests) in
    ap (register_by p h x r) (second_no (nat_lt h p.harts) (nat_lt r 32) large)

pub register_absent : (p : Program) (h : ℕ) (x : Hart) (r : ℕ) → nat_lt h p.harts ≡ false
    → register_of p h x r ≡ first_number p.harts h r
register_absent p h x r absent =
    ap (λ b. register_by p h x r (b && nat_lt r 32)) absent

-- No register beyond the last was ever written.
abbrev pub IsFirstBeyond : Program → Plain → Type 0
IsFirstBeyond p s = (g r : ℕ) → 32 ≤ r → s.registers g r ≡ first_number p.harts g r

pub full_beyond : (p : Program) (d : Decoded) → IsFirstBeyond p (full p d)
full_beyond p d g r past = register_beyond p g (hart_at d.harts g) r past

pub still_beyond : (p : Program) (h : ℕ) (s t : Plain) → HartsStay h s t → IsFirstBeyond p s → IsFirstBeyond p t
still_beyond p h s t stay first g r past = stay.beyond g r past ∙ first g r past

-- ---- A hart that has come to rest

module _ (p : Program) (s : Plain) (h : ℕ) (x y : Hart) (there : nat_lt h p.harts ≡ true) (is : HartAgrees s h x)
    (rested : IsRested p.live p.watched x y) (first : IsFirstBeyond p s) where
  register_rested : (r : ℕ) → r ≢ 0 → r < 32
      → matters (is_watched p.watched) (live_of p.live) s h r ≡ true → s.registers h r ≡ slice_index y.registers r
  register_rested r some below matter =
      let some_one : 0 < r = omega arith in
      let nonzero : (r == 0) ≡ false = grind (arith, nat_tests) in
      let held : read_register s h r ≡ s.registers h r = ap (λ b. if b then 0 else s.registers h r) nonzero in
      let test : is_kept p.live p.watched x.pc (is_going_status x.status) r ≡ true =
      ap (λ pc. is_kept p.live p.watched pc (is_going_status x.status) r) is.pc
      ∙ ap (λ status. is_kept p.live p.watched (s.pcs h) (is_going_status status) r) is.status ∙ matter in
      let kept = ap (λ b. if b then slice_index x.registers r else 0) test in
      sym held ∙ sym (is.registers r below) ∙ sym (rested.registers r some_one below ∙ kept)

  pub rests_as : IsKeptAs p s h y
  rests_as = record {
    pc = sym (ap (λ b. if b then y.pc else p.image.entry) there ∙ rested.pc ∙ is.pc);
    status = sym (ap (λ b. if b then y.status else Going) there ∙ rested.status ∙ is.status);
    registers = λ r some matter. elim (cases_lt r 32) [
      | inl below ↦ register_rested r some below matter ∙ sym (register_in p h y r there below)
      | inr past ↦ first h r past ∙ sym (register_beyond p h y r past)
    ];
  }

-- A hart that has stayed.
pub stays_as : (p : Program) (h g : ℕ) (s t : Plain) (y : Hart) → (g == h) ≡ false → HartsStay h s t
    → IsKeptAs p s g y → IsKeptAs p t g y
stays_as p h g s t y apart stay kept = record {
  pc = stay.pcs g apart ∙ kept.pc;
  status = stay.statuses g apart ∙ kept.status;
  registers = λ r some matter.
      stay.registers g r apart
      ∙ kept.registers r some
      (ap (λ status. is_watched p.watched r || (is_going_status status && live_of p.live (s.pcs g) r))
      (sym (stay.statuses g apart))
      ∙ ap (λ pc. is_watched p.watched r || (is_going_status (t.statuses g) && live_of p.live pc r))
      (sym (stay.pcs g apart)) ∙ matter);
}

-- Each hart of a state is what stands in it.
pub full_as : (p : Program) (d : Decoded) (h : ℕ) → IsKeptAs p (full p d) h (hart_at d.harts h)
full_as p d h = record { pc = refl; status = refl; registers = λ r some matter. refl }
