-- A hart that has lost its reservation follows its local steps: from the parts of the state before to those behind.
use Rattle.std.proofs.Common.{◌≡◌, ◌≢◌, ℕ, ◌<◌, ◌≤◌, true, false, None, replicate, length, map}
use Rattle.std.proofs.Common.{refl, sym, ap, subst, ◌∙◌, arith, inl, inr}
use Rattle.std.specs.Prelude.{◌==◌, ◌&&◌, slice_index, slice_set, nat_lt}
use Rattle.std.proofs.lemmas.{Bool.cases_eq, Bool.Decides.nat_tests}
use Rattle.std.proofs.lemmas.List.{get_or-set_other, get_or-set_same, length-set}
use Rattle.std.proofs.lemmas.Option.{get_or_from_slice_get, slice_get_within}
use Rattle.smt_model.specs.{Setup.Setup, Plain.Plain, Plain.is_going_status}
use Rattle.outcome_laws.specs.{Live.reservation_matters, Paths.HasItsCode}
use Rattle.condensed_machine.specs.Machine.{keeps_at}
use Rattle.sc_machine.specs.declared.hart.Hart.{Hart}
use Rattle.changed_memory.specs.Shared.{Shared, reserved_at}
use Rattle.condensed_machine.specs.Machine.{HasCode, Grows, IsSound, Machine, Program, tables_of}
use Rattle.condensed_machine.specs.Decoded.{AreDropped, Decoded, Knows, decoded, full, hart_at, hart_in, no_hart}
use Rattle.condensed_machine.specs.Decoded.{no_shared, numbers_of, pc_of, status_of}
use Rattle.condensed_machine.specs.{Executing.ComesToRest, Settling.GoesOn, Steps.SettlesBy}
use Rattle.condensed_machine.specs.Learning.{kept_at, kept_within, still_decoded, still_knows, still_numbered}
use Rattle.condensed_machine.specs.Losing.{FollowsBy, IsFreeIn, IsRestOf}
use Rattle.condensed_machine.specs.{Numbering.HasMoved, declared.losing.Rest.Rest, declared.state.State.State}
use Rattle.condensed_machine.proofs.Alike.{IsKeptAs, alike_by_harts, full_as, full_beyond, rests_as, stays_as}
use Rattle.condensed_machine.proofs.Alike.{still_beyond}
use Rattle.condensed_machine.proofs.{Coded.code_in, Instructions.has_targets, Moving.hart_is, Moving.shared_is}
use Rattle.condensed_machine.proofs.Numbers.{hart_of_number, other_number, own_number}

-- Hart g of d, which has no reservation there, has come to rest as y in e, and nothing else has changed.
pub record HasRested (p : Program) (d e : Decoded) (g steps : ℕ) (y : Hart) : Type 0 where
  pub zero : slice_index (hart_at d.harts g).registers 0 ≡ 0
  pub free : reserved_at d.shared g ≡ None
  pub rests : ComesToRest p true (hart_at d.harts g) steps y
  pub own : hart_at e.harts g ≡ y
  pub others : (k : ℕ) → k ≢ g → hart_at e.harts k ≡ hart_at d.harts k
  pub shared : e.shared ≡ d.shared

module _ (p : Program) (d e : Decoded) (g steps : ℕ) (y : Hart) (inside : g < p.harts)
    (rested : HasRested p d e g steps y) where
  there : nat_lt g p.harts ≡ true
  there = grind (arith, nat_tests)

  module _ (code : HasCode p.image d.shared) (setup : Setup) (image : setup.image ≡ p.image)
      (harts : setup.harts ≡ p.harts) where
    goes : GoesOn setup (tables_of p) g steps (full p d) rested.rests.moved
    goes =
        rested.rests.settles.leads setup (tables_of p) g (full p d) (has_targets p) image (omega (arith, harts))
        (code_in setup p.image (full p d) d.shared image (shared_is p d) code) (hart_is p d g inside rested.zero)
        (λ told. rested.free)

    kept : (k : ℕ) → IsKeptAs p goes.there k (hart_at e.harts k)
    kept k = elim (cases_eq k g) [
      | inl own ↦
          subst (λ j. IsKeptAs p goes.there j (hart_at e.harts j)) (sym own)
          (subst (IsKeptAs p goes.there g) (sym rested.own)
          (rests_as p goes.there g rested.rests.moved y there goes.agrees rested.rests.rested
          (still_beyond p g (full p d) goes.there goes.others.harts (full_beyond p d))))
      | inr other ↦
          let apart : (k == g) ≡ false = grind (arith, nat_tests) in
          subst (IsKeptAs p goes.there k) (sym (rested.others k other))
          (stays_as p g k (full p d) goes.there (hart_at d.harts k) apart goes.others.harts (full_as p d k))
    ]

    pub rests_by : SettlesBy setup p (replicate steps g) (full p d) (full p e)
    rests_by =
        subst (λ (shared : Shared). SettlesBy setup p (replicate steps g) (full p d)
        (full p (record { harts = e.harts; shared = shared }))) (sym rested.shared) (record {
          settles = record {
            order = replicate steps g;
            there = goes.there;
            local = goes.local;
            alike = alike_by_harts p goes.there (record { harts = e.harts; shared = d.shared }) kept (record {
              reserved = λ k matter. sym (goes.others.reserved k);
              bytes = λ a. sym (goes.others.bytes a);
              output = sym goes.others.output;
            });
          };
          by = refl;
        })

  -- A reservation that isn't kept isn't there.
  other_dropped : AreDropped p d → (k : ℕ) → k ≢ g → reservation_matters (keeps_at p) (full p e) k ≡ false
      → reserved_at e.shared k ≡ None
  other_dropped was k other lost =
      ap (λ (shared : Shared). reserved_at shared k) rested.shared
      ∙ was k (
      ap (λ x. is_going_status (status_of p k x) && keeps_at p (pc_of p k x)) (sym (rested.others k other)) ∙ lost
      )

  pub rests_dropped : AreDropped p d → AreDropped p e
  rests_dropped was k lost = elim (cases_eq k g) [
    | inl same ↦
        ap (λ (shared : Shared). reserved_at shared k) rested.shared
        ∙ subst (λ j. reserved_at d.shared j ≡ None) (sym same) rested.free
    | inr other ↦ other_dropped was k other lost
  ]

-- ---- By the numbers of parts

-- The machine k knows what hart g, which has no reservation in s, comes to; it has become n as it numbered the state t.
pub record HasFollowedOne (k n : Machine) (s t : State) (g number : ℕ) (to : Rest) : Type 0 where
  pub sound : IsSound k.program
  pub knows : Knows k s
  pub inside : g < k.program.harts
  pub free : IsFreeIn k s g
  pub code : HasCode k.program.image (decoded k s).shared
  pub rest : IsRestOf k number to
  pub of_number : number ≡ slice_index (numbers_of k s) g
  pub grows : Grows k n
  pub moved : HasMoved k.far_harts n.far_harts s g to.number s.shared t

module _ (k n : Machine) (s t : State) (g number : ℕ) (to : Rest) (one : HasFollowedOne k n s t g number to) where
  in_room : g < length (numbers_of k s)
  in_room =
      let few = one.sound.few in
      let room = one.knows.room in
      let inside = one.inside in
      omega (arith, few, room, inside)

  here_is : one.rest.here ≡ hart_in k s g
  here_is =
      sym (get_or_from_slice_get k.hart_states number one.rest.here no_hart one.rest.at)
      ∙ ap (hart_at k.hart_states) one.of_number
      ∙ sym (hart_of_number k.hart_states (numbers_of k s) g in_room)

  own : hart_at (decoded n t).harts g ≡ one.rest.moved
  own =
      ap (λ numbers. hart_at (map (hart_at n.hart_states) numbers) g) one.moved.numbers_are
      ∙ own_number n.hart_states (numbers_of k s) g to.number one.rest.moved in_room
      (one.grows.hart_states to.number one.rest.moved one.rest.has)

  others : (j : ℕ) → j ≢ g → hart_at (decoded n t).harts j ≡ hart_at (decoded k s).harts j
  others j other =
      ap (λ numbers. hart_at (map (hart_at n.hart_states) numbers) j) one.moved.numbers_are
      ∙ other_number n.hart_states (numbers_of k s) g j to.number other
      ∙ ap (λ numbers. hart_at (map (hart_at n.hart_states) numbers) j)
      (sym (still_numbered k n s one.grows one.knows))
      ∙ ap (λ (d : Decoded). hart_at d.harts j) (still_decoded k n s one.grows one.knows)

  rested : HasRested k.program (decoded k s) (decoded n t) g to.steps one.rest.moved
  rested = record {
    zero = subst (λ (x : Hart). slice_index x.registers 0 ≡ 0) here_is one.rest.zero;
    free = one.free;
    rests = subst (λ (x : Hart). ComesToRest k.program true x to.steps one.rest.moved) here_is one.rest.rests;
    own = own;
    others = others;
    shared =
        ap (λ shared. (decoded n (record { near = t.near; far = t.far; shared = shared })).shared) one.moved.shared_is
        ∙ kept_at k.shared_states n.shared_states s.shared no_shared one.grows.shared_states one.knows.shared;
  }

  abbrev Leads : Setup → Program → Decoded → Type 0
  Leads setup p d = SettlesBy setup p (replicate to.steps g) (full p d) (full p (decoded n t))

  pub follows_one : FollowsBy n (replicate to.steps g) s t
  follows_one setup image harts =
      subst (λ p. Leads setup p (decoded n s)) (sym one.grows.program)
      (subst (Leads setup k.program) (sym (still_decoded k n s one.grows one.knows))
      (rests_by k.program (decoded k s) (decoded n t) g to.steps one.rest.moved one.inside rested one.code setup
      (image ∙ ap (λ (p : Program). p.image) one.grows.program)
      (harts ∙ ap (λ (p : Program). p.harts) one.grows.program)))

  within : (j : ℕ) → j < length (numbers_of n t)
      → slice_index (slice_set (numbers_of k s) g to.number) j < length n.hart_states
  within j here = elim (cases_eq j g) [
    | inl same ↦
        subst (λ i. slice_index (slice_set (numbers_of k s) g to.number) i < length n.hart_states) (sym same)
        (subst (λ i. i < length n.hart_states) (sym (get_or-set_same (numbers_of k s) g to.number 0 in_room))
        (slice_get_within n.hart_states to.number one.rest.moved
        (one.grows.hart_states to.number one.rest.moved one.rest.has)))
    | inr other ↦
        let at : j < length (numbers_of k s) =
        omega (arith, ap length one.moved.numbers_are, length-set (numbers_of k s) g to.number, here) in
        subst (λ i. i < length n.hart_states) (sym (get_or-set_other (numbers_of k s) g j to.number 0 other))
        (kept_within k.hart_states n.hart_states (slice_index (numbers_of k s) j) no_hart one.grows.hart_states
        (one.knows.harts j at))
  ]

  pub knows_one : Knows n t
  knows_one = record {
    near = one.moved.near;
    room =
        ap length one.moved.numbers_are ∙ length-set (numbers_of k s) g to.number ∙ one.knows.room;
    harts = λ j here.
        subst (λ numbers. slice_index numbers j < length n.hart_states) (sym one.moved.numbers_are) (within j here);
    absent = λ j beyond.
        let at : k.program.harts ≤ j = subst (λ (p : Program). p.harts ≤ j) one.grows.program beyond in
        let inside = one.inside in
        let other : j ≢ g = omega (arith, at, inside) in
        ap (λ numbers. slice_index numbers j) one.moved.numbers_are
        ∙ get_or-set_other (numbers_of k s) g j to.number 0 other ∙ one.knows.absent j at;
    far = one.moved.known;
    shared =
        subst (λ i. i < length n.shared_states) (sym one.moved.shared_is)
        (kept_within k.shared_states n.shared_states s.shared no_shared one.grows.shared_states one.knows.shared);
    dropped =
        subst (λ (p : Program). AreDropped p (decoded n t)) (sym one.grows.program)
        (rests_dropped k.program (decoded k s) (decoded n t) g to.steps one.rest.moved one.inside rested
        one.knows.dropped);
  }
