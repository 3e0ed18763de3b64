-- A local step is still local behind a step that fits of another hart.
use Rattle.std.specs.Prelude.{◌≡◌, ℕ, Bool, true, false, not, ◌==◌, ◌&&◌, ◌||◌}
use Rattle.std.specs.List.{list_all}
use Rattle.std.proofs.Common.{◌∙◌, refl, sym, ap₂, subst, inl, inr, arith}
use Rattle.std.proofs.{lemmas.Bool.cases_Bool, lemmas.Bool.Decides.nat_tests}
use Rattle.elf_image.specs.Image.{ProgramImage}
use Rattle.events.specs.{declared.effect.Next.Next}
use Rattle.events.specs.declared.effect.Next.TheVariants.{Pc, Ended, Stopped}
use Rattle.smt_model.specs.{Setup.Setup, Exec.Computed, Nexts.pc_after, declared.config.Status.Status}
use Rattle.smt_model.specs.{Basics.below, Kinds.kind_of, Words.Op}
use Rattle.smt_model.specs.Reservations.{holds_word}
use Rattle.smt_model.specs.Plain.{Plain, status_after, is_going_status, op_at_pc, computes, effect_at}
use Rattle.outcome_laws.specs.Paths.{can_step, stepped}
use Rattle.outcome_laws.specs.Tables.{Tables, IsTables, IsAsCoded, op_at, may_change, may_go, is_conditional}
use Rattle.outcome_laws.specs.Local.{Use, accesses, fetches, goes_on_within, fits}
use Rattle.outcome_laws.specs.Local.{apart_from, is_apart, lacks_reservation, is_local, Commute, LocalStepsCommute}
use Rattle.outcome_laws.proofs.Facts.{first_of_both, second_of_both, both_of, either_left, either_right, is_false}
use Rattle.outcome_laws.proofs.Facts.{not_true, one_of_two, different, below_all, below_each, all_weaker}
use Rattle.outcome_laws.proofs.{Known.goes_by_image}
use Rattle.outcome_laws.proofs.Local.{finds_op, finds, fits_still, pc_still}
use Rattle.outcome_laws.proofs.Commuting as commuting

-- ---- What another hart may do yet

-- A hart that goes on may do no more than it might; one that is over does nothing.
apart_by : (image : ProgramImage) (tables : Tables) → IsTables image tables → (h pc : ℕ) (op : Op) (status : Status)
    (next : Next) (what : ℕ) (writes : Bool)
    → ((to : ℕ) → next ≡ Pc to → may_go (may_change image tables) tables.targets (op_at image pc) pc to ≡ true)
    → (not (is_going_status status) || not (tables.ahead h pc what writes)) ≡ true
    → (not (is_going_status (status_after next status)) || not (tables.ahead h (pc_after next pc) what writes)) ≡ true
apart_by image tables good h pc op status (Pc to) what writes goes apart =
    elim (one_of_two (not (is_going_status status)) (not (tables.ahead h pc what writes)) apart) [
      | inl over ↦ either_left (not (is_going_status status)) (not (tables.ahead h to what writes)) over
      | inr none ↦
          let less : tables.ahead h to what writes ≡ false =
          is_false (tables.ahead h to what writes) (tables.ahead h pc what writes)
          (good.ahead.stays h pc to what writes (goes to refl)) (not_true (tables.ahead h pc what writes) none) in
          either_right (not (is_going_status status)) (not (tables.ahead h to what writes)) (rw less refl)
    ]
apart_by image tables good h pc op status (Ended n) what writes goes apart = refl
apart_by image tables good h pc op status (Stopped cause) what writes goes apart = refl

regroup : (a b c : Bool) → (a || b || c) ≡ true → a ≡ false → (b || c) ≡ true
regroup true b c any none = absurd (grind arith)
regroup false b c any none = any

ungroup : (a b c : Bool) → a ≡ false → (b || c) ≡ true → (a || b || c) ≡ true
ungroup a b c none rest = rw none rest

module _ (setup : Setup) (tables : Tables) (good : IsTables setup.image tables) (g h : ℕ) (s : Plain)
    (apart : (h == g) ≡ false) (coded : IsAsCoded setup tables s) (can : can_step setup h s ≡ true)
    (local : is_local setup tables g s ≡ true) (fitting : fits setup tables h s ≡ true) where
  abbrev sh : Plain
  sh = stepped setup h s

  goes : (to : ℕ) → (effect_at setup s h).next ≡ Pc to
      → may_go (may_change setup.image tables) tables.targets (op_at setup.image (s.pcs h)) (s.pcs h) to ≡ true
  goes to is =
      let same : (computes setup s h).next ≡ Pc to =
      sym (commuting.next_h setup tables good g h s apart coded can local fitting) ∙ is in
      goes_by_image setup tables h s to coded
      (subst (λ next. goes_on_within setup.image tables (op_at_pc setup s h) (s.pcs h) next ≡ true) same
      (commuting.knows setup tables good g h s apart coded can local fitting).goes)

  apart_of_h : (u : Use) → apart_from tables g s h u ≡ true → apart_from tables g sh h u ≡ true
  apart_of_h u is =
      let self : (h == h) ≡ true = grind (arith, nat_tests) in
      let next = (effect_at setup s h).next in
      ungroup (h == g) (not (is_going_status (sh.statuses h))) (not (tables.ahead h (sh.pcs h) u.what (not u.writes)))
      apart
      (rw self (apart_by setup.image tables good h (s.pcs h) (op_at_pc setup s h) (s.statuses h) next u.what
      (not u.writes) goes
      (regroup (h == g) (not (is_going_status (s.statuses h))) (not (tables.ahead h (s.pcs h) u.what (not u.writes)))
      is apart)))

  apart_of_each : (u : Use) (k : ℕ) → apart_from tables g s k u ≡ true → apart_from tables g sh k u ≡ true
  apart_of_each u k is =
      elim (cases_Bool (k == h)) [
        | inl same ↦
            let one : h ≡ k = grind (arith, nat_tests) in
            subst (λ j. apart_from tables g sh j u ≡ true) one
            (apart_of_h u (subst (λ j. apart_from tables g s j u ≡ true) (sym one) is))
        | inr other ↦ rw other is
      ]

  still_apart : (u : Use) → is_apart setup tables g s u ≡ true → is_apart setup tables g sh u ≡ true
  still_apart u is =
      let hidden = not (u.writes && tables.seen u.what) in
      let all = list_all (λ k. apart_from tables g s k u) (below setup.harts) in
      both_of hidden (list_all (λ k. apart_from tables g sh k u) (below setup.harts)) (first_of_both hidden all is)
      (below_all (λ k. apart_from tables g sh k u) setup.harts (λ k less.
      apart_of_each u k
      (below_each (λ j. apart_from tables g s j u) setup.harts (second_of_both hidden all is) k less)))

  abbrev tests : Plain → Bool
  tests z = list_all (is_apart setup tables g z) (fetches setup.image tables (z.pcs g))

  abbrev access_tests : Plain → Bool
  access_tests z = list_all (is_apart setup tables g z) (accesses (op_at_pc setup z g) (computes setup z g))

  back : (g == h) ≡ false
  back = commuting.back setup tables good g h s apart coded can local fitting

  after : IsAsCoded setup tables sh
  after = commuting.coded_h setup tables good g h s apart coded can local fitting

  still_fetched : tests s ≡ true → tests sh ≡ true
  still_fetched all =
      subst (λ pc. list_all (is_apart setup tables g sh) (fetches setup.image tables pc) ≡ true)
      (sym (pc_still setup h g s back))
      (all_weaker (is_apart setup tables g s) (is_apart setup tables g sh) (fetches setup.image tables (s.pcs g))
      still_apart
      all)

  same_op : op_at_pc setup sh g ≡ op_at_pc setup s g
  same_op =
      finds_op setup tables h g s coded after back
      (commuting.fetch_of_g setup tables good g h s apart coded can local fitting)

  same_computes : computes setup sh g ≡ computes setup s g
  same_computes =
      finds setup tables h g s coded after back
      (commuting.fetch_of_g setup tables good g h s apart coded can local fitting)

  still_accessed : access_tests s ≡ true → access_tests sh ≡ true
  still_accessed all =
      ap₂ (λ op c. list_all (is_apart setup tables g sh) (accesses op c)) same_op same_computes
      ∙ all_weaker (is_apart setup tables g s) (is_apart setup tables g sh)
      (accesses (op_at_pc setup s g) (computes setup s g)) still_apart all

  still_lacks : lacks_reservation setup g s ≡ true → lacks_reservation setup g sh ≡ true
  still_lacks lacks =
      let op = op_at_pc setup s g in
      let c = computes setup s g in
      let held = holds_word (s.reserved g) c.addr in
      let is = first_of_both (is_conditional (kind_of op)) (not held) lacks in
      let none = commuting.never_g setup tables good g h s apart coded can local fitting
      (not_true held (second_of_both (is_conditional (kind_of op)) (not held) lacks)) in
      ap₂ (λ (o : Op) (e : Computed). is_conditional (kind_of o) && not (holds_word (sh.reserved g) e.addr)) same_op
      same_computes
      ∙ both_of (is_conditional (kind_of op)) (not (holds_word (sh.reserved g) c.addr)) is (rw none refl)

  pub local_still : is_local setup tables g sh ≡ true
  local_still =
      let fitting_g = first_of_both (fits setup tables g s) _ local in
      let rest = second_of_both (fits setup tables g s)
      (tests s && (access_tests s || lacks_reservation setup g s)) local in
      let fetched = first_of_both (tests s) (access_tests s || lacks_reservation setup g s) rest in
      let either = second_of_both (tests s) (access_tests s || lacks_reservation setup g s) rest in
      both_of (fits setup tables g sh) (tests sh && (access_tests sh || lacks_reservation setup g sh))
      (fits_still setup tables h g s coded after back
      (commuting.fetch_of_g setup tables good g h s apart coded can local fitting) ∙ fitting_g)
      (both_of (tests sh) (access_tests sh || lacks_reservation setup g sh) (still_fetched fetched)
      (elim (one_of_two (access_tests s) (lacks_reservation setup g s) either) [
        | inl all ↦ either_left (access_tests sh) (lacks_reservation setup g sh) (still_accessed all)
        | inr lacks ↦ either_right (access_tests sh) (lacks_reservation setup g sh) (still_lacks lacks)
      ]))

-- ---- The law

pub commute : (setup : Setup) (tables : Tables) → IsTables setup.image tables → (g h : ℕ) (s : Plain)
    → (h == g) ≡ false → IsAsCoded setup tables s → can_step setup h s ≡ true → is_local setup tables g s ≡ true
    → fits setup tables h s ≡ true → Commute setup tables g h s
commute setup tables good g h s apart coded can local fitting = record {
  same = commuting.commutes setup tables good g h s apart coded can local fitting;
  local = local_still setup tables good g h s apart coded can local fitting;
}

pub local_steps_commute : LocalStepsCommute
local_steps_commute setup tables good g h s other coded can_g can_h local fitting =
    commute setup tables good g h s (different g h other) coded can_h local fitting
