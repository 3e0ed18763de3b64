-- Where an instruction is in the parts is where it is in the history.
use Rattle.std.specs.Prelude.{◌≡◌, ℕ, ◌<◌, ◌≤◌, ◌==◌, Bool, true, false, List, [], ◌∷◌, map, find, filter, length, Option}
use Rattle.std.specs.Prelude.{Some, None, is_some, IfSome, IfNone, slice_index_or}
use Rattle.std.specs.List.{AllByRecursion, list_any}
use Rattle.std.proofs.Common.{◌∙◌, refl, sym, ap, subst, inl, inr, arith}
use Rattle.std.proofs.{lemmas.Bool.cases_Bool, lemmas.Bool.cases_lt, lemmas.Bool.false≢true}
use Rattle.std.proofs.{lemmas.Bool.Decides.nat_tests, lemmas.Option.none-some, lemmas.Option.same_Some}
use Rattle.numbers.specs.Sizes.{most_harts}
use Rattle.events.specs.declared.event.Event.{Event}
use Rattle.retire_squash.specs.declared.active.Active.{Active}
use Rattle.smt_model.specs.{Basics.holds_of, Setup.Setup, Picture.Picture, Picture.picture, Rules.is_legal}
use Rattle.smt_model.specs.Fates.{Fate, fate, is, is_of, is_in_flight, stage, InDecode, InRename}
use Rattle.smt_model.specs.Flights.{numbers, in_decode, in_rename, flight}
use Rattle.smt_model.proofs.Lists.{member, member-filter, filter-member}
use Rattle.smt_laws.proofs.Fates.Choosing.{hart_there}
use Rattle.smt_model.proofs.Fates.Moves.{fate_at, stage_of}
use Rattle.smt_model.proofs.Fates.Numbers.{numbers-of, numbers-member, known_fetched}
use Rattle.core_parts.specs.Agree.{IsActive, IsSlot, HartAgrees, PartsAgree}
use Rattle.core_state.specs.{State.IsCore, State.past_of, State.setup_in, State.view_of, View.CoreView}
use Rattle.core_parts.specs.Place.{slot_in, member_in, InDecodeLatch, InRenameLatch, InActiveList}
use Rattle.core_parts.specs.{declared.hart.HartState.HartState, declared.slot.Slot.Slot}
use Rattle.core_state.specs.{declared.state.State.TheInside.Inside}
use Rattle.core_parts.proofs.{Agreement.Harts.stage_flies}
use Rattle.core_state.proofs.{Steps.Complete.Job.member_any}

-- ---- Members

-- What is found has the number, and what all have.
pub found : {A : Type 0} → (number : A → ℕ) (P : A → Type 0) (s : ℕ) (xs : List A) (a : A) → AllByRecursion P xs
    → find (λ x. number x == s) xs ≡ Some a → P a × (number a ≡ s)
found number P s [] a all is = absurd (none-some a is)
found number P s (x ∷ xs) a all is = elim (cases_Bool (number x == s)) [
  | inl t ↦
      let same = same_Some x a (rw t at is) in
      let own : number x ≡ s = grind (arith, nat_tests) in
      (subst P same all.0, ap number (sym same) ∙ own)
  | inr f ↦ found number P s xs a all.1 (rw f at is)
]

found_member : {A : Type 0} → (number : A → ℕ) (s : ℕ) (xs : List A) (a : A) → find (λ x. number x == s) xs ≡ Some a
    → member s (map number xs) ≡ true
found_member number s [] a is = absurd (none-some a is)
found_member number s (x ∷ xs) a is = elim (cases_Bool (number x == s)) [
  | inl t ↦ rw t refl
  | inr f ↦ rw f (found_member number s xs a (rw f at is))
]

pub missing : {A : Type 0} → (number : A → ℕ) (s : ℕ) (xs : List A) → find (λ x. number x == s) xs ≡ None
    → member s (map number xs) ≡ false
missing number s [] none = refl
missing number s (x ∷ xs) none = elim (cases_Bool (number x == s)) [
  | inl t ↦ absurd (none-some x (sym (rw t at none)))
  | inr f ↦ rw f (missing number s xs (rw f at none))
]

-- ---- A hart that has it, and one that hasn't

module _ (setup : Setup) (past : List Event) (legal : is_legal setup past) (h s : ℕ) (x : HartState)
    (agrees : HartAgrees (picture setup past) h x) where
  pub decoding : (y : Slot) → slot_in x.decode_latch.items s ≡ Some y → (is_of past h s ≡ true) × (fate past s ≡ InDecode)
  decoding y at =
      let m : member s (in_decode past h) ≡ true =
      subst (λ ns. member s ns ≡ true) agrees.decode_latch (found_member (λ z. z.seq) s x.decode_latch.items y at) in
      let there = member-filter (λ t. is (fate past t) InDecode) s (numbers past h) m in
      (numbers-of setup past legal h s there.0, fate_at (fate past s) InDecode (stage_of (fate past s) InDecode there.1))

  pub renaming : (y : Slot) → slot_in x.rename_latch.items s ≡ Some y
      → (is_of past h s ≡ true) × ((fate past s ≡ InRename) × (IsSlot (picture setup past) h y × (y.seq ≡ s)))
  renaming y at =
      let m : member s (in_rename past h) ≡ true =
      subst (λ ns. member s ns ≡ true) agrees.rename_latch (found_member (λ z. z.seq) s x.rename_latch.items y at) in
      let there = member-filter (λ t. is (fate past t) InRename) s (numbers past h) m in (
        numbers-of setup past legal h s there.0,
        (
          fate_at (fate past s) InRename (stage_of (fate past s) InRename there.1),
          found (λ z. z.seq) (IsSlot (picture setup past) h) s x.rename_latch.items y agrees.rename_slots at,
        ),
      )

  pub flying : (a : Active) → member_in x.active s ≡ Some a
      → (is_of past h s ≡ true) × (IsActive (picture setup past) h a × (a.seq ≡ s))
  flying a is =
      let it = found (λ z. z.seq) (IsActive (picture setup past) h) s x.active a agrees.actives is in
      let of_hart : is_of past h a.seq ≡ true =
      ap (holds_of (λ f. f.hart == h)) it.0.fetched ∙ (grind (arith, nat_tests)) in
      (subst (λ n. is_of past h n ≡ true) it.1 of_hart, it)

  absent : (test : ℕ → Bool) (xs : List ℕ) → filter test (numbers past h) ≡ xs → member s xs ≡ false
      → is_of past h s ≡ true → test s ≡ false
  absent test xs are none of_h = elim (cases_Bool (test s)) [
    | inl t ↦
        let m = filter-member test s (numbers past h) (numbers-member setup past legal h s of_h) t in
        absurd (false≢true (sym none ∙ (ap (member s) (sym are) ∙ m)))
    | inr f ↦ f
  ]

  pub not_decoding : slot_in x.decode_latch.items s ≡ None → is_of past h s ≡ true → is (fate past s) InDecode ≡ false
  not_decoding none of_h =
      absent (λ t. is (fate past t) InDecode) (map (λ z. z.seq) x.decode_latch.items) (sym agrees.decode_latch)
      (missing (λ z. z.seq) s x.decode_latch.items none) of_h

  pub not_renaming : slot_in x.rename_latch.items s ≡ None → is_of past h s ≡ true → is (fate past s) InRename ≡ false
  not_renaming none of_h =
      absent (λ t. is (fate past t) InRename) (map (λ z. z.seq) x.rename_latch.items) (sym agrees.rename_latch)
      (missing (λ z. z.seq) s x.rename_latch.items none) of_h

  pub not_flying : member_in x.active s ≡ None → is_of past h s ≡ true → is_in_flight (fate past s) ≡ false
  not_flying none of_h =
      absent (λ t. is_in_flight (fate past t)) (map (λ z. z.seq) x.active) (sym agrees.active)
      (missing (λ z. z.seq) s x.active none) of_h

-- ---- The core's harts

pub first_hart : (harts : List HartState) (h : ℕ) → h < length harts → HartState
first_hart [] h inside = absurd (omega arith)
first_hart (x ∷ xs) h inside = x

some_slot : (o : Option Slot) → is_some o ≡ true → (y : Slot) × (o ≡ Some y)
some_slot None is = absurd (false≢true is)
some_slot (Some y) is = (y, refl)

module _ (i : Inside) (core : IsCore i) (s : ℕ) where
  -- What holds of an instruction that is of no hart, and of one whose own hart hasn't got it, holds of it.
  module _ (Gone : Fate → Type 0) (test : HartState → Type 0) (new : (f : Fate) → stage f ≡ 0 → Gone f)
      (own : (h : ℕ) (x : HartState) → HartAgrees (picture (setup_in i) (past_of i)) h x → test x
      → is_of (past_of i) h s ≡ true → Gone (fate (past_of i) s)) where
    pub nowhere : ((h : ℕ) (d : HartState) → h < length i.parts.harts.items
        → test (slice_index_or i.parts.harts.items h d)) → Gone (fate (past_of i) s)
    nowhere none = elim (cases_lt 0 (stage (fate (past_of i) s))) [
      | inl known ↦
          let is = known_fetched (setup_in i) (past_of i) core.legal s (omega arith) in
          let h = is.fetch.hart in
          let there = hart_there (setup_in i) (past_of i) core.legal h s is.of_hart in
          let inside = subst (λ n. h < n) (sym core.harts) there in
          let d = first_hart i.parts.harts.items h inside in
          own h (slice_index_or i.parts.harts.items h d) (core.agrees.harts h d inside) (none h d inside) is.of_hart
      | inr unknown ↦ new (fate (past_of i) s) (omega arith)
    ]

  module _ (h : ℕ) (inside : h < length i.parts.harts.items) where
    some_hart : HartState
    some_hart = first_hart i.parts.harts.items h inside

    abbrev own_hart : HartState
    own_hart = slice_index_or i.parts.harts.items h some_hart

    own_agrees : HartAgrees (picture (setup_in i) (past_of i)) h own_hart
    own_agrees = core.agrees.harts h some_hart inside

    own_inside : h < (setup_in i).harts
    own_inside = subst (λ n. h < n) core.harts inside

    pub decodes_at : ((d : HartState)
        → is_some (slot_in (slice_index_or i.parts.harts.items h d).decode_latch.items s) ≡ true)
        → InDecodeLatch (setup_in i) (past_of i) h s
    decodes_at there =
        let some = some_slot (slot_in own_hart.decode_latch.items s) (there some_hart) in
        let it = decoding (setup_in i) (past_of i) core.legal h s own_hart own_agrees some.0 some.1 in
        record { inside = own_inside; of_hart = it.0; fated = it.1 }

    pub renames_at : (y : Slot) → ((d : HartState)
        → slot_in (slice_index_or i.parts.harts.items h d).rename_latch.items s ≡ Some y)
        → InRenameLatch (setup_in i) (past_of i) h s y
    renames_at y there =
        let it = renaming (setup_in i) (past_of i) core.legal h s own_hart own_agrees y (there some_hart) in
        record { inside = own_inside; of_hart = it.0; fated = it.1.0; slot = it.1.1.0; number = it.1.1.1 }

    pub flies_at : (a : Active) → ((d : HartState)
        → member_in (slice_index_or i.parts.harts.items h d).active s ≡ Some a)
        → InActiveList (setup_in i) (past_of i) h s a
    flies_at a there =
        let it = flying (setup_in i) (past_of i) core.legal h s own_hart own_agrees a (there some_hart) in
        record { inside = own_inside; of_hart = it.0; active = it.1.0; number = it.1.1 }

new_decode : (f : Fate) → stage f ≡ 0 → is f InDecode ≡ false
new_decode f new = grind (arith, nat_tests)

new_rename : (f : Fate) → stage f ≡ 0 → is f InRename ≡ false
new_rename f new = grind (arith, nat_tests)

new_flight : (f : Fate) → stage f ≡ 0 → is_in_flight f ≡ false
new_flight f new = grind (arith, nat_tests)

-- ---- In the words of callers

module _ (i : Inside) (core : IsCore i) where
  pub few_harts : length i.parts.harts.items ≤ most_harts
  few_harts = let sizes = core.sizes in let harts = core.harts in grind (arith, nat_tests)

  module _ (v : CoreView) (shown : view_of i ≡ v) where
    pub decodes_by : (s : ℕ) (r : Option ℕ) → IfSome r (λ h. h < length i.parts.harts.items)
        → IfSome r (λ h. (d : HartState)
        → is_some (slot_in (slice_index_or i.parts.harts.items h d).decode_latch.items s) ≡ true)
        → IfSome r (λ h. InDecodeLatch v.setup v.past h s)
    decodes_by s None inside found = tt
    decodes_by s (Some h) inside found =
        subst (λ u. InDecodeLatch u.setup u.past h s) shown (decodes_at i core s h inside found)

    pub not_decodes_by : (s : ℕ) (r : Option ℕ) → IfNone r ((h : ℕ) (d : HartState) → h < length i.parts.harts.items
        → slot_in (slice_index_or i.parts.harts.items h d).decode_latch.items s ≡ None)
        → IfNone r (is (fate v.past s) InDecode ≡ false)
    not_decodes_by s None none =
        subst (λ u. is (fate u.past s) InDecode ≡ false) shown
        (nowhere i core s (λ f. is f InDecode ≡ false) (λ x. slot_in x.decode_latch.items s ≡ None) new_decode
        (λ h x agrees gone of_h. not_decoding (setup_in i) (past_of i) core.legal h s x agrees gone of_h) none)
    not_decodes_by s (Some h) none = tt

    pub renames_by : (s : ℕ) (r : Option (ℕ × Slot)) → IfSome r (λ x. x.0 < length i.parts.harts.items)
        → IfSome r (λ x. (d : HartState)
        → slot_in (slice_index_or i.parts.harts.items x.0 d).rename_latch.items s ≡ Some x.1)
        → IfSome r (λ x. InRenameLatch v.setup v.past x.0 s x.1)
    renames_by s None inside found = tt
    renames_by s (Some x) inside found =
        subst (λ u. InRenameLatch u.setup u.past x.0 s x.1) shown (renames_at i core s x.0 inside x.1 found)

    pub not_renames_by : (s : ℕ) (r : Option (ℕ × Slot))
        → IfNone r ((h : ℕ) (d : HartState) → h < length i.parts.harts.items
        → slot_in (slice_index_or i.parts.harts.items h d).rename_latch.items s ≡ None)
        → IfNone r (is (fate v.past s) InRename ≡ false)
    not_renames_by s None none =
        subst (λ u. is (fate u.past s) InRename ≡ false) shown
        (nowhere i core s (λ f. is f InRename ≡ false) (λ x. slot_in x.rename_latch.items s ≡ None) new_rename
        (λ h x agrees gone of_h. not_renaming (setup_in i) (past_of i) core.legal h s x agrees gone of_h) none)
    not_renames_by s (Some x) none = tt

    pub flies_by : (s : ℕ) (r : Option (ℕ × Active)) → IfSome r (λ x. x.0 < length i.parts.harts.items)
        → IfSome r (λ x. (d : HartState)
        → member_in (slice_index_or i.parts.harts.items x.0 d).active s ≡ Some x.1)
        → IfSome r (λ x. InActiveList v.setup v.past x.0 s x.1)
    flies_by s None inside found = tt
    flies_by s (Some x) inside found =
        subst (λ u. InActiveList u.setup u.past x.0 s x.1) shown (flies_at i core s x.0 inside x.1 found)

    pub not_flies_by : (s : ℕ) (r : Option (ℕ × Active))
        → IfNone r ((h : ℕ) (d : HartState) → h < length i.parts.harts.items
        → member_in (slice_index_or i.parts.harts.items h d).active s ≡ None)
        → IfNone r (is_in_flight (fate v.past s) ≡ false)
    not_flies_by s None none =
        subst (λ u. is_in_flight (fate u.past s) ≡ false) shown
        (nowhere i core s (λ f. is_in_flight f ≡ false) (λ x. member_in x.active s ≡ None) new_flight
        (λ h x agrees gone of_h. not_flying (setup_in i) (past_of i) core.legal h s x agrees gone of_h) none)
    not_flies_by s (Some x) none = tt

    pub hart_inside : (h : ℕ) → h < v.setup.harts → h < length i.parts.harts.items
    hart_inside h there =
        let here : h < i.config.harts = subst (λ u. h < u.setup.harts) (sym shown) there in
        subst (λ n. h < n) (sym core.harts) here

    pub hart_agrees : (h : ℕ) (x : HartState) → h < v.setup.harts → x ≡ slice_index_or i.parts.harts.items h x
        → HartAgrees (picture v.setup v.past) h x
    hart_agrees h x there at =
        subst (λ u. HartAgrees (picture u.setup u.past) h x) shown
        (subst (HartAgrees (picture (setup_in i) (past_of i)) h) (sym at) (core.agrees.harts h x (hart_inside h there)))

-- ---- The parts, in the words of callers

module _ (i : Inside) (core : IsCore i) (v : CoreView) (at : view_of i ≡ v) where
  pub parts_agree : PartsAgree (picture v.setup v.past) i.parts
  parts_agree = subst (λ u. PartsAgree (picture u.setup u.past) i.parts) at core.agrees

  pub queue_size : i.parts.queue.size ≡ v.setup.queue
  queue_size = subst (λ u. i.parts.queue.size ≡ u.setup.queue) at core.queue

  pub is_legal_view : is_legal v.setup v.past
  is_legal_view = subst (λ u. is_legal u.setup u.past) at core.legal
