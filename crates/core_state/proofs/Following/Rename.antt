-- Which rule a rename breaks.
use Rattle.std.specs.Prelude.{◌≡◌, ℕ, ◌||◌, Bool, true, false, not, nat_lt, List, [], ◌∷◌, length, map}
use Rattle.std.specs.Prelude.{◌<◌, Option, Some, is_some}
use Rattle.std.proofs.Common.{◌∙◌, refl, sym, ap}
use Rattle.std.proofs.{lemmas.List.length-map}
use Rattle.numbers.specs.Sizes.{most_accesses}
use Rattle.events.specs.{declared.event.Event.Event, declared.event.Event.TheVariants.Rename}
use Rattle.smt_model.specs.{Picture.picture, Setup.Setup, Jobs.is_actor, Basics.same_truth, Basics.how_many}
use Rattle.smt_model.specs.Kinds.{Kind, kind_of, is_loading, is_storing, writes_register}
use Rattle.smt_model.specs.Fates.{fate, is, is_of, op_at, op_of_fetched, InRename}
use Rattle.smt_model.specs.Flights.{in_rename, flight, queue}
use Rattle.smt_model.specs.Rules.{first_failing, refused, has_room, is_first, of_fetched}
use Rattle.smt_model.proofs.Fates.Numbers.{at_hart}
use Rattle.load_store.specs.Queues.{queues_of}
use Rattle.core_parts.specs.{Agree.HartAgrees, Agree.PartsAgree, declared.hart.HartState.HartState}
use Rattle.core_parts.specs.Place.{InRenameLatch}
use Rattle.core_state.specs.Refusals.{is_free_or_none}
use Rattle.core_parts.specs.declared.parts.Parts.{Parts}
use Rattle.core_parts.specs.declared.slot.Slot.{Slot}
use Rattle.core_state.proofs.Following.Tests.{refused-is, holds, fails}
use Rattle.core_state.proofs.Following.Counts.{loads_in_flight, stores_in_flight}

module _ (setup : Setup) (past : List Event) (actor s : ℕ) (taken : Option ℕ) where
  abbrev oldest : Bool
  oldest = of_fetched past s (λ f. is_first s (in_rename past f.hart))

  abbrev flight_room : Bool
  flight_room = of_fetched past s (λ f. nat_lt (length (flight past f.hart)) 64)

  abbrev behind_fate : List (ℕ × Bool)
  behind_fate =
      (3, oldest) ∷ (4, nat_lt (length (queue past)) setup.queue) ∷ (5, flight_room)
      ∷ (6, has_room is_loading past s) ∷ (7, has_room is_storing past s)
      ∷ (8, same_truth (is_some taken) (writes_register (op_at past s)))
      ∷ (9, is_free_or_none setup past taken) ∷ []

  abbrev behind_actor : List (ℕ × Bool)
  behind_actor = (2, is (fate past s) InRename) ∷ behind_fate

  pub no_actor : is_actor setup actor ≡ false → refused setup past (Rename actor s taken) ≡ Some 1
  no_actor none = refused-is setup past (Rename actor s taken) ∙ fails 1 (is_actor setup actor) behind_actor none

  pub not_there : is_actor setup actor ≡ true → is (fate past s) InRename ≡ false
      → refused setup past (Rename actor s taken) ≡ Some 2
  not_there one elsewhere =
      refused-is setup past (Rename actor s taken)
      ∙ (holds 1 (is_actor setup actor) behind_actor one
      ∙ fails 2 (is (fate past s) InRename) behind_fate elsewhere)

  -- What the slot says of it.
  fate_here : (h : ℕ) (slot : Slot) → InRenameLatch setup past h s slot
      → (fate past s ≡ InRename) × (op_at past s ≡ slot.op)
  fate_here h slot here = (
    here.fated,
    ap (op_at past) (sym here.number) ∙ (ap op_of_fetched here.slot.fetched ∙ sym here.slot.op),
  )

  -- The room for one more of a kind.
  room_is : (test : Kind → Bool) (h n : ℕ) (slot : Slot) (b : Bool) → is_of past h s ≡ true → op_at past s ≡ slot.op
      → n ≡ how_many (λ t. test (kind_of (op_at past t))) (flight past h)
      → b ≡ (not (test (kind_of slot.op)) || nat_lt n most_accesses)
      → has_room test past s ≡ b
  room_is test h n slot b of_h op many b_is =
      let here : of_fetched past s
      (λ f. nat_lt (how_many (λ t. test (kind_of (op_at past t))) (flight past f.hart)) most_accesses)
      ≡ nat_lt n most_accesses =
      at_hart past (λ g. nat_lt (how_many (λ t. test (kind_of (op_at past t))) (flight past g)) most_accesses) h s of_h
      ∙ ap (λ m. nat_lt m most_accesses) (sym many) in
      ap (λ o. not (test (kind_of o)) || of_fetched past s
      (λ f. nat_lt (how_many (λ t. test (kind_of (op_at past t))) (flight past f.hart)) most_accesses)) op
      ∙ (ap (λ r. not (test (kind_of slot.op)) || r) here ∙ sym b_is)

  -- The tests of the parts.
  pub record Tests (h : ℕ) (x : HartState) (parts : Parts) (slot : Slot) (a b c d e f g : Bool) : Type 0 where
    pub oldest : a ≡ is_first s (map (λ z. z.seq) x.rename_latch.items)
    pub queue_room : b ≡ nat_lt (length parts.queue.entries) parts.queue.size
    pub flight_room : c ≡ nat_lt (length x.active) 64
    pub load_room : d
        ≡ (not (is_loading (kind_of slot.op)) || nat_lt (length (queues_of parts.accesses h).loads) most_accesses)
    pub store_room : e
        ≡ (not (is_storing (kind_of slot.op)) || nat_lt (length (queues_of parts.accesses h).stores) most_accesses)
    pub named : f ≡ same_truth (is_some taken) (writes_register slot.op)
    pub free : g ≡ is_free_or_none setup past taken

  pub there : (h : ℕ) (slot : Slot) (x : HartState) (parts : Parts) (a b c d e f g : Bool)
      → is_actor setup actor ≡ true → InRenameLatch setup past h s slot
      → HartAgrees (picture setup past) h x → PartsAgree (picture setup past) parts → parts.queue.size ≡ setup.queue
      → h < length parts.harts.items → Tests h x parts slot a b c d e f g
      → refused setup past (Rename actor s taken)
      ≡ first_failing ((3, a) ∷ (4, b) ∷ (5, c) ∷ (6, d) ∷ (7, e) ∷ (8, f) ∷ (9, g) ∷ [])
  there h slot x parts a b c d e f g one placed agrees all size inside tests =
      let of_h = placed.of_hart in
      let is_here = fate_here h slot placed in
      let a_is : oldest ≡ a =
      at_hart past (λ k. is_first s (in_rename past k)) h s of_h
      ∙ (ap (is_first s) (sym agrees.rename_latch) ∙ sym tests.oldest) in
      let b_is : nat_lt (length (queue past)) setup.queue ≡ b =
      ap (λ ns. nat_lt (length ns) setup.queue) (sym all.queue.numbers)
      ∙ (ap (λ n. nat_lt n setup.queue) (length-map parts.queue.entries (λ z. z.seq))
      ∙ (ap (λ n. nat_lt (length parts.queue.entries) n) (sym size) ∙ sym tests.queue_room)) in
      let c_is : flight_room ≡ c =
      at_hart past (λ k. nat_lt (length (flight past k)) 64) h s of_h
      ∙ (ap (λ ns. nat_lt (length ns) 64) (sym agrees.active)
      ∙ (ap (λ n. nat_lt n 64) (length-map x.active (λ z. z.seq)) ∙ sym tests.flight_room)) in
      let loads = loads_in_flight (picture setup past) parts h all inside in
      let stores = stores_in_flight (picture setup past) parts h all inside in
      let d_is = room_is is_loading h (length (queues_of parts.accesses h).loads) slot d of_h is_here.1 loads
      tests.load_room in
      let e_is = room_is is_storing h (length (queues_of parts.accesses h).stores) slot e of_h is_here.1 stores
      tests.store_room in
      let f_is : same_truth (is_some taken) (writes_register (op_at past s)) ≡ f =
      ap (λ o. same_truth (is_some taken) (writes_register o)) is_here.1 ∙ sym tests.named in
      let g_is = sym tests.free in
      refused-is setup past (Rename actor s taken)
      ∙ (holds 1 (is_actor setup actor) behind_actor one
      ∙ (holds 2 (is (fate past s) InRename) behind_fate (rw is_here.0 refl)
      ∙ rw (a_is, b_is, c_is, d_is, e_is, f_is, g_is) refl))
