-- Which rule a decode breaks.
use Rattle.std.specs.Prelude.{◌≡◌, ℕ, Bool, true, false, nat_lt, List, [], ◌∷◌, length, map, Some}
use Rattle.std.proofs.Common.{◌∙◌, refl, sym, ap}
use Rattle.std.proofs.lemmas.List.{length-map}
use Rattle.numbers.specs.Sizes.{latch_room}
use Rattle.events.specs.{declared.event.Event.Event, declared.event.Event.TheVariants.Decode}
use Rattle.smt_model.specs.{Picture.picture, Setup.Setup, Jobs.is_actor}
use Rattle.smt_model.specs.Fates.{fate, is, InDecode}
use Rattle.smt_model.specs.Flights.{in_decode, in_rename}
use Rattle.smt_model.specs.Rules.{first_failing, refused, is_first, of_fetched}
use Rattle.smt_model.proofs.Fates.Numbers.{at_hart}
use Rattle.core_parts.specs.{Agree.HartAgrees, Place.InDecodeLatch, declared.hart.HartState.HartState}
use Rattle.core_state.proofs.Following.Tests.{refused-is, holds, fails, asks}

module _ (setup : Setup) (past : List Event) (actor s : ℕ) where
  abbrev oldest : Bool
  oldest = of_fetched past s (λ f. is_first s (in_decode past f.hart))

  abbrev room : Bool
  room = of_fetched past s (λ f. nat_lt (length (in_rename past f.hart)) latch_room)

  abbrev behind_fate : List (ℕ × Bool)
  behind_fate = (3, oldest) ∷ (4, room) ∷ []

  abbrev behind_actor : List (ℕ × Bool)
  behind_actor = (2, is (fate past s) InDecode) ∷ behind_fate

  pub no_actor : is_actor setup actor ≡ false → refused setup past (Decode actor s) ≡ Some 1
  no_actor none = refused-is setup past (Decode actor s) ∙ fails 1 (is_actor setup actor) behind_actor none

  pub not_there : is_actor setup actor ≡ true → is (fate past s) InDecode ≡ false
      → refused setup past (Decode actor s) ≡ Some 2
  not_there one elsewhere =
      refused-is setup past (Decode actor s)
      ∙ (holds 1 (is_actor setup actor) behind_actor one
      ∙ fails 2 (is (fate past s) InDecode) behind_fate elsewhere)

  pub there : (h : ℕ) (x : HartState) (a b : Bool) → is_actor setup actor ≡ true
      → InDecodeLatch setup past h s → HartAgrees (picture setup past) h x
      → a ≡ is_first s (map (λ z. z.seq) x.decode_latch.items) → b ≡ nat_lt (length x.rename_latch.items) latch_room
      → refused setup past (Decode actor s) ≡ first_failing ((3, a) ∷ (4, b) ∷ [])
  there h x a b one placed agrees a_is b_is =
      let fated = placed.fated in
      let first_is : oldest ≡ a =
      at_hart past (λ g. is_first s (in_decode past g)) h s placed.of_hart
      ∙ (ap (is_first s) (sym agrees.decode_latch) ∙ sym a_is) in
      let room_is : room ≡ b =
      at_hart past (λ g. nat_lt (length (in_rename past g)) latch_room) h s placed.of_hart
      ∙ (ap (λ ns. nat_lt (length ns) latch_room) (sym agrees.rename_latch)
      ∙ (ap (λ n. nat_lt n latch_room) (length-map x.rename_latch.items (λ z. z.seq)) ∙ sym b_is)) in
      refused-is setup past (Decode actor s)
      ∙ (holds 1 (is_actor setup actor) behind_actor one
      ∙ (holds 2 (is (fate past s) InDecode) behind_fate (rw fated refl)
      ∙ asks 3 oldest a ((4, room) ∷ []) ((4, b) ∷ []) first_is (asks 4 room b [] [] room_is refl)))
