-- One ask of a core: what the predictor has guessed of its event, and that every pass still knows all of its actor.
use Rattle.std.proofs.Common.{◌≡◌, ◌∙◌, ◌⊎◌, ℕ, ◌+◌, ◌<◌, ◌==◌, zero, suc, Bool, true, false, List, [], ◌∷◌, ◌++◌, length, not}
use Rattle.std.proofs.Common.{Option, Some, None, refl, sym, ap, subst, inl, inr, arith, append_assoc}
use Rattle.std.specs.Prelude.{slice_get, slice_set, map}
use Rattle.std.specs.Option.{option_map}
use Rattle.std.proofs.{lemmas.Bool.and_parts, lemmas.Bool.false≢true, lemmas.Bool.Decides.nat_tests}
use Rattle.std.proofs.lemmas.Option.{none-some, same_Some, slice_get-map}
use Rattle.numbers.specs.Sizes.{most_actors}
use Rattle.events.specs.{declared.event.Event.Event, Event.actor_of}
use Rattle.events.specs.declared.event.Event.TheVariants.{Fetch, Decode, Rename, Issue, Complete}
use Rattle.events.specs.declared.event.Event.TheVariants.{Drop, Retire, Refetch}
use Rattle.core_state.specs.View.{CoreView}
use Rattle.smt_model.specs.Account.{event_count, last_event_of}
use Rattle.core_lock.specs.{declared.ask.Asked.Asked, declared.ask.Said.Said, Passes.IsTold, Passes.places}
use Rattle.core_lock.specs.declared.ask.Asked.TheVariants as asked
use Rattle.core_lock.specs.declared.ask.Said.TheVariants as said
use Rattle.core_lock.specs.Asks.{event_in, grown_by, is_event_for, is_issue, is_reply, IsPredictedBy}
use Rattle.core_lock.proofs.Replies.{IsBy}
use Rattle.scripts.specs.Session.{IsGuessed, AreGuessed, HasGuessed}

-- ---- What was guessed

abbrev is_fetch : Event → Bool
is_fetch (Fetch actor hart seq pc word predicted) = true
is_fetch (Decode actor seq) = false
is_fetch (Rename actor seq phys) = false
is_fetch (Issue actor seq) = false
is_fetch (Complete actor seq outcome) = false
is_fetch (Drop actor seq) = false
is_fetch (Retire actor seq effect) = false
is_fetch (Refetch actor seq) = false

abbrev asks_fetch : Asked → Bool
asks_fetch asked.Fetch = true
asks_fetch (asked.Decode hart) = false
asks_fetch (asked.Rename hart) = false
asks_fetch asked.Issue = false
asks_fetch asked.Complete = false
asks_fetch (asked.Retire hart) = false

no_fetch : (k : ℕ) (a : Asked) (e : Event) → asks_fetch a ≡ false → is_event_for k a e ≡ true → is_fetch e ≡ false
no_fetch k asked.Fetch (Fetch actor hart seq pc word predicted) other is = absurd (false≢true (sym other))
no_fetch k (asked.Decode h) (Fetch actor hart seq pc word predicted) other is = absurd (false≢true is)
no_fetch k (asked.Rename h) (Fetch actor hart seq pc word predicted) other is = absurd (false≢true is)
no_fetch k asked.Issue (Fetch actor hart seq pc word predicted) other is = absurd (false≢true is)
no_fetch k asked.Complete (Fetch actor hart seq pc word predicted) other is = absurd (false≢true is)
no_fetch k (asked.Retire h) (Fetch actor hart seq pc word predicted) other is = absurd (false≢true is)
no_fetch k a (Decode actor seq) other is = refl
no_fetch k a (Rename actor seq phys) other is = refl
no_fetch k a (Issue actor seq) other is = refl
no_fetch k a (Complete actor seq outcome) other is = refl
no_fetch k a (Drop actor seq) other is = refl
no_fetch k a (Retire actor seq effect) other is = refl
no_fetch k a (Refetch actor seq) other is = refl

module _ {P : Type 0} (predicts : P → ℕ → ℕ → ℕ → ℕ → P → Type 0) where
  unguessed : (e : Event) (before after : P) → is_fetch e ≡ false → after ≡ before → IsGuessed predicts e before after
  unguessed (Fetch actor hart seq pc word predicted) before after other same = absurd (false≢true (sym other))
  unguessed (Decode actor seq) before after other same = same
  unguessed (Rename actor seq phys) before after other same = same
  unguessed (Issue actor seq) before after other same = same
  unguessed (Complete actor seq outcome) before after other same = same
  unguessed (Drop actor seq) before after other same = same
  unguessed (Retire actor seq effect) before after other same = same
  unguessed (Refetch actor seq) before after other same = same

  -- What was guessed of the step that was made, where one was made.
  abbrev pub IsGuessedOf : Option Event → P → P → Type 0
  IsGuessedOf None before after = after ≡ before
  IsGuessedOf (Some e) before after = IsGuessed predicts e before after

  fetch_guessed : (e : Event) (before after : P) → IsPredictedBy predicts before asked.Fetch (said.Event e) after
      → IsGuessed predicts e before after
  fetch_guessed (Fetch actor hart seq pc word predicted) before after is = is
  fetch_guessed (Decode actor seq) before after is = absurd is
  fetch_guessed (Rename actor seq phys) before after is = absurd is
  fetch_guessed (Issue actor seq) before after is = absurd is
  fetch_guessed (Complete actor seq outcome) before after is = absurd is
  fetch_guessed (Drop actor seq) before after is = absurd is
  fetch_guessed (Retire actor seq effect) before after is = absurd is
  fetch_guessed (Refetch actor seq) before after is = absurd is

  other_guessed : (k : ℕ) (a : Asked) (s : Said) (before after : P) → asks_fetch a ≡ false → is_reply k a s ≡ true
      → after ≡ before → IsGuessedOf (event_in s) before after
  other_guessed k a (said.Event e) before after other is same =
      unguessed e before after (no_fetch k a e other (and_parts (not (is_issue a)) (is_event_for k a e) is).1) same
  other_guessed k a (said.Job job e) before after other is same =
      unguessed e before after (no_fetch k a e other (and_parts (is_issue a) (is_event_for k a e) is).1) same
  other_guessed k a said.Idle before after other is same = same
  other_guessed k a said.Stranger before after other is same = same
  other_guessed k a said.Full before after other is same = same

  guessed_of : (k : ℕ) (a : Asked) (s : Said) (before after : P) → is_reply k a s ≡ true
      → IsPredictedBy predicts before a s after → IsGuessedOf (event_in s) before after
  guessed_of k asked.Fetch (said.Event e) before after is guessed = fetch_guessed e before after guessed
  guessed_of k asked.Fetch (said.Job job e) before after is guessed = absurd guessed
  guessed_of k asked.Fetch said.Idle before after is guessed = guessed
  guessed_of k asked.Fetch said.Stranger before after is guessed = absurd guessed
  guessed_of k asked.Fetch said.Full before after is guessed = guessed
  guessed_of k (asked.Decode h) s before after is guessed =
      other_guessed k (asked.Decode h) s before after refl is guessed
  guessed_of k (asked.Rename h) s before after is guessed =
      other_guessed k (asked.Rename h) s before after refl is guessed
  guessed_of k asked.Issue s before after is guessed = other_guessed k asked.Issue s before after refl is guessed
  guessed_of k asked.Complete s before after is guessed =
      other_guessed k asked.Complete s before after refl is guessed
  guessed_of k (asked.Retire h) s before after is guessed =
      other_guessed k (asked.Retire h) s before after refl is guessed

  grown_guessed : (e : Option Event) (core : CoreView) (before after : P) → IsGuessedOf e before after
      → HasGuessed predicts core.past (grown_by e core).past before after
  grown_guessed None core before after is = record { events = []; grown = refl; guessed = is }
  grown_guessed (Some e) core before after is =
      record { events = e ∷ []; grown = refl; guessed = (before, refl, is) }

  pub has_guessed : (k : ℕ) (a : Asked) (s : Said) (old new : CoreView) (before after : P) → is_reply k a s ≡ true
      → IsPredictedBy predicts before a s after → new ≡ grown_by (event_in s) old
      → HasGuessed predicts old.past new.past before after
  has_guessed k a s old new before after is guessed grows =
      subst (λ (c : CoreView). HasGuessed predicts old.past c.past before after) (sym grows)
      (grown_guessed (event_in s) old before after (guessed_of k a s before after is guessed))

  -- ---- Guesses, one after another

  all_guessed : (first second : List Event) (before between after : P) → AreGuessed predicts first before between
      → AreGuessed predicts second between after → AreGuessed predicts (second ++ first) before after
  all_guessed first [] before between after one two =
      subst (λ p. AreGuessed predicts first before p) (sym two) one
  all_guessed first (e ∷ second) before between after one two =
      (two.0, all_guessed first second before between two.0 one two.1, two.2)

  pub guessed_none : (past : List Event) (predictor : P) → HasGuessed predicts past past predictor predictor
  guessed_none past predictor = record { events = []; grown = refl; guessed = refl }

  pub guessed_both : (old mid new : List Event) (before between after : P)
      → HasGuessed predicts old mid before between → HasGuessed predicts mid new between after
      → HasGuessed predicts old new before after
  guessed_both old mid new before between after one two = record {
    events = two.events ++ one.events;
    grown = two.grown ∙ ap (λ l. two.events ++ l) one.grown ∙ sym (append_assoc two.events one.events old);
    guessed = all_guessed one.events two.events before between after one.guessed two.guessed;
  }

-- ---- The passes

-- What stands at a place of a list that was written at one place: what was written there, or what stood there before.
read_of : {X : Type 0} (xs : List X) (k j : ℕ) (y p : X) → slice_get (slice_set xs k y) j ≡ Some p
    → ((j ≡ k) × (p ≡ y) × (k < length xs)) ⊎ ((j ≡ k → ⊥) × (slice_get xs j ≡ Some p))
read_of [] k j y p at = absurd (none-some p at)
read_of (x ∷ xs) zero zero y p at = inl (refl, sym (same_Some y p at), omega arith)
read_of (x ∷ xs) zero (suc j) y p at = inr (λ same. omega (arith, same), at)
read_of (x ∷ xs) (suc k) zero y p at = inr (λ same. omega (arith, same), at)
read_of (x ∷ xs) (suc k) (suc j) y p at =
    elim (read_of xs k j y p at) [
      | inl here ↦ let inside = here.2 in inl (ap suc here.0, here.1, omega (arith, inside))
      | inr there ↦ inr (λ same. there.0 (omega (arith, same)), there.1)
    ]

apart : (n j k : ℕ) → n ≡ k → (j ≡ k → ⊥) → (n == j) ≡ false
apart n j k is differs = grind (arith, nat_tests, is, differs)

-- A step adds nothing to what the history holds of another actor.
other_told : (k j count : ℕ) (last : Option Event) (e : Option Event) (core : CoreView) → IsBy k e → (j ≡ k → ⊥)
    → IsTold core.past j count last → IsTold (grown_by e core).past j count last
other_told k j count last None core is_by differs told = told
other_told k j count last (Some e) core is_by differs told =
    let other = apart (actor_of e) j k is_by differs in
    record { counts = rw other told.counts; ends = rw other told.ends }

-- The numbers from one on.
abbrev up : ℕ → ℕ → List ℕ
up from zero = []
up from (suc n) = from ∷ up (suc from) n

up_at : (from n k x : ℕ) → slice_get (up from n) k ≡ Some x → x ≡ from + k
up_at from zero k x at = absurd (none-some x at)
up_at from (suc n) zero x at = let same = same_Some from x at in omega (arith, same)
up_at from (suc n) (suc k) x at = let further = up_at (suc from) n k x at in omega (arith, further)

place_at : (k x : ℕ) → slice_get places k ≡ Some x → x ≡ k
place_at k x at = let here = up_at 0 most_actors k x at in omega (arith, here)

module _ {X : Type 0} (actor count : X → ℕ) (last : X → Option Event) where
  -- At each place lies the pass of its actor, which has counted all that the history holds of it.
  abbrev pub AllTold : List Event → List X → Type 0
  AllTold past passes = (k : ℕ) (p : X) → slice_get passes k ≡ Some p
      → (actor p ≡ k) × IsTold past (actor p) (count p) (last p)

  pub all_told : (old new : CoreView) (passes : List X) (k : ℕ) (next : X) (e : Option Event)
      → AllTold old.past passes → IsBy k e → new ≡ grown_by e old
      → actor next ≡ k → IsTold new.past (actor next) (count next) (last next)
      → AllTold new.past (slice_set passes k next)
  all_told old new passes k next e told is_by grows its knows j p at =
      elim (read_of passes k j next p at) [
        | inl here ↦ (
          ap actor here.1 ∙ its ∙ sym here.0,
          subst (λ x. IsTold new.past (actor x) (count x) (last x)) (sym here.1) knows,
        )
        | inr there ↦
            let was = told j p there.1 in
            let of_j = subst (λ n. IsTold old.past n (count p) (last p)) was.0 was.1 in
            let now = other_told k j (count p) (last p) e old is_by there.0 of_j in (
              was.0,
              subst (λ n. IsTold new.past n (count p) (last p)) (sym was.0)
                  (subst (λ (c : CoreView). IsTold c.past j (count p) (last p)) (sym grows) now),
            )
      ]

  -- Passes that are dealt know all of their actors.
  pub all_dealt : (past : List Event) (passes : List X) → map actor passes ≡ places
      → map count passes ≡ map (λ k. event_count k past) places
      → map last passes ≡ map (λ k. last_event_of k past) places
      → AllTold past passes
  all_dealt past passes actors counts lasts k p at =
      let place : slice_get places k ≡ Some (actor p) =
      sym (ap (λ l. slice_get l k) actors) ∙ slice_get-map actor passes k ∙ ap (option_map actor) at in
      let counted : Some (count p) ≡ Some (event_count (actor p) past) =
      sym (slice_get-map count passes k ∙ ap (option_map count) at) ∙ ap (λ l. slice_get l k) counts
      ∙ slice_get-map (λ j. event_count j past) places k ∙ ap (option_map (λ j. event_count j past)) place in
      let ended : Some (last p) ≡ Some (last_event_of (actor p) past) =
      sym (slice_get-map last passes k ∙ ap (option_map last) at) ∙ ap (λ l. slice_get l k) lasts
      ∙ slice_get-map (λ j. last_event_of j past) places k ∙ ap (option_map (λ j. last_event_of j past)) place in (
        place_at k (actor p) place,
        record {
          counts = same_Some (count p) (event_count (actor p) past) counted;
          ends = same_Some (last p) (last_event_of (actor p) past) ended;
        },
      )
