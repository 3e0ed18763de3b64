-- The harts that have lost their reservations follow their local steps in turn, while the machine learns.
use Rattle.std.proofs.Common.{◌≡◌, ℕ, ◌+◌, ◌<◌, ◌≤◌, List, [], ◌++◌, length, replicate}
use Rattle.std.proofs.Common.{sym, ap, subst, ◌∙◌, arith}
use Rattle.std.specs.Prelude.{slice_index, slice_index_or, slice_set}
use Rattle.std.proofs.lemmas.List.{length-replicate, length-set}
use Rattle.std.proofs.lemmas.Option.{get_or_from_slice_get, slice_get_within}
use Rattle.numbers.specs.Sizes.{most_harts}
use Rattle.smt_model.specs.{Setup.Setup, Plain.Plain}
use Rattle.changed_memory.specs.Shared.{reserved_at}
use Rattle.condensed_machine.specs.Machine.{Grows, HasCode, IsSound, Machine, Program}
use Rattle.condensed_machine.specs.Decoded.{Decoded, Knows, decoded, state_of, numbers_of}
use Rattle.condensed_machine.specs.Learning.{learns_more, learns_nothing, state_same, still_decoded, still_knows}
use Rattle.condensed_machine.specs.Learning.{still_numbered}
use Rattle.condensed_machine.specs.Losing.{FollowsBy, HasFollowed, IsFreeIn, IsRestOf}
use Rattle.condensed_machine.specs.{Numbering.HasMoved, Steps.SettlesBy, Steps.no_turns, Steps.turns}
use Rattle.condensed_machine.specs.{Tables.HasNumber, declared.losing.Followed.Followed, declared.losing.Rest.Rest}
use Rattle.condensed_machine.specs.declared.state.State.{State}
use Rattle.condensed_machine.proofs.{Coded.code_in, Moving.shared_is}
use Rattle.condensed_machine.proofs.InTurn.{none_behind, none_yet, turns_more, turns_same}
use Rattle.condensed_machine.proofs.Joining.{settles_nowhere, settles_on}
use Rattle.condensed_machine.proofs.Losers.{HasFollowedOne, follows_one, knows_one}

-- What was said of local steps stays true.
pub still_follows : (m n : Machine) (order : List ℕ) (s t : State) → Grows m n → Knows m s → Knows m t
    → FollowsBy m order s t → FollowsBy n order s t
still_follows m n order s t grows here there follows setup image harts =
    subst (λ (p : Program). SettlesBy setup p order (state_of n s) (state_of n t)) (sym grows.program)
    (subst (λ (u : Plain). SettlesBy setup m.program order u (state_of n t)) (sym (state_same m n s grows here))
    (subst (λ (u : Plain). SettlesBy setup m.program order (state_of m s) u) (sym (state_same m n t grows there))
    (follows setup (image ∙ ap (λ (p : Program). p.image) grows.program)
    (harts ∙ ap (λ (p : Program). p.harts) grows.program))))

-- The harts below g that have lost their reservations in s have followed, each as often as its row says, and the state
-- is now another one. The machine was l before, and is m.
pub record HaveFollowed (l m : Machine) (s now : State) (row : List ℕ) (g : ℕ) : Type 0 where
  pub room : length row ≡ most_harts
  pub grows : Grows l m
  pub knows : Knows m now
  pub follows : FollowsBy m (turns row g) s now
  pub none : (h : ℕ) → g ≤ h → slice_index row h ≡ 0

pub none_has_followed : (l : Machine) (s : State) → Knows l s → HaveFollowed l l s s no_turns 0
none_has_followed l s knows = record {
  room = length-replicate {A = ℕ} most_harts 0;
  grows = learns_nothing l;
  knows = knows;
  follows = λ setup image harts. settles_nowhere setup l.program (state_of l s);
  none = λ h beyond. none_yet h;
}

-- Hart g has lost nothing.
pub passes_one : (l m : Machine) (s now : State) (row : List ℕ) (g : ℕ) → HaveFollowed l m s now row g
    → HaveFollowed l m s now row (g + 1)
passes_one l m s now row g before = record {
  room = before.room;
  grows = before.grows;
  knows = before.knows;
  follows =
      subst (λ order. FollowsBy m order s now) (sym (turns_same row g (before.none g (omega arith)))) before.follows;
  none = λ h beyond. before.none h (omega (arith, beyond));
}

-- Hart g has lost its reservation: the machine m has become k as it found what the hart comes to, and n as it numbered
-- the next state.
module _ (l m k n : Machine) (s now t : State) (row : List ℕ) (g number : ℕ) (to : Rest) (first : Knows l s)
    (before : HaveFollowed l m s now row g) (one : HasFollowedOne k n now t g number to) (found : Grows m k) where
  learned : Grows m n
  learned = learns_more m k n found one.grows

  sound : IsSound n.program
  sound = subst IsSound (sym one.grows.program) one.sound

  code : HasCode n.program.image (decoded n now).shared
  code =
      subst (λ (p : Program). HasCode p.image (decoded n now).shared) (sym one.grows.program)
      (subst (λ (d : Decoded). HasCode k.program.image d.shared) (sym (still_decoded k n now one.grows one.knows))
      one.code)

  in_room : g < length row
  in_room =
      let few = one.sound.few in
      let room = before.room in
      let inside = one.inside in
      omega (arith, few, room, inside)

  follows : FollowsBy n (turns row g ++ replicate to.steps g) s t
  follows setup image harts =
      settles_on setup n.program (turns row g) (replicate to.steps g) (state_of n s) (state_of n now) (state_of n t)
      sound image
      (code_in setup n.program.image (state_of n now) (decoded n now).shared image
      (shared_is n.program (decoded n now)) code)
      (still_follows m n (turns row g) s now learned (still_knows l m s before.grows first) before.knows before.follows
      setup image harts)
      (follows_one k n now t g number to one setup image harts)

  pub follows_more : HaveFollowed l n s t (slice_set row g to.steps) (g + 1)
  follows_more = record {
    room = length-set row g to.steps ∙ before.room;
    grows = learns_more l m n before.grows learned;
    knows = knows_one k n now t g number to one;
    follows = subst (λ order. FollowsBy n order s t) (sym (turns_more row g to.steps in_room)) follows;
    none = none_behind row g to.steps before.none;
  }

-- What is known of the machine m is so of k too, where it has learned what the hart comes to.
pub one_follows : (m k n : Machine) (now t : State) (g number : ℕ) (to : Rest) → IsSound k.program → Grows m k
    → Grows k n → Knows m now → g < m.program.harts → IsFreeIn m now g
    → HasCode m.program.image (decoded m now).shared → number ≡ slice_index (numbers_of m now) g
    → IsRestOf k number to → HasMoved k.far_harts n.far_harts now g to.number now.shared t
    → HasFollowedOne k n now t g number to
one_follows m k n now t g number to sound found grows knows inside free code of_number rest moved = record {
  sound = sound;
  knows = still_knows m k now found knows;
  inside = subst (λ (p : Program). g < p.harts) (sym found.program) inside;
  free =
      ap (λ (d : Decoded). reserved_at d.shared g) (still_decoded m k now found knows) ∙ free;
  code =
      subst (λ (p : Program). HasCode p.image (decoded k now).shared) (sym found.program)
      (subst (λ (d : Decoded). HasCode m.program.image d.shared) (sym (still_decoded m k now found knows)) code);
  rest = rest;
  of_number = of_number ∙ ap (λ numbers. slice_index numbers g) (sym (still_numbered m k now found knows));
  grows = grows;
  moved = moved;
}

-- All harts have had their turn, and the row of how often has a number.
pub have_followed : (l m n : Machine) (s now : State) (row : List ℕ) (others : ℕ) → Knows l s → Grows m n
    → HasNumber n.rows row others → HaveFollowed l m s now row m.program.harts
    → HasFollowed n s (record { state = now; others = others })
have_followed l m n s now row others first grows number all = record {
  row = slice_get_within n.rows others row number;
  leads =
      subst (λ turned. FollowsBy n (turns turned n.program.harts) s now)
      (sym (get_or_from_slice_get n.rows others row [] number))
      (subst (λ (p : Program). FollowsBy n (turns row p.harts) s now) (sym grows.program)
      (still_follows m n (turns row m.program.harts) s now grows (still_knows l m s all.grows first) all.knows
      all.follows));
}
