-- A step of a hart with all local steps behind it: its own, and then those of the harts that have lost their
-- reservations by it.
use Rattle.std.proofs.Common.{◌≡◌, ℕ, ◌<◌, List, [], replicate, sym, ap, subst, ◌∙◌}
use Rattle.std.specs.Prelude.{slice_index_or}
use Rattle.std.proofs.lemmas.Option.{get_or_from_slice_get, slice_get_within}
use Rattle.smt_model.specs.{Setup.Setup, Plain.Plain}
use Rattle.outcome_laws.specs.{Paths.HasItsCode, Paths.stepped}
use Rattle.outcome_laws.proofs.Holding.{has_next}
use Rattle.changed_memory.specs.Shared.{Shared}
use Rattle.condensed_machine.specs.Machine.{Grows, HasCode, InEachSetup, IsSound, Machine, Program}
use Rattle.condensed_machine.specs.Decoded.{Knows, decoded, no_shared, shared_at, state_of}
use Rattle.condensed_machine.specs.Learning.{learns_more, state_same, still_knows, still_moves}
use Rattle.condensed_machine.specs.{Losing.HasFollowed, Moves.IsMoveOf}
use Rattle.condensed_machine.specs.Steps.{MakesMove, MakesStep, SettlesBy, no_turns, turns}
use Rattle.condensed_machine.specs.{Tables.HasNumber, declared.losing.Followed.Followed, declared.state.State.State}
use Rattle.condensed_machine.specs.declared.moves.MoveFrom.{MoveFrom}
use Rattle.condensed_machine.specs.declared.moves.MoveTo.{MoveTo}
use Rattle.condensed_machine.proofs.{Coded.code_in, InTurn.nobody_turns, Moving.shared_is}
use Rattle.condensed_machine.proofs.Joining.{settled_code, settles_nowhere, settles_on}

-- Where no hart has lost its reservation nobody follows.
pub nobody_follows : (m : Machine) (s : State) (number : ℕ) → HasNumber m.rows no_turns number
    → HasFollowed m s (record { state = s; others = number })
nobody_follows m s number has = record {
  row = slice_get_within m.rows number no_turns has;
  leads = λ setup image harts.
      subst (λ order. SettlesBy setup m.program order (state_of m s) (state_of m s))
      (sym (ap (λ row. turns row m.program.harts) (get_or_from_slice_get m.rows number no_turns [] has)
      ∙ nobody_turns m.program.harts))
      (settles_nowhere setup m.program (state_of m s));
}

-- In a state from which a move leads code that may not be written is what the image has.
pub moves_have_code : (m : Machine) (s : State) (from : MoveFrom) (to : MoveTo) → from.shared ≡ s.shared
    → IsMoveOf m from to → HasCode m.program.image (decoded m s).shared
moves_have_code m s from to of_shared move =
    subst (λ (shared : Shared). HasCode m.program.image shared)
    (sym (get_or_from_slice_get m.shared_states from.shared move.common no_shared move.shares)
    ∙ ap (shared_at m.shared_states) of_shared) move.code

-- The machine k has become n as it numbered the state behind a hart's own steps, and q as the others followed.
module _ (k n q : Machine) (s t : State) (h steps : ℕ) (followed : Followed) (sound : IsSound k.program)
    (first : Grows k n) (second : Grows n q) (knows : Knows k s)
    (code : HasCode k.program.image (decoded k s).shared)
    (moves : InEachSetup n.program (λ setup. MakesMove setup n s h steps t)) (has : HasFollowed q t followed)
    (known : Knows q followed.state) where
  learned : Grows k q
  learned = learns_more k n q first second

  holds : (setup : Setup) → setup.image ≡ q.program.image → HasItsCode setup (state_of q s)
  holds setup image =
      subst (HasItsCode setup) (sym (state_same k q s learned knows))
      (code_in setup k.program.image (state_of k s) (decoded k s).shared
      (image ∙ ap (λ (p : Program). p.image) learned.program) (shared_is k.program (decoded k s)) code)

  moved : InEachSetup q.program (λ setup. MakesMove setup q s h steps t)
  moved setup image harts =
      still_moves n q s h steps t setup second (still_knows k n s first knows)
      (moves setup (image ∙ ap (λ (p : Program). p.image) second.program)
      (harts ∙ ap (λ (p : Program). p.harts) second.program))

  abbrev turned : List ℕ
  turned = turns (slice_index_or q.rows followed.others []) q.program.harts

  pub whole_step : InEachSetup q.program (λ setup. MakesStep setup q s h
      (record { state = followed.state; way = record { own = steps; others = followed.others } }))
  whole_step setup image harts =
      let own = moved setup image harts in
      let behind = stepped setup h (state_of q s) in
      record {
        can = own.can;
        fits = own.fits;
        row = has.row;
        leads =
            settles_on setup q.program (replicate steps h) turned behind (state_of q t) (state_of q followed.state)
            (subst IsSound (sym learned.program) sound) image
            (settled_code setup q.program (replicate steps h) behind (state_of q t)
            (has_next setup h (state_of q s) (holds setup image)) own.leads)
            own.leads (has.leads setup image harts);
        knows = known;
      }
