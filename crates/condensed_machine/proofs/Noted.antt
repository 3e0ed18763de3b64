-- What is noted of moves: it stays true as the tables grow, and as one more is noted; and a state goes on by it.
use Rattle.std.proofs.Common.{◌≡◌, ℕ, ◌<◌, true, List, [], Option, Some, None, IfSome, length}
use Rattle.std.proofs.Common.{sym, ap, subst, ◌∙◌, inl, inr, arith}
use Rattle.std.specs.Prelude.{◌&&◌, Result, Ok, Err, nat_eq, if◌then◌else◌, slice_index, slice_set}
use Rattle.std.specs.Cmp.{first_so, second_so, unsigned_Decides}
use Rattle.std.specs.Map.{lookup}
use Rattle.std.specs.Result.{OnOk, OnErr}
use Rattle.std.proofs.lemmas.{Bool.cases_Bool}
use Rattle.std.proofs.lemmas.Option.{get_or_from_slice_get}
use Rattle.smt_model.specs.Plain.{is_going_status}
use Rattle.sc_machine.specs.declared.hart.Hart.{Hart}
use Rattle.changed_memory.specs.Shared.{Shared}
use Rattle.condensed_machine.specs.Machine.{Machine, Program, IsSound, Grows, Keeps, InEachSetup}
use Rattle.condensed_machine.specs.Decoded.{Decoded, decoded, hart_at, hart_in, shared_at, no_hart, no_shared}
use Rattle.condensed_machine.specs.Decoded.{numbers_of, Knows}
use Rattle.condensed_machine.specs.Learning.{still_decoded, still_knows, still_numbered}
use Rattle.condensed_machine.specs.{Losing.IsRest, Losing.AreRests, declared.losing.Rest.Rest}
use Rattle.condensed_machine.specs.Moves.{IsMove, IsMoveOf, AreMoves, is_same_from}
use Rattle.condensed_machine.specs.{Numbering.HasNumbers, Resting.keeps_reservation, Tables.IsSharedAfter}
use Rattle.condensed_machine.specs.{Steps.MakesMove, declared.state.State.State}
use Rattle.condensed_machine.specs.declared.moves.MoveFrom.{MoveFrom}
use Rattle.condensed_machine.specs.declared.moves.MoveTo.{MoveTo}
use Rattle.condensed_machine.proofs.Made.{HasDone, HasMoved, moved_from, made, known}
use Rattle.condensed_machine.proofs.Numbers.{hart_of_number}

-- ---- As the tables grow

module _ (p : Program) (old new : List Hart) (before now : List Shared) (keeps : Keeps old new)
    (keeps_shared : Keeps before now) where
  pub after_stays : (h : ℕ) (from : MoveFrom) (to : MoveTo) (move : IsMove p old before from to)
      → IsSharedAfter p.image from.hart move.done (keeps_reservation p move.moved) move.common now to.shared
  after_stays h from to move = record {
    after = move.after.after;
    has = keeps_shared to.shared move.after.after move.after.has;
    is = move.after.is;
  }

  pub move_stays : (from : MoveFrom) (to : MoveTo) → IsMove p old before from to → IsMove p new now from to
  move_stays from to move = record {
    here = move.here;
    common = move.common;
    at = keeps from.number move.here move.at;
    shares = keeps_shared from.shared move.common move.shares;
    zero = move.zero;
    code = move.code;
    done = move.done;
    behind = move.behind;
    moved = move.moved;
    executed = move.executed;
    is_behind = move.is_behind;
    fitting = move.fitting;
    free = move.free;
    is_free = move.is_free;
    rests = move.rests;
    has = keeps to.number move.moved move.has;
    after = after_stays from.hart from to move;
  }

  pub moves_stay : (noted : List (MoveFrom × MoveTo)) → AreMoves p old before noted → AreMoves p new now noted
  moves_stay noted are = λ from to is. move_stays from to (are from to is)

-- Of a hart that has lost its reservation.
pub rest_stays : (p : Program) (old new : List Hart) (keeps : Keeps old new) (number : ℕ) (to : Rest)
    → IsRest p old number to → IsRest p new number to
rest_stays p old new keeps number to rest = record {
  here = rest.here;
  at = keeps number rest.here rest.at;
  zero = rest.zero;
  moved = rest.moved;
  rests = rest.rests;
  has = keeps to.number rest.moved rest.has;
}

pub rests_stay : (p : Program) (old new : List Hart) (keeps : Keeps old new) (noted : List (ℕ × Rest))
    → AreRests p old noted → AreRests p new noted
rests_stay p old new keeps noted are = λ number to is. rest_stays p old new keeps number to (are number to is)

-- ---- What is looked up, and noted

pub one_from : (a b : MoveFrom) → is_same_from a b ≡ true → a ≡ b
one_from a b e =
    let x = nat_eq a.hart b.hart in
    let y = nat_eq a.number b.number in
    let z = nat_eq a.shared b.shared in
    let hart = (unsigned_Decides a.hart b.hart).0 (first_so x (y && z) e) in
    let number = (unsigned_Decides a.number b.number).0 (first_so y z (second_so x (y && z) e)) in
    let shared = (unsigned_Decides a.shared b.shared).0 (second_so y z (second_so x (y && z) e)) in
    λ i. record { hart = hart i; number = number i; shared = shared i }

pub nothing_noted : (p : Program) (harts : List Hart) (shared : List Shared) (noted : List (MoveFrom × MoveTo))
    → noted ≡ [] → AreMoves p harts shared noted
nothing_noted p harts shared noted none = λ from to is.
    absurd (none_some to (sym (ap (lookup (is_same_from from)) none) ∙ is))
  where
    none_some : (to : MoveTo) → None ≡ Some to → ⊥
    none_some to same = cc

pub no_rests : (p : Program) (harts : List Hart) (noted : List (ℕ × Rest)) → noted ≡ [] → AreRests p harts noted
no_rests p harts noted none = λ number to is.
    absurd (none_some to (sym (ap (lookup (nat_eq number)) none) ∙ is))
  where
    none_some : (to : Rest) → None ≡ Some to → ⊥
    none_some to same = cc

module _ (p : Program) (harts : List Hart) (shared : List Shared) where
  pub found_is : (noted : List (MoveFrom × MoveTo)) (from : MoveFrom) (found : Option MoveTo)
      → found ≡ lookup (is_same_from from) noted → AreMoves p harts shared noted
      → IfSome found (IsMove p harts shared from)
  found_is noted from None same are = tt
  found_is noted from (Some to) same are = are from to (sym same)

  one_to : (from : MoveFrom) (to next : MoveTo) → IsMove p harts shared from to → Some to ≡ Some next
      → IsMove p harts shared from next
  one_to from to next move same = subst (IsMove p harts shared from) (some_is to next same) move
    where
      some_is : (a b : MoveTo) → Some a ≡ Some b → a ≡ b
      some_is a b is = cc

  pub one_more : (old new : List (MoveFrom × MoveTo)) (from : MoveFrom) (to : MoveTo)
      → ((q : MoveFrom) → lookup (is_same_from q) new
      ≡ (if is_same_from from q then Some to else lookup (is_same_from q) old))
      → IsMove p harts shared from to → AreMoves p harts shared old → AreMoves p harts shared new
  one_more old new from to updates move are = λ q next is.
      let before = lookup (is_same_from q) old in
      elim (cases_Bool (is_same_from from q)) [
        | inl same ↦
            let noted : Some to ≡ Some next =
            sym (updates q ∙ ap (λ b. if b then Some to else before) same) ∙ is in
            subst (λ (k : MoveFrom). IsMove p harts shared k next) (one_from from q same)
            (one_to from to next move noted)
        | inr other ↦ are q next (sym (updates q ∙ ap (λ b. if b then Some to else before) other) ∙ is)
      ]

  -- Whether or not there was memory for it.
  pub noted_after : {A B U : Type 0} (result : Result A B) (old new : List (MoveFrom × MoveTo)) (from : MoveFrom)
      (to : MoveTo) → OnOk result U → OnErr result (new ≡ old)
      → (U → (q : MoveFrom) → lookup (is_same_from q) new
      ≡ (if is_same_from from q then Some to else lookup (is_same_from q) old))
      → IsMove p harts shared from to → AreMoves p harts shared old → AreMoves p harts shared new
  noted_after (Ok x) old new from to updated kept read move are = one_more old new from to (read updated) move are
  noted_after (Err x) old new from to updated kept read move are = subst (AreMoves p harts shared) (sym kept) are

-- ---- A state goes on by a move

-- The machine m has become k as it found the move of hart h, and n as it numbered the next state.
module _ (m k n : Machine) (s t : State) (h : ℕ) (from : MoveFrom) (to : MoveTo) (sound : IsSound k.program)
    (first : Grows m k) (second : Grows k n) (knows : Knows m s) (inside : h < m.program.harts)
    (move : IsMoveOf k from to) (of_hart : from.hart ≡ h) (of_number : from.number ≡ slice_index (numbers_of m s) h)
    (of_shared : from.shared ≡ s.shared) (going : is_going_status (hart_in m s h).status ≡ true)
    (numbered : HasNumbers n.far_harts (slice_set (numbers_of k s) h to.number) to.shared t) where
  knows_now : Knows k s
  knows_now = still_knows m k s first knows

  there : h < k.program.harts
  there = subst (λ (p : Program). h < p.harts) (sym first.program) inside

  in_room : h < length (numbers_of k s)
  in_room = omega (arith, there, sound.few, knows_now.room)

  here_is : move.here ≡ hart_in k s h
  here_is =
      sym (get_or_from_slice_get k.hart_states from.number move.here no_hart move.at)
      ∙ ap (hart_at k.hart_states) (of_number ∙ ap (λ all. slice_index all h) (sym (still_numbered m k s first knows)))
      ∙ sym (hart_of_number k.hart_states (numbers_of k s) h in_room)

  common_is : move.common ≡ (decoded k s).shared
  common_is =
      sym (get_or_from_slice_get k.shared_states from.shared move.common no_shared move.shares)
      ∙ ap (shared_at k.shared_states) of_shared

  goes : is_going_status move.here.status ≡ true
  goes =
      ap (λ (x : Hart). is_going_status x.status)
      (here_is ∙ ap (λ (d : Decoded). hart_at d.harts h) (still_decoded m k s first knows))
      ∙ going

  done : HasDone k n s t from.hart to.steps move.here move.common
  done = record {
    zero = move.zero;
    code = move.code;
    going = goes;
    done = move.done;
    behind = move.behind;
    moved = move.moved;
    number = to.number;
    executed = move.executed;
    is_behind = move.is_behind;
    fitting = move.fitting;
    free = move.free;
    is_free = move.is_free;
    rests = move.rests;
    has = second.hart_states to.number move.moved move.has;
    numbered = numbered.numbers_are ∙ ap (λ g. slice_set (numbers_of k s) g to.number) (sym of_hart);
    near = numbered.near;
    far = numbered.known;
    shared =
        subst (λ (number : ℕ). IsSharedAfter k.program.image from.hart move.done
        (keeps_reservation k.program move.moved) move.common n.shared_states number)
        (sym numbered.shared_is)
        (after_stays k.program k.hart_states n.hart_states k.shared_states n.shared_states second.hart_states
        second.shared_states from.hart from to move);
  }

  moved : HasMoved k n s t h to.steps
  moved =
      moved_from k n s t h to.steps move.here move.common here_is common_is
      (subst (λ (g : ℕ). HasDone k n s t g to.steps move.here move.common) of_hart done)

  pub goes_on : InEachSetup n.program (λ setup. MakesMove setup n s h to.steps t)
  goes_on = made k n s t h to.steps sound second knows_now there moved

  pub knows_next : Knows n t
  knows_next = known k n s t h to.steps sound second knows_now there moved
