-- Small facts of what an instruction leaves of its hart.
use Rattle.std.specs.Prelude.{◌≡◌, ◌≢◌, ℕ, Bool, true, false, not, ◌==◌, ◌&&◌, ◌||◌, if◌then◌else◌}
use Rattle.std.specs.Prelude.{Option}
use Rattle.std.proofs.Common.{refl, ap, inl, inr, arith}
use Rattle.std.proofs.{lemmas.Bool.cases_Bool, lemmas.Bool.Decides.nat_tests}
use Rattle.rv_instr.specs.declared.op.Op.{Op}
use Rattle.events.specs.{declared.effect.Effect.Effect, declared.effect.Next.Next}
use Rattle.events.specs.{declared.effect.Next.TheVariants.Pc, declared.effect.Next.TheVariants.Ended}
use Rattle.events.specs.{declared.effect.Next.TheVariants.Stopped}
use Rattle.smt_model.specs.{Nexts.is_last, declared.config.Status.Status}
use Rattle.smt_model.specs.Kinds.{Kind, Computing, Loading, Storing, Reserving, Conditional, Atomic}
use Rattle.smt_model.specs.Kinds.{destination}
use Rattle.smt_model.specs.{Reservations.holds_word}
use Rattle.smt_model.specs.{Reservations.own_reservation}
use Rattle.smt_model.specs.Plain.{is_going_status, register_after, status_after}
use Rattle.outcome_laws.specs.Tables.{is_conditional}
use Rattle.outcome_laws.specs.Tables.{replaces_reservation}

pub apart_or : (a b : Bool) → (a || b) ≡ true → a ≡ false → b ≡ true
apart_or true b either none = absurd (grind arith)
apart_or false b either none = either

pub only_watched : (a b c : Bool) → b ≡ false → (a || (b && c)) ≡ true → a ≡ true
only_watched true b c none either = refl
only_watched false true c none either = absurd (grind arith)
only_watched false false c none either = either

pub last_stands : (next : Next) (before : Status) → is_last next ≡ true
    → is_going_status (status_after next before) ≡ false
last_stands (Pc to) before last = absurd (grind arith)
last_stands (Ended n) before last = refl
last_stands (Stopped cause) before last = refl

pub destined : (r d : ℕ) → r ≢ 0 → (r == d) ≡ true → not (d == 0) ≡ true
destined r d some is = grind (arith, nat_tests)

abbrev pub register_by : ℕ → Op → Effect → (ℕ → ℕ → ℕ) → ℕ → ℕ → ℕ
register_by h op x registers g r =
    if (g == h) && (r == destination op) then register_after x.value (registers g r) else registers g r

-- A hart that goes on goes on somewhere.
pub record GoesTo (next : Next) : Type 0 where
  pub to : ℕ
  pub is_so : next ≡ Pc to

pub goes_to : (next : Next) (before : Status) → is_going_status (status_after next before) ≡ true → GoesTo next
goes_to (Pc to) before going = record { to = to; is_so = refl }
goes_to (Ended n) before going = absurd (grind arith)
goes_to (Stopped cause) before going = absurd (grind arith)

pub own_replaced : (kind : Kind) (addr : ℕ) (held held2 : Option ℕ) → replaces_reservation kind ≡ true
    → own_reservation kind addr held ≡ own_reservation kind addr held2
own_replaced Computing addr held held2 is = absurd (grind arith)
own_replaced Loading addr held held2 is = absurd (grind arith)
own_replaced Storing addr held held2 is = absurd (grind arith)
own_replaced Reserving addr held held2 is = refl
own_replaced Conditional addr held held2 is = refl
own_replaced Atomic addr held held2 is = absurd (grind arith)

pub lacks_by : (kind : Kind) (addr : ℕ) (held held2 : Option ℕ) → (is_conditional kind ≡ true → held ≡ held2)
    → (is_conditional kind && not (holds_word held addr)) ≡ (is_conditional kind && not (holds_word held2 addr))
lacks_by kind addr held held2 same =
    elim (cases_Bool (is_conditional kind)) [
      | inl is ↦ ap (λ r. is_conditional kind && not (holds_word r addr)) (same is)
      | inr other ↦ rw other refl
    ]
