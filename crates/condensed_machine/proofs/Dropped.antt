-- A reservation that isn't kept isn't there, behind each step.
use Rattle.std.proofs.Common.{◌≡◌, ◌≢◌, ℕ, ◌<◌, Bool, true, false, Option, Some, None}
use Rattle.std.proofs.Common.{refl, sym, ap, subst, ◌∙◌, arith, inl, inr}
use Rattle.std.specs.Prelude.{◌==◌, ◌&&◌, not, if◌then◌else◌, nat_lt}
use Rattle.std.proofs.lemmas.Bool.{cases_eq, Decides.nat_tests}
use Rattle.events.specs.declared.effect.{Effect.Effect, Written.Written}
use Rattle.smt_model.specs.{Nexts.is_last, Words.Op, declared.config.Status.TheVariants.Going, Plain.is_going_status}
use Rattle.smt_model.specs.Reservations.{reservation_after, reservation_after_write}
use Rattle.outcome_laws.specs.Live.{reservation_matters}
use Rattle.condensed_machine.specs.Machine.{keeps_at}
use Rattle.sc_machine.specs.declared.hart.Hart.{Hart}
use Rattle.changed_memory.specs.Shared.{reserved_at}
use Rattle.condensed_machine.specs.{Machine.Program, Resting.keeps_reservation, declared.executed.Executed.Executed}
use Rattle.condensed_machine.specs.Decoded.{AreDropped, Decoded, full, pc_of, status_of}
use Rattle.condensed_machine.proofs.Moving.{IsNext}

-- Another hart's instruction gives no reservation.
none_written : (write : Option Written) → reservation_after_write write None ≡ None
none_written None = refl
none_written (Some w) = refl

none_stays : (op : Op) (addr : ℕ) (x : Effect) → reservation_after op addr x false None ≡ None
none_stays op addr x = by (is_last x.next)
  where
    by : (last : Bool) → (if last then None else reservation_after_write x.write None) ≡ None
    by true = refl
    by false = none_written x.write

module _ (p : Program) (d e : Decoded) (h steps : ℕ) (done : Executed) (y : Hart) (inside : h < p.harts)
    (next : IsNext p d e h done steps y) (was : AreDropped p d) where
  abbrev keeps : Bool
  keeps = keeps_reservation p y

  -- Whether a hart's reservation is kept hangs on the hart alone.
  abbrev matters_of : ℕ → Hart → Bool
  matters_of g x = is_going_status (status_of p g x) && keeps_at p (pc_of p g x)

  there : nat_lt h p.harts ≡ true
  there = grind (arith, nat_tests)

  own_matters : matters_of h y ≡ keeps
  own_matters =
      ap (λ q. is_going_status (if q then y.status else Going) && keeps_at p (if q then y.pc else p.image.entry))
      there

  own_dropped : reservation_matters (keeps_at p) (full p e) h ≡ false → reserved_at e.shared h ≡ None
  own_dropped lost =
      let unkept : keeps ≡ false = sym own_matters ∙ ap (matters_of h) (sym next.own) ∙ lost in
      let same : (h == h) ≡ true = grind (arith, nat_tests) in
      next.shared.dropped h (ap (λ b. b && not keeps) same ∙ ap not unkept)

  other_dropped : (g : ℕ) → g ≢ h → reservation_matters (keeps_at p) (full p e) g ≡ false
      → reserved_at e.shared g ≡ None
  other_dropped g other lost =
      let apart : (g == h) ≡ false = grind (arith, nat_tests) in
      next.shared.reserved g (ap (λ b. b && not keeps) apart)
      ∙ ap (λ b. reservation_after done.op done.addr done.effect b (reserved_at d.shared g)) apart
      ∙ ap (reservation_after done.op done.addr done.effect false)
      (was g (ap (matters_of g) (sym (next.others g other)) ∙ lost))
      ∙ none_stays done.op done.addr done.effect

  pub dropped_next : AreDropped p e
  dropped_next g lost = elim (cases_eq g h) [
    | inl same ↦
        subst (λ k. reservation_matters (keeps_at p) (full p e) k ≡ false → reserved_at e.shared k ≡ None)
        (sym same) own_dropped lost
    | inr other ↦ other_dropped g other lost
  ]
