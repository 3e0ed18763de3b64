-- What an instruction finds in a core before it is renamed is what the history says behind its rename.
use Rattle.std.specs.Prelude.{◌≡◌, ℕ, ◌<◌, ◌≤◌, true, false, ◌==◌, List, [], ◌∷◌, Option, Some, None}
use Rattle.std.proofs.Common.{◌∙◌, refl, sym, ap, subst, inl, inr, arith}
use Rattle.std.proofs.{lemmas.Bool.cases_Bool, lemmas.Bool.Decides.nat_tests}
use Rattle.rv_instr.specs.declared.op.Op.{Op}
use Rattle.events.specs.{declared.event.Event.Event, declared.event.Event.TheVariants.Rename}
use Rattle.smt_model.specs.{Basics.first, Setup.Setup, Rules.is_legal, Rules.refused}
use Rattle.smt_model.specs.Kinds.{first_source, second_source}
use Rattle.smt_model.specs.Fates.{Fetched, fate, fetching, is_in_flight, is_of, op_of_fetched}
use Rattle.smt_model.specs.{Flights.in_rename}
use Rattle.smt_model.specs.Registers.{holder, mapped, source, source_register}
use Rattle.smt_model.proofs.{Allowed.rename_allowed, Registers.Claims.IsRegister, Fates.Numbers.first_of_hart}
use Rattle.smt_laws.proofs.Registers.Below.{first_source-below, second_source-below}
use Rattle.smt_laws.proofs.{Fates.Choosing.hart_there, Registers.Held.holder-Rename_other, Registers.Reading.seen-held}
use Rattle.smt_laws.proofs.Steps.RenameMap.{mapped_claimed, not_taken, now-Rename, seen-Rename}
use Rattle.core_state.specs.View.{CoreView}
use Rattle.chart_registers.specs.declared.registers.{Destination.Destination, Registers.Registers, Source.Source}
use Rattle.chart_registers.specs.Registers.{destination_by, found_by, second_by, source_by}
use Rattle.chart_registers.specs.Finding.{NoneIsDecoded, held_source, other_source}

module _ (setup : Setup) (past : List Event) (legal : is_legal setup past) (actor n : ℕ) (given : Option ℕ)
    (ok : refused setup past (Rename actor n given) ≡ None) (h : ℕ) (of_n : is_of past h n ≡ true) where
  inside : h < setup.harts
  inside = hart_there setup past legal h n of_n

  flies : is_in_flight (fate (Rename actor n given ∷ past) n) ≡ true
  flies = ap is_in_flight (now-Rename setup past actor n given ok)

  same_holder : (r : ℕ) → 1 ≤ r → r < 32
      → holder past (mapped past h r) ≡ source (Rename actor n given ∷ past) h r n
  same_holder r low high =
      let now = Rename actor n given ∷ past in
      let seen : source_register now h r n ≡ mapped past h r = seen-Rename setup past legal actor n given ok h r of_n in
      let is_register : IsRegister setup h r = record { hart = inside; low = low; high = high } in
      let held : holder now (source_register now h r n) ≡ source now h r n =
      seen-held setup now (ok, legal) h r n is_register of_n flies in
      let claimed = mapped_claimed setup past legal h r inside low high in
      let other : holder now (mapped past h r) ≡ holder past (mapped past h r) =
      holder-Rename_other setup past legal actor n given ok (mapped past h r)
      (not_taken setup past actor n given ok (mapped past h r) claimed) in
      sym other ∙ (ap (holder now) (sym seen) ∙ held)

  same_source : (r : ℕ) → r < 32 → held_source past h r ≡ source_by (Rename actor n given ∷ past) h n r
  same_source r high = elim (cases_Bool (r == 0)) [
    | inl none ↦ rw none refl
    | inr some ↦
        let low : 1 ≤ r = grind (arith, nat_tests) in
        let now = Rename actor n given ∷ past in
        rw (some, same_holder r low high, seen-Rename setup past legal actor n given ok h r of_n) refl
  ]

  same_second : (first second : ℕ) → second < 32
      → other_source past h first second ≡ second_by (Rename actor n given ∷ past) h n first second
  same_second first second high = elim (cases_Bool (first == second)) [
    | inl same ↦ rw same refl
    | inr other ↦ rw other (same_source second high)
  ]

-- All that it finds, where what was fetched is known.
pub all_found : (setup : Setup) (past : List Event) → is_legal setup past → (actor n : ℕ) (given : Option ℕ)
    → refused setup past (Rename actor n given) ≡ None → (h : ℕ) (op : Op) (f : Fetched) → fetching past n ≡ Some f
    → f.hart ≡ h → op ≡ op_of_fetched (Some f)
    → ◌≡◌ {A = Registers} (record {
      destination = destination_by op given;
      sources = held_source past h (first_source op) ∷ other_source past h (first_source op) (second_source op) ∷ [];
    }) (found_by past actor n given)
unfolding found_by
all_found setup past legal actor n given ok h op f fetched hart is =
    let of_n : is_of past f.hart n ≡ true = rw fetched (grind (arith, nat_tests)) in
    rw (
      fetched,
      is,
      sym hart,
      same_source setup past legal actor n given ok f.hart of_n
          (first_source (op_of_fetched (Some f))) (first_source-below f.word),
      same_second setup past legal actor n given ok f.hart of_n
          (first_source (op_of_fetched (Some f))) (second_source (op_of_fetched (Some f))) (second_source-below f.word),
    ) refl

-- What is renamed is the oldest decoded one of its hart.
missing : (core : CoreView) → is_legal core.setup core.past → (actor n : ℕ) (given : Option ℕ)
    → refused core.setup core.past (Rename actor n given) ≡ None → NoneIsDecoded core n
    → (o : Option Fetched) → fetching core.past n ≡ o → ⊥
missing core legal actor n given ok none None fetched =
    let oldest = (rename_allowed core.setup core.past actor n given ok).oldest in
    let is : false ≡ true = rw fetched at oldest in
    absurd (grind (arith, is))
missing core legal actor n given ok none (Some f) fetched =
    let oldest = (rename_allowed core.setup core.past actor n given ok).oldest in
    let of_n : is_of core.past f.hart n ≡ true = rw fetched (grind (arith, nat_tests)) in
    none f.hart (hart_there core.setup core.past legal f.hart n of_n)
    (first_of_hart core.past (in_rename core.past) f.hart n of_n oldest)

pub never_missing : (core : CoreView) → is_legal core.setup core.past → (actor n : ℕ) (given : Option ℕ)
    → refused core.setup core.past (Rename actor n given) ≡ None → NoneIsDecoded core n → ⊥
never_missing core legal actor n given ok none = missing core legal actor n given ok none (fetching core.past n) refl

-- ---- As it is put together

pub below_first : (r : ℕ) (op : Op) (f : Fetched) → op ≡ op_of_fetched (Some f) → r ≡ first_source op → r < 32
below_first r op f is from =
    subst (λ x. x < 32) (sym from) (rw is (first_source-below f.word))

pub below_second : (r : ℕ) (op : Op) (f : Fetched) → op ≡ op_of_fetched (Some f) → r ≡ second_source op → r < 32
below_second r op f is from =
    subst (λ x. x < 32) (sym from) (rw is (second_source-below f.word))

pub gathered : (past : List Event) (h : ℕ) (op : Op) (given : Option ℕ) (d : Option Destination) (a b : Option Source)
    (x y : ℕ) → d ≡ destination_by op given → x ≡ first_source op → y ≡ second_source op
    → a ≡ held_source past h x → b ≡ other_source past h x y
    → ◌≡◌ {A = Registers} (record { destination = d; sources = a ∷ b ∷ [] })
    (record {
      destination = destination_by op given;
      sources = held_source past h (first_source op) ∷ other_source past h (first_source op) (second_source op) ∷ [];
    })
gathered past h op given d a b x y of_d of_x of_y of_a of_b = rw (of_d, of_a, of_b, of_x, of_y) refl
