-- The test of what changes nothing that harts share decides it.
use Rattle.std.proofs.Common.{◌≡◌, ℕ, Bool, true, false, not, ◌&&◌, ◌||◌, Option, Some, None, Decides}
use Rattle.std.proofs.Common.{refl, sym, ◌∙◌, inl, inr, arith}
use Rattle.std.proofs.lemmas.Bool.{cases_Bool, true≢false}
use Rattle.std.specs.Cmp.{first_so, second_so}
use Rattle.std.specs.Option.{is_none}
use Rattle.smt_model.specs.Words.{Op, Effect}
use Rattle.smt_model.specs.Kinds.{Kind, Computing, Loading, Storing, Reserving, Conditional, Atomic, kind_of}
use Rattle.smt_model.specs.Nexts.{is_last}
use Rattle.smt_model.specs.Reservations.{own_reservation, reservation_after}
use Rattle.changed_memory.specs.Keeping.{reserves, KeepsShared}

-- ---- By kind

own_stays : (kind : Kind) (addr : ℕ) (held : Option ℕ) → reserves kind ≡ false → own_reservation kind addr held ≡ held
own_stays Computing addr held none = refl
own_stays Loading addr held none = refl
own_stays Storing addr held none = refl
own_stays Reserving addr held none = absurd (true≢false none)
own_stays Conditional addr held none = absurd (true≢false none)
own_stays Atomic addr held none = refl

stays_own : (kind : Kind) → ((addr : ℕ) (held : Option ℕ) → own_reservation kind addr held ≡ held)
    → reserves kind ≡ false
stays_own Computing stays = refl
stays_own Loading stays = refl
stays_own Storing stays = refl
stays_own Reserving stays = absurd (let e = stays 0 None in cc)
stays_own Conditional stays = absurd (let e = stays 0 (Some 0) in cc)
stays_own Atomic stays = refl

-- ---- By the tests

is_there : {A : Type 0} (x : Option A) → is_none x ≡ true → x ≡ None
is_there None e = refl
is_there (Some x) e = absurd (true≢false (sym e))

module _ (op : Op) (x : Effect) where
  after_own : (addr : ℕ) (held : Option ℕ) → is_last x.next ≡ false → x.write ≡ None
      → reservation_after op addr x true held ≡ own_reservation (kind_of op) addr held
  after_own addr held going none = rw (going, none) refl

  kept : (addr : ℕ) (own : Bool) (held : Option ℕ) → x.write ≡ None
      → (is_last x.next || not (reserves (kind_of op))) ≡ true → reservation_after op addr x own held ≡ held
  kept addr own held none stays = elim (cases_Bool (is_last x.next)) [
    | inl last ↦ rw last refl
    | inr going ↦ by own going (grind (arith, stays, going))
  ]
    where
      by : (own : Bool) → is_last x.next ≡ false → reserves (kind_of op) ≡ false
          → reservation_after op addr x own held ≡ held
      by true going stays = after_own addr held going none ∙ own_stays (kind_of op) addr held stays
      by false going stays = rw (going, none) refl

  needed : KeepsShared op x → (is_last x.next || not (reserves (kind_of op))) ≡ true
  needed keeps = elim (cases_Bool (is_last x.next)) [
    | inl last ↦ rw last refl
    | inr going ↦ rw (
      going,
      stays_own (kind_of op)
          (λ addr held. sym (after_own addr held going keeps.write) ∙ keeps.reserved addr true held),
    ) refl
  ]

  pub keeps_decided : Decides
      ((is_none x.write && is_none x.out) && (is_last x.next || not (reserves (kind_of op)))) (KeepsShared op x)
  keeps_decided = (
    λ tests.
        let write = is_none x.write in
        let out = is_none x.out in
        let both = first_so (write && out) (is_last x.next || not (reserves (kind_of op))) tests in
        let none = is_there x.write (first_so write out both) in
        let stays = second_so (write && out) (is_last x.next || not (reserves (kind_of op))) tests in
        record {
          write = none;
          reserved = λ addr own held. kept addr own held none stays;
          out = is_there x.out (second_so write out both);
        },
    λ keeps. rw (keeps.write, keeps.out) (needed keeps),
  )
