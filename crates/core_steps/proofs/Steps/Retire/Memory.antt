-- What a retirement makes of memory and of its hart's queues.
use Rattle.std.specs.Prelude.{◌≡◌, ℕ, ◌<◌, ◌==◌, true, List, [], ◌∷◌, map, drop, length, Option}
use Rattle.std.specs.Prelude.{if◌then◌else◌, slice_index_or}
use Rattle.std.specs.List.{AllByRecursion}
use Rattle.std.proofs.Common.{◌∙◌, refl, sym, ap, subst, inl, inr, arith}
use Rattle.std.proofs.{lemmas.Bool.cases_eq, lemmas.Bool.Decides.nat_tests, lemmas.List.get_or_default}
use Rattle.events.specs.{declared.effect.Effect.Effect, declared.effect.Written.Written}
use Rattle.rv_instr.specs.declared.op.Op.{Op}
use Rattle.retire_squash.specs.{declared.active.Active.Active, declared.active.Stage.Stage}
use Rattle.retire_squash.specs.declared.active.Stage.TheVariants as stage
use Rattle.smt_model.specs.{Basics.holds_of, Bytes.byte_after, Kinds.kind_of, Kinds.is_loading, Kinds.is_storing}
use Rattle.smt_model.specs.{Fates.Completed, Fates.stage as stage_number, Memory.address_of, Picture.Picture}
use Rattle.smt_model.specs.{Reservations.own_reservation, Reservations.reservation_after_write}
use Rattle.smt_model.specs.{Reservations.reservation_after, Steps.op_in, Steps.is_hart_of}
use Rattle.shared_memory.specs.Contents.{Contents, byte_of, reserved_of}
use Rattle.load_store.specs.Queues.{Queues, queues_of}
use Rattle.core_parts.specs.Accesses.{MemoryAgrees, accesses_of}
use Rattle.core_steps.specs.Accesses.{without_access, address_at}
use Rattle.core_parts.specs.{Agree.IsActive, Agree.IsStage, Agree.HartAgrees, Agree.PartsAgree}
use Rattle.core_steps.specs.{Retirement.Commits}
use Rattle.core_parts.specs.{declared.hart.HartState.HartState, declared.parts.Parts.Parts}
use Rattle.core_steps.proofs.{Agreement.Accesses.accesses_left, Agreement.Accesses.load_there}
use Rattle.core_steps.proofs.{Agreement.Accesses.store_there}
use Rattle.core_parts.proofs.Agreement.Queues.{active_op, has_place, queues_here}

-- ---- The queues

-- The oldest, of number n, leaves an active list.
pub accesses_dropped : (p : Picture) (h n : ℕ) (op : Op) (xs : List Active) (rest : List ℕ)
    → map (λ a. a.seq) xs ≡ n ∷ rest → AllByRecursion (IsActive p h) xs → op_in p n ≡ op
    → accesses_of p.touched (drop 1 xs) ≡ without_access op (accesses_of p.touched xs)
accesses_dropped p h n op [] rest numbers all same = absurd cc
accesses_dropped p h n op (x ∷ xs) rest numbers all same =
    let number : x.seq ≡ n = cc in
    accesses_left p.touched op x xs (sym (active_op p h x all.0) ∙ (ap (op_in p) number ∙ same))

-- What the code must know before it removes a hart's oldest instruction from the hart's queues.
pub record CanRemove (accesses : List Queues) (h : ℕ) (op : Op) : Type 0 where
  pub hart : h < length accesses
  pub load : is_loading (kind_of op) ≡ true → 0 < length (queues_of accesses h).loads
  pub store : is_storing (kind_of op) ≡ true → 0 < length (queues_of accesses h).stores

can_remove_first : (p : Picture) (h : ℕ) (x : Active) (rest : List ℕ) (accesses : List Queues) (xs : List Active)
    → h < length accesses → queues_of accesses h ≡ accesses_of p.touched xs → map (λ a. a.seq) xs ≡ x.seq ∷ rest
    → AllByRecursion (IsActive p h) xs → IsActive p h x → CanRemove accesses h x.op
can_remove_first p h x rest accesses [] place queues numbers all is = absurd cc
can_remove_first p h x rest accesses (a ∷ xs) place queues numbers all is =
    let number : a.seq ≡ x.seq = cc in
    let op : a.op ≡ x.op = sym (active_op p h a all.0) ∙ (ap (op_in p) number ∙ active_op p h x is) in
    record {
      hart = place;
      load = λ loads. subst (λ (q : Queues). 0 < length q.loads) (sym queues) (load_there p.touched x.op a xs op loads);
      store = λ stores. subst (λ (q : Queues). 0 < length q.stores) (sym queues) (store_there p.touched x.op a xs op stores);
    }

pub can_remove : (p : Picture) (h : ℕ) (x : Active) (rest : List ℕ) (old : Parts) (d : HartState) → PartsAgree p old
    → h < length old.harts.items → IsActive p h x → p.flight h ≡ x.seq ∷ rest → CanRemove old.accesses h x.op
can_remove p h x rest old d agrees inside is flight =
    let a = slice_index_or old.harts.items h d in
    let hart : HartAgrees p h a = agrees.harts h d inside in
    can_remove_first p h x rest old.accesses a.active
    (has_place old.harts.items old.accesses h agrees.accesses inside)
    (queues_here old.harts.items old.accesses h a agrees.accesses inside (get_or_default old.harts.items h d a inside))
    (hart.active ∙ flight) hart.actives is

-- ---- Memory

-- What the code has made of memory.
pub record IsCommitted (h : ℕ) (x : Active) (write : Option Written) (old new : Contents) : Type 0 where
  pub bytes : (addr : ℕ) → byte_of new addr ≡ byte_after write addr (byte_of old addr)
  pub reserved : (g : ℕ) → reserved_of new g ≡ reservation_after_write write
      (if g == h then own_reservation (kind_of x.op) (address_at x.stage) (reserved_of old g)
      else reserved_of old g)

address_is : (p : Picture) (s : ℕ) (at : Stage) → p.fate s ≡ Completed → IsStage p s at
    → address_of (p.completion s) ≡ address_at at
address_is p s stage.Renamed done is = absurd (omega (arith, ap stage_number (sym is ∙ done)))
address_is p s stage.Issued done is = absurd (omega (arith, ap stage_number (sym is ∙ done)))
address_is p s (stage.Completed outcome) done is = rw is.1 refl

hart_is : (p : Picture) (h g : ℕ) (x : Active) → IsActive p h x → is_hart_of p g x.seq ≡ (g == h)
hart_is p h g x is = elim (cases_eq g h) [
  | inl same ↦ ap (holds_of (λ f. f.hart == g)) is.fetched ∙ (grind (arith, nat_tests))
  | inr other ↦ ap (holds_of (λ f. f.hart == g)) is.fetched ∙ (grind (arith, nat_tests))
]

pub memory_committed : (p q : Picture) (h : ℕ) (x : Active) (effect : Effect) (pc : ℕ) (old new : Contents)
    → Commits p q h x effect pc → IsCommitted h x effect.write old new → MemoryAgrees p old → MemoryAgrees q new
memory_committed p q h x effect pc old new commits made agrees =
    let is = commits.is_oldest.is_active in
    let op = active_op p h x is in
    let address = address_is p x.seq x.stage commits.is_oldest.completed is.stage in
    record {
      byte = λ addr. made.bytes addr
          ∙ (ap (byte_after effect.write addr) (agrees.byte addr) ∙ sym (commits.step.byte addr));
      reserved = λ g.
          let own = hart_is p h g x is in
          let says : reservation_after (op_in p x.seq) (address_of (p.completion x.seq)) effect
          (is_hart_of p g x.seq) (p.reserved g) ≡ reservation_after_write effect.write
          (if g == h then own_reservation (kind_of x.op) (address_at x.stage) (p.reserved g) else p.reserved g) =
          rw (commits.goes_on, own, op, address) refl in
          made.reserved g
          ∙ (ap (λ held. reservation_after_write effect.write
          (if g == h then own_reservation (kind_of x.op) (address_at x.stage) held else held)) (agrees.reserved g)
          ∙ (sym says ∙ sym (commits.step.reserved g)));
    }
