-- The loads and stores of an active list after each step that changes the list.
use Rattle.std.specs.Prelude.{◌≡◌, ℕ, ◌<◌, ◌==◌, Bool, true, false, List, [], ◌∷◌, ◌++◌, map}
use Rattle.std.specs.Prelude.{length, Option, Some, None, if◌then◌else◌}
use Rattle.std.specs.List.{AllByRecursion}
use Rattle.std.proofs.Common.{◌∙◌, refl, sym, ap, inl, inr, arith}
use Rattle.std.proofs.{lemmas.Bool.cases_Bool, lemmas.Bool.Decides.nat_tests}
use Rattle.events.specs.{declared.effect.Outcome.Outcome, declared.effect.Written.Written}
use Rattle.rv_instr.specs.declared.op.Op.{Op}
use Rattle.retire_squash.specs.{Active.with_stage, declared.active.Active.Active, declared.active.Stage.Stage}
use Rattle.retire_squash.specs.declared.active.Stage.TheVariants as stage
use Rattle.smt_model.specs.{Looks.stored_by, Kinds.is_loading, Kinds.is_storing, Kinds.kind_of}
use Rattle.smt_model.specs.Kinds.{Kind, Computing, Loading, Storing, Reserving, Conditional, Atomic}
use Rattle.smt_model.specs.{Fates.Completed, Picture.Picture, Steps.op_in}
use Rattle.load_store.specs.{Queues.new_load, Queues.new_store, Queues.looking, Queues.resolved}
use Rattle.load_store.specs.{declared.load.Load.Load, declared.load.FirstLook.FirstLook, declared.store.Store.Store}
use Rattle.core_parts.specs.Accesses.{is_load, is_store, look_at, looked_by, load_of, store_of, write_at, accesses_of}
use Rattle.core_parts.specs.Checkpoints.{is_completed}
use Rattle.core_parts.specs.Agree.{IsActive, IsStage}
use Rattle.core_parts.proofs.Agreement.Accesses.{loads_of, stores_of, both}
use Rattle.core_parts.proofs.Agreement.Queues.{active_op}
use Rattle.core_steps.specs.Accesses.{with_kind, with_access, with_write, with_first_look, with_outcome, without_kind}
use Rattle.core_steps.specs.Accesses.{without_access}

-- ---- One more

loads_pushed : (t : ℕ → Bool) (b : Bool) (xs : List Active) (a : Active) → is_load a ≡ b
    → loads_of t (xs ++ a ∷ []) ≡ (if b then loads_of t xs ++ load_of t a ∷ [] else loads_of t xs)
loads_pushed t true [] a is = rw is refl
loads_pushed t false [] a is = rw is refl
loads_pushed t true (x ∷ xs) a is = elim (cases_Bool (is_load x)) [
  | inl loads ↦ rw loads (ap (λ ns. load_of t x ∷ ns) (loads_pushed t true xs a is))
  | inr f ↦ rw f (loads_pushed t true xs a is)
]
loads_pushed t false (x ∷ xs) a is = elim (cases_Bool (is_load x)) [
  | inl loads ↦ rw loads (ap (λ ns. load_of t x ∷ ns) (loads_pushed t false xs a is))
  | inr f ↦ rw f (loads_pushed t false xs a is)
]

stores_pushed : (b : Bool) (xs : List Active) (a : Active) → is_store a ≡ b
    → stores_of (xs ++ a ∷ []) ≡ (if b then stores_of xs ++ store_of a ∷ [] else stores_of xs)
stores_pushed true [] a is = rw is refl
stores_pushed false [] a is = rw is refl
stores_pushed true (x ∷ xs) a is = elim (cases_Bool (is_store x)) [
  | inl t ↦ rw t (ap (λ ns. store_of x ∷ ns) (stores_pushed true xs a is))
  | inr f ↦ rw f (stores_pushed true xs a is)
]
stores_pushed false (x ∷ xs) a is = elim (cases_Bool (is_store x)) [
  | inl t ↦ rw t (ap (λ ns. store_of x ∷ ns) (stores_pushed false xs a is))
  | inr f ↦ rw f (stores_pushed false xs a is)
]

-- An instruction that is new: a load among them has had no look, and a store isn't resolved.
pub record IsNew (t : ℕ → Bool) (a : Active) : Type 0 where
  pub load : load_of t a ≡ new_load a.seq
  pub store : store_of a ≡ new_store a.seq

pushed_kind : (t : ℕ → Bool) (k : Kind) (xs : List Active) (a : Active) → kind_of a.op ≡ k → IsNew t a
    → accesses_of t (xs ++ a ∷ []) ≡ with_kind k a.seq (accesses_of t xs)
pushed_kind t Loading xs a is new =
    both _ _ _ _ (loads_pushed t true xs a (ap is_loading is) ∙ ap (λ l. loads_of t xs ++ l ∷ []) new.load)
    (stores_pushed false xs a (ap is_storing is))
pushed_kind t Storing xs a is new =
    both _ _ _ _ (loads_pushed t false xs a (ap is_loading is))
    (stores_pushed true xs a (ap is_storing is) ∙ ap (λ s. stores_of xs ++ s ∷ []) new.store)
pushed_kind t Computing xs a is new =
    both _ _ _ _ (loads_pushed t false xs a (ap is_loading is)) (stores_pushed false xs a (ap is_storing is))
pushed_kind t Reserving xs a is new =
    both _ _ _ _ (loads_pushed t false xs a (ap is_loading is)) (stores_pushed false xs a (ap is_storing is))
pushed_kind t Conditional xs a is new =
    both _ _ _ _ (loads_pushed t false xs a (ap is_loading is)) (stores_pushed false xs a (ap is_storing is))
pushed_kind t Atomic xs a is new =
    both _ _ _ _ (loads_pushed t false xs a (ap is_loading is)) (stores_pushed false xs a (ap is_storing is))

-- A new one stands at its end.
pub accesses_pushed : (t : ℕ → Bool) (xs : List Active) (a : Active) → IsNew t a
    → accesses_of t (xs ++ a ∷ []) ≡ with_access a.op a.seq (accesses_of t xs)
accesses_pushed t xs a new = pushed_kind t (kind_of a.op) xs a refl new

-- ---- The oldest leaves

left_kind : (t : ℕ → Bool) (k : Kind) (a : Active) (xs : List Active) → kind_of a.op ≡ k
    → accesses_of t xs ≡ without_kind k (accesses_of t (a ∷ xs))
left_kind t Loading a xs is = rw is refl
left_kind t Storing a xs is = rw is refl
left_kind t Computing a xs is = rw is refl
left_kind t Reserving a xs is = rw is refl
left_kind t Conditional a xs is = rw is refl
left_kind t Atomic a xs is = rw is refl

pub accesses_left : (t : ℕ → Bool) (op : Op) (a : Active) (xs : List Active) → a.op ≡ op
    → accesses_of t xs ≡ without_access op (accesses_of t (a ∷ xs))
accesses_left t op a xs is = left_kind t (kind_of op) a xs (ap kind_of is)

-- The oldest is there to leave.
pub load_there : (t : ℕ → Bool) (op : Op) (a : Active) (xs : List Active) → a.op ≡ op → is_loading (kind_of op) ≡ true
    → 0 < length (accesses_of t (a ∷ xs)).loads
load_there t op a xs is loads = let own : is_load a ≡ true = rw is loads in rw own (omega arith)

pub store_there : (t : ℕ → Bool) (op : Op) (a : Active) (xs : List Active) → a.op ≡ op → is_storing (kind_of op) ≡ true
    → 0 < length (accesses_of t (a ∷ xs)).stores
store_there t op a xs is stores = let own : is_store a ≡ true = rw is stores in rw own (omega arith)

-- ---- A stage changes

-- The instruction of number n, if it is there, hasn't completed.
abbrev pub IsOpen : ℕ → Op → Active → Type 0
IsOpen n op x = (x.seq == n) ≡ true → (x.op ≡ op) × (is_completed x.stage ≡ false)

no_write : (op : Op) (at : Stage) → is_completed at ≡ false → write_at op at ≡ None
no_write op stage.Renamed is = refl
no_write op stage.Issued is = refl
no_write op (stage.Completed o) is = absurd (grind arith)

no_look : (op : Op) (b : Bool) (at : Stage) → is_completed at ≡ false → look_at op b at ≡ None
no_look op b stage.Renamed is = refl
no_look op b stage.Issued is = refl
no_look op b (stage.Completed o) is = absurd (grind arith)

-- What a load's stage says of its first look, if anything.
abbrev looked : ℕ → Option FirstLook → Load → Load
looked n None l = l
looked n (Some look) l = looking n look l

load_staged : (t : ℕ → Bool) (n : ℕ) (op : Op) (at : Stage) (look : Option FirstLook) (x : Active) → (x.seq == n) ≡ true
    → (x.op ≡ op) × (is_completed x.stage ≡ false) → look_at op (t n) at ≡ look
    → load_of t (record x { stage = at }) ≡ looked n look (load_of t x)
load_staged t n op at None x own is says =
    let number : x.seq ≡ n = grind (arith, nat_tests) in
    rw (no_look x.op (t x.seq) x.stage is.1, is.0, number, says) refl
load_staged t n op at (Some look) x own is says =
    let number : x.seq ≡ n = grind (arith, nat_tests) in
    rw own (ap (λ l. record { seq = x.seq; look = l })
    (ap (λ o. look_at o (t x.seq) at) is.0 ∙ (ap (λ m. look_at op (t m) at) number ∙ says)))

load_other : (n : ℕ) (look : Option FirstLook) (l : Load) → (l.seq == n) ≡ false → l ≡ looked n look l
load_other n None l other = refl
load_other n (Some look) l other = rw other refl

loads_staged : (t : ℕ → Bool) (n : ℕ) (op : Op) (at : Stage) (look : Option FirstLook) (xs : List Active)
    → look_at op (t n) at ≡ look → AllByRecursion (IsOpen n op) xs
    → loads_of t (with_stage n at xs) ≡ map (looked n look) (loads_of t xs)
loads_staged t n op at look [] says all = refl
loads_staged t n op at look (x ∷ xs) says all = elim (cases_Bool (x.seq == n)) [
  | inl own ↦
      let one = load_staged t n op at look x own (all.0 own) says in
      elim (cases_Bool (is_load x)) [
        | inl loads ↦ rw (own, loads) (ap (λ s. s ∷ loads_of t (with_stage n at xs)) one
            ∙ ap (λ ns. looked n look (load_of t x) ∷ ns) (loads_staged t n op at look xs says all.1))
        | inr f ↦ rw (own, f) (loads_staged t n op at look xs says all.1)
      ]
  | inr other ↦
      let one = load_other n look (load_of t x) other in
      elim (cases_Bool (is_load x)) [
        | inl loads ↦ rw (other, loads) (ap (λ s. s ∷ loads_of t (with_stage n at xs)) one
            ∙ ap (λ ns. looked n look (load_of t x) ∷ ns) (loads_staged t n op at look xs says all.1))
        | inr f ↦ rw (other, f) (loads_staged t n op at look xs says all.1)
      ]
]

-- What a store's stage says that it will write, if anything.
abbrev written : ℕ → Option Written → Store → Store
written n None s = s
written n (Some w) s = resolved n w s

store_staged : (n : ℕ) (op : Op) (at : Stage) (w : Option Written) (x : Active) → (x.seq == n) ≡ true
    → (x.op ≡ op) × (is_completed x.stage ≡ false) → write_at op at ≡ w
    → store_of (record x { stage = at }) ≡ written n w (store_of x)
store_staged n op at None x own is says = rw (no_write x.op x.stage is.1, is.0, says) refl
store_staged n op at (Some w) x own is says = rw (own, is.0, says) refl

store_other : (n : ℕ) (w : Option Written) (x : Active) → (x.seq == n) ≡ false → store_of x ≡ written n w (store_of x)
store_other n None x other = refl
store_other n (Some w) x other = rw other refl

stores_staged : (n : ℕ) (op : Op) (at : Stage) (w : Option Written) (xs : List Active) → write_at op at ≡ w
    → AllByRecursion (IsOpen n op) xs → stores_of (with_stage n at xs) ≡ map (written n w) (stores_of xs)
stores_staged n op at w [] says all = refl
stores_staged n op at w (x ∷ xs) says all = elim (cases_Bool (x.seq == n)) [
  | inl own ↦
      let one = store_staged n op at w x own (all.0 own) says in
      elim (cases_Bool (is_store x)) [
        | inl t ↦ rw (own, t) (ap (λ s. s ∷ stores_of (with_stage n at xs)) one
            ∙ ap (λ ns. written n w (store_of x) ∷ ns) (stores_staged n op at w xs says all.1))
        | inr f ↦ rw (own, f) (stores_staged n op at w xs says all.1)
      ]
  | inr other ↦
      let one = store_other n w x other in
      elim (cases_Bool (is_store x)) [
        | inl t ↦ rw (other, t) (ap (λ s. s ∷ stores_of (with_stage n at xs)) one
            ∙ ap (λ ns. written n w (store_of x) ∷ ns) (stores_staged n op at w xs says all.1))
        | inr f ↦ rw (other, f) (stores_staged n op at w xs says all.1)
      ]
]

map_same : {A : Type 0} → (xs : List A) → map (λ s. s) xs ≡ xs
map_same [] = refl
map_same (x ∷ xs) = ap (λ ns. x ∷ ns) (map_same xs)

staged_by : (t : ℕ → Bool) (n : ℕ) (op : Op) (at : Stage) (look : Option FirstLook) (w : Option Written)
    (xs : List Active) → look_at op (t n) at ≡ look → write_at op at ≡ w → AllByRecursion (IsOpen n op) xs
    → accesses_of t (with_stage n at xs) ≡ with_first_look n look (with_write n w (accesses_of t xs))
staged_by t n op at None None xs looks says all =
    both _ _ _ _ (loads_staged t n op at None xs looks all ∙ map_same (loads_of t xs))
    (stores_staged n op at None xs says all ∙ map_same (stores_of xs))
staged_by t n op at None (Some w) xs looks says all =
    both _ _ _ _ (loads_staged t n op at None xs looks all ∙ map_same (loads_of t xs))
    (stores_staged n op at (Some w) xs says all)
staged_by t n op at (Some look) None xs looks says all =
    both _ _ _ _ (loads_staged t n op at (Some look) xs looks all)
    (stores_staged n op at None xs says all ∙ map_same (stores_of xs))
staged_by t n op at (Some look) (Some w) xs looks says all =
    both _ _ _ _ (loads_staged t n op at (Some look) xs looks all) (stores_staged n op at (Some w) xs says all)

-- It completes, and nothing has touched it: a store will write what its completion names, and a load has looked.
pub accesses_completed : (t : ℕ → Bool) (n : ℕ) (op : Op) (o : Outcome) (xs : List Active) → t n ≡ false
    → AllByRecursion (IsOpen n op) xs
    → accesses_of t (with_stage n (stage.Completed o) xs) ≡ with_outcome n op o (accesses_of t xs)
accesses_completed t n op o xs untouched all =
    staged_by t n op (stage.Completed o) (looked_by op false o) (stored_by op o) xs
    (ap (λ b. looked_by op b o) untouched) refl all

-- It is issued: nothing changes.
pub accesses_issued : (t : ℕ → Bool) (n : ℕ) (op : Op) (xs : List Active) → AllByRecursion (IsOpen n op) xs
    → accesses_of t (with_stage n stage.Issued xs) ≡ accesses_of t xs
accesses_issued t n op xs all = staged_by t n op stage.Issued None None xs refl refl all

-- One that hasn't completed has a stage that says so.
open_at : (p : Picture) (s : ℕ) (at : Stage) → IsStage p s at → (p.fate s ≡ Completed → ⊥) → is_completed at ≡ false
open_at p s stage.Renamed is never = refl
open_at p s stage.Issued is never = refl
open_at p s (stage.Completed outcome) is never = absurd (never is.0)

pub opens : (p : Picture) (h n : ℕ) (op : Op) → op_in p n ≡ op → (p.fate n ≡ Completed → ⊥) → (xs : List Active)
    → AllByRecursion (IsActive p h) xs → AllByRecursion (IsOpen n op) xs
opens p h n op same never [] all = tt
opens p h n op same never (x ∷ xs) all = (
  λ own.
      let number : x.seq ≡ n = grind (arith, nat_tests) in (
        sym (active_op p h x all.0) ∙ (ap (op_in p) number ∙ same),
        open_at p x.seq x.stage all.0.stage (λ done. never (ap p.fate (sym number) ∙ done)),
      ),
  opens p h n op same never xs all.1,
)
