-- The queues of all harts, and memory, after a step of one hart.
use Rattle.std.specs.Prelude.{◌≡◌, ◌≢◌, ℕ, ◌<◌, ◌==◌, Bool, true, false, List, [], ◌∷◌, length, map, filter}
use Rattle.std.specs.Prelude.{slice_index_or, slice_set}
use Rattle.std.specs.List.{AllByRecursion}
use Rattle.std.proofs.Common.{◌∙◌, refl, sym, ap, inl, inr, arith}
use Rattle.std.proofs.{lemmas.Bool.cases_Bool, lemmas.Bool.cases_eq, lemmas.Bool.Decides.nat_tests}
use Rattle.std.proofs.{lemmas.List.length-set, lemmas.List.get_or-set_same, lemmas.List.get_or-set_other}
use Rattle.numbers.specs.Sizes.{most_harts}
use Rattle.rv_instr.specs.declared.op.Op.{Op}
use Rattle.retire_squash.specs.{declared.active.Active.Active, declared.active.Stage.Stage}
use Rattle.retire_squash.specs.declared.active.Stage.TheVariants as stage
use Rattle.smt_model.specs.{Fates.op_of_fetched, Picture.Picture, Frames.KeepsMemory, Steps.op_in}
use Rattle.shared_memory.specs.Contents.{Contents}
use Rattle.load_store.specs.Queues.{Queues, queues_of, Changes}
use Rattle.core_parts.specs.Accesses.{AccessesAgree, MemoryAgrees, accesses_of, queues_in, is_load, is_store}
use Rattle.core_parts.specs.Accesses.{is_load_in, is_store_in, store_of, store_in, write_at, write_in}
use Rattle.core_parts.specs.Accesses.{look_at, looked_in, load_of, load_in}
use Rattle.core_parts.specs.Agree.{HartAgrees, IsActive, IsStage}
use Rattle.core_parts.specs.declared.hart.HartState.{HartState}
use Rattle.core_parts.proofs.Agreement.Accesses.{accesses_same}

-- ---- The queues

changed_own : (change : Queues → Queues) (h : ℕ) (old new : List Queues) → Changes change h old new
    → queues_of new h ≡ change (queues_of old h)
changed_own change h old new changes = let own : (h == h) ≡ true = grind (arith, nat_tests) in rw own at (changes.1 h)

changed_other : (change : Queues → Queues) (h g : ℕ) (old new : List Queues) → Changes change h old new → g ≢ h
    → queues_of new g ≡ queues_of old g
changed_other change h g old new changes other =
    let apart : (g == h) ≡ false = grind (arith, nat_tests) in rw apart at (changes.1 g)

pub changes_nothing : (h : ℕ) (all : List Queues) → Changes (λ q. q) h all all
changes_nothing h all = (refl, λ g. elim (cases_Bool (g == h)) [ inl t ↦ rw t refl | inr f ↦ rw f refl ])

-- A hart of these has a place, and is one of those that a core may have.
pub has_place : {t : ℕ → Bool} (harts : List HartState) (accesses : List Queues) (h : ℕ)
    → AccessesAgree t harts accesses → h < length harts → h < length accesses
has_place harts accesses h agrees inside = omega (arith, agrees.places, inside)

pub in_range : {t : ℕ → Bool} (harts : List HartState) (accesses : List Queues) (h : ℕ)
    → AccessesAgree t harts accesses → h < length harts → h < most_harts
in_range harts accesses h agrees inside = omega (arith, agrees.few, inside)

-- What the queues of a hart are.
pub queues_here : {t : ℕ → Bool} (harts : List HartState) (accesses : List Queues) (h : ℕ) (x : HartState)
    → AccessesAgree t harts accesses → h < length harts → x ≡ slice_index_or harts h x
    → queues_of accesses h ≡ accesses_of t x.active
queues_here {t} harts accesses h x agrees inside at =
    agrees.each h x inside ∙ ap (λ (z : HartState). accesses_of t z.active) (sym at)

-- Nothing was touched.
pub accesses_kept : (t u : ℕ → Bool) (harts : List HartState) (accesses : List Queues) → ((s : ℕ) → u s ≡ t s)
    → AccessesAgree t harts accesses → AccessesAgree u harts accesses
accesses_kept t u harts accesses same agrees = record {
  few = agrees.few;
  places = agrees.places;
  each = λ h d inside. agrees.each h d inside ∙ accesses_same t u same (slice_index_or harts h d).active;
}

-- Hart h has changed, and its queues with it.
pub accesses_set : (t : ℕ → Bool) (change : Queues → Queues) (harts : List HartState) (h : ℕ) (x y : HartState)
    (old new : List Queues) → h < length harts → x ≡ slice_index_or harts h x → Changes change h old new
    → accesses_of t y.active ≡ change (accesses_of t x.active) → AccessesAgree t harts old
    → AccessesAgree t (slice_set harts h y) new
accesses_set t change harts h x y old new inside at changes is agrees = record {
  few = omega (arith, agrees.few, length-set harts h y);
  places = omega (arith, agrees.places, changes.0, length-set harts h y);
  each = λ g d under. elim (cases_eq g h) [
    | inl same ↦
        rw (same, get_or-set_same harts h y d inside)
        (changed_own change h old new changes ∙ ap change (queues_here harts old h x agrees inside at) ∙ sym is)
    | inr other ↦
        rw (get_or-set_other harts h g y d other)
        (changed_other change h g old new changes other
        ∙ agrees.each g d (omega (arith, length-set harts h y)))
  ];
}

-- Hart h has changed, but for its loads and stores.
pub accesses_still : (t : ℕ → Bool) (harts : List HartState) (h : ℕ) (x y : HartState) (accesses : List Queues)
    → h < length harts → x ≡ slice_index_or harts h x → accesses_of t y.active ≡ accesses_of t x.active
    → AccessesAgree t harts accesses → AccessesAgree t (slice_set harts h y) accesses
accesses_still t harts h x y accesses inside at is agrees =
    accesses_set t (λ q. q) harts h x y accesses accesses inside at (changes_nothing h accesses) is agrees

-- ---- Memory

pub memory_kept : (p q : Picture) (m : Contents) → KeepsMemory p q → MemoryAgrees p m → MemoryAgrees q m
memory_kept p q m kept agrees = record {
  byte = λ addr. agrees.byte addr ∙ sym (kept.byte addr);
  reserved = λ h. agrees.reserved h ∙ sym (kept.reserved h);
}

-- ---- In the history's words

pub active_op : (p : Picture) (h : ℕ) (x : Active) → IsActive p h x → op_in p x.seq ≡ x.op
active_op p h x is = ap op_of_fetched is.fetched ∙ sym is.op

write_is : (p : Picture) (s : ℕ) (op : Op) (at : Stage) → op_in p s ≡ op → IsStage p s at
    → write_at op at ≡ write_in p s
write_is p s op stage.Renamed same is = rw is refl
write_is p s op stage.Issued same is = rw is refl
write_is p s op (stage.Completed outcome) same is = rw (is.0, is.1, same) refl

look_is : (p : Picture) (s : ℕ) (op : Op) (at : Stage) → op_in p s ≡ op → IsStage p s at
    → look_at op (p.touched s) at ≡ looked_in p s
look_is p s op stage.Renamed same is = rw is refl
look_is p s op stage.Issued same is = rw is refl
look_is p s op (stage.Completed outcome) same is = rw (is.0, is.1, same) refl

loads_are : (p : Picture) (h : ℕ) (xs : List Active) → AllByRecursion (IsActive p h) xs
    → map (load_of p.touched) (filter is_load xs) ≡ map (load_in p) (filter (is_load_in p) (map (λ a. a.seq) xs))
loads_are p h [] all = refl
loads_are p h (x ∷ xs) all =
    let same = active_op p h x all.0 in
    let look = look_is p x.seq x.op x.stage same all.0.stage in
    elim (cases_Bool (is_load x)) [
      | inl t ↦
          let there : is_load_in p x.seq ≡ true = rw same t in
          let one : load_of p.touched x ≡ load_in p x.seq = ap (λ l. record { seq = x.seq; look = l }) look in
          rw (t, there) (ap (λ s. s ∷ map (load_of p.touched) (filter is_load xs)) one
          ∙ ap (λ ns. load_in p x.seq ∷ ns) (loads_are p h xs all.1))
      | inr f ↦ let none : is_load_in p x.seq ≡ false = rw same f in rw (f, none) (loads_are p h xs all.1)
    ]

stores_are : (p : Picture) (h : ℕ) (xs : List Active) → AllByRecursion (IsActive p h) xs
    → map store_of (filter is_store xs) ≡ map (store_in p) (filter (is_store_in p) (map (λ a. a.seq) xs))
stores_are p h [] all = refl
stores_are p h (x ∷ xs) all =
    let same = active_op p h x all.0 in
    let write = write_is p x.seq x.op x.stage same all.0.stage in
    elim (cases_Bool (is_store x)) [
      | inl t ↦
          let there : is_store_in p x.seq ≡ true = rw same t in
          let one : store_of x ≡ store_in p x.seq = ap (λ w. record { seq = x.seq; write = w }) write in
          rw (t, there) (ap (λ s. s ∷ map store_of (filter is_store xs)) one
          ∙ ap (λ ns. store_in p x.seq ∷ ns) (stores_are p h xs all.1))
      | inr f ↦ let none : is_store_in p x.seq ≡ false = rw same f in rw (f, none) (stores_are p h xs all.1)
    ]

-- The queues of a hart are the loads and the stores of its flight.
pub queues_are : (p : Picture) (h : ℕ) (x : HartState) → HartAgrees p h x
    → accesses_of p.touched x.active ≡ queues_in p h
queues_are p h x hart =
    let loads = loads_are p h x.active hart.actives
    ∙ ap (λ ns. map (load_in p) (filter (is_load_in p) ns)) hart.active in
    let stores = stores_are p h x.active hart.actives
    ∙ ap (λ ns. map (store_in p) (filter (is_store_in p) ns)) hart.active in
    cc (loads, stores)
