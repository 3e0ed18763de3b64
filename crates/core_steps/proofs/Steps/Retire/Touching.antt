-- What a retirement writes touches the loads that have looked there, of every hart.
use Rattle.std.specs.Prelude.{◌≡◌, ℕ, ◌<◌, ◌||◌, Bool, true, false, List, [], ◌∷◌, map, drop, length, Option, Some, None}
use Rattle.std.specs.Prelude.{option_map, slice_index_or, slice_set}
use Rattle.std.specs.List.{AllByRecursion}
use Rattle.std.proofs.Common.{◌∙◌, refl, sym, ap, subst, inl, inr, arith}
use Rattle.std.proofs.{lemmas.Bool.cases_Bool, lemmas.Bool.cases_eq, lemmas.List.length-set}
use Rattle.std.proofs.{lemmas.List.get_or-set_same, lemmas.List.get_or-set_other}
use Rattle.events.specs.{declared.effect.Outcome.Outcome, declared.effect.Written.Written}
use Rattle.rv_instr.specs.declared.op.Op.{Op}
use Rattle.retire_squash.specs.{declared.active.Active.Active, declared.active.Stage.Stage}
use Rattle.retire_squash.specs.declared.active.Stage.TheVariants as stage
use Rattle.smt_model.specs.{Picture.Picture, Steps.op_in, Touched.touches_access, Touched.accessed}
use Rattle.load_store.specs.Queues.{Queues, queues_of, touched_look, touched_load}
use Rattle.core_parts.specs.Accesses.{AccessesAgree, is_load, look_at, looked_by, load_of, accesses_of}
use Rattle.core_parts.specs.{Agree.IsActive, Agree.IsStage, Agree.EachAgrees, declared.hart.HartState.HartState}
use Rattle.core_parts.proofs.{Agreement.Queues.active_op, Agreement.Accesses.loads_of, Agreement.Accesses.both}
use Rattle.core_parts.proofs.{Agreement.Accesses.accesses_same}
use Rattle.core_steps.specs.Accesses.{with_touched}

or_false : (b : Bool) → (b || false) ≡ b
or_false true = refl
or_false false = refl

-- What is touched after this write.
abbrev pub Touches : Picture → (ℕ → Bool) → Option Written → Type 0
Touches p u w = (s : ℕ) → u s ≡ (p.touched s || touches_access w (op_in p s) (accessed (p.completion s)))

look_touched : (op : Op) (b : Bool) (w : Written) (value addr : Option ℕ) (o : Outcome) → o.value ≡ value → o.addr ≡ addr
    → looked_by op (b || touches_access (Some w) op o.addr) o ≡ option_map (touched_look w) (looked_by op b o)
look_touched op b w None addr o given at = rw given refl
look_touched op b w (Some v) None o given at = rw (given, at) refl
look_touched op b w (Some v) (Some a) o given at = rw (given, at) refl

stage_touched : (p : Picture) (u : ℕ → Bool) (w : Written) (s : ℕ) (op : Op) (at : Stage) → Touches p u (Some w)
    → op_in p s ≡ op → IsStage p s at
    → look_at op (u s) at ≡ option_map (touched_look w) (look_at op (p.touched s) at)
stage_touched p u w s op stage.Renamed touches same is = refl
stage_touched p u w s op stage.Issued touches same is = refl
stage_touched p u w s op (stage.Completed o) touches same is =
    let says : u s ≡ (p.touched s || touches_access (Some w) op o.addr) =
    touches s ∙ (ap (λ z. p.touched s || touches_access (Some w) z (accessed (p.completion s))) same
    ∙ ap (λ z. p.touched s || touches_access (Some w) op (accessed z)) is.1) in
    ap (λ b. looked_by op b o) says ∙ look_touched op (p.touched s) w o.value o.addr o refl refl

loads_touched : (p : Picture) (u : ℕ → Bool) (w : Written) (h : ℕ) (xs : List Active) → Touches p u (Some w)
    → AllByRecursion (IsActive p h) xs → loads_of u xs ≡ map (touched_load w) (loads_of p.touched xs)
loads_touched p u w h [] touches all = refl
loads_touched p u w h (x ∷ xs) touches all =
    let one : load_of u x ≡ touched_load w (load_of p.touched x) =
    ap (λ l. record { seq = x.seq; look = l })
    (stage_touched p u w x.seq x.op x.stage touches (active_op p h x all.0) all.0.stage) in
    elim (cases_Bool (is_load x)) [
      | inl loads ↦ rw loads (ap (λ l. l ∷ loads_of u xs) one
          ∙ ap (λ ls. touched_load w (load_of p.touched x) ∷ ls) (loads_touched p u w h xs touches all.1))
      | inr f ↦ rw f (loads_touched p u w h xs touches all.1)
    ]

touched_of : (p : Picture) (u : ℕ → Bool) (w : Option Written) (h : ℕ) (xs : List Active) → Touches p u w
    → AllByRecursion (IsActive p h) xs → accesses_of u xs ≡ with_touched w (accesses_of p.touched xs)
touched_of p u None h xs touches all = sym (accesses_same p.touched u (λ s. touches s ∙ or_false (p.touched s)) xs)
touched_of p u (Some w) h xs touches all = both _ _ _ _ (loads_touched p u w h xs touches all) refl

-- The queues agree with what is touched now.
pub accesses_touched : (p : Picture) (u : ℕ → Bool) (w : Option Written) (harts : List HartState) (old new : List Queues)
    → Touches p u w → length new ≡ length old
    → ((g : ℕ) (d : HartState) → g < length harts → AllByRecursion (IsActive p g) (slice_index_or harts g d).active)
    → ((g : ℕ) → queues_of new g ≡ with_touched w (queues_of old g))
    → AccessesAgree p.touched harts old → AccessesAgree u harts new
accesses_touched p u w harts old new touches count all says agrees = record {
  few = agrees.few;
  places = count ∙ agrees.places;
  each = λ g d inside. says g ∙ (ap (with_touched w) (agrees.each g d inside)
      ∙ sym (touched_of p u w g (slice_index_or harts g d).active touches (all g d inside)));
}

all_dropped : {A : Type 0} → (P : A → Type 0) (xs : List A) → AllByRecursion P xs → AllByRecursion P (drop 1 xs)
all_dropped P [] all = tt
all_dropped P (x ∷ xs) all = all.1

-- What was in flight and still is, once hart h has lost its oldest.
pub actives_left : (p : Picture) (h : ℕ) (a y : HartState) (harts : List HartState) → h < length harts
    → a ≡ slice_index_or harts h a → y.active ≡ drop 1 a.active → EachAgrees p harts
    → (g : ℕ) (d : HartState) → g < length (slice_set harts h y)
    → AllByRecursion (IsActive p g) (slice_index_or (slice_set harts h y) g d).active
actives_left p h a y harts inside at has agrees g d under = elim (cases_eq g h) [
  | inl same ↦
      rw (same, get_or-set_same harts h y d inside, has)
      (all_dropped (IsActive p h) a.active
      (subst (λ (z : HartState). AllByRecursion (IsActive p h) z.active) (sym at) (agrees h a inside).actives))
  | inr other ↦
      rw (get_or-set_other harts h g y d other) (agrees g d (omega (arith, length-set harts h y))).actives
]
