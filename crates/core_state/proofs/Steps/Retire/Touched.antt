-- What the loads in flight know of the writes that touched them is what the history says: one that
-- keeps its first number retires as the rules want, and the loads that look again are counted.
use Rattle.std.specs.Prelude.{◌≡◌, ℕ, ◌<◌, ◌==◌, Bool, true, false, not, ◌&&◌, List, [], ◌∷◌, length, map, filter, Option}
use Rattle.std.specs.Prelude.{Some, None, slice_index_or, if◌then◌else◌}
use Rattle.std.proofs.Common.{◌∙◌, refl, sym, ap, subst, inl, inr, arith}
use Rattle.std.proofs.{lemmas.Bool.cases_Bool, lemmas.Bool.Decides.nat_tests, lemmas.Option.none-some}
use Rattle.events.specs.{declared.effect.Effect.Effect, declared.effect.Outcome.Outcome}
use Rattle.events.specs.declared.event.Event.TheVariants.{Retire}
use Rattle.rv_instr.specs.declared.op.Op.{Op}
use Rattle.retire_squash.specs.declared.active.Active.{Active}
use Rattle.smt_model.specs.{Exec.Computed, Nexts.is_last, Kinds.kind_of, Kinds.is_loading, Kinds.writes_register}
use Rattle.smt_model.specs.Kinds.{Kind, Computing, Loading, Storing, Reserving, Conditional, Atomic}
use Rattle.smt_model.specs.{Basics.first, Basics.same_number, Effects.effect_by, Effects.effect_of, Outcomes.outcome_by}
use Rattle.smt_model.specs.{Outcomes.outcome_of, Picture.Picture, Picture.picture, Steps.op_in}
use Rattle.smt_model.specs.Fates.{Completed, fate, is, op_at, op_of_fetched}
use Rattle.smt_model.specs.{Rules.effect_now, Rules.computed_at}
use Rattle.smt_model.specs.Touched.{is_touched, gives_loaded, looks_after, looks}
use Rattle.smt_model.proofs.Fates.Moves.{same_number-self}
use Rattle.smt_laws.specs.Untouched.{IsNextLoad, kept_effect}
use Rattle.smt_laws.proofs.Untouched.{untouched_keep, nothing_keeps}
use Rattle.load_store.specs.{Looks.keeps_first, Queues.needs_look, Queues.queues_of, Queues.was_touched}
use Rattle.core_parts.specs.Accesses.{is_load_in, load_in, looked_by, looked_in, queues_in}
use Rattle.core_parts.specs.{declared.hart.HartState.HartState, declared.parts.Parts.Parts}
use Rattle.core_parts.proofs.{Agreement.Queues.queues_are}
use Rattle.core_steps.specs.Retirement.{CanRetire}
use Rattle.core_state.specs.State.{IsCore, past_of, setup_in}
use Rattle.core_state.specs.{declared.state.State.TheInside.Inside}
use Rattle.core_state.proofs.Steps.Complete.{Look.SaysWithLook, Look.says_with_look, Memory.first_hart}
use Rattle.core_state.proofs.Steps.Retire.Look.{fetched_of}

both_first : (a b : Bool) → (a && b) ≡ true → a ≡ true
both_first true b both = refl
both_first false b both = both

both_second : (a b : Bool) → (a && b) ≡ true → b ≡ true
both_second true b both = both
both_second false b both = absurd (grind arith)

not_true : (b : Bool) → not b ≡ true → b ≡ false
not_true true is = absurd (grind arith)
not_true false is = refl

-- ---- What a load's completion said, and what it does

address_by : (k : Kind) (writes : Bool) (d : Computed) (look : ℕ) → is_loading k ≡ true
    → (outcome_by k writes d (Some look)).addr ≡ Some d.addr
address_by Computing writes d look loads = absurd (grind arith)
address_by Loading writes d look loads = refl
address_by Storing writes d look loads = absurd (grind arith)
address_by Reserving writes d look loads = absurd (grind arith)
address_by Conditional writes d look loads = absurd (grind arith)
address_by Atomic writes d look loads = absurd (grind arith)

-- Where it gave a number, it named its address.
names_address : (op : Op) (d : Computed) (look v : ℕ) → is_loading (kind_of op) ≡ true
    → (outcome_of op d (Some look)).value ≡ Some v → (outcome_of op d (Some look)).addr ≡ Some d.addr
names_address op d look v loads gives = elim (cases_Bool (is_last d.next)) [
  | inl last ↦ absurd (none-some v (rw last at gives))
  | inr going ↦ rw going (address_by (kind_of op) (writes_register op) d look loads)
]

value_by : (k : Kind) (writes : Bool) (d : Computed) (look : ℕ) → is_loading k ≡ true → writes ≡ true
    → (outcome_by k writes d (Some look)).value ≡ Some look
value_by Computing writes d look loads is = absurd (grind arith)
value_by Loading writes d look loads is = rw is refl
value_by Storing writes d look loads is = absurd (grind arith)
value_by Reserving writes d look loads is = absurd (grind arith)
value_by Conditional writes d look loads is = absurd (grind arith)
value_by Atomic writes d look loads is = absurd (grind arith)

-- It gave one where its rd isn't x0 and it doesn't stop.
gives_number : (op : Op) (d : Computed) (look : ℕ) → is_last d.next ≡ false → is_loading (kind_of op) ≡ true
    → writes_register op ≡ true → (outcome_of op d (Some look)).value ≡ Some look
gives_number op d look going loads writes = rw going (value_by (kind_of op) (writes_register op) d look loads writes)

next_by : (k : Kind) (op : Op) (writes : Bool) (d : Computed) (now : ℕ) (held : Bool)
    → (effect_by k op writes d now held).next ≡ d.next
next_by Computing op writes d now held = refl
next_by Loading op writes d now held = refl
next_by Storing op writes d now held = refl
next_by Reserving op writes d now held = refl
next_by Conditional op writes d now held = refl
next_by Atomic op writes d now held = refl

goes_on : (op : Op) (d : Computed) (now : ℕ) (held : Bool) → (effect_of op d now held).next ≡ d.next
goes_on op d now held = elim (cases_Bool (is_last d.next)) [
  | inl last ↦ rw last refl
  | inr going ↦ rw going (next_by (kind_of op) op (writes_register op) d now held)
]

-- A look is touched where the load is.
look_says : (op : Op) (touched : Bool) (o : Outcome) (v a : ℕ) → o.value ≡ Some v → o.addr ≡ Some a
    → was_touched (looked_by op touched o) ≡ touched
look_says op touched o v a gives at = rw (gives, at) refl

counts_same : (op : Op) (one two : Bool) (x : Effect) (many : ℕ) → (gives_loaded op x ≡ true → one ≡ two)
    → looks_after op one x many ≡ looks_after op two x many
counts_same op one two x many same = elim (cases_Bool (gives_loaded op x)) [
  | inl gives ↦ ap (λ b. looks_after op b x many) (same gives)
  | inr none ↦ rw none refl
]

-- ---- The oldest load of a hart

needs_oldest : (p : Picture) (n : ℕ) (o : Outcome) (xs : List ℕ) → first xs ≡ Some n → is_load_in p n ≡ true
    → p.fate n ≡ Completed → p.completion n ≡ Some o
    → needs_look n (map (load_in p) (filter (is_load_in p) xs)) ≡ was_touched (looked_by (op_in p n) (p.touched n) o)
needs_oldest p n o [] oldest loads done said = absurd (none-some n oldest)
needs_oldest p n o (x ∷ xs) oldest loads done said =
    let same : x ≡ n = cc in
    let loads_here : is_load_in p x ≡ true = rw same loads in
    let own : (x == n) ≡ true = grind (arith, nat_tests) in
    let look : looked_in p x ≡ looked_by (op_in p n) (p.touched n) o = rw (same, done, said) refl in
    rw (loads_here, own) (ap was_touched look)

module _ (i : Inside) (core : IsCore i) (h : ℕ) (x : Active) (o : Outcome) (inside : h < length i.parts.harts.items)
    (can : CanRetire (picture (setup_in i) (past_of i)) h x o) where
  abbrev now : Picture
  now = picture (setup_in i) (past_of i)

  op_is : op_in now x.seq ≡ x.op
  op_is = ap op_of_fetched can.is_active.fetched ∙ sym can.is_active.op

  queues_now : queues_of i.parts.accesses h ≡ queues_in now h
  queues_now =
      let d = first_hart i.parts.harts.items h inside in
      let y = slice_index_or i.parts.harts.items h d in
      core.agrees.accesses.each h d inside ∙ queues_are now h y (core.agrees.harts h d inside)

  -- It has to look again where its completion gave it a number and it was touched.
  pub needs_now : is_loading (kind_of x.op) ≡ true
      → needs_look x.seq (queues_of i.parts.accesses h).loads
      ≡ was_touched (looked_by x.op (is_touched (past_of i) x.seq) o)
  needs_now loads =
      let loads_in : is_load_in now x.seq ≡ true = rw op_is loads in
      ap (λ q. needs_look x.seq q.loads) queues_now
      ∙ needs_oldest now x.seq o (now.flight h) can.oldest loads_in can.completed can.outcome
      ∙ ap (λ op. was_touched (looked_by op (is_touched (past_of i) x.seq) o)) op_is

  next_load : is_loading (kind_of x.op) ≡ true → IsNextLoad (past_of i) x.seq (fetched_of h x) o
  next_load loads = record {
    fetched = can.is_active.fetched;
    loading = ap (λ op. is_loading (kind_of op)) (sym can.is_active.op) ∙ loads;
    completed = ap (λ f. is f Completed) can.completed;
    said = can.outcome;
    oldest = ap (λ y. same_number y (Some x.seq)) can.oldest ∙ same_number-self (Some x.seq);
  }

  -- What the unit and the core made of it.
  d : Computed
  d = computed_at (setup_in i) (past_of i) x.seq (fetched_of h x)

  said : SaysWithLook (setup_in i) (past_of i) x.seq (fetched_of h x) o
  said = says_with_look (setup_in i) (past_of i) core.legal x.seq (fetched_of h x) o can.is_active.fetched
      can.completed can.outcome

  outcome_is : o ≡ outcome_of x.op d (Some said.look)
  unfolding d
  outcome_is = said.outcome_is ∙ ap (λ op. outcome_of op d (Some said.look)) (sym can.is_active.op)

  -- Where it gave a number, it has to look again just where it was touched.
  needs_touched : is_loading (kind_of x.op) ≡ true → (v : ℕ) → o.value ≡ Some v
      → needs_look x.seq (queues_of i.parts.accesses h).loads ≡ is_touched (past_of i) x.seq
  needs_touched loads v gives =
      let at : o.addr ≡ Some d.addr =
      ap (λ (y : Outcome). y.addr) outcome_is
      ∙ names_address x.op d said.look v loads (sym (ap (λ (y : Outcome). y.value) outcome_is) ∙ gives) in
      needs_now loads ∙ look_says x.op (is_touched (past_of i) x.seq) o v d.addr gives at

  keeps_by : is_loading (kind_of x.op) ≡ true → needs_look x.seq (queues_of i.parts.accesses h).loads ≡ false
      → (value : Option ℕ) → o.value ≡ value
      → kept_effect o ≡ effect_now (setup_in i) (past_of i) x.seq (fetched_of h x)
  keeps_by loads unneeded None none =
      sym (nothing_keeps (setup_in i) (past_of i) core.legal x.seq (fetched_of h x) o (next_load loads) none)
  keeps_by loads unneeded (Some v) gives =
      sym (untouched_keep (setup_in i) (past_of i) core.legal x.seq (fetched_of h x) o (next_load loads)
      (sym (needs_touched loads v gives) ∙ unneeded))

  -- One that doesn't look again does what the rules want.
  pub keeps_now : keeps_first x.op x.seq (queues_of i.parts.accesses h).loads ≡ true
      → kept_effect o ≡ effect_now (setup_in i) (past_of i) x.seq (fetched_of h x)
  keeps_now keeps =
      keeps_by (both_first _ _ keeps) (not_true _ (both_second (is_loading (kind_of x.op)) _ keeps)) o.value refl

  counted : (effect : Effect) → effect ≡ effect_now (setup_in i) (past_of i) x.seq (fetched_of h x)
      → gives_loaded x.op effect ≡ true
      → needs_look x.seq (queues_of i.parts.accesses h).loads ≡ is_touched (past_of i) x.seq
  unfolding d
  counted effect says gives =
      let kind = both_first (is_loading (kind_of x.op) && writes_register x.op) _ gives in
      let loads = both_first (is_loading (kind_of x.op)) _ kind in
      let going : is_last effect.next ≡ false = not_true (is_last effect.next)
      (both_second (is_loading (kind_of x.op) && writes_register x.op) _ gives) in
      let on : is_last d.next ≡ false =
      ap is_last (sym (ap (λ (y : Effect). y.next) says ∙ goes_on (op_of_fetched (Some (fetched_of h x))) d _ _))
      ∙ going in
      needs_touched loads said.look (ap (λ (y : Outcome). y.value) outcome_is
      ∙ gives_number x.op d said.look on loads (both_second (is_loading (kind_of x.op)) _ kind))

  -- It is counted where it looks again.
  pub looks_now : (actor : ℕ) (effect : Effect) → effect ≡ effect_now (setup_in i) (past_of i) x.seq (fetched_of h x)
      → looks_after x.op (needs_look x.seq (queues_of i.parts.accesses h).loads) effect i.looks
      ≡ looks (Retire actor x.seq effect ∷ past_of i)
  looks_now actor effect says =
      let touched = is_touched (past_of i) x.seq in
      let needs = needs_look x.seq (queues_of i.parts.accesses h).loads in
      ap (looks_after x.op needs effect) core.looks
      ∙ counts_same x.op needs touched effect (looks (past_of i)) (counted effect says)
      ∙ ap (λ op. looks_after op touched effect (looks (past_of i))) (sym op_is)
