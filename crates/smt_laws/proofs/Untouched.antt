-- A load that isn't touched has the number that memory has once it is the oldest of its hart in flight: none of the
-- stores that its first look saw is still over memory. So it retires with what its completion said.
use Rattle.std.specs.Prelude.{◌≡◌, ℕ, Bool, true, false}
use Rattle.std.specs.Prelude.{List, [], ◌∷◌, Option, Some, None}
use Rattle.std.proofs.Common.{◌∙◌, refl, sym, ap, inl, inr, arith}
use Rattle.std.proofs.{lemmas.Bool.cases_Bool, lemmas.Bool.Decides.nat_tests}
use Rattle.rv_instr.specs.declared.op.Op.{Op}
use Rattle.events.specs.{declared.effect.Outcome.Outcome}
use Rattle.events.specs.{declared.event.Event.Event}
use Rattle.smt_model.specs.{Basics.first, Basics.or_zero, Setup.Setup, Exec.Computed, Nexts.is_last}
use Rattle.smt_model.specs.{Outcomes.last_outcome}
use Rattle.smt_model.specs.{Outcomes.outcome_of, Outcomes.outcome_by, Effects.effect_of, Effects.effect_by}
use Rattle.smt_model.specs.{Effects.last_effect, Bytes.read}
use Rattle.smt_model.specs.{Reservations.holds_word, Memory.byte_at, Memory.reserved, Flights.flight}
use Rattle.smt_model.specs.Kinds.{Kind, Computing, Loading, Storing, Reserving, Conditional, Atomic, kind_of}
use Rattle.smt_model.specs.Kinds.{is_loading, writes_register}
use Rattle.smt_model.specs.Fates.{Completed, Fetched, fate, is, is_in_flight}
use Rattle.smt_model.specs.Fates.{op_of_fetched}
use Rattle.smt_model.specs.Looks.{overlaid_byte}
use Rattle.smt_model.specs.Touched.{is_touched}
use Rattle.smt_model.specs.Rules.{is_legal, computed_at, effect_now}
use Rattle.smt_model.proofs.Lists.{Each}
use Rattle.smt_model.proofs.Fates.Moves.{stage_of}
use Rattle.smt_model.proofs.Fates.Moves.{same_number-is}
use Rattle.smt_laws.specs.Untouched.{IsNextLoad, kept_effect, UntouchedLoadsReadTheSame, UntouchedLoadsKeep}
use Rattle.smt_laws.specs.Untouched.{LoadsOfNothingKeep}
use Rattle.smt_laws.proofs.{Fates.Order.older_passed}
use Rattle.smt_laws.proofs.{Done.is_of_own, Events.Freeing.true_false}
use Rattle.smt_laws.proofs.Overlays.{IsSeen, IsUntouched, SaysALook, says_a_look}
use Rattle.smt_laws.proofs.Overlaid.{is_computed, overlaid}

-- ---- As the load is the oldest

-- None of those stores is left.
none_is_over : (setup : Setup) (past : List Event) → is_legal setup past → (h s : ℕ) (op : Op) (addr v : ℕ)
    → first (flight past h) ≡ Some s
    → (stores : List ℕ) → Each (IsSeen past h s) stores
    → read op (λ b. overlaid_byte past b stores (byte_at setup past b)) addr ≡ v
    → read op (byte_at setup past) addr ≡ v
none_is_over setup past legal h s op addr v front [] seen value = value
none_is_over setup past legal h s op addr v front (y ∷ ys) seen value =
    let gone = older_passed setup past legal (λ x. is_in_flight (fate past x)) h s y front seen.0.of_hart
    seen.0.older in
    let flies : is_in_flight (fate past y) ≡ true = (let five = seen.0.completed in grind (arith, nat_tests)) in
    absurd (true_false (sym flies ∙ gone))

next_untouched : (past : List Event) (s : ℕ) (f : Fetched) (o : Outcome) (v : ℕ) → IsNextLoad past s f o
    → is_touched past s ≡ false → o.value ≡ Some v → IsUntouched past f.hart s (op_of_fetched (Some f)) o v
next_untouched past s f o v next untouched some = record {
  of_hart = is_of_own past s f next.fetched;
  completed = stage_of (fate past s) Completed next.completed;
  is_op = ap op_of_fetched next.fetched;
  loading = next.loading;
  said = next.said;
  value = some;
  untouched = untouched;
}

pub untouched_read : UntouchedLoadsReadTheSame
untouched_read setup past legal s f o next untouched v some =
    let op = op_of_fetched (Some f) in
    let c = computed_at setup past s f in
    let at = stage_of (fate past s) Completed next.completed in
    let made = is_computed setup past legal s f o next.fetched at next.said in
    let says = says_a_look op c made.look o v next.loading made.outcome_is some in
    let over = overlaid setup past legal f.hart s op o v (next_untouched past s f o v next untouched some) in
    let front = same_number-is (first (flight past f.hart)) (Some s) next.oldest in
    ap (read op (byte_at setup past)) (sym (ap or_zero says.addr))
    ∙ none_is_over setup past legal f.hart s op (or_zero o.addr) v front over.stores over.seen over.value

-- ---- What it retires with

loaded_kind : (kind : Kind) (op : Op) (c : Computed) (v : ℕ) (held : Bool) → is_loading kind ≡ true
    → effect_by kind op true c v held ≡ record (last_effect c.next) { value = Some v }
loaded_kind Computing op c v held loads = absurd (grind arith)
loaded_kind Loading op c v held loads = refl
loaded_kind Storing op c v held loads = absurd (grind arith)
loaded_kind Reserving op c v held loads = absurd (grind arith)
loaded_kind Conditional op c v held loads = absurd (grind arith)
loaded_kind Atomic op c v held loads = absurd (grind arith)

loaded : (op : Op) (c : Computed) (look : ℕ) (o : Outcome) (v : ℕ) (held : Bool) → is_loading (kind_of op) ≡ true
    → SaysALook op c look o v → o.value ≡ Some v → effect_of op c v held ≡ kept_effect o
loaded op c look o v held loads says some =
    let to : effect_of op c v held ≡ effect_by (kind_of op) op true c v held = rw (says.going, says.writes) refl in
    to
    ∙ (loaded_kind (kind_of op) op c v held loads
    ∙ (ap (λ next. record (last_effect next) { value = Some v }) (sym says.next)
    ∙ ap (λ a. record (last_effect o.next) { value = a }) (sym some)))

none_kind : (kind : Kind) (op : Op) (writes : Bool) (c : Computed) (look now : ℕ) (held : Bool) (o : Outcome)
    → is_loading kind ≡ true → o ≡ outcome_by kind writes c (Some look) → o.value ≡ None
    → effect_by kind op writes c now held ≡ kept_effect o
none_kind Computing op writes c look now held o loads is none = absurd (grind arith)
none_kind Loading op true c look now held o loads is none = absurd (grind arith)
none_kind Loading op false c look now held o loads is none = sym (ap kept_effect is)
none_kind Storing op writes c look now held o loads is none = absurd (grind arith)
none_kind Reserving op writes c look now held o loads is none = absurd (grind arith)
none_kind Conditional op writes c look now held o loads is none = absurd (grind arith)
none_kind Atomic op writes c look now held o loads is none = absurd (grind arith)

none_of : (op : Op) (c : Computed) (look now : ℕ) (held : Bool) (o : Outcome) → is_loading (kind_of op) ≡ true
    → o ≡ outcome_of op c (Some look) → o.value ≡ None → effect_of op c now held ≡ kept_effect o
none_of op c look now held o loads is none =
    elim (cases_Bool (is_last c.next)) [
      | inl last ↦
          let to : outcome_of op c (Some look) ≡ last_outcome c.next = rw last refl in
          let effect : effect_of op c now held ≡ last_effect c.next = rw last refl in
          effect ∙ sym (ap kept_effect (is ∙ to))
      | inr going ↦
          let to : outcome_of op c (Some look) ≡ outcome_by (kind_of op) (writes_register op) c (Some look) =
          rw going refl in
          let effect : effect_of op c now held ≡ effect_by (kind_of op) op (writes_register op) c now held =
          rw going refl in
          effect ∙ none_kind (kind_of op) op (writes_register op) c look now held o loads (is ∙ to) none
    ]

pub nothing_keeps : LoadsOfNothingKeep
nothing_keeps setup past legal s f o next none =
    let op = op_of_fetched (Some f) in
    let c = computed_at setup past s f in
    let at = stage_of (fate past s) Completed next.completed in
    let made = is_computed setup past legal s f o next.fetched at next.said in
    none_of op c made.look (read op (byte_at setup past) c.addr) (holds_word (reserved past f.hart) c.addr) o
    next.loading made.outcome_is none

something_keeps : (setup : Setup) (past : List Event) → is_legal setup past
    → (s : ℕ) (f : Fetched) (o : Outcome) (v : ℕ) → IsNextLoad past s f o → is_touched past s ≡ false
    → o.value ≡ Some v → effect_now setup past s f ≡ kept_effect o
something_keeps setup past legal s f o v next untouched some =
    let op = op_of_fetched (Some f) in
    let c = computed_at setup past s f in
    let at = stage_of (fate past s) Completed next.completed in
    let made = is_computed setup past legal s f o next.fetched at next.said in
    let says = says_a_look op c made.look o v next.loading made.outcome_is some in
    let held = holds_word (reserved past f.hart) c.addr in
    ap (λ number. effect_of op c number held) (untouched_read setup past legal s f o next untouched v some)
    ∙ loaded op c made.look o v held next.loading says some

keeps_by : (setup : Setup) (past : List Event) → is_legal setup past
    → (s : ℕ) (f : Fetched) (o : Outcome) → IsNextLoad past s f o → is_touched past s ≡ false
    → (a : Option ℕ) → o.value ≡ a → effect_now setup past s f ≡ kept_effect o
keeps_by setup past legal s f o next untouched None none = nothing_keeps setup past legal s f o next none
keeps_by setup past legal s f o next untouched (Some v) some = something_keeps setup past legal s f o v next untouched some

pub untouched_keep : UntouchedLoadsKeep
untouched_keep setup past legal s f o next untouched = keeps_by setup past legal s f o next untouched o.value refl
