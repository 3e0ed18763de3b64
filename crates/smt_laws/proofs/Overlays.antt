-- Memory with the stores over it that a load has seen, and what an event makes of it: a store that leaves them writes
-- just what it had over memory, and what else is written shares no byte with the load.
use Rattle.std.specs.Prelude.{◌≡◌, ◌≢◌, ℕ, zero, suc, ◌+◌, ◌<◌, ◌≤◌, Bool, true, false, ◌&&◌, nat_lt}
use Rattle.std.specs.Prelude.{nat_le, List, [], ◌∷◌, Option, Some, None, option_and_then}
use Rattle.std.proofs.Common.{◌∙◌, refl, sym, ap, subst, inl, inr, arith}
use Rattle.std.proofs.{lemmas.Bool.cases_Bool, lemmas.Bool.cases_eq, lemmas.Bool.Decides.nat_tests}
use Rattle.rv_instr.specs.declared.op.Op.{Op}
use Rattle.events.specs.{declared.effect.Outcome.Outcome, declared.effect.Effect.Effect}
use Rattle.events.specs.{declared.effect.Written.Written, declared.event.Event.Event}
use Rattle.events.specs.declared.event.Event.TheVariants.{Fetch, Decode, Rename, Issue, Complete, Drop, Retire, Refetch}
use Rattle.smt_model.specs.{Setup.Setup, Exec.Computed, Nexts.is_last}
use Rattle.smt_model.specs.{Outcomes.outcome_of, Outcomes.outcome_by, Effects.effect_of, Effects.effect_by}
use Rattle.smt_model.specs.{Bytes.number_at, Bytes.read, Bytes.read_value, Bytes.byte_after}
use Rattle.smt_model.specs.{Reservations.holds_word, Memory.byte_at, Memory.reserved}
use Rattle.smt_model.specs.Kinds.{Kind, Computing, Loading, Storing, Reserving, Conditional, Atomic, kind_of}
use Rattle.smt_model.specs.Kinds.{is_loading, is_storing, writes_register, access_size}
use Rattle.smt_model.specs.Fates.{stage, fate, is, is_in_flight, is_of, op_at}
use Rattle.smt_model.specs.Fates.{op_of_fetched, completion, fate_by}
use Rattle.smt_model.specs.Looks.{stored_by, overlaid_byte}
use Rattle.smt_model.specs.Touched.{shares_byte, touches_access, is_touched}
use Rattle.smt_model.specs.Rules.{refused, is_legal, computed_at}
use Rattle.smt_model.proofs.Lists.{member, member-behind, Each, Each-at, Each-all, Rises}
use Rattle.smt_model.proofs.{Fates.Sound.sound}
use Rattle.smt_model.proofs.Fates.Moves.{fetch_was, decode_was, rename_was, issue_was, complete_was, fate-kept}
use Rattle.smt_model.proofs.Fates.Numbers.{known_below, is_of-kept, op_at-kept}
use Rattle.smt_laws.proofs.{Fates.Order.retire_front, Registers.Namings.completion-kept}
use Rattle.smt_laws.proofs.{Registers.Standing.spared, Registers.Standing.older_spared}
use Rattle.smt_laws.proofs.{Agreeing.read-same, Done.done-at, Done.some_one, Events.Freeing.true_false}

-- ---- Bytes that are read

number_within : (f g : ℕ → ℕ) (addr n : ℕ) → ((b : ℕ) → addr ≤ b → b < addr + n → f b ≡ g b)
    → number_at f addr n ≡ number_at g addr n
number_within f g addr zero same = refl
number_within f g addr (suc n) same =
    rw (
      same addr (omega arith) (omega arith),
      number_within f g (addr + 1) n (λ b low high. same b (omega arith) (omega arith)),
    ) refl

read_within : (f g : ℕ → ℕ) (op : Op) (addr : ℕ)
    → ((b : ℕ) → addr ≤ b → b < addr + access_size op → f b ≡ g b)
    → read op f addr ≡ read op g addr
read_within f g op addr same = ap (read_value op) (number_within f g addr (access_size op) same)

-- A write that shares no byte with an access leaves its bytes.
apart_from : (w : Written) (addr n b : ℕ) → shares_byte w.addr w.n addr n ≡ false → addr ≤ b → b < addr + n
    → (nat_le w.addr b && nat_lt b (w.addr + w.n)) ≡ false
apart_from w addr n b apart low high = grind (arith, nat_tests)

unwritten : (write : Option Written) (op : Op) (addr b before : ℕ) → touches_access write op (Some addr) ≡ false
    → addr ≤ b → b < addr + access_size op → byte_after write b before ≡ before
unwritten None op addr b before apart low high = refl
unwritten (Some w) op addr b before apart low high = rw (apart_from w addr (access_size op) b apart low high) refl

-- ---- What a store has over memory

abbrev stored : List Event → ℕ → Option Written
stored past x = option_and_then (stored_by (op_at past x)) (completion past x)

pub overlay-same : (past later : List Event) (b : ℕ) (xs : List ℕ)
    → ((x : ℕ) → member x xs ≡ true → stored later x ≡ stored past x)
    → (before : ℕ) → overlaid_byte later b xs before ≡ overlaid_byte past b xs before
overlay-same past later b [] same before = refl
overlay-same past later b (x ∷ xs) same before =
    ap (λ w. overlaid_byte later b xs (byte_after w b before)) (same x (grind (arith, nat_tests)))
    ∙ overlay-same past later b xs (λ y m. same y (member-behind x y xs m)) (byte_after (stored past x) b before)

-- It is what the store writes as it retires.
stored_kind : (kind : Kind) (op : Op) (writes : Bool) (c : Computed) (look now : ℕ) (held : Bool)
    → is_storing kind ≡ true
    → stored_by op (outcome_by kind writes c (Some look)) ≡ (effect_by kind op writes c now held).write
stored_kind Computing op writes c look now held stores = absurd (grind arith)
stored_kind Loading op writes c look now held stores = absurd (grind arith)
stored_kind Storing op writes c look now held stores = refl
stored_kind Reserving op writes c look now held stores = absurd (grind arith)
stored_kind Conditional op writes c look now held stores = absurd (grind arith)
stored_kind Atomic op writes c look now held stores = absurd (grind arith)

stored_of : (op : Op) (c : Computed) (look now : ℕ) (held : Bool) → is_storing (kind_of op) ≡ true
    → stored_by op (outcome_of op c (Some look)) ≡ (effect_of op c now held).write
stored_of op c look now held stores =
    elim (cases_Bool (is_last c.next)) [
      | inl last ↦ rw last refl
      | inr going ↦ rw going (stored_kind (kind_of op) op (writes_register op) c look now held stores)
    ]

stored-retires : (setup : Setup) (past : List Event) → is_legal setup past → (actor n : ℕ) (x : Effect)
    → refused setup past (Retire actor n x) ≡ None → is_storing (kind_of (op_at past n)) ≡ true
    → stored past n ≡ x.write
stored-retires setup past legal actor n x ok stores =
    let done = done-at setup past legal actor n x ok in
    let f = done.fetch in
    let op = op_of_fetched (Some f) in
    let c = computed_at setup past n f in
    let is_op : op_at past n ≡ op = ap op_of_fetched done.fetched in
    ap (λ o. option_and_then (stored_by o) (completion past n)) is_op
    ∙ (ap (λ o. option_and_then (stored_by op) o) done.completed
    ∙ (ap (stored_by op) done.outcome_is
    ∙ (stored_of op c done.look (read op (byte_at setup past) c.addr) (holds_word (reserved past f.hart) c.addr)
    (ap (λ o. is_storing (kind_of o)) (sym is_op) ∙ stores)
    ∙ ap (λ z. z.write) (sym done.effect_is))))

-- ---- What a load's completion said

pub record SaysALook (op : Op) (c : Computed) (look : ℕ) (o : Outcome) (v : ℕ) : Type 0 where
  pub number : look ≡ v
  pub addr : o.addr ≡ Some c.addr
  pub next : o.next ≡ c.next
  pub going : is_last c.next ≡ false
  pub writes : writes_register op ≡ true

says_kind : (kind : Kind) (op : Op) (writes : Bool) (c : Computed) (look : ℕ) (o : Outcome) (v : ℕ)
    → is_loading kind ≡ true → writes_register op ≡ writes → is_last c.next ≡ false
    → o ≡ outcome_by kind writes c (Some look) → o.value ≡ Some v → SaysALook op c look o v
says_kind Computing op writes c look o v loads same going is some = absurd (grind arith)
says_kind Loading op true c look o v loads same going is some = record {
  number = some_one look v (sym (ap (λ z. z.value) is) ∙ some);
  addr = ap (λ z. z.addr) is;
  next = ap (λ z. z.next) is;
  going = going;
  writes = same;
}
says_kind Loading op false c look o v loads same going is some = absurd (grind arith)
says_kind Storing op writes c look o v loads same going is some = absurd (grind arith)
says_kind Reserving op writes c look o v loads same going is some = absurd (grind arith)
says_kind Conditional op writes c look o v loads same going is some = absurd (grind arith)
says_kind Atomic op writes c look o v loads same going is some = absurd (grind arith)

none_some : (o : Outcome) (v : ℕ) → o.value ≡ None → o.value ≡ Some v → ⊥
none_some o v none some = absurd (grind arith)

pub says_a_look : (op : Op) (c : Computed) (look : ℕ) (o : Outcome) (v : ℕ) → is_loading (kind_of op) ≡ true
    → o ≡ outcome_of op c (Some look) → o.value ≡ Some v → SaysALook op c look o v
says_a_look op c look o v loads is some =
    elim (cases_Bool (is_last c.next)) [
      | inl last ↦
          let none : (outcome_of op c (Some look)).value ≡ None = rw last refl in
          absurd (none_some o v (ap (λ z. z.value) is ∙ none) some)
      | inr going ↦
          let at : outcome_of op c (Some look) ≡ outcome_by (kind_of op) (writes_register op) c (Some look) =
          rw going refl in
          says_kind (kind_of op) op (writes_register op) c look o v loads refl going (is ∙ at) some
    ]

-- ---- The invariant

-- A store that the load s of hart h saw, and that is still in flight.
pub record IsSeen (past : List Event) (h s x : ℕ) : Type 0 where
  pub of_hart : is_of past h x ≡ true
  pub older : x < s
  pub storing : is_storing (kind_of (op_at past x)) ≡ true
  pub completed : stage (fate past x) ≡ 5

pub record IsOverlaid (setup : Setup) (past : List Event) (h s : ℕ) (op : Op) (addr v : ℕ) : Type 0 where
  pub stores : List ℕ
  pub rises : Rises stores
  pub seen : Each (IsSeen past h s) stores
  pub value : read op (λ b. overlaid_byte past b stores (byte_at setup past b)) addr ≡ v

-- A load of hart h that is completed with a number and that nothing has touched.
pub record IsUntouched (past : List Event) (h s : ℕ) (op : Op) (o : Outcome) (v : ℕ) : Type 0 where
  pub of_hart : is_of past h s ≡ true
  pub completed : stage (fate past s) ≡ 5
  pub is_op : op_at past s ≡ op
  pub loading : is_loading (kind_of op) ≡ true
  pub said : completion past s ≡ Some o
  pub value : o.value ≡ Some v
  pub untouched : is_touched past s ≡ false

-- ---- What stays

-- An event of a completed instruction is its retirement, or a drop or a refetch, which say nothing of it.
pub tells_nothing : (setup : Setup) (past : List Event) → is_legal setup past → (e : Event)
    → refused setup past e ≡ None → (x : ℕ) → stage (fate past x) ≡ 5
    → ((actor : ℕ) (effect : Effect) → e ≡ Retire actor x effect → ⊥) → fate_by e x ≡ None
tells_nothing setup past legal (Fetch actor hart n pc word predicted) ok x at not_it =
    let was = fetch_was setup past (sound setup past legal) actor hart n pc word predicted ok in
    grind (arith, nat_tests)
tells_nothing setup past legal (Decode actor n) ok x at not_it =
    let was = decode_was setup past actor n ok in grind (arith, nat_tests)
tells_nothing setup past legal (Rename actor n register) ok x at not_it =
    let was = rename_was setup past actor n register ok in grind (arith, nat_tests)
tells_nothing setup past legal (Issue actor n) ok x at not_it =
    let was = issue_was setup past actor n ok in grind (arith, nat_tests)
tells_nothing setup past legal (Complete actor n outcome) ok x at not_it =
    let was = complete_was setup past (sound setup past legal) actor n outcome ok in grind (arith, nat_tests)
tells_nothing setup past legal (Drop actor n) ok x at not_it = refl
tells_nothing setup past legal (Refetch actor n) ok x at not_it = refl
tells_nothing setup past legal (Retire actor n effect) ok x at not_it =
    elim (cases_eq n x) [
      | inl same ↦ absurd (not_it actor effect (ap (λ z. Retire actor z effect) same))
      | inr other ↦ grind (arith, nat_tests)
    ]

seen-kept : (setup : Setup) (past : List Event) → is_legal setup past → (e : Event) → refused setup past e ≡ None
    → (h s : ℕ) → is_of past h s ≡ true → stage (fate past s) ≡ 5 → stage (fate (e ∷ past) s) ≡ 5
    → (x : ℕ) → IsSeen past h s x → fate_by e x ≡ None → IsSeen (e ∷ past) h s x
seen-kept setup past legal e ok h s of_s was now x seen tells =
    let known : 1 ≤ stage (fate past x) = (let five = seen.completed in omega arith) in
    let under = known_below setup past legal x known in
    let above = seen.older in
    let spares = spared e past s (grind (arith, nat_tests)) (λ gone. absurd (omega arith)) in
    let same = fate-kept e past x tells (older_spared e past h x s seen.of_hart of_s (omega arith) spares) in
    record {
      of_hart = is_of-kept setup past legal e ok h x under ∙ seen.of_hart;
      older = seen.older;
      storing = ap (λ o. is_storing (kind_of o)) (op_at-kept setup past legal e ok x under) ∙ seen.storing;
      completed = ap stage same ∙ seen.completed;
    }

pub stored-kept : (setup : Setup) (past : List Event) → is_legal setup past → (e : Event) → refused setup past e ≡ None
    → (x : ℕ) → stage (fate past x) ≡ 5 → stored (e ∷ past) x ≡ stored past x
stored-kept setup past legal e ok x at =
    let under = known_below setup past legal x (omega arith) in
    ap (λ o. option_and_then (stored_by o) (completion (e ∷ past) x)) (op_at-kept setup past legal e ok x under)
    ∙ ap (λ o. option_and_then (stored_by (op_at past x)) o)
    (completion-kept setup past legal e ok x (λ four. absurd (omega arith)))

-- An event that leaves the load's bytes and these stores.
pub overlaid-kept : (setup : Setup) (past : List Event) → is_legal setup past → (e : Event) → refused setup past e ≡ None
    → (h s : ℕ) (op : Op) (addr v : ℕ) → is_of past h s ≡ true → stage (fate past s) ≡ 5
    → stage (fate (e ∷ past) s) ≡ 5
    → ((b : ℕ) → addr ≤ b → b < addr + access_size op → byte_at setup (e ∷ past) b ≡ byte_at setup past b)
    → (before : IsOverlaid setup past h s op addr v)
    → ((x : ℕ) → member x before.stores ≡ true → fate_by e x ≡ None)
    → IsOverlaid setup (e ∷ past) h s op addr v
overlaid-kept setup past legal e ok h s op addr v of_s was now bytes before tells =
    let at : (x : ℕ) → member x before.stores ≡ true → IsSeen past h s x =
    λ x m. Each-at (IsSeen past h s) before.stores before.seen x m in
    record {
      stores = before.stores;
      rises = before.rises;
      seen = Each-all (IsSeen (e ∷ past) h s) before.stores
          (λ x m. seen-kept setup past legal e ok h s of_s was now x (at x m) (tells x m));
      value =
          read_within (λ b. overlaid_byte (e ∷ past) b before.stores (byte_at setup (e ∷ past) b))
          (λ b. overlaid_byte past b before.stores (byte_at setup past b)) op addr
          (λ b low high. ap (overlaid_byte (e ∷ past) b before.stores) (bytes b low high)
          ∙ overlay-same past (e ∷ past) b before.stores
          (λ x m. stored-kept setup past legal e ok x (at x m).completed) (byte_at setup past b))
          ∙ before.value;
    }

-- The oldest of these stores retires.
overlaid-loses : (setup : Setup) (past : List Event) → is_legal setup past → (actor n : ℕ) (x : Effect)
    → refused setup past (Retire actor n x) ≡ None
    → (h s : ℕ) (op : Op) (addr v : ℕ) → is_of past h s ≡ true → stage (fate past s) ≡ 5
    → stage (fate (Retire actor n x ∷ past) s) ≡ 5
    → (ys : List ℕ) → Rises (n ∷ ys) → Each (IsSeen past h s) (n ∷ ys)
    → read op (λ b. overlaid_byte past b (n ∷ ys) (byte_at setup past b)) addr ≡ v
    → IsOverlaid setup (Retire actor n x ∷ past) h s op addr v
overlaid-loses setup past legal actor n x ok h s op addr v of_s was now ys rises seen value =
    let e = Retire actor n x in
    let at : (y : ℕ) → member y ys ≡ true → IsSeen past h s y = λ y m. Each-at (IsSeen past h s) ys seen.1 y m in
    let tells : (y : ℕ) → member y ys ≡ true → fate_by e y ≡ None =
    λ y m. let above : n < y = Each-at (λ z. n < z) ys rises.0 y m in grind (arith, nat_tests) in
    record {
      stores = ys;
      rises = rises.1;
      seen = Each-all (IsSeen (e ∷ past) h s) ys
          (λ y m. seen-kept setup past legal e ok h s of_s was now y (at y m) (tells y m));
      value =
          read-same (λ b. overlaid_byte (e ∷ past) b ys (byte_at setup (e ∷ past) b))
          (λ b. overlaid_byte past b (n ∷ ys) (byte_at setup past b))
          (λ b. overlay-same past (e ∷ past) b ys
          (λ y m. stored-kept setup past legal e ok y (at y m).completed) (byte_after x.write b (byte_at setup past b))
          ∙ ap (λ w. overlaid_byte past b ys (byte_after w b (byte_at setup past b)))
          (sym (stored-retires setup past legal actor n x ok seen.0.storing))) op addr
          ∙ value;
    }

-- Another one retires, which the load's first look didn't see: an older one of its hart can't stand before it.
not_behind : (setup : Setup) (past : List Event) → is_legal setup past → (actor n : ℕ) (x : Effect)
    → refused setup past (Retire actor n x) ≡ None
    → (h s y : ℕ) (ys : List ℕ) → Rises (y ∷ ys) → Each (IsSeen past h s) (y ∷ ys) → n ≢ y
    → (z : ℕ) → member z (y ∷ ys) ≡ true → n ≢ z
not_behind setup past legal actor n x ok h s y ys rises seen other z m same =
    let here : IsSeen past h s z = Each-at (IsSeen past h s) (y ∷ ys) seen z m in
    elim (cases_eq y z) [
      | inl head ↦ other (same ∙ sym head)
      | inr behind ↦
          let inside : member z ys ≡ true = grind (arith, nat_tests) in
          let above : y < z = Each-at (λ w. y < w) ys rises.0 z inside in
          let of_n : is_of past h n ≡ true = subst (λ w. is_of past h w ≡ true) (sym same) here.of_hart in
          let gone = retire_front setup past legal actor n x ok h y seen.0.of_hart of_n (omega arith) in
          let flies : is_in_flight (fate past y) ≡ true = (let five = seen.0.completed in grind (arith, nat_tests)) in
          true_false (sym flies ∙ gone)
    ]

told-retire : (actor n : ℕ) (x : Effect) (z : ℕ) → n ≢ z → fate_by (Retire actor n x) z ≡ None
told-retire actor n x z other = grind (arith, nat_tests)

pub overlaid-retired : (setup : Setup) (past : List Event) → is_legal setup past → (actor n : ℕ) (x : Effect)
    → refused setup past (Retire actor n x) ≡ None
    → (h s : ℕ) (op : Op) (addr v : ℕ) → is_of past h s ≡ true → stage (fate past s) ≡ 5
    → stage (fate (Retire actor n x ∷ past) s) ≡ 5
    → touches_access x.write op (Some addr) ≡ false
    → (stores : List ℕ) → Rises stores → Each (IsSeen past h s) stores
    → read op (λ b. overlaid_byte past b stores (byte_at setup past b)) addr ≡ v
    → IsOverlaid setup (Retire actor n x ∷ past) h s op addr v
overlaid-retired setup past legal actor n x ok h s op addr v of_s was now apart [] rises seen value =
    overlaid-kept setup past legal (Retire actor n x) ok h s op addr v of_s was now
    (λ b low high. unwritten x.write op addr b (byte_at setup past b) apart low high)
    (record { stores = []; rises = rises; seen = seen; value = value }) (λ z m. absurd (grind arith))
overlaid-retired setup past legal actor n x ok h s op addr v of_s was now apart (y ∷ ys) rises seen value =
    elim (cases_eq n y) [
      | inl head ↦
          overlaid-loses setup past legal actor n x ok h s op addr v of_s was now ys
          (subst (λ z. Rises (z ∷ ys)) (sym head) rises) (subst (λ z. Each (IsSeen past h s) (z ∷ ys)) (sym head) seen)
          (subst (λ z. read op (λ b. overlaid_byte past b (z ∷ ys) (byte_at setup past b)) addr ≡ v) (sym head) value)
      | inr other ↦
          overlaid-kept setup past legal (Retire actor n x) ok h s op addr v of_s was now
          (λ b low high. unwritten x.write op addr b (byte_at setup past b) apart low high)
          (record { stores = y ∷ ys; rises = rises; seen = seen; value = value })
          (λ z m. told-retire actor n x z
          (not_behind setup past legal actor n x ok h s y ys rises seen other z m))
    ]
