-- Which rule an issue breaks.
use Rattle.std.specs.Prelude.{◌≡◌, ℕ, ◌==◌, ◌&&◌, ◌||◌, Bool, true, false, not, nat_lt, nat_le, List, [], ◌∷◌, map, find}
use Rattle.std.specs.Prelude.{Option, Some, None, is_some, is_none, if◌then◌else◌, IfSome, IfNone}
use Rattle.std.specs.List.{AllByRecursion, list_all, list_any}
use Rattle.std.proofs.Common.{◌<◌, ◌≤◌, ◌∙◌, refl, sym, ap, subst, inl, inr, arith}
use Rattle.std.proofs.{lemmas.Bool.and_parts, lemmas.Bool.cases_Bool, lemmas.Bool.cases_eq, lemmas.Bool.false≢true}
use Rattle.std.proofs.{lemmas.Option.none-some, lemmas.Bool.Decides.nat_tests}
use Rattle.events.specs.{declared.event.Event.Event, declared.event.Event.TheVariants.Issue}
use Rattle.issue_queue.specs.{Entry.has_values, Entry.can_issue, declared.entry.Entry.Entry, Queue.first_ready, Queue.IsOldestReady}
use Rattle.rv_instr.specs.{Registers.op_unit, Registers.same_unit, declared.op.UnitKind.UnitKind}
use Rattle.smt_model.specs.{Picture.picture, Setup.Setup, Basics.holds_of}
use Rattle.smt_model.specs.{Jobs.is_actor, Jobs.job, Jobs.unit_of_actor, Registers.is_ready}
use Rattle.smt_model.specs.Fates.{fate, is, op_at, op_of_fetched, stage, Renamed}
use Rattle.smt_model.specs.Flights.{queue, all_numbers}
use Rattle.smt_model.specs.Rules.{first_failing, refused, is_for, is_oldest_ready, is_legal}
use Rattle.smt_model.proofs.{Lists.member, Lists.filter-member, Fates.Numbers.all_numbers-member}
use Rattle.smt_model.proofs.{Fates.Numbers.known_below, Fates.Moves.stage_of}
use Rattle.core_parts.specs.{Agree.IsEntry}
use Rattle.core_steps.specs.{Issuing.suits}
use Rattle.core_state.specs.{Refusals.idle_unit, Refusals.IsEntryOf}
use Rattle.core_state.proofs.Following.Place.{found, missing}
use Rattle.core_state.proofs.Following.Tests.{refused-is, holds, fails}
use Rattle.core_state.proofs.Steps.Asked.{some_of}
use Rattle.core_steps.proofs.Steps.Issue.Next.{ready_known, suits_known}
use Rattle.core_state.proofs.Steps.Issue.Rules.{issue_unit, issue_can}

-- ---- The entry

module _ (setup : Setup) (past : List Event) (legal : is_legal setup past) (s : ℕ) (es : List Entry)
    (numbers : map (λ e. e.seq) es ≡ queue past) (entries : AllByRecursion (IsEntry (picture setup past)) es) where
  pub waits : (r : Option Entry) → r ≡ find (λ e. e.seq == s) es
      → IfSome r (IsEntryOf (picture setup past) s)
  waits None is_it = tt
  waits (Some e) is_it =
      let it = found (λ z. z.seq) (IsEntry (picture setup past)) s es e entries (sym is_it) in
      record { entry = it.0; number = it.1 }

  pub waits_not : (r : Option Entry) → r ≡ find (λ e. e.seq == s) es
      → IfNone r (is (fate past s) Renamed ≡ false)
  waits_not (Some e) is_it = tt
  waits_not None is_it = elim (cases_Bool (is (fate past s) Renamed)) [
    | inl t ↦
        let at : stage (fate past s) ≡ 3 = stage_of (fate past s) Renamed t in
        let there = all_numbers-member setup past legal s (known_below setup past legal s (omega arith)) in
        let m = filter-member (λ n. is (fate past n) Renamed) s (all_numbers past) there t in
        absurd (false≢true (sym (missing (λ z. z.seq) s es (sym is_it)) ∙ (ap (member s) numbers ∙ m)))
    | inr f ↦ f
  ]

-- ---- The oldest ready one

-- it is no lower one that is ready
abbrev pub passes : UnitKind → ℕ → Entry → Bool
passes kind n x = not (nat_lt x.seq n && can_issue kind x)

passes_above : (kind : UnitKind) (n : ℕ) (x : Entry) → (can_issue kind x ≡ true → n ≤ x.seq) → passes kind n x ≡ true
passes_above kind n x above = above_by (can_issue kind x) above
  where
    above_by : (b : Bool) → (b ≡ true → n ≤ x.seq) → not (nat_lt x.seq n && b) ≡ true
    above_by true above = let over : n ≤ x.seq = above refl in grind (arith, nat_tests)
    above_by false above = grind (arith, nat_tests)

none_lower : (kind : UnitKind) (n m : ℕ) (xs : List Entry) → n ≤ m
    → AllByRecursion (λ x. can_issue kind x ≡ true → m ≤ x.seq) xs → list_all (passes kind n) xs ≡ true
none_lower kind n m [] low all = refl
none_lower kind n m (x ∷ xs) low all =
    let here : passes kind n x ≡ true =
    passes_above kind n x (λ ready. let above : m ≤ x.seq = all.0 ready in omega arith) in
    rw here (none_lower kind n m xs low all.1)

none_ready : (kind : UnitKind) (n : ℕ) (xs : List Entry) → first_ready kind xs ≡ None
    → list_all (passes kind n) xs ≡ true
none_ready kind n [] none = refl
none_ready kind n (x ∷ xs) none =
    elim (cases_Bool (can_issue kind x)) [
      | inl is ↦ let it : Some x ≡ None = sym (rw is refl) ∙ none in absurd cc
      | inr is ↦
          let behind : first_ready kind xs ≡ None = sym (rw is refl) ∙ none in
          let here : passes kind n x ≡ true =
          passes_above kind n x (λ ready. absurd (false≢true (sym is ∙ ready))) in
          rw here (none_ready kind n xs behind)
    ]

one_lower : (kind : UnitKind) (n : ℕ) (e : Entry) (xs : List Entry) → e.seq < n → first_ready kind xs ≡ Some e
    → list_all (passes kind n) xs ≡ false
one_lower kind n e [] low some = absurd cc
one_lower kind n e (x ∷ xs) low some =
    elim (cases_Bool (can_issue kind x)) [
      | inl is ↦
          let found : Some x ≡ Some e = sym (rw is refl) ∙ some in
          let it : x ≡ e = cc in
          let lower : nat_lt x.seq n ≡ true = rw it (grind (arith, nat_tests)) in
          rw (lower, is) refl
      | inr is ↦
          let behind : first_ready kind xs ≡ Some e = sym (rw is refl) ∙ some in
          let here : passes kind n x ≡ true =
          passes_above kind n x (λ ready. absurd (false≢true (sym is ∙ ready))) in
          rw here (one_lower kind n e xs low behind)
    ]

pub none_oldest : (kind : UnitKind) (n : ℕ) (xs : List Entry) → None ≡ first_ready kind xs
    → true ≡ list_all (passes kind n) xs
none_oldest kind n xs none = sym (none_ready kind n xs (sym none))

pub oldest_passes : (kind : UnitKind) (n : ℕ) (e : Entry) (xs : List Entry) → Some e ≡ first_ready kind xs
    → IsOldestReady kind xs e → (b : Bool) → b ≡ nat_le n e.seq → b ≡ list_all (passes kind n) xs
oldest_passes kind n e xs is oldest true above =
    let low : n ≤ e.seq = grind (arith, nat_tests, above) in
    sym (none_lower kind n e.seq xs low oldest.oldest)
oldest_passes kind n e xs is oldest false above =
    let low : e.seq < n = grind (arith, nat_tests, above) in
    sym (one_lower kind n e xs low (sym is))

-- ---- The rules

module _ (setup : Setup) (past : List Event) (actor s : ℕ) where
  abbrev behind_fate : List (ℕ × Bool)
  behind_fate =
      (4, is_for setup past actor s) ∷ (5, is_ready setup past s) ∷ (6, is_oldest_ready setup past actor s) ∷ []

  abbrev behind_unit : List (ℕ × Bool)
  behind_unit = (3, is (fate past s) Renamed) ∷ behind_fate

  abbrev idle : Bool
  idle = is_some (unit_of_actor setup actor) && is_none (job past actor)

  abbrev behind_actor : List (ℕ × Bool)
  behind_actor = (2, idle) ∷ behind_unit

  pub no_actor : is_actor setup actor ≡ false → refused setup past (Issue actor s) ≡ Some 1
  no_actor none = refused-is setup past (Issue actor s) ∙ fails 1 (is_actor setup actor) behind_actor none

  busy_by : (u : Option UnitKind) (j : Bool) → (if j then u else None) ≡ None → (is_some u && j) ≡ false
  busy_by None true none = refl
  busy_by None false none = refl
  busy_by (Some kind) true none = absurd (none-some kind (sym none))
  busy_by (Some kind) false none = refl

  pub busy : is_actor setup actor ≡ true → idle_unit setup past actor ≡ None
      → refused setup past (Issue actor s) ≡ Some 2
  busy one none =
      refused-is setup past (Issue actor s)
      ∙ (holds 1 (is_actor setup actor) behind_actor one
      ∙ fails 2 idle behind_unit (busy_by (unit_of_actor setup actor) (is_none (job past actor)) none))

  record IsIdle (u : Option UnitKind) (j : Bool) (kind : UnitKind) : Type 0 where
    pub unit : u ≡ Some kind
    pub both : (is_some u && j) ≡ true

  idle_by : (u : Option UnitKind) (j : Bool) (kind : UnitKind) → (if j then u else None) ≡ Some kind → IsIdle u j kind
  idle_by None true kind some = absurd (none-some kind some)
  idle_by None false kind some = absurd (none-some kind some)
  idle_by (Some other) true kind some = record { unit = some; both = refl }
  idle_by (Some other) false kind some = absurd (none-some kind some)

  idle_is : (kind : UnitKind) → idle_unit setup past actor ≡ Some kind
      → IsIdle (unit_of_actor setup actor) (is_none (job past actor)) kind
  idle_is kind some = idle_by (unit_of_actor setup actor) (is_none (job past actor)) kind some

  pub waits_nowhere : (kind : UnitKind) → is_actor setup actor ≡ true → idle_unit setup past actor ≡ Some kind
      → is (fate past s) Renamed ≡ false → refused setup past (Issue actor s) ≡ Some 3
  waits_nowhere kind one some not_there =
      refused-is setup past (Issue actor s)
      ∙ (holds 1 (is_actor setup actor) behind_actor one
      ∙ (holds 2 idle behind_unit (idle_is kind some).both
      ∙ fails 3 (is (fate past s) Renamed) behind_fate not_there))

  -- The kind of unit that executes an instruction, and whether a unit of the actor's kind may take it up.
  abbrev for_kind : Option UnitKind → ℕ → Bool
  for_kind unit t = holds_of (λ u. same_unit u (op_unit (op_at past t))) unit

  oldest_known : (kind : UnitKind) (es : List Entry) → AllByRecursion (IsEntry (picture setup past)) es
      → list_all (λ t. not (nat_lt t s && (for_kind (Some kind) t && is_ready setup past t))) (map (λ e. e.seq) es)
      ≡ list_all (λ e. not (nat_lt e.seq s && can_issue kind e)) es
  oldest_known kind [] all = refl
  oldest_known kind (e ∷ es) all =
      let one = suits_known (picture setup past) kind e all.0 in
      let rest = oldest_known kind es all.1 in
      ap (λ b. not (nat_lt e.seq s && b)
      && list_all (λ t. not (nat_lt t s && (for_kind (Some kind) t && is_ready setup past t))) (map (λ e. e.seq) es)) one
      ∙ ap (λ b. not (nat_lt e.seq s && can_issue kind e) && b) rest

  pub there : (kind : UnitKind) (e : Entry) (es : List Entry) (a b c : Bool) → is_actor setup actor ≡ true
      → idle_unit setup past actor ≡ Some kind → IsEntryOf (picture setup past) s e
      → map (λ e. e.seq) es ≡ queue past → AllByRecursion (IsEntry (picture setup past)) es
      → a ≡ same_unit kind (op_unit e.op) → b ≡ has_values e
      → c ≡ list_all (λ x. not (nat_lt x.seq s && can_issue kind x)) es
      → refused setup past (Issue actor s) ≡ first_failing ((4, a) ∷ (5, b) ∷ (6, c) ∷ [])
  there kind e es a b c one some it numbers entries a_is b_is c_is =
      let is_idle = idle_is kind some in
      let number = it.number in
      let op : op_at past s ≡ e.op =
      ap (op_at past) (sym number) ∙ (ap op_of_fetched it.entry.fetched ∙ sym it.entry.op) in
      let fated : is (fate past s) Renamed ≡ true =
      ap (λ n. is (fate past n) Renamed) (sym number) ∙ ap (λ f. is f Renamed) it.entry.waits in
      let a_now : is_for setup past actor s ≡ a =
      ap (λ u. for_kind u s) is_idle.unit ∙ (ap (λ o. same_unit kind (op_unit o)) op ∙ sym a_is) in
      let b_now : is_ready setup past s ≡ b =
      ap (is_ready setup past) (sym number) ∙ (sym (ready_known (picture setup past) e it.entry) ∙ sym b_is) in
      let c_now : is_oldest_ready setup past actor s ≡ c =
      ap (λ u. list_all (λ t. not (nat_lt t s && (for_kind u t && is_ready setup past t))) (queue past)) is_idle.unit
      ∙ (ap (list_all (λ t. not (nat_lt t s && (for_kind (Some kind) t && is_ready setup past t)))) (sym numbers)
      ∙ (oldest_known kind es entries ∙ sym c_is)) in
      refused-is setup past (Issue actor s)
      ∙ (holds 1 (is_actor setup actor) behind_actor one
      ∙ (holds 2 idle behind_unit is_idle.both
      ∙ (holds 3 (is (fate past s) Renamed) behind_fate fated
      ∙ rw (a_now, b_now, c_now) refl)))

-- ---- One alone may be issued by an actor

no_lower_one : (test : ℕ → Bool) (n m : ℕ) (xs : List ℕ) → list_all (λ t. not (nat_lt t n && test t)) xs ≡ true
    → list_any (λ t. t == m) xs ≡ true → test m ≡ true → n ≤ m
no_lower_one test n m [] all queued fits = absurd (grind arith)
no_lower_one test n m (x ∷ xs) all queued fits =
    let parts = and_parts (not (nat_lt x n && test x)) (list_all (λ t. not (nat_lt t n && test t)) xs) all in
    elim (cases_eq x m) [
      | inl same ↦
          let one : not (nat_lt m n && test m) ≡ true = subst (λ t. not (nat_lt t n && test t) ≡ true) same parts.0 in
          grind (arith, nat_tests, one, fits)
      | inr other ↦
          let apart : (x == m) ≡ false = grind (arith, nat_tests) in
          no_lower_one test n m xs parts.1
          (subst (λ b. (b || list_any (λ t. t == m) xs) ≡ true) apart queued) fits
    ]

pub one_issue : (setup : Setup) (past : List Event) → is_legal setup past → (actor n m : ℕ)
    → refused setup past (Issue actor n) ≡ None → refused setup past (Issue actor m) ≡ None → n ≡ m
one_issue setup past legal actor n m one other =
    let unit = issue_unit setup past actor n one in
    let first = issue_can setup past legal actor n unit.kind unit.is one in
    let second = issue_can setup past legal actor m unit.kind unit.is other in
    let test = suits (picture setup past) unit.kind in
    let low = no_lower_one test n m (queue past) first.oldest second.queued second.fits in
    let high = no_lower_one test m n (queue past) second.oldest first.queued first.fits in
    omega (arith, low, high)

pub alone : (setup : Setup) (past : List Event) → is_legal setup past → (actor : ℕ) (r : Option Entry)
    → IfSome r (λ e. refused setup past (Issue actor e.seq) ≡ None)
    → IfSome r (λ e. (s : ℕ) → refused setup past (Issue actor s) ≡ None → s ≡ e.seq)
alone setup past legal actor None ok = tt
alone setup past legal actor (Some e) ok = λ s other. one_issue setup past legal actor s e.seq other ok

pub another_is_refused : (setup : Setup) (past : List Event) (actor n m : ℕ)
    → ((s : ℕ) → refused setup past (Issue actor s) ≡ None → s ≡ n) → (n ≡ m → ⊥)
    → is_some (refused setup past (Issue actor m)) ≡ true
another_is_refused setup past actor n m alone apart =
    some_of (refused setup past (Issue actor m)) (λ ok. apart (sym (alone m ok)))
