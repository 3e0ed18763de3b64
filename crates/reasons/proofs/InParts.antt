-- What the parts of a core show of its history: how many of a kind are in flight, whether a register is free, and which
-- entry of the queue is the oldest of its kind.
use Rattle.std.specs.Prelude.{◌≡◌, ℕ, ◌+◌, ◌<◌, ◌≤◌, ◌==◌, ◌&&◌, nat_le, nat_lt, not, Bool, true, false, if◌then◌else◌}
use Rattle.std.specs.Prelude.{List, [], ◌∷◌, count_by, filter, find, length, map, option_map, Option, Some, None, is_some}
use Rattle.std.specs.List.{AllByRecursion, list_all, list_any}
use Rattle.std.proofs.Common.{◌∙◌, refl, sym, ap, subst, inl, inr, arith}
use Rattle.std.proofs.{lemmas.Bool.cases_Bool, lemmas.Bool.Decides.nat_tests, lemmas.List.Sums.length-filter}
use Rattle.numbers.specs.Sizes.{most_accesses, most_registers}
use Rattle.rv_instr.specs.{Registers.op_unit, declared.op.Op.Op, declared.op.UnitKind.UnitKind}
use Rattle.events.specs.declared.event.Event.{Event}
use Rattle.issue_queue.specs.{Entry.has_values, Entry.is_value, Entry.can_issue, declared.entry.Entry.Entry}
use Rattle.issue_queue.specs.Queue.{Queue, first_ready}
use Rattle.retire_squash.specs.declared.active.Active.{Active}
use Rattle.smt_model.specs.{Basics.below, Basics.first, Basics.how_many, Setup.Setup, Setup.registers_of}
use Rattle.smt_model.specs.Kinds.{first_source, second_source, same_unit}
use Rattle.smt_model.specs.Fates.{fate, op_at, op_of_fetched}
use Rattle.smt_model.specs.{Flights.flight, Flights.queue, Picture.Picture, Picture.picture, Picture.is_free}
use Rattle.smt_model.specs.Registers.{claims, is_ready, is_unclaimed, reads}
use Rattle.smt_model.proofs.Lists.{member, filter-none}
use Rattle.core_state.proofs.Following.Tests.{not_full}
use Rattle.smt_model.proofs.Registers.Claims.{below-member, member-below}
use Rattle.core_parts.specs.{Agree.HartAgrees, Agree.IsActive, Agree.IsEntry, Agree.QueueAgrees, Agree.IsStage}
use Rattle.core_parts.specs.{declared.hart.HartState.HartState, Agree.source_at}
use Rattle.core_parts.specs.Listed.{listed}
use Rattle.reasons.specs.Reasons.{is_crowded, is_of_kind, no_register, oldest_waits, unready, writer_for}
use Rattle.reasons.specs.Waiting.{register_waited, first_waiting}
use Rattle.reasons.specs.declared.reason.Reason.{Reason}
use Rattle.reasons.specs.declared.reason.Reason.TheVariants.{NothingQueued}
use Rattle.reasons.proofs.Naming.{not_all, one_fails, not_false}
use Rattle.reasons.proofs.Waiting.{is_valued}

-- ---- How many of a kind are in flight

double : (b : Bool) → b ≡ not (not b)
double true = refl
double false = refl

-- A queue of those of a kind that are in flight is full.
pub crowded_is : (past : List Event) (h : ℕ) (test : Op → Bool) (n : ℕ)
    → n ≡ how_many (λ s. test (op_at past s)) (flight past h) → n ≤ most_accesses
    → (n == most_accesses) ≡ is_crowded test past h
crowded_is past h test n many within =
    double (n == most_accesses) ∙ ap not (not_full n most_accesses within)
    ∙ ap (λ m. not (nat_lt m most_accesses)) many

-- ---- Free registers

is_empty : (xs : List ℕ) → xs ≡ [] → (length xs == 0) ≡ true
is_empty xs none = ap (λ ys. length ys == 0) none

filled : (xs : List ℕ) (p : ℕ) → how_many (λ x. x == p) xs ≡ 1 → (length xs == 0) ≡ false
filled [] p one = absurd (grind (arith, nat_tests))
filled (x ∷ xs) p one = grind (arith, nat_tests)

unclaimed_zero : (setup : Setup) (past : List Event) (p : ℕ) → is_free setup past p ≡ true → claims setup past p ≡ 0
unfolding is_unclaimed
unclaimed_zero setup past p free = grind (arith, nat_tests)

free_below : (setup : Setup) (past : List Event) (p : ℕ) → is_free setup past p ≡ true → p < registers_of setup
free_below setup past p free = grind (arith, nat_tests)

none_listed : (setup : Setup) (past : List Event) → no_register setup past ≡ true → listed (is_free setup past) ≡ []
unfolding listed
none_listed setup past none =
    filter-none (is_free setup past) (below most_registers) (λ p m. elim (cases_Bool (is_free setup past p)) [
      | inl free ↦
          let inside = below-member (registers_of setup) p (free_below setup past p free) in
          let some = one_fails (λ x. not (is_free setup past x)) (below (registers_of setup)) p inside
          (not_false (is_free setup past p) free) in
          let both : true ≡ false = sym none ∙ some in
          absurd (grind arith)
      | inr claimed ↦ claimed
    ])

negated : (b : Bool) → not b ≡ false → b ≡ true
negated true is = refl
negated false is = absurd (grind arith)

pub none_free : (setup : Setup) (past : List Event) (xs : List ℕ) → xs ≡ listed (is_free setup past)
    → ((p : ℕ) → p < registers_of setup → claims setup past p + how_many (λ x. x == p) xs ≡ 1)
    → (length xs == 0) ≡ no_register setup past
none_free setup past xs is once =
    elim (cases_Bool (no_register setup past)) [
      | inl none ↦ is_empty xs (is ∙ none_listed setup past none) ∙ sym none
      | inr some ↦
          let one = not_all (λ p. not (is_free setup past p)) (below (registers_of setup)) some in
          let free = negated (is_free setup past one.number) one.failed in
          let zero = unclaimed_zero setup past one.number free in
          let there = once one.number (member-below (registers_of setup) one.number one.there) in
          filled xs one.number (omega arith) ∙ sym some
    ]

-- ---- The oldest of a kind in the queue

entry_op : (setup : Setup) (past : List Event) (e : Entry) → IsEntry (picture setup past) e → op_at past e.seq ≡ e.op
entry_op setup past e is = ap op_of_fetched is.fetched ∙ sym is.op

abbrev pub of_unit : UnitKind → Entry → Bool
of_unit kind e = same_unit kind (op_unit e.op)

kind_is : (setup : Setup) (past : List Event) (kind : UnitKind) (e : Entry) → IsEntry (picture setup past) e
    → is_of_kind past kind e.seq ≡ of_unit kind e
kind_is setup past kind e is = ap (λ o. same_unit kind (op_unit o)) (entry_op setup past e is)

first_kind : (setup : Setup) (past : List Event) (kind : UnitKind) (xs : List Entry)
    → AllByRecursion (IsEntry (picture setup past)) xs
    → first (filter (is_of_kind past kind) (map (λ e. e.seq) xs)) ≡ option_map (λ e. e.seq) (find (of_unit kind) xs)
first_kind setup past kind [] all = refl
first_kind setup past kind (x ∷ xs) all =
    let at = kind_is setup past kind x all.0 in
    elim (cases_Bool (of_unit kind x)) [
      | inl here ↦ let too = at ∙ here in rw (too, here) refl
      | inr other ↦ let too = at ∙ other in rw (too, other) (first_kind setup past kind xs all.1)
    ]

abbrev suits : Setup → List Event → UnitKind → ℕ → Bool
suits setup past kind s = is_of_kind past kind s && is_ready setup past s

some_ready : (setup : Setup) (past : List Event) (kind : UnitKind)
    → ((e : Entry) → IsEntry (picture setup past) e → has_values e ≡ is_ready setup past e.seq) → (xs : List Entry)
    → AllByRecursion (IsEntry (picture setup past)) xs
    → list_any (suits setup past kind) (map (λ e. e.seq) xs) ≡ is_some (find (can_issue kind) xs)
some_ready setup past kind known [] all = refl
some_ready setup past kind known (x ∷ xs) all =
    let both : (of_unit kind x && has_values x) ≡ suits setup past kind x.seq =
    ap (λ b. b && has_values x) (sym (kind_is setup past kind x all.0))
    ∙ ap (λ b. is_of_kind past kind x.seq && b) (known x all.0) in
    elim (cases_Bool (can_issue kind x)) [
      | inl here ↦
          let too : suits setup past kind x.seq ≡ true = sym both ∙ here in
          rw (too, here) refl
      | inr other ↦
          let too : suits setup past kind x.seq ≡ false = sym both ∙ other in
          rw (too, other) (some_ready setup past kind known xs all.1)
    ]

pub found_in : (P : Entry → Type 0) (test : Entry → Bool) (e : Entry) (xs : List Entry) → AllByRecursion P xs
    → find test xs ≡ Some e → P e
found_in P test e [] all found = absurd cc
found_in P test e (x ∷ xs) all found =
    elim (cases_Bool (test x)) [
      | inl here ↦
          let it : Some x ≡ Some e = sym (rw here refl) ∙ found in
          let same : x ≡ e = cc in
          subst P same all.0
      | inr later ↦ found_in P test e xs all.1 (sym (rw later refl) ∙ found)
    ]

not_valued : (a b : Bool) → a ≡ true → (a && b) ≡ false → b ≡ false
not_valued a b is none = grind arith

pub found_waits : (kind : UnitKind) (e : Entry) (xs : List Entry) → find (can_issue kind) xs ≡ None
    → find (of_unit kind) xs ≡ Some e → has_values e ≡ false
found_waits kind e [] none found = absurd cc
found_waits kind e (x ∷ xs) none found =
    elim (cases_Bool (can_issue kind x)) [
      | inl ready ↦ let it : Some x ≡ None = sym (rw ready refl) ∙ none in absurd cc
      | inr waits ↦
          elim (cases_Bool (of_unit kind x)) [
            | inl here ↦
                let it : Some x ≡ Some e = sym (rw here refl) ∙ found in
                let same : x ≡ e = cc in
                subst (λ y. has_values y ≡ false) same (not_valued (of_unit kind x) (has_values x) here waits)
            | inr later ↦
                found_waits kind e xs (sym (rw waits refl) ∙ none) (sym (rw later refl) ∙ found)
          ]
    ]

none_of : (o : Option Entry) → is_some o ≡ false → o ≡ None
none_of None none = refl
none_of (Some e) none = absurd (grind arith)

ready_in : (setup : Setup) (past : List Event) (kind : UnitKind) (q : Queue) → QueueAgrees (picture setup past) q
    → (o : Option Entry) → o ≡ first_ready kind q.entries
    → list_any (suits setup past kind) (queue past) ≡ is_some o
ready_in setup past kind q agrees o found =
    ap (list_any (suits setup past kind)) (sym agrees.numbers)
    ∙ (some_ready setup past kind (is_valued setup past) q.entries agrees.entries ∙ ap is_some (sym found))

pub unready_none : (setup : Setup) (past : List Event) (kind : UnitKind) (q : Queue)
    → QueueAgrees (picture setup past) q → (o : Option Entry) → o ≡ first_ready kind q.entries → is_some o ≡ true
    → None ≡ unready setup past (Some kind)
unready_none setup past kind q agrees o found some =
    let any = ready_in setup past kind q agrees o found ∙ some in
    rw any refl

pub none_found : (kind : UnitKind) (xs : List Entry) (o : Option Entry) → o ≡ first_ready kind xs
    → is_some o ≡ false → find (can_issue kind) xs ≡ None
none_found kind xs o found none = sym found ∙ none_of o none

pub unready_some : (setup : Setup) (past : List Event) (kind : UnitKind) (q : Queue)
    → QueueAgrees (picture setup past) q → (o : Option Entry) → o ≡ first_ready kind q.entries → is_some o ≡ false
    → (f : Option Entry) → f ≡ find (of_unit kind) q.entries
    → unready setup past (Some kind) ≡ Some (oldest_waits setup past kind (option_map (λ e. e.seq) f))
unready_some setup past kind q agrees o found none f looked =
    let any = ready_in setup past kind q agrees o found ∙ none in
    let oldest : first (filter (is_of_kind past kind) (queue past)) ≡ option_map (λ e. e.seq) f =
    ap (λ ns. first (filter (is_of_kind past kind) ns)) (sym agrees.numbers)
    ∙ (first_kind setup past kind q.entries agrees.entries ∙ ap (option_map (λ e. e.seq)) (sym looked)) in
    rw (any, oldest) refl
