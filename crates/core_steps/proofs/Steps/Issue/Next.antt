-- The first entry of the queue that a unit may take up is, in the picture, the oldest waiting instruction that suits
-- it.
use Rattle.std.specs.Prelude.{◌≡◌, ℕ, ◌<◌, ◌≤◌, ◌||◌, ◌==◌, ◌&&◌, nat_lt, not, Bool, true, false, List, [], ◌∷◌, find}
use Rattle.std.specs.Prelude.{map, Option, Some, None, is_some, IfSome, IfNone, slice_index_or}
use Rattle.std.specs.List.{AllByRecursion, list_all, list_any}
use Rattle.std.proofs.Common.{◌∙◌, refl, sym, ap, subst, inl, inr, arith}
use Rattle.std.proofs.{lemmas.Bool.and_parts, lemmas.Bool.cases_Bool, lemmas.Bool.cases_eq}
use Rattle.std.proofs.{lemmas.Bool.Decides.nat_tests}
use Rattle.numbers.specs.Sizes.{most_actors}
use Rattle.rv_instr.specs.{Registers.op_unit, declared.op.UnitKind.UnitKind}
use Rattle.issue_queue.specs.{Entry.has_values, Entry.is_value, Entry.can_issue, Queue.IsOldestReady}
use Rattle.issue_queue.specs.{Queue.first_ready, declared.entry.Entry.Entry}
use Rattle.smt_model.specs.{Kinds.first_source, Kinds.second_source, Kinds.same_unit, Fates.op_of_fetched}
use Rattle.smt_model.specs.{Picture.Picture, Steps.op_in}
use Rattle.core_parts.specs.Agree.{PartsAgree, source_of, source_at, IsEntry, HasOpenJob}
use Rattle.core_steps.specs.{Issuing.suits, Issuing.CanIssue}
use Rattle.core_parts.specs.{declared.slot.OpenJob.OpenJob, declared.parts.Parts.Parts}

-- ---- What suits a unit

value_known : (o : Option ℕ) (r : ℕ) → is_value (source_of o r) ≡ is_some o
value_known None r = refl
value_known (Some n) r = refl

and_known : (a b c d : Bool) → a ≡ c → b ≡ d → (a && (b && true)) ≡ (c && d)
and_known true true c d one two = rw (sym one, sym two) refl
and_known true false c d one two = rw (sym one, sym two) refl
and_known false b c d one two = rw (sym one) refl

pub ready_known : (p : Picture) (e : Entry) → IsEntry p e
    → has_values e ≡ (is_some (p.reads first_source e.seq) && is_some (p.reads second_source e.seq))
ready_known p e is =
    ap (λ xs. list_all is_value xs) is.sources
    ∙ and_known (is_value (source_at p first_source e.seq)) (is_value (source_at p second_source e.seq))
    (is_some (p.reads first_source e.seq))
    (is_some (p.reads second_source e.seq)) (value_known (p.reads first_source e.seq) (p.seen first_source e.seq))
    (value_known (p.reads second_source e.seq) (p.seen second_source e.seq))

entry_op : (p : Picture) (e : Entry) → IsEntry p e → op_in p e.seq ≡ e.op
entry_op p e is = ap op_of_fetched is.fetched ∙ sym is.op

pub suits_known : (p : Picture) (kind : UnitKind) (e : Entry) → IsEntry p e → suits p kind e.seq ≡ can_issue kind e
suits_known p kind e is =
    ap (λ b. b && (is_some (p.reads first_source e.seq) && is_some (p.reads second_source e.seq)))
    (ap (λ o. same_unit kind (op_unit o)) (entry_op p e is))
    ∙ ap (λ b. same_unit kind (op_unit e.op) && b) (sym (ready_known p e is))

-- ---- The one that is found

found_passes : (test : Entry → Bool) (e : Entry) (xs : List Entry) → find test xs ≡ Some e → test e ≡ true
found_passes test e [] found = absurd cc
found_passes test e (x ∷ xs) found =
    elim (cases_Bool (test x)) [
      | inl here ↦
          let it : Some x ≡ Some e = sym (rw here refl) ∙ found in
          let same : x ≡ e = cc in
          subst (λ y. test y ≡ true) same here
      | inr later ↦ found_passes test e xs (sym (rw later refl) ∙ found)
    ]

found_in : (P : Entry → Type 0) (test : Entry → Bool) (e : Entry) (xs : List Entry) → AllByRecursion P xs
    → find test xs ≡ Some e → P e
found_in P test e [] all found = absurd cc
found_in P test e (x ∷ xs) all found =
    elim (cases_Bool (test x)) [
      | inl here ↦
          let it : Some x ≡ Some e = sym (rw here refl) ∙ found in
          let same : x ≡ e = cc in
          subst P same all.0
      | inr later ↦ found_in P test e xs all.1 (sym (rw later refl) ∙ found)
    ]

or_left : (a b : Bool) → a ≡ true → (a || b) ≡ true
or_left true b is = refl
or_left false b is = absurd (grind arith)

or_right : (a b : Bool) → b ≡ true → (a || b) ≡ true
or_right true b is = refl
or_right false b is = is

found_queued : (test : Entry → Bool) (e : Entry) (xs : List Entry) → find test xs ≡ Some e
    → list_any (λ t. t == e.seq) (map (λ x. x.seq) xs) ≡ true
found_queued test e [] found = absurd cc
found_queued test e (x ∷ xs) found =
    elim (cases_Bool (test x)) [
      | inl here ↦
          let it : Some x ≡ Some e = sym (rw here refl) ∙ found in
          let same : x ≡ e = cc in
          let own : (x.seq == e.seq) ≡ true = subst (λ y. (x.seq == y.seq) ≡ true) same (grind (arith, nat_tests)) in
          or_left (x.seq == e.seq) (list_any (λ t. t == e.seq) (map (λ x. x.seq) xs)) own
      | inr later ↦
          or_right (x.seq == e.seq) (list_any (λ t. t == e.seq) (map (λ x. x.seq) xs))
          (found_queued test e xs (sym (rw later refl) ∙ found))
    ]

not_younger : (m n : ℕ) (b : Bool) → (b ≡ true → n ≤ m) → not (nat_lt m n && b) ≡ true
not_younger m n true above = let over : n ≤ m = above refl in grind (arith, nat_tests)
not_younger m n false above = grind (arith, nat_tests)

none_older : (p : Picture) (kind : UnitKind) (n : ℕ) (xs : List Entry) → AllByRecursion (IsEntry p) xs
    → AllByRecursion (λ x. can_issue kind x ≡ true → n ≤ x.seq) xs
    → list_all (λ t. not (nat_lt t n && suits p kind t)) (map (λ x. x.seq) xs) ≡ true
none_older p kind n [] all older = refl
none_older p kind n (x ∷ xs) all older =
    let front = not_younger x.seq n (suits p kind x.seq) (λ fits. older.0 (sym (suits_known p kind x all.0) ∙ fits)) in
    rw front (none_older p kind n xs all.1 older.1)

idle_known : (p : Picture) (k : ℕ) (job : Option OpenJob) → job ≡ None → HasOpenJob p k job → p.job k ≡ None
idle_known p k None none is = is
idle_known p k (Some job) none is = absurd cc

pub can_issue_it : (p : Picture) (x : Parts) (k : ℕ) (kind : UnitKind) (e : Entry) → PartsAgree p x → k < most_actors
    → slice_index_or x.jobs k None ≡ None
    → IsOldestReady kind x.queue.entries e → first_ready kind x.queue.entries ≡ Some e
    → IsEntry p e × CanIssue p k kind e.seq
can_issue_it p x k kind e agrees actor idle oldest found =
    let xs = x.queue.entries in
    let is = found_in (IsEntry p) (can_issue kind) e xs agrees.queue.entries found in (
      is,
      record {
        idle = idle_known p k (slice_index_or x.jobs k None) idle (agrees.jobs k None actor);
        waits = is.waits;
        queued = subst (λ ns. list_any (λ t. t == e.seq) ns ≡ true) agrees.queue.numbers
            (found_queued (can_issue kind) e xs found);
        fits = suits_known p kind e is ∙ oldest.ready;
        oldest = subst (λ ns. list_all (λ t. not (nat_lt t e.seq && suits p kind t)) ns ≡ true) agrees.queue.numbers
            (none_older p kind e.seq xs agrees.queue.entries oldest.oldest);
      },
    )

-- ---- None

none_suits : (p : Picture) (kind : UnitKind) (n : ℕ) (xs : List Entry) → AllByRecursion (IsEntry p) xs
    → first_ready kind xs ≡ None
    → list_any (λ t. t == n) (map (λ x. x.seq) xs) ≡ true → suits p kind n ≡ true → ⊥
none_suits p kind n [] all none queued fits = absurd (grind arith)
none_suits p kind n (x ∷ xs) all none queued fits =
    elim (cases_Bool (can_issue kind x)) [
      | inl here ↦ let it : Some x ≡ None = sym (rw here refl) ∙ none in absurd cc
      | inr later ↦
          let behind : first_ready kind xs ≡ None = sym (rw later refl) ∙ none in
          elim (cases_eq x.seq n) [
            | inl same ↦
                let fit : suits p kind x.seq ≡ true = subst (λ s. suits p kind s ≡ true) (sym same) fits in
                let both : false ≡ true = sym later ∙ (sym (suits_known p kind x all.0) ∙ fit) in
                absurd cc
            | inr other ↦
                let test : (x.seq == n) ≡ false = grind (arith, nat_tests) in
                none_suits p kind n xs all.1 behind
                (subst (λ b. (b || list_any (λ t. t == n) (map (λ x. x.seq) xs)) ≡ true) test queued) fits
          ]
    ]

pub cannot_issue : (p : Picture) (x : Parts) (k : ℕ) (kind : UnitKind) (n : ℕ) → PartsAgree p x
    → first_ready kind x.queue.entries ≡ None
    → CanIssue p k kind n → ⊥
cannot_issue p x k kind n agrees none can =
    none_suits p kind n x.queue.entries agrees.queue.entries none
    (subst (λ ns. list_any (λ t. t == n) ns ≡ true) (sym agrees.queue.numbers) can.queued) can.fits

-- ---- The answer of the code, whatever it is

pub found_ready : (kind : UnitKind) (xs : List Entry) (r : Option Entry) → r ≡ first_ready kind xs
    → IfSome r (λ e. has_values e ≡ true)
found_ready kind xs None is = tt
found_ready kind xs (Some e) is =
    (and_parts (same_unit kind (op_unit e.op)) (has_values e) (found_passes (can_issue kind) e xs (sym is))).1

pub found_can : (x : Parts) (k : ℕ) (kind : UnitKind) (r : Option Entry) → k < most_actors
    → slice_index_or x.jobs k None ≡ None
    → IfSome r (IsOldestReady kind x.queue.entries)
    → r ≡ first_ready kind x.queue.entries
    → IfSome r (λ e. (p : Picture) → PartsAgree p x → IsEntry p e × CanIssue p k kind e.seq)
found_can x k kind None actor idle oldest is = tt
found_can x k kind (Some e) actor idle oldest is =
    λ p agrees. can_issue_it p x k kind e agrees actor idle oldest (sym is)

pub none_can : (x : Parts) (k : ℕ) (kind : UnitKind) (r : Option Entry) → r ≡ first_ready kind x.queue.entries
    → IfNone r ((p : Picture) → PartsAgree p x → (n : ℕ) → CanIssue p k kind n → ⊥)
none_can x k kind None is = λ p agrees n can. cannot_issue p x k kind n agrees (sym is) can
none_can x k kind (Some e) is = tt

pub no_job : (job : Option OpenJob) → is_some job ≡ false → job ≡ None
no_job None none = refl
no_job (Some job) none = absurd (grind arith)
