-- Where a hart's ways lead, and which of them come of what is left.
use Rattle.std.specs.Prelude.{◌≡◌, ◌⊎◌, ℕ, ◌+◌, Bool, true, false, cond, List, [], ◌∷◌, ◌++◌, length, All, Contains, Option, Some, None, count_by, slice_get, Result, Ok, Err, OnOk}
use Rattle.std.proofs.Common.{sym, subst, refl, ap, inl, inr, arith, ◌∙◌, append_assoc}
use Rattle.std.proofs.lemmas.List.Elements.{All-contains, All-cons, All-nil, All-push, All-weaker, Contains-push, Contains-push_cases, Contains-append_left, Contains-append_right}
use Rattle.std.proofs.lemmas.Option.{same_Some}
use Rattle.std.proofs.lemmas.List.Sums.{sum_by-cons, sum_by-append}
use Rattle.litmus_tests.specs.declared.test.Thread.{Thread}
use Rattle.litmus_tests.specs.declared.step.LitmusStep.{LitmusStep}
use Rattle.litmus_runs.specs.declared.{access.Access.Access, hart.Hart.Hart, finding.Found.Found, known.Held.Held}
use Rattle.litmus_runs.specs.declared.{runs.Run.Run, following.Going.Going, following.Ways.Ways, turns.Standing.Standing}
use Rattle.litmus_runs.specs.Steps.{HasTaken, those_made}
use Rattle.litmus_runs.specs.Turns.{IsNeedless, IsOneAlike, IsStandingOf, is_change}
use Rattle.litmus_runs.specs.AllWays.{GoesOn, LeadsTo, here, by_step, IsListed, IsPlainAt}
use Rattle.litmus_runs.specs.Ways.{MayFind}
use Rattle.litmus_runs.specs.Work.{IsSame, IsOfOne, HasDone, StandsFor, Comes, IsGoneBy, IsAllButLast, HasLeft, HasGoneBeyond}
use Rattle.litmus_runs.proofs.Alike.{taken_alike, one_more_at_most}

-- The first step of a way.
pub record FirstStep (conditionals : Bool) (thread : Thread) (known : List Held) (trail : List Hart) (hart last : Hart) : Type 0 where
  pub step : LitmusStep
  pub found : Found
  pub after : Hart
  pub goes : GoesOn conditionals thread known trail step found hart after
  pub leads : LeadsTo conditionals thread known (hart ∷ trail) after last

-- A way has ended where it stands, or makes a step.
pub ends_or_goes_on : (conditionals : Bool) (thread : Thread) (known : List Held) (trail : List Hart) (hart last : Hart)
    → LeadsTo conditionals thread known trail hart last
    → (hart ≡ last) ⊎ FirstStep conditionals thread known trail hart last
ends_or_goes_on conditionals thread known trail hart last (here trail' hart') = inl refl
ends_or_goes_on conditionals thread known trail hart last (by_step trail' hart' after last' step found goes leads) =
    inr (record { step = step; found = found; after = after; goes = goes; leads = leads })

pub standing_same : (conditionals : Bool) (hart other : Hart) (standing : Standing) → IsSame hart other
    → IsStandingOf conditionals other standing → IsStandingOf conditionals hart standing
standing_same conditionals hart other standing same of = record {
  registers = λ r below. rw (sym same.registers) (of.registers r below);
  next = of.next ∙ same.next;
  reserved = of.reserved ∙ same.reserved;
  reserving = of.reserving ∙ same.reserving;
  changes = rw (sym same.accesses) of.changes;
}

pub first_of : {A : Type 0} (x : A) (xs : List A) → Contains (x ∷ xs) x
first_of x xs = Contains-append_left ([] ++ x ∷ []) xs x (Contains-push [] x)

pub further_of : {A : Type 0} (x y : A) (xs : List A) → Contains xs y → Contains (x ∷ xs) y
further_of x y xs there = Contains-append_right ([] ++ x ∷ []) xs y there

-- The place behind a step is stood for by what is pushed for it.
pub stands_on : (conditionals : Bool) (thread : Thread) (known : List Held) (trail : List Hart) (hart after : Hart)
    (from one : Going) (standing : Standing) (step : LitmusStep) (found : Found)
    → StandsFor conditionals trail hart from → IsStandingOf conditionals from.hart standing
    → GoesOn conditionals thread known trail step found hart after → HasTaken step found from.hart one.hart
    → length one.hart.registers ≡ 32 → one.before.items ≡ from.before.items ++ standing ∷ []
    → StandsFor conditionals (hart ∷ trail) after one
stands_on conditionals thread known trail hart after from one standing step found stands of goes taken long is =
    let made = one_more_at_most step found hart after goes.taken in
    record {
      same = taken_alike step found hart from.hart after one.hart stands.same goes.size long goes.taken taken;
      kept = subst (λ (xs : List Standing). All (IsOfOne conditionals (hart ∷ trail)) xs) (sym is)
          (All-push (IsOfOne conditionals (hart ∷ trail)) from.before.items standing
          (All-weaker (IsOfOne conditionals trail) (IsOfOne conditionals (hart ∷ trail))
          (λ it k. record { earlier = k.earlier; passed = further_of hart k.earlier trail k.passed; standing = k.standing })
          from.before.items stands.kept)
          (record {
            earlier = hart;
            passed = first_of hart trail;
            standing = standing_same conditionals hart from.hart standing stands.same of;
          }));
      done = All-cons (HasDone after) hart trail (record { between = those_made made.0; is = made.1 })
          (All-weaker (HasDone hart) (HasDone after)
          (λ earlier d. record {
            between = d.between ++ those_made made.0;
            is = made.1 ∙ ap (λ (xs : List Access). xs ++ those_made made.0) d.is
                ∙ append_assoc earlier.accesses.items d.between (those_made made.0);
          })
          trail stands.done);
    }

-- So what its ways lead to comes of what is left then.
pub gone_by : (conditionals : Bool) (thread : Thread) (known : List Held) (from one : Going) (going : List Going)
    (standing : Standing) (step : LitmusStep) (found : Found) → IsStandingOf conditionals from.hart standing
    → HasTaken step found from.hart one.hart → length one.hart.registers ≡ 32
    → one.before.items ≡ from.before.items ++ standing ∷ []
    → IsGoneBy conditionals thread known from step found (going ++ one ∷ [])
gone_by conditionals thread known from one going standing step found of taken long is trail hart after last stands goes leads = record {
  one = one;
  left = Contains-push going one;
  trail = hart ∷ trail;
  hart = after;
  stands = stands_on conditionals thread known trail hart after from one standing step found stands of goes taken long is;
  leads = leads;
}

pub comes_more : (conditionals : Bool) (thread : Thread) (known : List Held) (before after : List Going) (last : Hart)
    → ((one : Going) → Contains before one → Contains after one) → Comes conditionals thread known before last
    → Comes conditionals thread known after last
comes_more conditionals thread known before after last kept comes = record {
  one = comes.one;
  left = kept comes.one comes.left;
  trail = comes.trail;
  hart = comes.hart;
  stands = comes.stands;
  leads = comes.leads;
}

none_passes : (b : Bool) → ◌≡◌ {A = ℕ} (cond b 1 0) 0 → b ≡ false
none_passes true is = absurd (grind (arith, is))
none_passes false is = refl

-- Where none is counted, none passes.
pub none_counted : {A : Type 0} (p : A → Bool) (xs : List A) → count_by p xs ≡ 0 → All (λ x. p x ≡ false) xs
none_counted p [] none = All-nil (λ x. p x ≡ false)
none_counted p (x ∷ xs) none =
    let parts : cond (p x) 1 0 + count_by p xs ≡ 0 = sym (sum_by-cons (λ y. cond (p y) 1 0) x xs) ∙ none in
    let rest : count_by p xs ≡ 0 = omega (arith, parts) in
    let first : cond (p x) 1 0 ≡ 0 = omega (arith, parts) in
    All-cons (λ y. p y ≡ false) x xs (none_passes (p x) first) (none_counted p xs rest)

-- A hart that stands as it stood, by what is kept, is back at that place.
pub is_back : (conditionals : Bool) (trail : List Hart) (hart : Hart) (from : Going) (standing : Standing)
    (step : LitmusStep) → StandsFor conditionals trail hart from → IsStandingOf conditionals from.hart standing
    → IsOneAlike step from.before.items standing → IsNeedless conditionals trail step hart
is_back conditionals trail hart from standing step stands of alike =
    let now = standing_same conditionals hart from.hart standing stands.same of in
    let kept = All-contains (IsOfOne conditionals trail) from.before.items alike.other stands.kept alike.kept in
    let then = kept.standing in
    let done = All-contains (HasDone hart) trail kept.earlier stands.done kept.passed in
    let p = is_change conditionals in
    let same : count_by p kept.earlier.accesses.items ≡ count_by p hart.accesses.items =
    sym then.changes ∙ alike.alike.changes ∙ now.changes in
    let more : count_by p hart.accesses.items
    ≡ count_by p kept.earlier.accesses.items + count_by p done.between =
    ap (λ (xs : List Access). count_by p xs) done.is
    ∙ sum_by-append (λ y. cond (p y) 1 0) kept.earlier.accesses.items done.between in
    record {
      earlier = kept.earlier;
      passed = kept.passed;
      back = record {
        next = sym then.next ∙ alike.alike.next ∙ now.next;
        registers = λ r below. elim (alike.alike.registers r below) [
          | inl anew ↦ inl anew
          | inr equal ↦ inr (sym (then.registers r below) ∙ equal ∙ now.registers r below)
        ];
        reserved = elim (alike.alike.reserved) [
          | inl anew ↦ inl anew
          | inr equal ↦ inr (rw (sym then.reserved, sym then.reserving, sym now.reserved, sym now.reserving) equal)
        ];
        unchanged = record {
          between = done.between;
          is = done.is;
          none = none_counted p done.between (omega (arith, same, more));
        };
      };
    }

pub none_in : {A : Type 0} (x : A) → Contains [] x → ⊥
none_in x there = let below = there.1 in absurd (omega (arith, below))

no_such : {b : Bool} → b ≡ false → b ≡ true → ⊥
no_such is other = let e : true ≡ false = sym other ∙ is in absurd (grind (arith, e))

pub no_item : {A : Type 0} (xs : List A) → length xs ≡ 0 → xs ≡ []
no_item [] none = refl
no_item (x ∷ xs) none = absurd (omega (arith, none))

-- What follows from two clauses of one answer.
pub all_of : {T E P Q R : Type 0} (r : Result T E) → (P → Q → R) → OnOk r P → OnOk r Q → OnOk r R
all_of (Ok x) both p q = both p q
all_of (Err e) both p q = tt

-- What is left grows by one that has made one access more at most.
pub left_more : (hart : Hart) (going : List Going) (one : Going) (step : LitmusStep) (found : Found)
    → HasTaken step found hart one.hart → HasLeft hart going (going ++ one ∷ [])
left_more hart going one step found taken =
    let made = one_more_at_most step found hart one.hart taken in
    record {
      kept = λ it there. Contains-append_left going (one ∷ []) it there;
      more = λ table learnt all. All-push (λ (it : Going). IsAllButLast table it.hart.accesses.items) going one all
          (record { before = hart.accesses.items; made = made.0; is = made.1; learnt = learnt });
    }

pub left_as_before : (hart : Hart) (going : List Going) → HasLeft hart going going
left_as_before hart going = record { kept = λ it there. there; more = λ table learnt all. all }

-- What is listed last is listed.
pub listed_last : (runs : List Run) (run : Run) (hart : Hart) → run.accesses.items ≡ hart.accesses.items
    → run.registers ≡ hart.registers → IsListed (runs ++ run ∷ []) hart
listed_last runs run hart accesses registers = record {
  run = run;
  listed = Contains-push runs run;
  accesses = accesses;
  registers = λ r below. rw registers refl;
}

pub left_further : (hart : Hart) (before going after : List Going) → HasLeft hart before going
    → HasLeft hart going after → HasLeft hart before after
left_further hart before going after first then = record {
  kept = λ it there. then.kept it (first.kept it there);
  more = λ table learnt all. then.more table learnt (first.more table learnt all);
}

pub gone_more : (conditionals : Bool) (thread : Thread) (known : List Held) (from : Going) (step : LitmusStep)
    (found : Found) (before after : List Going) → ((one : Going) → Contains before one → Contains after one)
    → IsGoneBy conditionals thread known from step found before
    → IsGoneBy conditionals thread known from step found after
gone_more conditionals thread known from step found before after kept gone trail hart behind last stands goes leads =
    comes_more conditionals thread known before after last kept (gone trail hart behind last stands goes leads)

-- One find less is left: it was gone by.
pub one_find_less : (conditionals : Bool) (thread : Thread) (known : List Held) (from : Going) (step : LitmusStep)
    (all old rest : List Found) (taken : Found) (before after : List Going) → old ≡ rest ++ taken ∷ []
    → ((one : Going) → Contains before one → Contains after one)
    → IsGoneBy conditionals thread known from step taken after
    → ((found : Found) → Contains all found
    → Contains old found ⊎ IsGoneBy conditionals thread known from step found before)
    → (found : Found) → Contains all found
    → Contains rest found ⊎ IsGoneBy conditionals thread known from step found after
one_find_less conditionals thread known from step all old rest taken before after is kept gone each found there =
    elim (each found there) [
      | inl left ↦
          elim (Contains-push_cases rest taken found (subst (λ (xs : List Found). Contains xs found) is left)) [
            | inl still ↦ inl still
            | inr this ↦ inr (subst (λ (one : Found). IsGoneBy conditionals thread known from step one after) this gone)
          ]
      | inr before' ↦ inr (gone_more conditionals thread known from step found before after kept before')
    ]

pub no_find_left : (conditionals : Bool) (thread : Thread) (known : List Held) (from : Going) (step : LitmusStep)
    (all old : List Found) (going : List Going) → old ≡ []
    → ((found : Found) → Contains all found
    → Contains old found ⊎ IsGoneBy conditionals thread known from step found going)
    → (found : Found) → Contains all found → IsGoneBy conditionals thread known from step found going
no_find_left conditionals thread known from step all old going none each found there = elim (each found there) [
  | inl left ↦ absurd (none_in found (subst (λ (xs : List Found). Contains xs found) none left))
  | inr gone ↦ gone
]

pub listed_same : (runs : List Run) (hart other : Hart) → IsSame hart other → IsListed runs other → IsListed runs hart
listed_same runs hart other same it = record {
  run = it.run;
  listed = it.listed;
  accesses = it.accesses ∙ same.accesses;
  registers = λ r below. it.registers r below ∙ rw same.registers refl;
}

not_both : {A : Type 0} (x y : Option A) (a : A) → x ≡ y → x ≡ Some a → y ≡ None → ⊥
not_both x y a same some none = let e : Some a ≡ None = sym some ∙ same ∙ none in absurd (grind (arith, e))

-- The step at which a hart stands that is stood for.
step_of : (conditionals : Bool) (thread : Thread) (trail : List Hart) (hart : Hart) (from : Going)
    → StandsFor conditionals trail hart from
    → slice_get thread.steps.items from.hart.next ≡ slice_get thread.steps.items hart.next
step_of conditionals thread trail hart from stands =
    ap (λ (i : ℕ). slice_get thread.steps.items i) stands.same.next

-- A hart that has come to its end is listed.
pub beyond_end : (conditionals : Bool) (thread : Thread) (known : List Held) (from : Going) (going : List Going)
    (ways : Ways) → slice_get thread.steps.items from.hart.next ≡ None
    → (ways.is_whole ≡ true → IsListed ways.runs.items from.hart)
    → HasGoneBeyond conditionals thread known from going going ways
beyond_end conditionals thread known from going ways end listed = record {
  left = left_as_before from.hart going;
  ended = λ whole trail hart last stands leads over.
      elim (ends_or_goes_on conditionals thread known trail hart last leads) [
        | inl same ↦ inl (subst (λ (it : Hart). IsListed ways.runs.items it) same
            (listed_same ways.runs.items hart from.hart stands.same (listed whole)))
        | inr first ↦ absurd (not_both _ _ first.step (sym (step_of conditionals thread trail hart from stands))
            first.goes.there end)
      ];
  passed = λ whole trail hart last stands leads.
      elim (ends_or_goes_on conditionals thread known trail hart last leads) [
        | inl same ↦ inl same
        | inr first ↦ absurd (not_both _ _ first.step (sym (step_of conditionals thread trail hart from stands))
            first.goes.there end)
      ];
}

-- Where a way was cut nothing is claimed.
pub beyond_cut : (conditionals : Bool) (thread : Thread) (known : List Held) (from : Going) (before after : List Going)
    (ways : Ways) → HasLeft from.hart before after → ways.is_whole ≡ false
    → HasGoneBeyond conditionals thread known from before after ways
beyond_cut conditionals thread known from before after ways left cut = record {
  left = left;
  ended = λ whole. absurd (no_such cut whole);
  passed = λ whole. absurd (no_such cut whole);
}

same_step : (conditionals : Bool) (thread : Thread) (known : List Held) (trail : List Hart) (hart last : Hart)
    (from : Going) (step : LitmusStep) (first : FirstStep conditionals thread known trail hart last)
    → StandsFor conditionals trail hart from → slice_get thread.steps.items from.hart.next ≡ Some step
    → first.step ≡ step
same_step conditionals thread known trail hart last from step first stands there = same_Some first.step step
    (sym first.goes.there ∙ sym (step_of conditionals thread trail hart from stands) ∙ there)

-- Of a hart that goes on, by what is listed that it may find.
pub beyond_step : (conditionals : Bool) (thread : Thread) (known : List Held) (from : Going) (step : LitmusStep)
    (before after : List Going) (ways : Ways)
    → slice_get thread.steps.items from.hart.next ≡ Some step → HasLeft from.hart before after
    → (ways.is_whole ≡ true → (trail : List Hart) (hart last : Hart) → StandsFor conditionals trail hart from
    → (first : FirstStep conditionals thread known trail hart last) → first.step ≡ step
    → Comes conditionals thread known after last)
    → HasGoneBeyond conditionals thread known from before after ways
beyond_step conditionals thread known from step before after ways there left gone = record {
  left = left;
  ended = λ whole trail hart last stands leads over.
      elim (ends_or_goes_on conditionals thread known trail hart last leads) [
        | inl same ↦ absurd (not_both _ _ step (step_of conditionals thread trail hart from stands
            ∙ ap (λ (it : Hart). slice_get thread.steps.items it.next) same) there over)
        | inr first ↦ inr (gone whole trail hart last stands first (same_step conditionals thread known trail hart last from step first stands there))
      ];
  passed = λ whole trail hart last stands leads.
      elim (ends_or_goes_on conditionals thread known trail hart last leads) [
        | inl same ↦ inl same
        | inr first ↦ inr (gone whole trail hart last stands first (same_step conditionals thread known trail hart last from step first stands there))
      ];
}

-- A hart that has made a needless turn goes on by no way.
pub beyond_turn : (conditionals : Bool) (thread : Thread) (known : List Held) (from : Going) (step : LitmusStep)
    (standing : Standing) (going : List Going) (ways : Ways)
    → slice_get thread.steps.items from.hart.next ≡ Some step → IsStandingOf conditionals from.hart standing
    → IsOneAlike step from.before.items standing → HasGoneBeyond conditionals thread known from going going ways
beyond_turn conditionals thread known from step standing going ways there of alike =
    beyond_step conditionals thread known from step going going ways there (left_as_before from.hart going)
    (λ whole trail hart last stands first is. absurd (first.goes.needed
    (subst (λ (it : LitmusStep). IsNeedless conditionals trail it hart) (sym is)
    (is_back conditionals trail hart from standing step stands of alike))))

may_of : (known : List Held) (step : LitmusStep) (hart other : Hart) (found : Found) → IsSame hart other
    → MayFind known step hart found → MayFind known step other found
may_of known step hart other found same may = rw (same.registers, same.reserved) may

plain_of : (step : LitmusStep) (hart other : Hart) (found : Found) → IsSame hart other → IsPlainAt step hart found
    → IsPlainAt step other found
plain_of step hart other found same plain = rw (same.registers, same.reserved) plain

-- A hart that goes on by all that it may find.
pub beyond_all : (conditionals : Bool) (thread : Thread) (known : List Held) (from : Going) (step : LitmusStep)
    (all : List Found) (before after : List Going) (ways : Ways)
    → slice_get thread.steps.items from.hart.next ≡ Some step → HasLeft from.hart before after
    → ((one : Found) → MayFind known step from.hart one → IsPlainAt step from.hart one → Contains all one)
    → (ways.is_whole ≡ true → (found : Found) → Contains all found
    → IsGoneBy conditionals thread known from step found after)
    → HasGoneBeyond conditionals thread known from before after ways
beyond_all conditionals thread known from step all before after ways there left listed each =
    beyond_step conditionals thread known from step before after ways there left
    (λ whole trail hart last stands first is.
    let goes = subst (λ (it : LitmusStep). GoesOn conditionals thread known trail it first.found hart first.after) is
    first.goes in
    let found = listed first.found (may_of known step hart from.hart first.found stands.same goes.may)
    (plain_of step hart from.hart first.found stands.same goes.plain) in
    each whole first.found found trail hart first.after last stands goes first.leads)
