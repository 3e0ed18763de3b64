-- How many of the actors' jobs are open: an actor that isn't one never has a job.
use Rattle.std.specs.Prelude.{◌≡◌, ℕ, zero, suc, ◌+◌, ◌<◌, ◌≤◌, ◌==◌, Bool, true, false, List, [], ◌∷◌, ◌++◌, take}
use Rattle.std.specs.Prelude.{count_by, length, Option, Some, None, is_some, slice_index_or, if◌then◌else◌}
use Rattle.std.proofs.Common.{◌∙◌, refl, sym, ap, inl, inr, arith}
use Rattle.std.proofs.{lemmas.Bool.cases_Bool, lemmas.Bool.cases_lt, lemmas.Bool.Decides.nat_tests}
use Rattle.std.proofs.{lemmas.List.take_all, lemmas.List.take_more, lemmas.List.Sums.length-filter}
use Rattle.numbers.specs.Sizes.{most_actors}
use Rattle.events.specs.declared.event.Event.{Event}
use Rattle.events.specs.declared.event.Event.TheVariants.{Fetch, Decode, Rename, Issue, Complete, Drop, Retire, Refetch}
use Rattle.smt_model.specs.{Account.open_job_count, Basics.below, Basics.how_many, Picture.Picture, Picture.picture}
use Rattle.smt_model.specs.{Rules.is_legal, Jobs.job, Setup.Setup}
use Rattle.smt_model.proofs.Allowed.{issue_allowed}
use Rattle.core_parts.specs.{Agree.HasOpenJob}
use Rattle.core_state.specs.{State.IsCore, State.past_of, State.setup_in}
use Rattle.core_parts.specs.{declared.slot.OpenJob.OpenJob}
use Rattle.core_state.specs.{declared.state.State.TheInside.Inside}
use Rattle.core_state.proofs.Steps.NoAnswer.{core_sizes}

-- ---- An actor that isn't one has no job

if_none : (test : Bool) (o : Option ℕ) → o ≡ None → (if test then None else o) ≡ None
if_none true o none = refl
if_none false o none = none

pub job-none : (setup : Setup) (past : List Event) → is_legal setup past → (k : ℕ) → length setup.roles ≤ k
    → job past k ≡ None
job-none setup [] legal k above = refl
job-none setup (Fetch actor hart seq pc word predicted ∷ past) legal k above = job-none setup past legal.1 k above
job-none setup (Decode actor seq ∷ past) legal k above = job-none setup past legal.1 k above
job-none setup (Rename actor seq phys ∷ past) legal k above = job-none setup past legal.1 k above
job-none setup (Issue actor seq ∷ past) legal k above =
    let rule = (issue_allowed setup past actor seq legal.0).actor_is in
    let other : (actor == k) ≡ false = grind (arith, nat_tests) in
    rw other (job-none setup past legal.1 k above)
job-none setup (Complete actor seq outcome ∷ past) legal k above =
    if_none (actor == k) (job past k) (job-none setup past legal.1 k above)
job-none setup (Drop actor seq ∷ past) legal k above =
    if_none (actor == k) (job past k) (job-none setup past legal.1 k above)
job-none setup (Retire actor seq effect ∷ past) legal k above = job-none setup past legal.1 k above
job-none setup (Refetch actor seq ∷ past) legal k above = job-none setup past legal.1 k above

-- ---- Counting below a number

how_many-append : {A : Type 0} (test : A → Bool) (xs ys : List A)
    → how_many test (xs ++ ys) ≡ how_many test xs + how_many test ys
how_many-append test [] ys = omega arith
how_many-append test (x ∷ xs) ys =
    let rest = how_many-append test xs ys in
    elim (cases_Bool (test x)) [ inl here ↦ rw here (omega arith) | inr other ↦ rw other rest ]

one_more : {A : Type 0} (test : A → Bool) (x : A) → how_many test (x ∷ []) ≡ (if test x then 1 else 0)
one_more test x = elim (cases_Bool (test x)) [ inl here ↦ rw here refl | inr other ↦ rw other refl ]

below-more : (test : ℕ → Bool) (n : ℕ)
    → how_many test (below (suc n)) ≡ how_many test (below n) + (if test n then 1 else 0)
below-more test n = how_many-append test (below n) (n ∷ []) ∙ ap (λ m. how_many test (below n) + m) (one_more test n)

none_above : (test : ℕ → Bool) (m n : ℕ) → m ≤ n → ((k : ℕ) → m ≤ k → test k ≡ false)
    → how_many test (below n) ≡ how_many test (below m)
none_above test m zero under none = let same : zero ≡ m = omega arith in ap (λ k. how_many test (below k)) same
none_above test m (suc n) under none =
    elim (cases_lt n m) [
      | inl less ↦ let same : suc n ≡ m = omega arith in ap (λ k. how_many test (below k)) same
      | inr more ↦
          let gone : test n ≡ false = none n more in
          below-more test n
          ∙ (ap (λ b. how_many test (below n) + (if b then 1 else 0)) gone
          ∙ (let rest = none_above test m n more none in omega arith))
    ]

counted_upto : (test : ℕ → Bool) (xs : List (Option OpenJob)) (n : ℕ) → n ≤ length xs
    → ((k : ℕ) → k < n → is_some (slice_index_or xs k None) ≡ test k)
    → how_many test (below n) ≡ how_many is_some (take n xs)
counted_upto test xs zero under same = refl
counted_upto test xs (suc n) under same =
    let rest = counted_upto test xs n (omega arith) (λ k less. same k (omega arith)) in
    let here : is_some (slice_index_or xs n None) ≡ test n = same n (omega arith) in
    let next : take (suc n) xs ≡ take n xs ++ slice_index_or xs n None ∷ [] =
    (let same_place : suc n ≡ n + 1 = omega arith in ap (λ m. take m xs) same_place
    ∙ take_more xs n None (omega arith)) in
    below-more test n
    ∙ (ap (λ m. m + (if test n then 1 else 0)) rest
    ∙ (ap (λ b. how_many is_some (take n xs) + (if b then 1 else 0)) (sym here)
    ∙ (ap (λ m. how_many is_some (take n xs) + m) (sym (one_more is_some (slice_index_or xs n None)))
    ∙ (sym (how_many-append is_some (take n xs) (slice_index_or xs n None ∷ [])) ∙ ap (how_many is_some) (sym next)))))

-- ---- The count of a core

lent_same : (p : Picture) (k : ℕ) (open_job : Option OpenJob) → HasOpenJob p k open_job
    → is_some open_job ≡ is_some (p.job k)
lent_same p k None is = ap is_some (sym is)
lent_same p k (Some open_job) is = ap is_some (sym is.lent)

pub lent_now : (i : Inside) → IsCore i → count_by is_some i.parts.jobs ≡ open_job_count (setup_in i) (past_of i)
lent_now i core =
    let p = picture (setup_in i) (past_of i) in
    let jobs = i.parts.jobs in
    let test : ℕ → Bool = λ k. is_some (job (past_of i) k) in
    let count = core.agrees.actors in
    let sizes = core_sizes i core in
    let actors = sizes.actors in
    let all : how_many test (below most_actors) ≡ how_many is_some (take most_actors jobs) =
    counted_upto test jobs most_actors (omega arith)
    (λ k under. lent_same p k (slice_index_or jobs k None) (core.agrees.jobs k None under)) in
    let whole : take most_actors jobs ≡ jobs = take_all most_actors jobs (omega arith) in
    let fewer : how_many test (below most_actors) ≡ how_many test (below (length i.config.roles.items)) =
    none_above test (length i.config.roles.items) most_actors actors
    (λ k above. ap is_some (job-none (setup_in i) (past_of i) core.legal k above)) in
    sym (length-filter is_some jobs) ∙ (ap (how_many is_some) (sym whole) ∙ (sym all ∙ fewer))
