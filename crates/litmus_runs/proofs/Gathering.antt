-- What is gathered in a round.
use Rattle.std.specs.Prelude.{◌≡◌, Bool, true, false, ◌&&◌, List, [], ◌∷◌, All, Contains}
use Rattle.std.specs.List.{AllZip, list_all}
use Rattle.std.proofs.Common.{subst, refl, arith}
use Rattle.std.proofs.lemmas.List.Elements.{All-contains, All-weaker, All-nil, All-cons, All-head, All-tail}
use Rattle.litmus_tests.specs.declared.{test.LitmusTest.LitmusTest, test.Thread.Thread}
use Rattle.litmus_runs.specs.declared.{known.Held.Held, known.Known.Known, runs.HartRuns.HartRuns}
use Rattle.litmus_runs.specs.Turns.{has_conditionals}
use Rattle.litmus_runs.specs.AllWays.{AreAllListed, AreAllLearnt, Grows, HasInitial}
use Rattle.litmus_runs.specs.Rounds.{IsNext, IsTold, are_whole, AreListedBy, AreRounds, AreAll, AreAllClosed, HasRounds}
use Rattle.litmus_runs.proofs.Stack.{learnt_more}

-- What holds of pairs and of the second of each gives what holds of the first, or of both.
pub zip_first : {A B : Type 0} (R : A → B → Type 0) (Q : B → Type 0) (P : A → Type 0)
    → ((x : A) (y : B) → R x y → Q y → P x) → (xs : List A) (ys : List B) → AllZip R xs ys → All Q ys → All P xs
zip_first R Q P from [] [] zips all = All-nil P
zip_first R Q P from [] (y ∷ ys) zips all = absurd zips
zip_first R Q P from (x ∷ xs) [] zips all = absurd zips
zip_first R Q P from (x ∷ xs) (y ∷ ys) zips all = All-cons P x xs (from x y zips.0 (All-head Q y ys all))
    (zip_first R Q P from xs ys zips.1 (All-tail Q y ys all))

pub zip_both : {A B : Type 0} (R : A → B → Type 0) (Q : B → Type 0) (S : A → B → Type 0)
    → ((x : A) (y : B) → R x y → Q y → S x y) → (xs : List A) (ys : List B) → AllZip R xs ys → All Q ys
    → AllZip S xs ys
zip_both R Q S from [] [] zips all = tt
zip_both R Q S from [] (y ∷ ys) zips all = absurd zips
zip_both R Q S from (x ∷ xs) [] zips all = absurd zips
zip_both R Q S from (x ∷ xs) (y ∷ ys) zips all = (
  from x y zips.0 (All-head Q y ys all),
  zip_both R Q S from xs ys zips.1 (All-tail Q y ys all),
)

pub zip_weaker : {A B : Type 0} (R S : A → B → Type 0) → ((x : A) (y : B) → R x y → S x y)
    → (xs : List A) (ys : List B) → AllZip R xs ys → AllZip S xs ys
zip_weaker R S from [] [] zips = tt
zip_weaker R S from [] (y ∷ ys) zips = absurd zips
zip_weaker R S from (x ∷ xs) [] zips = absurd zips
zip_weaker R S from (x ∷ xs) (y ∷ ys) zips = (from x y zips.0, zip_weaker R S from xs ys zips.1)

-- What was told of a hart stays true as the table grows.
pub told_more : (test : LitmusTest) (known : List Held) (before after : Known) (threads : List Thread)
    (harts : List HartRuns) → Grows before after → AllZip (IsTold test known before) threads harts
    → AllZip (IsTold test known after) threads harts
told_more test known before after threads harts grows told =
    zip_weaker (IsTold test known before) (IsTold test known after)
    (λ thread hart it. record {
      listed = it.listed;
      learnt = λ whole knows last followed. learnt_more before after last.accesses.items grows
          (it.learnt whole (grows.whole knows) last followed);
    }) threads harts told

both_true : (a b : Bool) → a && b ≡ true → (a ≡ true) × (b ≡ true)
both_true true b both = (refl, both)
both_true false b both = absurd (grind (arith, both))

all_pass : {A : Type 0} (p : A → Bool) (xs : List A) → list_all p xs ≡ true → All (λ x. p x ≡ true) xs
all_pass p [] pass = All-nil (λ x. p x ≡ true)
all_pass p (x ∷ xs) pass =
    let parts = both_true (p x) (list_all p xs) pass in
    All-cons (λ y. p y ≡ true) x xs parts.0 (all_pass p xs parts.1)

whole_parts : (known : Known) (harts : List HartRuns) → are_whole known harts ≡ true
    → (known.is_whole ≡ true) × All (λ hart. hart.is_whole ≡ true) harts
whole_parts known harts whole =
    let parts = both_true known.is_whole (list_all (λ (hart : HartRuns). hart.is_whole) harts) whole in
    (parts.0, all_pass (λ (hart : HartRuns). hart.is_whole) harts parts.1)

-- Where nothing was left out the next round's table has what is written.
pub next_table : (test : LitmusTest) (known : Known) (table : Known) (harts : List HartRuns) → Grows known table
    → AllZip (IsTold test known.held.items table) test.threads.items harts → are_whole table harts ≡ true
    → IsNext test known.held.items table.held.items
next_table test known table harts grows told whole = record {
  kept = grows.kept;
  written = zip_first (IsTold test known.held.items table) (λ hart. hart.is_whole ≡ true)
      (λ thread. AreAllLearnt (has_conditionals test) thread known.held.items table.held.items)
      (λ thread hart it h. it.learnt h (whole_parts table harts whole).0) test.threads.items harts told (whole_parts table harts whole).1;
}

pub listed_by : (test : LitmusTest) (known : List Held) (table : Known) (harts : List HartRuns)
    → AllZip (IsTold test known table) test.threads.items harts → are_whole table harts ≡ true
    → AreListedBy test known harts
listed_by test known table harts told whole = zip_both (IsTold test known table) (λ hart. hart.is_whole ≡ true)
    (λ thread hart. AreAllListed (has_conditionals test) thread known hart.runs.items)
    (λ thread hart it h. it.listed h) test.threads.items harts told (whole_parts table harts whole).1

-- So there are rounds up to the next one, and what is listed are all ways by a round's numbers.
pub next_rounds : (test : LitmusTest) (known table new : Known) (harts : List HartRuns) → Grows known table
    → AllZip (IsTold test known.held.items table) test.threads.items harts → are_whole table harts ≡ true
    → new.held ≡ table.held → (known.is_whole ≡ true → HasRounds test known) → HasRounds test new
next_rounds test known table new harts grows told whole same before =
    let old = before (grows.whole (whole_parts table harts whole).0) in
    record {
      earlier = known.held.items ∷ old.earlier;
      rounds = rw same (next_table test known table harts grows told whole, old.rounds);
    }

pub all_by_rounds : (test : LitmusTest) (known table : Known) (harts : List HartRuns) → Grows known table
    → AllZip (IsTold test known.held.items table) test.threads.items harts → are_whole table harts ≡ true
    → (known.is_whole ≡ true → HasRounds test known) → AreAll test harts
all_by_rounds test known table harts grows told whole before =
    let old = before (grows.whole (whole_parts table harts whole).0) in
    record {
      known = known.held.items;
      earlier = old.earlier;
      rounds = old.rounds;
      listed = listed_by test known.held.items table harts told whole;
    }

-- The first numbers stay known.
initial_kept : (test : LitmusTest) (known : List Held) (earlier : List (List Held)) → AreRounds test known earlier
    → HasInitial test known
initial_kept test known [] rounds = rounds
initial_kept test known (before ∷ earlier) rounds = λ location number there.
    rounds.0.kept (record { location = location; number = number })
    (initial_kept test before earlier rounds.1 location number there)

-- Where nothing new was written the table is closed.
pub closed_by : (test : LitmusTest) (known table : Known) (harts : List HartRuns) → Grows known table
    → AllZip (IsTold test known.held.items table) test.threads.items harts → are_whole table harts ≡ true
    → All (Contains known.held.items) table.held.items → (known.is_whole ≡ true → HasRounds test known)
    → AreAllClosed test harts
closed_by test known table harts grows told whole nothing before =
    let old = before (grows.whole (whole_parts table harts whole).0) in
    let next = next_table test known table harts grows told whole in
    record {
      known = known.held.items;
      initial = initial_kept test known.held.items old.earlier old.rounds;
      closed = record {
        kept = λ held there. there;
        written = All-weaker
            (λ thread. AreAllLearnt (has_conditionals test) thread known.held.items table.held.items)
            (λ thread. AreAllLearnt (has_conditionals test) thread known.held.items known.held.items)
            (λ thread learnt last followed access number there writes.
            All-contains (Contains known.held.items) table.held.items
            (record { location = access.location; number = number }) nothing
            (learnt last followed access number there writes)) test.threads.items next.written;
      };
      listed = listed_by test known.held.items table harts told whole;
    }

pub all_known : (xs ys known table : List Held) → xs ≡ known → ys ≡ table → All (Contains xs) ys
    → All (Contains known) table
all_known xs ys known table same same' all = subst (λ (zs : List Held). All (Contains known) zs) same'
    (subst (λ (zs : List Held). All (Contains zs) ys) same all)
