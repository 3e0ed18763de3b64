-- How many events of a history an actor has made, event by event; and how many are by it and those of greater numbers.
use Rattle.std.proofs.Common.{◌≡◌, ℕ, ◌+◌, ◌<◌, ◌≤◌, ◌==◌, Bool, true, false, List, [], ◌∷◌, length, take, get_or}
use Rattle.std.proofs.Common.{reverse, None, refl, ap, ◌∙◌, arith}
use Rattle.std.specs.Prelude.{nat_le}
use Rattle.std.proofs.{lemmas.Bool.Decides.nat_tests, lemmas.List.take_more, lemmas.List.reverse-append}
use Rattle.numbers.specs.Sizes.{most_actors}
use Rattle.events.specs.{declared.event.Event.Event, Event.actor_of}
use Rattle.events.specs.declared.event.Event.TheVariants.{Fetch, Decode, Rename, Issue, Complete, Drop, Retire, Refetch}
use Rattle.smt_model.specs.{Account.event_count, Basics.how_many, Setup.Setup, Rules.is_legal, Rules.refused}
use Rattle.smt_model.specs.{Jobs.is_actor}
use Rattle.smt_model.proofs.Allowed.{allowed}
use Rattle.smt_core.specs.Counts.{made_from}

-- The newest event of those so far.
pub newest : {X : Type 0} (xs : List X) (i : ℕ) (d : X) → i < length xs
    → reverse (take (i + 1) xs) ≡ get_or xs i d ∷ reverse (take i xs)
newest xs i d inside = ap reverse (take_more xs i d inside) ∙ reverse-append (take i xs) (get_or xs i d ∷ [])

-- What one member adds to a count.
abbrev pub one : Bool → ℕ
one true = 1
one false = 0

pub count_cons : {X : Type 0} (test : X → Bool) (x : X) (xs : List X)
    → how_many test (x ∷ xs) ≡ one (test x) + how_many test xs
count_cons test x xs = grind arith

-- No actor has made more events than there are.
one_at_most : (b : Bool) → one b ≤ 1
one_at_most true = omega arith
one_at_most false = omega arith

pub made_within : (k : ℕ) (past : List Event) → event_count k past ≤ length past
made_within k [] = omega arith
made_within k (e ∷ past) =
    let here = count_cons (λ x. actor_of x == k) e past in
    let rest = made_within k past in
    let small = one_at_most (actor_of e == k) in
    omega (arith, here, rest, small)

-- Of those by an actor or a greater one, some are the actor's own and the others by greater ones.
shared : (k n : ℕ) → one (nat_le k n) ≡ one (n == k) + one (nat_le (k + 1) n)
shared k n = grind (arith, nat_tests)

pub own_and_greater : (k : ℕ) (past : List Event) → made_from k past ≡ event_count k past + made_from (k + 1) past
own_and_greater k [] = refl
own_and_greater k (e ∷ past) =
    let here = count_cons (λ x. nat_le k (actor_of x)) e past in
    let own = count_cons (λ x. actor_of x == k) e past in
    let greater = count_cons (λ x. nat_le (k + 1) (actor_of x)) e past in
    let one_here = shared k (actor_of e) in
    let so_far = own_and_greater k past in
    omega (arith, here, own, greater, one_here, so_far)

pub all_from_0 : (past : List Event) → made_from 0 past ≡ length past
all_from_0 [] = refl
all_from_0 (e ∷ past) =
    let here = count_cons (λ x. nat_le 0 (actor_of x)) e past in
    let rest = all_from_0 past in
    let counts : one (nat_le 0 (actor_of e)) ≡ 1 = grind (arith, nat_tests) in
    omega (arith, here, rest, counts)

-- Each actor of a legal history is one of the setup's.
actor_in : (setup : Setup) (past : List Event) (e : Event) → refused setup past e ≡ None
    → is_actor setup (actor_of e) ≡ true
actor_in setup past (Fetch actor hart seq pc word predicted) ok =
    (allowed setup past (Fetch actor hart seq pc word predicted) ok).0
actor_in setup past (Decode actor seq) ok = (allowed setup past (Decode actor seq) ok).0
actor_in setup past (Rename actor seq phys) ok = (allowed setup past (Rename actor seq phys) ok).0
actor_in setup past (Issue actor seq) ok = (allowed setup past (Issue actor seq) ok).0
actor_in setup past (Complete actor seq outcome) ok = (allowed setup past (Complete actor seq outcome) ok).0
actor_in setup past (Drop actor seq) ok = (allowed setup past (Drop actor seq) ok).0
actor_in setup past (Retire actor seq effect) ok = (allowed setup past (Retire actor seq effect) ok).0
actor_in setup past (Refetch actor seq) ok = (allowed setup past (Refetch actor seq) ok).0

pub none_from_most : (setup : Setup) (past : List Event) → is_legal setup past → length setup.roles ≤ most_actors
    → made_from most_actors past ≡ 0
none_from_most setup [] legal few = refl
none_from_most setup (e ∷ past) legal few =
    let here = count_cons (λ x. nat_le most_actors (actor_of x)) e past in
    let rest = none_from_most setup past legal.1 few in
    let inside = actor_in setup past e legal.0 in
    let counts : one (nat_le most_actors (actor_of e)) ≡ 0 = grind (arith, nat_tests, inside, few) in
    omega (arith, here, rest, counts)
