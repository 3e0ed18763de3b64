-- A fetch: some hart may be fetched exactly where one is chosen.
use Rattle.std.specs.Prelude.{◌≡◌, ℕ, ◌<◌, Bool, true, false, not, ◌==◌, ◌&&◌, ◌||◌, nat_lt, List, [], ◌∷◌, ◌++◌, filter}
use Rattle.std.specs.Prelude.{length, Option, Some, None}
use Rattle.std.proofs.Common.{◌∙◌, refl, sym, ap, subst, inl, inr, arith}
use Rattle.std.proofs.{lemmas.Bool.cases_Bool, lemmas.Bool.Decides.nat_tests}
use Rattle.numbers.specs.Sizes.{latch_room}
use Rattle.elf_image.specs.Image.{word_now}
use Rattle.events.specs.declared.event.Event.{Event}
use Rattle.events.specs.declared.event.Event.TheVariants.{Fetch, Decode, Rename, Issue, Complete, Drop, Retire, Refetch}
use Rattle.smt_model.specs.{Asks.AskFetch, Asks.answers, Setup.Setup, Jobs.is_actor, Memory.byte_at, Memory.is_going}
use Rattle.smt_model.specs.{Fates.fetches, Flights.in_decode, Flights.icount, Rules.refused, Rules.is_legal}
use Rattle.smt_model.specs.Basics.{below, first_least, how_many, least_from, same_number}
use Rattle.smt_model.specs.Fetching.{is_after, turn, may_fetch, last_fetched, choice, fetch_pc}
use Rattle.smt_model.proofs.Allowed.{fetch_allowed, fetch_allows}
use Rattle.smt_model.proofs.Lists.{member, member-append, filter-member}
use Rattle.smt_model.proofs.{Fates.Moves.same_number-self, Registers.Claims.member-below}
use Rattle.smt_model.proofs.Registers.Claims.{below-member, counted, who_counts}
use Rattle.smt_laws.proofs.Fates.Choosing.{IsChosen, fetch_chosen}
use Rattle.reasons.specs.Reasons.{first_named, fetch_reasons, no_actor}
use Rattle.reasons.specs.{declared.reason.Reason.Reason, Exact.MayCome}
use Rattle.reasons.specs.declared.reason.Reason.TheVariants as reason
use Rattle.reasons.proofs.Naming.{none_named, named_none, unnamed, fails, not_false, not_true}

-- ---- Where one may be fetched, one is chosen

in_turn : (harts : ℕ) (last : Option ℕ) (h : ℕ) → h < harts → member h (turn harts last) ≡ true
in_turn harts last h there =
    let all = below-member harts h there in
    let parts =
    member-append h (filter (is_after last) (below harts)) (filter (λ g. not (is_after last g)) (below harts)) in
    elim (cases_Bool (is_after last h)) [
      | inl later ↦
          let inside = filter-member (is_after last) h (below harts) all later in
          parts ∙ ap (λ b. b || member h (filter (λ g. not (is_after last g)) (below harts))) inside
      | inr earlier ↦
          let inside = filter-member (λ g. not (is_after last g)) h (below harts) all (ap not earlier) in
          let some : (a b : Bool) → b ≡ true → (a || b) ≡ true = λ a b is. grind arith in
          parts ∙ some (member h (filter (is_after last) (below harts)))
          (member h (filter (λ g. not (is_after last g)) (below harts))) inside
    ]

record IsLeast (f : ℕ → ℕ) (xs : List ℕ) : Type 0 where
  number : ℕ
  is : first_least f xs ≡ Some number

least_of : (f : ℕ → ℕ) (xs : List ℕ) (n : ℕ) → member n xs ≡ true → IsLeast f xs
least_of f [] n there = absurd (grind arith)
least_of f (x ∷ xs) n there = record { number = least_from f x xs; is = refl }

record Chooses (setup : Setup) (past : List Event) : Type 0 where
  hart : ℕ
  chosen : choice setup past ≡ Some hart

chooses : (setup : Setup) (past : List Event) (h : ℕ) → h < setup.harts → may_fetch past h ≡ true
    → Chooses setup past
unfolding choice
chooses setup past h there may =
    let harts = turn setup.harts (last_fetched past) in
    let inside = filter-member (may_fetch past) h harts (in_turn setup.harts (last_fetched past) h there) may in
    let found = least_of (icount past) (filter (may_fetch past) harts) h inside in
    record { hart = found.number; chosen = found.is }

same_self : (n : ℕ) → (n == n) ≡ true
same_self n = grind (arith, nat_tests)

fetch_of : (setup : Setup) (past : List Event) (k h : ℕ) → is_actor setup k ≡ true → choice setup past ≡ Some h
    → MayCome setup past (AskFetch k)
fetch_of setup past k h is_one at =
    let pc = fetch_pc setup past h in
    let word = word_now setup.image (byte_at setup past) pc in
    record {
      event = Fetch k h (fetches past) pc word 0;
      answer = same_self k;
      allowed = fetch_allows setup past k h (fetches past) pc word 0 (record {
        actor_is = is_one;
        chosen = ap (λ o. same_number o (Some h)) at ∙ same_number-self (Some h);
        next_number = same_self (fetches past);
        pc_is = same_self pc;
        word_is = same_number-self word;
      });
    }

pub fetch_may : (setup : Setup) (past : List Event) (k : ℕ) → first_named (fetch_reasons setup past k) ≡ None
    → MayCome setup past (AskFetch k)
fetch_may setup past k none =
    let each = named_none (fetch_reasons setup past k) none in
    let is_one = not_true (is_actor setup k) (fails (not (is_actor setup k)) (reason.NoActor k) each.0) in
    let some = fails (how_many (may_fetch past) (below setup.harts) == 0) reason.DecodeLatchesFull each.1.1.0 in
    let one = who_counts (may_fetch past) (below setup.harts) (grind (arith, nat_tests)) in
    let found = chooses setup past one.one (member-below setup.harts one.one one.inside) one.passes in
    fetch_of setup past k found.hart is_one found.chosen

-- ---- Where an event may come, none is named

may_both : (past : List Event) (h : ℕ) → is_going past h ≡ true → length (in_decode past h) < latch_room
    → may_fetch past h ≡ true
may_both past h going room =
    let fits : nat_lt (length (in_decode past h)) latch_room ≡ true = grind (arith, nat_tests) in
    rw (going, fits) refl

some_counted : (test : ℕ → Bool) (xs : List ℕ) (n : ℕ) → member n xs ≡ true → test n ≡ true
    → (how_many test xs == 0) ≡ false
some_counted test xs n there passes = let some = counted test xs n there passes in grind (arith, nat_tests)

fetch_none : (setup : Setup) (past : List Event) (k h s pc : ℕ) (word : Option ℕ) (predicted : ℕ)
    → refused setup past (Fetch k h s pc word predicted) ≡ None → first_named (fetch_reasons setup past k) ≡ None
fetch_none setup past k h s pc word predicted ok =
    let rule = fetch_allowed setup past k h s pc word predicted ok in
    let is_chosen = fetch_chosen setup past k h s pc word predicted ok in
    let there = below-member setup.harts h is_chosen.there in
    none_named (fetch_reasons setup past k) (
      unnamed (not (is_actor setup k)) (reason.NoActor k) (not_false (is_actor setup k) rule.actor_is),
      (
        unnamed (how_many (is_going past) (below setup.harts) == 0) reason.NoHartGoes
            (some_counted (is_going past) (below setup.harts) h there is_chosen.going),
        (
          unnamed (how_many (may_fetch past) (below setup.harts) == 0) reason.DecodeLatchesFull
              (some_counted (may_fetch past) (below setup.harts) h there
              (may_both past h is_chosen.going is_chosen.room)),
          tt,
        ),
      ),
    )

pub fetch_by : (setup : Setup) (past : List Event) (k : ℕ) (e : Event) → answers (AskFetch k) past e ≡ true
    → refused setup past e ≡ None → first_named (fetch_reasons setup past k) ≡ None
fetch_by setup past k (Fetch actor h s pc word predicted) asked ok =
    let same : actor ≡ k = grind (arith, nat_tests) in
    subst (λ j. first_named (fetch_reasons setup past j) ≡ None) same
    (fetch_none setup past actor h s pc word predicted ok)
fetch_by setup past k (Decode actor s) asked ok = absurd (grind arith)
fetch_by setup past k (Rename actor s phys) asked ok = absurd (grind arith)
fetch_by setup past k (Issue actor s) asked ok = absurd (grind arith)
fetch_by setup past k (Complete actor s outcome) asked ok = absurd (grind arith)
fetch_by setup past k (Drop actor s) asked ok = absurd (grind arith)
fetch_by setup past k (Retire actor s effect) asked ok = absurd (grind arith)
fetch_by setup past k (Refetch actor s) asked ok = absurd (grind arith)
