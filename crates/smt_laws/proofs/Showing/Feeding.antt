-- A fetch between turns: of the harts that go the one with the least count is fetched, so that one with an empty latch
-- comes before any other.
use Rattle.std.specs.Prelude.{◌≡◌, ◌≢◌, ℕ, suc, ◌<◌, ◌≤◌, Bool, true, false, not, ◌==◌}
use Rattle.std.specs.Prelude.{nat_lt, if◌then◌else◌, List, [], ◌∷◌, ◌++◌, length, Option, Some, None, is_some}
use Rattle.std.specs.List.{filter}
use Rattle.std.proofs.Common.{◌∙◌, refl, sym, ap, subst, inl, inr, arith}
use Rattle.std.proofs.{lemmas.Bool.cases_Bool, lemmas.Bool.cases_eq}
use Rattle.std.proofs.{lemmas.Bool.Decides.nat_tests}
use Rattle.numbers.specs.Sizes.{latch_room}
use Rattle.elf_image.specs.Image.{word_now}
use Rattle.events.specs.{declared.event.Event.Event, declared.event.Event.TheVariants.Fetch}
use Rattle.smt_model.specs.Basics.{below, first_least, least_from, same_number}
use Rattle.smt_model.specs.{Setup.Setup, Flights.in_decode, Flights.icount, Flights.numbers, Memory.is_going}
use Rattle.smt_model.specs.{Memory.byte_at, Fates.Fetched, Fates.fetching}
use Rattle.smt_model.specs.Fetching.{is_after, turn, may_fetch, last_fetched, choice, fetch_pc}
use Rattle.smt_model.specs.{Asks.Ask, Asks.AskFetch, Jobs.is_actor, Rules.refused, Rules.is_legal}
use Rattle.smt_model.specs.Fates.{Fate, fate, fetches, is, is_of, is_counted, next_fate, stage, InDecode, Squashed}
use Rattle.smt_model.proofs.Lists.{member, member-append, member-filter, filter-member, filter-same}
use Rattle.smt_model.proofs.{Allowed.fetch_allows, Allowed.fetch_allowed, Fates.Moves.same_number-self}
use Rattle.smt_model.proofs.{Fates.Moves.same_number-is, Registers.Claims.below-member}
use Rattle.smt_model.proofs.Fates.Numbers.{known, known_below, numbers-of}
use Rattle.smt_laws.proofs.Fates.Choosing.{chosen}
use Rattle.smt_laws.proofs.Steps.Fetch.{steps-Fetch}
use Rattle.smt_laws.specs.Shown.{Predictor}
use Rattle.smt_laws.proofs.Done.{some_one, is_of_own}
use Rattle.smt_laws.proofs.Showing.{Answering.is_fetch, Replies.refused_one, Replies.answered, Replies.unanswered}
use Rattle.smt_laws.proofs.Showing.Turns.{IsSoFar, is_aside, IsRested, NoJobs}

-- ---- The least

least-bound : (f : ℕ → ℕ) (best : ℕ) (xs : List ℕ) (x : ℕ) → member x (best ∷ xs) ≡ true
    → f (least_from f best xs) ≤ f x
least-bound f best [] x m =
    let same : best ≡ x = grind (arith, nat_tests) in subst (λ z. f best ≤ f z) same (omega arith)
least-bound f best (y ∷ xs) x m =
    elim (cases_Bool (nat_lt (f y) (f best))) [
      | inl lower ↦
          let under : f y < f best = grind (arith, nat_tests) in
          rw lower (elim (cases_eq best x) [
            | inl here ↦
                let at_y = least-bound f y xs y (grind (arith, nat_tests)) in
                subst (λ z. f (least_from f y xs) ≤ f z) here (omega arith)
            | inr other ↦ least-bound f y xs x (grind (arith, nat_tests))
          ])
      | inr not_lower ↦
          let above : f best ≤ f y = grind (arith, nat_tests) in
          rw not_lower (elim (cases_eq y x) [
            | inl here ↦
                let at_best = least-bound f best xs best (grind (arith, nat_tests)) in
                subst (λ z. f (least_from f best xs) ≤ f z) here (omega arith)
            | inr other ↦ least-bound f best xs x (grind (arith, nat_tests))
          ])
    ]

pub record IsFirstLeast (f : ℕ → ℕ) (o : Option ℕ) (h : ℕ) : Type 0 where
  pub one : ℕ
  pub found : o ≡ Some one
  pub least : f one ≤ f h

first_least-some : (f : ℕ → ℕ) (xs : List ℕ) (h : ℕ) → member h xs ≡ true → IsFirstLeast f (first_least f xs) h
first_least-some f [] h m = absurd (grind arith)
first_least-some f (x ∷ xs) h m = record { one = least_from f x xs; found = refl; least = least-bound f x xs h m }

-- ---- The choice

turn-member : (harts : ℕ) (last : Option ℕ) (h : ℕ) → h < harts → member h (turn harts last) ≡ true
turn-member harts last h under =
    let inside = below-member harts h under in
    let parts =
    member-append h (filter (is_after last) (below harts)) (filter (λ g. not (is_after last g)) (below harts)) in
    elim (cases_Bool (is_after last h)) [
      | inl after ↦ let here = filter-member (is_after last) h (below harts) inside after in grind arith
      | inr before ↦
          let here =
          filter-member (λ g. not (is_after last g)) h (below harts) inside (ap not before) in
          grind arith
    ]

choice-some : (setup : Setup) (past : List Event) (h : ℕ) → h < setup.harts → is_going past h ≡ true
    → length (in_decode past h) < latch_room → IsFirstLeast (icount past) (choice setup past) h
unfolding choice
choice-some setup past h under going room =
    first_least-some (icount past) (filter (may_fetch past) (turn setup.harts (last_fetched past))) h
    (filter-member (may_fetch past) h (turn setup.harts (last_fetched past))
    (turn-member setup.harts (last_fetched past) h under) (grind (arith, nat_tests)))

-- ---- Between turns a hart's count is what its latch holds

counted_aside : (f : Fate) → is_aside (stage f) ≡ true → is_counted f ≡ is f InDecode
counted_aside f aside = grind (arith, nat_tests)

icount-rested : (past : List Event) → IsRested past → (g : ℕ) → icount past g ≡ length (in_decode past g)
icount-rested past rested g =
    ap length (filter-same (λ s. is_counted (fate past s)) (λ s. is (fate past s) InDecode) (numbers past g)
    (λ s m. counted_aside (fate past s) (rested s)))

pub empty_list : (xs : List ℕ) → length xs ≤ 0 → xs ≡ []
empty_list [] none = refl
empty_list (x ∷ xs) none = absurd (omega arith)

-- ---- What the fetch leaves

-- Where a hart that goes had an empty latch, one such hart has an instruction now.
pub record IsFilled (setup : Setup) (past now : List Event) (one : ℕ) : Type 0 where
  pub there : one < setup.harts
  pub going : is_going past one ≡ true
  pub empty : in_decode past one ≡ []
  pub filled : 1 ≤ length (in_decode now one)

-- What is in the latch of hart h has the word that memory has at its pc now.
abbrev pub IsFreshLatch : Setup → List Event → ℕ → Type 0
IsFreshLatch setup now h = (n : ℕ) (f : Fetched) → member n (in_decode now h) ≡ true → fetching now n ≡ Some f
    → f.word ≡ word_now setup.image (byte_at setup now) f.pc

-- The history after the ask. The latch of one hart grows, and by one at most; all harts go that went.
pub record IsFed (setup : Setup) (predict : Predictor) (asks : List Ask) (harts : List ℕ) (past : List Event) (most : ℕ)
    : Type 0 where
  pub now : List Event
  pub so : IsSoFar setup predict (AskFetch 0 ∷ asks) harts now most
  pub rested : IsRested now
  pub jobs : NoJobs now
  pub one : ℕ
  pub more : length (in_decode now one) ≤ suc (length (in_decode past one))
  pub others : (g : ℕ) → g ≢ one → in_decode now g ≡ in_decode past g
  pub grows : (g : ℕ) → length (in_decode past g) ≤ length (in_decode now g)
  pub going : (g : ℕ) → is_going now g ≡ is_going past g
  pub fills : (h : ℕ) → h < setup.harts → is_going past h ≡ true → in_decode past h ≡ [] → IsFilled setup past now one
  pub kept : (s : ℕ) (f : Fetched) → fetching past s ≡ Some f → fetching now s ≡ Some f
  pub fresh : (h : ℕ) → IsFreshLatch setup past h → IsFreshLatch setup now h

-- None is chosen.
none_chosen : (setup : Setup) (past : List Event) → choice setup past ≡ None → (k h n pc : ℕ) (word : Option ℕ)
    → (predicted : ℕ) → refused setup past (Fetch k h n pc word predicted) ≡ None → ⊥
none_chosen setup past none k h n pc word predicted ok =
    let some =
    same_number-is (choice setup past) (Some h) (fetch_allowed setup past k h n pc word predicted ok).chosen in
    absurd (grind arith)

pub nothing_stale : (setup : Setup) (past : List Event) (h : ℕ) → in_decode past h ≡ [] → IsFreshLatch setup past h
nothing_stale setup past h empty n f m at =
    let none : member n [] ≡ true = subst (λ xs. member n xs ≡ true) empty m in absurd (grind arith)

fed-None : (setup : Setup) (predict : Predictor) (asks : List Ask) (harts : List ℕ) (past : List Event) (most : ℕ)
    → IsSoFar setup predict asks harts past most → IsRested past → NoJobs past → choice setup past ≡ None
    → IsFed setup predict asks harts past (suc most)
fed-None setup predict asks harts past most so rested jobs none =
    let same = unanswered setup predict asks harts past most so (AskFetch 0)
    (λ e suits. is_fetch past 0 e suits (λ z. is_some (refused setup past z) ≡ true) (λ h n pc word predicted.
    refused_one (refused setup past (Fetch 0 h n pc word predicted))
    (none_chosen setup past none 0 h n pc word predicted))) in
    let count = same.count in
    record {
      now = past;
      so = record {
        legal = same.legal;
        decided = same.decided;
        replied = same.replied;
        in_order = same.in_order;
        count = omega arith;
      };
      rested = rested;
      jobs = jobs;
      one = 0;
      more = omega arith;
      others = λ g apart. refl;
      grows = λ g. omega arith;
      going = λ g. refl;
      fills = λ h there going empty.
          let none_h : length (in_decode past h) ≡ 0 = ap length empty in
          let pick = choice-some setup past h there going (omega arith) in
          let some = pick.found in
          absurd (grind arith);
      kept = λ s f at. at;
      fresh = λ h was. was;
    }

fetched_aside : (told : Bool) (old : Fate) → is_aside (stage old) ≡ true
    → is_aside (stage (next_fate (if told then Some InDecode else None) false old)) ≡ true
fetched_aside true old aside = elim (cases_Bool (is old Squashed)) [
  | inl gone ↦ rw gone aside
  | inr other ↦ rw other refl
]
fetched_aside false old aside = aside

self_equal : (n : ℕ) → (n == n) ≡ true
self_equal n = grind (arith, nat_tests)

length-more : (ys : List ℕ) (n : ℕ) → length (ys ++ n ∷ []) ≡ suc (length ys)
length-more [] n = refl
length-more (y ∷ ys) n = ap suc (length-more ys n)

longer : (xs ys : List ℕ) (n : ℕ) → xs ≡ ys ++ n ∷ [] → length xs ≡ suc (length ys)
longer xs ys n same = ap length same ∙ length-more ys n

-- What is fetched has a number of its own.
new_number : (setup : Setup) (past : List Event) → is_legal setup past → (h s : ℕ) → is_of past h s ≡ true
    → (fetches past == s) ≡ false
new_number setup past legal h s of_s =
    let under = known_below setup past legal s (known setup past legal h s of_s) in
    grind (arith, nat_tests)

latched : (setup : Setup) (past : List Event) → is_legal setup past → (h s : ℕ)
    → member s (in_decode past h) ≡ true → is_of past h s ≡ true
latched setup past legal h s m =
    numbers-of setup past legal h s (member-filter (λ z. is (fate past z) InDecode) s (numbers past h) m).0

-- What was just fetched has the word that memory has now.
fetched_fresh : (setup : Setup) (past : List Event) (actor g n pc : ℕ) (word : Option ℕ) (predicted : ℕ)
    → refused setup past (Fetch actor g n pc word predicted) ≡ None
    → in_decode (Fetch actor g n pc word predicted ∷ past) g ≡ in_decode past g ++ n ∷ []
    → IsFreshLatch setup past g → IsFreshLatch setup (Fetch actor g n pc word predicted ∷ past) g
fetched_fresh setup past actor g n pc word predicted ok grown was s f m at =
    let mine : Fetched = record { hart = g; pc = pc; word = word; predicted = predicted } in
    elim (cases_Bool (n == s)) [
      | inl here ↦
          subst (λ z. z.word ≡ word_now setup.image (byte_at setup past) z.pc) (some_one mine f (rw here at at))
          (same_number-is word (word_now setup.image (byte_at setup past) pc)
          (fetch_allowed setup past actor g n pc word predicted ok).word_is)
      | inr apart ↦
          let inside : member s (in_decode past g ++ n ∷ []) ≡ true = subst (λ xs. member s xs ≡ true) grown m in
          let parts = member-append s (in_decode past g) (n ∷ []) in
          was s f (grind (arith, nat_tests)) (rw apart at at)
    ]

fed-Some : (setup : Setup) (predict : Predictor) (asks : List Ask) (harts : List ℕ) (past : List Event) (most : ℕ)
    → IsSoFar setup predict asks harts past most → IsRested past → NoJobs past → is_actor setup 0 ≡ true
    → (g : ℕ) → choice setup past ≡ Some g → IsFed setup predict asks harts past (suc most)
fed-Some setup predict asks harts past most so rested jobs is_one g found =
    let who = chosen setup past g found in
    let n = fetches past in
    let pc = fetch_pc setup past g in
    let word = word_now setup.image (byte_at setup past) pc in
    let e = Fetch 0 g n pc word (predict g pc word) in
    let ok : refused setup past e ≡ None =
    fetch_allows setup past 0 g n pc word (predict g pc word) (record {
      actor_is = is_one;
      chosen = ap (λ o. same_number o (Some g)) found ∙ same_number-self (Some g);
      next_number = self_equal n;
      pc_is = self_equal pc;
      word_is = same_number-self word;
    }) in
    let step = steps-Fetch setup past so.legal 0 g n pc word (predict g pc word) ok in
    let more : length (in_decode (e ∷ past) g) ≡ suc (length (in_decode past g)) =
    longer (in_decode (e ∷ past) g) (in_decode past g) n step.in_decode in
    record {
      now = e ∷ past;
      so = answered setup predict asks harts harts past most so (AskFetch 0) e ok refl refl so.in_order;
      rested = λ s. fetched_aside (n == s) (fate past s) (rested s);
      jobs = jobs;
      one = g;
      more = omega arith;
      others = λ x apart. (step.stays.others x apart).in_decode;
      grows = λ x. elim (cases_eq x g) [
        | inl here ↦ subst (λ z. length (in_decode past z) ≤ length (in_decode (e ∷ past) z)) (sym here) (omega arith)
        | inr apart ↦
            subst (λ xs. length (in_decode past x) ≤ length xs) (sym (step.stays.others x apart).in_decode)
            (omega arith)
      ];
      going = λ x. refl;
      fills = λ h there going empty.
          let none_h : length (in_decode past h) ≡ 0 = ap length empty in
          let pick = choice-some setup past h there going (omega arith) in
          let same : pick.one ≡ g = some_one pick.one g (sym pick.found ∙ found) in
          let least : icount past g ≤ icount past h = subst (λ z. icount past z ≤ icount past h) same pick.least in
          let count_h = icount-rested past rested h in
          let count_g = icount-rested past rested g in
          record {
            there = who.there;
            going = who.going;
            empty = empty_list (in_decode past g) (omega arith);
            filled = omega arith;
          };
      kept = λ s f at. rw (new_number setup past so.legal f.hart s (is_of_own past s f at)) at;
      fresh = λ h was. elim (cases_eq h g) [
        | inl here ↦
            subst (IsFreshLatch setup (e ∷ past)) (sym here)
            (fetched_fresh setup past 0 g n pc word (predict g pc word) ok step.in_decode
            (subst (IsFreshLatch setup past) here was))
        | inr apart ↦ λ s f m at.
            let there : member s (in_decode past h) ≡ true =
            subst (λ xs. member s xs ≡ true) (step.stays.others h apart).in_decode m in
            let older = new_number setup past so.legal h s (latched setup past so.legal h s there) in
            was s f there (rw older at at)
      ];
    }

fed_by : (setup : Setup) (predict : Predictor) (asks : List Ask) (harts : List ℕ) (past : List Event) (most : ℕ)
    → IsSoFar setup predict asks harts past most → IsRested past → NoJobs past → is_actor setup 0 ≡ true
    → (o : Option ℕ) → choice setup past ≡ o → IsFed setup predict asks harts past (suc most)
fed_by setup predict asks harts past most so rested jobs is_one None found =
    fed-None setup predict asks harts past most so rested jobs found
fed_by setup predict asks harts past most so rested jobs is_one (Some g) found =
    fed-Some setup predict asks harts past most so rested jobs is_one g found

pub fed : (setup : Setup) (predict : Predictor) (asks : List Ask) (harts : List ℕ) (past : List Event) (most : ℕ)
    → IsSoFar setup predict asks harts past most → IsRested past → NoJobs past → is_actor setup 0 ≡ true
    → IsFed setup predict asks harts past (suc most)
fed setup predict asks harts past most so rested jobs is_one =
    fed_by setup predict asks harts past most so rested jobs is_one (choice setup past) refl
