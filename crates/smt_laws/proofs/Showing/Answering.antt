-- Each ask has one answer: what the rules and the decisions leave of each kind of event is one event.
use Rattle.std.specs.Prelude.{◌≡◌, ℕ, ◌<◌, Bool, true, not, ◌&&◌, nat_lt, List, [], ◌∷◌, Option, Some}
use Rattle.std.specs.Prelude.{None, is_some}
use Rattle.std.specs.List.{list_all}
use Rattle.std.proofs.Common.{◌∙◌, refl, sym, ap, subst, inl, inr, arith}
use Rattle.std.proofs.{lemmas.Bool.cases_eq, lemmas.Bool.cases_lt, lemmas.Bool.Decides.nat_tests}
use Rattle.elf_image.specs.Image.{word_now}
use Rattle.events.specs.{declared.effect.Outcome.Outcome, declared.effect.Effect.Effect, declared.event.Event.Event}
use Rattle.events.specs.declared.event.Event.TheVariants.{Fetch, Decode, Rename, Issue, Complete, Drop, Retire, Refetch}
use Rattle.smt_model.specs.{Basics.first, Basics.holds_of, Setup.Setup, Kinds.writes_register, Registers.is_ready}
use Rattle.smt_model.specs.{Memory.byte_at}
use Rattle.smt_model.specs.{Fetching.choice, Fetching.fetch_pc, Flights.in_decode, Flights.in_rename}
use Rattle.smt_model.specs.{Flights.flight, Flights.queue, Flights.all_numbers}
use Rattle.smt_model.specs.Fates.{Fetched, fate, fetching, is, is_of, op_at, stage, Renamed}
use Rattle.smt_model.specs.Rules.{refused, is_allowed, is_legal, is_for, is_fresh, outcome_now, effect_now}
use Rattle.smt_model.specs.Asks.{Ask, AskFetch, AskDecode, AskRename, AskIssue, AskComplete, AskRetire, answers}
use Rattle.smt_model.proofs.Allowed.{fetch_allowed, decode_allowed, rename_allowed, issue_allowed}
use Rattle.smt_model.proofs.Allowed.{retire_allowed, refetch_allowed}
use Rattle.smt_model.proofs.Fates.Moves.{same_number-is, fetch_number, issue_was, complete_was, drop_was, retire_was}
use Rattle.smt_model.proofs.Fates.Moves.{complete_lent, drop_lent}
use Rattle.smt_model.proofs.{Lists.member, Lists.filter-member, Fates.Numbers.first_of_hart, Fates.Numbers.known_below}
use Rattle.smt_model.proofs.{Fates.Numbers.all_numbers-member, Fates.Numbers.known_fetched, Fates.Sound.sound}
use Rattle.smt_laws.proofs.{Registers.Namings.same_truth-is, Registers.Values.complete_says}
use Rattle.smt_laws.proofs.Registers.Values.{retire_says}
use Rattle.smt_laws.specs.Shown.{Predictor, IsLeastFree, IsDecided, AsksHaveOneAnswer}
use Rattle.smt_laws.proofs.Done.{some_one}

-- ---- What can answer an ask

pub is_fetch : (past : List Event) (k : ℕ) (e : Event) → answers (AskFetch k) past e ≡ true → (P : Event → Type 0)
    → ((hart n pc : ℕ) (word : Option ℕ) (predicted : ℕ) → P (Fetch k hart n pc word predicted))
    → P e
is_fetch past k (Fetch actor hart n pc word predicted) answered P go =
    let same : actor ≡ k = grind (arith, nat_tests) in
    subst (λ a. P (Fetch a hart n pc word predicted)) (sym same) (go hart n pc word predicted)
is_fetch past k (Decode actor n) answered P go = absurd (grind arith)
is_fetch past k (Rename actor n register) answered P go = absurd (grind arith)
is_fetch past k (Issue actor n) answered P go = absurd (grind arith)
is_fetch past k (Complete actor n outcome) answered P go = absurd (grind arith)
is_fetch past k (Drop actor n) answered P go = absurd (grind arith)
is_fetch past k (Retire actor n effect) answered P go = absurd (grind arith)
is_fetch past k (Refetch actor n) answered P go = absurd (grind arith)

pub is_decode : (past : List Event) (k h : ℕ) (e : Event) → answers (AskDecode k h) past e ≡ true → (P : Event → Type 0)
    → ((n : ℕ) → is_of past h n ≡ true → P (Decode k n))
    → P e
is_decode past k h (Fetch actor hart n pc word predicted) answered P go = absurd (grind arith)
is_decode past k h (Decode actor n) answered P go =
    let same : actor ≡ k = grind (arith, nat_tests) in
    subst (λ a. P (Decode a n)) (sym same) (go n (grind arith))
is_decode past k h (Rename actor n register) answered P go = absurd (grind arith)
is_decode past k h (Issue actor n) answered P go = absurd (grind arith)
is_decode past k h (Complete actor n outcome) answered P go = absurd (grind arith)
is_decode past k h (Drop actor n) answered P go = absurd (grind arith)
is_decode past k h (Retire actor n effect) answered P go = absurd (grind arith)
is_decode past k h (Refetch actor n) answered P go = absurd (grind arith)

pub is_rename : (past : List Event) (k h : ℕ) (e : Event) → answers (AskRename k h) past e ≡ true → (P : Event → Type 0)
    → ((n : ℕ) (register : Option ℕ) → is_of past h n ≡ true → P (Rename k n register))
    → P e
is_rename past k h (Fetch actor hart n pc word predicted) answered P go = absurd (grind arith)
is_rename past k h (Decode actor n) answered P go = absurd (grind arith)
is_rename past k h (Rename actor n register) answered P go =
    let same : actor ≡ k = grind (arith, nat_tests) in
    subst (λ a. P (Rename a n register)) (sym same) (go n register (grind arith))
is_rename past k h (Issue actor n) answered P go = absurd (grind arith)
is_rename past k h (Complete actor n outcome) answered P go = absurd (grind arith)
is_rename past k h (Drop actor n) answered P go = absurd (grind arith)
is_rename past k h (Retire actor n effect) answered P go = absurd (grind arith)
is_rename past k h (Refetch actor n) answered P go = absurd (grind arith)

pub is_issue : (past : List Event) (k : ℕ) (e : Event) → answers (AskIssue k) past e ≡ true → (P : Event → Type 0)
    → ((n : ℕ) → P (Issue k n))
    → P e
is_issue past k (Fetch actor hart n pc word predicted) answered P go = absurd (grind arith)
is_issue past k (Decode actor n) answered P go = absurd (grind arith)
is_issue past k (Rename actor n register) answered P go = absurd (grind arith)
is_issue past k (Issue actor n) answered P go =
    let same : actor ≡ k = grind (arith, nat_tests) in
    subst (λ a. P (Issue a n)) (sym same) (go n)
is_issue past k (Complete actor n outcome) answered P go = absurd (grind arith)
is_issue past k (Drop actor n) answered P go = absurd (grind arith)
is_issue past k (Retire actor n effect) answered P go = absurd (grind arith)
is_issue past k (Refetch actor n) answered P go = absurd (grind arith)

pub is_complete : (past : List Event) (k : ℕ) (e : Event) → answers (AskComplete k) past e ≡ true → (P : Event → Type 0)
    → ((n : ℕ) (outcome : Outcome) → P (Complete k n outcome))
    → ((n : ℕ) → P (Drop k n))
    → P e
is_complete past k (Fetch actor hart n pc word predicted) answered P go0 go1 = absurd (grind arith)
is_complete past k (Decode actor n) answered P go0 go1 = absurd (grind arith)
is_complete past k (Rename actor n register) answered P go0 go1 = absurd (grind arith)
is_complete past k (Issue actor n) answered P go0 go1 = absurd (grind arith)
is_complete past k (Complete actor n outcome) answered P go0 go1 =
    let same : actor ≡ k = grind (arith, nat_tests) in
    subst (λ a. P (Complete a n outcome)) (sym same) (go0 n outcome)
is_complete past k (Drop actor n) answered P go0 go1 =
    let same : actor ≡ k = grind (arith, nat_tests) in
    subst (λ a. P (Drop a n)) (sym same) (go1 n)
is_complete past k (Retire actor n effect) answered P go0 go1 = absurd (grind arith)
is_complete past k (Refetch actor n) answered P go0 go1 = absurd (grind arith)

pub is_retire : (past : List Event) (k h : ℕ) (e : Event) → answers (AskRetire k h) past e ≡ true → (P : Event → Type 0)
    → ((n : ℕ) (effect : Effect) → is_of past h n ≡ true → P (Retire k n effect))
    → ((n : ℕ) → is_of past h n ≡ true → P (Refetch k n))
    → P e
is_retire past k h (Fetch actor hart n pc word predicted) answered P go0 go1 = absurd (grind arith)
is_retire past k h (Decode actor n) answered P go0 go1 = absurd (grind arith)
is_retire past k h (Rename actor n register) answered P go0 go1 = absurd (grind arith)
is_retire past k h (Issue actor n) answered P go0 go1 = absurd (grind arith)
is_retire past k h (Complete actor n outcome) answered P go0 go1 = absurd (grind arith)
is_retire past k h (Drop actor n) answered P go0 go1 = absurd (grind arith)
is_retire past k h (Retire actor n effect) answered P go0 go1 =
    let same : actor ≡ k = grind (arith, nat_tests) in
    subst (λ a. P (Retire a n effect)) (sym same) (go0 n effect (grind arith))
is_retire past k h (Refetch actor n) answered P go0 go1 =
    let same : actor ≡ k = grind (arith, nat_tests) in
    subst (λ a. P (Refetch a n)) (sym same) (go1 n (grind arith))

-- ---- Each kind

same_first : (xs : List ℕ) (m n : ℕ) → first xs ≡ Some m → first xs ≡ Some n → m ≡ n
same_first xs m n one two = some_one m n (sym one ∙ two)

fetch-one : (setup : Setup) (predict : Predictor) (past : List Event) (k h n pc : ℕ) (word : Option ℕ) (predicted : ℕ)
    → (g m at : ℕ) (found : Option ℕ) (guess : ℕ)
    → refused setup past (Fetch k h n pc word predicted) ≡ None → predicted ≡ predict h pc word
    → refused setup past (Fetch k g m at found guess) ≡ None → guess ≡ predict g at found
    → Fetch k h n pc word predicted ≡ Fetch k g m at found guess
fetch-one setup predict past k h n pc word predicted g m at found guess ok says also too =
    let one = fetch_allowed setup past k h n pc word predicted ok in
    let two = fetch_allowed setup past k g m at found guess also in
    let hart : h ≡ g =
    some_one h g (sym (same_number-is (choice setup past) (Some h) one.chosen)
    ∙ same_number-is (choice setup past) (Some g) two.chosen) in
    let number : n ≡ m =
    fetch_number setup past k h n pc word predicted ok ∙ sym (fetch_number setup past k g m at found guess also) in
    let one_pc : pc ≡ fetch_pc setup past h = let is = one.pc_is in grind (arith, nat_tests) in
    let two_pc : at ≡ fetch_pc setup past g = let is = two.pc_is in grind (arith, nat_tests) in
    let pcs : pc ≡ at = one_pc ∙ (ap (fetch_pc setup past) hart ∙ sym two_pc) in
    let words : word ≡ found =
    same_number-is word (word_now setup.image (byte_at setup past) pc) one.word_is
    ∙ (ap (word_now setup.image (byte_at setup past)) pcs
    ∙ sym (same_number-is found (word_now setup.image (byte_at setup past) at) two.word_is)) in
    let guesses : predicted ≡ guess =
    says ∙ (ap (λ z. predict z pc word) hart ∙ (ap (λ z. predict g z word) pcs ∙ (ap (predict g at) words
    ∙ sym too))) in
    ap (λ z. Fetch k z n pc word predicted) hart
    ∙ (ap (λ z. Fetch k g z pc word predicted) number
    ∙ (ap (λ z. Fetch k g m z word predicted) pcs
    ∙ (ap (λ z. Fetch k g m at z predicted) words
    ∙ ap (λ z. Fetch k g m at found z) guesses)))

decode-one : (setup : Setup) (past : List Event) (k h m n : ℕ) → is_of past h m ≡ true → is_of past h n ≡ true
    → refused setup past (Decode k m) ≡ None → refused setup past (Decode k n) ≡ None → Decode k m ≡ Decode k n
decode-one setup past k h m n of_m of_n ok also =
    ap (Decode k) (same_first (in_decode past h) m n
    (first_of_hart past (in_decode past) h m of_m (decode_allowed setup past k m ok).oldest)
    (first_of_hart past (in_decode past) h n of_n (decode_allowed setup past k n also).oldest))

-- Two least ones are one.
least-one : (setup : Setup) (past : List Event) (p q : ℕ) → IsLeastFree setup past p → IsLeastFree setup past q → p ≡ q
least-one setup past p q one two =
    elim (cases_lt p q) [
      | inl under ↦ let taken = two.1 p under in let free = one.0 in absurd (grind arith)
      | inr above ↦
          elim (cases_eq p q) [
            | inl same ↦ same
            | inr other ↦
                let taken = one.1 q (omega arith) in
                let free = two.0 in
                absurd (grind arith)
          ]
    ]

registers-one : (setup : Setup) (past : List Event) (a b : Option ℕ) → is_some a ≡ is_some b
    → ((p : ℕ) → a ≡ Some p → IsLeastFree setup past p) → ((p : ℕ) → b ≡ Some p → IsLeastFree setup past p) → a ≡ b
registers-one setup past None None same one two = refl
registers-one setup past None (Some q) same one two = absurd (grind arith)
registers-one setup past (Some p) None same one two = absurd (grind arith)
registers-one setup past (Some p) (Some q) same one two =
    ap Some (least-one setup past p q (one p refl) (two q refl))

rename-one : (setup : Setup) (past : List Event) (k h m n : ℕ) (a b : Option ℕ)
    → is_of past h m ≡ true → is_of past h n ≡ true
    → refused setup past (Rename k m a) ≡ None → ((p : ℕ) → a ≡ Some p → IsLeastFree setup past p)
    → refused setup past (Rename k n b) ≡ None → ((p : ℕ) → b ≡ Some p → IsLeastFree setup past p)
    → Rename k m a ≡ Rename k n b
rename-one setup past k h m n a b of_m of_n ok least also too =
    let one = rename_allowed setup past k m a ok in
    let two = rename_allowed setup past k n b also in
    let number : m ≡ n =
    same_first (in_rename past h) m n (first_of_hart past (in_rename past) h m of_m one.oldest)
    (first_of_hart past (in_rename past) h n of_n two.oldest) in
    let both : is_some a ≡ is_some b =
    same_truth-is (is_some a) (writes_register (op_at past m)) one.named
    ∙ (ap (λ z. writes_register (op_at past z)) number
    ∙ sym (same_truth-is (is_some b) (writes_register (op_at past n)) two.named)) in
    ap (λ z. Rename k z a) number ∙ ap (Rename k n) (registers-one setup past a b both least too)

all-at : (test : ℕ → Bool) (xs : List ℕ) (n : ℕ) → list_all test xs ≡ true → member n xs ≡ true → test n ≡ true
all-at test [] n all m = absurd (grind arith)
all-at test (x ∷ xs) n all m =
    elim (cases_eq x n) [
      | inl here ↦ subst (λ z. test z ≡ true) here (grind arith)
      | inr other ↦ all-at test xs n (grind arith) (grind (arith, nat_tests))
    ]

none_such : (fits ready : Bool) (m n : ℕ) → m < n → fits ≡ true → ready ≡ true
    → not (nat_lt m n && (fits && ready)) ≡ true → ⊥
none_such fits ready m n under one two test = absurd (grind (arith, nat_tests))

-- None that the actor may issue is younger than another.
not_younger : (setup : Setup) (past : List Event) → is_legal setup past → (k m n : ℕ)
    → refused setup past (Issue k m) ≡ None → refused setup past (Issue k n) ≡ None → m < n → ⊥
not_younger setup past legal k m n ok also under =
    let one = issue_allowed setup past k m ok in
    let two = issue_allowed setup past k n also in
    let was = issue_was setup past k m ok in
    let queued : member m (queue past) ≡ true =
    filter-member (λ s. is (fate past s) Renamed) m (all_numbers past)
    (all_numbers-member setup past legal m (known_below setup past legal m (omega arith))) one.fated in
    let test : not (nat_lt m n && (is_for setup past k m && is_ready setup past m)) ≡ true =
    all-at (λ t. not (nat_lt t n && (is_for setup past k t && is_ready setup past t))) (queue past) m two.oldest
    queued in
    none_such (is_for setup past k m) (is_ready setup past m) m n under one.suited one.ready test

issue-one : (setup : Setup) (past : List Event) → is_legal setup past → (k m n : ℕ)
    → refused setup past (Issue k m) ≡ None → refused setup past (Issue k n) ≡ None → Issue k m ≡ Issue k n
issue-one setup past legal k m n ok also =
    elim (cases_lt m n) [
      | inl under ↦ absurd (not_younger setup past legal k m n ok also under)
      | inr above ↦
          elim (cases_eq m n) [
            | inl same ↦ ap (Issue k) same
            | inr other ↦ absurd (not_younger setup past legal k n m also ok (omega arith))
          ]
    ]

complete-one : (setup : Setup) (past : List Event) → is_legal setup past → (k m n : ℕ) (a b : Outcome)
    → refused setup past (Complete k m a) ≡ None → refused setup past (Complete k n b) ≡ None
    → Complete k m a ≡ Complete k n b
complete-one setup past legal k m n a b ok also =
    let number : m ≡ n = some_one m n (sym (complete_lent setup past k m a ok) ∙ complete_lent setup past k n b also) in
    let was = complete_was setup past (sound setup past legal) k m a ok in
    let at = known_fetched setup past legal m (omega arith) in
    let one : a ≡ outcome_now setup past m at.fetch = complete_says setup past k m a ok at.fetch at.fetched in
    let two : b ≡ outcome_now setup past n at.fetch =
    complete_says setup past k n b also at.fetch
    (subst (λ z. fetching past z ≡ Some at.fetch) number at.fetched) in
    ap (λ z. Complete k z a) number
    ∙ ap (Complete k n) (one ∙ (ap (λ z. outcome_now setup past z at.fetch) number ∙ sym two))

drop-one : (setup : Setup) (past : List Event) (k m n : ℕ)
    → refused setup past (Drop k m) ≡ None → refused setup past (Drop k n) ≡ None → Drop k m ≡ Drop k n
drop-one setup past k m n ok also =
    ap (Drop k) (some_one m n (sym (drop_lent setup past k m ok) ∙ drop_lent setup past k n also))

-- One is not both completed and dropped.
never_both : (setup : Setup) (past : List Event) → is_legal setup past → (k m n : ℕ) (a : Outcome)
    → refused setup past (Complete k m a) ≡ None → refused setup past (Drop k n) ≡ None → ⊥
never_both setup past legal k m n a ok also =
    let number : m ≡ n = some_one m n (sym (complete_lent setup past k m a ok) ∙ drop_lent setup past k n also) in
    let one = complete_was setup past (sound setup past legal) k m a ok in
    let two = drop_was setup past k n also in
    let same : stage (fate past m) ≡ stage (fate past n) = ap (λ z. stage (fate past z)) number in
    absurd (omega arith)

retire-one : (setup : Setup) (past : List Event) → is_legal setup past → (k h m n : ℕ) (a b : Effect)
    → is_of past h m ≡ true → is_of past h n ≡ true
    → refused setup past (Retire k m a) ≡ None → refused setup past (Retire k n b) ≡ None
    → Retire k m a ≡ Retire k n b
retire-one setup past legal k h m n a b of_m of_n ok also =
    let number : m ≡ n =
    same_first (flight past h) m n
    (first_of_hart past (flight past) h m of_m (retire_allowed setup past k m a ok).oldest)
    (first_of_hart past (flight past) h n of_n (retire_allowed setup past k n b also).oldest) in
    let was = retire_was setup past k m a ok in
    let at = known_fetched setup past legal m (omega arith) in
    let one : a ≡ effect_now setup past m at.fetch = retire_says setup past k m a ok at.fetch at.fetched in
    let two : b ≡ effect_now setup past n at.fetch =
    retire_says setup past k n b also at.fetch
    (subst (λ z. fetching past z ≡ Some at.fetch) number at.fetched) in
    ap (λ z. Retire k z a) number
    ∙ ap (Retire k n) (one ∙ (ap (λ z. effect_now setup past z at.fetch) number ∙ sym two))

refetch-one : (setup : Setup) (past : List Event) (k h m n : ℕ) → is_of past h m ≡ true → is_of past h n ≡ true
    → refused setup past (Refetch k m) ≡ None → refused setup past (Refetch k n) ≡ None → Refetch k m ≡ Refetch k n
refetch-one setup past k h m n of_m of_n ok also =
    ap (Refetch k) (same_first (flight past h) m n
    (first_of_hart past (flight past) h m of_m (refetch_allowed setup past k m ok).oldest)
    (first_of_hart past (flight past) h n of_n (refetch_allowed setup past k n also).oldest))

not_one_and_other : (test : Fetched → Bool) (o : Option Fetched) → holds_of test o ≡ true
    → holds_of (λ f. not (test f)) o ≡ true → ⊥
not_one_and_other test None one other = absurd (grind arith)
not_one_and_other test (Some f) one other = absurd (grind arith)

-- One is not both fresh and stale.
never_both_words : (setup : Setup) (past : List Event) (k h m n : ℕ) (a : Effect)
    → is_of past h m ≡ true → is_of past h n ≡ true
    → refused setup past (Retire k m a) ≡ None → refused setup past (Refetch k n) ≡ None → ⊥
never_both_words setup past k h m n a of_m of_n ok also =
    let one = retire_allowed setup past k m a ok in
    let two = refetch_allowed setup past k n also in
    let number : m ≡ n =
    same_first (flight past h) m n (first_of_hart past (flight past) h m of_m one.oldest)
    (first_of_hart past (flight past) h n of_n two.oldest) in
    not_one_and_other (is_fresh setup past) (fetching past n)
    (ap (λ z. holds_of (is_fresh setup past) (fetching past z)) (sym number) ∙ one.fresh) two.stale

-- ---- Every ask

abbrev AreOne : Setup → Predictor → List Event → Event → Event → Type 0
AreOne setup predict past one two =
    is_allowed setup past one → IsDecided setup predict past one
    → is_allowed setup past two → IsDecided setup predict past two → one ≡ two

answered-one : (setup : Setup) (predict : Predictor) (past : List Event) → is_legal setup past
    → (ask : Ask) (one two : Event) → answers ask past one ≡ true → answers ask past two ≡ true
    → AreOne setup predict past one two
answered-one setup predict past legal (AskFetch k) one two a b =
    is_fetch past k one a (λ e. AreOne setup predict past e two) (λ h n pc word predicted.
    is_fetch past k two b (λ e. AreOne setup predict past (Fetch k h n pc word predicted) e)
    (λ g m at found guess ok says also too.
    fetch-one setup predict past k h n pc word predicted g m at found guess ok says also too))
answered-one setup predict past legal (AskDecode k h) one two a b =
    is_decode past k h one a (λ e. AreOne setup predict past e two) (λ m of_m.
    is_decode past k h two b (λ e. AreOne setup predict past (Decode k m) e) (λ n of_n ok says also too.
    decode-one setup past k h m n of_m of_n ok also))
answered-one setup predict past legal (AskRename k h) one two a b =
    is_rename past k h one a (λ e. AreOne setup predict past e two) (λ m p of_m.
    is_rename past k h two b (λ e. AreOne setup predict past (Rename k m p) e) (λ n q of_n ok says also too.
    rename-one setup past k h m n p q of_m of_n ok says also too))
answered-one setup predict past legal (AskIssue k) one two a b =
    is_issue past k one a (λ e. AreOne setup predict past e two) (λ m.
    is_issue past k two b (λ e. AreOne setup predict past (Issue k m) e) (λ n ok says also too.
    issue-one setup past legal k m n ok also))
answered-one setup predict past legal (AskComplete k) one two a b =
    is_complete past k one a (λ e. AreOne setup predict past e two)
    (λ m o. is_complete past k two b (λ e. AreOne setup predict past (Complete k m o) e)
    (λ n p ok says also too. complete-one setup past legal k m n o p ok also)
    (λ n ok says also too. absurd (never_both setup past legal k m n o ok also)))
    (λ m. is_complete past k two b (λ e. AreOne setup predict past (Drop k m) e)
    (λ n p ok says also too. absurd (never_both setup past legal k n m p also ok))
    (λ n ok says also too. drop-one setup past k m n ok also))
answered-one setup predict past legal (AskRetire k h) one two a b =
    is_retire past k h one a (λ e. AreOne setup predict past e two)
    (λ m x of_m. is_retire past k h two b (λ e. AreOne setup predict past (Retire k m x) e)
    (λ n y of_n ok says also too. retire-one setup past legal k h m n x y of_m of_n ok also)
    (λ n of_n ok says also too. absurd (never_both_words setup past k h m n x of_m of_n ok also)))
    (λ m of_m. is_retire past k h two b (λ e. AreOne setup predict past (Refetch k m) e)
    (λ n y of_n ok says also too. absurd (never_both_words setup past k h n m y of_n of_m also ok))
    (λ n of_n ok says also too. refetch-one setup past k h m n of_m of_n ok also))

pub asks_have_one_answer : AsksHaveOneAnswer
asks_have_one_answer setup predict past legal ask one two ok a says also b too =
    answered-one setup predict past legal ask one two a b ok says also too
