-- Six events an instruction are the least. What the events have done beyond the retired instructions is the stages of
-- those on their way: each event takes one instruction at most one stage on.
use Rattle.std.specs.Prelude.{◌≡◌, ◌≢◌, ℕ, suc, ◌+◌, ◌*◌, ◌≤◌, Bool, true, false, ◌==◌, nat_le, if◌then◌else◌, List, []}
use Rattle.std.specs.Prelude.{◌∷◌, ◌++◌, length, map, Option, Some, None}
use Rattle.std.proofs.Common.{refl, sym, ap, subst, inl, inr, arith}
use Rattle.std.proofs.{lemmas.Bool.cases_Bool, lemmas.Bool.cases_eq, lemmas.Bool.Decides.nat_tests}
use Rattle.std.proofs.{lemmas.List.append-nil}
use Rattle.events.specs.{declared.effect.Effect.Effect, declared.effect.Record.Record, declared.event.Event.Event}
use Rattle.events.specs.declared.event.Event.TheVariants.{Fetch, Decode, Rename, Issue, Complete, Drop, Retire, Refetch}
use Rattle.smt_model.specs.{Basics.total, Setup.Setup, Account.order, Account.records, Account.record_of}
use Rattle.smt_model.specs.{Rules.refused, Rules.is_legal, Flights.all_numbers}
use Rattle.smt_model.specs.Fates.{Fate, Fetched, fate, fate_by, fetching, is_live, squashed_fate, squashes, stage}
use Rattle.smt_model.proofs.{Lists.member, Lists.Each-at, Lists.Rises, Fates.Sound.sound}
use Rattle.smt_model.proofs.{Fates.Sound.moved, Fates.Numbers.all_numbers-member, Fates.Numbers.all_numbers-rise}
use Rattle.smt_model.proofs.Fates.Numbers.{all_numbers-below, known_below}
use Rattle.smt_model.proofs.Fates.Moves.{moves, fetch_number, fetch_was, decode_was, rename_was, issue_was}
use Rattle.smt_model.proofs.Fates.Moves.{complete_was}
use Rattle.smt_model.proofs.Fates.Moves.{retire_was, stage-retired_as}
use Rattle.smt_laws.specs.Shown.{TakesSixEach}
use Rattle.smt_laws.proofs.Showing.Counting.{total-most}
use Rattle.smt_laws.proofs.Showing.{Turns.fate-other}

-- ---- Words

-- The stage of one on its way, else nothing.
abbrev way : ℕ → ℕ
way at = if nat_le at 5 then at else 0

abbrev on_the_way : List Event → List ℕ → ℕ
on_the_way past = total (λ s. way (stage (fate past s)))

-- ---- Sums

total-append : (f : ℕ → ℕ) (xs : List ℕ) (n : ℕ) → total f (xs ++ n ∷ []) ≡ total f xs + f n
total-append f [] n = omega arith
total-append f (x ∷ xs) n = let rest = total-append f xs n in omega arith

-- One member changes, and no other counts more.
total-changed : (f g : ℕ → ℕ) (n less more : ℕ) (xs : List ℕ) → Rises xs → member n xs ≡ true
    → g n + less ≤ f n + more → ((x : ℕ) → x ≢ n → g x ≤ f x) → total g xs + less ≤ total f xs + more
total-changed f g n less more [] rises inside changed most = absurd (grind arith)
total-changed f g n less more (x ∷ xs) rises inside changed most =
    elim (cases_eq x n) [
      | inl here ↦
          let own : g x + less ≤ f x + more = subst (λ z. g z + less ≤ f z + more) (sym here) changed in
          let rest = total-most f g xs (λ y m.
          let above = Each-at (λ z. suc x ≤ z) xs rises.0 y m in
          most y (λ same. absurd (omega arith))) in
          omega arith
      | inr other ↦
          let one = most x other in
          let behind : member n xs ≡ true = grind (arith, nat_tests) in
          let rest = total-changed f g n less more xs rises.1 behind changed most in
          omega arith
    ]

-- ---- An event

way-squashed : (squashed : Bool) (old : Fate)
    → way (stage (if squashed then squashed_fate old else old)) ≤ way (stage old)
way-squashed false old = omega arith
way-squashed true old = elim (cases_Bool (is_live old)) [
  | inl lives ↦ rw lives (omega arith)
  | inr gone ↦ rw gone (omega arith)
]

-- No other comes further.
other-most : (past : List Event) (e : Event) (s : ℕ) → fate_by e s ≡ None
    → way (stage (fate (e ∷ past) s)) ≤ way (stage (fate past s))
other-most past e s tells =
    subst (λ f. way (stage f) ≤ way (stage (fate past s))) (sym (fate-other past e s tells))
    (way-squashed (squashes e past s) (fate past s))

one_more : (a b : ℕ) → moves a b ≡ true → way b + 0 ≤ way a + 1
one_more a b move = grind (arith, nat_tests)

retired_way : (a b : ℕ) → moves a b ≡ true → a ≡ 5 → 6 ≤ b → way b + 5 ≤ way a + 0
retired_way a b move five six = grind (arith, nat_tests)

-- An event of n, which is known: it comes one stage on at most.
stepped : (setup : Setup) (past : List Event) → is_legal setup past → (e : Event) → refused setup past e ≡ None
    → (n : ℕ) → 1 ≤ stage (fate past n) → ((s : ℕ) → s ≢ n → fate_by e s ≡ None)
    → on_the_way (e ∷ past) (all_numbers past) + 0 ≤ on_the_way past (all_numbers past) + 1
stepped setup past legal e ok n is_known tells =
    total-changed (λ s. way (stage (fate past s))) (λ s. way (stage (fate (e ∷ past) s))) n 0 1 (all_numbers past)
    (all_numbers-rise setup past legal)
    (all_numbers-member setup past legal n (known_below setup past legal n is_known))
    (one_more (stage (fate past n)) (stage (fate (e ∷ past) n)) (moved setup past legal e ok n))
    (λ s other. other-most past e s (tells s other))

-- A retirement ends its way.
stepped-Retire : (setup : Setup) (past : List Event) → is_legal setup past → (actor n : ℕ) (x : Effect)
    → refused setup past (Retire actor n x) ≡ None
    → on_the_way (Retire actor n x ∷ past) (all_numbers past) + 5 ≤ on_the_way past (all_numbers past) + 0
stepped-Retire setup past legal actor n x ok =
    let e = Retire actor n x in
    let was = retire_was setup past actor n x ok in
    let told = stage-retired_as x in
    let now : 6 ≤ stage (fate (e ∷ past) n) = grind (arith, nat_tests, told) in
    total-changed (λ s. way (stage (fate past s))) (λ s. way (stage (fate (e ∷ past) s))) n 5 0 (all_numbers past)
    (all_numbers-rise setup past legal)
    (all_numbers-member setup past legal n (known_below setup past legal n (omega arith)))
    (retired_way (stage (fate past n)) (stage (fate (e ∷ past) n)) (moved setup past legal e ok n) was now)
    (λ s other. other-most past e s (let apart : (n == s) ≡ false = grind (arith, nat_tests) in rw apart refl))

-- ---- All events

-- Six for each that has retired, and those of the others on their way.
abbrev Covers : List Event → Type 0
Covers past = 6 * length (order past) + on_the_way past (all_numbers past) ≤ length past

covers-on : (past : List Event) (e : Event) → all_numbers (e ∷ past) ≡ all_numbers past
    → order (e ∷ past) ≡ order past
    → on_the_way (e ∷ past) (all_numbers past) + 0 ≤ on_the_way past (all_numbers past) + 1
    → Covers past → Covers (e ∷ past)
covers-on past e numbers orders step before =
    let all : on_the_way (e ∷ past) (all_numbers (e ∷ past)) ≡ on_the_way (e ∷ past) (all_numbers past) =
    ap (on_the_way (e ∷ past)) numbers in
    let retired : length (order (e ∷ past)) ≡ length (order past) = ap length orders in
    omega arith

order-most : (o : Option Fetched) (x : Effect) (older : List Record)
    → length (map (λ r. r.hart) (record_of o x ++ older)) ≤ suc (length (map (λ r. r.hart) older))
order-most None x older = omega arith
order-most (Some f) x older = omega arith

fetch-way : (setup : Setup) (past : List Event) → is_legal setup past
    → (actor hart n pc : ℕ) (word : Option ℕ) (predicted : ℕ)
    → refused setup past (Fetch actor hart n pc word predicted) ≡ None
    → on_the_way (Fetch actor hart n pc word predicted ∷ past) (all_numbers past ++ n ∷ [])
    ≤ on_the_way past (all_numbers past) + 1
fetch-way setup past legal actor hart n pc word predicted ok =
    let e = Fetch actor hart n pc word predicted in
    let given = fetch_number setup past actor hart n pc word predicted ok in
    let was = fetch_was setup past (sound setup past legal) actor hart n pc word predicted ok in
    let own : way (stage (fate (e ∷ past) n)) ≤ 1 =
    (let step = one_more (stage (fate past n)) (stage (fate (e ∷ past) n)) (moved setup past legal e ok n) in
    grind (arith, nat_tests)) in
    let others = total-most (λ s. way (stage (fate past s))) (λ s. way (stage (fate (e ∷ past) s))) (all_numbers past)
    (λ s m.
    let under = all_numbers-below setup past legal s m in
    other-most past e s (let apart : (n == s) ≡ false = grind (arith, nat_tests) in rw apart refl)) in
    let split = total-append (λ s. way (stage (fate (e ∷ past) s))) (all_numbers past) n in
    omega arith

apart_test : (n s : ℕ) → s ≢ n → (n == s) ≡ false
apart_test n s other = grind (arith, nat_tests)

covers : (setup : Setup) (past : List Event) → is_legal setup past → Covers past
covers setup [] legal = omega arith
covers setup (Fetch actor hart n pc word predicted ∷ past) legal =
    let before = covers setup past legal.1 in
    let step = fetch-way setup past legal.1 actor hart n pc word predicted legal.0 in
    omega arith
covers setup (Decode actor n ∷ past) legal =
    let was = decode_was setup past actor n legal.0 in
    covers-on past (Decode actor n) (append-nil (all_numbers past)) refl
    (stepped setup past legal.1 (Decode actor n) legal.0 n (omega arith) (λ s other. rw (apart_test n s other) refl))
    (covers setup past legal.1)
covers setup (Rename actor n register ∷ past) legal =
    let was = rename_was setup past actor n register legal.0 in
    covers-on past (Rename actor n register) (append-nil (all_numbers past)) refl
    (stepped setup past legal.1 (Rename actor n register) legal.0 n (omega arith)
    (λ s other. rw (apart_test n s other) refl))
    (covers setup past legal.1)
covers setup (Issue actor n ∷ past) legal =
    let was = issue_was setup past actor n legal.0 in
    covers-on past (Issue actor n) (append-nil (all_numbers past)) refl
    (stepped setup past legal.1 (Issue actor n) legal.0 n (omega arith) (λ s other. rw (apart_test n s other) refl))
    (covers setup past legal.1)
covers setup (Complete actor n o ∷ past) legal =
    let was = complete_was setup past (sound setup past legal.1) actor n o legal.0 in
    covers-on past (Complete actor n o) (append-nil (all_numbers past)) refl
    (stepped setup past legal.1 (Complete actor n o) legal.0 n (omega arith)
    (λ s other. rw (apart_test n s other) refl))
    (covers setup past legal.1)
covers setup (Drop actor n ∷ past) legal =
    covers-on past (Drop actor n) (append-nil (all_numbers past)) refl (omega arith) (covers setup past legal.1)
covers setup (Refetch actor n ∷ past) legal =
    let most = total-most (λ s. way (stage (fate past s))) (λ s. way (stage (fate (Refetch actor n ∷ past) s)))
    (all_numbers past) (λ s m. other-most past (Refetch actor n) s refl) in
    covers-on past (Refetch actor n) (append-nil (all_numbers past)) refl (omega arith) (covers setup past legal.1)
covers setup (Retire actor n x ∷ past) legal =
    let before = covers setup past legal.1 in
    let step = stepped-Retire setup past legal.1 actor n x legal.0 in
    let more = order-most (fetching past n) x (records past) in
    let all : on_the_way (Retire actor n x ∷ past) (all_numbers past ++ [])
    ≡ on_the_way (Retire actor n x ∷ past) (all_numbers past) =
    ap (on_the_way (Retire actor n x ∷ past)) (append-nil (all_numbers past)) in
    omega arith

pub takes_six_each : TakesSixEach
takes_six_each setup past legal = let all = covers setup past legal in omega arith
