-- The lines of a history's script are words, and ask for its events.
use Rattle.std.specs.Prelude.{◌≡◌, ◌<◌, ◌≤◌, ◌==◌, ◌&&◌, ℕ, Bool, true, List, [], ◌∷◌, ◌++◌, length, map, reverse, flat_map}
use Rattle.std.specs.Prelude.{slice_index_or, Option, Some, None}
use Rattle.std.specs.List.{AllByRecursion}
use Rattle.std.proofs.Common.{◌∙◌, refl, sym, ap, subst, append-nil, arith}
use Rattle.std.proofs.{lemmas.Bool.Decides.nat_tests}
use Rattle.std.proofs.lemmas.List.{map-append, reverse-append, reverse-reverse}
use Rattle.std.proofs.lemmas.List.Concat.{flat_map-append}
use Rattle.numbers.specs.Sizes.{most_actors, most_harts}
use Rattle.events.specs.declared.event.Event.{Event}
use Rattle.events.specs.declared.event.Event.TheVariants.{Fetch, Decode, Rename, Issue, Complete}
use Rattle.events.specs.declared.event.Event.TheVariants.{Drop, Retire, Refetch}
use Rattle.smt_model.specs.{Setup.Setup, Setup.is_accepted, Jobs.is_actor, Rules.refused, Rules.is_legal}
use Rattle.smt_model.specs.Fates.{fate, stage, is_of}
use Rattle.smt_model.specs.Asks.{Ask, AskFetch, AskDecode, AskRename, AskIssue, AskComplete, AskRetire, answers}
use Rattle.smt_model.proofs.Allowed.{fetch_allowed, decode_allowed, rename_allowed, issue_allowed, complete_allowed}
use Rattle.smt_model.proofs.Allowed.{drop_allowed, retire_allowed, refetch_allowed}
use Rattle.smt_model.proofs.Fates.Moves.{decode_was, rename_was, retire_was, refetch_was}
use Rattle.smt_model.proofs.Fates.Numbers.{known_fetched}
use Rattle.smt_laws.proofs.Fates.Choosing.{hart_there}
use Rattle.scripts.specs.{declared.actions.ScriptWord.ScriptWord, Script.IsInRange}
use Rattle.scripts.specs.Lines.{IsWord, LinesAreScripts, words_in, line_text}
use Rattle.schedules.specs.Asks.{asks_of_word, asks_of}
use Rattle.history_scripts.specs.Asked.{AreAnswered, AsksFor}
use Rattle.history_scripts.specs.{Again.IsScriptOf, Again.ScriptsMakeAgain, Deciding.AreGuessedBy, Refusals.IsHistory}
use Rattle.history_scripts.specs.Lines.{harts_in, action_for, word_for, line_for, lines_for, text_for}
use Rattle.history_scripts.proofs.Numbered.{HaveHarts, have_harts, have_before}

-- ---- One event

abbrev ask_for : List ℕ → Event → Ask
ask_for harts (Fetch actor hart seq pc word predicted) = AskFetch actor
ask_for harts (Decode actor seq) = AskDecode actor (slice_index_or harts seq 0)
ask_for harts (Rename actor seq phys) = AskRename actor (slice_index_or harts seq 0)
ask_for harts (Issue actor seq) = AskIssue actor
ask_for harts (Complete actor seq outcome) = AskComplete actor
ask_for harts (Drop actor seq) = AskComplete actor
ask_for harts (Retire actor seq effect) = AskRetire actor (slice_index_or harts seq 0)
ask_for harts (Refetch actor seq) = AskRetire actor (slice_index_or harts seq 0)

one_ask : (harts : List ℕ) (e : Event) → asks_of_word (word_for harts e) ≡ ask_for harts e ∷ []
one_ask harts (Fetch actor hart seq pc word predicted) = refl
one_ask harts (Decode actor seq) = refl
one_ask harts (Rename actor seq phys) = refl
one_ask harts (Issue actor seq) = refl
one_ask harts (Complete actor seq outcome) = refl
one_ask harts (Drop actor seq) = refl
one_ask harts (Retire actor seq effect) = refl
one_ask harts (Refetch actor seq) = refl

module _ (setup : Setup) (few_actors : length setup.roles ≤ most_actors) (few_harts : setup.harts ≤ most_harts)
    (harts : List ℕ) where
  -- The event answers its ask, which can be spelled.
  record IsWorded (past : List Event) (e : Event) : Type 0 where
    suits : answers (ask_for harts e) past e ≡ true
    in_range : IsInRange (action_for harts e)

  actor_small : (actor : ℕ) → is_actor setup actor ≡ true → actor < most_actors
  actor_small actor there = grind (arith, nat_tests)

  -- The list has the hart of a known instruction.
  own_hart : (past : List Event) → is_legal setup past → HaveHarts harts past → (s : ℕ) → 1 ≤ stage (fate past s)
      → is_of past (slice_index_or harts s 0) s ≡ true
  own_hart past legal have s known =
      let found = known_fetched setup past legal s known in
      subst (λ h. is_of past h s ≡ true) (sym (have s found.fetch found.fetched)) found.of_hart

  hart_small : (past : List Event) → is_legal setup past → (h s : ℕ) → is_of past h s ≡ true → h < most_harts
  hart_small past legal h s of_h = let there = hart_there setup past legal h s of_h in omega arith

  own : (actor : ℕ) (b : Bool) → b ≡ true → ((actor == actor) && b) ≡ true
  own actor b so = grind (arith, nat_tests)

  worded : (past : List Event) → is_legal setup past → HaveHarts harts past → (e : Event) → refused setup past e ≡ None
      → IsWorded past e
  worded past legal have (Fetch actor hart seq pc word predicted) ok = record {
    suits = grind (arith, nat_tests);
    in_range = actor_small actor (fetch_allowed setup past actor hart seq pc word predicted ok).actor_is;
  }
  worded past legal have (Decode actor seq) ok =
      let was = decode_was setup past actor seq ok in
      let mine = own_hart past legal have seq (omega arith) in
      record {
        suits = own actor _ mine;
        in_range = (
          actor_small actor (decode_allowed setup past actor seq ok).actor_is,
          hart_small past legal (slice_index_or harts seq 0) seq mine,
        );
      }
  worded past legal have (Rename actor seq phys) ok =
      let was = rename_was setup past actor seq phys ok in
      let mine = own_hart past legal have seq (omega arith) in
      record {
        suits = own actor _ mine;
        in_range = (
          actor_small actor (rename_allowed setup past actor seq phys ok).actor_is,
          hart_small past legal (slice_index_or harts seq 0) seq mine,
        );
      }
  worded past legal have (Issue actor seq) ok = record {
    suits = grind (arith, nat_tests);
    in_range = actor_small actor (issue_allowed setup past actor seq ok).actor_is;
  }
  worded past legal have (Complete actor seq outcome) ok = record {
    suits = grind (arith, nat_tests);
    in_range = actor_small actor (complete_allowed setup past actor seq outcome ok).actor_is;
  }
  worded past legal have (Drop actor seq) ok = record {
    suits = grind (arith, nat_tests);
    in_range = actor_small actor (drop_allowed setup past actor seq ok).actor_is;
  }
  worded past legal have (Retire actor seq effect) ok =
      let was = retire_was setup past actor seq effect ok in
      let mine = own_hart past legal have seq (omega arith) in
      record {
        suits = own actor _ mine;
        in_range = (
          actor_small actor (retire_allowed setup past actor seq effect ok).actor_is,
          hart_small past legal (slice_index_or harts seq 0) seq mine,
        );
      }
  worded past legal have (Refetch actor seq) ok =
      let was = refetch_was setup past actor seq ok in
      let mine = own_hart past legal have seq (omega arith) in
      record {
        suits = own actor _ mine;
        in_range = (
          actor_small actor (refetch_allowed setup past actor seq ok).actor_is,
          hart_small past legal (slice_index_or harts seq 0) seq mine,
        );
      }

  -- ---- All events

  all_suit : (past : List Event) → is_legal setup past → HaveHarts harts past
      → AreAnswered (map (ask_for harts) past) past
  all_suit [] legal have = tt
  all_suit (e ∷ past) legal have =
      let before = have_before setup past legal.1 e legal.0 harts have in
      ((worded past legal.1 before e legal.0).suits, all_suit past legal.1 before)

  -- ---- The lines

  lines_are : (past : List Event) → is_legal setup past → HaveHarts harts past
      → AllByRecursion (AllByRecursion IsWord) (lines_for harts past)
  lines_are [] legal have = tt
  lines_are (e ∷ past) legal have =
      let before = have_before setup past legal.1 e legal.0 harts have in
      let is = worded past legal.1 before e legal.0 in (
        (record { in_range = is.in_range; once = omega arith; limit = omega arith }, tt),
        lines_are past legal.1 before,
      )

-- ---- Turned round

all_both : {A : Type 0} (P : A → Type 0) (xs ys : List A) → AllByRecursion P xs → AllByRecursion P ys
    → AllByRecursion P (xs ++ ys)
all_both P [] ys one two = two
all_both P (x ∷ xs) ys one two = (one.0, all_both P xs ys one.1 two)

all_reversed : {A : Type 0} (P : A → Type 0) (xs : List A) → AllByRecursion P xs → AllByRecursion P (reverse xs)
all_reversed P [] all = tt
all_reversed P (x ∷ xs) all =
    subst (AllByRecursion P) (sym (reverse-append (x ∷ []) xs))
    (all_both P (reverse xs) (x ∷ []) (all_reversed P xs all.1) (all.0, tt))

map-reversed : {A B : Type 0} (f : A → B) (xs : List A) → map f (reverse xs) ≡ reverse (map f xs)
map-reversed f [] = refl
map-reversed f (x ∷ xs) =
    ap (map f) (reverse-append (x ∷ []) xs)
    ∙ (map-append f (reverse xs) (x ∷ [])
    ∙ (ap (λ ys. ys ++ f x ∷ []) (map-reversed f xs) ∙ sym (reverse-append (f x ∷ []) (map f xs))))

words_are : (harts : List ℕ) (events : List Event) → words_in (lines_for harts events) ≡ map (word_for harts) events
words_are harts [] = refl
words_are harts (e ∷ events) = ap (λ ws. word_for harts e ∷ ws) (words_are harts events)

asks_are : (harts : List ℕ) (events : List Event) → asks_of (map (word_for harts) events) ≡ map (ask_for harts) events
asks_are harts [] = refl
asks_are harts (e ∷ events) =
    ap (λ l. l ++ asks_of (map (word_for harts) events)) (one_ask harts e)
    ∙ ap (λ l. ask_for harts e ∷ l) (asks_are harts events)

pub asks_for : (setup : Setup) (limit : ℕ) (events : List Event) (harts : List ℕ) → is_accepted setup limit ≡ true
    → is_legal setup (reverse events) → harts ≡ harts_in (reverse events) → LinesAreScripts
    → AsksFor (reverse events) (text_for harts events)
asks_for setup limit events harts accepted legal are law =
    let few_actors : length setup.roles ≤ most_actors = grind (arith, nat_tests) in
    let few_harts : setup.harts ≤ most_harts = grind (arith, nat_tests) in
    let have = subst (λ hs. HaveHarts hs (reverse events)) (sym are) (have_harts setup (reverse events) legal) in
    let lines = lines_are setup few_actors few_harts harts (reverse events) legal have in
    let turned : reverse (lines_for harts (reverse events)) ≡ lines_for harts events =
    sym (map-reversed (line_for harts) (reverse events)) ∙ ap (map (line_for harts)) (reverse-reverse events) in
    let in_lines = subst (AllByRecursion (AllByRecursion IsWord)) turned
    (all_reversed (AllByRecursion IsWord) (lines_for harts (reverse events)) lines) in
    let asks : reverse (asks_of (words_in (lines_for harts events))) ≡ map (ask_for harts) (reverse events) =
    ap (λ ws. reverse (asks_of ws)) (words_are harts events)
    ∙ ap reverse (asks_are harts events) ∙ sym (map-reversed (ask_for harts) events) in
    record {
      words = words_in (lines_for harts events);
      is_script = law (lines_for harts events) in_lines;
      asks = subst (λ l. AreAnswered l (reverse events)) (sym asks)
          (all_suit setup few_actors few_harts harts (reverse events) legal have);
    }

-- ---- Together

pub script_of : {P : Type 0} (predicts : P → ℕ → ℕ → ℕ → ℕ → P → Type 0) (setup : Setup) (events : List Event)
    (harts : List ℕ) → IsHistory setup events → harts ≡ harts_in (reverse events)
    → AreGuessedBy predicts setup (reverse events) → LinesAreScripts → ScriptsMakeAgain predicts
    → IsScriptOf predicts setup (reverse events) (text_for harts events)
script_of predicts setup events harts history are guessed lines again =
    let asks = asks_for setup (length events) events harts history.0 history.1 are lines in
    record {
      legal = history.1;
      asks = asks;
      guessed = guessed;
      again = λ guess function.
          again guess function setup (reverse events) (text_for harts events) history.1 asks guessed;
    }
