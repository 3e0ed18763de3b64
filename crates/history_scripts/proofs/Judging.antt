-- How the events of a history are decided.
use Rattle.std.specs.Prelude.{◌≡◌, ◌≢◌, ◌<◌, ◌≤◌, ◌+◌, ◌==◌, ℕ, true, false, Bool, List, [], ◌∷◌, ◌++◌, length, reverse, take, drop}
use Rattle.std.specs.Prelude.{slice_index_or, Option, Some, None, is_some}
use Rattle.std.proofs.Common.{◌∙◌, refl, sym, ap, subst, inl, inr, arith}
use Rattle.std.proofs.{lemmas.Bool.cases_lt, lemmas.Bool.true≢false, lemmas.Bool.Decides.nat_tests}
use Rattle.std.proofs.{lemmas.Option.none-some, lemmas.List.reverse-append, lemmas.List.take-append-drop}
use Rattle.std.proofs.lemmas.List.{get_or_default, length-reverse, length-take-le, take_all}
use Rattle.free_list.specs.Flags.{holds, IsLeast}
use Rattle.events.specs.declared.event.Event.{Event}
use Rattle.smt_model.specs.{Setup.Setup, Picture.is_free, Picture.picture, Rules.refused, Rules.is_legal}
use Rattle.smt_laws.specs.Shown.{IsLeastFree, IsDecided}
use Rattle.core_parts.specs.Agree.{FreeAgrees}
use Rattle.core_state.specs.View.{CoreView, grown}
use Rattle.history_check.specs.Checking.{past_at}
use Rattle.smt_core.specs.{Answers.IsGuess, Following.IsFollowed, declared.follow.Followed.Followed}
use Rattle.smt_core.specs.declared.follow.Followed.TheVariants as followed
use Rattle.schedules.specs.Replies.{IsFunction, predictor_of}
use Rattle.history_scripts.specs.Deciding.{AreGuessedBy, IsOtherwise, IsFirstOther, OfItsGuesses}
use Rattle.history_scripts.proofs.Numbered.{past_next}

-- ---- The least free register

pub least_is : (setup : Setup) (past : List Event) (free : List Bool) (least register : ℕ)
    → FreeAgrees (picture setup past) free → IsLeast free least → least ≡ register → IsLeastFree setup past register
least_is setup past free least register agrees is same =
    subst (IsLeastFree setup past) same
    (sym (agrees least) ∙ is.is_free, λ q under. sym (agrees q) ∙ is.least q under)

pub least_other : (setup : Setup) (past : List Event) (free : List Bool) (least register : ℕ)
    → FreeAgrees (picture setup past) free → IsLeast free least → least ≢ register → IsLeastFree setup past register → ⊥
least_other setup past free least register agrees is other found =
    elim (cases_lt least register) [
      | inl under ↦ true≢false (sym is.is_free ∙ (agrees least ∙ found.1 least under))
      | inr above ↦ true≢false (sym found.0 ∙ (sym (agrees register) ∙ is.least register (omega (arith, other))))
    ]

pub none_free : (setup : Setup) (past : List Event) (free : List Bool) (register : ℕ)
    → FreeAgrees (picture setup past) free → ((q : ℕ) → holds free q ≡ false) → IsLeastFree setup past register → ⊥
none_free setup past free register agrees none found =
    true≢false (sym found.0 ∙ (sym (agrees register) ∙ none register))

-- ---- A guess

pub guess_is : {P : Type 0} (predicts : P → ℕ → ℕ → ℕ → ℕ → P → Type 0) (guess : ℕ → ℕ → ℕ → ℕ)
    → IsFunction predicts guess → (before after : P) (hart pc : ℕ) (word : Option ℕ) (guessed : ℕ)
    → IsGuess predicts before hart pc word guessed after → guessed ≡ predictor_of guess hart pc word
guess_is predicts guess function before after hart pc (Some word) guessed is =
    function before hart pc word guessed after is
guess_is predicts guess function before after hart pc None guessed is = is.0

-- ---- The next event of a legal history is followed

behind : (setup : Setup) (newer past : List Event) → is_legal setup (newer ++ past) → is_legal setup past
behind setup [] past legal = legal
behind setup (e ∷ newer) past legal = behind setup newer past legal.1

all_turned : (events : List Event) (i : ℕ) → reverse events ≡ reverse (drop i events) ++ past_at events i
all_turned events i =
    ap reverse (sym (take-append-drop i events)) ∙ reverse-append (take i events) (drop i events)

pub may_come : (setup : Setup) (events : List Event) (i : ℕ) (d : Event) → i < length events
    → is_legal setup (reverse events) → refused setup (past_at events i) (slice_index_or events i d) ≡ None
may_come setup events i d inside legal =
    let here = behind setup (reverse (drop (i + 1) events)) (past_at events (i + 1))
    (subst (is_legal setup) (all_turned events (i + 1)) legal) in
    let newest : is_legal setup (slice_index_or events i d ∷ past_at events i) =
    subst (is_legal setup) (past_next events i d inside) here in
    newest.0

pub followed_on : (old : CoreView) (e : Event) (said : Followed) (new : CoreView) → IsFollowed old e said new
    → length old.past < old.limit → refused old.setup old.past e ≡ None → new ≡ grown e old
followed_on old e followed.Done new is room ok = is.grows
followed_on old e (followed.Refused rule) new is room ok = absurd (none-some rule (sym ok ∙ is.breaks))
followed_on old e followed.Full new is room ok = let full = is.full in absurd (omega (arith, full, room))

-- A core that has followed some of the events follows the next.
pub follow_next : (events : List Event) (i : ℕ) (d : Event) (start old new : CoreView) (said : Followed)
    → old ≡ record start { past = past_at events i } → i < length events → length events ≤ start.limit
    → is_legal start.setup (reverse events) → IsFollowed old (slice_index_or events i d) said new
    → new ≡ record start { past = past_at events (i + 1) }
follow_next events i d start old new said same inside room legal is =
    let count : length (past_at events i) ≡ i =
    length-reverse (take i events) ∙ length-take-le i events (omega arith) in
    let here = subst (λ c. IsFollowed c (slice_index_or events i d) said new) same is in
    followed_on (record start { past = past_at events i }) (slice_index_or events i d) said new here (omega arith)
    (may_come start.setup events i d inside legal)
    ∙ ap (λ (p : List Event). record start { past = p }) (sym (past_next events i d inside))

-- ---- All events so far

module _ {P : Type 0} (predicts : P → ℕ → ℕ → ℕ → ℕ → P → Type 0) (setup : Setup) (events : List Event) where
  pub guessed_more : (i : ℕ) (d : Event) → i < length events → AreGuessedBy predicts setup (past_at events i)
      → OfItsGuesses predicts
      (λ guess. IsDecided setup (predictor_of guess) (past_at events i) (slice_index_or events i d))
      → AreGuessedBy predicts setup (past_at events (i + 1))
  guessed_more i d inside before next =
      subst (AreGuessedBy predicts setup) (sym (past_next events i d inside))
      (λ guess function. (next guess function, before guess function))

  pub first_other : (i : ℕ) (d : Event) (is_kind : Event → Bool) → i < length events
      → AreGuessedBy predicts setup (past_at events i) → is_kind (slice_index_or events i d) ≡ true
      → IsOtherwise predicts setup (past_at events i) (slice_index_or events i d)
      → IsFirstOther predicts setup events is_kind i
  first_other i d is_kind inside before kind other = record {
    event = slice_index_or events i d;
    inside = inside;
    there = λ z. get_or_default events i z d inside;
    is_of_kind = kind;
    before = before;
    other = other;
  }

  pub guessed_next : (i : ℕ) (d : Event) (start old : CoreView) → old ≡ record start { past = past_at events i }
      → start.setup ≡ setup → i < length events → AreGuessedBy predicts setup (past_at events i)
      → OfItsGuesses predicts
      (λ guess. IsDecided old.setup (predictor_of guess) old.past (slice_index_or events i d))
      → AreGuessedBy predicts setup (past_at events (i + 1))
  guessed_next i d start old same own inside before next =
      guessed_more i d inside before
      (subst (λ s. OfItsGuesses predicts
      (λ guess. IsDecided s (predictor_of guess) (past_at events i) (slice_index_or events i d))) own
      (subst (λ (c : CoreView). OfItsGuesses predicts
      (λ guess. IsDecided c.setup (predictor_of guess) c.past (slice_index_or events i d))) same next))

  pub all_guessed : (i : ℕ) → length events ≤ i → AreGuessedBy predicts setup (past_at events i)
      → AreGuessedBy predicts setup (reverse events)
  all_guessed i end before = subst (AreGuessedBy predicts setup) (ap reverse (take_all i events end)) before
