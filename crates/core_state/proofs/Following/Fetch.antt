-- Which rule a fetch breaks.
use Rattle.std.specs.Prelude.{◌≡◌, ℕ, ◌<◌, ◌==◌, Bool, true, false, List, [], ◌∷◌, Option, Some, None}
use Rattle.std.proofs.Common.{◌∙◌, refl, sym, ap}
use Rattle.elf_image.specs.Image.{word_now}
use Rattle.events.specs.{declared.event.Event.Event, declared.event.Event.TheVariants.Fetch}
use Rattle.smt_model.specs.{Basics.same_number, Setup.Setup, Jobs.is_actor, Fates.fetches, Memory.byte_at}
use Rattle.smt_model.specs.Fetching.{choice, fetch_pc}
use Rattle.smt_model.specs.Rules.{first_failing, refused}
use Rattle.smt_laws.proofs.Fates.Choosing.{chosen}
use Rattle.smt_model.proofs.Fates.Moves.{same_number-is}
use Rattle.smt_model.proofs.Fates.Moves.{fetch_number}
use Rattle.core_steps.specs.{Fetch.next_hart, declared.point.FetchPoint.FetchPoint}
use Rattle.core_state.specs.{Answers.fetched_at}
use Rattle.core_state.specs.{State.IsCore, State.past_of, State.setup_in, State.view_of}
use Rattle.core_state.specs.{View.CoreView, declared.state.State.TheInside.Inside}
use Rattle.core_state.proofs.{Following.Tests.refused-is, Following.Tests.holds, Following.Tests.fails}
use Rattle.core_state.proofs.{Steps.Fetch.Rules.choice-is}

-- ---- The choice

pub chosen_is : (i : Inside) → IsCore i → (v : CoreView) → view_of i ≡ v
    → next_hart i.parts.harts.items i.last ≡ choice v.setup v.past
chosen_is i core v at =
    choice-is (setup_in i) (past_of i) i.parts.harts.items i.last core.agrees.harts core.harts core.last
    ∙ ap (λ (u : CoreView). choice u.setup u.past) at

pub some_chosen : (o : Option ℕ) (k h : ℕ) → o ≡ Some k → (k == h) ≡ same_number o (Some h)
some_chosen o k h is_it = rw is_it refl

pub none_chosen : (o : Option ℕ) (h : ℕ) → o ≡ None → false ≡ same_number o (Some h)
none_chosen o h is_it = rw is_it refl

pub chosen_there : (setup : Setup) (past : List Event) (h : ℕ) → same_number (choice setup past) (Some h) ≡ true
    → h < setup.harts
chosen_there setup past h same = (chosen setup past h (same_number-is (choice setup past) (Some h) same)).there

pub fetched_view : (i : Inside) → IsCore i → (v : CoreView) → view_of i ≡ v → i.fetched ≡ fetches v.past
fetched_view i core v at = core.fetched ∙ ap (λ (u : CoreView). fetches u.past) at

-- ---- The rules

module _ (setup : Setup) (past : List Event) (actor h s pc : ℕ) (word : Option ℕ) (predicted : ℕ) where
  abbrev behind_choice : List (ℕ × Bool)
  behind_choice =
      (3, s == fetches past) ∷ (4, pc == fetch_pc setup past h)
      ∷ (5, same_number word (word_now setup.image (byte_at setup past) pc)) ∷ []

  abbrev behind_actor : List (ℕ × Bool)
  behind_actor = (2, same_number (choice setup past) (Some h)) ∷ behind_choice

  pub no_actor : is_actor setup actor ≡ false → refused setup past (Fetch actor h s pc word predicted) ≡ Some 1
  no_actor none =
      refused-is setup past (Fetch actor h s pc word predicted)
      ∙ fails 1 (is_actor setup actor) behind_actor none

  pub not_chosen : is_actor setup actor ≡ true → same_number (choice setup past) (Some h) ≡ false
      → refused setup past (Fetch actor h s pc word predicted) ≡ Some 2
  not_chosen one other =
      refused-is setup past (Fetch actor h s pc word predicted)
      ∙ (holds 1 (is_actor setup actor) behind_actor one
      ∙ fails 2 (same_number (choice setup past) (Some h)) behind_choice other)

  pub there : (a b c : Bool) → is_actor setup actor ≡ true → same_number (choice setup past) (Some h) ≡ true
      → a ≡ (s == fetches past) → b ≡ (pc == fetch_pc setup past h)
      → c ≡ same_number word (word_now setup.image (byte_at setup past) pc)
      → refused setup past (Fetch actor h s pc word predicted) ≡ first_failing ((3, a) ∷ (4, b) ∷ (5, c) ∷ [])
  there a b c one this a_is b_is c_is =
      refused-is setup past (Fetch actor h s pc word predicted)
      ∙ (holds 1 (is_actor setup actor) behind_actor one
      ∙ (holds 2 (same_number (choice setup past) (Some h)) behind_choice this
      ∙ rw (sym a_is, sym b_is, sym c_is) refl))

-- The number of an allowed fetch is the next.
pub fetch_at : (setup : Setup) (past : List Event) (actor s predicted : ℕ) (point : FetchPoint)
    → refused setup past (Fetch actor point.hart s point.pc point.word predicted) ≡ None
    → Fetch actor point.hart s point.pc point.word predicted ≡ fetched_at actor point predicted past
fetch_at setup past actor s predicted point ok =
    ap (λ n. Fetch actor point.hart n point.pc point.word predicted)
    (fetch_number setup past actor point.hart s point.pc point.word predicted ok)
