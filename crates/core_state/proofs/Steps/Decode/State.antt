-- A state's decode: the state is a core's after it.
use Rattle.std.specs.Prelude.{◌≡◌, ℕ, ◌<◌, true, List, [], ◌∷◌, ◌++◌, None, length}
use Rattle.std.proofs.Common.{◌∙◌, Bool, sym, subst, arith}
use Rattle.std.proofs.lemmas.Bool.Decides.{nat_tests}
use Rattle.events.specs.{History.EventList, declared.event.Event.Event, declared.event.Event.TheVariants.Decode}
use Rattle.smt_model.specs.{Asks.AskDecode, Asks.answers, Fates.is_of, Picture.Picture, Picture.picture, Rules.refused}
use Rattle.smt_model.specs.{Jobs.is_actor, Steps.IsDecode}
use Rattle.smt_laws.proofs.{Steps.Decode.steps-Decode, Fates.Choosing.hart_there}
use Rattle.core_parts.specs.{Agree.PartsAgree, Agree.From, Agree.KeepsSizes}
use Rattle.core_steps.specs.{Decode.CanDecode, Decode.Decodes}
use Rattle.core_state.specs.{View.CoreView, declared.state.State.TheInside.Inside}
use Rattle.core_parts.specs.{declared.parts.Parts.Parts}
use Rattle.core_state.specs.State.{IsCore, view_of, past_of, setup_in}
use Rattle.core_state.proofs.Steps.Decode.Rules.{oldest_is, decode_can, can_decode, decode_from, CannotDecode}
use Rattle.core_state.proofs.{Steps.Invariant.core_grown, Steps.Invariant.quiet_decode, Views.Viewed.actor_in}

-- What the state decodes for the actor.
pub record IsDecodeIn (i : Inside) (actor h s : ℕ) : Type 0 where
  pub actor_is : is_actor (setup_in i) actor ≡ true
  pub inside : h < length i.parts.harts.items
  pub can : (p : Picture) → PartsAgree p i.parts → CanDecode p h s

-- It holds so of what the code has found.
pub decode_in : (i : Inside) (v : CoreView) → view_of i ≡ v → (actor h s : ℕ) (tested : Bool)
    → tested ≡ is_actor v.setup actor → tested ≡ true
    → h < length i.parts.harts.items → ((p : Picture) → PartsAgree p i.parts → CanDecode p h s) → IsDecodeIn i actor h s
decode_in i v view actor h s tested test yes_one inside can =
    record { actor_is = actor_in i v view actor (sym test ∙ yes_one); inside = inside; can = can }

can_in : (i : Inside) → IsCore i → (actor h s : ℕ) → IsDecodeIn i actor h s
    → CanDecode (picture (setup_in i) (past_of i)) h s
can_in i core actor h s is = is.can (picture (setup_in i) (past_of i)) core.agrees

pub decode_ok : (i : Inside) → IsCore i → (actor h s : ℕ) → IsDecodeIn i actor h s
    → refused (setup_in i) (past_of i) (Decode actor s) ≡ None
decode_ok i core actor h s is =
    decode_can (setup_in i) (past_of i) core.legal actor h s is.actor_is (can_in i core actor h s is)

answering : (past : List Event) (actor h s : ℕ) → is_of past h s ≡ true
    → answers (AskDecode actor h) past (Decode actor s) ≡ true
answering past actor h s of_hart = grind (arith, nat_tests)

pub decode_answers : (i : Inside) → IsCore i → (actor h s : ℕ) → IsDecodeIn i actor h s
    → answers (AskDecode actor h) (past_of i) (Decode actor s) ≡ true
decode_answers i core actor h s is =
    answering (past_of i) actor h s
    (oldest_is (setup_in i) (past_of i) core.legal h s (can_in i core actor h s is).oldest).of_hart

pub decode_owns : (i : Inside) → IsCore i → (actor h s : ℕ) → IsDecodeIn i actor h s → is_of (past_of i) h s ≡ true
decode_owns i core actor h s is =
    (oldest_is (setup_in i) (past_of i) core.legal h s (can_in i core actor h s is).oldest).of_hart

-- One that may come next.
module _ (i : Inside) (core : IsCore i) (v : CoreView) (at : view_of i ≡ v) (actor h s : ℕ)
    (ok : refused v.setup v.past (Decode actor s) ≡ None) (of_h : is_of v.past h s ≡ true) where
  allowed : refused (setup_in i) (past_of i) (Decode actor s) ≡ None
  allowed = subst (λ u. refused u.setup u.past (Decode actor s) ≡ None) (sym at) ok

  own : is_of (past_of i) h s ≡ true
  own = subst (λ u. is_of u.past h s ≡ true) (sym at) of_h

  pub decode_starts : From i.parts h (λ p q. Decodes p q h)
  decode_starts =
      decode_from (setup_in i) (past_of i) core.legal i.parts core.agrees actor h s
      (subst (λ n. h < n) (sym core.harts) (hart_there (setup_in i) (past_of i) core.legal h s own))
      (can_decode (setup_in i) (past_of i) actor h s own allowed) allowed

  pub decode_core : (parts : Parts) (history : EventList)
      → ((p q : Picture) → PartsAgree p i.parts → (n : ℕ) → IsDecode p q h n → PartsAgree q parts)
      → KeepsSizes i.parts parts
      → history ≡ record i.history { items = i.history.items ++ Decode actor s ∷ [] }
      → IsCore (record i { parts = parts; history = history })
  decode_core parts history agrees sizes longer =
      core_grown i parts history (Decode actor s) core
      (record {
        allowed = allowed;
        agrees = agrees (picture (setup_in i) (past_of i)) (picture (setup_in i) (Decode actor s ∷ past_of i))
            core.agrees s (steps-Decode (setup_in i) (past_of i) core.legal actor s allowed h own);
        sizes = sizes;
      }) (quiet_decode actor s) longer

pub none_decodes : (i : Inside) → IsCore i → (actor h : ℕ)
    → ((p : Picture) → PartsAgree p i.parts → h < length i.parts.harts.items → (s : ℕ) → CanDecode p h s → ⊥)
    → CannotDecode (setup_in i) (past_of i) actor h
none_decodes i core actor h none = λ is_one there s can.
    none (picture (setup_in i) (past_of i)) core.agrees (subst (λ n. h < n) (sym core.harts) there) s can
