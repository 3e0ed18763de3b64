-- What a step behind the lock comes to.
use Rattle.std.specs.Prelude.{◌≡◌, ℕ, List, Option, true}
use Rattle.events.specs.declared.event.Event.{Event}
use Rattle.core_state.specs.View.{CoreView}
use Rattle.smt_core.specs.Shown.{Shown}
use Rattle.core_lock.specs.{declared.ask.Ask.Ask, declared.ask.Asked.Asked, declared.ask.Said.Said}
use Rattle.core_lock.specs.Asks.{Replied, IsPredictedBy, asked_of, event_in, grown_by, is_reply}
use Rattle.core_lock.specs.Passes.{IsTold, more, idle_after, later, going_in}

-- What a pass says: whose it is, how many events this actor has made, and the last of them.
pub record PassSays : Type 0 where
  pub actor : ℕ
  pub count : ℕ
  pub last : Option Event

-- What a reply says: who asked, what, how many harts are going now, and what was said.
pub record ReplySays : Type 0 where
  pub actor : ℕ
  pub asked : Asked
  pub going : ℕ
  pub said : Said

-- The pass's actor has asked for a step: the core has answered it, of the predictor it was told what it guessed of a
-- fetch, and the pass has counted the event that was made, where one was. Of each actor's asks so many were answered
-- idle before (`counted`), and so many are now. Both cores are ones that may be shown.
pub record HasStepped {P : Type 0} (predicts : P → ℕ → ℕ → ℕ → ℕ → P → Type 0) (ask : Ask) (old new : CoreView)
    (before after : P) (counted counts : List ℕ) (was now : PassSays) (reply : ReplySays) : Type 0 where
  pub maker : reply.actor ≡ was.actor
  pub asked : reply.asked ≡ asked_of ask
  pub answer : Replied was.actor ask old reply.said new
  pub predicted : IsPredictedBy predicts before (asked_of ask) reply.said after
  pub grows : new ≡ grown_by (event_in reply.said) old
  pub going : reply.going ≡ going_in new
  pub actor : now.actor ≡ was.actor
  pub count : now.count ≡ more was.count (event_in reply.said)
  pub last : now.last ≡ later was.last (event_in reply.said)
  pub idle : counts ≡ idle_after was.actor reply.said counted
  pub own : is_reply was.actor (asked_of ask) reply.said ≡ true
  pub shown : Shown old × Shown new
  pub told : IsTold old.past was.actor was.count was.last → IsTold new.past now.actor now.count now.last
