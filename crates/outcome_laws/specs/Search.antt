-- Which states of the plain machine are enough to know every end. A search goes on from a state by a step
-- of each hart that can step and then by local steps; it keeps one of several states that are alike; and it
-- sees that each step which it makes fits its tables. No hart is left out at a state that was visited, so
-- nothing is asked of cycles. [Godefroid 1996; Clarke, Grumberg and Peled 1999, "Model Checking", chapter 10]
use Rattle.std.specs.Prelude.{◌≡◌, ℕ, Bool, true, List, [], ◌∷◌, ◌++◌, Option, Some}
use Rattle.smt_model.specs.{Setup.Setup, Plain.Plain, Reservations.word_of_address}
use Rattle.outcome_laws.specs.Paths.{can_step, stepped, path, IsEnd}
use Rattle.outcome_laws.specs.{Tables.Tables, Tables.IsTables, Tables.IsAsCoded, Local.fits}
use Rattle.outcome_laws.specs.{Local.is_local, Live.AreAlike}

-- The steps of an order lead from s to t, and each is local.
abbrev pub IsLocalPath : Setup → Tables → List ℕ → Plain → Plain → Type 0
IsLocalPath setup tables [] s t = s ≡ t
IsLocalPath setup tables (h ∷ order) s t =
    (can_step setup h s ≡ true) × (is_local setup tables h s ≡ true)
    × IsLocalPath setup tables order (stepped setup h s) t

-- Local steps lead from s to a state that is alike to t.
pub record Settles (setup : Setup) (watched : ℕ → Bool) (tables : Tables) (s t : Plain) : Type 0 where
  pub order : List ℕ
  pub there : Plain
  pub local : IsLocalPath setup tables order s there
  pub alike : AreAlike watched tables there t

-- What a search has visited: a state at each place where there is one, and for a place and a hart the
-- place of the state to which the hart's step leads.
pub record Visited : Type 0 where
  pub at : ℕ → Option Plain
  pub edge : ℕ → ℕ → Option ℕ

-- The steps of these harts lead along the edges from place p to place q.
abbrev pub IsWay : Visited → ℕ → List ℕ → ℕ → Type 0
IsWay visited p [] q = p ≡ q
IsWay visited p (h ∷ way) q = (n : ℕ) × (visited.edge p h ≡ Some n) × IsWay visited n way q

-- A hart's step from the state s at a place fits, and settles in the state to which its edge leads.
pub record GoesOn (setup : Setup) (watched : ℕ → Bool) (tables : Tables) (visited : Visited)
    (place h : ℕ) (s : Plain) : Type 0 where
  pub place_after : ℕ
  pub state : Plain
  pub edge : visited.edge place h ≡ Some place_after
  pub at : visited.at place_after ≡ Some state
  pub fits : fits setup tables h s ≡ true
  pub settles : Settles setup watched tables (stepped setup h s) state

-- It is enough: each step that a hart can make from a visited state goes on to one.
abbrev pub IsEnough : Setup → (ℕ → Bool) → Tables → Visited → Type 0
IsEnough setup watched tables visited = (place h : ℕ) (s : Plain) → visited.at place ≡ Some s
    → can_step setup h s ≡ true → GoesOn setup watched tables visited place h s

-- From a place, some way leads to the place of a state.
pub record HasWay (visited : Visited) (from : ℕ) (s : Plain) : Type 0 where
  pub place : ℕ
  pub way : List ℕ
  pub leads : IsWay visited from way place
  pub at : visited.at place ≡ Some s

-- A state settles in the one at a place.
pub record SettlesAt (setup : Setup) (watched : ℕ → Bool) (tables : Tables) (visited : Visited)
    (place : ℕ) (s : Plain) : Type 0 where
  pub state : Plain
  pub at : visited.at place ≡ Some state
  pub settles : Settles setup watched tables s state

-- What holds of each search whose tables are good and that has visited enough, of a state that settles in
-- the one at a place.
abbrev pub InEachSearch
    : ((setup : Setup) → (ℕ → Bool) → Tables → Visited → ℕ → Plain → Type 0) → Type 0
InEachSearch P = (setup : Setup) (watched : ℕ → Bool) (tables : Tables)
    → IsTables setup.image tables
    → (visited : Visited) → IsEnough setup watched tables visited
    → (from : ℕ) (s : Plain) → IsAsCoded setup tables s → SettlesAt setup watched tables visited from s
    → P setup watched tables visited from s

-- A state settles in one to which a way leads.
pub record IsBound (setup : Setup) (watched : ℕ → Bool) (tables : Tables) (visited : Visited) (from : ℕ)
    (u : Plain) : Type 0 where
  pub state : Plain
  pub reached : HasWay visited from state
  pub settles : Settles setup watched tables u state

-- Whatever order leads to a state, it settles in one that was visited, code that may not change is there what
-- the image has, and each step from it fits: so the tables hold wherever an order leads, though the search has
-- looked at its own steps alone.
abbrev pub EachSettles : Type 0
EachSettles = InEachSearch (λ setup watched tables visited from s.
    (order : List ℕ) (u : Plain) → path setup order s ≡ Some u
    → IsBound setup watched tables visited from u × IsAsCoded setup tables u
    × ((h : ℕ) → can_step setup h u ≡ true → fits setup tables h u ≡ true))

-- A visited state to which a way leads, and that is alike to this one.
pub record HasVisited (watched : ℕ → Bool) (tables : Tables) (visited : Visited) (from : ℕ)
    (e : Plain) : Type 0 where
  pub state : Plain
  pub reached : HasWay visited from state
  pub alike : AreAlike watched tables e state

-- Whatever order leads to an end, an end alike to it was visited.
abbrev pub EveryEndIsVisited : Type 0
EveryEndIsVisited = InEachSearch (λ setup watched tables visited from s.
    (order : List ℕ) (e : Plain) → path setup order s ≡ Some e → IsEnd setup e
    → HasVisited watched tables visited from e)

-- In each state to which a way leads some hart can step.
abbrev pub NoneIsEnd : Setup → Visited → ℕ → Type 0
NoneIsEnd setup visited from = (a : Plain) → HasWay visited from a → (h : ℕ) × (can_step setup h a ≡ true)

-- Where a way leads to no end, no order does.
abbrev pub NoEndIsReached : Type 0
NoEndIsReached = InEachSearch (λ setup watched tables visited from s.
    NoneIsEnd setup visited from
    → (order : List ℕ) (e : Plain) → path setup order s ≡ Some e → IsEnd setup e → ⊥)

-- An order leads from one state to a state that is alike to another, and whose code has changed only where it
-- may.
pub record IsReached (setup : Setup) (watched : ℕ → Bool) (tables : Tables) (from : Plain)
    (order : List ℕ) (t : Plain) : Type 0 where
  pub state : Plain
  pub leads : path setup order from ≡ Some state
  pub coded : IsAsCoded setup tables state
  pub alike : AreAlike watched tables state t

-- What the search goes on to is reached where it goes on from a state that is.
abbrev pub WhatSettlesIsReached : Type 0
WhatSettlesIsReached = (setup : Setup) (watched : ℕ → Bool) (tables : Tables)
    → IsTables setup.image tables
    → (from : Plain) (order : List ℕ) (s t : Plain) (h : ℕ)
    → IsReached setup watched tables from order s
    → can_step setup h s ≡ true → fits setup tables h s ≡ true
    → (settles : Settles setup watched tables (stepped setup h s) t)
    → IsReached setup watched tables from (order ++ h ∷ settles.order) t

-- Some order leads from a state to an end.
pub record CanEnd (setup : Setup) (s : Plain) : Type 0 where
  pub order : List ℕ
  pub last : Plain
  pub leads : path setup order s ≡ Some last
  pub is_end : IsEnd setup last

-- Where each state to which a way leads can go on to an end, each can to which an order leads.
abbrev pub EachCanEnd : Type 0
EachCanEnd = InEachSearch (λ setup watched tables visited from s.
    ((a : Plain) → HasWay visited from a → CanEnd setup a)
    → (order : List ℕ) (u : Plain) → path setup order s ≡ Some u → CanEnd setup u)

-- A visited state to which a way leads, with the memory of this one, as far as it is seen.
pub record HasMemory (tables : Tables) (visited : Visited) (from : ℕ) (u : Plain) : Type 0 where
  pub state : Plain
  pub reached : HasWay visited from state
  pub bytes : (a : ℕ) → tables.seen (word_of_address a) ≡ true → u.bytes a ≡ state.bytes a

-- Whatever order leads to a state, one with what it shows of memory was visited: local steps write nothing
-- that is seen. [Peled 1993: a step that changes what a property speaks of is visible, and stays a step of
-- its own]
abbrev pub EachMemoryIsVisited : Type 0
EachMemoryIsVisited = InEachSearch (λ setup watched tables visited from s.
    (order : List ℕ) (u : Plain) → path setup order s ≡ Some u → HasMemory tables visited from u)
