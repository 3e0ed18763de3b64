-- The numbers of a state's harts, of which those behind the first ones stand in a table.
use Rattle.std.specs.Prelude.{◌≡◌, ℕ, ◌<◌, List, [], ◌++◌, length, slice_index_or, slice_set}
use Rattle.condensed_machine.specs.declared.state.State.{State}

-- How many harts stand in a state by their own numbers.
abbrev pub near_harts : ℕ
near_harts = 4

abbrev pub numbers_in : List (List ℕ) → State → List ℕ
numbers_in far_harts s = s.near ++ slice_index_or far_harts s.far []

-- The harts of a state have these numbers, and what they share this one.
pub record HasNumbers (far_harts : List (List ℕ)) (numbers : List ℕ) (shared : ℕ) (s : State) : Type 0 where
  pub near : length s.near ≡ near_harts
  pub numbers_are : numbers_in far_harts s ≡ numbers
  pub shared_is : s.shared ≡ shared
  pub known : s.far < length far_harts

-- Behind the state s comes t, in which hart h has another number, and so has what the harts share, as the table
-- grows.
abbrev pub HasMoved : List (List ℕ) → List (List ℕ) → State → ℕ → ℕ → ℕ → State → Type 0
HasMoved old new s h number shared t = HasNumbers new (slice_set (numbers_in old s) h number) shared t
