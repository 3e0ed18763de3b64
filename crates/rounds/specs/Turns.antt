-- Whose turn it is, of harts that take turns. (The turns are this project's own choice.)
use Rattle.std.specs.Prelude.{ℕ, ◌+◌, ◌*◌, ◌/◌, ◌%◌, ◌^◌, List, [], ◌∷◌, ◌++◌, length, nat_lt}
use Rattle.std.specs.Prelude.{Option, Some, None, slice_get, filter, find, replicate, option_map}
use Rattle.smt_model.specs.{Basics.below, Setup.Setup, Plain.Plain, Plain.is_going_status}

-- A turn: whose it is, and how many instructions the hart has made in it.
pub record Turn : Type 0 where
  pub hart : ℕ
  pub made : ℕ

-- The order of harts that some turns are. Turns and order have the newest first.
abbrev pub order_of : List Turn → List ℕ
order_of [] = []
order_of (turn ∷ earlier) = replicate turn.made turn.hart ++ order_of earlier

-- The harts that go, by rising number.
abbrev pub going : Setup → Plain → List ℕ
going setup s = filter (λ h. is_going_status (s.statuses h)) (below setup.harts)

-- ---- Harts in turn

-- Whose turn was the last.
abbrev pub last_of : List Turn → Option ℕ
last_of [] = None
last_of (turn ∷ earlier) = Some turn.hart

abbrev pub or_else : Option ℕ → Option ℕ → Option ℕ
or_else (Some h) other = Some h
or_else None other = other

-- The first of these harts behind the last one; where there is none, the first of all.
abbrev pub in_turn : Option ℕ → List ℕ → Option ℕ
in_turn None going = slice_get going 0
in_turn (Some last) going = or_else (find (λ h. nat_lt last h) going) (slice_get going 0)

-- ---- Drawn harts

-- The generator of the draws: a linear congruential one of 64 bits. [Knuth 1997, "The Art of Computer
-- Programming", vol. 2, 3.3.4, table 1: the multiplier of C. E. Haynes; the increment is that of
-- Knuth's MMIX]
abbrev pub next_number : ℕ → ℕ
next_number x = (6364136223846793005 * x + 1442695040888963407) % 2 ^ 64

-- The number that is drawn for the turn behind these, where harts are drawn: one for each turn.
abbrev pub number_for : Option ℕ → List Turn → Option ℕ
number_for seed [] = option_map next_number seed
number_for seed (turn ∷ earlier) = option_map next_number (number_for seed earlier)

-- The hart that a number draws of n harts, by its upper 32 bits, of which each hart has an n-th part.
abbrev pub drawn : ℕ → List ℕ → Option ℕ
drawn x going = slice_get going (x / 2 ^ 32 * length going / 2 ^ 32)

-- ---- The next turn

abbrev pub chosen : Option ℕ → Option ℕ → List ℕ → Option ℕ
chosen None last going = in_turn last going
chosen (Some x) last going = drawn x going

-- Whose turn comes behind these, where these harts go: drawn where there is a seed, else in turn. None
-- where no hart goes.
abbrev pub whose : Option ℕ → List Turn → List ℕ → Option ℕ
whose seed earlier going = chosen (number_for seed earlier) (last_of earlier) going
