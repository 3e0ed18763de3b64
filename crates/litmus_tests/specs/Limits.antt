-- How much a litmus test has at most. Each has the same name in `src/test.rt`. (This project's own choice.)
use Rattle.std.specs.Prelude.{ℕ, ◌+◌, ◌*◌}

-- a hart's steps
abbrev pub most_steps : ℕ
most_steps = 500

-- the words of code of one hart: one at each end, two for each register that it starts with, of which there are 31 at
-- most, and two for each step
abbrev pub most_thread_words : ℕ
most_thread_words = 2 + 2 * 31 + 2 * most_steps

-- the words of code of all harts: they stand in the RAM of a test's image
abbrev pub most_words : ℕ
most_words = 16000

-- the words of all locations, and what is looked at in a final state
abbrev pub most_locations : ℕ
most_locations = 64

abbrev pub most_observed : ℕ
most_observed = 64
