-- Seats at a board: which fits an actor, and the board that is named where no board is.
use Rattle.std.specs.Prelude.{◌≡◌, ℕ, ◌<◌, ◌≤◌, []}
use Rattle.numbers.specs.Sizes.{most_actors}
use Rattle.atomic_table.specs.Seated.{TableId}

-- A table of no words.
abbrev pub no_board : TableId
no_board =
    record {
      words = 0;
      slots = 0;
      views_name = 0;
      atom = 0;
      block = 0;
      offset = 0;
      slot_names = [];
    }

-- An actor with so many events and a seat of this place that has posted so many: it is the actor's
-- own seat, and the actor may post there what it has made.
abbrev pub Fits : ℕ → ℕ → ℕ → ℕ → Type 0
Fits actor count place posted = (actor ≡ place) × (place < most_actors) × (posted ≤ count)
