-- How much an instruction writes: RV32IMA has stores of 1, 2 and 4 bytes, and its atomic
-- instructions write a word.
use Rattle.std.specs.Prelude.{ℕ, ◌≤◌, List, reverse, Option, Some, None, All}
use Rattle.events.specs.{declared.effect.Record.Record, declared.effect.Written.Written}
use Rattle.events.specs.{declared.event.Event.Event}
use Rattle.smt_model.specs.{Setup.Setup, Account.records, Rules.is_legal}

-- How many bytes are written.
abbrev pub bytes_of : Option Written → ℕ
bytes_of None = 0
bytes_of (Some w) = w.n

-- The record's instruction writes at most a word.
abbrev pub WritesAWord : Record → Type 0
WritesAWord r = bytes_of r.effect.write ≤ 4

-- In every legal history each retired instruction writes at most a word.
abbrev pub WritesAtMostAWord : Type 0
WritesAtMostAWord = (setup : Setup) (past : List Event) → is_legal setup past
    → All WritesAWord (reverse (records past))
