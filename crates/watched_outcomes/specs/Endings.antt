-- How a program has ended.
use Rattle.std.specs.Prelude.{ℕ, List, map}
use Rattle.smt_model.specs.{Basics.below, Plain.Plain, Bytes.number_at, declared.config.Status.Status}
use Rattle.watched_outcomes.specs.declared.watch.{Watch.Watch, WatchedRegister.WatchedRegister}
use Rattle.watched_outcomes.specs.{declared.watch.WatchedBytes.WatchedBytes, Watching.bytes_of}

-- How each hart stands, what is watched, and what was put out.
pub record Ending : Type 0 where
  pub statuses : List Status
  pub registers : List ℕ
  pub words : List ℕ
  pub output : List ℕ

abbrev pub watched_in : Plain → WatchedRegister → ℕ
watched_in s w = s.registers w.hart w.register

abbrev pub word_in : Plain → WatchedBytes → ℕ
word_in s w = number_at s.bytes w.address (bytes_of w.width)

-- What a state of so many harts is as an end.
abbrev pub ending_of : ℕ → Watch → Plain → Ending
ending_of harts watch s = record {
  statuses = map s.statuses (below harts);
  registers = map (watched_in s) watch.registers.items;
  words = map (word_in s) watch.words.items;
  output = s.output;
}
