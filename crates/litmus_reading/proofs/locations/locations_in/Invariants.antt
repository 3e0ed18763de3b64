use Rattle.std.proofs.Common.{◌≡◌, ◌≤◌, ◌*◌, ◌++◌, [], drop}
use Rattle.std.specs.Prelude.{All}
use Rattle.litmus_reading.specs.Memory.{word_total}
use Rattle.litmus_reading.specs.Names.{new_names, start_of_memory, IsNewLocation}
use Rattle.litmus_reading.proofs.locations.locations_in.Given as goal

-- those so far, and those that are new in the rest, are all; and the next one begins behind the words of those so far
abbrev pub invariant-loop-word : goal.invariant-loop-word
invariant-loop-word l = record {
  told : l.names.items ++ new_names l.text l.words l.names.items l.next (drop l.word-index l.words)
      ≡ new_names l.text l.words [] start_of_memory l.words;
  named : All (IsNewLocation l.text) l.names.items;
  begins : l.next.byte ≡ 4 * word_total l.names.items;
  order : l.next.first ≤ l.next.byte;
  inside : l.next.byte ≤ 256;
}
