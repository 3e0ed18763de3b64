-- How the machine keeps its parts.
use Rattle.std.specs.Prelude.{◌<◌, ◌≤◌, length}
use Rattle.std.specs.Vec.{vec_capacity}
use Rattle.numbers.specs.Sizes.{most_harts}
use Rattle.decoded_code.specs.Code.{IsCodeOf}
use Rattle.shared_memory.specs.Contents.{byte_of}
use Rattle.sc_machine.specs.Machine.{Machine}
use Rattle.sc_machine.specs.{declared.machine.Plain.TheInside.Inside}

-- what callers see of it
abbrev pub machine_of : Inside → Machine
machine_of a = record {
  harts = a.harts.items;
  memory = a.memory;
  output = a.output.items;
  room = a.room;
}

-- there is a hart, and no more than there may be; the code is what memory has now, and the room
-- for the output has been made
pub record IsSound (a : Inside) : Type 0 where
  pub some : 0 < length a.harts.items
  pub few : length a.harts.items ≤ most_harts
  pub code : IsCodeOf a.memory.image (byte_of a.memory) a.code
  pub within : length a.output.items ≤ a.room
  pub roomy : a.room ≤ vec_capacity a.output
