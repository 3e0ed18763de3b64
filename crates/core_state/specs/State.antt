-- How callers see the fields of a state, and what is true of these in every state.
use Rattle.std.specs.Prelude.{◌≡◌, ◌≤◌, true, List, length, reverse, vec_capacity}
use Rattle.numbers.specs.Sizes.{most_events}
use Rattle.decoded_code.specs.Code.{IsCodeOf}
use Rattle.events.specs.declared.event.Event.{Event}
use Rattle.smt_model.specs.{Account.records, Fates.fetches, Fetching.last_fetched, Memory.output}
use Rattle.smt_model.specs.{Memory.byte_at, Picture.picture, Rules.is_legal, Setup.Setup}
use Rattle.smt_model.specs.{Touched.looks}
use Rattle.core_parts.specs.{Agree.PartsAgree}
use Rattle.core_state.specs.{Setup.setup_of, Setup.accepts, View.CoreView}
use Rattle.core_state.specs.{declared.state.State.TheInside.Inside}

abbrev pub past_of : Inside → List Event
past_of i = reverse i.history.items

abbrev pub setup_in : Inside → Setup
setup_in i = setup_of i.image i.config

abbrev pub view_of : Inside → CoreView
view_of i = record { setup = setup_in i; limit = i.history.limit; past = past_of i }

-- The sizes are a core's, and the code that was decoded is what memory has now. The history is
-- legal, and every part agrees with it: the parts that instructions move through, how many were fetched and
-- which hart last, how many loads looked again, the records and the output. There is room for a
-- record and a byte of output for each event to come.
pub record IsCore (i : Inside) : Type 0 where
  pub sizes : accepts i.config i.history.limit ≡ true
  pub limit : i.history.limit ≤ most_events
  pub harts : length i.parts.harts.items ≡ i.config.harts
  pub queue : i.parts.queue.size ≡ i.config.queue
  pub image : i.parts.memory.image ≡ i.image
  pub code : IsCodeOf i.image (byte_at (setup_in i) (past_of i)) i.code
  pub legal : is_legal (setup_in i) (past_of i)
  pub agrees : PartsAgree (picture (setup_in i) (past_of i)) i.parts
  pub fetched : i.fetched ≡ fetches (past_of i)
  pub last : i.last ≡ last_fetched (past_of i)
  pub looks : i.looks ≡ looks (past_of i)
  pub records : i.records.items ≡ reverse (records (past_of i))
  pub output : i.output.items ≡ output (past_of i)
  pub records_fit : length i.records.items ≤ length i.history.items
  pub output_fit : length i.output.items ≤ length i.history.items
  pub records_room : i.history.limit ≤ vec_capacity i.records
  pub output_room : i.history.limit ≤ vec_capacity i.output
