-- What a history comes to: the retired instructions in order, and where the machine stands.
use Rattle.std.specs.Prelude.{ℕ, ◌==◌, if◌then◌else◌, List, [], ◌∷◌, ◌++◌, length, map, reverse}
use Rattle.std.specs.Prelude.{Option, Some, None, is_some}
use Rattle.smt_model.specs.Words.{actor_of, Effect, Record, Event}
use Rattle.smt_model.specs.{declared.config.Status.Status, Basics.below, Basics.how_many}
use Rattle.smt_model.specs.{Setup.Setup, Folds.by_retirements, Fates.Fetched, Fates.fetching}
use Rattle.smt_model.specs.{Registers.value, Registers.committed, Memory.status, Memory.output}
use Rattle.smt_model.specs.{Jobs.job}

-- The record of a retired instruction; its pc and word are those of its fetch.
abbrev pub record_of : Option Fetched → Effect → List Record
record_of None x = []
record_of (Some f) x = record { hart = f.hart; pc = f.pc; word = f.word; effect = x } ∷ []

-- The records of all retirements, the newest first.
abbrev pub records : List Event → List Record
records = by_retirements (λ s x past newer. record_of (fetching past s) x ++ newer) []

-- The harts in the order of retirement, the newest first.
abbrev pub order : List Event → List ℕ
order past = map (λ r. r.hart) (records past)

-- How many events an actor has made, and the last of them.
abbrev pub event_count : ℕ → List Event → ℕ
event_count k past = how_many (λ e. actor_of e == k) past

abbrev pub last_event_of : ℕ → List Event → Option Event
last_event_of k [] = None
last_event_of k (e ∷ past) = if actor_of e == k then Some e else last_event_of k past

-- How many jobs are open.
abbrev pub open_job_count : Setup → List Event → ℕ
open_job_count setup past = how_many (λ k. is_some (job past k)) (below (length setup.roles))

-- What the report is made from. Records and output are in order, the oldest first.
pub record Account : Type 0 where
  pub records : List Record
  pub output : List ℕ
  pub statuses : List Status
  pub lent : ℕ
  pub events : ℕ

abbrev pub account : Setup → List Event → Account
account setup past = record {
  records = reverse (records past);
  output = output past;
  statuses = map (status past) (below setup.harts);
  lent = open_job_count setup past;
  events = length past;
}

-- The number in a hart's register as its retired instructions leave it: 0 for x0.
abbrev pub committed_value : Setup → List Event → ℕ → ℕ → Option ℕ
committed_value setup past h r = if r == 0 then Some 0 else value setup past (committed past h r)
