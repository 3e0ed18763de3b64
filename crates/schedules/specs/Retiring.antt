-- What a core retires that has answered the script of an order of harts.
use Rattle.std.specs.Prelude.{◌≡◌, ◌≤◌, ℕ, List, Some, length, reverse}
use Rattle.events.specs.declared.event.Event.{Event}
use Rattle.smt_model.specs.{Setup.Setup, Plain.Run, Plain.run, Account.records, Account.order}
use Rattle.core_state.specs.View.{CoreView}
use Rattle.schedules.specs.Schedules.{IsScheduleOf, room_for}
use Rattle.schedules.specs.Replies.{IsFunction}
use Rattle.scripts.specs.Session.{AreAskedWith}

-- The plain machine runs the order of these harts. The history retires what the run leaves, and in
-- this order of harts, both the oldest first; and it takes no more room than the order needs.
pub record RetiresOrder (setup : Setup) (harts : List ℕ) (past : List Event) : Type 0 where
  pub ran : Run
  pub runs : run setup (reverse harts) ≡ Some ran
  pub retired : reverse (records past) ≡ reverse ran.records
  pub in_order : reverse (order past) ≡ harts
  pub short : length past ≤ room_for setup (length harts)

-- ---- The law

-- A core that has answered a schedule of its own setup and limit retires the order.
abbrev pub SchedulesAreRetired : {P : Type 0} → (P → ℕ → ℕ → ℕ → ℕ → P → Type 0) → Type 0
SchedulesAreRetired {P} predicts =
    (setup : Setup) (limit : ℕ) (harts script : List ℕ) → IsScheduleOf setup limit harts script
    → (before after : P) (core : CoreView) (text : List ℕ)
    → core.setup ≡ setup → core.limit ≡ limit
    → AreAskedWith predicts before after script core text
    → RetiresOrder setup harts core.past

-- A law of a predictor whose guesses are those of one function.
abbrev pub OfFunctions : {P : Type 0} → (P → ℕ → ℕ → ℕ → ℕ → P → Type 0) → Type 0 → Type 0
OfFunctions predicts law = (guess : ℕ → ℕ → ℕ → ℕ) → IsFunction predicts guess → law
