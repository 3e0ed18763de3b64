use Rattle.std.proofs.Common.{◌≡◌, ◌<◌, ℕ, Some, All, Contains}
use Rattle.litmus_runs.specs.Numbers.{initial_number}
use Rattle.litmus_runs.specs.Ways.{MayHave}
use Rattle.litmus_runs.proofs.known.Known.new.Given as goal

abbrev pub invariant-loop-location : goal.invariant-loop-location
invariant-loop-location l = record {
  known : All (λ held. MayHave l.test held.location held.number) l.held.items;
  initial : (location number : ℕ) → location < l.location → initial_number l.test location ≡ Some number
      → Contains l.held.items (record { location = location; number = number });
}
