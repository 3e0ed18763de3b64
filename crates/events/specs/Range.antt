-- Which numbers the fields of what an event says may have. (This project's own choice.)

use Rattle.std.specs.Prelude.{ℕ, ◌*◌, ◌^◌, ◌<◌, ◌≤◌, IfSome}
use Rattle.events.specs.{declared.effect.Effect.Effect, declared.effect.Next.Next}
use Rattle.events.specs.{declared.effect.Next.TheVariants.Pc}
use Rattle.events.specs.{declared.effect.Next.TheVariants.Ended}
use Rattle.events.specs.{declared.effect.Next.TheVariants.Stopped, declared.effect.Outcome.Outcome}
use Rattle.events.specs.{declared.effect.Written.Written, Width.HasWidth}

-- a number of 32 bits
abbrev pub IsWord : ℕ → Type 0
IsWord n = n < 2 ^ 32

-- a pc, a status, or one of the nine causes
abbrev pub IsNext : Next → Type 0
IsNext (Pc pc) = IsWord pc
IsNext (Ended status) = IsWord status
IsNext (Stopped cause) = cause ≤ 8

-- a number of 1, 2 or 4 bytes
abbrev pub IsWritten : Written → Type 0
IsWritten w = IsWord w.addr × HasWidth w × (w.datum < 2 ^ (8 * w.n))

-- the fields of a Complete
pub record IsOutcome (o : Outcome) : Type 0 where
  pub value : IfSome o.value IsWord
  pub next : IsNext o.next
  pub addr : IfSome o.addr IsWord
  pub datum : IfSome o.datum IsWord
  pub out : IfSome o.out (λ byte. byte < 256)

-- the fields of a Retire
pub record IsEffect (e : Effect) : Type 0 where
  pub value : IfSome e.value IsWord
  pub next : IsNext e.next
  pub write : IfSome e.write IsWritten
  pub out : IfSome e.out (λ byte. byte < 256)
