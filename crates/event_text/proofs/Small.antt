-- The ranges of each version are of numbers of 32 bits.

use Rattle.std.proofs.Common.{◌^◌, ◌<◌, Bool, lit<}
use Rattle.event_text.specs.{declared.ranges.Ranges.Ranges, declared.head.TraceHead.TraceHead}
use Rattle.event_text.specs.declared.head.LaterVersion.TheVariants.{Second, Third}
use Rattle.event_text.specs.declared.head.TraceHead.TheVariants.{First, Later}
use Rattle.event_text.specs.Ranges.{first_ranges, later_ranges, ranges_of}

pub record AreSmall (ranges : Ranges) : Type 0 where
  pub actor : ranges.actor < 2 ^ 32
  pub hart : ranges.hart < 2 ^ 32
  pub seq : ranges.seq < 2 ^ 32
  pub phys : ranges.phys < 2 ^ 32

first_small : AreSmall first_ranges
first_small = record { actor = lit< tt; hart = lit< tt; seq = lit< tt; phys = lit< tt }

later_small : (refetches : Bool) → AreSmall (later_ranges refetches)
later_small refetches = record { actor = lit< tt; hart = lit< tt; seq = lit< tt; phys = lit< tt }

pub small_of : (head : TraceHead) → AreSmall (ranges_of head)
small_of First = first_small
small_of (Later Second sizes) = later_small _
small_of (Later Third sizes) = later_small _
