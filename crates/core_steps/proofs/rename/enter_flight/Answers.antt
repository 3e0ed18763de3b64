use Rattle.std.specs.Prelude.{ℕ, ◌<◌, Option, Some, None, IfSome}
use Rattle.std.proofs.Common.{subst, sym}
use Rattle.rename_map.specs.Maps.{IsWritable}
use Rattle.core_steps.proofs.rename.enter_flight.Goals as goal

writable : (phys : Option ℕ) (rd : ℕ) → IfSome phys (λ x. 0 < rd) → rd < 32 → IfSome phys (λ x. IsWritable rd)
writable None rd above under = tt
writable (Some x) rd above under = (above, under)

pub enter-requires : goal.enter-requires
enter-requires c =
    writable c.args.phys c.destination-rd.result
    (subst (λ n. IfSome c.args.phys (λ x. 0 < n)) (sym c.destination-rd.ensures.value) c.requires.writes)
    (c.destination-rd.ensures.below c.requires.in_range)
