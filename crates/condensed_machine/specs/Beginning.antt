-- How the harts of a program begin.
use Rattle.std.specs.Prelude.{ℕ, ◌<◌, true, List, slice_index}
use Rattle.sc_machine.specs.{Harts.IsFirst, declared.hart.Hart.Hart}
use Rattle.condensed_machine.specs.{Machine.Program, Executing.ComesToRest, Tables.HasNumber}

-- Hart h, which has no reservation there, has gone on from the start by so many local steps, and come to rest as the hart
-- with a number.
pub record HasBegunAs (p : Program) (table : List Hart) (h way number : ℕ) : Type 0 where
  pub first : Hart
  pub is_first : IsFirst h p.harts p.image.entry first
  pub hart : Hart
  pub rests : ComesToRest p true first way hart
  pub has : HasNumber table hart number

-- The harts before some hart have begun so.
abbrev pub HaveBegun : Program → List Hart → ℕ → List ℕ → List ℕ → Type 0
HaveBegun p table harts ways numbers =
    (h : ℕ) → h < harts → HasBegunAs p table h (slice_index ways h) (slice_index numbers h)
