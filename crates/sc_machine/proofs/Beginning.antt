-- The harts of a new machine.
use Rattle.std.proofs.Common.{◌≡◌, ℕ, ◌<◌, List, [], ◌∷◌, ◌++◌, length, arith}
use Rattle.std.proofs.Common.{inl, inr}
use Rattle.std.specs.Prelude.{slice_index_or}
use Rattle.std.proofs.lemmas.Bool.{cases_lt}
use Rattle.std.proofs.lemmas.List.{length_push}
use Rattle.std.proofs.{Math.ListN.get_or-append, Math.Seq.get_or-append_seam}
use Rattle.sc_machine.specs.{Harts.IsFirst}
use Rattle.sc_machine.specs.{declared.hart.Hart.Hart}

-- These are harts as they begin.
abbrev pub AreFirst : ℕ → ℕ → List Hart → Type 0
AreFirst harts entry xs = (h : ℕ) (d : Hart) → h < length xs → IsFirst h harts entry (slice_index_or xs h d)

pub first_more : (harts entry : ℕ) (xs : List Hart) (x : Hart) → IsFirst (length xs) harts entry x
    → AreFirst harts entry xs → AreFirst harts entry (xs ++ x ∷ [])
first_more harts entry xs x is all h d inside =
    elim (cases_lt h (length xs)) [
      | inl under ↦ let same = get_or-append xs (x ∷ []) d h under in rw same (all h d under)
      | inr above ↦
          let last : h ≡ length xs = omega (arith, length_push xs x) in rw last (rw get_or-append_seam is)
    ]
