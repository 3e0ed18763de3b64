-- A run, whose order has the newest step first, is a path, whose order has the first.
use Rattle.std.specs.Prelude.{◌≡◌, ℕ, Bool, true, false, if◌then◌else◌, List, [], ◌∷◌, ◌++◌}
use Rattle.std.specs.Prelude.{Option, Some, None, option_map, reverse}
use Rattle.std.proofs.Common.{◌∙◌, refl, sym, ap}
use Rattle.std.proofs.lemmas.List.{reverse-append}
use Rattle.smt_model.specs.{Setup.Setup}
use Rattle.smt_model.specs.Plain.{Plain, Run, run, step, start, advance}
use Rattle.outcome_laws.specs.Paths.{can_step, stepped, path, RunsArePaths}

-- One step more at the end of a path.
abbrev pub step_from : Setup → ℕ → Option Plain → Option Plain
step_from setup h None = None
step_from setup h (Some s) = if can_step setup h s then Some (stepped setup h s) else None

if_none : (test : Bool) (a : Option Plain) (setup : Setup) (h : ℕ)
    → (if test then step_from setup h a else None) ≡ step_from setup h (if test then a else None)
if_none true a setup h = refl
if_none false a setup h = refl

path_more : (setup : Setup) (order : List ℕ) (h : ℕ) (s : Plain)
    → path setup (order ++ h ∷ []) s ≡ step_from setup h (path setup order s)
path_more setup [] h s = refl
path_more setup (g ∷ order) h s =
    ap (λ p. if can_step setup g s then p else None) (path_more setup order h (stepped setup g s))
    ∙ if_none (can_step setup g s) (path setup order (stepped setup g s)) setup h

if_map : (test : Bool) (ran : Run)
    → option_map (λ (r : Run). r.state) (if test then Some ran else None)
    ≡ (if test then Some ran.state else None)
if_map true ran = refl
if_map false ran = refl

step_state : (setup : Setup) (h : ℕ) (before : Option Run)
    → option_map (λ (r : Run). r.state) (step setup h before)
    ≡ step_from setup h (option_map (λ (r : Run). r.state) before)
step_state setup h None = refl
step_state setup h (Some before) = if_map (can_step setup h before.state) (advance setup h before)

pub runs_are_paths : RunsArePaths
runs_are_paths setup [] = refl
runs_are_paths setup (h ∷ order) =
    step_state setup h (run setup order)
    ∙ (ap (step_from setup h) (runs_are_paths setup order)
    ∙ (sym (path_more setup (reverse order) h (start setup))
    ∙ ap (λ o. path setup o (start setup)) (sym (reverse-append (h ∷ []) order))))
