-- Code that may not be written is what the image has: along paths, and in states that are alike.
use Rattle.std.specs.Prelude.{◌≡◌, ℕ, Bool, true, false, if◌then◌else◌, List, [], ◌∷◌, Option, Some, None}
use Rattle.std.proofs.Common.{◌∙◌, refl, sym, ap, subst, arith}
use Rattle.elf_image.specs.Image.{code_writable}
use Rattle.elf_image.proofs.Words.{word_now-same}
use Rattle.smt_model.specs.{Setup.Setup, Words.op_of_word, Plain.Plain, Plain.op_at_pc}
use Rattle.smt_laws.proofs.{Done.some_one, FixedCode.steps_keep_code}
use Rattle.outcome_laws.specs.Paths.{can_step, stepped, path, HasItsCode, PathsKeepCode}
use Rattle.outcome_laws.specs.{Tables.Tables, Tables.op_at, Live.AreAlike, Search.IsLocalPath}

-- ---- Paths

pub has_next : (setup : Setup) (h : ℕ) (s : Plain) → HasItsCode setup s → HasItsCode setup (stepped setup h s)
has_next setup h s holds fixed = steps_keep_code setup fixed s h (holds fixed)

pub first_of : (test : Bool) (a : Option Plain) (e : Plain) → (if test then a else None) ≡ Some e
    → (test ≡ true) × (a ≡ Some e)
first_of true a e leads = (refl, leads)
first_of false a e leads = absurd (grind arith)

pub has_path : (setup : Setup) (order : List ℕ) (s t : Plain) → HasItsCode setup s → path setup order s ≡ Some t
    → HasItsCode setup t
has_path setup [] s t holds leads = subst (HasItsCode setup) (some_one s t leads) holds
has_path setup (h ∷ order) s t holds leads =
    let split = first_of (can_step setup h s) (path setup order (stepped setup h s)) t leads in
    has_path setup order (stepped setup h s) t (has_next setup h s holds) split.1

pub has_local : (setup : Setup) (tables : Tables) (order : List ℕ) (s t : Plain) → HasItsCode setup s
    → IsLocalPath setup tables order s t
    → HasItsCode setup t
has_local setup tables [] s t holds same = subst (HasItsCode setup) same holds
has_local setup tables (h ∷ order) s t holds way =
    has_local setup tables order (stepped setup h s) t (has_next setup h s holds) way.2

pub paths_keep_code : PathsKeepCode
paths_keep_code setup = ((λ fixed pc. refl), has_path setup)

-- ---- Alike states

pub has_alike : (setup : Setup) (watched : ℕ → Bool) (tables : Tables) (s t : Plain) → AreAlike watched tables s t
    → HasItsCode setup s → HasItsCode setup t
has_alike setup watched tables s t alike holds fixed pc =
    word_now-same setup.image t.bytes s.bytes (λ a. sym (alike.bytes a)) pc ∙ holds fixed pc

-- ---- What is found at a pc

pub op_fixed : (setup : Setup) (s : Plain) → HasItsCode setup s → code_writable setup.image ≡ false → (h : ℕ)
    → op_at_pc setup s h ≡ op_at setup.image (s.pcs h)
op_fixed setup s holds fixed h = ap op_of_word (holds fixed (s.pcs h))
