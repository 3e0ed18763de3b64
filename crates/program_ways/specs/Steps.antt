-- A hart of a program by itself, on memory that no other hart writes: it makes the steps of the plain machine
-- (`smt_model/specs/Plain`), but what it finds in a word that harts share is given.
use Rattle.std.specs.Prelude.{◌≡◌, ℕ, ◌==◌, Bool, true, false, List, [], ◌∷◌, ◌++◌, length, Option, position, is_some}
use Rattle.elf_image.specs.Image.{ProgramImage}
use Rattle.rv_instr.specs.declared.kind.Kind.TheVariants.{Conditional}
use Rattle.rv_instr.specs.Kinds.{touches_memory}
use Rattle.smt_model.specs.Words.{Op, Effect}
use Rattle.smt_model.specs.Kinds.{Kind, kind_of, access_size}
use Rattle.smt_model.specs.{Setup.Setup, Nexts.is_last, Effects.effect_of}
use Rattle.smt_model.specs.Plain.{Plain, start, after, op_at_pc, computes, effect_at}
use Rattle.smt_model.specs.Reservations.{holds_word, word_of_address}
use Rattle.litmus_runs.specs.Steps.{datum_of, number_read, reserving_behind, reserving_of}

-- So many harts on an image. What a core is made of beside that, the plain machine doesn't ask.
abbrev pub setup_of : ProgramImage → ℕ → Setup
setup_of image harts = record { image = image; harts = harts; extra = 0; queue = 0; roles = [] }

-- Where a word stands among those that harts share, by its address.
abbrev pub location_of : List ℕ → ℕ → Option ℕ
location_of shared word = position (λ one. one == word) shared

-- An access to a word that harts share: the instruction that has made it and its pc, the address of the word, the number
-- that it has read and the one that it has written, and of a store-conditional which access has reserved the word.
pub record Made : Type 0 where
  pub pc : ℕ
  pub op : Op
  pub word : ℕ
  pub reads : Option ℕ
  pub writes : Option ℕ
  pub reserved_by : Option ℕ

-- A hart on its way: the plain machine in which this hart alone has made steps, its accesses to words that harts share,
-- the first one first, and which of them was its last load-reserved.
pub record Way : Type 0 where
  pub state : Plain
  pub made : List Made
  pub reserving : ℕ

abbrev pub first_way : Setup → Way
first_way setup = record { state = start setup; made = []; reserving = 0 }

-- Whether an instruction of this kind accesses memory: a store-conditional does where its hart has reserved the word.
abbrev pub accesses_memory : Kind → Bool → Bool
accesses_memory Conditional held = held
accesses_memory kind held = touches_memory kind

-- The address that hart h's instruction touches, and whether it accesses memory there.
abbrev pub address_at : Setup → Plain → ℕ → ℕ
address_at setup s h = (computes setup s h).addr

abbrev pub accesses_at : Setup → Plain → ℕ → Bool
accesses_at setup s h =
    accesses_memory (kind_of (op_at_pc setup s h)) (holds_word (s.reserved h) (address_at setup s h))

-- Hart h goes on by what it has itself: its instruction accesses no memory, or no word that harts share.
pub record IsAlone (setup : Setup) (shared : List ℕ) (s : Plain) (h : ℕ) : Type 0 where
  pub goes : is_last (computes setup s h).next ≡ false
  pub alone : accesses_at setup s h ≡ true
      → is_some (location_of shared (word_of_address (address_at setup s h))) ≡ false

-- It accesses a whole word that harts share.
pub record IsSharing (setup : Setup) (shared : List ℕ) (s : Plain) (h : ℕ) : Type 0 where
  pub goes : is_last (computes setup s h).next ≡ false
  pub accesses : accesses_at setup s h ≡ true
  pub shares : is_some (location_of shared (word_of_address (address_at setup s h))) ≡ true
  pub whole : access_size (op_at_pc setup s h) ≡ 4

-- The way behind an instruction with this effect.
abbrev pub state_behind : Setup → Plain → ℕ → Effect → Plain
state_behind setup s h x = after s h (op_at_pc setup s h) (address_at setup s h) x

-- Behind one that goes on by what the hart has itself.
abbrev pub way_alone : Setup → Way → ℕ → Way
way_alone setup w h = record w { state = state_behind setup w.state h (effect_at setup w.state h) }

-- The effect of an access that finds this number, and for which the reservation still holds or not.
abbrev pub effect_found : Setup → Plain → ℕ → ℕ → Bool → Effect
effect_found setup s h number held = effect_of (op_at_pc setup s h) (computes setup s h) number held

-- The access with this effect.
abbrev pub made_by : Setup → Way → ℕ → ℕ → Effect → Made
made_by setup w h number x =
    let kind = kind_of (op_at_pc setup w.state h) in
    record {
      pc = w.state.pcs h;
      op = op_at_pc setup w.state h;
      word = word_of_address (address_at setup w.state h);
      reads = number_read kind number;
      writes = datum_of x.write;
      reserved_by = reserving_of kind w.reserving;
    }

-- Behind an access to a word that harts share.
abbrev pub way_sharing : Setup → Way → ℕ → ℕ → Bool → Way
way_sharing setup w h number held =
    let x = effect_found setup w.state h number held in
    record {
      state = state_behind setup w.state h x;
      made = w.made ++ made_by setup w h number x ∷ [];
      reserving = reserving_behind (kind_of (op_at_pc setup w.state h)) w.reserving (length w.made);
    }
