-- A word whose opcode is neither a jump's nor a branch's goes on behind it, whatever it spells.
use Rattle.std.proofs.Common.{ℕ, ◌≡◌, ◌==◌, Bool, true, false, Option, Some, None, option_and_then, if◌then◌else◌, refl, rules}
use Rattle.rv_instr.specs.{declared.instr.Instr.Instr}
use Rattle.rv_instr.specs.Fields.{opcode_at}
use Rattle.rv_instr.specs.Decode.{decoded, jalr_of, load_of, store_of, immediate_of, shift_of, register_of}
use Rattle.rv_instr.specs.Decode.{muldiv_of, fence_of, system_of, atomic_of, load_reserved_of, store_conditional_of}
use Rattle.rv_instr.specs.Decode.{amo_of}
use Rattle.smt_model.specs.Exec.{next_pc}
use Rattle.actors.specs.Prediction.{static_guess}

GoesBehind : ℕ → Option Instr → Type 0
GoesBehind pc instr = static_guess pc instr ≡ next_pc pc

-- each step by which `decoded` is made keeps it

either : (pc : ℕ) (test : Bool) (x y : Option Instr) → GoesBehind pc x → GoesBehind pc y
    → GoesBehind pc (if test then x else y)
either pc true x y p q = p
either pc false x y p q = q

after : (pc : ℕ) {A : Type 0} (o : Option A) (f : A → Option Instr) → ((a : A) → GoesBehind pc (f a))
    → GoesBehind pc (option_and_then f o)
unfolding GoesBehind
after pc (Some a) f p = p a
after pc None f p = refl

some : (pc : ℕ) (instr : Instr) → static_guess pc (Some instr) ≡ next_pc pc → GoesBehind pc (Some instr)
unfolding GoesBehind
some pc instr is = is

none : (pc : ℕ) → GoesBehind pc None
unfolding GoesBehind
none pc = refl

ruleset steps = (rules, either, after, some, none)

jalr : (pc word : ℕ) → GoesBehind pc (jalr_of word)
unfolding jalr_of
jalr pc word = search steps

load : (pc word : ℕ) → GoesBehind pc (load_of word)
unfolding load_of
load pc word = search steps

store : (pc word : ℕ) → GoesBehind pc (store_of word)
unfolding store_of
store pc word = search steps

shift : (pc word : ℕ) → GoesBehind pc (shift_of word)
unfolding shift_of
shift pc word = search steps

immediate : (pc word : ℕ) → GoesBehind pc (immediate_of word)
unfolding immediate_of
immediate pc word = search (steps, shift)

muldiv : (pc word : ℕ) → GoesBehind pc (muldiv_of word)
unfolding muldiv_of
muldiv pc word = search steps

register : (pc word : ℕ) → GoesBehind pc (register_of word)
unfolding register_of
register pc word = search (steps, muldiv)

fence : (pc word : ℕ) → GoesBehind pc (fence_of word)
unfolding fence_of
fence pc word = search steps

system : (pc word : ℕ) → GoesBehind pc (system_of word)
unfolding system_of
system pc word = search steps

load_reserved : (pc word : ℕ) → GoesBehind pc (load_reserved_of word)
unfolding load_reserved_of
load_reserved pc word = search steps

store_conditional : (pc word : ℕ) → GoesBehind pc (store_conditional_of word)
unfolding store_conditional_of
store_conditional pc word = search steps

amo : (pc word : ℕ) → GoesBehind pc (amo_of word)
unfolding amo_of
amo pc word = search steps

atomic : (pc word : ℕ) → GoesBehind pc (atomic_of word)
unfolding atomic_of
atomic pc word = search (steps, load_reserved, store_conditional, amo)

of_word : (pc word : ℕ) → (opcode_at word == 0b1101111) ≡ false → (opcode_at word == 0b1100011) ≡ false
    → GoesBehind pc (decoded word)
unfolding decoded
of_word pc word no_jump no_branch =
    rw no_jump (rw no_branch (
    search (
      rules,
      either,
      some,
      none,
      jalr,
      load,
      store,
      immediate,
      register,
      fence,
      system,
      atomic,
    ) depth 30))

pub goes_behind : (pc word : ℕ) → (opcode_at word == 0b1101111) ≡ false → (opcode_at word == 0b1100011) ≡ false
    → static_guess pc (decoded word) ≡ next_pc pc
unfolding GoesBehind
goes_behind pc word no_jump no_branch = of_word pc word no_jump no_branch
