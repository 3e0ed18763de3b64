-- Reading the operands of a row from left to right, with the first refusal that is met. A number is
-- read as far as its digits go.
use Rattle.std.specs.Prelude.{◌≡◌, ℕ, suc, ◌+◌, ◌*◌, ◌%◌, ◌^◌, Bool, not, ◌&&◌, nat_lt, ◌==◌}
use Rattle.std.specs.Prelude.{if◌then◌else◌, ℤ, pos, negsuc, List, [], length, take, drop}
use Rattle.std.specs.Prelude.{slice_index, codes, unwrap_or, position, Result, Ok, Err}
use Rattle.std.specs.{Char.is_ascii_digit, Char.is_ascii_hexdigit, List.position_or_len}
use Rattle.std.specs.{Str.bytes_eq}
use Rattle.rv_word.specs.Word.{signed, difference_of}
use Rattle.rv_instr.specs.declared.instr.Instr.{Instr}
use Rattle.text_fields.specs.{declared.read.FieldError.FieldError, Reading.decimal_field}
use Rattle.text_fields.specs.{Reading.signed_field, Reading.hex_field}
use Rattle.text_fields.specs.declared.read.FieldError.TheVariants as fields
use Rattle.rv_text.specs.{declared.refused.TextRefused.TextRefused}
use Rattle.rv_text.specs.{declared.operands.Operands.Operands, Operands.instr_with}
use Rattle.rv_text.specs.{declared.mnemonic.Mnemonic.Mnemonic, declared.mnemonic.AtomicOp.AtomicOp}
use Rattle.rv_text.specs.{declared.mnemonic.AtomicOp.TheVariants.LoadReserved}
use Rattle.rv_text.specs.{declared.mnemonic.AtomicOp.TheVariants.StoreConditional}
use Rattle.rv_text.specs.{declared.mnemonic.AtomicOp.TheVariants.Amo}
use Rattle.rv_text.specs.declared.refused.TextRefused.TheVariants.{UnknownName, WrongOperand}
use Rattle.rv_text.specs.declared.refused.TextRefused.TheVariants.{OutOfRange, TrailingText}
use Rattle.rv_text.specs.declared.mnemonic.Mnemonic.TheVariants.{Lui, Auipc, Jal, Jalr, Branch}
use Rattle.rv_text.specs.declared.mnemonic.Mnemonic.TheVariants.{Load, Store, Immediate, Shift}
use Rattle.rv_text.specs.declared.mnemonic.Mnemonic.TheVariants.{Register, MulDiv, Fence, InstructionFence, Ecall}
use Rattle.rv_text.specs.declared.mnemonic.Mnemonic.TheVariants.{Ebreak, Atomic}

infixl 10 ◌>>=◌
abbrev pub ◌>>=◌ : {A B : Type 0} → Result A TextRefused → (A → Result B TextRefused)
    → Result B TextRefused
(Ok x) >>= f = f x
(Err e) >>= f = Err e

-- what a function returned, seen by view, is what reading gives
abbrev pub Gives : {X Y : Type 0} → (X → Y) → Result X TextRefused → Result Y TextRefused → Type 0
Gives view (Ok x) read = read ≡ Ok (view x)
Gives view (Err e) read = read ≡ Err e

-- the name ends at the first space, which belongs to the operands
abbrev pub name_in : List ℕ → List ℕ
name_in text = take (position_or_len (λ c. c == 32) text) text

abbrev pub behind_name : List ℕ → List ℕ
behind_name text = drop (position_or_len (λ c. c == 32) text) text

-- ---- rows, as their names are looked for: those whose name has no dot first

-- without a dot
abbrev pub IsPlain : Mnemonic → Type 0
IsPlain (Atomic _ _) = ⊥
IsPlain InstructionFence = ⊥
IsPlain _ = Unit {0}

-- one of the rows that stand by themselves
abbrev pub IsAlone : Mnemonic → Type 0
IsAlone Lui = Unit {0}
IsAlone Auipc = Unit {0}
IsAlone Jal = Unit {0}
IsAlone Jalr = Unit {0}
IsAlone Fence = Unit {0}
IsAlone Ecall = Unit {0}
IsAlone Ebreak = Unit {0}
IsAlone _ = ⊥

-- ---- fields: a value, and the text behind it

abbrev pub Field : Type 0 → Type 0
Field A = List ℕ → Result (A × List ℕ) TextRefused

-- the number of each reason
abbrev pub refusal_number : TextRefused → ℕ
refusal_number UnknownName = 1
refusal_number WrongOperand = 2
refusal_number OutOfRange = 3
refusal_number TrailingText = 4

abbrev pub refusal_of : FieldError → TextRefused
refusal_of fields.Misspelled = WrongOperand
refusal_of fields.OutOfRange = OutOfRange

abbrev pub with_refusal : {A : Type 0} → Result A FieldError → Result A TextRefused
with_refusal (Ok x) = Ok x
with_refusal (Err e) = Err (refusal_of e)

-- how many digits the text begins with: decimal ones, and hexadecimal ones of either case
unfoldable pub digit_count : List ℕ → ℕ
digit_count text = unwrap_or (position (λ c. not (is_ascii_digit c)) text) (length text)

unfoldable pub hex_digit_count : List ℕ → ℕ
hex_digit_count text = unwrap_or (position (λ c. not (is_ascii_hexdigit c)) text) (length text)

-- these characters, and the text behind them
unfoldable pub text_after : List ℕ → List ℕ → Result (List ℕ) TextRefused
text_after before text =
    if bytes_eq (take (length before) text) before then Ok (drop (length before) text)
    else Err WrongOperand

unfoldable pub register_at : List ℕ → Field ℕ
register_at before text = do
  rest ← text_after before text
  number ← with_refusal (decimal_field 31 (take (digit_count rest) rest))
  Ok (number, drop (digit_count rest) rest)

-- how long a number is that may begin with a minus sign
abbrev pub sign_len : List ℕ → ℕ
sign_len text = if slice_index text 0 == 45 then 1 else 0

unfoldable pub number_len : List ℕ → ℕ
number_len text = sign_len text + digit_count (drop (sign_len text) text)

unfoldable pub signed_at : ℕ → Field ℤ
signed_at bound text = do
  rest ← text_after (codes ",") text
  number ← with_refusal (signed_field bound (take (number_len rest) rest))
  Ok (number, drop (number_len rest) rest)

abbrev pub amount_of : ℤ → Result ℕ TextRefused
amount_of (pos n) = if nat_lt n 32 then Ok n else Err OutOfRange
amount_of (negsuc n) = Err OutOfRange

unfoldable pub amount_at : Field ℕ
amount_at text = do
  number ← signed_at (2 ^ 31) text
  amount ← amount_of number.0
  Ok (amount, number.1)

unfoldable pub hex_at : ℕ → Field ℕ
hex_at count text = do
  rest ← text_after (codes ",0x") text
  number ← with_refusal (hex_field count (take (hex_digit_count rest) rest))
  Ok (number, drop (hex_digit_count rest) rest)

unfoldable pub upper_at : Field ℕ
upper_at text = do
  number ← hex_at 5 text
  Ok (number.0 * 2 ^ 12, number.1)

-- how far a target is from pc, as a signed word
unfoldable pub distance_of : ℕ → ℕ → ℤ
distance_of pc target = signed (difference_of target pc)

-- an even distance from -bound to bound - 1
unfoldable pub is_distance : ℕ → ℤ → Bool
is_distance bound (pos n) = nat_lt n bound && n % 2 == 0
is_distance bound (negsuc n) = nat_lt n bound && suc n % 2 == 0

unfoldable pub target_at : ℕ → ℕ → Field ℤ
target_at bound pc text = do
  target ← hex_at 8 text
  if is_distance bound (distance_of pc target.0) then Ok (distance_of pc target.0, target.1)
      else Err OutOfRange

-- ---- the operands of a row

-- these characters, and nothing behind them
unfoldable pub end_at : List ℕ → List ℕ → Result (Unit {0}) TextRefused
end_at suffix text = do
  rest ← text_after suffix text
  if length rest == 0 then Ok tt else Err TrailingText

unfoldable pub two_fields : {A B : Type 0} → Field A → Field B → List ℕ → List ℕ
    → Result (A × B) TextRefused
two_fields f g suffix text = do
  a ← f text
  b ← g a.1
  end ← end_at suffix b.1
  Ok (a.0, b.0)

unfoldable pub three_fields : {A B C : Type 0} → Field A → Field B → Field C
    → List ℕ → List ℕ → Result (A × B × C) TextRefused
three_fields f g h suffix text = do
  a ← f text
  b ← g a.1
  c ← h b.1
  end ← end_at suffix c.1
  Ok (a.0, b.0, c.0)

abbrev pub first_at : Field ℕ
first_at = register_at (codes " x")

abbrev pub next_at : Field ℕ
next_at = register_at (codes ",x")

abbrev pub base_at : Field ℕ
base_at = register_at (codes "(x")

abbrev pub address_at : Field ℕ
address_at = register_at (codes ",(x")

unfoldable pub upper_operands : List ℕ → Result (ℕ × ℕ) TextRefused
upper_operands text = two_fields first_at upper_at [] text

unfoldable pub jump_operands : ℕ → List ℕ → Result (ℕ × ℤ) TextRefused
jump_operands pc text = two_fields first_at (target_at (2 ^ 20) pc) [] text

unfoldable pub branch_operands : ℕ → List ℕ → Result (ℕ × ℕ × ℤ) TextRefused
branch_operands pc text = three_fields first_at next_at (target_at (2 ^ 12) pc) [] text

unfoldable pub memory_operands : List ℕ → Result (ℕ × ℤ × ℕ) TextRefused
memory_operands text = three_fields first_at (signed_at (2 ^ 11)) base_at (codes ")") text

unfoldable pub immediate_operands : List ℕ → Result (ℕ × ℕ × ℤ) TextRefused
immediate_operands text = three_fields first_at next_at (signed_at (2 ^ 11)) [] text

unfoldable pub shift_operands : List ℕ → Result (ℕ × ℕ × ℕ) TextRefused
shift_operands text = three_fields first_at next_at amount_at [] text

unfoldable pub register_operands : List ℕ → Result (ℕ × ℕ × ℕ) TextRefused
register_operands text = three_fields first_at next_at next_at [] text

unfoldable pub load_reserved_operands : List ℕ → Result (ℕ × ℕ) TextRefused
load_reserved_operands text = two_fields first_at address_at (codes ")") text

unfoldable pub atomic_operands : List ℕ → Result (ℕ × ℕ × ℕ) TextRefused
atomic_operands text = three_fields first_at next_at address_at (codes ")") text

-- ---- the same as operands

abbrev pub no_operands : Operands
no_operands = record { rd = 0; rs1 = 0; rs2 = 0; offset = pos 0; upper = 0; amount = 0 }

abbrev pub upper_of : ℕ × ℕ → Operands
upper_of x = record { rd = x.0; rs1 = 0; rs2 = 0; offset = pos 0; upper = x.1; amount = 0 }

abbrev pub jump_of : ℕ × ℤ → Operands
jump_of x = record { rd = x.0; rs1 = 0; rs2 = 0; offset = x.1; upper = 0; amount = 0 }

abbrev pub branch_of : ℕ × ℕ × ℤ → Operands
branch_of x = record { rd = 0; rs1 = x.0; rs2 = x.1; offset = x.2; upper = 0; amount = 0 }

abbrev pub load_of : ℕ × ℤ × ℕ → Operands
load_of x = record { rd = x.0; rs1 = x.2; rs2 = 0; offset = x.1; upper = 0; amount = 0 }

abbrev pub store_of : ℕ × ℤ × ℕ → Operands
store_of x = record { rd = 0; rs1 = x.2; rs2 = x.0; offset = x.1; upper = 0; amount = 0 }

abbrev pub immediate_of : ℕ × ℕ × ℤ → Operands
immediate_of x = record { rd = x.0; rs1 = x.1; rs2 = 0; offset = x.2; upper = 0; amount = 0 }

abbrev pub shift_of : ℕ × ℕ × ℕ → Operands
shift_of x = record { rd = x.0; rs1 = x.1; rs2 = 0; offset = pos 0; upper = 0; amount = x.2 }

abbrev pub register_of : ℕ × ℕ × ℕ → Operands
register_of x = record { rd = x.0; rs1 = x.1; rs2 = x.2; offset = pos 0; upper = 0; amount = 0 }

abbrev pub reserved_of : ℕ × ℕ → Operands
reserved_of x = record { rd = x.0; rs1 = x.1; rs2 = 0; offset = pos 0; upper = 0; amount = 0 }

abbrev pub atomic_of : ℕ × ℕ × ℕ → Operands
atomic_of x = record { rd = x.0; rs1 = x.2; rs2 = x.1; offset = pos 0; upper = 0; amount = 0 }

abbrev pub Form : Type 0
Form = List ℕ → Result Operands TextRefused

abbrev pub upper_form : Form
upper_form text = upper_operands text >>= λ x. Ok (upper_of x)

abbrev pub jump_form : ℕ → Form
jump_form pc text = jump_operands pc text >>= λ x. Ok (jump_of x)

abbrev pub branch_form : ℕ → Form
branch_form pc text = branch_operands pc text >>= λ x. Ok (branch_of x)

abbrev pub load_form : Form
load_form text = memory_operands text >>= λ x. Ok (load_of x)

abbrev pub store_form : Form
store_form text = memory_operands text >>= λ x. Ok (store_of x)

abbrev pub immediate_form : Form
immediate_form text = immediate_operands text >>= λ x. Ok (immediate_of x)

abbrev pub shift_form : Form
shift_form text = shift_operands text >>= λ x. Ok (shift_of x)

abbrev pub register_form : Form
register_form text = register_operands text >>= λ x. Ok (register_of x)

abbrev pub reserved_form : Form
reserved_form text = load_reserved_operands text >>= λ x. Ok (reserved_of x)

abbrev pub atomic_form : Form
atomic_form text = atomic_operands text >>= λ x. Ok (atomic_of x)

abbrev pub no_form : Form
no_form text = end_at [] text >>= λ x. Ok no_operands

abbrev pub atomic_at : AtomicOp → Form
atomic_at LoadReserved text = reserved_form text
atomic_at StoreConditional text = atomic_form text
atomic_at (Amo kind) text = atomic_form text

-- the operands of a row that stands at pc
unfoldable pub operands_at : ℕ → Mnemonic → Form
operands_at pc Lui text = upper_form text
operands_at pc Auipc text = upper_form text
operands_at pc Jal text = jump_form pc text
operands_at pc Jalr text = load_form text
operands_at pc (Branch op) text = branch_form pc text
operands_at pc (Load op) text = load_form text
operands_at pc (Store op) text = store_form text
operands_at pc (Immediate op) text = immediate_form text
operands_at pc (Shift op) text = shift_form text
operands_at pc (Register op) text = register_form text
operands_at pc (MulDiv op) text = register_form text
operands_at pc Fence text = no_form text
operands_at pc InstructionFence text = no_form text
operands_at pc Ecall text = no_form text
operands_at pc Ebreak text = no_form text
operands_at pc (Atomic op ordering) text = atomic_at op text

-- the instruction of a row that stands at pc and has these operands
unfoldable pub instr_at : ℕ → Mnemonic → List ℕ → Result Instr TextRefused
instr_at pc mnemonic text = operands_at pc mnemonic text >>= λ x. Ok (instr_with mnemonic x)
