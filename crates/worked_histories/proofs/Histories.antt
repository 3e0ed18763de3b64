-- What the worked rows are written with: small programs, short forms of results, the judgement of a whole history, and
-- where a history and the plain machine leave off.
use Rattle.std.specs.Prelude.{ℕ, ◌/◌, ◌%◌, ◌^◌, List, [], ◌∷◌, ◌++◌, length, map, option_map, take, reverse, Option}
use Rattle.std.specs.Prelude.{Some, None}
use Rattle.elf_image.specs.Image.{ProgramImage, byte_in, code_segment, code_start, code_size, code_writable, word_of}
use Rattle.elf_image.specs.Image.{word_now}
use Rattle.rv_word.specs.Word.{sum_of, difference_of, left_shift_of, right_shift_of, signed_right_shift_of}
use Rattle.rv_word.specs.Word.{signed_less_of, less_of, product_of, signed_high_product_of, mixed_high_product_of}
use Rattle.rv_word.specs.Word.{high_product_of, signed_quotient_of, quotient_of, signed_remainder_of, remainder_of}
use Rattle.rv_word.specs.Word.{atomic_result_of, sign_extended}
use Rattle.rv_instr.specs.Decode.{branch_op, load_op, store_op, immediate_op, shift_op, register_op, muldiv_op}
use Rattle.rv_instr.specs.Decode.{amo_kind, jalr_of, branch_of, load_of, store_of, shift_of, immediate_of, muldiv_of}
use Rattle.rv_instr.specs.Decode.{register_of, fence_of, system_of, load_reserved_of, store_conditional_of, amo_of}
use Rattle.rv_instr.specs.Decode.{atomic_of, decoded, op_of_instr, op_of_word}
use Rattle.rv_instr.specs.Registers.{rd_of, rs1_of, rs2_of, unit_of, op_rd, op_rs1, op_rs2, op_unit}
use Rattle.events.specs.{declared.effect.Next.Next, declared.effect.Outcome.Outcome, declared.effect.Effect.Effect}
use Rattle.events.specs.{declared.effect.Record.Record, declared.event.Event.Event}
use Rattle.events.specs.declared.role.Role.{Role}
use Rattle.smt_model.specs.{declared.config.Status.Status, Basics.below, Setup.Setup}
use Rattle.smt_model.specs.{Faults.fault, Faults.checked, Bytes.read_value, Bytes.number_at, Bytes.write_of, Plain.Run}
use Rattle.smt_model.specs.{Plain.run, Plain.read_register, Fates.same_hart, Fates.mispredicts}
use Rattle.smt_model.specs.{Fates.squashes_at_retirement, Registers.is_unclaimed, Looks.first_look, Fetching.choice}
use Rattle.smt_model.specs.{Rules.refused, Account.records, Account.order, Account.committed_value}
use Rattle.events.specs.declared.role.Role.TheVariants as role
use Rattle.smt_model.specs.Kinds.{kind_of, destination, first_source, second_source, access_size}
use Rattle.smt_model.specs.Exec.{exec, computed_of}
use Rattle.smt_model.specs.Memory.{byte_at, reserved, status, output}

-- ---- Programs and cores

-- The bytes of instruction words, the lowest of each word first.
abbrev pub bytes_of : List ℕ → List ℕ
bytes_of [] = []
bytes_of (word ∷ words) =
    word % 2 ^ 8 ∷ word / 2 ^ 8 % 2 ^ 8 ∷ word / 2 ^ 16 % 2 ^ 8 ∷ word / 2 ^ 24 ∷ bytes_of words

-- A program of these words: one segment at the first address of RAM, to be read and executed, and entered there.
abbrev pub program : List ℕ → ProgramImage
program words = record {
  ram = 8192;
  entry = 0x80000000;
  segments = record { address = 0x80000000; flags = 5; bytes = bytes_of words } ∷ [];
}

-- Six actors: 0 fetches, 1 decodes and renames, 2 retires; 3, 4 and 5 are units for arithmetic, products and memory.
abbrev pub one_of_each : List Role
one_of_each = role.Fetch ∷ role.Front ∷ role.Retire ∷ role.Alu ∷ role.Mul ∷ role.Mem ∷ []

-- So many harts on a program, with 64 registers beyond their own and 16 entries in the queue.
abbrev pub core : ℕ → List ℕ → Setup
core harts words =
    record { image = program words; harts = harts; extra = 64; queue = 16; roles = one_of_each }

-- One hart on one word.
abbrev pub one_word : ℕ → Setup
one_word word = core 1 (word ∷ [])

-- ---- Results

-- Of an instruction that touches no memory and puts nothing out.
abbrev pub outcome : Option ℕ → Next → Outcome
outcome value next = record { value = value; next = next; addr = None; datum = None; out = None }

-- Of one that writes no memory and puts nothing out.
abbrev pub effect : Option ℕ → Next → Effect
effect value next = record { value = value; next = next; write = None; out = None }

-- Of an access: the number that a load saw first, the address, and the data of a store or an atomic.
abbrev pub access : Option ℕ → ℕ → Option ℕ → Next → Outcome
access value addr datum next = record (outcome value next) { addr = Some addr; datum = datum }

-- Of a write of n bytes.
abbrev pub write : Option ℕ → ℕ → ℕ → ℕ → Next → Effect
write value addr n datum next = record (effect value next) { write = Some (write_of addr n datum) }

-- The record of a word that has retired.
abbrev pub retired : ℕ → ℕ → ℕ → Effect → Record
retired hart pc word x = record { hart = hart; pc = pc; word = Some word; effect = x }

-- ---- Histories. Here they are written as they came, the oldest event first.

-- The history that the definitions speak of: the newest event first.
abbrev pub past_of : List Event → List Event
past_of events = reverse events

-- The first n events, and then this one.
abbrev pub turned_at : ℕ → List Event → Event → List Event
turned_at n events e = take n events ++ e ∷ []

-- The first event that isn't allowed, by how many came before it, and the first rule that it breaks.
pub record Refusal : Type 0 where
  pub index : ℕ
  pub rule : ℕ

abbrev pub refusal_at : ℕ → ℕ → Option Refusal
refusal_at index rule = Some (record { index = index; rule = rule })

abbrev pub refusal_or : ℕ → Option ℕ → Option Refusal → Option Refusal
refusal_or index None later = later
refusal_or index (Some rule) later = refusal_at index rule

abbrev pub first_refusal : Setup → List Event → List Event → Option Refusal
first_refusal setup past [] = None
first_refusal setup past (e ∷ later) =
    refusal_or (length past) (refused setup past e) (first_refusal setup (e ∷ past) later)

-- The definitions that stay shut until they are named: a row opens them all by one of these names.

unfoldable pub instructions : Unit {0}
unfolding
    sum_of difference_of left_shift_of right_shift_of signed_right_shift_of signed_less_of less_of product_of
    signed_high_product_of mixed_high_product_of high_product_of signed_quotient_of quotient_of signed_remainder_of
    remainder_of atomic_result_of sign_extended branch_op load_op store_op immediate_op shift_op register_op
    muldiv_op amo_kind jalr_of branch_of load_of store_of shift_of immediate_of muldiv_of register_of fence_of
    system_of load_reserved_of store_conditional_of amo_of atomic_of decoded op_of_instr op_of_word rd_of rs1_of
    rs2_of unit_of op_rd op_rs1 op_rs2 op_unit kind_of destination first_source second_source access_size exec
    computed_of read_value
instructions = tt

unfoldable pub rules_of_events : Unit {0}
unfolding
    instructions byte_in code_segment code_start code_size code_writable word_of word_now fault checked same_hart
    mispredicts squashes_at_retirement is_unclaimed first_look choice refused
rules_of_events = tt

-- The first refusal in a history, none where it is legal.
unfoldable pub refusal : Setup → List Event → Option Refusal
unfolding rules_of_events
refusal setup events = first_refusal setup [] events

-- ---- Where a machine stands, as far as lists show it: the records in order, then of each hart its 32 registers, its
-- reservation and its status, the words of memory at some addresses, and the output.
pub record Standing : Type 0 where
  pub records : List Record
  pub registers : List (List (Option ℕ))
  pub reservations : List (Option ℕ)
  pub statuses : List Status
  pub words : List ℕ
  pub output : List ℕ

-- After a history: the registers are the committed ones.
abbrev pub standing : Setup → List ℕ → List Event → Standing
standing setup addresses past = record {
  records = reverse (records past);
  registers = map (λ h. map (committed_value setup past h) (below 32)) (below setup.harts);
  reservations = map (reserved past) (below setup.harts);
  statuses = map (status past) (below setup.harts);
  words = map (λ addr. number_at (byte_at setup past) addr 4) addresses;
  output = output past;
}

-- After a run of the plain machine.
abbrev pub plain_standing : Setup → List ℕ → Run → Standing
plain_standing setup addresses ran =
    let s = ran.state in record {
      records = reverse ran.records;
      registers = map (λ h. map (λ r. Some (read_register s h r)) (below 32)) (below setup.harts);
      reservations = map s.reserved (below setup.harts);
      statuses = map s.statuses (below setup.harts);
      words = map (λ addr. number_at s.bytes addr 4) addresses;
      output = s.output;
    }

-- Where the plain machine stands after a run in an order of harts, given as they came.
abbrev pub standing_after : Setup → List ℕ → List ℕ → Option Standing
standing_after setup addresses harts = option_map (plain_standing setup addresses) (run setup (reverse harts))

-- The harts of a history in the order in which they retired.
abbrev pub order_of : List Event → List ℕ
order_of events = reverse (order (past_of events))
