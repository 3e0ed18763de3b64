-- Accesses to memory: faults, the fields of completions and retirements, and reservations, for single instructions.
-- Their numbers were found by hand. RAM is 80000000 to 80001fff, and the first 16 bytes of it are the code.
use Rattle.std.specs.Prelude.{◌≡◌, ℕ, Bool, true, false, ◌==◌, if◌then◌else◌, List, [], ◌∷◌, map, replicate, Option}
use Rattle.std.specs.Prelude.{Some, None, refl}
use Rattle.elf_image.specs.Image.{ProgramImage}
use Rattle.rv_instr.specs.{Decode.op_of_word, declared.op.Op.Op, declared.op.Op.TheVariants.Known}
use Rattle.rv_instr.specs.{declared.op.Op.TheVariants.Illegal, declared.op.Op.TheVariants.NoWord}
use Rattle.events.specs.{declared.effect.Next.Next, declared.effect.Next.TheVariants.Pc}
use Rattle.events.specs.{declared.effect.Next.TheVariants.Stopped, declared.effect.Outcome.Outcome}
use Rattle.events.specs.{declared.effect.Effect.Effect}
use Rattle.smt_model.specs.{Exec.Computed, Exec.computed_of, Exec.just_next, Faults.checked, Outcomes.outcome_of}
use Rattle.smt_model.specs.{Effects.effect_of, Bytes.read, Bytes.written_byte, Bytes.write_of}
use Rattle.smt_model.specs.{Reservations.reservation_after, Reservations.holds_word}
use Rattle.worked_histories.proofs.Histories.{program, outcome, effect, access, write, rules_of_events}

abbrev image : ProgramImage
image = program (replicate 4 0x00000013)

abbrev op : ℕ → Op
op word = op_of_word (Some word)

abbrev computed : Op → ℕ → ℕ → Computed
computed (Known i) a b = computed_of i 0x80000000 a b
computed Illegal a b = just_next (Stopped 2)
computed NoWord a b = just_next (Stopped 1)

-- What a word at the entry computes of two numbers, its faults included.
abbrev result : ℕ → ℕ → ℕ → Computed
result word a b = checked image (op word) (computed (op word) a b)

-- ---- Faults

-- What comes after a word whose address is the first number, for each of some addresses.
abbrev after : ℕ → List ℕ → List Next
after word addresses = map (λ a. (result word a 0).next) addresses

abbrev goes_on : Next
goes_on = Pc 0x80000004

-- Of 4 bytes: the code, the rest of RAM, its last word; the words before and behind RAM; and addresses that are no
-- multiples of 4, inside and outside.
abbrev words : List ℕ
words =
    0x80000000 ∷ 0x80001000 ∷ 0x80001ffc ∷ 0x7ffffffc ∷ 0x80002000 ∷ 0 ∷ 0x80001001 ∷ 0x80001ffe ∷ 0x80002002 ∷ 1 ∷ []

abbrev read_faults : List Next
read_faults =
    goes_on ∷ goes_on ∷ goes_on ∷ Stopped 5 ∷ Stopped 5 ∷ Stopped 5 ∷ Stopped 4 ∷ Stopped 4 ∷ Stopped 4 ∷ Stopped 4 ∷ []

abbrev write_faults : List Next
write_faults =
    Stopped 7 ∷ goes_on ∷ goes_on ∷ Stopped 7 ∷ Stopped 7 ∷ Stopped 7 ∷ Stopped 6 ∷ Stopped 6 ∷ Stopped 6
    ∷ Stopped 6 ∷ []

-- lw x5,0(x6), and lw x0,0(x6), which faults all the same
loads : after 0x00032283 words ∷ after 0x00032003 words ∷ [] ≡ read_faults ∷ read_faults ∷ []
unfolding rules_of_events
loads = refl

-- lr.w x5,(x6) may reserve a word of the code.
load_reserved : after 0x100322af words ≡ read_faults
unfolding rules_of_events
load_reserved = refl

-- sw x5,0(x6)
stores : after 0x00532023 words ≡ write_faults
unfolding rules_of_events
stores = refl

-- sc.w x7,x10,(x6) and amoadd.w x0,x5,(x6)
conditionals_and_atomics : after 0x18a323af words ∷ after 0x0053202f words ∷ [] ≡ write_faults ∷ write_faults ∷ []
unfolding rules_of_events
conditionals_and_atomics = refl

-- lh x5,0(x6) at the last half word, one behind it, and an odd address; lb x5,0(x6) at the last byte and behind it
small_loads :
    after 0x00031283 (0x80001ffe ∷ 0x80002000 ∷ 0x80001fff ∷ []) ∷ after 0x00030283 (0x80001fff ∷ 0x80002000 ∷ []) ∷ []
    ≡ (goes_on ∷ Stopped 5 ∷ Stopped 4 ∷ []) ∷ (goes_on ∷ Stopped 5 ∷ []) ∷ []
unfolding rules_of_events
small_loads = refl

-- sb x5,0(x6) and sh x5,0(x6) at the end of the code and behind it
small_stores :
    after 0x00530023 (0x8000000f ∷ 0x80000010 ∷ []) ∷ after 0x00531023 (0x8000000e ∷ 0x80000010 ∷ 0x80000011 ∷ []) ∷ []
    ≡ (Stopped 7 ∷ goes_on ∷ []) ∷ (Stopped 7 ∷ goes_on ∷ Stopped 6 ∷ []) ∷ []
unfolding rules_of_events
small_stores = refl

-- lw x5,1(x0), lw x5,0(x0), sh x5,1(x0) and sw x5,0(x0)
the_four_causes :
    (result 0x00102283 0 0).next ∷ (result 0x00002283 0 0).next ∷ (result 0x005010a3 0 0).next
    ∷ (result 0x00502023 0 0).next ∷ []
    ≡ Stopped 4 ∷ Stopped 5 ∷ Stopped 6 ∷ Stopped 7 ∷ []
unfolding rules_of_events
the_four_causes = refl

-- ---- The fields of a completion. The first register is 80001000, the second 112233aa, and the first look gives 7.

abbrev completes : ℕ → Outcome
completes word = outcome_of (op word) (result word 0x80001000 0x112233aa) (Some 7)

abbrev accesses : Option ℕ → ℕ → Option ℕ → Outcome
accesses value addr datum = access value addr datum goes_on

-- lw x5,0(x6) has its first look, lw x0,0(x6) none.
load_completes :
    completes 0x00032283 ∷ completes 0x00032003 ∷ []
    ≡ accesses (Some 7) 0x80001000 None ∷ accesses None 0x80001000 None ∷ []
unfolding rules_of_events
load_completes = refl

-- sb x7,1(x6), sh x7,2(x6) and sw x7,0(x6) have the low bytes of x7.
store_completes :
    completes 0x007300a3 ∷ completes 0x00731123 ∷ completes 0x00732023 ∷ []
    ≡ accesses None 0x80001001 (Some 0xaa) ∷ accesses None 0x80001002 (Some 0x33aa)
    ∷ accesses None 0x80001000 (Some 0x112233aa) ∷ []
unfolding rules_of_events
store_completes = refl

-- lr.w x5,(x6); sc.w x7,x10,(x6); amoadd.w x5,x7,(x6): their numbers are not known yet.
atomic_completes :
    completes 0x100322af ∷ completes 0x18a323af ∷ completes 0x007322af ∷ []
    ≡ accesses None 0x80001000 None ∷ accesses None 0x80001000 (Some 0x112233aa)
    ∷ accesses None 0x80001000 (Some 0x112233aa) ∷ []
unfolding rules_of_events
atomic_completes = refl

-- jal x1,8; jal x0,8; beq x6,x7,8; fence
other_completes :
    completes 0x008000ef ∷ completes 0x0080006f ∷ completes 0x00730463 ∷ completes 0x0ff0000f ∷ []
    ≡ outcome (Some 0x80000004) (Pc 0x80000008) ∷ outcome None (Pc 0x80000008) ∷ outcome None goes_on
    ∷ outcome None goes_on ∷ []
unfolding rules_of_events
other_completes = refl

-- One that stops says nothing else: lw x5,1(x6); sw x7,2(x6); ebreak; jal x5,2, which has no number either.
stop_completes :
    completes 0x00132283 ∷ completes 0x00732123 ∷ completes 0x00100073 ∷ completes 0x002002ef ∷ []
    ≡ outcome None (Stopped 4) ∷ outcome None (Stopped 6) ∷ outcome None (Stopped 3) ∷ outcome None (Stopped 0) ∷ []
unfolding rules_of_events
stop_completes = refl

-- ---- The fields of a retirement. The access reads 9 now; the hart's reservation is on the word, or not.

abbrev retires : ℕ → Bool → Effect
retires word held = effect_of (op word) (result word 0x80001000 0x112233aa) 9 held

abbrev writing : Option ℕ → ℕ → ℕ → ℕ → Effect
writing value addr n datum = write value addr n datum goes_on

-- lw x5,0(x6) has what is read now, lw x0,0(x6) no number.
load_retires :
    retires 0x00032283 false ∷ retires 0x00032003 false ∷ []
    ≡ effect (Some 9) goes_on ∷ effect None goes_on ∷ []
unfolding rules_of_events
load_retires = refl

-- sb x7,1(x6), sh x7,2(x6) and sw x7,0(x6)
store_retires :
    retires 0x007300a3 false ∷ retires 0x00731123 false ∷ retires 0x00732023 false ∷ []
    ≡ writing None 0x80001001 1 0xaa ∷ writing None 0x80001002 2 0x33aa ∷ writing None 0x80001000 4 0x112233aa ∷ []
unfolding rules_of_events
store_retires = refl

-- lr.w x5,(x6) gives the word; lr.w x0,(x6) gives none.
load_reserved_retires :
    retires 0x100322af false ∷ retires 0x1003202f false ∷ []
    ≡ effect (Some 9) goes_on ∷ effect None goes_on ∷ []
unfolding rules_of_events
load_reserved_retires = refl

-- sc.w x7,x10,(x6) gives 0 and writes where the reservation is held, else it gives 1 and writes nothing.
conditional_retires :
    retires 0x18a323af true ∷ retires 0x18a323af false ∷ []
    ≡ writing (Some 0) 0x80001000 4 0x112233aa ∷ effect (Some 1) goes_on ∷ []
unfolding rules_of_events
conditional_retires = refl

-- sc.w x0,x10,(x6) does the same and gives no number.
conditional_into_x0_retires :
    retires 0x18a3202f true ∷ retires 0x18a3202f false ∷ []
    ≡ writing None 0x80001000 4 0x112233aa ∷ effect None goes_on ∷ []
unfolding rules_of_events
conditional_into_x0_retires = refl

-- amoadd.w x5,x7,(x6) gives the old word and writes the sum; amoadd.w x0,x7,(x6) writes it too.
atomic_retires :
    retires 0x007322af false ∷ retires 0x0073202f false ∷ []
    ≡ writing (Some 9) 0x80001000 4 0x112233b3 ∷ writing None 0x80001000 4 0x112233b3 ∷ []
unfolding rules_of_events
atomic_retires = refl

-- One that stops writes nothing: sw x7,2(x6).
stop_retires : retires 0x00732123 false ≡ effect None (Stopped 6)
unfolding rules_of_events
stop_retires = refl

-- ---- Bytes

-- 84, then ff wherever else, as LB, LBU, LH, LHU and LW read it.
reads :
    map (λ word. read (op word) (λ addr. if addr == 0x80001000 then 0x84 else 0xff) 0x80001000) (
    0x00030283 ∷ 0x00034283 ∷ 0x00031283 ∷ 0x00035283 ∷ 0x00032283 ∷ []
    )
    ≡ 0xffffff84 ∷ 0x84 ∷ 0xffffff84 ∷ 0xff84 ∷ 0xffffff84 ∷ []
unfolding rules_of_events
reads = refl

-- A write of 4 bytes, the lowest first, leaves those before and behind it.
writes :
    map (λ addr. written_byte (write_of 0x80001000 4 0x11223344) addr 0xee) (
    0x80000fff ∷ 0x80001000 ∷ 0x80001001 ∷ 0x80001002 ∷ 0x80001003 ∷ 0x80001004 ∷ []
    )
    ≡ 0xee ∷ 0x44 ∷ 0x33 ∷ 0x22 ∷ 0x11 ∷ 0xee ∷ []
writes = refl

-- ---- Reservations

-- What is left of a reservation, where a word with its effect was the hart's own, or another's.
abbrev own : ℕ → Effect → Option ℕ → Option ℕ
own word x held = reservation_after (op word) 0x80001000 x true held

abbrev other : ℕ → Effect → Option ℕ → Option ℕ
other word x held = reservation_after (op word) 0x80001000 x false held

-- lr.w sets its own hart's, in the place of one before, and not another's.
reserves :
    own 0x100322af (effect (Some 9) goes_on) None ∷ own 0x100322af (effect (Some 9) goes_on) (Some 0x80001004)
    ∷ other 0x100322af (effect (Some 9) goes_on) None ∷ other 0x100322af (effect (Some 9) goes_on) (Some 0x80001000)
    ∷ []
    ≡ Some 0x80001000 ∷ Some 0x80001000 ∷ None ∷ Some 0x80001000 ∷ []
unfolding rules_of_events
reserves = refl

-- sc.w ends its own hart's, whether it writes or not, also one on another word. Another's ends only by the write.
conditional_ends :
    own 0x18a323af (writing (Some 0) 0x80001000 4 5) (Some 0x80001000)
    ∷ own 0x18a323af (effect (Some 1) goes_on) (Some 0x80001004)
    ∷ other 0x18a323af (writing (Some 0) 0x80001000 4 5) (Some 0x80001000)
    ∷ other 0x18a323af (effect (Some 1) goes_on) (Some 0x80001000)
    ∷ other 0x18a323af (writing (Some 0) 0x80001000 4 5) (Some 0x80001004) ∷ []
    ≡ None ∷ None ∷ None ∷ Some 0x80001000 ∷ Some 0x80001004 ∷ []
unfolding rules_of_events
conditional_ends = refl

-- One byte written into the reserved word ends it, by the hart itself or another; into the next word it does not.
byte_ends :
    own 0x00730023 (writing None 0x80001003 1 1) (Some 0x80001000)
    ∷ other 0x00730023 (writing None 0x80001003 1 1) (Some 0x80001000)
    ∷ own 0x00730023 (writing None 0x80001004 1 1) (Some 0x80001000)
    ∷ other 0x00730023 (writing None 0x80001004 1 1) (Some 0x80001000) ∷ []
    ≡ None ∷ None ∷ Some 0x80001000 ∷ Some 0x80001000 ∷ []
unfolding rules_of_events
byte_ends = refl

-- Only a reservation on the very word counts.
held_words :
    holds_word (Some 0x80001000) 0x80001000 ∷ holds_word (Some 0x80001004) 0x80001000 ∷ holds_word None 0x80001000 ∷ []
    ≡ true ∷ false ∷ false ∷ []
held_words = refl

-- amoadd.w ends it by its write; lw and what stops leave it, a conditional that faults too.
others_leave :
    own 0x007322af (writing (Some 9) 0x80001000 4 1) (Some 0x80001000)
    ∷ own 0x00032283 (effect (Some 9) goes_on) (Some 0x80001000)
    ∷ own 0x18a323af (effect None (Stopped 6)) (Some 0x80001000) ∷ []
    ≡ None ∷ Some 0x80001000 ∷ Some 0x80001000 ∷ []
unfolding rules_of_events
others_leave = refl
