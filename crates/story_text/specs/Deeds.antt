-- The text of what a step shows. (This project's own choice.)
use Rattle.std.specs.Prelude.{ℕ, ◌&&◌, nat_le, nat_lt, if◌then◌else◌, List, [], ◌∷◌, ◌++◌, codes}
use Rattle.std.specs.Prelude.{Option, Some, None}
use Rattle.std.specs.{Fmt.decimal}
use Rattle.rv_word.specs.declared.amo_kind.AmoKind.{AmoKind}
use Rattle.rv_instr.specs.{declared.op.Op.Op, declared.op.Op.TheVariants.Known, declared.op.Op.TheVariants.Illegal}
use Rattle.rv_instr.specs.{declared.op.Op.TheVariants.NoWord}
use Rattle.rv_text.specs.{Mnemonic.load_name, Mnemonic.store_name, Mnemonic.amo_name, Spelling.spelling_of}
use Rattle.text_fields.specs.Spelling.{hex}
use Rattle.shown_text.specs.Shown.{shown_name}
use Rattle.symbols.specs.Tables.{Table}
use Rattle.address_labels.specs.{Labels.Place, Labels.place_in, Texts.behind_text}
use Rattle.stories.specs.declared.{deed.Deed.Deed, row.Row.Row, step.Step.Step, recent.Note.Note}
use Rattle.stories.specs.declared.recent.Note.TheVariants as note
use Rattle.stories.specs.declared.deed.Deed.TheVariants as deed

-- The word that a row begins with: the mnemonic, without ordering bits.
abbrev pub amo_name_of_word : AmoKind → List ℕ
amo_name_of_word kind = amo_name kind ++ codes ".w"

abbrev pub name_of : Deed → List ℕ
name_of (deed.Loaded op addr number) = load_name op
name_of (deed.Reserved addr number) = codes "lr.w"
name_of (deed.Stored op addr number) = store_name op
name_of (deed.Conditional addr number) = codes "sc.w"
name_of (deed.Failed addr) = codes "sc.w"
name_of (deed.Atomic kind addr old new) = amo_name_of_word kind
name_of (deed.Out byte) = codes "out"
name_of (deed.Ended number) = codes "ended"
name_of (deed.Stopped cause) = codes "stopped"

-- Where an address is: in what has a name, and how many bytes behind its start; else its eight digits.
abbrev pub place_of : Place → List ℕ
place_of place = shown_name place.name ++ behind_text place.behind

abbrev pub address_text : ℕ → List ℕ
address_text address = hex 8 address

abbrev pub place_or : Option Place → ℕ → List ℕ
place_or None address = address_text address
place_or (Some place) address = place_of place

abbrev pub place_text : Table → ℕ → List ℕ
place_text names address = place_or (place_in names address) address

-- An arrow from a place to the number that was read there, and one back: U+2192 and U+2190, as UTF-8 has them.
abbrev pub read_arrow : List ℕ
read_arrow = 32 ∷ 226 ∷ 134 ∷ 146 ∷ 32 ∷ []

abbrev pub written_arrow : List ℕ
written_arrow = 32 ∷ 226 ∷ 134 ∷ 144 ∷ 32 ∷ []

abbrev pub read_text : Table → ℕ → ℕ → List ℕ
read_text names addr number = place_text names addr ++ (read_arrow ++ decimal number)

abbrev pub written_text : Table → ℕ → ℕ → List ℕ
written_text names addr number = place_text names addr ++ (written_arrow ++ decimal number)

abbrev pub atomic_text : Table → ℕ → ℕ → ℕ → List ℕ
atomic_text names addr old new =
    place_text names addr ++ (32 ∷ (decimal old ++ (read_arrow ++ decimal new)))

-- Which row it is: its hart, its mnemonic and its number.
abbrev pub row_text : Row → List ℕ
row_text row =
    codes "hart " ++ (decimal row.hart ++ (codes "'s " ++ (name_of row.deed ++ (codes " at row "
    ++ decimal row.number))))

-- Who took a reservation.
abbrev pub taker_text : Row → List ℕ
taker_text row = row_text row ++ codes " took the reservation"

abbrev pub reason_text : Option Note → List ℕ
reason_text None = codes "no reservation"
reason_text (Some (note.Taken row)) = taker_text row
reason_text (Some (note.Overwrites read write)) = codes "no reservation"
reason_text (Some (note.Again read write)) = codes "no reservation"

abbrev pub failed_text : Table → Option Note → ℕ → List ℕ
failed_text names noted addr = place_text names addr ++ (codes " fails: " ++ reason_text noted)

-- What earlier rows make of a store, and of an LR.
abbrev pub lost_text : Row → Row → List ℕ
lost_text read write =
    codes ", lost update: " ++ (row_text write ++ (codes " came after the read at row " ++ decimal read.number))

abbrev pub again_text : Row → Row → List ℕ
again_text read write =
    codes ", ABA: as at row " ++ (decimal read.number ++ (codes ", though " ++ (row_text write
    ++ codes " wrote since")))

abbrev pub note_text : Option Note → List ℕ
note_text None = []
note_text (Some (note.Taken row)) = []
note_text (Some (note.Overwrites read write)) = lost_text read write
note_text (Some (note.Again read write)) = again_text read write

abbrev pub reserved_text : Table → Option Note → ℕ → ℕ → List ℕ
reserved_text names noted addr number = read_text names addr number ++ note_text noted

abbrev pub stored_text : Table → Option Note → ℕ → ℕ → List ℕ
stored_text names noted addr number = written_text names addr number ++ note_text noted

-- A byte that was put out: between quotes where it is a character that can be seen, else by its two digits.
abbrev pub byte_text : ℕ → List ℕ
byte_text byte = if nat_le 32 byte && nat_lt byte 127 then 39 ∷ byte ∷ 39 ∷ [] else codes "0x" ++ hex 2 byte

abbrev pub shown_text : Table → Option Note → Deed → List ℕ
shown_text names noted (deed.Loaded op addr number) = read_text names addr number
shown_text names noted (deed.Reserved addr number) = reserved_text names noted addr number
shown_text names noted (deed.Stored op addr number) = stored_text names noted addr number
shown_text names noted (deed.Conditional addr number) = written_text names addr number
shown_text names noted (deed.Failed addr) = failed_text names noted addr
shown_text names noted (deed.Atomic kind addr old new) = atomic_text names addr old new
shown_text names noted (deed.Out byte) = byte_text byte
shown_text names noted (deed.Ended number) = decimal number
shown_text names noted (deed.Stopped cause) = decimal cause

abbrev pub deed_text : Table → Option Note → Deed → List ℕ
deed_text names noted d = name_of d ++ (32 ∷ shown_text names noted d)

-- What shows nothing is told by its instruction. (What is none stops its hart, and so shows that.)
unfoldable pub op_text : Op → ℕ → List ℕ
op_text (Known i) pc = spelling_of i pc
op_text Illegal pc = []
op_text NoWord pc = []

abbrev pub body_of : Table → Option Note → Step → Option Deed → List ℕ
body_of names noted step None = op_text step.op step.pc
body_of names noted step (Some d) = deed_text names noted d
