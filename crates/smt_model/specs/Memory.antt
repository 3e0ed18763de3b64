-- What the retirements have made of memory, reservations, output and statuses.
use Rattle.std.specs.Prelude.{ℕ, Bool, if◌then◌else◌, List, [], Option, Some, None}
use Rattle.smt_model.specs.{Words.byte_in, Words.Outcome, Words.Event}
use Rattle.smt_model.specs.{declared.config.Status.Status, declared.config.Status.TheVariants.Going}
use Rattle.smt_model.specs.{Basics.or_zero, Setup.Setup, Bytes.byte_after}
use Rattle.smt_model.specs.{Reservations.reservation_after, Plain.status_after, Plain.output_after}
use Rattle.smt_model.specs.{Plain.is_going_status, Folds.by_retirements, Fates.op_at, Fates.is_of}
use Rattle.smt_model.specs.{Fates.completion}

-- The byte at an address: the image's, with the writes of all retirements in order.
abbrev pub byte_at : Setup → List Event → ℕ → ℕ
byte_at setup =
    by_retirements (λ s x past bytes addr. byte_after x.write addr (bytes addr))
    (byte_in setup.image)

-- The address that an instruction's completion names.
abbrev pub address_of : Option Outcome → ℕ
address_of None = 0
address_of (Some o) = or_zero o.addr

-- The address of the word that hart h has reserved.
abbrev pub reserved : List Event → ℕ → Option ℕ
reserved =
    by_retirements (λ s x past held h.
    reservation_after (op_at past s) (address_of (completion past s)) x (is_of past h s) (held h))
    (λ h. None)

-- The bytes put out, in order.
abbrev pub output : List Event → List ℕ
output = by_retirements (λ s x past. output_after x.out) []

-- How hart h stands.
abbrev pub status : List Event → ℕ → Status
status =
    by_retirements (λ s x past stood h.
    if is_of past h s then status_after x.next (stood h) else stood h)
    (λ h. Going)

abbrev pub is_going : List Event → ℕ → Bool
is_going past h = is_going_status (status past h)
