-- The instructions of all harts that wait, by rising number.
use Rattle.std.specs.Prelude.{◌≡◌, ℕ, ◌<◌, ◌≤◌, ◌==◌, ◌&&◌, not, nat_lt, Bool, true, List, [], ◌∷◌}
use Rattle.std.specs.Prelude.{Option, find, if◌then◌else◌}
use Rattle.std.specs.List.{AllByRecursion, list_any}
use Rattle.rv_instr.specs.declared.op.UnitKind.{UnitKind}
use Rattle.issue_queue.specs.{declared.entry.Entry.Entry, Entry.can_issue}

-- a queue: how many entries it has room for, and those it has
pub record Queue : Type 0 where
  pub size : ℕ
  pub entries : List Entry

-- each number is above those before it
abbrev pub AreEntriesRising : List Entry → Type 0
AreEntriesRising [] = Unit {0}
AreEntriesRising (x ∷ xs) = AllByRecursion (λ y. x.seq < y.seq) xs × AreEntriesRising xs

-- an entry has this number
abbrev pub has_number : ℕ → List Entry → Bool
has_number seq xs = list_any (λ x. x.seq == seq) xs

-- the entries with one more, before the first of a higher number
abbrev pub inserted_entry : Entry → List Entry → List Entry
inserted_entry e [] = e ∷ []
inserted_entry e (x ∷ xs) = if nat_lt e.seq x.seq then e ∷ x ∷ xs else x ∷ inserted_entry e xs

-- the first entry that a unit of this kind may take up
abbrev pub first_ready : UnitKind → List Entry → Option Entry
first_ready kind xs = find (can_issue kind) xs

-- a unit of this kind may take up e, and no entry of a lower number
pub record IsOldestReady (kind : UnitKind) (xs : List Entry) (e : Entry) : Type 0 where
  pub ready : can_issue kind e ≡ true
  pub oldest : AllByRecursion (λ x. can_issue kind x ≡ true → e.seq ≤ x.seq) xs

-- it has another number
abbrev pub is_other : ℕ → Entry → Bool
is_other seq x = not (x.seq == seq)

-- it isn't a younger one of the hart than that
abbrev pub stays : ℕ → ℕ → Entry → Bool
stays hart after x = not (x.hart == hart && nat_lt after x.seq)
