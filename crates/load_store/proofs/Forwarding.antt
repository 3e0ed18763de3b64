-- The stores in flight, laid over memory, are those that a load sees forwarded.
use Rattle.std.specs.Prelude.{◌≡◌, ℕ, zero, suc, ◌+◌, nat_lt, Bool, true, false, ◌&&◌, List, [], ◌∷◌, map, filter}
use Rattle.std.specs.Prelude.{Option, None, option_and_then}
use Rattle.std.proofs.Common.{◌∙◌, refl, ap, inl, inr, arith}
use Rattle.std.proofs.lemmas.Bool.{cases_Bool, cond-true, cond-false}
use Rattle.events.specs.declared.event.Event.{Event}
use Rattle.events.specs.declared.effect.Written.{Written}
use Rattle.rv_instr.specs.declared.op.Op.{Op}
use Rattle.smt_model.specs.{Setup.Setup, Kinds.kind_of, Kinds.is_storing, Kinds.access_size, Flights.numbers}
use Rattle.smt_model.specs.{Bytes.number_at, Bytes.read, Bytes.read_value, Bytes.byte_after}
use Rattle.smt_model.specs.Memory.{byte_at}
use Rattle.smt_model.specs.Fates.{Fate, Unknown, InDecode, InRename, Renamed, Issued, Completed, Retired, Halted}
use Rattle.smt_model.specs.Fates.{Squashed, fate, is, is_in_flight, op_at, completion}
use Rattle.smt_model.specs.Looks.{stored_by, is_forwarded, overlaid_byte, first_look, seen_byte}
use Rattle.shared_memory.specs.Contents.{Contents, byte_of}
use Rattle.load_store.specs.Looks.{forwarded, overlaid_by, seen}
use Rattle.load_store.specs.Stores.{store_at, stores_at}
use Rattle.load_store.specs.Histories.{SeesFirstLook}

completed_flies : (f : Fate) → is f Completed ≡ true → is_in_flight f ≡ true
completed_flies Unknown done = absurd (grind arith)
completed_flies InDecode done = absurd (grind arith)
completed_flies InRename done = absurd (grind arith)
completed_flies Renamed done = refl
completed_flies Issued done = refl
completed_flies Completed done = refl
completed_flies Retired done = absurd (grind arith)
completed_flies Halted done = absurd (grind arith)
completed_flies Squashed done = absurd (grind arith)

first_of : (a b : Bool) → (a && b) ≡ true → a ≡ true
first_of true b both = refl
first_of false b both = both

second_of : (a b : Bool) → (a && b) ≡ true → b ≡ true
second_of true b both = both
second_of false b both = absurd (grind arith)

module _ (past : List Event) (s addr : ℕ) where
  stores : ℕ → Bool
  stores x = is_storing (kind_of (op_at past x))

  -- The byte with the stores in flight among these over it, and as the definitions forward them.
  laid : List ℕ → ℕ → ℕ
  laid xs before =
      overlaid_by s (map (store_at past) (filter (λ x. is_storing (kind_of (op_at past x)))
      (filter (λ x. is_in_flight (fate past x)) xs))) addr before

  said : List ℕ → ℕ → ℕ
  said xs before = overlaid_byte past addr (filter (is_forwarded past s) xs) before

  laid_left : (x : ℕ) (xs : List ℕ) (before : ℕ) → is_in_flight (fate past x) ≡ false
      → laid (x ∷ xs) before ≡ laid xs before
  unfolding laid
  laid_left x xs before left = rw left refl

  laid_flying : (x : ℕ) (xs : List ℕ) (before : ℕ) → is_in_flight (fate past x) ≡ true → stores x ≡ true
      → laid (x ∷ xs) before ≡ laid xs (forwarded s (store_at past x) addr before)
  unfolding laid stores
  laid_flying x xs before flying storing = rw (flying, storing) refl

  laid_other : (x : ℕ) (xs : List ℕ) (before : ℕ) → stores x ≡ false → laid (x ∷ xs) before ≡ laid xs before
  unfolding laid stores
  laid_other x xs before other = elim (cases_Bool (is_in_flight (fate past x))) [
    | inl flying ↦ rw (flying, other) refl
    | inr left ↦ rw left refl
  ]

  will_write : ℕ → Option Written
  will_write x = option_and_then (stored_by (op_at past x)) (completion past x)

  forwarded_done : (x before : ℕ) → nat_lt x s ≡ true → is (fate past x) Completed ≡ true
      → forwarded s (store_at past x) addr before
      ≡ byte_after (will_write x) addr before
  unfolding will_write
  forwarded_done x before old done =
      cond-true (nat_lt x s) (byte_after (store_at past x).write addr before) before old
      ∙ ap (λ w. byte_after w addr before)
      (cond-true (is (fate past x) Completed) (will_write x) None done)

  forwarded_waits : (x before : ℕ) → nat_lt x s ≡ true → is (fate past x) Completed ≡ false
      → forwarded s (store_at past x) addr before ≡ before
  unfolding will_write
  forwarded_waits x before old waits =
      cond-true (nat_lt x s) (byte_after (store_at past x).write addr before) before old
      ∙ ap (λ w. byte_after w addr before)
      (cond-false (is (fate past x) Completed) (will_write x) None waits)

  forwarded_young : (x before : ℕ) → nat_lt x s ≡ false → forwarded s (store_at past x) addr before ≡ before
  forwarded_young x before young = cond-false (nat_lt x s) (byte_after (store_at past x).write addr before) before young

  -- A store that is none of those forwarded leaves the byte.
  laid_past : (x : ℕ) (xs : List ℕ) (before : ℕ) → is_forwarded past s x ≡ false
      → laid (x ∷ xs) before ≡ laid xs before
  unfolding stores
  laid_past x xs before not =
      elim (cases_Bool (is_in_flight (fate past x))) [
        | inr left ↦ laid_left x xs before left
        | inl flying ↦ elim (cases_Bool (is_storing (kind_of (op_at past x)))) [
          | inr other ↦ laid_other x xs before other
          | inl storing ↦ laid_flying x xs before flying storing
              ∙ ap (laid xs) (elim (cases_Bool (nat_lt x s)) [
                | inr young ↦ forwarded_young x before young
                | inl old ↦ forwarded_waits x before old (rw (old, storing) at not)
              ])
        ]
      ]

  laid_over : (x : ℕ) (xs : List ℕ) (before : ℕ) → is_forwarded past s x ≡ true
      → laid (x ∷ xs) before
      ≡ laid xs (byte_after (will_write x) addr before)
  unfolding stores
  laid_over x xs before is_one =
      let old : nat_lt x s ≡ true = first_of (nat_lt x s) _ is_one in
      let rest = second_of (nat_lt x s) _ is_one in
      let storing = first_of (is_storing (kind_of (op_at past x))) _ rest in
      let done = second_of (is_storing (kind_of (op_at past x))) _ rest in
      laid_flying x xs before (completed_flies (fate past x) done) storing
      ∙ ap (laid xs) (forwarded_done x before old done)

  overlaid : (xs : List ℕ) (before : ℕ) → laid xs before ≡ said xs before
  unfolding laid said will_write
  overlaid [] before = refl
  overlaid (x ∷ xs) before = elim (cases_Bool (is_forwarded past s x)) [
    | inl is_one ↦ laid_over x xs before is_one ∙ overlaid xs _ ∙ rw is_one refl
    | inr not ↦ laid_past x xs before not ∙ overlaid xs before ∙ rw not refl
  ]

-- ---- Bytes that are the same read the same

number-same : (f g : ℕ → ℕ) → ((a : ℕ) → f a ≡ g a) → (addr n : ℕ) → number_at f addr n ≡ number_at g addr n
number-same f g same addr zero = refl
number-same f g same addr (suc n) = rw (same addr, number-same f g same (addr + 1) n) refl

pub read_same : (f g : ℕ → ℕ) → ((a : ℕ) → f a ≡ g a) → (op : Op) (addr : ℕ) → read op f addr ≡ read op g addr
read_same f g same op addr = ap (read_value op) (number-same f g same addr (access_size op))

sees_same : (setup : Setup) (past : List Event) (m : Contents) (h s : ℕ)
    → ((addr : ℕ) → byte_of m addr ≡ byte_at setup past addr)
    → (addr : ℕ) → seen s (stores_at past h) m addr ≡ seen_byte setup past h s addr
unfolding seen laid said
sees_same setup past m h s bytes addr =
    ap (overlaid_by s (stores_at past h) addr) (bytes addr) ∙ overlaid past s addr (numbers past h) _

pub sees_first_look : SeesFirstLook
unfolding first_look
sees_first_look setup past m h s op addr has =
    read_same (seen s (stores_at past h) m) (seen_byte setup past h s) (sees_same setup past m h s has.bytes) op addr
