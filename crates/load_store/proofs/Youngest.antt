-- The youngest store that shares a byte with an access says its bytes where it covers them all; where none shares one,
-- memory does.
use Rattle.std.specs.Prelude.{◌≡◌, ℕ, zero, suc, ◌+◌, ◌-◌, ◌*◌, ◌/◌, ◌%◌, ◌^◌, ◌<◌, ◌≤◌, nat_lt, true, false}
use Rattle.std.specs.Prelude.{List, [], ◌∷◌, fold, Option, Some, None, IfSome}
use Rattle.std.specs.Option.{option_or}
use Rattle.std.specs.List.{AllByRecursion}
use Rattle.std.proofs.Common.{◌∙◌, refl, sym, ap, subst, inl, inr, arith}
use Rattle.std.proofs.Math.Nat.{div-div-eq-div-mul, mod-one}
use Rattle.std.proofs.lemmas.Bool.{cases_Bool}
use Rattle.std.proofs.lemmas.Bool.Decides.{nat_tests}
use Rattle.std.proofs.lemmas.Nat.{pow-add, mod-pow-add}
use Rattle.events.specs.declared.effect.Written.{Written}
use Rattle.rv_execute.specs.Access.{IsSize}
use Rattle.smt_model.specs.{Bytes.number_at, Bytes.written_byte, Bytes.byte_after, Touched.shares_byte}
use Rattle.shared_memory.specs.Contents.{Contents, byte_of}
use Rattle.load_store.specs.{Queues.IsSized, declared.store.Store.Store}
use Rattle.load_store.specs.{declared.look.Forwarded.TheVariants.Whole}
use Rattle.load_store.specs.declared.look.Forwarded.TheVariants.{InPart, Nothing}
use Rattle.load_store.specs.Looks.{forwarded, overlaid_by, seen, sharing, write_into, youngest_write, covers, forwarding}

-- ---- What is found says each byte

-- The byte that a write of it leaves.
datum_byte : Written → ℕ → ℕ
datum_byte w a = w.datum / 2 ^ (8 * (a - w.addr)) % 2 ^ 8

covered_byte : (w : Written) (addr n a before : ℕ) → addr ≤ a → a < addr + n → covers w addr n ≡ true
    → written_byte w a before ≡ datum_byte w a
unfolding datum_byte
covered_byte w addr n a before from below whole = grind (arith, nat_tests)

byte_apart : (w : Written) (addr n a before : ℕ) → addr ≤ a → a < addr + n → shares_byte w.addr w.n addr n ≡ false
    → written_byte w a before ≡ before
byte_apart w addr n a before from below apart = grind (arith, nat_tests)

-- Over the byte `before`, what was found so far has made this byte, at a place of the access.
Says : ℕ → ℕ → ℕ → ℕ → Option Written → ℕ → Type 0
Says addr n a before None byte = byte ≡ before
Says addr n a before (Some w) byte = covers w addr n ≡ true → byte ≡ datum_byte w a

module _ (seq addr n a before : ℕ) (from : addr ≤ a) (below : a < addr + n) where
  says_write : (write found : Option Written) (byte : ℕ) → Says addr n a before found byte
      → Says addr n a before (option_or (sharing addr n write) found) (byte_after write a byte)
  unfolding Says
  says_write None found byte says = says
  says_write (Some w) found byte says = elim (cases_Bool (shares_byte w.addr w.n addr n)) [
    | inl shares ↦ rw shares (λ whole. covered_byte w addr n a byte from below whole)
    | inr apart ↦ rw (apart, byte_apart w addr n a byte from below apart) says
  ]

  says_store : (x : Store) (found : Option Written) (byte : ℕ) → Says addr n a before found byte
      → Says addr n a before (option_or (write_into seq addr n x) found) (forwarded seq x a byte)
  says_store x found byte says = elim (cases_Bool (nat_lt x.seq seq)) [
    | inl old ↦ rw old (says_write x.write found byte says)
    | inr young ↦ rw young says
  ]

  says_stores : (xs : List Store) (found : Option Written) (byte : ℕ) → Says addr n a before found byte
      → Says addr n a before (fold (λ f x. option_or (write_into seq addr n x) f) found xs) (overlaid_by seq xs a byte)
  says_stores [] found byte says = says
  says_stores (x ∷ xs) found byte says = says_stores xs _ _ (says_store x found byte says)

  says_youngest : (xs : List Store) → Says addr n a before (youngest_write seq addr n xs) (overlaid_by seq xs a before)
  unfolding Says
  says_youngest xs = says_stores xs None before refl

-- ---- The number that the bytes are

number_within : (f g : ℕ → ℕ) (addr n : ℕ) → ((a : ℕ) → addr ≤ a → a < addr + n → f a ≡ g a)
    → number_at f addr n ≡ number_at g addr n
number_within f g addr zero same = refl
number_within f g addr (suc n) same =
    rw (
      same addr (omega arith) (omega arith),
      number_within f g (addr + 1) n (λ a from below. same a (omega arith) (omega arith)),
    ) refl

datum_number : (w : Written) (addr n : ℕ) → w.addr ≤ addr
    → number_at (datum_byte w) addr n ≡ w.datum / 2 ^ (8 * (addr - w.addr)) % 2 ^ (8 * n)
unfolding datum_byte
datum_number w addr zero from = sym (mod-one _)
datum_number w addr (suc n) from =
    let k = addr - w.addr in
    let d = w.datum / 2 ^ (8 * k) in
    let later : 8 * (addr + 1 - w.addr) ≡ 8 * k + 8 = omega arith in
    let next : w.datum / 2 ^ (8 * (addr + 1 - w.addr)) ≡ d / 2 ^ 8 =
    ap (λ e. w.datum / 2 ^ e) later ∙ ap (λ e. w.datum / e) (pow-add 2 (8 * k) 8)
    ∙ sym (div-div-eq-div-mul w.datum (2 ^ (8 * k)) (2 ^ 8)) in
    let rest : number_at (datum_byte w) (addr + 1) n ≡ d / 2 ^ 8 % 2 ^ (8 * n) =
    datum_number w (addr + 1) n (omega arith) ∙ ap (λ e. e % 2 ^ (8 * n)) next in
    let longer : 8 * suc n ≡ 8 * n + 8 = omega arith in
    let swapped : d % 2 ^ 8 + 2 ^ 8 * (d / 2 ^ 8 % 2 ^ (8 * n)) ≡ (d / 2 ^ 8 % 2 ^ (8 * n)) * 2 ^ 8 + d % 2 ^ 8 =
    omega arith in
    ap (λ r. d % 2 ^ 8 + 2 ^ 8 * r) rest ∙ swapped ∙ sym (mod-pow-add d (8 * n) 8) ∙ ap (λ e. d % 2 ^ e) (sym longer)

-- ---- What the youngest gives

-- A write that covers the access was found.
pub record IsWhole (addr n : ℕ) (found : Option Written) (w : Written) : Type 0 where
  pub is : found ≡ Some w
  pub whole : covers w addr n ≡ true

pub is_whole : (addr n : ℕ) (found : Option Written) (w : Written) → forwarding addr n found ≡ Whole w
    → IsWhole addr n found w
is_whole addr n None w gives = absurd cc
is_whole addr n (Some v) w gives = elim (cases_Bool (covers v addr n)) [
  | inl whole ↦ let same : Whole v ≡ Whole w = rw whole at gives in
      let it : v ≡ w = cc in record { is = ap Some it; whole = subst (λ u. covers u addr n ≡ true) it whole }
  | inr part ↦ let other : InPart ≡ Whole w = rw part at gives in absurd cc
]

is_nothing : (addr n : ℕ) (found : Option Written) → forwarding addr n found ≡ Nothing → found ≡ None
is_nothing addr n None gives = refl
is_nothing addr n (Some v) gives = elim (cases_Bool (covers v addr n)) [
  | inl whole ↦ let other : Whole v ≡ Nothing = rw whole at gives in absurd cc
  | inr part ↦ let other : InPart ≡ Nothing = rw part at gives in absurd cc
]

module _ (seq addr n : ℕ) (stores : List Store) (m : Contents) where
  pub sees_memory : forwarding addr n (youngest_write seq addr n stores) ≡ Nothing
      → number_at (byte_of m) addr n ≡ number_at (seen seq stores m) addr n
  unfolding Says seen
  sees_memory gives =
      let none = is_nothing addr n (youngest_write seq addr n stores) gives in
      number_within (byte_of m) (seen seq stores m) addr n
      (λ a from below. sym (subst (λ found. Says addr n a (byte_of m a) found (seen seq stores m a)) none
      (says_youngest seq addr n a (byte_of m a) from below stores)))

  pub sees_write : (w : Written) → forwarding addr n (youngest_write seq addr n stores) ≡ Whole w
      → number_at (λ a. written_byte w a 0) addr n ≡ number_at (seen seq stores m) addr n
  unfolding Says seen
  sees_write w gives =
      let found = is_whole addr n (youngest_write seq addr n stores) w gives in
      number_within (λ a. written_byte w a 0) (seen seq stores m) addr n
      (λ a from below. covered_byte w addr n a 0 from below found.whole
      ∙ sym (subst (λ found. Says addr n a (byte_of m a) found (seen seq stores m a)) found.is
      (says_youngest seq addr n a (byte_of m a) from below stores) found.whole))

-- The number by one shift and one remainder.
pub shifted_number : (w : Written) (addr n : ℕ) → covers w addr n ≡ true
    → number_at (λ a. written_byte w a 0) addr n ≡ w.datum / 2 ^ (8 * (addr - w.addr)) % 2 ^ (8 * n)
shifted_number w addr n whole =
    number_within (λ a. written_byte w a 0) (datum_byte w) addr n
    (λ a from below. covered_byte w addr n a 0 from below whole)
    ∙ datum_number w addr n (grind (arith, nat_tests))

-- ---- Sizes

sized_write : (addr n : ℕ) (write found : Option Written) → IfSome write (λ w. IsSize w.n)
    → IfSome found (λ w. IsSize w.n)
    → IfSome (option_or (sharing addr n write) found) (λ w. IsSize w.n)
sized_write addr n None found sized all = all
sized_write addr n (Some w) found sized all = elim (cases_Bool (shares_byte w.addr w.n addr n)) [
  | inl shares ↦ rw shares sized
  | inr apart ↦ rw apart all
]

sized_store : (seq addr n : ℕ) (x : Store) (found : Option Written) → IsSized x → IfSome found (λ w. IsSize w.n)
    → IfSome (option_or (write_into seq addr n x) found) (λ w. IsSize w.n)
sized_store seq addr n x found sized all = elim (cases_Bool (nat_lt x.seq seq)) [
  | inl old ↦ rw old (sized_write addr n x.write found sized all)
  | inr young ↦ rw young all
]

sized_stores : (seq addr n : ℕ) (xs : List Store) (found : Option Written) → AllByRecursion IsSized xs
    → IfSome found (λ w. IsSize w.n)
    → IfSome (fold (λ f x. option_or (write_into seq addr n x) f) found xs) (λ w. IsSize w.n)
sized_stores seq addr n [] found sized all = all
sized_stores seq addr n (x ∷ xs) found sized all =
    sized_stores seq addr n xs _ sized.1 (sized_store seq addr n x found sized.0 all)

pub sized_youngest : (seq addr n : ℕ) (stores : List Store) (w : Written) → AllByRecursion IsSized stores
    → forwarding addr n (youngest_write seq addr n stores) ≡ Whole w
    → IsSize w.n
sized_youngest seq addr n stores w sized gives =
    subst (λ found. IfSome found (λ v. IsSize v.n)) (is_whole addr n (youngest_write seq addr n stores) w gives).is
    (sized_stores seq addr n stores None sized tt)
