-- No two states that a machine knows are alike, as no table has a part twice, and what isn't kept is 0.
use Rattle.std.proofs.Common.{◌≡◌, ℕ, zero, suc, ◌<◌, ◌≤◌, Bool, true, false, ◌&&◌, nat_eq, List, [], ◌∷◌, ◌++◌, length}
use Rattle.std.proofs.Common.{get_or, refl, sym, ap, ap₂, subst, ◌∙◌, inl, inr, arith, None, rules}
use Rattle.std.specs.Prelude.{◌≢◌, ◌||◌, nat_lt, if◌then◌else◌, slice_index}
use Rattle.std.specs.List.{IsDistinct, AllByRecursion}
use Rattle.std.specs.Cmp.{unsigned_Decides}
use Rattle.std.specs.Cmp.Lexicographic.{pointwise, pointwise_decides}
use Rattle.std.proofs.lemmas.Bool.{true≢false, cases_Bool, cases_eq, cases_lt, Decides.nat_tests}
use Rattle.std.proofs.lemmas.Option.{slice_get-get_or}
use Rattle.numbers.specs.Sizes.{most_harts}
use Rattle.elf_image.specs.Image.{ProgramImage}
use Rattle.smt_model.specs.{Plain.is_going_status, declared.config.Status.Status}
use Rattle.smt_model.specs.declared.config.Status.TheVariants.{Going, Ended, Stopped}
use Rattle.smt_model.specs.contracts.config.StatusPartialEq.TheImpl.{eq-value as same_status}
use Rattle.outcome_laws.specs.Live.{AreAlike, reservation_matters}
use Rattle.live_registers.specs.Table.{live_of}
use Rattle.sc_machine.specs.declared.hart.Hart.{Hart}
use Rattle.sc_machine.specs.contracts.hart.HartPartialEq.TheImpl.{eq-value as same_hart}
use Rattle.changed_memory.specs.{Canonical.EqualMemoriesAreOneList, Same.is_same, SameLaws.same_is_equivalence}
use Rattle.changed_memory.specs.Shared.{Shared, byte_at, reserved_at}
use Rattle.condensed_machine.specs.Machine.{keeps_at}
use Rattle.condensed_machine.specs.{Machine.Machine, Machine.Program, declared.state.State.State}
use Rattle.condensed_machine.specs.Decoded.{Knows, decoded, hart_at, hart_in, no_hart, no_shared, numbers_of}
use Rattle.condensed_machine.specs.Decoded.{shared_at, state_of}
use Rattle.condensed_machine.specs.Decoded.{pc_of, register_of, status_of}
use Rattle.condensed_machine.specs.Distinct.{AreAtRest, AreDistinct, HaveOneForm, HaveRegisters, IsAtRest}
use Rattle.condensed_machine.specs.{Executing.ComesToRest, Machine.HaveZero, Machine.tables_of}
use Rattle.condensed_machine.specs.Resting.{is_kept, is_watched}
use Rattle.condensed_machine.proofs.{Alike.register_in, Numbers.hart_of_number}

-- ---- The form in which changes are kept

pub forms_kept : (image other : ProgramImage) (old new : List Shared) → other ≡ image
    → (HaveOneForm other old → HaveOneForm other new) → HaveOneForm image old → HaveOneForm image new
forms_kept image other old new same keeps = subst (λ i. HaveOneForm i old → HaveOneForm i new) same keeps

-- ---- Registers that aren't kept

pub at_rest : (p : Program) (free : Bool) (x y : Hart) (steps : ℕ) → ComesToRest p free x steps y
    → IsAtRest p.live p.watched y
at_rest p free x y steps rests r some below unkept =
    let rested = rests.rested in
    let moved = rests.moved in
    rested.registers r some below
    ∙ ap (λ b. if b then slice_index moved.registers r else 0)
    (ap (λ pc. is_kept p.live p.watched pc (is_going_status moved.status) r) (sym rested.pc)
    ∙ ap (λ status. is_kept p.live p.watched y.pc (is_going_status status) r) (sym rested.status) ∙ unkept)

-- ---- Lists

-- Of a list without the same twice, a place is told by what stands there.
module _ {A : Type 0} (eq : A → A → Bool) (own : (x : A) → eq x x ≡ true) where
  apart : (x : A) (ys : List A) (j : ℕ) (d : A) → j < length ys → AllByRecursion (λ y. eq x y ≡ false) ys
      → x ≡ get_or ys j d → ⊥
  apart x [] j d inside none same = omega arith
  apart x (y ∷ ys) zero d inside none same =
      true≢false (sym (own x) ∙ subst (λ z. eq x z ≡ false) (sym same) none.0)
  apart x (y ∷ ys) (suc j) d inside none same = apart x ys j d (omega arith) none.1 same

  once : (xs : List A) (i j : ℕ) (d : A) → IsDistinct eq xs → i < length xs → j < length xs
      → get_or xs i d ≡ get_or xs j d → i ≡ j
  unfolding IsDistinct
  once [] i j d distinct here there same = absurd (omega arith)
  once (x ∷ xs) zero zero d distinct here there same = refl
  once (x ∷ xs) zero (suc j) d distinct here there same =
      absurd (apart x xs j d (omega arith) distinct.0 same)
  once (x ∷ xs) (suc i) zero d distinct here there same =
      absurd (apart x xs i d (omega arith) distinct.0 (sym same))
  once (x ∷ xs) (suc i) (suc j) d distinct here there same =
      ap suc (once xs i j d distinct.1 (omega arith) (omega arith) same)

-- Lists that have the same at each place are one.
one_list : {A : Type 0} → (d : A) (xs ys : List A) → length xs ≡ length ys
    → ((i : ℕ) → i < length xs → get_or xs i d ≡ get_or ys i d) → xs ≡ ys
one_list d [] [] long same = refl
one_list d [] (y ∷ ys) long same = absurd (omega (arith, long))
one_list d (x ∷ xs) [] long same = absurd (omega (arith, long))
one_list d (x ∷ xs) (y ∷ ys) long same =
    ap₂ ◌∷◌ (same 0 (omega arith)) (one_list d xs ys (omega (arith, long)) (λ i inside. same (suc i) (omega arith)))

-- Two lists that begin with as many are one in both parts.
both_parts : (xs ys us vs : List ℕ) → length xs ≡ length ys → xs ++ us ≡ ys ++ vs → (xs ≡ ys) × (us ≡ vs)
both_parts [] [] us vs long same = (refl, same)
both_parts [] (y ∷ ys) us vs long same = absurd (omega (arith, long))
both_parts (x ∷ xs) [] us vs long same = absurd (omega (arith, long))
both_parts (x ∷ xs) (y ∷ ys) us vs long same =
    let rest = both_parts xs ys us vs (omega (arith, long)) (ap tail same) in
    (ap₂ ◌∷◌ (ap (λ all. get_or all 0 0) same) rest.0, rest.1)
  where
    tail : List ℕ → List ℕ
    tail [] = []
    tail (z ∷ zs) = zs

-- ---- Parts

own_status : (a : Status) → same_status.it a a ≡ true
own_status Going = refl
own_status (Ended m) = search rules
own_status (Stopped m) = search rules

all_so : (a b c : Bool) → a ≡ true → b ≡ true → c ≡ true → (a && (b && c)) ≡ true
all_so a b c e f g = λ i. e i && (f i && g i)

own_hart : (x : Hart) → same_hart.it x x ≡ true
own_hart x =
    all_so (pointwise nat_eq x.registers x.registers) (nat_eq x.pc x.pc) (same_status.it x.status x.status)
    ((pointwise_decides unsigned_Decides x.registers x.registers).1 refl) ((unsigned_Decides x.pc x.pc).1 refl)
    (own_status x.status)

own_numbers : (xs : List ℕ) → pointwise nat_eq xs xs ≡ true
own_numbers xs = (pointwise_decides unsigned_Decides xs xs).1 refl

one_hart : (x y : Hart) → length x.registers ≡ 32 → length y.registers ≡ 32
    → ((r : ℕ) → r < 32 → slice_index x.registers r ≡ slice_index y.registers r) → x.pc ≡ y.pc → x.status ≡ y.status
    → x ≡ y
one_hart x y here there same pc status =
    let registers = one_list 0 x.registers y.registers (here ∙ sym there)
    (λ r inside. same r (subst (λ n. r < n) here inside)) in
    λ i. record { registers = registers i; pc = pc i; status = status i }

one_shared : (one_list_each : EqualMemoriesAreOneList) (image : ProgramImage) (table : List Shared)
    → HaveOneForm image table
    → (a b : ℕ) → a < length table → b < length table
    → ((h : ℕ) → reserved_at (shared_at table a) h ≡ reserved_at (shared_at table b) h)
    → ((addr : ℕ) → byte_at image (shared_at table a) addr ≡ byte_at image (shared_at table b) addr)
    → (shared_at table a).output ≡ (shared_at table b).output → shared_at table a ≡ shared_at table b
one_shared one_list_each image table forms a b here there held bytes output =
    let x = shared_at table a in
    let y = shared_at table b in
    let first = forms a x (slice_get-get_or table a no_shared here) in
    let second = forms b y (slice_get-get_or table b no_shared there) in
    let changes = one_list_each image x y first second bytes in
    let reserved = one_list None x.reserved y.reserved (first.room ∙ sym second.room) (λ h inside. held h) in
    λ i. record { changes = changes i; reserved = reserved i; output = output i }

-- ---- States

inside_test : (h harts : ℕ) → h < harts → nat_lt h harts ≡ true
inside_test h harts inside = grind (arith, nat_tests)

-- A hart that is at rest is told by what of it matters.
module _ (p : Program) (h : ℕ) (x y : Hart) (inside : h < p.harts) (long_x : length x.registers ≡ 32)
    (long_y : length y.registers ≡ 32) (rest_x : IsAtRest p.live p.watched x) (rest_y : IsAtRest p.live p.watched y)
    (zero_x : slice_index x.registers 0 ≡ 0) (zero_y : slice_index y.registers 0 ≡ 0)
    (pcs : pc_of p h x ≡ pc_of p h y) (statuses : status_of p h x ≡ status_of p h y)
    (kept : (r : ℕ) → r ≢ 0
    → (is_watched p.watched r || (is_going_status (status_of p h x) && live_of p.live (pc_of p h x) r)) ≡ true
    → register_of p h x r ≡ register_of p h y r) where
  there : nat_lt h p.harts ≡ true
  there = inside_test h p.harts inside

  pc_is : (z : Hart) → pc_of p h z ≡ z.pc
  pc_is z = ap (λ q. if q then z.pc else p.image.entry) there

  status_is : (z : Hart) → status_of p h z ≡ z.status
  status_is z = ap (λ q. if q then z.status else Going) there

  pc_same : x.pc ≡ y.pc
  pc_same = sym (pc_is x) ∙ pcs ∙ pc_is y

  status_same : x.status ≡ y.status
  status_same = sym (status_is x) ∙ statuses ∙ status_is y

  abbrev keeps : ℕ → Status → ℕ → Bool
  keeps pc status r = is_kept p.live p.watched pc (is_going_status status) r

  register_same : (r : ℕ) → r < 32 → slice_index x.registers r ≡ slice_index y.registers r
  register_same r below = elim (cases_eq r 0) [
    | inl first ↦
        subst (λ k. slice_index x.registers k ≡ slice_index y.registers k) (sym first) (zero_x ∙ sym zero_y)
    | inr some ↦ elim (cases_Bool (keeps x.pc x.status r)) [
      | inl yes_kept ↦
          sym (register_in p h x r there below)
          ∙ kept r some
          (ap (λ pc. keeps pc (status_of p h x) r) (pc_is x) ∙ ap (λ status. keeps x.pc status r) (status_is x)
          ∙ yes_kept)
          ∙ register_in p h y r there below
      | inr not_kept ↦
          let positive : 0 < r = omega (arith, some) in
          rest_x r positive below not_kept
          ∙ sym (rest_y r positive below
          (ap (λ pc. keeps pc y.status r) (sym pc_same) ∙ ap (λ status. keeps x.pc status r) (sym status_same)
          ∙ not_kept))
    ]
  ]

  pub hart_same : x ≡ y
  hart_same = one_hart x y long_x long_y register_same pc_same status_same

module _ (m : Machine) (few : m.program.harts ≤ most_harts) (harts : IsDistinct same_hart.it m.hart_states)
    (far : IsDistinct (pointwise nat_eq) m.far_harts) (shared : IsDistinct is_same m.shared_states)
    (registers : HaveRegisters m.hart_states) (rest : AreAtRest m.program.live m.program.watched m.hart_states)
    (zeros : HaveZero m.hart_states) (forms : HaveOneForm m.program.image m.shared_states)
    (one_list_each : EqualMemoriesAreOneList) where
  module _ (s t : State) (one : Knows m s) (other : Knows m t)
      (same : AreAlike (is_watched m.program.watched) (tables_of m.program) (state_of m s) (state_of m t)) where
    -- Of a hart that is there.
    number_there : (h : ℕ) → h < m.program.harts → slice_index (numbers_of m s) h ≡ slice_index (numbers_of m t) h
    number_there h inside =
        let a = slice_index (numbers_of m s) h in
        let b = slice_index (numbers_of m t) h in
        let x = hart_at m.hart_states a in
        let y = hart_at m.hart_states b in
        let in_one : h < length (numbers_of m s) = omega (arith, few, one.room) in
        let in_other : h < length (numbers_of m t) = omega (arith, few, other.room) in
        let of_a : hart_in m s h ≡ x = hart_of_number m.hart_states (numbers_of m s) h in_one in
        let of_b : hart_in m t h ≡ y = hart_of_number m.hart_states (numbers_of m t) h in_other in
        let has_a = slice_get-get_or m.hart_states a no_hart (one.harts h in_one) in
        let has_b = slice_get-get_or m.hart_states b no_hart (other.harts h in_other) in
        once same_hart.it own_hart m.hart_states a b no_hart harts (one.harts h in_one) (other.harts h in_other)
        (sym of_a
        ∙ hart_same m.program h (hart_in m s h) (hart_in m t h) inside
        (ap (λ (z : Hart). length z.registers) of_a ∙ registers a x has_a)
        (ap (λ (z : Hart). length z.registers) of_b ∙ registers b y has_b)
        (subst (IsAtRest m.program.live m.program.watched) (sym of_a) (rest a x has_a))
        (subst (IsAtRest m.program.live m.program.watched) (sym of_b) (rest b y has_b))
        (ap (λ (z : Hart). slice_index z.registers 0) of_a ∙ zeros a x has_a)
        (ap (λ (z : Hart). slice_index z.registers 0) of_b ∙ zeros b y has_b) (same.pcs h) (same.statuses h)
        (same.registers h)
        ∙ of_b)

    number_same : (h : ℕ) → slice_index (numbers_of m s) h ≡ slice_index (numbers_of m t) h
    number_same h = elim (cases_lt h m.program.harts) [
      | inl inside ↦ number_there h inside
      | inr beyond ↦ one.absent h beyond ∙ sym (other.absent h beyond)
    ]

    reserved_same : (h : ℕ) → reserved_at (decoded m s).shared h ≡ reserved_at (decoded m t).shared h
    reserved_same h =
        let kept = keeps_at m.program in
        elim (cases_Bool (reservation_matters kept (state_of m s) h)) [
          | inl matter ↦ same.reserved h matter
          | inr none ↦
              one.dropped h none
              ∙ sym (other.dropped h
              (ap (λ status. is_going_status status && kept ((state_of m t).pcs h)) (sym (same.statuses h))
              ∙ ap (λ pc. is_going_status ((state_of m s).statuses h) && kept pc) (sym (same.pcs h)) ∙ none))
        ]

    pub state_same : s ≡ t
    state_same =
        let numbers = one_list 0 (numbers_of m s) (numbers_of m t) (one.room ∙ sym other.room)
        (λ h inside. number_same h) in
        let parts = both_parts s.near t.near (get_or m.far_harts s.far []) (get_or m.far_harts t.far [])
        (one.near ∙ sym other.near) numbers in
        let near = parts.0 in
        let behind = once (pointwise nat_eq) own_numbers m.far_harts s.far t.far [] far one.far other.far parts.1 in
        let common = once is_same same_is_equivalence.refl m.shared_states s.shared t.shared no_shared shared one.shared
        other.shared
        (one_shared one_list_each m.program.image m.shared_states forms s.shared t.shared one.shared other.shared
        reserved_same same.bytes same.output) in
        λ i. record { near = near i; far = behind i; shared = common i }

  pub distinct : AreDistinct m
  distinct s t one other same = state_same s t one other same
