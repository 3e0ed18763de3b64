-- Which accesses are touched, and how many loads looked again, from event to event. Only a retirement changes either.
use Rattle.std.specs.Prelude.{◌≡◌, ℕ, ◌+◌, ◌≤◌, Bool, true, false, ◌&&◌, ◌||◌, if◌then◌else◌, List, [], ◌∷◌, ◌++◌, length}
use Rattle.std.specs.Prelude.{Option, Some, None}
use Rattle.std.proofs.Common.{◌∙◌, refl, sym, ap, subst, inl, inr, arith}
use Rattle.std.proofs.{lemmas.Bool.cases_Bool, lemmas.Bool.cases_lt, lemmas.Bool.Decides.nat_tests}
use Rattle.rv_instr.specs.declared.op.Op.{Op}
use Rattle.events.specs.{declared.effect.Effect.Effect}
use Rattle.events.specs.{declared.effect.Written.Written, declared.effect.Record.Record, declared.event.Event.Event}
use Rattle.events.specs.declared.event.Event.TheVariants.{Fetch, Decode, Rename, Issue, Complete, Drop, Retire, Refetch}
use Rattle.smt_model.specs.{Basics.or_else, Setup.Setup, Nexts.is_last, Rules.is_legal}
use Rattle.smt_model.specs.Fates.{Fetched, stage, fate, fetching, op_at, op_of_fetched, completion, completed_by}
use Rattle.smt_model.specs.{Words.op_of_word, Basics.how_many, Account.records, Account.record_of}
use Rattle.smt_model.specs.Touched.{shares_byte, accessed, touches_access, is_touched, gives_loaded, looks_after}
use Rattle.smt_model.specs.Touched.{loads, looks}
use Rattle.smt_model.proofs.Fates.Moves.{complete_was, retire_was}
use Rattle.smt_model.proofs.{Fates.Sound.sound, Fates.Numbers.known_fetched}
use Rattle.smt_laws.specs.Untouched.{IsShared, SharesWhereOneIs, CompletionsAreUntouched, LooksAreOfLoads}
use Rattle.smt_laws.proofs.Registers.Namings.{completion-none}

-- ---- Before the completion

pub touches_no_access : (w : Option Written) (op : Op) → touches_access w op None ≡ false
touches_no_access None op = refl
touches_no_access (Some w) op = refl

none_behind : {A : Type 0} → (a b : Option A) → or_else a b ≡ None → b ≡ None
none_behind None b none = none
none_behind (Some x) b none = absurd (grind arith)

both_false : (a b : Bool) → a ≡ false → b ≡ false → (a || b) ≡ false
both_false a b one two = rw one two

-- What isn't completed isn't touched.
pub untouched_yet : (past : List Event) (s : ℕ) → completion past s ≡ None → is_touched past s ≡ false
untouched_yet [] s none = refl
untouched_yet (Fetch actor hart n pc word predicted ∷ past) s none = untouched_yet past s none
untouched_yet (Decode actor n ∷ past) s none = untouched_yet past s none
untouched_yet (Rename actor n register ∷ past) s none = untouched_yet past s none
untouched_yet (Issue actor n ∷ past) s none = untouched_yet past s none
untouched_yet (Complete actor n outcome ∷ past) s none =
    untouched_yet past s (none_behind (completed_by (Complete actor n outcome) s) (completion past s) none)
untouched_yet (Drop actor n ∷ past) s none = untouched_yet past s none
untouched_yet (Refetch actor n ∷ past) s none = untouched_yet past s none
untouched_yet (Retire actor n x ∷ past) s none =
    both_false (is_touched past s) (touches_access x.write (op_at past s) (accessed (completion past s)))
    (untouched_yet past s none)
    (ap (λ o. touches_access x.write (op_at past s) (accessed o)) none ∙ touches_no_access x.write (op_at past s))

pub untouched_early : (setup : Setup) (past : List Event) → is_legal setup past → (s : ℕ) → stage (fate past s) ≤ 4
    → is_touched past s ≡ false
untouched_early setup past legal s early = untouched_yet past s (completion-none setup past legal s early)

-- ---- A retirement that writes nothing, and one that ends or stops its hart

or_false : (b : Bool) → (b || false) ≡ b
or_false true = refl
or_false false = refl

pub touched-silent : (past : List Event) (actor n : ℕ) (x : Effect) → x.write ≡ None → (s : ℕ)
    → is_touched (Retire actor n x ∷ past) s ≡ is_touched past s
touched-silent past actor n x silent s =
    ap (λ w. is_touched past s || touches_access w (op_at past s) (accessed (completion past s))) silent
    ∙ or_false (is_touched past s)

pub looks-last : (op : Op) (touched : Bool) (x : Effect) (many : ℕ) → is_last x.next ≡ true
    → looks_after op touched x many ≡ many
looks-last op touched x many last =
    let none : (gives_loaded op x && touched) ≡ false = rw last (grind arith) in
    rw none refl

-- ---- How many there may be

pub looks_one : (op : Op) (touched : Bool) (x : Effect) (many : ℕ) → looks_after op touched x many ≤ many + 1
looks_one op touched x many =
    elim (cases_Bool (gives_loaded op x && touched)) [
      | inl again ↦ rw again (omega arith)
      | inr once ↦ rw once (omega arith)
    ]

-- No more than there are events.
pub looks_under : (past : List Event) → looks past ≤ length past
looks_under [] = omega arith
looks_under (Fetch actor hart n pc word predicted ∷ past) = let rest = looks_under past in omega arith
looks_under (Decode actor n ∷ past) = let rest = looks_under past in omega arith
looks_under (Rename actor n register ∷ past) = let rest = looks_under past in omega arith
looks_under (Issue actor n ∷ past) = let rest = looks_under past in omega arith
looks_under (Complete actor n outcome ∷ past) = let rest = looks_under past in omega arith
looks_under (Drop actor n ∷ past) = let rest = looks_under past in omega arith
looks_under (Refetch actor n ∷ past) = let rest = looks_under past in omega arith
looks_under (Retire actor n x ∷ past) =
    let rest = looks_under past in
    let one = looks_one (op_at past n) (is_touched past n) x (looks past) in
    omega arith

-- ---- What is shared

shared_first : (a n b m : ℕ) → shares_byte a n b m ≡ true → IsShared a n b m
shared_first a n b m shares =
    elim (cases_lt a b) [
      | inl below ↦
          record { one = b; from_a = omega arith; to_a = grind (arith, nat_tests); from_b = omega arith; to_b = grind (arith, nat_tests) }
      | inr above ↦
          record { one = a; from_a = omega arith; to_a = grind (arith, nat_tests); from_b = omega arith; to_b = grind (arith, nat_tests) }
    ]

shared_back : (a n b m : ℕ) → IsShared a n b m → shares_byte a n b m ≡ true
shared_back a n b m one =
    let from_a = one.from_a in
    let to_a = one.to_a in
    let from_b = one.from_b in
    let to_b = one.to_b in
    grind (arith, nat_tests)

pub shares_where_one_is : SharesWhereOneIs
shares_where_one_is a n b m = (shared_first a n b m, shared_back a n b m)

pub completions_untouched : CompletionsAreUntouched
completions_untouched setup past legal actor s o ok =
    let was = complete_was setup past (sound setup past legal) actor s o ok in
    untouched_early setup past legal s (omega arith)

-- ---- How many loads there are

many_more : (p : Record → Bool) (r : Record) (rs : List Record) → how_many p (r ∷ rs) ≡ (if p r then how_many p rs + 1 else how_many p rs)
many_more p r rs =
    elim (cases_Bool (p r)) [
      | inl passes ↦ rw passes (omega arith)
      | inr fails ↦ rw fails refl
    ]

counted : (gives touched : Bool) (fewer more : ℕ) → fewer ≤ more
    → (if gives && touched then fewer + 1 else fewer) ≤ (if gives then more + 1 else more)
counted true true fewer more under = omega arith
counted true false fewer more under = omega arith
counted false touched fewer more under = under

loads-Retire : (past : List Event) (actor n : ℕ) (x : Effect) (f : Fetched) → fetching past n ≡ Some f
    → loads (Retire actor n x ∷ past) ≡ (if gives_loaded (op_at past n) x then loads past + 1 else loads past)
loads-Retire past actor n x f found =
    let one : Record = record { hart = f.hart; pc = f.pc; word = f.word; effect = x } in
    let gives : Record → Bool = λ r. gives_loaded (op_of_word r.word) r.effect in
    let is_op : op_at past n ≡ op_of_fetched (Some f) = ap op_of_fetched found in
    ap (λ o. how_many gives (record_of o x ++ records past)) found
    ∙ (many_more gives one (records past)
    ∙ ap (λ p. if gives_loaded p x then loads past + 1 else loads past) (sym is_op))

pub looks_of_loads : LooksAreOfLoads
looks_of_loads setup [] legal = omega arith
looks_of_loads setup (Fetch actor hart n pc word predicted ∷ past) legal = looks_of_loads setup past legal.1
looks_of_loads setup (Decode actor n ∷ past) legal = looks_of_loads setup past legal.1
looks_of_loads setup (Rename actor n register ∷ past) legal = looks_of_loads setup past legal.1
looks_of_loads setup (Issue actor n ∷ past) legal = looks_of_loads setup past legal.1
looks_of_loads setup (Complete actor n outcome ∷ past) legal = looks_of_loads setup past legal.1
looks_of_loads setup (Drop actor n ∷ past) legal = looks_of_loads setup past legal.1
looks_of_loads setup (Refetch actor n ∷ past) legal = looks_of_loads setup past legal.1
looks_of_loads setup (Retire actor n x ∷ past) legal =
    let was = retire_was setup past actor n x legal.0 in
    let found = known_fetched setup past legal.1 n (omega arith) in
    subst (λ many. looks (Retire actor n x ∷ past) ≤ many) (sym (loads-Retire past actor n x found.fetch found.fetched))
    (counted (gives_loaded (op_at past n) x) (is_touched past n) (looks past) (loads past)
    (looks_of_loads setup past legal.1))
