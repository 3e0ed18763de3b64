-- From the headline over legal histories to what a core's account and registers say.
use Rattle.std.specs.Prelude.{◌≡◌, ℕ, zero, suc, ◌+◌, ◌<◌, ◌≤◌, ◌==◌, ◌&&◌, true, nat_lt, if◌then◌else◌, List, [], ◌∷◌}
use Rattle.std.specs.Prelude.{◌++◌, length, map, Option, Some, None, IfSome}
use native.Mathlib.Numerals.{unary_clauses}
use Rattle.std.proofs.Common.{◌∙◌, refl, sym, ap, subst, inl, inr, arith}
use Rattle.std.proofs.{lemmas.Bool.cases_Bool, lemmas.Bool.Decides.nat_tests}
use Rattle.std.proofs.lemmas.List.{length-map, length_push, map-append}
use Rattle.events.specs.{declared.event.Event.Event}
use Rattle.smt_model.specs.{declared.config.Status.Status, Account.committed_value, Basics.below}
use Rattle.smt_model.specs.{Memory.status, Plain.read_register, Registers.value}
use Rattle.smt_model.specs.{Registers.committed, Rules.is_legal}
use Rattle.smt_laws.specs.Sequential.{IsSequential, EachIsSequential}
use Rattle.core_state.specs.View.{CoreView}
use Rattle.smt_model.specs.Memory.{byte_at, reserved}
use Rattle.shared_memory.specs.Contents.{Contents, byte_of, reserved_of}
use Rattle.smt_core.specs.Headline.{IsPlainRegister, IsPlainMemory}

-- ---- The account

pub below_next : (n : ℕ) → below (n + 1) ≡ below n ++ n ∷ []
below_next n = simp unary_clauses refl

length_below : (n : ℕ) → length (below n) ≡ n
length_below zero = refl
length_below (suc n) =
    let rest = length_below n in
    let joined = length_push (below n) n in
    omega arith

-- One more hart's status.
pub statuses_next : (past : List Event) (n : ℕ) (xs : List Status) → xs ≡ map (status past) (below n)
    → xs ++ status past n ∷ [] ≡ map (status past) (below (n + 1))
statuses_next past n xs is =
    ap (λ ys. ys ++ status past n ∷ []) is ∙ sym (map-append (status past) (below n) (n ∷ []))
    ∙ ap (map (status past)) (sym (below_next n))

same_status : (a b : Status) → Some a ≡ Some b → b ≡ a
same_status a b same = grind arith

-- The status that is answered for a hart that is there.
pub status_is : (past : List Event) (h n : ℕ) (s : Status) (o : Option Status) → h < n
    → o ≡ (if nat_lt h n then Some (status past h) else None) → o ≡ Some s → s ≡ status past h
status_is past h n s o there said is =
    let under : nat_lt h n ≡ true = grind (arith, nat_tests) in
    let known : o ≡ Some (status past h) = rw under at said in
    same_status (status past h) s (sym known ∙ is)

-- What was said of one name of a view holds of another.
pub status_in : (a b : CoreView) (h : ℕ) (s : Status) (o : Option Status) → a ≡ b → h < a.setup.harts
    → o ≡ (if nat_lt h a.setup.harts then Some (status a.past h) else None) → o ≡ Some s → s ≡ status b.past h
status_in a b h s o same there said is =
    subst (λ (v : CoreView). s ≡ status v.past h) same (status_is a.past h a.setup.harts s o there said is)

pub statuses_fit : (past : List Event) (n : ℕ) (xs : List Status) → xs ≡ map (status past) (below n) → length xs ≡ n
statuses_fit past n xs is = ap length is ∙ length-map (below n) (status past) ∙ length_below n

-- ---- The registers

same_inside : (a b : ℕ) → Some a ≡ Some b → a ≡ b
same_inside a b same = grind arith

number_is : (core : CoreView) (h r : ℕ) (number : ℕ) (is : IsSequential core.setup core.past)
    → h < core.setup.harts → r < 32
    → committed_value core.setup core.past h r ≡ Some number → read_register is.ran.state h r ≡ number
number_is core h r number is hart inside said =
    elim (cases_Bool (r == 0)) [
      | inl first ↦
          let none : Some 0 ≡ Some number = rw first at said in
          rw first (same_inside 0 number none)
      | inr other ↦
          let there : value core.setup core.past (committed core.past h r) ≡ Some number = rw other at said in
          let low : 1 ≤ r = grind (arith, nat_tests) in
          rw other (same_inside (is.ran.state.registers h r) number (sym (is.registers h r hart low inside) ∙ there))
    ]

pub register_runs : (core : CoreView) (h r : ℕ) (number : ℕ) → IsSequential core.setup core.past
    → h < core.setup.harts → r < 32
    → committed_value core.setup core.past h r ≡ Some number → IsPlainRegister core h r number
register_runs core h r number is hart inside said = record {
  hart = hart;
  register = inside;
  ran = is.ran;
  runs = is.runs;
  holds = number_is core h r number is hart inside said;
}

-- The register that a core answers, where it answers one.
pub some_register : (core : CoreView) (h r : ℕ) (number : ℕ) → EachIsSequential → is_legal core.setup core.past
    → (if nat_lt h core.setup.harts && nat_lt r 32 then committed_value core.setup core.past h r else None)
    ≡ Some number
    → IsPlainRegister core h r number
some_register core h r number headline legal said =
    elim (cases_Bool (nat_lt h core.setup.harts && nat_lt r 32)) [
      | inl there ↦
          let at : committed_value core.setup core.past h r ≡ Some number = rw there at said in
          register_runs core h r number (headline core.setup core.past legal) (grind (arith, nat_tests))
          (grind (arith, nat_tests)) at
      | inr gone ↦ let none : None ≡ Some number = rw gone at said in absurd (grind arith)
    ]

pub register_answered : (core : CoreView) (h r : ℕ) (o : Option ℕ) → EachIsSequential → is_legal core.setup core.past
    → o ≡ (if nat_lt h core.setup.harts && nat_lt r 32 then committed_value core.setup core.past h r else None)
    → IfSome o (IsPlainRegister core h r)
register_answered core h r None headline legal is = tt
register_answered core h r (Some number) headline legal is = some_register core h r number headline legal (sym is)

-- What was said of one name of a view holds of another.
pub register_in : (a b : CoreView) (h r : ℕ) (o : Option ℕ) → a ≡ b
    → o ≡ (if nat_lt h a.setup.harts && nat_lt r 32 then committed_value a.setup a.past h r else None)
    → o ≡ (if nat_lt h b.setup.harts && nat_lt r 32 then committed_value b.setup b.past h r else None)
register_in a b h r o same is =
    subst
    (λ (v : CoreView). o
    ≡ (if nat_lt h v.setup.harts && nat_lt r 32 then committed_value v.setup v.past h r else None)) same is

-- ---- Memory

-- The memory of a core is that of the run.
pub memory_answered : (core : CoreView) (m : Contents) → EachIsSequential → is_legal core.setup core.past
    → ((addr : ℕ) → byte_of m addr ≡ byte_at core.setup core.past addr)
    → ((h : ℕ) → reserved_of m h ≡ reserved core.past h) → IsPlainMemory core m
memory_answered core m headline legal bytes held =
    let is = headline core.setup core.past legal in
    record {
      ran = is.ran;
      runs = is.runs;
      bytes = λ addr. bytes addr ∙ sym (is.bytes addr);
      reserved = λ h. held h ∙ sym (is.reserved h);
    }
