-- Two events that the program finds equal are the same, and each is found equal to itself.
use Rattle.std.proofs.Common.{◌≡◌, ◌∙◌, ℕ, ◌==◌, ◌&&◌, Bool, true, Option, Some, None, refl, ap, subst, arith}
use Rattle.std.specs.{Option.option_eq, Bool.Decides}
use Rattle.std.proofs.{lemmas.Bool.and_parts, lemmas.Bool.false≢true, lemmas.Bool.Decides.nat_tests}
use Rattle.events.specs.{declared.effect.Next.Next, declared.effect.Next.TheVariants.Pc}
use Rattle.events.specs.{declared.effect.Next.TheVariants.Ended, declared.effect.Next.TheVariants.Stopped}
use Rattle.events.specs.{declared.effect.Written.Written, declared.effect.Outcome.Outcome}
use Rattle.events.specs.{declared.effect.Effect.Effect, declared.event.Event.Event}
use Rattle.events.specs.declared.event.Event.TheVariants.{Fetch, Decode, Rename, Issue, Complete, Drop, Retire, Refetch}
use Rattle.events.specs.contracts.effect.NextPartialEq.TheImpl as next
use Rattle.events.specs.contracts.effect.WrittenPartialEq.TheImpl as written
use Rattle.events.specs.contracts.effect.OutcomePartialEq.TheImpl as outcome
use Rattle.events.specs.contracts.effect.EffectPartialEq.TheImpl as effect
use Rattle.events.specs.contracts.event.EventPartialEq.TheImpl as event

-- ---- Equal is the same

nat_same : (a b : ℕ) → (a == b) ≡ true → a ≡ b
nat_same a b h = grind (arith, nat_tests)

option_same : {T : Type 0} (E : T → T → Bool) → ((x y : T) → E x y ≡ true → x ≡ y) → (a b : Option T)
    → option_eq E a b ≡ true → a ≡ b
option_same E same None None h = refl
option_same E same None (Some y) h = absurd (false≢true h)
option_same E same (Some x) None h = absurd (false≢true h)
option_same E same (Some x) (Some y) h = ap (λ z. Some z) (same x y h)

number_same : (a b : Option ℕ) → option_eq (λ x y. x == y) a b ≡ true → a ≡ b
number_same a b h = option_same _ nat_same a b h

next_same : (a b : Next) → next.eq-value.it a b ≡ true → a ≡ b
next_same (Pc x) (Pc y) h = ap (λ z. Pc z) (nat_same x y h)
next_same (Ended x) (Ended y) h = ap (λ z. Ended z) (nat_same x y h)
next_same (Stopped x) (Stopped y) h = ap (λ z. Stopped z) (nat_same x y h)
next_same _ _ h = absurd (false≢true h)

written_same : (a b : Written) → written.eq-value.it a b ≡ true → a ≡ b
written_same a b h =
    let one = and_parts (a.addr == b.addr) ((a.n == b.n) && (a.datum == b.datum)) h in
    let two = and_parts (a.n == b.n) (a.datum == b.datum) one.1 in
    let addr = nat_same a.addr b.addr one.0 in
    let n = nat_same a.n b.n two.0 in
    let datum = nat_same a.datum b.datum two.1 in
    ap (λ x. record { addr = x; n = a.n; datum = a.datum }) addr
    ∙ ap (λ x. record { addr = b.addr; n = x; datum = a.datum }) n
    ∙ ap (λ x. record { addr = b.addr; n = b.n; datum = x }) datum

abbrev number : Option ℕ → Option ℕ → Bool
number a b = option_eq (λ x y. x == y) a b

outcome_same : (a b : Outcome) → outcome.eq-value.it a b ≡ true → a ≡ b
outcome_same a b h =
    let p = and_parts (number a.value b.value)
    (next.eq-value.it a.next b.next && (number a.addr b.addr && (number a.datum b.datum && number a.out b.out))) h in
    let q = and_parts (next.eq-value.it a.next b.next)
    (number a.addr b.addr && (number a.datum b.datum && number a.out b.out)) p.1 in
    let r = and_parts (number a.addr b.addr) (number a.datum b.datum && number a.out b.out) q.1 in
    let s = and_parts (number a.datum b.datum) (number a.out b.out) r.1 in
    ap (λ x. record { value = x; next = a.next; addr = a.addr; datum = a.datum; out = a.out })
    (number_same a.value b.value p.0)
    ∙ ap (λ x. record { value = b.value; next = x; addr = a.addr; datum = a.datum; out = a.out })
    (next_same a.next b.next q.0)
    ∙ ap (λ x. record { value = b.value; next = b.next; addr = x; datum = a.datum; out = a.out })
    (number_same a.addr b.addr r.0)
    ∙ ap (λ x. record { value = b.value; next = b.next; addr = b.addr; datum = x; out = a.out })
    (number_same a.datum b.datum s.0)
    ∙ ap (λ x. record { value = b.value; next = b.next; addr = b.addr; datum = b.datum; out = x })
    (number_same a.out b.out s.1)

abbrev write : Option Written → Option Written → Bool
write a b = option_eq written.eq-value.it a b

effect_same : (a b : Effect) → effect.eq-value.it a b ≡ true → a ≡ b
effect_same a b h =
    let p = and_parts (number a.value b.value)
    (next.eq-value.it a.next b.next && (write a.write b.write && number a.out b.out)) h in
    let q = and_parts (next.eq-value.it a.next b.next) (write a.write b.write && number a.out b.out) p.1 in
    let r = and_parts (write a.write b.write) (number a.out b.out) q.1 in
    ap (λ x. record { value = x; next = a.next; write = a.write; out = a.out }) (number_same a.value b.value p.0)
    ∙ ap (λ x. record { value = b.value; next = x; write = a.write; out = a.out }) (next_same a.next b.next q.0)
    ∙ ap (λ x. record { value = b.value; next = b.next; write = x; out = a.out })
    (option_same _ written_same a.write b.write r.0)
    ∙ ap (λ x. record { value = b.value; next = b.next; write = b.write; out = x }) (number_same a.out b.out r.1)

fetch_same : (k l hart hart' seq seq' pc pc' : ℕ) (word word' : Option ℕ) (predicted predicted' : ℕ)
    → event.eq-value.it (Fetch k hart seq pc word predicted) (Fetch l hart' seq' pc' word' predicted') ≡ true
    → Fetch k hart seq pc word predicted ≡ Fetch l hart' seq' pc' word' predicted'
fetch_same k l hart hart' seq seq' pc pc' word word' predicted predicted' h =
    let p =
    and_parts (k == l)
    ((hart == hart') && ((seq == seq') && ((pc == pc') && (number word word' && (predicted == predicted')))))
    h in
    let q =
    and_parts (hart == hart') ((seq == seq') && ((pc == pc') && (number word word' && (predicted == predicted'))))
    p.1 in
    let r = and_parts (seq == seq') ((pc == pc') && (number word word' && (predicted == predicted'))) q.1 in
    let s = and_parts (pc == pc') (number word word' && (predicted == predicted')) r.1 in
    let t = and_parts (number word word') (predicted == predicted') s.1 in
    ap (λ x. Fetch x hart seq pc word predicted) (nat_same k l p.0)
    ∙ ap (λ x. Fetch l x seq pc word predicted) (nat_same hart hart' q.0)
    ∙ ap (λ x. Fetch l hart' x pc word predicted) (nat_same seq seq' r.0)
    ∙ ap (λ x. Fetch l hart' seq' x word predicted) (nat_same pc pc' s.0)
    ∙ ap (λ x. Fetch l hart' seq' pc' x predicted) (number_same word word' t.0)
    ∙ ap (λ x. Fetch l hart' seq' pc' word' x) (nat_same predicted predicted' t.1)

-- An event of an actor, an instruction and one thing more.
three_same : {A : Type 0} (make : ℕ → ℕ → A → Event) (E : A → A → Bool) → ((x y : A) → E x y ≡ true → x ≡ y)
    → (k l seq seq' : ℕ) (x y : A) → ((k == l) && ((seq == seq') && E x y)) ≡ true → make k seq x ≡ make l seq' y
three_same make E same k l seq seq' x y h =
    let p = and_parts (k == l) ((seq == seq') && E x y) h in
    let q = and_parts (seq == seq') (E x y) p.1 in
    ap (λ z. make z seq x) (nat_same k l p.0) ∙ ap (λ z. make l z x) (nat_same seq seq' q.0)
    ∙ ap (λ z. make l seq' z) (same x y q.1)

event_same : (a b : Event) → event.eq-value.it a b ≡ true → a ≡ b
event_same (Fetch k hart seq pc word predicted) (Fetch l hart' seq' pc' word' predicted') h =
    fetch_same k l hart hart' seq seq' pc pc' word word' predicted predicted' h
event_same (Decode k seq) (Decode l seq') h = grind (arith, nat_tests)
event_same (Rename k seq phys) (Rename l seq' phys') h =
    three_same (λ x y z. Rename x y z) number number_same k l seq seq' phys phys' h
event_same (Issue k seq) (Issue l seq') h = grind (arith, nat_tests)
event_same (Complete k seq x) (Complete l seq' y) h =
    three_same (λ x y z. Complete x y z) outcome.eq-value.it outcome_same k l seq seq' x y h
event_same (Drop k seq) (Drop l seq') h = grind (arith, nat_tests)
event_same (Retire k seq x) (Retire l seq' y) h =
    three_same (λ x y z. Retire x y z) effect.eq-value.it effect_same k l seq seq' x y h
event_same (Refetch k seq) (Refetch l seq') h = grind (arith, nat_tests)
event_same _ _ h = absurd (false≢true h)

-- ---- What is alike is equal

nat_self : (a : ℕ) → (a == a) ≡ true
nat_self a = grind (arith, nat_tests)

option_self : {T : Type 0} (E : T → T → Bool) → ((x : T) → E x x ≡ true) → (a : Option T) → option_eq E a a ≡ true
option_self E self None = refl
option_self E self (Some x) = self x

number_self : (a : Option ℕ) → number a a ≡ true
number_self a = option_self _ nat_self a

next_self : (a : Next) → next.eq-value.it a a ≡ true
next_self (Pc x) = nat_self x
next_self (Ended x) = nat_self x
next_self (Stopped x) = nat_self x

both : (a b : Bool) → a ≡ true → b ≡ true → (a && b) ≡ true
both a b x y = rw x y

written_self : (a : Written) → written.eq-value.it a a ≡ true
written_self a = both _ _ (nat_self a.addr) (both _ _ (nat_self a.n) (nat_self a.datum))

outcome_self : (a : Outcome) → outcome.eq-value.it a a ≡ true
outcome_self a =
    both _ _ (number_self a.value)
    (both _ _ (next_self a.next)
    (both _ _ (number_self a.addr) (both _ _ (number_self a.datum) (number_self a.out))))

effect_self : (a : Effect) → effect.eq-value.it a a ≡ true
effect_self a =
    both _ _ (number_self a.value)
    (both _ _ (next_self a.next) (both _ _ (option_self _ written_self a.write) (number_self a.out)))

event_self : (a : Event) → event.eq-value.it a a ≡ true
event_self (Fetch k hart seq pc word predicted) =
    both _ _ (nat_self k)
    (both _ _ (nat_self hart)
    (both _ _ (nat_self seq) (both _ _ (nat_self pc) (both _ _ (number_self word) (nat_self predicted)))))
event_self (Decode k seq) = both _ _ (nat_self k) (nat_self seq)
event_self (Rename k seq phys) = both _ _ (nat_self k) (both _ _ (nat_self seq) (number_self phys))
event_self (Issue k seq) = both _ _ (nat_self k) (nat_self seq)
event_self (Complete k seq x) = both _ _ (nat_self k) (both _ _ (nat_self seq) (outcome_self x))
event_self (Drop k seq) = both _ _ (nat_self k) (nat_self seq)
event_self (Retire k seq x) = both _ _ (nat_self k) (both _ _ (nat_self seq) (effect_self x))
event_self (Refetch k seq) = both _ _ (nat_self k) (nat_self seq)

-- ---- Events that may be missing

pub last_decides : (a b : Option Event) → Decides (option_eq event.eq-value.it a b) (a ≡ b)
last_decides a b = (
  option_same _ event_same a b,
  λ e. subst (λ x. option_eq event.eq-value.it a x ≡ true) e
      (option_self _ event_self a),
)
