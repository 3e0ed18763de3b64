-- What is watched of a core, register by register and place by place.
use Rattle.std.specs.Prelude.{◌≡◌, ℕ, zero, suc, ◌+◌, ◌*◌, ◌^◌, Bool, true, false, ◌&&◌, nat_lt, if◌then◌else◌, List}
use Rattle.std.specs.Prelude.{Option, None, unwrap_or, ◌==◌}
use Rattle.std.proofs.Common.{refl, ap, ◌∙◌, arith}
use Rattle.std.proofs.lemmas.Bool.{false≢true}
use Rattle.std.proofs.lemmas.Bool.Decides.{nat_tests}
use Rattle.events.specs.declared.event.Event.{Event}
use Rattle.smt_model.specs.{Setup.Setup, Account.committed_value, Bytes.number_at}
use Rattle.watched_outcomes.specs.declared.watch.WatchedRegister.{WatchedRegister}
use Rattle.watched_outcomes.specs.Watching.{is_register_there}
use Rattle.outcomes.specs.Found.{committed_in}

-- Numbers of bytes that are the same everywhere are the same.
pub number_same : (f g : ℕ → ℕ) → ((a : ℕ) → f a ≡ g a) → (addr n : ℕ) → number_at f addr n ≡ number_at g addr n
number_same f g same addr zero = refl
number_same f g same addr (suc n) =
    ap (λ x. x + 2 ^ 8 * number_at f (addr + 1) n) (same addr)
    ∙ ap (λ x. g addr + 2 ^ 8 * x) (number_same f g same (addr + 1) n)

-- What a core answers for a register that is there.
both_parts : (p q : Bool) → (p && q) ≡ true → (p ≡ true) × (q ≡ true)
both_parts true q e = (refl, e)
both_parts false q e = absurd (false≢true e)

not_zero : (r : ℕ) → nat_lt 0 r ≡ true → (r == 0) ≡ false
not_zero r positive = grind (arith, nat_tests, positive)

pub register_is : (setup : Setup) (past : List Event) (w : WatchedRegister) (answer : Option ℕ)
    → answer ≡ (if nat_lt w.hart setup.harts && nat_lt w.register 32
    then committed_value setup past w.hart w.register else None)
    → is_register_there setup.harts w ≡ true → unwrap_or answer 0 ≡ committed_in setup past w
register_is setup past w answer is there =
    let outer = both_parts (nat_lt w.hart setup.harts) _ there in
    let inner = both_parts (nat_lt 0 w.register) (nat_lt w.register 32) outer.1 in
    let so = rw (outer.0, inner.1, not_zero w.register inner.0) at is in
    ap (λ (o : Option ℕ). unwrap_or o 0) so
