-- Local steps one after another.
use Rattle.std.proofs.Common.{◌≡◌, ℕ, zero, suc, ◌+◌, Bool, false, List, [], ◌∷◌, ◌++◌, replicate}
use Rattle.std.proofs.Common.{refl, sym, ap, subst, ◌∙◌, add-one}
use Rattle.std.specs.Prelude.{◌==◌, if◌then◌else◌}
use Rattle.smt_model.specs.{Setup.Setup, Plain.Plain}
use Rattle.outcome_laws.specs.{Paths.stepped, Tables.Tables, Search.IsLocalPath}
use Rattle.sc_machine.specs.{Harts.HartAgrees, declared.hart.Hart.Hart}
use Rattle.condensed_machine.specs.Settling.{HartsStay, OthersStay, GoesOn, IsFree}

pub none_stays : (h : ℕ) (s : Plain) → OthersStay h s s
none_stays h s = record {
  harts = record {
    registers = λ g r apart. refl;
    pcs = λ g apart. refl;
    statuses = λ g apart. refl;
    beyond = λ g r past. refl;
  };
  reserved = λ g. refl;
  bytes = λ a. refl;
  output = refl;
}

pub harts_stay : (h : ℕ) (s t u : Plain) → HartsStay h s t → HartsStay h t u → HartsStay h s u
harts_stay h s t u first second = record {
  registers = λ g r apart. second.registers g r apart ∙ first.registers g r apart;
  pcs = λ g apart. second.pcs g apart ∙ first.pcs g apart;
  statuses = λ g apart. second.statuses g apart ∙ first.statuses g apart;
  beyond = λ g r past. second.beyond g r past ∙ first.beyond g r past;
}

pub then_stay : (h : ℕ) (s t u : Plain) → OthersStay h s t → OthersStay h t u → OthersStay h s u
then_stay h s t u first second = record {
  harts = harts_stay h s t u first.harts second.harts;
  reserved = λ g. second.reserved g ∙ first.reserved g;
  bytes = λ a. second.bytes a ∙ first.bytes a;
  output = second.output ∙ first.output;
}

-- Another hart is what it was.
pub agrees_still : (h g : ℕ) (s t : Plain) (x : Hart) → (g == h) ≡ false → HartsStay h s t → HartAgrees s g x
    → HartAgrees t g x
agrees_still h g s t x apart stay is = record {
  registers = λ r below.
      is.registers r below ∙ ap (λ n. if r == 0 then 0 else n) (sym (stay.registers g r apart));
  pc = is.pc ∙ sym (stay.pcs g apart);
  status = is.status ∙ sym (stay.statuses g apart);
}

-- One order of local steps, and then another.
pub paths_join : (setup : Setup) (tables : Tables) (first second : List ℕ) (s t u : Plain)
    → IsLocalPath setup tables first s t → IsLocalPath setup tables second t u
    → IsLocalPath setup tables (first ++ second) s u
paths_join setup tables [] second s t u leads on = subst (λ z. IsLocalPath setup tables second z u) (sym leads) on
paths_join setup tables (h ∷ first) second s t u leads on =
    (leads.0, leads.1, paths_join setup tables first second (stepped setup h s) t u leads.2 on)

one_more : (setup : Setup) (tables : Tables) (h k : ℕ) (s t u : Plain) → IsLocalPath setup tables (replicate k h) s t
    → IsLocalPath setup tables (replicate 1 h) t u → IsLocalPath setup tables (replicate (suc k) h) s u
one_more setup tables h zero s t u leads on = subst (λ z. IsLocalPath setup tables (replicate 1 h) z u) (sym leads) on
one_more setup tables h (suc k) s t u leads on =
    (leads.0, leads.1, one_more setup tables h k (stepped setup h s) t u leads.2 on)

pub stays_put : (setup : Setup) (tables : Tables) (h : ℕ) (s : Plain) (x : Hart) → HartAgrees s h x
    → GoesOn setup tables h 0 s x
stays_put setup tables h s x is = record { there = s; local = refl; agrees = is; others = none_stays h s }

pub goes_further : (setup : Setup) (tables : Tables) (h k : ℕ) (s : Plain) (y z : Hart)
    (first : GoesOn setup tables h k s y)
    → GoesOn setup tables h 1 first.there z → GoesOn setup tables h (k + 1) s z
goes_further setup tables h k s y z first second = record {
  there = second.there;
  local = subst (λ n. IsLocalPath setup tables (replicate n h) s second.there) (sym (add-one k))
      (one_more setup tables h k s first.there second.there first.local second.local);
  agrees = second.agrees;
  others = then_stay h s first.there second.there first.others second.others;
}

-- A hart that is free is so behind its local steps.
pub still_free : (setup : Setup) (tables : Tables) (free : Bool) (h k : ℕ) (s : Plain) (y : Hart)
    (goes : GoesOn setup tables h k s y) → IsFree free h s → IsFree free h goes.there
still_free setup tables free h k s y goes is_free is = goes.others.reserved h ∙ is_free is
