-- States that are alike go alike along local paths; so what is visited is reached.
use Rattle.std.specs.Prelude.{◌≡◌, ℕ, Bool, true, ◌||◌, ◌&&◌, nat_lt, List, [], ◌∷◌, ◌++◌, Some}
use Rattle.std.proofs.Common.{◌∙◌, refl, sym, ap, ap₂, subst}
use Rattle.smt_model.specs.{Setup.Setup, Plain.Plain, Plain.is_going_status}
use Rattle.smt_laws.proofs.{Done.some_one}
use Rattle.outcome_laws.specs.Paths.{can_step, stepped, path}
use Rattle.outcome_laws.specs.{Tables.Tables, Tables.IsTables, Tables.IsAsCoded, Live.AreAlike, Live.matters}
use Rattle.outcome_laws.specs.Live.{reservation_matters}
use Rattle.outcome_laws.specs.Search.{IsLocalPath, WhatSettlesIsReached}
use Rattle.outcome_laws.proofs.{Live.alike_states_step_alike, Holding.first_of}
use Rattle.outcome_laws.proofs.Known.{local_fits, coded_next, coded_local, coded_alike}

-- ---- States that are alike

matters_too : (watched : ℕ → Bool) (tables : Tables) (s t : Plain) → AreAlike watched tables s t → (h r : ℕ)
    → matters watched tables.live t h r ≡ matters watched tables.live s h r
matters_too watched tables s t alike h r =
    ap₂ (λ status pc. watched r || (is_going_status status && tables.live pc r)) (sym (alike.statuses h))
    (sym (alike.pcs h))

reservation_matters_too : (watched : ℕ → Bool) (tables : Tables) (s t : Plain) → AreAlike watched tables s t → (h : ℕ)
    → reservation_matters tables.kept t h ≡ reservation_matters tables.kept s h
reservation_matters_too watched tables s t alike h =
    ap₂ (λ status pc. is_going_status status && tables.kept pc) (sym (alike.statuses h)) (sym (alike.pcs h))

pub self_alike : (watched : ℕ → Bool) (tables : Tables) (s : Plain) → AreAlike watched tables s s
self_alike watched tables s = record {
  pcs = λ h. refl;
  statuses = λ h. refl;
  reserved = λ h now. refl;
  bytes = λ a. refl;
  output = refl;
  registers = λ h r some now. refl;
}

pub flip : (watched : ℕ → Bool) (tables : Tables) (s t : Plain) → AreAlike watched tables s t
    → AreAlike watched tables t s
flip watched tables s t alike = record {
  pcs = λ h. sym (alike.pcs h);
  statuses = λ h. sym (alike.statuses h);
  reserved = λ h now.
      sym (alike.reserved h (sym (reservation_matters_too watched tables s t alike h) ∙ now));
  bytes = λ a. sym (alike.bytes a);
  output = sym alike.output;
  registers = λ h r some now. sym (alike.registers h r some (sym (matters_too watched tables s t alike h r) ∙ now));
}

pub join : (watched : ℕ → Bool) (tables : Tables) (s t u : Plain) → AreAlike watched tables s t
    → AreAlike watched tables t u → AreAlike watched tables s u
join watched tables s t u one two = record {
  pcs = λ h. one.pcs h ∙ two.pcs h;
  statuses = λ h. one.statuses h ∙ two.statuses h;
  reserved = λ h now.
      one.reserved h now ∙ two.reserved h (reservation_matters_too watched tables s t one h ∙ now);
  bytes = λ a. one.bytes a ∙ two.bytes a;
  output = one.output ∙ two.output;
  registers = λ h r some now.
      one.registers h r some now ∙ two.registers h r some (matters_too watched tables s t one h r ∙ now);
}

pub can_alike : (setup : Setup) (watched : ℕ → Bool) (tables : Tables) (s t : Plain) → AreAlike watched tables s t
    → (h : ℕ) → can_step setup h s ≡ can_step setup h t
can_alike setup watched tables s t alike h =
    ap (λ status. nat_lt h setup.harts && is_going_status status) (alike.statuses h)

-- ---- Local paths

-- An order with which an alike state goes the same local way.
pub record GoesAlike (setup : Setup) (watched : ℕ → Bool) (tables : Tables) (order : List ℕ) (u t : Plain)
    : Type 0 where
  pub there : Plain
  pub local : IsLocalPath setup tables order t there
  pub alike : AreAlike watched tables u there

pub goes_alike : (setup : Setup) (watched : ℕ → Bool) (tables : Tables) → IsTables setup.image tables
    → (order : List ℕ) (s t u : Plain) → IsAsCoded setup tables s → AreAlike watched tables s t
    → IsLocalPath setup tables order s u
    → GoesAlike setup watched tables order u t
goes_alike setup watched tables good [] s t u coded alike same = record {
  there = t;
  local = refl;
  alike = subst (λ z. AreAlike watched tables z t) same alike;
}
goes_alike setup watched tables good (h ∷ order) s t u coded alike way =
    let fitting = local_fits setup tables h s way.1 in
    let one = alike_states_step_alike setup watched tables good s t coded alike h way.0 fitting in
    let rest = goes_alike setup watched tables good order (stepped setup h s) (stepped setup h t) u
    (coded_next setup tables good h s coded fitting) one.alike way.2 in
    record {
      there = rest.there;
      local = (one.can ∙ way.0, one.local ∙ way.1, rest.local);
      alike = rest.alike;
    }

-- ---- What is visited is reached

pub path_on : (setup : Setup) (order more : List ℕ) (s u : Plain) → path setup order s ≡ Some u
    → path setup (order ++ more) s ≡ path setup more u
path_on setup [] more s u leads = ap (path setup more) (some_one s u leads)
path_on setup (h ∷ order) more s u leads =
    let split = first_of (can_step setup h s) (path setup order (stepped setup h s)) u leads in
    rw split.0 (path_on setup order more (stepped setup h s) u split.1)

pub local_leads : (setup : Setup) (tables : Tables) (order : List ℕ) (s u : Plain)
    → IsLocalPath setup tables order s u
    → path setup order s ≡ Some u
local_leads setup tables [] s u same = ap Some same
local_leads setup tables (h ∷ order) s u way = rw way.0 (local_leads setup tables order (stepped setup h s) u way.2)

pub what_settles_is_reached : WhatSettlesIsReached
what_settles_is_reached setup watched tables good from order s t h reached can fitting settles =
    let z = reached.state in
    let coded_s = coded_alike setup watched tables z s reached.alike reached.coded in
    let back = flip watched tables z s reached.alike in
    let one = alike_states_step_alike setup watched tables good s z coded_s back h can fitting in
    let can_z : can_step setup h z ≡ true = one.can ∙ can in
    let same = goes_alike setup watched tables good settles.order (stepped setup h s) (stepped setup h z) settles.there
    (coded_next setup tables good h s coded_s fitting) one.alike settles.local in
    let last : path setup (h ∷ settles.order) z ≡ Some same.there =
    rw can_z (local_leads setup tables settles.order (stepped setup h z) same.there same.local) in
    record {
      state = same.there;
      leads = path_on setup order (h ∷ settles.order) from z reached.leads ∙ last;
      coded = coded_local setup tables good settles.order (stepped setup h z) same.there
          (coded_next setup tables good h z reached.coded (one.fits ∙ fitting)) same.local;
      alike = join watched tables same.there settles.there t (flip watched tables settles.there same.there same.alike)
          settles.alike;
    }
