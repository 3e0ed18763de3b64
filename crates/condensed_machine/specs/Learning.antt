-- A machine that learns: what it has said stays true. These are laws of an impl, so they stand here.
use Rattle.std.specs.Prelude.{◌≡◌, ℕ, suc, ◌<◌, ◌≤◌, Bool, true, ◌&&◌, nat_eq, List, [], ◌∷◌, ◌++◌, map, length}
use Rattle.std.specs.Prelude.{replicate, slice_index, slice_index_or, Option, Some, None, IfSome}
use Rattle.std.proofs.Common.{refl, sym, ap, ap₂, subst, ◌∙◌, suc-le-suc, zero-le}
use Rattle.std.proofs.lemmas.Option.{slice_get-get_or, get_or_from_slice_get, slice_get_within}
use Rattle.std.specs.Cmp.{first_so, second_so, unsigned_Decides}
use Rattle.std.specs.Cmp.Lexicographic.{pointwise, pointwise_decides}
use Rattle.smt_model.specs.{Setup.Setup, Plain.Plain}
use Rattle.outcome_laws.specs.{Paths.can_step, Paths.stepped, Local.fits}
use Rattle.sc_machine.specs.declared.hart.Hart.{Hart}
use Rattle.changed_memory.specs.Shared.{Shared}
use Rattle.searches.specs.declared.step.Step.{Step}
use Rattle.condensed_machine.specs.Machine.{Program, tables_of, Machine, Grows, Keeps}
use Rattle.condensed_machine.specs.Decoded.{AreDropped, Decoded, decoded, full, hart_at, no_hart, no_shared, numbers_of}
use Rattle.condensed_machine.specs.Decoded.{state_of, Knows}
use Rattle.condensed_machine.specs.Steps.{SettlesBy, MakesMove, MakesStep, Steps, local_steps, turns}
use Rattle.condensed_machine.specs.declared.{state.State.State, way.Way.Way}

-- ---- A table that grows

pub kept_at : {A : Type 0} → (old new : List A) (n : ℕ) (d : A) → Keeps old new → n < length old
    → slice_index_or new n d ≡ slice_index_or old n d
kept_at old new n d keeps inside =
    get_or_from_slice_get new n (slice_index_or old n d) d
    (keeps n (slice_index_or old n d) (slice_get-get_or old n d inside))

pub kept_within : {A : Type 0} → (old new : List A) (n : ℕ) (d : A) → Keeps old new → n < length old → n < length new
kept_within old new n d keeps inside =
    slice_get_within new n (slice_index_or old n d) (keeps n (slice_index_or old n d) (slice_get-get_or old n d inside))

maps_same : {A : Type 0} → (f g : ℕ → A) (xs : List ℕ)
    → ((i : ℕ) → i < length xs → f (slice_index xs i) ≡ g (slice_index xs i))
    → map f xs ≡ map g xs
maps_same f g [] same = refl
maps_same f g (x ∷ xs) same =
    ap₂ ◌∷◌ (same 0 (suc-le-suc zero-le)) (maps_same f g xs (λ i inside. same (suc i) (suc-le-suc inside)))

abbrev made_of : List Hart → Shared → Decoded
made_of harts shared = record { harts = harts; shared = shared }

pub still_numbered : (m n : Machine) (s : State) → Grows m n → Knows m s → numbers_of n s ≡ numbers_of m s
still_numbered m n s grows knows =
    ap (λ others. s.near ++ others) (kept_at m.far_harts n.far_harts s.far [] grows.far_harts knows.far)

pub still_decoded : (m n : Machine) (s : State) → Grows m n → Knows m s → decoded n s ≡ decoded m s
still_decoded m n s grows knows =
    ap₂ made_of
    (ap (map (hart_at n.hart_states)) (still_numbered m n s grows knows)
    ∙ maps_same (hart_at n.hart_states) (hart_at m.hart_states) (numbers_of m s)
    (λ i inside. kept_at m.hart_states n.hart_states (slice_index (numbers_of m s) i) no_hart grows.hart_states
    (knows.harts i inside)))
    (kept_at m.shared_states n.shared_states s.shared no_shared grows.shared_states knows.shared)

pub still_knows : (m n : Machine) (s : State) → Grows m n → Knows m s → Knows n s
still_knows m n s grows knows = record {
  near = knows.near;
  room = ap length (still_numbered m n s grows knows) ∙ knows.room;
  harts =
      subst (λ numbers. (h : ℕ) → h < length numbers → slice_index numbers h < length n.hart_states)
      (sym (still_numbered m n s grows knows))
      (λ h inside. kept_within m.hart_states n.hart_states (slice_index (numbers_of m s) h) no_hart
      grows.hart_states (knows.harts h inside));
  absent = λ h beyond.
      ap (λ numbers. slice_index numbers h) (still_numbered m n s grows knows)
      ∙ knows.absent h (subst (λ (p : Program). p.harts ≤ h) grows.program beyond);
  far = kept_within m.far_harts n.far_harts s.far [] grows.far_harts knows.far;
  shared = kept_within m.shared_states n.shared_states s.shared no_shared grows.shared_states knows.shared;
  dropped =
      subst (λ (p : Program). AreDropped p (decoded n s)) (sym grows.program)
      (subst (AreDropped m.program) (sym (still_decoded m n s grows knows)) knows.dropped);
}

pub learns_nothing : (m : Machine) → Grows m m
learns_nothing m = record {
  program = refl;
  hart_states = λ n x is. is;
  far_harts = λ n x is. is;
  shared_states = λ n x is. is;
  rows = λ n x is. is;
}

pub learns_more : (l m n : Machine) → Grows l m → Grows m n → Grows l n
learns_more l m n first second = record {
  program = second.program ∙ first.program;
  hart_states = λ k x is. second.hart_states k x (first.hart_states k x is);
  far_harts = λ k x is. second.far_harts k x (first.far_harts k x is);
  shared_states = λ k x is. second.shared_states k x (first.shared_states k x is);
  rows = λ k x is. second.rows k x (first.rows k x is);
}

pub same_harts : (m n : Machine) → Grows m n → m.program.harts ≡ n.program.harts
same_harts m n grows = ap (λ (p : Program). p.harts) (sym grows.program)

-- ---- What was said of a step

pub state_same : (m n : Machine) (s : State) → Grows m n → Knows m s → state_of n s ≡ state_of m s
state_same m n s grows knows = ap₂ full grows.program (still_decoded m n s grows knows)

-- What is said of an order of local steps behind a step.
still_leads : (m n : Machine) (s t : State) (h : ℕ) (setup : Setup) (order : List ℕ) → Grows m n → Knows m s → Knows m t
    → SettlesBy setup m.program order (stepped setup h (state_of m s)) (state_of m t)
    → SettlesBy setup n.program order (stepped setup h (state_of n s)) (state_of n t)
still_leads m n s t h setup order grows knows next leads =
    let here = state_same m n s grows knows in
    let there = state_same m n t grows next in
    subst (λ (p : Program). SettlesBy setup p order (stepped setup h (state_of n s)) (state_of n t)) (sym grows.program)
    (subst (λ (u : Plain). SettlesBy setup m.program order (stepped setup h u) (state_of n t)) (sym here)
    (subst (λ (u : Plain). SettlesBy setup m.program order (stepped setup h (state_of m s)) u) (sym there) leads))

still_fits : (m n : Machine) (s : State) (h : ℕ) (setup : Setup) → Grows m n → Knows m s
    → fits setup (tables_of m.program) h (state_of m s) ≡ true
    → fits setup (tables_of n.program) h (state_of n s) ≡ true
still_fits m n s h setup grows knows fitting =
    ap (fits setup (tables_of n.program) h) (state_same m n s grows knows)
    ∙ ap (λ (p : Program). fits setup (tables_of p) h (state_of m s)) grows.program ∙ fitting

pub still_moves : (m n : Machine) (s : State) (h steps : ℕ) (t : State) (setup : Setup) → Grows m n → Knows m s
    → MakesMove setup m s h steps t → MakesMove setup n s h steps t
still_moves m n s h steps t setup grows knows makes = record {
  can = ap (can_step setup h) (state_same m n s grows knows) ∙ makes.can;
  fits = still_fits m n s h setup grows knows makes.fits;
  leads = still_leads m n s t h setup (replicate steps h) grows knows makes.knows makes.leads;
  knows = still_knows m n t grows makes.knows;
}

pub order_same : (m n : Machine) (h : ℕ) (way : Way) → Grows m n → way.others < length m.rows
    → local_steps n.rows n.program.harts h way ≡ local_steps m.rows m.program.harts h way
order_same m n h way grows row =
    ap₂ (λ turned harts. replicate way.own h ++ turns turned harts)
    (kept_at m.rows n.rows way.others [] grows.rows row) (ap (λ (p : Program). p.harts) grows.program)

still_makes : (m n : Machine) (s : State) (h : ℕ) (step : Step State Way) (setup : Setup) → Grows m n → Knows m s
    → MakesStep setup m s h step → MakesStep setup n s h step
still_makes m n s h step setup grows knows makes = record {
  can = ap (can_step setup h) (state_same m n s grows knows) ∙ makes.can;
  fits = still_fits m n s h setup grows knows makes.fits;
  row = kept_within m.rows n.rows step.way.others [] grows.rows makes.row;
  leads =
      subst (λ order. SettlesBy setup n.program order (stepped setup h (state_of n s)) (state_of n step.state))
      (sym (order_same m n h step.way grows makes.row))
      (still_leads m n s step.state h setup (local_steps m.rows m.program.harts h step.way) grows knows makes.knows
      makes.leads);
  knows = still_knows m n step.state grows makes.knows;
}

pub still_true : (m n : Machine) (s : State) (h : ℕ) (next : Option (Step State Way)) → Grows m n → Knows m s
    → IfSome next (λ step. Knows m step.state) → Steps m s h next → Steps n s h next
still_true m n s h None grows knows next steps = λ setup image harts.
    ap (can_step setup h) (state_same m n s grows knows)
    ∙ steps setup (image ∙ ap (λ (p : Program). p.image) grows.program)
    (harts ∙ ap (λ (p : Program). p.harts) grows.program)
still_true m n s h (Some step) grows knows next steps = λ setup image harts.
    still_makes m n s h step setup grows knows
    (steps setup (image ∙ ap (λ (p : Program). p.image) grows.program)
    (harts ∙ ap (λ (p : Program). p.harts) grows.program))

-- ---- States

-- States that are equal by `==` are one.
abbrev pub is_same : State → State → Bool
is_same s t = pointwise nat_eq s.near t.near && (nat_eq s.far t.far && nat_eq s.shared t.shared)

pub equal_is_one : (s t : State) → is_same s t ≡ true → s ≡ t
equal_is_one s t e =
    let a = pointwise nat_eq s.near t.near in
    let b = nat_eq s.far t.far in
    let c = nat_eq s.shared t.shared in
    let near = (pointwise_decides unsigned_Decides s.near t.near).0 (first_so a (b && c) e) in
    let far = (unsigned_Decides s.far t.far).0 (first_so b c (second_so a (b && c) e)) in
    let shared = (unsigned_Decides s.shared t.shared).0 (second_so b c (second_so a (b && c) e)) in
    λ i. record { near = near i; far = far i; shared = shared i }
