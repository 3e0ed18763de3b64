-- A core's retirement: what its parts' step starts from, and that the state is a core's again after it.
use Rattle.std.specs.Prelude.{◌≡◌, ℕ, ◌<◌, ◌≤◌, ◌+◌, ◌^◌, ◌==◌, Bool, true, false, List, [], ◌∷◌, ◌++◌, Option, Some, None, IfNone}
use Rattle.std.specs.Prelude.{length, reverse, vec_capacity, IfSome}
use Rattle.numbers.specs.Sizes.{most_extra, most_harts, most_registers}
use Rattle.elf_image.specs.Image.{ProgramImage}
use Rattle.rv_instr.specs.declared.op.Op.{Op}
use Rattle.std.proofs.Common.{◌∙◌, Vec, Global, refl, sym, ap, subst, inl, inr, arith}
use Rattle.std.proofs.{lemmas.Bool.cases_Bool, lemmas.Bool.Decides.nat_tests, lemmas.List.length_push}
use Rattle.std.proofs.{lemmas.List.reverse-append, Math.Path.fun_ext}
use Rattle.decoded_code.specs.{Code.IsCodeOf, declared.code.Code.Code}
use Rattle.events.specs.{History.EventList, declared.effect.Effect.Effect, declared.effect.Outcome.Outcome}
use Rattle.events.specs.{declared.effect.Record.Record, declared.event.Event.TheVariants.Retire}
use Rattle.retire_squash.specs.declared.active.Active.{Active}
use Rattle.smt_model.specs.{Account.records, Asks.AskRetire, Fates.Fetched, Fates.is_of, Picture.Picture}
use Rattle.smt_model.specs.{Picture.picture, Plain.output_after, Rules.refused, Rules.effect_now, Rules.is_fresh}
use Rattle.smt_model.specs.{Jobs.is_actor}
use Rattle.smt_model.specs.{Setup.registers_of}
use Rattle.smt_model.specs.{Basics.or_zero, Exec.Computed, Exec.exec, Faults.checked, Outcomes.outcome_of}
use Rattle.smt_model.specs.{Effects.effect_of}
use Rattle.smt_model.specs.{Bytes.read, Reservations.holds_word, Registers.operand, Fates.op_of_fetched}
use Rattle.smt_model.specs.{Bytes.byte_after, Memory.byte_at, Memory.reserved, Kinds.first_source, Kinds.second_source}
use Rattle.shared_memory.specs.Contents.{Contents, byte_of, reserved_of}
use Rattle.shared_memory.specs.Contents.{CanWrite}
use Rattle.smt_model.specs.Touched.{looks_after, looks}
use Rattle.smt_laws.specs.Untouched.{kept_effect}
use Rattle.smt_laws.proofs.Touching.{looks_under}
use Rattle.load_store.specs.{Looks.keeps_first, Queues.needs_look, Queues.queues_of}
use Rattle.smt_laws.proofs.Steps.Retire.{records-Retire}
use Rattle.core_parts.specs.{Agree.PartsAgree, Agree.KeepsSizes, Agree.From}
use Rattle.core_state.specs.{Answers.AllowsNone, View.CoreView}
use Rattle.core_parts.specs.{declared.parts.Parts.Parts}
use Rattle.core_state.specs.{declared.state.State.TheInside.Inside}
use Rattle.core_steps.specs.Retirement.{CanRetire, NoneCanRetire, Retires}
use Rattle.core_state.specs.State.{IsCore, past_of, setup_in, view_of}
use Rattle.smt_model.specs.{Basics.holds_of, Comparisons.same_effect}
use Rattle.smt_model.proofs.Allowed.{retire_allowed, RetireAllowed}
use Rattle.smt_laws.proofs.Fates.Choosing.{hart_there}
use Rattle.core_parts.specs.Agree.{IsActive}
use Rattle.core_state.proofs.Following.Sameness.{same_effect-is}
use Rattle.core_state.proofs.Steps.Invariant.{core_retired}
use Rattle.core_state.proofs.Steps.Retire.Look.{fetched_of, retires_now, effect-same}
use Rattle.core_state.proofs.{Steps.Retire.Writes.can_write, Steps.Complete.Look.says_with_look}
use Rattle.core_state.proofs.{Steps.Complete.Look.checked-address}
use Rattle.core_parts.proofs.{Agreement.Queues.has_place, Agreement.Queues.in_range}
use Rattle.core_state.proofs.Steps.Retire.Touched.{keeps_now, looks_now}
use Rattle.core_state.proofs.Steps.Retire.Rules.{retires_by, is_its_own, none_completed}
use Rattle.core_state.proofs.Steps.Retire.Wanted.{IsWanted, wanted, retire_wants, is_of_active}

registers_fit : (i : Inside) → IsCore i → registers_of (setup_in i) ≤ most_registers
registers_fit i core =
    let sizes = core.sizes in
    let harts : i.config.harts ≤ most_harts = grind (arith, nat_tests) in
    let extra : i.config.extra ≤ most_extra = grind (arith, nat_tests) in
    omega arith

-- ---- The effect

-- Hart h has a place among the queues, and is one of those that a core may have.
pub place_in : (i : Inside) (h : ℕ) → IsCore i → h < length i.parts.harts.items → h < length i.parts.accesses
place_in i h core inside = has_place i.parts.harts.items i.parts.accesses h core.agrees.accesses inside

pub range_in : (i : Inside) (h : ℕ) → IsCore i → h < length i.parts.harts.items → h < most_harts
range_in i h core inside = in_range i.parts.harts.items i.parts.accesses h core.agrees.accesses inside

-- What the code makes of an outcome, by memory as it is, for every c of which it is the outcome.
abbrev pub Effects : Contents → ProgramImage → ℕ → Op → Outcome → Effect → Type 0
Effects m image h op o effect =
    (c : Computed) (look : Option ℕ) → o ≡ outcome_of op (checked image op c) look
    → effect ≡ effect_of op (checked image op c) (read op (byte_of m) c.addr) (holds_word (reserved_of m h) c.addr)

-- And of a load that doesn't look again what its completion said.
pub record Says (i : Inside) (h s : ℕ) (op : Op) (o : Outcome) (effect : Effect) : Type 0 where
  pub first : keeps_first op s (queues_of i.parts.accesses h).loads ≡ true → effect ≡ kept_effect o
  pub now : keeps_first op s (queues_of i.parts.accesses h).loads ≡ false
      → Effects i.parts.memory i.parts.memory.image h op o effect

-- By memory it is what the rules want now.
by_memory : (i : Inside) (h : ℕ) (x : Active) (o : Outcome) (effect : Effect) → IsCore i
    → CanRetire (picture (setup_in i) (past_of i)) h x o
    → Effects i.parts.memory i.parts.memory.image h x.op o effect
    → effect ≡ effect_now (setup_in i) (past_of i) x.seq (fetched_of h x)
by_memory i h x o effect core can says =
    let setup = setup_in i in
    let past = past_of i in
    let m = i.parts.memory in
    let f = fetched_of h x in
    let op = op_of_fetched (Some f) in
    let c = exec op f.pc (or_zero (operand setup first_source past x.seq))
    (or_zero (operand setup second_source past x.seq)) in
    let said = says_with_look setup past core.legal x.seq f o can.is_active.fetched can.completed can.outcome in
    let here : Effects m setup.image h op o effect =
    subst (λ z. Effects m setup.image h z o effect) can.is_active.op
    (subst (λ z. Effects m z h x.op o effect) core.image says) in
    let d = checked setup.image op c in
    here c (Some said.look) said.outcome_is
    ∙ (ap (λ a. effect_of op d (read op (byte_of m) a) (holds_word (reserved_of m h) a))
    (sym (checked-address setup.image op c))
    ∙ effect-same setup past x.seq f (byte_of m) (reserved_of m h) core.agrees.memory.byte
    (core.agrees.memory.reserved h))

-- It is what the rules want now.
pub effect_in : (i : Inside) (h : ℕ) (x : Active) (o : Outcome) (effect : Effect) → IsCore i
    → h < length i.parts.harts.items → CanRetire (picture (setup_in i) (past_of i)) h x o
    → Says i h x.seq x.op o effect → effect ≡ effect_now (setup_in i) (past_of i) x.seq (fetched_of h x)
effect_in i h x o effect core inside can says =
    elim (cases_Bool (keeps_first x.op x.seq (queues_of i.parts.accesses h).loads)) [
      | inl keeps ↦ says.first keeps ∙ keeps_now i core h x o inside can keeps
      | inr again ↦ by_memory i h x o effect core can (says.now again)
    ]

-- And what it writes can be written.
pub write_in_core : (i : Inside) (h : ℕ) (x : Active) (effect : Effect) → IsCore i
    → effect ≡ effect_now (setup_in i) (past_of i) x.seq (fetched_of h x)
    → IfSome effect.write (CanWrite i.parts.memory.image)
write_in_core i h x effect core is =
    let setup = setup_in i in
    let past = past_of i in
    let f = fetched_of h x in
    let op = op_of_fetched (Some f) in
    let c = exec op f.pc (or_zero (operand setup first_source past x.seq))
    (or_zero (operand setup second_source past x.seq)) in
    let d = checked setup.image op c in
    subst (λ image. IfSome effect.write (CanWrite image)) (sym core.image)
    (subst (λ (e : Effect). IfSome e.write (CanWrite setup.image)) (sym is)
    (can_write setup.image op c (read op (byte_at setup past) d.addr) (holds_word (reserved past h) d.addr)))

-- ---- What the code has found: hart h is there, and x may retire with this outcome, whatever picture the parts agree
-- with, and memory has its word still.
pub record Finds (i : Inside) (actor h : ℕ) (x : Active) (o : Outcome) (effect : Effect) : Type 0 where
  pub there : is_actor (setup_in i) actor ≡ true
  pub inside : h < length i.parts.harts.items
  pub can : CanRetire (picture (setup_in i) (past_of i)) h x o
  pub fresh : is_fresh (setup_in i) (past_of i) (fetched_of h x) ≡ true
  pub effect_is : effect ≡ effect_now (setup_in i) (past_of i) x.seq (fetched_of h x)

pub finds_in : (i : Inside) (v : CoreView) (actor h : ℕ) (x : Active) (o : Outcome) (effect : Effect) (has : Bool)
    → view_of i ≡ v
    → has ≡ is_actor v.setup actor → has ≡ true → h < length i.parts.harts.items
    → ((p : Picture) → PartsAgree p i.parts → CanRetire p h x o)
    → IsCore i → is_fresh v.setup v.past (fetched_of h x) ≡ true → Says i h x.seq x.op o effect
    → Finds i actor h x o effect
finds_in i v actor h x o effect has at tells true_is inside can core fresh says = record {
  there = subst (λ w. is_actor w.setup actor ≡ true) (sym at) (sym tells ∙ true_is);
  inside = inside;
  can = can (picture (setup_in i) (past_of i)) core.agrees;
  fresh = subst (λ w. is_fresh w.setup w.past (fetched_of h x) ≡ true) (sym at) fresh;
  effect_is = effect_in i h x o effect core inside (can (picture (setup_in i) (past_of i)) core.agrees) says;
}

abbrev pub now_of : Inside → Picture
now_of i = picture (setup_in i) (past_of i)

found_retires : (i : Inside) (actor h : ℕ) (x : Active) (o : Outcome) (effect : Effect) → IsCore i
    → Finds i actor h x o effect
    → Retires (now_of i) (picture (setup_in i) (Retire actor x.seq effect ∷ past_of i)) h x effect
found_retires i actor h x o effect core finds =
    retires_by (setup_in i) (past_of i) core.legal (registers_fit i core) actor h finds.there x o effect
    finds.can finds.fresh finds.effect_is

found_follows : (i : Inside) (actor h : ℕ) (x : Active) (o : Outcome) (effect : Effect) → IsCore i
    → Finds i actor h x o effect
    → refused (setup_in i) (past_of i) (Retire actor x.seq effect) ≡ None
found_follows i actor h x o effect core finds =
    retires_now (setup_in i) (past_of i) actor h finds.there x o effect finds.can finds.fresh
    finds.effect_is

pub found_from : (i : Inside) (actor h : ℕ) (x : Active) (o : Outcome) (effect : Effect) → IsCore i
    → Finds i actor h x o effect
    → From i.parts h (λ p q. Retires p q h x effect)
found_from i actor h x o effect core finds = record {
  before = now_of i;
  after = picture (setup_in i) (Retire actor x.seq effect ∷ past_of i);
  inside = finds.inside;
  agrees = core.agrees;
  step = found_retires i actor h x o effect core finds;
}

-- ---- Over the view

pub allowed_in : (i : Inside) (v : CoreView) (actor h : ℕ) (x : Active) (o : Outcome) (effect : Effect)
    → view_of i ≡ v → IsCore i
    → Finds i actor h x o effect → refused v.setup v.past (Retire actor x.seq effect) ≡ None
allowed_in i v actor h x o effect at core finds =
    subst (λ w. refused w.setup w.past (Retire actor x.seq effect) ≡ None)
    at (found_follows i actor h x o effect core finds)

pub its_own_in : (i : Inside) (v : CoreView) (h : ℕ) (x : Active) (o : Outcome) → view_of i ≡ v → IsCore i
    → ((p : Picture) → PartsAgree p i.parts → CanRetire p h x o) → is_of v.past h x.seq ≡ true
its_own_in i v h x o at core can =
    subst (λ w. is_of w.past h x.seq ≡ true)
    at (is_its_own (setup_in i) (past_of i) h x o (can (now_of i) core.agrees))

pub none_in : (i : Inside) (v : CoreView) (actor h : ℕ) → view_of i ≡ v → IsCore i
    → (h < length i.parts.harts.items → (p : Picture) → PartsAgree p i.parts → NoneCanRetire p h)
    → AllowsNone v.setup (AskRetire actor h) v.past
none_in i v actor h at core never =
    subst (λ w. AllowsNone w.setup (AskRetire actor h) w.past) at
    (none_completed (setup_in i) (past_of i) core.legal actor h
    (λ there. never (subst (λ n. h < n) (sym core.harts) there) (now_of i) core.agrees))

-- ---- The core after it

length_after : (byte : Option ℕ) (before : List ℕ) → length (output_after byte before) ≤ length before + 1
length_after None before = omega arith
length_after (Some byte) before = let more = length_push before byte in omega arith

-- The code is what memory has again, once what the write touched was decoded anew.
abbrev pub IsDecodedAgain : Inside → Parts → Effect → Code → Type 0
IsDecodedAgain i parts effect code =
    (before : ℕ → ℕ) → IsCodeOf parts.memory.image before i.code
    → ((a : ℕ) → byte_of parts.memory a ≡ byte_after effect.write a (before a))
    → IsCodeOf parts.memory.image (byte_of parts.memory) code

code_after : (i : Inside) (parts : Parts) (code : Code) (actor s : ℕ) (effect : Effect) → IsCore i
    → KeepsSizes i.parts parts → PartsAgree (picture (setup_in i) (Retire actor s effect ∷ past_of i)) parts
    → IsDecodedAgain i parts effect code
    → IsCodeOf i.image (byte_at (setup_in i) (Retire actor s effect ∷ past_of i)) code
code_after i parts code actor s effect core sizes agrees again =
    let now = byte_at (setup_in i) (Retire actor s effect ∷ past_of i) in
    let same : byte_of parts.memory ≡ now = fun_ext agrees.memory.byte in
    let image : parts.memory.image ≡ i.image = sizes.image ∙ core.image in
    let was : IsCodeOf parts.memory.image (byte_at (setup_in i) (past_of i)) i.code =
    subst (λ g. IsCodeOf g (byte_at (setup_in i) (past_of i)) i.code) (sym image) core.code in
    subst (λ g. IsCodeOf g now code) image
    (subst (λ b. IsCodeOf parts.memory.image b code) same
    (again (byte_at (setup_in i) (past_of i)) was agrees.memory.byte))

pub core_after : (i : Inside) (parts : Parts) (code : Code) (many : ℕ) (now : Vec Record Global) (out : Vec ℕ Global)
    (history : EventList) (actor h : ℕ) (x : Active)
    (o : Outcome) (effect : Effect) → IsCore i → Finds i actor h x o effect
    → ((p q : Picture) → PartsAgree p i.parts → Retires p q h x effect → PartsAgree q parts) → KeepsSizes i.parts parts
    → IsDecodedAgain i parts effect code
    → many ≡ looks_after x.op (needs_look x.seq (queues_of i.parts.accesses h).loads) effect i.looks
    → now.items ≡ i.records.items ++ record { hart = h; pc = x.pc; word = x.word; effect = effect } ∷ []
    → vec_capacity now ≡ vec_capacity i.records → out.items ≡ output_after effect.out i.output.items
    → vec_capacity out ≡ vec_capacity i.output
    → history ≡ record i.history { items = i.history.items ++ Retire actor x.seq effect ∷ [] }
    → IsCore (record i { code = code; parts = parts; looks = many; records = now; output = out; history = history })
core_after i parts code many now out history actor h x o effect core finds steps sizes again counted recorded
    records_room put output_room longer =
    let past = past_of i in
    let f : Fetched = record { hart = h; pc = x.pc; word = x.word; predicted = x.predicted } in
    let line : Record = record { hart = h; pc = x.pc; word = x.word; effect = effect } in
    let can = finds.can in
    let newest : records (Retire actor x.seq effect ∷ past) ≡ line ∷ records past =
    records-Retire past actor x.seq effect f can.is_active.fetched in
    let agrees = steps (now_of i) (picture (setup_in i) (Retire actor x.seq effect ∷ past)) core.agrees
    (found_retires i actor h x o effect core finds) in
    core_retired i parts code many now out history (Retire actor x.seq effect) core
    (record { allowed = found_follows i actor h x o effect core finds; agrees = agrees; sizes = sizes })
    (code_after i parts code actor x.seq effect core sizes agrees again)
    (record {
      fetches = refl;
      last_fetched = refl;
      looks = counted ∙ looks_now i core h x o finds.inside can actor effect finds.effect_is;
      records =
          recorded
          ∙ (ap (λ rs. rs ++ line ∷ []) core.records
          ∙ (sym (reverse-append (line ∷ []) (records past)) ∙ ap reverse (sym newest)));
      output = put ∙ ap (output_after effect.out) core.output;
      one_record = subst (λ rs. length rs ≤ length i.records.items + 1) (sym recorded)
          (let more = length_push i.records.items line in omega arith);
      one_byte = subst (λ bs. length bs ≤ length i.output.items + 1) (sym put) (length_after effect.out i.output.items);
    })
    records_room output_room longer

-- There is room to count one more.
pub few_looks : (i : Inside) (v : CoreView) → view_of i ≡ v → IsCore i → length v.past < v.limit → i.looks + 1 < 2 ^ 32
few_looks i v at core room =
    let here : length (past_of i) < i.history.limit = subst (λ w. length w.past < w.limit) (sym at) room in
    let most = core.limit in
    let few = looks_under (past_of i) in
    let many = core.looks in
    omega arith

pub if_none : {A : Type 0} → (r : Option A) (P : Type 0) → P → IfNone r P
if_none None P holds = holds
if_none (Some x) P holds = tt

-- ---- One that may come next

-- Hart h is there, whose member of the active list this is.
pub active_inside : (i : Inside) → IsCore i → (h : ℕ) (x : Active) → IsActive (now_of i) h x
    → h < length i.parts.harts.items
active_inside i core h x active =
    subst (λ n. h < n) (sym core.harts)
    (hart_there (setup_in i) (past_of i) core.legal h x.seq (is_of_active (setup_in i) (past_of i) h x active))

module _ (i : Inside) (core : IsCore i) (v : CoreView) (at : view_of i ≡ v) (actor h : ℕ) (x : Active)
    (effect : Effect) (ok : refused v.setup v.past (Retire actor x.seq effect) ≡ None)
    (active : IsActive (picture v.setup v.past) h x) where
  allowed : refused (setup_in i) (past_of i) (Retire actor x.seq effect) ≡ None
  allowed = subst (λ u. refused u.setup u.past (Retire actor x.seq effect) ≡ None) (sym at) ok

  active_now : IsActive (now_of i) h x
  active_now = subst (λ u. IsActive (picture u.setup u.past) h x) (sym at) active

  rules_hold : RetireAllowed (setup_in i) (past_of i) actor x.seq effect
  rules_hold = retire_allowed (setup_in i) (past_of i) actor x.seq effect allowed

  oldest_now : IsWanted (setup_in i) (past_of i) h x
  oldest_now =
      wanted (setup_in i) (past_of i) actor h x active_now
      (retire_wants (setup_in i) (past_of i) actor x.seq effect allowed)

  same_now : same_effect effect (effect_now (setup_in i) (past_of i) x.seq (fetched_of h x)) ≡ true
  same_now =
      sym (ap (holds_of (λ f. same_effect effect (effect_now (setup_in i) (past_of i) x.seq f))) active_now.fetched)
      ∙ rules_hold.effect_is

  pub said_outcome : Outcome
  said_outcome = oldest_now.outcome

  pub finds_next : Finds i actor h x said_outcome effect
  unfolding said_outcome
  finds_next = record {
    there = rules_hold.actor_is;
    inside = active_inside i core h x active_now;
    can = oldest_now.can;
    fresh = sym (ap (holds_of (is_fresh (setup_in i) (past_of i))) active_now.fetched) ∙ rules_hold.fresh;
    effect_is = same_effect-is effect (effect_now (setup_in i) (past_of i) x.seq (fetched_of h x)) same_now;
  }
