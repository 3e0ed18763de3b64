-- A state is a core's again once a step has changed the parts and the history has grown by an allowed event with which
-- they agree.
use Rattle.std.specs.Prelude.{◌≡◌, ℕ, ◌+◌, ◌≤◌, List, [], ◌∷◌, ◌++◌, Option, Some, None, length, reverse, vec_capacity}
use Rattle.std.proofs.Common.{◌∙◌, Vec, Global, refl, sym, ap, subst, arith}
use Rattle.std.proofs.lemmas.List.{length_push, reverse-append}
use Rattle.events.specs.{History.EventList, declared.effect.Outcome.Outcome, declared.effect.Record.Record}
use Rattle.events.specs.{declared.event.Event.Event}
use Rattle.events.specs.declared.event.Event.TheVariants.{Fetch, Decode, Rename, Issue, Complete, Drop, Refetch}
use Rattle.smt_model.specs.{Account.records, Fates.fetches, Fetching.last_fetched, Memory.output, Picture.picture}
use Rattle.smt_model.specs.{Memory.byte_at, Rules.refused, Rules.is_legal, Setup.Setup, Touched.looks}
use Rattle.decoded_code.specs.{Code.IsCodeOf, declared.code.Code.Code}
use Rattle.core_parts.specs.{Agree.PartsAgree, Agree.KeepsSizes}
use Rattle.core_state.specs.{State.IsCore, State.past_of, State.setup_in}
use Rattle.core_parts.specs.{declared.parts.Parts.Parts}
use Rattle.core_state.specs.{declared.state.State.TheInside.Inside}

-- The newest event comes first in the past.
pub past_push : (items : List Event) (e : Event) → reverse (items ++ e ∷ []) ≡ e ∷ reverse items
past_push items e = reverse-append items (e ∷ [])

-- An event that neither fetches nor retires.
pub record Quiet (e : Event) : Type 0 where
  pub fetches : (past : List Event) → fetches (e ∷ past) ≡ fetches past
  pub last_fetched : (past : List Event) → last_fetched (e ∷ past) ≡ last_fetched past
  pub looks : (past : List Event) → looks (e ∷ past) ≡ looks past
  pub byte : (setup : Setup) (past : List Event) → byte_at setup (e ∷ past) ≡ byte_at setup past
  pub records : (past : List Event) → records (e ∷ past) ≡ records past
  pub output : (past : List Event) → output (e ∷ past) ≡ output past

pub quiet_decode : (actor s : ℕ) → Quiet (Decode actor s)
quiet_decode actor s =
    record {
      fetches = λ past. refl;
      last_fetched = λ past. refl;
      looks = λ past. refl;
      byte = λ setup past. refl;
      records = λ past. refl;
      output = λ past. refl;
    }

pub quiet_rename : (actor s : ℕ) (phys : Option ℕ) → Quiet (Rename actor s phys)
quiet_rename actor s phys =
    record {
      fetches = λ past. refl;
      last_fetched = λ past. refl;
      looks = λ past. refl;
      byte = λ setup past. refl;
      records = λ past. refl;
      output = λ past. refl;
    }

pub quiet_issue : (actor s : ℕ) → Quiet (Issue actor s)
quiet_issue actor s =
    record {
      fetches = λ past. refl;
      last_fetched = λ past. refl;
      looks = λ past. refl;
      byte = λ setup past. refl;
      records = λ past. refl;
      output = λ past. refl;
    }

pub quiet_complete : (actor s : ℕ) (outcome : Outcome) → Quiet (Complete actor s outcome)
quiet_complete actor s outcome =
    record {
      fetches = λ past. refl;
      last_fetched = λ past. refl;
      looks = λ past. refl;
      byte = λ setup past. refl;
      records = λ past. refl;
      output = λ past. refl;
    }

pub quiet_drop : (actor s : ℕ) → Quiet (Drop actor s)
quiet_drop actor s =
    record {
      fetches = λ past. refl;
      last_fetched = λ past. refl;
      looks = λ past. refl;
      byte = λ setup past. refl;
      records = λ past. refl;
      output = λ past. refl;
    }

pub quiet_refetch : (actor s : ℕ) → Quiet (Refetch actor s)
quiet_refetch actor s =
    record {
      fetches = λ past. refl;
      last_fetched = λ past. refl;
      looks = λ past. refl;
      byte = λ setup past. refl;
      records = λ past. refl;
      output = λ past. refl;
    }

-- What every step owes: the event is allowed, and the parts agree with the history that has it.
pub record Grows (i : Inside) (parts : Parts) (e : Event) : Type 0 where
  pub allowed : refused (setup_in i) (past_of i) e ≡ None
  pub agrees : PartsAgree (picture (setup_in i) (e ∷ past_of i)) parts
  pub sizes : KeepsSizes i.parts parts

-- The parts have changed, and the history has grown by an event that neither fetches nor retires.
pub core_grown : (i : Inside) (parts : Parts) (history : EventList) (e : Event) → IsCore i → Grows i parts e → Quiet e
    → history ≡ record i.history { items = i.history.items ++ e ∷ [] }
    → IsCore (record i { parts = parts; history = history })
core_grown i parts history e core grows quiet longer =
    let more = length_push i.history.items e in
    let records_were = core.records_fit in
    let output_was = core.output_fit in
    let turned = sym (past_push i.history.items e) in
    subst (λ h. IsCore (record i { parts = parts; history = h })) (sym longer) (record {
      sizes = core.sizes;
      limit = core.limit;
      harts = grows.sizes.harts ∙ core.harts;
      queue = grows.sizes.queue ∙ core.queue;
      image = grows.sizes.image ∙ core.image;
      code = subst (λ b. IsCodeOf i.image b i.code)
          (sym (quiet.byte (setup_in i) (past_of i)) ∙ ap (byte_at (setup_in i)) turned) core.code;
      legal = subst (is_legal (setup_in i)) turned (grows.allowed, core.legal);
      agrees = subst (λ p. PartsAgree (picture (setup_in i) p) parts) turned grows.agrees;
      fetched = core.fetched ∙ sym (quiet.fetches (past_of i)) ∙ ap fetches turned;
      last = core.last ∙ sym (quiet.last_fetched (past_of i)) ∙ ap last_fetched turned;
      looks = core.looks ∙ sym (quiet.looks (past_of i)) ∙ ap looks turned;
      records = core.records ∙ ap reverse (sym (quiet.records (past_of i)) ∙ ap records turned);
      output = core.output ∙ sym (quiet.output (past_of i)) ∙ ap output turned;
      records_fit = omega arith;
      output_fit = omega arith;
      records_room = core.records_room;
      output_room = core.output_room;
    })

-- A fetch takes the next number, and is of the hart fetched last from now on.
pub core_fetched : (i : Inside) (parts : Parts) (history : EventList) (actor h pc : ℕ) (word : Option ℕ) (predicted : ℕ)
    → IsCore i
    → Grows i parts (Fetch actor h i.fetched pc word predicted)
    → history ≡ record i.history { items = i.history.items ++ Fetch actor h i.fetched pc word predicted ∷ [] }
    → IsCore (record i { parts = parts; last = Some h; fetched = i.fetched + 1; history = history })
core_fetched i parts history actor h pc word predicted core grows longer =
    let e : Event = Fetch actor h i.fetched pc word predicted in
    let more = length_push i.history.items e in
    let records_were = core.records_fit in
    let output_was = core.output_fit in
    let turned = sym (past_push i.history.items e) in
    let next : i.fetched + 1 ≡ fetches (e ∷ past_of i) = let was = core.fetched in omega arith in
    subst (λ v. IsCore (record i { parts = parts; last = Some h; fetched = i.fetched + 1; history = v }))
    (sym longer) (record {
      sizes = core.sizes;
      limit = core.limit;
      harts = grows.sizes.harts ∙ core.harts;
      queue = grows.sizes.queue ∙ core.queue;
      image = grows.sizes.image ∙ core.image;
      code = subst (λ b. IsCodeOf i.image b i.code) (ap (byte_at (setup_in i)) turned) core.code;
      legal = subst (is_legal (setup_in i)) turned (grows.allowed, core.legal);
      agrees = subst (λ p. PartsAgree (picture (setup_in i) p) parts) turned grows.agrees;
      fetched = next ∙ ap fetches turned;
      last = ap last_fetched turned;
      looks = core.looks ∙ ap looks turned;
      records = core.records ∙ ap (λ p. reverse (records p)) turned;
      output = core.output ∙ ap output turned;
      records_fit = omega arith;
      output_fit = omega arith;
      records_room = core.records_room;
      output_room = core.output_room;
    })

-- What a retirement owes besides: the loads that looked again are counted, its record comes first among the newest, and
-- the output is what the history puts out.
pub record Retires (i : Inside) (many : ℕ) (now : List Record) (out : List ℕ) (e : Event) : Type 0 where
  pub fetches : fetches (e ∷ past_of i) ≡ fetches (past_of i)
  pub last_fetched : last_fetched (e ∷ past_of i) ≡ last_fetched (past_of i)
  pub looks : many ≡ looks (e ∷ past_of i)
  pub records : now ≡ reverse (records (e ∷ past_of i))
  pub output : out ≡ output (e ∷ past_of i)
  pub one_record : length now ≤ length i.records.items + 1
  pub one_byte : length out ≤ length i.output.items + 1

pub core_retired : (i : Inside) (parts : Parts) (code : Code) (many : ℕ) (now : Vec Record Global) (out : Vec ℕ Global)
    (history : EventList) (e : Event) → IsCore i
    → Grows i parts e → IsCodeOf i.image (byte_at (setup_in i) (e ∷ past_of i)) code
    → Retires i many now.items out.items e → vec_capacity now ≡ vec_capacity i.records
    → vec_capacity out ≡ vec_capacity i.output
    → history ≡ record i.history { items = i.history.items ++ e ∷ [] }
    → IsCore (record i { code = code; parts = parts; looks = many; records = now; output = out; history = history })
core_retired i parts code many now out history e core grows decoded retires records_room output_room longer =
    let more = length_push i.history.items e in
    let records_were = core.records_fit in
    let output_was = core.output_fit in
    let one_record = retires.one_record in
    let one_byte = retires.one_byte in
    let records_fit_in = core.records_room in
    let output_fits_in = core.output_room in
    let turned = sym (past_push i.history.items e) in
    subst
    (λ h. IsCore (record i { code = code; parts = parts; looks = many; records = now; output = out; history = h }))
    (sym longer) (record {
      sizes = core.sizes;
      limit = core.limit;
      harts = grows.sizes.harts ∙ core.harts;
      queue = grows.sizes.queue ∙ core.queue;
      image = grows.sizes.image ∙ core.image;
      code = subst (λ b. IsCodeOf i.image b code) (ap (byte_at (setup_in i)) turned) decoded;
      legal = subst (is_legal (setup_in i)) turned (grows.allowed, core.legal);
      agrees = subst (λ p. PartsAgree (picture (setup_in i) p) parts) turned grows.agrees;
      fetched = core.fetched ∙ sym retires.fetches ∙ ap fetches turned;
      last = core.last ∙ sym retires.last_fetched ∙ ap last_fetched turned;
      looks = retires.looks ∙ ap looks turned;
      records = retires.records ∙ ap (λ p. reverse (records p)) turned;
      output = retires.output ∙ ap output turned;
      records_fit = omega arith;
      output_fit = omega arith;
      records_room = omega arith;
      output_room = omega arith;
    })
