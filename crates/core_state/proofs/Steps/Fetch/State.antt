-- A state's fetch: the hart that its parts choose is the one to fetch by the history, and the state is a core's after
-- it.
use Rattle.std.specs.Prelude.{◌≡◌, ℕ, ◌+◌, ◌<◌, ◌≤◌, Bool, true, List, [], ◌∷◌, ◌++◌, Option, Some, None, length}
use Rattle.std.specs.Prelude.{slice_index_or}
use Rattle.std.proofs.Common.{◌∙◌, sym, subst, ap, arith}
use Rattle.elf_image.specs.Image.{word_now}
use Rattle.events.specs.{History.EventList, declared.event.Event.Event}
use Rattle.events.specs.declared.event.Event.TheVariants.{Fetch, Decode, Rename, Issue, Complete, Drop, Retire, Refetch}
use Rattle.smt_model.specs.{Fates.fetches, Fetching.choice, Picture.Picture, Picture.picture, Rules.refused}
use Rattle.smt_model.specs.{Jobs.is_actor, Memory.byte_at, Steps.IsFetch}
use Rattle.smt_model.proofs.{Allowed.fetch_allowed, Fates.Moves.same_number-is}
use Rattle.smt_laws.proofs.Steps.Fetch.{steps-Fetch}
use Rattle.rv_instr.specs.{Decode.op_of_word, declared.op.Op.Op}
use Rattle.core_parts.specs.Agree.{HartAgrees, PartsAgree, From, KeepsSizes}
use Rattle.core_state.specs.{Answers.CanFetch, Answers.fetched_at, View.CoreView}
use Rattle.core_parts.specs.{declared.hart.HartState.HartState}
use Rattle.core_parts.specs.{declared.parts.Parts.Parts, declared.slot.Slot.Slot}
use Rattle.core_steps.specs.{declared.point.FetchPoint.FetchPoint}
use Rattle.core_state.specs.{declared.state.State.TheInside.Inside}
use Rattle.core_steps.specs.Fetch.{next_hart, slot_at, Fetches, fetched_of}
use Rattle.core_state.specs.State.{IsCore, view_of, past_of, setup_in}
use Rattle.core_state.proofs.Steps.Fetch.Rules.{choice-is, fetch_can, fetch_from, CannotFetch}
use Rattle.core_state.proofs.{Steps.Invariant.core_fetched, Views.Viewed.actor_in, Views.Viewed.short_in}

-- The bytes that memory has by the history.
abbrev pub bytes_of : Inside → ℕ → ℕ
bytes_of i = byte_at (setup_in i) (past_of i)

choice_in : (i : Inside) → IsCore i → next_hart i.parts.harts.items i.last ≡ choice (setup_in i) (past_of i)
choice_in i core = choice-is (setup_in i) (past_of i) i.parts.harts.items i.last core.agrees.harts core.harts core.last

pub none_chosen : (i : Inside) → IsCore i → (actor : ℕ) → next_hart i.parts.harts.items i.last ≡ None
    → CannotFetch (setup_in i) (past_of i) actor
none_chosen i core actor none = λ is_one h named.
    let both : Some h ≡ None = sym named ∙ (sym (choice_in i core) ∙ none) in absurd (cc)

-- What the code has found is where the next fetch is.
pub found_can : (i : Inside) → IsCore i → (v : CoreView) → view_of i ≡ v
    → (actor h : ℕ) (tested : Bool) (harts : List HartState) (x : HartState)
    (word : Option ℕ) → tested ≡ is_actor v.setup actor → tested ≡ true → harts ≡ i.parts.harts.items
    → Some h ≡ next_hart harts i.last
    → h < length harts → x ≡ slice_index_or i.parts.harts.items h x
    → word ≡ word_now i.image (bytes_of i) x.fetch_pc
    → CanFetch v.setup v.past actor (record { hart = h; pc = x.fetch_pc; word = word })
found_can i core v view actor h tested harts x word test yes_one all named inside here is_word =
    let there = subst (λ hs. h < length hs) all inside in
    let agrees = subst (HartAgrees (picture (setup_in i) (past_of i)) h) (sym here) (core.agrees.harts h x there) in
    subst (λ (w : CoreView). CanFetch w.setup w.past actor (record { hart = h; pc = x.fetch_pc; word = word })) view
    (fetch_can (setup_in i) (past_of i) actor (record { hart = h; pc = x.fetch_pc; word = word })
    (actor_in i v view actor (sym test ∙ yes_one)) (record {
      chosen = sym (choice_in i core) ∙ (ap (λ hs. next_hart hs i.last) (sym all) ∙ sym named);
      pc = agrees.fetch_pc;
      word = is_word;
    }))

-- ---- The step

-- The number that comes next is the one that the state counts.
pub fetched_is : (i : Inside) → IsCore i → (v : CoreView) → view_of i ≡ v → i.fetched ≡ fetches v.past
fetched_is i core v view = subst (λ (w : CoreView). i.fetched ≡ fetches w.past) view core.fetched

fetch_ok : (i : Inside) → IsCore i → (v : CoreView) → view_of i ≡ v → (actor : ℕ) (point : FetchPoint) (predicted : ℕ)
    → refused v.setup v.past (fetched_at actor point predicted v.past) ≡ None
    → refused (setup_in i) (past_of i) (Fetch actor point.hart i.fetched point.pc point.word predicted) ≡ None
fetch_ok i core v view actor point predicted ok =
    let here = subst (λ (w : CoreView). refused w.setup w.past (fetched_at actor point predicted w.past) ≡ None)
    (sym view) ok in
    subst (λ n. refused (setup_in i) (past_of i) (Fetch actor point.hart n point.pc point.word predicted) ≡ None)
    (sym core.fetched) here

-- The code that was decoded has the word's instruction at the pc that is fetched.
pub op_of_point : (i : Inside) → IsCore i → (v : CoreView) → view_of i ≡ v → (actor : ℕ) (point : FetchPoint) (predicted : ℕ)
    → (op : Op) → op ≡ op_of_word (word_now i.image (bytes_of i) point.pc)
    → refused v.setup v.past (fetched_at actor point predicted v.past) ≡ None → op ≡ op_of_word point.word
op_of_point i core v view actor point predicted op is ok =
    let here = fetch_ok i core v view actor point predicted ok in
    let word_is : point.word ≡ word_now i.image (bytes_of i) point.pc =
    same_number-is point.word (word_now i.image (bytes_of i) point.pc)
    (fetch_allowed (setup_in i) (past_of i) actor point.hart i.fetched point.pc point.word predicted here).word_is in
    is ∙ ap op_of_word (sym word_is)

pub fetch_starts : (i : Inside) → IsCore i → (v : CoreView) → view_of i ≡ v
    → (actor : ℕ) (point : FetchPoint) (predicted h : ℕ) (slot : Slot)
    → h ≡ point.hart → slot ≡ slot_at i.fetched point predicted → length v.past < v.limit
    → refused v.setup v.past (fetched_at actor point predicted v.past) ≡ None
    → From i.parts h (λ p q. Fetches p q h slot)
fetch_starts i core v view actor point predicted h slot of_hart is room ok =
    rw (of_hart, is)
    (fetch_from (setup_in i) (past_of i) core.legal i.parts core.agrees core.harts actor point.hart
    (slot_at i.fetched point predicted)
    (short_in i v view core room) (fetch_ok i core v view actor point predicted ok))

pub fetch_core : (i : Inside) → IsCore i → (v : CoreView) → view_of i ≡ v
    → (actor : ℕ) (point : FetchPoint) (predicted : ℕ)
    → (h : ℕ) (slot : Slot) (e : Event) → h ≡ point.hart → slot ≡ slot_at i.fetched point predicted
    → e ≡ Fetch actor point.hart slot.seq point.pc point.word predicted
    → refused v.setup v.past (fetched_at actor point predicted v.past) ≡ None → (parts : Parts) (history : EventList)
    → ((p q : Picture) → PartsAgree p i.parts → IsFetch p q slot.seq (fetched_of h slot) → PartsAgree q parts)
    → KeepsSizes i.parts parts → history ≡ record i.history { items = i.history.items ++ e ∷ [] }
    → IsCore (record i { parts = parts; last = Some point.hart; fetched = i.fetched + 1; history = history })
fetch_core i core v view actor point predicted h slot e of_hart is told ok parts history kept sizes longer =
    let here = fetch_ok i core v view actor point predicted ok in
    let told_is : e ≡ Fetch actor point.hart i.fetched point.pc point.word predicted =
    told ∙ ap (λ (s : Slot). Fetch actor point.hart s.seq point.pc point.word predicted) is in
    let agrees : (p q : Picture) → PartsAgree p i.parts
    → IsFetch p q i.fetched (fetched_of point.hart (slot_at i.fetched point predicted))
    → PartsAgree q parts =
    subst (λ (s : Slot). (p q : Picture) → PartsAgree p i.parts → IsFetch p q s.seq (fetched_of point.hart s)
    → PartsAgree q parts) is
    (subst (λ g. (p q : Picture) → PartsAgree p i.parts → IsFetch p q slot.seq (fetched_of g slot) → PartsAgree q parts)
    of_hart kept) in
    core_fetched i parts history actor point.hart point.pc point.word predicted core (record {
      allowed = here;
      agrees = agrees (picture (setup_in i) (past_of i))
          (picture (setup_in i) (Fetch actor point.hart i.fetched point.pc point.word predicted ∷ past_of i))
          core.agrees
          (steps-Fetch (setup_in i) (past_of i) core.legal actor point.hart i.fetched point.pc point.word
          predicted here);
      sizes = sizes;
    }) (longer ∙ ap (λ (f : Event). record i.history { items = i.history.items ++ f ∷ [] }) told_is)

fetches-within : (past : List Event) → fetches past ≤ length past
fetches-within [] = omega arith
fetches-within (Fetch actor hart seq pc word predicted ∷ past) = omega (arith, fetches-within past)
fetches-within (Decode actor seq ∷ past) = omega (arith, fetches-within past)
fetches-within (Rename actor seq phys ∷ past) = omega (arith, fetches-within past)
fetches-within (Issue actor seq ∷ past) = omega (arith, fetches-within past)
fetches-within (Complete actor seq outcome ∷ past) = omega (arith, fetches-within past)
fetches-within (Drop actor seq ∷ past) = omega (arith, fetches-within past)
fetches-within (Retire actor seq effect ∷ past) = omega (arith, fetches-within past)
fetches-within (Refetch actor seq ∷ past) = omega (arith, fetches-within past)

pub fetched_few : (i : Inside) → IsCore i → length (past_of i) < 16777216 → i.fetched < 16777216
fetched_few i core short = let count = core.fetched in omega (arith, fetches-within (past_of i))
