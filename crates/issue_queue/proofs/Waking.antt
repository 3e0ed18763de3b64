use Rattle.std.proofs.Common.{◌≡◌, ◌≢◌, ℕ, zero, suc, ◌+◌, ◌-◌, ◌<◌, ◌≤◌, ◌==◌, nat_lt, true, false, List, [], ◌∷◌}
use Rattle.std.proofs.Common.{map, length, set, get_or, Option, Some, None, refl, sym, ap, ◌∙◌, subst, inl, inr, arith}
use Rattle.std.specs.Prelude.{slice_index, slice_index_or, if◌then◌else◌}
use Rattle.std.specs.{List.list_all, Option.option_map}
use Rattle.std.proofs.lemmas.Bool.{cases_eq, cases_Bool}
use Rattle.std.proofs.lemmas.Bool.Decides.{nat_tests}
use Rattle.std.proofs.lemmas.List.{get_or-set_same, get_or-set_other, length-set}
use Rattle.slab.specs.Slab.{Slab, get, Updates}
use Rattle.numbers.specs.Sizes.{most_queued, most_registers}
use Rattle.rv_instr.specs.declared.op.UnitKind.{UnitKind}
use Rattle.issue_queue.specs.{declared.entry.Source.Source, declared.entry.Source.TheVariants.Value}
use Rattle.issue_queue.specs.{declared.entry.Source.TheVariants.Waits, declared.entry.Entry.Entry}
use Rattle.issue_queue.specs.{declared.parts.QueueParts.QueueParts}
use Rattle.issue_queue.specs.{Entry.is_value, Entry.has_values, Entry.can_issue, Entry.woken_entry, Entry.woken_source}
use Rattle.issue_queue.specs.{Order.in_order, Ready.order_of}
use Rattle.issue_queue.specs.Waiting.{nodes, IsLinked, with_register}
use Rattle.issue_queue.specs.Parts.{key_of, side_of, register_of, waits_of, waits_at, IsPlaced, IsOrder, IsSound}
use Rattle.issue_queue.specs.Parts.{IsGiven, with_source, ready_of, listed_register}
use Rattle.issue_queue.proofs.Counting.{count_waiting, fewer_wait}
use Rattle.issue_queue.proofs.Following.{with_same, with_other, none_some}
use Rattle.issue_queue.proofs.Ordered.{HasNone, none_there, one_that_cannot, order-room}
use Rattle.issue_queue.proofs.Agreeing.{links_same, at_first, at_second, side-below, can_parts, offered, some_same}
use Rattle.issue_queue.proofs.Agreeing.{some_none}

-- ---- A source has its value

-- an entry one of whose sources waits isn't ready
waits_not_ready : (xs : List Source) (side r : ℕ) → register_of (slice_index_or xs side (Value 0)) ≡ Some r
    → list_all is_value xs ≡ false
waits_not_ready [] zero r waits = absurd cc
waits_not_ready [] (suc side) r waits = absurd cc
waits_not_ready (Value v ∷ xs) zero r waits = absurd cc
waits_not_ready (Waits w ∷ xs) zero r waits = refl
waits_not_ready (Value v ∷ xs) (suc side) r waits = waits_not_ready xs side r waits
waits_not_ready (Waits w ∷ xs) (suc side) r waits = refl

pub not_ready : (e : Entry) (side r : ℕ) → waits_of side (Some e) ≡ Some r → has_values e ≡ false
not_ready e side r waits = waits_not_ready e.sources side r waits

module _ (s new : Slab Entry) (node value : ℕ) (inside : node < nodes) (e : Entry) (two : length e.sources ≡ 2)
    (was : get s (key_of node) ≡ Some e)
    (updates : Updates s new (key_of node) (Some (with_source (side_of node) value e))) where
  -- nodes of one key are of two sides
  side_apart : (n : ℕ) → n < nodes → n ≢ node → key_of n ≡ key_of node → side_of n ≢ side_of node
  side_apart n lt other same =
      elim (cases_Bool (nat_lt n most_queued)) [
        | inl low ↦
            elim (cases_Bool (nat_lt node most_queued)) [
              | inl low_too ↦ absurd (other (sym (rw low refl) ∙ same ∙ rw low_too refl))
              | inr high ↦ rw (low, high) (λ is. omega (arith, is))
            ]
        | inr high ↦
            elim (cases_Bool (nat_lt node most_queued)) [
              | inl low ↦ rw (high, low) (λ is. omega (arith, is))
              | inr high_too ↦
                  let one : most_queued ≤ n = grind (arith, nat_tests, high) in
                  let two_high : most_queued ≤ node = grind (arith, nat_tests, high_too) in
                  let level : n - most_queued ≡ node - most_queued = sym (rw high refl) ∙ same ∙ rw high_too refl in
                  absurd (other (omega (arith, one, two_high, level)))
            ]
      ]

  pub waits_given : (n : ℕ) → n < nodes → with_register (waits_at s) node None n ≡ waits_at new n
  waits_given n lt =
      let d = Value 0 in
      elim (cases_eq n node) [
        | inl same ↦
            let short : side_of node < length e.sources = omega (arith, side-below node, two) in
            ap (with_register (waits_at s) node None) same ∙ with_same (waits_at s) node None
            ∙ sym (ap register_of (get_or-set_same e.sources (side_of node) (Value value) d short))
            ∙ ap (waits_of (side_of node)) (sym updates.changed) ∙ ap (waits_at new) (sym same)
        | inr other ↦
            with_other (waits_at s) node None n other
            ∙ elim (cases_eq (key_of n) (key_of node)) [
              | inl same ↦
                  ap (λ k. waits_of (side_of n) (get s k)) same ∙ ap (waits_of (side_of n)) was
                  ∙ sym (ap register_of
                  (get_or-set_other e.sources (side_of node) (side_of n) (Value value) d (side_apart n lt other same)))
                  ∙ ap (waits_of (side_of n)) (sym updates.changed) ∙ ap (λ k. waits_of (side_of n) (get new k)) (sym same)
              | inr far ↦ ap (waits_of (side_of n)) (sym (updates.others (key_of n) far))
            ]
      ]

module _ (old new : QueueParts) (sound : IsSound old) (room : new.entries.capacity ≡ old.entries.capacity)
    (node register value : ℕ) (inside : node < nodes) (waits : waits_at old.entries node ≡ Some register) (e : Entry)
    (was : get old.entries (key_of node) ≡ Some e)
    (updates : Updates old.entries new.entries (key_of node) (Some (with_source (side_of node) value e))) where
  cannot : (k : UnitKind) → can_issue k e ≡ false
  cannot k =
      can_parts k e (not_ready e (side_of node) register (ap (waits_of (side_of node)) (sym was) ∙ waits))

  pub given_sound : IsLinked new.waiting (with_register (waits_at old.entries) node None)
      → ((k : UnitKind) → order_of k new.ready
      ≡ (if can_issue k (with_source (side_of node) value e)
      then in_order (ready_of (key_of node) (with_source (side_of node) value e)) (order_of k old.ready)
      else order_of k old.ready))
      → IsSound new
  given_sound linked orders =
      let key = key_of node in
      let given = with_source (side_of node) value e in
      let at_key = sound.placed key e was in
      record {
        placed = λ k f at.
            elim (cases_eq k key) [
              | inl same ↦
                  let it : given ≡ f =
                  some_same given f (sym updates.changed ∙ ap (get new.entries) (sym same) ∙ at) in
                  record {
                    below = subst (λ n. n < most_queued) (sym same) at_key.below;
                    two = subst (λ (z : Entry). length z.sources ≡ 2) it
                        (length-set e.sources (side_of node) (Value value) ∙ at_key.two);
                  }
              | inr other ↦ sound.placed k f (sym (updates.others k other) ∙ at)
            ];
        apart = λ j k f g at_j at_k level.
            let f_was = was_before j f at_j in
            let g_was = was_before k g at_k in
            sound.apart j k f_was.0 g_was.0 f_was.1 g_was.1 (f_was.2 ∙ level ∙ sym g_was.2);
        waiting = links_same (slice_index new.waiting.next) (slice_index new.waiting.before) _ (waits_at new.entries)
            (waits_given old.entries new.entries node value inside e at_key.two was updates) linked;
        ready = λ k.
            offered k old.entries new.entries (order_of k old.ready) (sound.ready k) key given updates
            (subst (HasNone k) (sym was) (one_that_cannot k e (cannot k)))
            (λ j f other at level. other (sound.apart j key f e at was level)) (order_of k new.ready) (orders k);
        capacity = subst (λ n. n ≤ most_queued) (sym room) sound.capacity;
      }
    where
      was_before : (k : ℕ) (f : Entry) → get new.entries k ≡ Some f
          → (g : Entry) × (get old.entries k ≡ Some g) × (g.seq ≡ f.seq)
      was_before k f at =
          elim (cases_eq k (key_of node)) [
            | inl same ↦
                let it : with_source (side_of node) value e ≡ f =
                some_same (with_source (side_of node) value e) f
                (sym updates.changed ∙ ap (get new.entries) (sym same) ∙ at) in
                (e, ap (get old.entries) same ∙ was, ap (λ (z : Entry). z.seq) it)
            | inr other ↦ (f, sym (updates.others k other) ∙ at, refl)
          ]

-- there is room in each order for an entry that stands in none
pub given_room : (old : QueueParts) → IsSound old → (key r side : ℕ) (e : Entry) → get old.entries key ≡ Some e
    → waits_of side (Some e) ≡ Some r → (k : UnitKind) → length (order_of k old.ready) < most_queued
given_room old sound key r side e was waits k =
    order-room k old.entries (order_of k old.ready) (sound.ready k) sound.placed key (sound.placed key e was).below
    (subst (HasNone k) (sym was) (one_that_cannot k e (can_parts k e (not_ready e side r waits))))

pub added_room : (old : QueueParts) → IsSound old → (key : ℕ) → key < most_queued → get old.entries key ≡ None
    → (k : UnitKind) → length (order_of k old.ready) < most_queued
added_room old sound key inside vacant k =
    order-room k old.entries (order_of k old.ready) (sound.ready k) sound.placed key inside
    (subst (HasNone k) (sym vacant) (none_there k))

-- ---- A wake

waken_set : (register value : ℕ) (xs : List Source) (side : ℕ)
    → register_of (slice_index_or xs side (Value 0)) ≡ Some register
    → map (woken_source register value) (set xs side (Value value)) ≡ map (woken_source register value) xs
waken_set register value [] zero waits = absurd cc
waken_set register value [] (suc side) waits = absurd cc
waken_set register value (Value v ∷ xs) zero waits = absurd cc
waken_set register value (Waits w ∷ xs) zero waits =
    let same : w ≡ register = cc in
    let is : (w == register) ≡ true = grind (arith, nat_tests, same) in
    rw is refl
waken_set register value (x ∷ xs) (suc side) waits =
    ap (λ ys. woken_source register value x ∷ ys) (waken_set register value xs side waits)

-- a source that has its value wakes to what it woke to before
pub waken_given : (register value side : ℕ) (e : Entry) → waits_of side (Some e) ≡ Some register
    → woken_entry register value (with_source side value e) ≡ woken_entry register value e
waken_given register value side e waits =
    ap (λ (xs : List Source). record e { sources = xs }) (waken_set register value e.sources side waits)

stays_asleep : (register value : ℕ) (x : Source) → register_of x ≢ Some register → woken_source register value x ≡ x
stays_asleep register value (Value v) other = refl
stays_asleep register value (Waits w) other =
    let far : w ≢ register = λ same. other (ap Some same) in
    let is : (w == register) ≡ false = grind (arith, nat_tests, far) in
    rw is refl

both_asleep : (register value : ℕ) (xs : List Source) → length xs ≡ 2
    → register_of (slice_index_or xs 0 (Value 0)) ≢ Some register
    → register_of (slice_index_or xs 1 (Value 0)) ≢ Some register → map (woken_source register value) xs ≡ xs
both_asleep register value [] two first second = absurd (omega (arith, two))
both_asleep register value (a ∷ []) two first second = absurd (omega (arith, two))
both_asleep register value (a ∷ b ∷ []) two first second =
    λ i. stays_asleep register value a first i ∷ stays_asleep register value b second i ∷ []
both_asleep register value (a ∷ b ∷ c ∷ xs) two first second = absurd (omega (arith, two))

-- where no node waits for the register, a wake changes nothing
pub none_wakes : (s : Slab Entry) (register value : ℕ)
    → ((k : ℕ) (e : Entry) → get s k ≡ Some e → IsPlaced k e)
    → ((n : ℕ) → n < nodes → waits_at s n ≢ Some register) → (k : ℕ)
    → option_map (woken_entry register value) (get s k) ≡ get s k
none_wakes s register value placed none k = by_slot (get s k) refl
  where
    by_slot : (o : Option Entry) → get s k ≡ o → option_map (woken_entry register value) o ≡ o
    by_slot None is = refl
    by_slot (Some e) is =
        let at = placed k e is in
        let low = at.below in
        let first : waits_of 0 (Some e) ≢ Some register =
        λ waits. none k (omega (arith, low)) (at_first s k low ∙ ap (waits_of 0) is ∙ waits) in
        let second : waits_of 1 (Some e) ≢ Some register =
        λ waits. none (k + most_queued) (omega (arith, low)) (at_second s k ∙ ap (waits_of 1) is ∙ waits) in
        ap (λ (xs : List Source). Some (record e { sources = xs }))
        (both_asleep register value e.sources at.two first second)

-- what is given to a source that waits leaves what a wake makes of each entry
pub given_wakes : (s new : Slab Entry) (node register value : ℕ) → waits_at s node ≡ Some register
    → IsGiven node value s new → (k : ℕ)
    → option_map (woken_entry register value) (get new k) ≡ option_map (woken_entry register value) (get s k)
given_wakes s new node register value waits given k =
    elim (cases_eq k (key_of node)) [
      | inl same ↦
          ap (λ j. option_map (woken_entry register value) (get new j)) same
          ∙ ap (option_map (woken_entry register value)) given.updates.changed
          ∙ ap Some (waken_given register value (side_of node) given.entry
          (ap (waits_of (side_of node)) (sym given.was) ∙ waits))
          ∙ ap (option_map (woken_entry register value)) (sym given.was)
          ∙ ap (λ j. option_map (woken_entry register value) (get s j)) (sym same)
      | inr other ↦ ap (option_map (woken_entry register value)) (given.updates.others k other)
    ]

pub given_fewer : (s new : Slab Entry) (node register value : ℕ) → node < nodes → waits_at s node ≡ Some register
    → ((k : ℕ) (e : Entry) → get s k ≡ Some e → IsPlaced k e) → IsGiven node value s new
    → count_waiting new register < count_waiting s register
given_fewer s new node register value inside waits placed given =
    let points =
    waits_given s new node value inside given.entry (placed (key_of node) given.entry given.was).two given.was given.updates in
    fewer_wait s new register node inside waits (sym (points node inside) ∙ with_same (waits_at s) node None)
    (λ i lt other. sym (points i lt) ∙ with_other (waits_at s) node None i other)

-- ---- An empty slab

pub empty_sound : (parts : QueueParts) → parts.entries.slots ≡ [] → parts.entries.capacity ≤ most_queued
    → IsLinked parts.waiting (λ n. None) → ((kind : UnitKind) → order_of kind parts.ready ≡ []) → IsSound parts
empty_sound parts empty few linked orders =
    let none : (k : ℕ) → get parts.entries k ≡ None =
    λ k. ap (λ (xs : List (Option Entry)). slice_index_or xs k None) empty ∙ past k in
    record {
      placed = λ k e at. absurd (some_none e (sym at ∙ none k));
      apart = λ j k e f at_j at_k level. absurd (some_none e (sym at_j ∙ none j));
      waiting = links_same (slice_index parts.waiting.next) (slice_index parts.waiting.before) (λ n. None)
          (waits_at parts.entries) (λ n lt. sym (ap (waits_of (side_of n)) (none (key_of n)))) linked;
      ready = λ kind.
          subst (IsOrder kind parts.entries) (sym (orders kind))
          (record { rising = tt; only = tt; each = λ k e at can. absurd (some_none e (sym at ∙ none k)) });
      capacity = few;
    }
  where
    past : (k : ℕ) → get_or {A = Option Entry} [] k None ≡ None
    past zero = refl
    past (suc k) = refl

-- ---- Registers that have a list

pub listed-some : (source : Source) (r : ℕ) → Some r ≡ listed_register source
    → (register_of source ≡ Some r) × (r < most_registers)
listed-some (Value v) r is = absurd cc
listed-some (Waits w) r is =
    elim (cases_Bool (nat_lt w most_registers)) [
      | inl low ↦
          let some : Some r ≡ Some w = is ∙ rw low refl in
          let same : w ≡ r = cc in
          let inside : w < most_registers = grind (arith, nat_tests, low) in
          (ap Some same, omega (arith, inside, same))
      | inr high ↦
          let none : Some r ≡ None = is ∙ rw high refl in
          absurd cc
    ]

pub listed-none : (source : Source) → None ≡ listed_register source → (r : ℕ) → r < most_registers
    → register_of source ≢ Some r
listed-none (Value v) is r known waits = none_some r waits
listed-none (Waits w) is r known waits =
    let same : w ≡ r = cc in
    let low : nat_lt w most_registers ≡ true = grind (arith, nat_tests, known, same) in
    let some : None ≡ Some w = is ∙ rw low refl in
    none_some w some
