-- The lists, the orders and the slab agree: after an entry more, after one less, and after a source has its value.
use Rattle.std.proofs.Common.{◌≡◌, ◌≢◌, ℕ, ◌+◌, ◌-◌, ◌<◌, ◌≤◌, nat_lt, Bool, true, false, cond, List}
use Rattle.std.proofs.Common.{length, Option, Some, None, refl, sym, ap, ◌∙◌, subst, inl, inr, arith}
use Rattle.std.specs.Prelude.{slice_index, if◌then◌else◌}
use Rattle.std.proofs.lemmas.Bool.{cases_eq, cases_Bool}
use Rattle.std.proofs.lemmas.Bool.Decides.{nat_tests}
use Rattle.slab.specs.Slab.{Slab, get, Updates}
use Rattle.numbers.specs.Sizes.{most_queued, most_registers}
use Rattle.rv_instr.specs.declared.op.UnitKind.{UnitKind}
use Rattle.issue_queue.specs.{declared.entry.Entry.Entry}
use Rattle.issue_queue.specs.{declared.order.Ready.Ready, declared.parts.QueueParts.QueueParts}
use Rattle.issue_queue.specs.{Entry.has_values, Entry.can_issue}
use Rattle.issue_queue.specs.{Order.in_order, Ready.order_of, Order.without}
use Rattle.issue_queue.specs.Waiting.{nodes, AreLists, IsLinked, with_register}
use Rattle.issue_queue.specs.Parts.{key_of, side_of, waits_of, waits_at, IsOrder, IsSound}
use Rattle.issue_queue.specs.Parts.{NoneHasNumber, ready_of}
use Rattle.issue_queue.proofs.Lists.{all_of, at_all}
use Rattle.issue_queue.proofs.Following.{below, with_same, with_other}
use Rattle.issue_queue.proofs.Ordered.{HasNone, none_there, one_that_cannot, order-stays, order-more, order-less}

-- ---- Lists of which no link is written

pub links_same : (next before : ℕ → ℕ) (waits waits2 : ℕ → Option ℕ) → ((n : ℕ) → n < nodes → waits n ≡ waits2 n)
    → AreLists next before waits → AreLists next before waits2
links_same next before waits waits2 same lists r inside =
    let l = lists r inside in
    record {
      members = l.members;
      follow = l.follow;
      distinct = l.distinct;
      only = all_of (λ n. waits2 n ≡ Some r) l.members (λ n there.
          let lt = at_all (λ m. m < nodes) l.members n (below next before (nodes + r) l.members l.follow) there in
          sym (same n lt) ∙ at_all (λ m. waits m ≡ Some r) l.members n l.only there);
      each = λ n lt is. l.each n lt (same n lt ∙ is);
    }

-- a node that is in no list, before and afterwards
pub links_but : (next before : ℕ → ℕ) (waits : ℕ → Option ℕ) (node : ℕ) (o : Option ℕ)
    → ((r : ℕ) → r < most_registers → waits node ≢ Some r) → ((r : ℕ) → r < most_registers → o ≢ Some r)
    → AreLists next before waits → AreLists next before (with_register waits node o)
links_but next before waits node o was now lists r inside =
    let l = lists r inside in
    record {
      members = l.members;
      follow = l.follow;
      distinct = l.distinct;
      only = all_of (λ n. with_register waits node o n ≡ Some r) l.members (λ n there.
          let is = at_all (λ m. waits m ≡ Some r) l.members n l.only there in
          let other : n ≢ node = λ same. was r inside (ap waits (sym same) ∙ is) in
          with_other waits node o n other ∙ is);
      each = λ n lt is.
          let other : n ≢ node =
          λ same. now r inside (sym (with_same waits node o) ∙ ap (with_register waits node o) (sym same) ∙ is) in
          l.each n lt (sym (with_other waits node o n other) ∙ is);
    }

-- ---- The nodes of a slab

pub at_first : (s : Slab Entry) (k : ℕ) → k < most_queued → waits_at s k ≡ waits_of 0 (get s k)
at_first s k low = let is : nat_lt k most_queued ≡ true = grind (arith, nat_tests, low) in rw is refl

pub at_second : (s : Slab Entry) (k : ℕ) → waits_at s (k + most_queued) ≡ waits_of 1 (get s k)
at_second s k =
    let is : nat_lt (k + most_queued) most_queued ≡ false = grind (arith, nat_tests) in
    let back : k + most_queued - most_queued ≡ k = omega arith in
    rw (is, back) refl

pub key-below : (n : ℕ) → n < nodes → key_of n < most_queued
key-below n inside =
    elim (cases_Bool (nat_lt n most_queued)) [
      | inl is ↦ let low : n < most_queued = grind (arith, nat_tests, is) in rw is low
      | inr is ↦
          let high : n - most_queued < most_queued = omega (arith, inside) in
          rw is high
    ]

pub side-below : (n : ℕ) → side_of n < 2
side-below n =
    elim (cases_Bool (nat_lt n most_queued)) [ inl is ↦ rw is (omega arith) | inr is ↦ rw is (omega arith) ]

module _ (old new : Slab Entry) (key : ℕ) (inside : key < most_queued) (slot : Option Entry)
    (updates : Updates old new key slot) where
  -- what both nodes of a key wait for is what the slot does
  pub waits_after : (n : ℕ) → n < nodes
      → with_register (with_register (waits_at old) key (waits_of 0 slot)) (key + most_queued) (waits_of 1 slot) n
      ≡ waits_at new n
  waits_after n lt =
      elim (cases_eq n (key + most_queued)) [
        | inl same ↦
            ap (with_register (with_register (waits_at old) key (waits_of 0 slot)) (key + most_queued) (waits_of 1 slot)) same
            ∙ with_same (with_register (waits_at old) key (waits_of 0 slot)) (key + most_queued) (waits_of 1 slot)
            ∙ ap (waits_of 1) (sym updates.changed) ∙ sym (at_second new key) ∙ ap (waits_at new) (sym same)
        | inr far ↦
            with_other (with_register (waits_at old) key (waits_of 0 slot)) (key + most_queued) (waits_of 1 slot) n far
            ∙ elim (cases_eq n key) [
              | inl same ↦
                  ap (with_register (waits_at old) key (waits_of 0 slot)) same
                  ∙ with_same (waits_at old) key (waits_of 0 slot)
                  ∙ ap (waits_of 0) (sym updates.changed) ∙ sym (at_first new key inside) ∙ ap (waits_at new) (sym same)
              | inr other ↦
                  with_other (waits_at old) key (waits_of 0 slot) n other
                  ∙ ap (waits_of (side_of n)) (sym (updates.others (key_of n) (elsewhere n far other)))
            ]
      ]
    where
      elsewhere : (n : ℕ) → n ≢ key + most_queued → n ≢ key → key_of n ≢ key
      elsewhere n far other =
          elim (cases_Bool (nat_lt n most_queued)) [
            | inl is ↦ rw is other
            | inr is ↦
                let high : most_queued ≤ n = grind (arith, nat_tests, is) in
                rw is (λ same. far (omega (arith, high, same)))
          ]

-- ---- The orders

pub can_parts : (k : UnitKind) (e : Entry) → has_values e ≡ false → can_issue k e ≡ false
can_parts k e none = rw none (grind arith)

-- an order after an entry was offered to it, and after one was withdrawn
module _ (k : UnitKind) (old new : Slab Entry) (order : List Ready) (is : IsOrder k old order) (key : ℕ) where
  pub offered : (e : Entry) → Updates old new key (Some e) → HasNone k (get old key)
      → ((j : ℕ) (f : Entry) → j ≢ key → get old j ≡ Some f → f.seq ≢ e.seq) → (now : List Ready)
      → now ≡ (if can_issue k e then in_order (ready_of key e) order else order) → IsOrder k new now
  offered e updates none apart now now_is =
      subst (IsOrder k new) (sym now_is) (by_test (can_issue k e) refl)
    where
      by_test : (b : Bool) → can_issue k e ≡ b → IsOrder k new (cond b (in_order (ready_of key e) order) order)
      by_test true can = order-more k old new order is key (Some e) updates e refl can none apart
      by_test false cannot =
          order-stays k old new order is key (Some e) updates none (one_that_cannot k e cannot)

  pub withdrawn : (e : Entry) → Updates old new key None → get old key ≡ Some e
      → ((j : ℕ) (f : Entry) → get old j ≡ Some f → f.seq ≡ e.seq → j ≡ key) → (now : List Ready)
      → now ≡ (if can_issue k e then without e.seq order else order) → IsOrder k new now
  withdrawn e updates was apart now now_is =
      subst (IsOrder k new) (sym now_is) (by_test (can_issue k e) refl)
    where
      by_test : (b : Bool) → can_issue k e ≡ b → IsOrder k new (cond b (without e.seq order) order)
      by_test true can = order-less k old new order is key None updates e refl was apart
      by_test false cannot =
          order-stays k old new order is key None updates
          (subst (HasNone k) (sym was) (one_that_cannot k e cannot)) (none_there k)

-- ---- The parts

pub some_same : (a b : Entry) → Some a ≡ Some b → a ≡ b
some_same a b same = cc

pub some_none : (a : Entry) → Some a ≢ None
some_none a same = cc

-- for what the sources of an entry wait, and the second one once the first no longer does
pub first_waits : (parts : QueueParts) → IsSound parts → (key : ℕ) (e : Entry) → get parts.entries key ≡ Some e
    → waits_at parts.entries key ≡ waits_of 0 (Some e)
first_waits parts sound key e was = at_first parts.entries key (sound.placed key e was).below ∙ ap (waits_of 0) was

pub second_waits : (parts : QueueParts) → IsSound parts → (key : ℕ) (e : Entry) → get parts.entries key ≡ Some e
    → with_register (waits_at parts.entries) key None (key + most_queued) ≡ waits_of 1 (Some e)
second_waits parts sound key e was =
    let far : key + most_queued ≢ key = λ is. omega (arith, is) in
    with_other (waits_at parts.entries) key None (key + most_queued) far ∙ at_second parts.entries key
    ∙ ap (waits_of 1) was

-- what the parts are after a call
module _ (old new : QueueParts) (sound : IsSound old) (room : new.entries.capacity ≡ old.entries.capacity) where
  pub added_sound : (key : ℕ) (e : Entry) → get old.entries key ≡ None
      → Updates old.entries new.entries key (Some e) → key < most_queued → length e.sources ≡ 2
      → NoneHasNumber e.seq old.entries
      → IsLinked new.waiting
      (with_register (with_register (waits_at old.entries) key (waits_of 0 (Some e))) (key + most_queued)
      (waits_of 1 (Some e)))
      → ((k : UnitKind) → order_of k new.ready
      ≡ (if can_issue k e then in_order (ready_of key e) (order_of k old.ready) else order_of k old.ready))
      → IsSound new
  added_sound key e vacant updates inside two none linked orders = record {
    placed = λ k f at.
        elim (cases_eq k key) [
          | inl same ↦
              let it : e ≡ f = some_same e f (sym updates.changed ∙ ap (get new.entries) (sym same) ∙ at) in
              record {
                below = subst (λ n. n < most_queued) (sym same) inside;
                two = subst (λ (z : Entry). length z.sources ≡ 2) it two;
              }
          | inr other ↦ sound.placed k f (sym (updates.others k other) ∙ at)
        ];
    apart = λ j k f g at_j at_k level.
        elim (cases_eq j key) [
          | inl same_j ↦
              let it : e ≡ f = some_same e f (sym updates.changed ∙ ap (get new.entries) (sym same_j) ∙ at_j) in
              elim (cases_eq k key) [
                | inl same_k ↦ same_j ∙ sym same_k
                | inr other_k ↦
                    absurd (none k g (sym (updates.others k other_k) ∙ at_k)
                    (sym level ∙ ap (λ (z : Entry). z.seq) (sym it)))
              ]
          | inr other_j ↦
              elim (cases_eq k key) [
                | inl same_k ↦
                    let it : e ≡ g = some_same e g (sym updates.changed ∙ ap (get new.entries) (sym same_k) ∙ at_k) in
                    absurd (none j f (sym (updates.others j other_j) ∙ at_j)
                    (level ∙ ap (λ (z : Entry). z.seq) (sym it)))
                | inr other_k ↦
                    sound.apart j k f g (sym (updates.others j other_j) ∙ at_j) (sym (updates.others k other_k) ∙ at_k)
                    level
              ]
        ];
    waiting = links_same (slice_index new.waiting.next) (slice_index new.waiting.before) _ (waits_at new.entries)
        (waits_after old.entries new.entries key inside (Some e) updates) linked;
    ready = λ k.
        offered k old.entries new.entries (order_of k old.ready) (sound.ready k) key e updates
        (subst (HasNone k) (sym vacant) (none_there k)) (λ j f other at. none j f at) (order_of k new.ready) (orders k);
    capacity = subst (λ n. n ≤ most_queued) (sym room) sound.capacity;
  }

  pub gone_sound : (key : ℕ) (e : Entry) → get old.entries key ≡ Some e
      → Updates old.entries new.entries key None
      → IsLinked new.waiting
      (with_register (with_register (waits_at old.entries) key None) (key + most_queued) None)
      → ((k : UnitKind) → order_of k new.ready
      ≡ (if can_issue k e then without e.seq (order_of k old.ready) else order_of k old.ready))
      → IsSound new
  gone_sound key e was updates linked orders =
      let before : (k : ℕ) (f : Entry) → get new.entries k ≡ Some f → get old.entries k ≡ Some f =
      λ k f at.
      let other : k ≢ key = λ same. some_none f (sym at ∙ ap (get new.entries) same ∙ updates.changed) in
      sym (updates.others k other) ∙ at in
      record {
        placed = λ k f at. sound.placed k f (before k f at);
        apart = λ j k f g at_j at_k level. sound.apart j k f g (before j f at_j) (before k g at_k) level;
        waiting = links_same (slice_index new.waiting.next) (slice_index new.waiting.before) _ (waits_at new.entries)
            (waits_after old.entries new.entries key (sound.placed key e was).below None updates) linked;
        ready = λ k.
            withdrawn k old.entries new.entries (order_of k old.ready) (sound.ready k) key e updates was
            (λ j f at level. sound.apart j key f e at was level) (order_of k new.ready) (orders k);
        capacity = subst (λ n. n ≤ most_queued) (sym room) sound.capacity;
      }
