use Rattle.std.proofs.Common.{◌≡◌, ◌≢◌, ℕ, suc, ◌+◌, ◌<◌, ◌≤◌, ◌==◌, Bool, true, false, List, [], ◌∷◌}
use Rattle.std.proofs.Common.{map, filter, find, length, Option, Some, None, is_some, refl, sym, ap, ◌∙◌, subst, inl, inr, arith}
use Rattle.std.specs.Prelude.{IsSome, IfSome, IfNone}
use Rattle.std.proofs.lemmas.Bool.{cases_eq, cases_Bool, false≢true}
use Rattle.std.proofs.lemmas.Bool.Decides.{nat_tests}
use Rattle.slab.specs.Slab.{Slab, get, slab_len}
use Rattle.slab.proofs.SlabLemmas.{ContainsKey-within}
use Rattle.rv_instr.specs.declared.op.UnitKind.{UnitKind}
use Rattle.issue_queue.specs.{declared.entry.Entry.Entry, Entry.can_issue, Lists.Stands}
use Rattle.issue_queue.specs.Queue.{AreEntriesRising, has_number, inserted_entry, first_ready}
use Rattle.issue_queue.specs.Parts.{NoneHasNumber, IsOldestAt, NoneReady, HasNumberAt}
use Rattle.issue_queue.specs.{Parts.IsSound, declared.parts.QueueParts.QueueParts, SlabQueue.by_number}
use Rattle.issue_queue.specs.SlabQueue.{IsQueue}
use Rattle.issue_queue.proofs.Rising.{IsRising-inserted}
use Rattle.issue_queue.proofs.Slots.{Stands-inserted, inserted_stands, others_stand, length-inserted, above}
use Rattle.issue_queue.proofs.Slots.{same_members, none_has, one_has, none_with, length-slots, AreApart, listed}
use Rattle.issue_queue.proofs.Slots.{rising, from_slab, in_slab, some_same, some_none}

-- ---- Which one is found

oldest_found : (kind : UnitKind) (e : Entry) (xs : List Entry) → AreEntriesRising xs → Stands e xs
    → can_issue kind e ≡ true → ((f : Entry) → Stands f xs → can_issue kind f ≡ true → e.seq ≤ f.seq)
    → first_ready kind xs ≡ Some e
oldest_found kind e [] rises there can oldest = absurd there
oldest_found kind e (x ∷ xs) rises (inl same) can oldest =
    let here : can_issue kind x ≡ true = subst (λ z. can_issue kind z ≡ true) (sym same) can in
    rw here (ap Some same)
oldest_found kind e (x ∷ xs) rises (inr later) can oldest =
    elim (cases_Bool (can_issue kind x)) [
      | inl is ↦
          let low : x.seq < e.seq = above x e xs rises later in
          let high : e.seq ≤ x.seq = oldest x (inl refl) is in
          absurd (omega arith)
      | inr is ↦ rw is (oldest_found kind e xs rises.1 later can (λ f there. oldest f (inr there)))
    ]

none_found : (test : Entry → Bool) (xs : List Entry) → ((f : Entry) → Stands f xs → test f ≡ false) → find test xs ≡ None
none_found test [] none = refl
none_found test (x ∷ xs) none = rw (none x (inl refl)) (none_found test xs (λ f there. none f (inr there)))

only_found : (test : Entry → Bool) (e : Entry) (xs : List Entry) → Stands e xs → test e ≡ true
    → ((f : Entry) → Stands f xs → test f ≡ true → f ≡ e) → find test xs ≡ Some e
only_found test e [] there passes only = absurd there
only_found test e (x ∷ xs) there passes only =
    elim (cases_Bool (test x)) [
      | inl is ↦ rw is (ap Some (only x (inl refl) is))
      | inr is ↦
          elim there [
            | inl same ↦ absurd (false≢true (sym is ∙ ap test same ∙ passes))
            | inr later ↦ rw is (only_found test e xs later passes (λ f stood. only f (inr stood)))
          ]
    ]

module _ (s : Slab Entry) (apart : AreApart s) where
  pub first-oldest : (kind : UnitKind) (key : ℕ) (it : IsOldestAt kind s key)
      → first_ready kind (listed s) ≡ Some it.entry
  first-oldest kind key it =
      oldest_found kind it.entry (listed s) (rising s apart) (in_slab s key it.entry it.there) it.can
      (λ f there can. let at = from_slab s f there in it.oldest at.0 f at.1 can)

  pub first-none : (kind : UnitKind) → NoneReady kind s → first_ready kind (listed s) ≡ None
  first-none kind none =
      none_found (can_issue kind) (listed s) (λ f there. let at = from_slab s f there in none at.0 f at.1)

  pub found-number : (seq key : ℕ) (it : HasNumberAt seq s key)
      → find (λ x. x.seq == seq) (listed s) ≡ Some it.entry
  found-number seq key it =
      let is = it.number in
      only_found (λ x. x.seq == seq) it.entry (listed s) (in_slab s key it.entry it.there)
      (grind (arith, nat_tests, is))
      (λ f there passes.
      let at = from_slab s f there in
      let level : f.seq ≡ seq = grind (arith, nat_tests, passes) in
      let same : at.0 ≡ key = apart at.0 key f it.entry at.1 it.there (level ∙ sym is) in
      some_same f it.entry (sym at.1 ∙ ap (get s) same ∙ it.there))

  pub found-none : (seq : ℕ) → NoneHasNumber seq s → find (λ x. x.seq == seq) (listed s) ≡ None
  found-none seq none =
      none_found (λ x. x.seq == seq) (listed s) (λ f there.
      let at = from_slab s f there in
      let far : f.seq ≢ seq = none at.0 f at.1 in
      grind (arith, nat_tests, far))

  pub has-number : (seq key : ℕ) → HasNumberAt seq s key → has_number seq (listed s) ≡ true
  has-number seq key it = one_has seq it.entry (listed s) (in_slab s key it.entry it.there) it.number

  pub has-none : (seq : ℕ) → NoneHasNumber seq s → has_number seq (listed s) ≡ false
  has-none seq none =
      none_has seq (listed s) (λ y there is. let at = from_slab s y there in none at.0 y at.1 is)

  pub no-number : (seq : ℕ) → has_number seq (listed s) ≡ false → NoneHasNumber seq s
  no-number seq none key e at = none_with seq (listed s) none e (in_slab s key e at)

length_filter : (test : Entry → Bool) (xs : List Entry) → length (filter test xs) ≤ length xs
length_filter test [] = omega arith
length_filter test (x ∷ xs) =
    let rest = length_filter test xs in
    elim (cases_Bool (test x)) [ inl is ↦ rw is (omega (arith, rest)) | inr is ↦ rw is (omega (arith, rest)) ]

length_map : (f : Entry → Entry) (xs : List Entry) → length (map f xs) ≡ length xs
length_map f [] = refl
length_map f (x ∷ xs) = ap suc (length_map f xs)

-- ---- The queue

module _ (size : ℕ) (old new : QueueParts) (is : IsQueue size old) where
  pub has_room : length (listed old.entries) < size → slab_len old.entries + 1 ≤ old.entries.capacity
  has_room short = omega (arith, short, is.room, length-slots old.entries.slots)

  pub queue_kept : IsSound new → new.entries.capacity ≡ old.entries.capacity → length (listed new.entries) ≤ size
      → IsQueue size new
  queue_kept sound room fits =
      record { sound = sound; few = is.few; fits = fits; room = subst (λ n. size ≤ n) (sym room) is.room }

  pub fits_added : (e : Entry) → listed new.entries ≡ inserted_entry e (listed old.entries)
      → length (listed old.entries) < size → length (listed new.entries) ≤ size
  fits_added e same short = omega (arith, ap length same, length-inserted e (listed old.entries), short)

  pub fits_filtered : (test : Entry → Bool) → listed new.entries ≡ filter test (listed old.entries)
      → length (listed new.entries) ≤ size
  fits_filtered test same = omega (arith, ap length same, length_filter test (listed old.entries), is.fits)

  pub fits_mapped : (f : Entry → Entry) → listed new.entries ≡ map f (listed old.entries)
      → length (listed new.entries) ≤ size
  fits_mapped f same = omega (arith, ap length same, length_map f (listed old.entries), is.fits)

-- ---- The entries so far, key by key

pub record IsPartly (s : Slab Entry) (key : ℕ) (items : List Entry) : Type 0 where
  pub rises : AreEntriesRising items
  pub few : length items ≤ key
  pub from : (e : Entry) → Stands e items → (k : ℕ) × (k < key) × (get s k ≡ Some e)
  pub each : (k : ℕ) (e : Entry) → k < key → get s k ≡ Some e → Stands e items

pub partly_none : (s : Slab Entry) (key : ℕ) (items : List Entry) → IsPartly s key items → get s key ≡ None
    → IsPartly s (key + 1) items
partly_none s key items is none = record {
  rises = is.rises;
  few = omega (arith, is.few);
  from = λ e there. let f = is.from e there in (f.0, omega (arith, f.1), f.2);
  each = λ k e lt at.
      elim (cases_eq k key) [
        | inl same ↦ absurd (some_none e (sym at ∙ ap (get s) same ∙ none))
        | inr other ↦ is.each k e (omega (arith, lt, other)) at
      ];
}

pub partly_some : (s : Slab Entry) → AreApart s → (key : ℕ) (items : List Entry) → IsPartly s key items → (e : Entry)
    → get s key ≡ Some e → IsPartly s (key + 1) (inserted_entry e items)
partly_some s apart key items is e here = record {
  rises = IsRising-inserted e items is.rises
      (none_has e.seq items (λ y there level.
      let f = is.from y there in
      let same : f.0 ≡ key = apart f.0 key y e f.2 here level in
      omega (arith, f.1, same)));
  few = omega (arith, is.few, length-inserted e items);
  from = λ x there.
      elim (Stands-inserted e x items there) [
        | inl same ↦ (key, omega arith, here ∙ ap Some same)
        | inr later ↦ let f = is.from x later in (f.0, omega (arith, f.1), f.2)
      ];
  each = λ k x lt at.
      elim (cases_eq k key) [
        | inl same ↦
            let it : e ≡ x = some_same e x (sym here ∙ ap (get s) (sym same) ∙ at) in
            subst (λ z. Stands z (inserted_entry e items)) it (inserted_stands e items)
        | inr other ↦ others_stand e x items (is.each k x (omega (arith, lt, other)) at)
      ];
}

pub partly_whole : (s : Slab Entry) → AreApart s → (key : ℕ) (items : List Entry) → IsPartly s key items
    → length s.slots ≤ key → items ≡ by_number s.slots
partly_whole s apart key items is all =
    same_members items (listed s) is.rises (rising s apart)
    (λ e there. let f = is.from e there in in_slab s f.0 e f.2)
    (λ e there.
    let at = from_slab s e there in
    let inside : at.0 < length s.slots = ContainsKey-within s at.0 (subst (λ (o : Option Entry). IsSome o) (sym at.1) refl) in
    is.each at.0 e (omega (arith, inside, all)) at.1)

pub partly_nothing : (s : Slab Entry) → IsPartly s 0 []
partly_nothing s = record {
  rises = tt;
  few = omega arith;
  from = λ e there. absurd there;
  each = λ k e lt at. absurd (omega (arith, lt));
}

-- ---- Whether one has a number

pub holds_by : (s : Slab Entry) → AreApart s → (seq : ℕ) (o : Option ℕ) → IfSome o (HasNumberAt seq s)
    → IfNone o (NoneHasNumber seq s) → is_some o ≡ has_number seq (listed s)
holds_by s apart seq None some none = sym (has-none s apart seq none)
holds_by s apart seq (Some key) some none = sym (has-number s apart seq key some)
