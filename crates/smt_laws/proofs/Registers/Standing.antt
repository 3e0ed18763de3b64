-- A source stays what it was while its reader is in flight, and is committed or an older one in flight.
use Rattle.std.specs.Prelude.{◌≡◌, ◌≢◌, ℕ, ◌<◌, ◌≤◌, Bool, true, false, ◌&&◌, ◌||◌, nat_lt, nat_le, List, ◌∷◌, Option}
use Rattle.std.specs.Prelude.{Some, None}
use Rattle.std.proofs.Common.{◌∙◌, refl, sym, ap, inl, inr, arith}
use Rattle.std.proofs.{lemmas.Bool.cases_eq, lemmas.Bool.cases_lt, lemmas.Bool.false_from_ne_true}
use Rattle.std.proofs.{lemmas.Bool.Decides.nat_tests}
use Rattle.events.specs.{declared.effect.Effect.Effect, declared.event.Event.Event}
use Rattle.events.specs.declared.event.Event.TheVariants.{Fetch, Decode, Rename, Issue, Complete, Drop, Retire, Refetch}
use Rattle.smt_model.specs.{Basics.holds_of, Setup.Setup, Nexts.is_last, Rules.refused, Rules.is_legal}
use Rattle.smt_model.specs.Fates.{stage, fate, is_live, is_in_flight, stands, fate_by, squashes, mispredicts}
use Rattle.smt_model.specs.Fates.{squashes_at_retirement, same_hart, is_of, is_replayed, fetching}
use Rattle.smt_model.proofs.Fates.Moves.{fetch_was, decode_was, rename_was, issue_was, complete_was, retire_was}
use Rattle.smt_model.proofs.Fates.Moves.{fate-kept, stage-squashed}
use Rattle.smt_model.proofs.{Fates.Sound.sound, Fates.Numbers.is_of-is, Fates.Numbers.same_hart-at}

-- ---- Squashes reach the young first

holds_of-same : {A : Type 0} → (p q : A → Bool) (o : Option A) → ((x : A) → p x ≡ q x) → holds_of p o ≡ holds_of q o
holds_of-same p q None same = refl
holds_of-same p q (Some x) same = same x

-- Two of one hart are of the same hart as a third, or neither is.
pub same_hart-moves : (past : List Event) (h n s t : ℕ) → is_of past h s ≡ true → is_of past h t ≡ true
    → same_hart past n s ≡ same_hart past n t
unfolding same_hart
same_hart-moves past h n s t of_s of_t =
    holds_of-same (λ f. is_of past f.hart s) (λ f. is_of past f.hart t) (fetching past n)
    (λ f. is_of-is past h f.hart s of_s ∙ sym (is_of-is past h f.hart t of_t))

-- Who is spared spares all older ones of its hart.
under_squash : (squashes_it same_s same_x : Bool) (n x s : ℕ) → same_x ≡ same_s → x ≤ s
    → (squashes_it && (nat_lt n s && same_s)) ≡ false
    → (squashes_it && (nat_lt n x && same_x)) ≡ false
under_squash squashes_it same_s same_x n x s same under spared = grind (arith, nat_tests)

under_refetch : (same_s same_x : Bool) (n x s : ℕ) → same_x ≡ same_s → x ≤ s → (nat_le n s && same_s) ≡ false
    → (nat_le n x && same_x) ≡ false
under_refetch same_s same_x n x s same under spared = grind (arith, nat_tests)

pub older_spared : (e : Event) (past : List Event) (h x s : ℕ) → is_of past h x ≡ true → is_of past h s ≡ true → x ≤ s
    → squashes e past s ≡ false → squashes e past x ≡ false
older_spared (Fetch actor hart n pc word predicted) past h x s of_x of_s under spared = refl
older_spared (Decode actor n) past h x s of_x of_s under spared = refl
older_spared (Rename actor n register) past h x s of_x of_s under spared = refl
older_spared (Issue actor n) past h x s of_x of_s under spared = refl
older_spared (Complete actor n outcome) past h x s of_x of_s under spared =
    under_squash (mispredicts past n outcome.next) (same_hart past n s) (same_hart past n x) n x s
    (same_hart-moves past h n x s of_x of_s) under spared
older_spared (Drop actor n) past h x s of_x of_s under spared = refl
older_spared (Retire actor n effect) past h x s of_x of_s under spared =
    under_squash (squashes_at_retirement past n effect) (same_hart past n s) (same_hart past n x) n x s
    (same_hart-moves past h n x s of_x of_s) under spared
older_spared (Refetch actor n) past h x s of_x of_s under spared =
    under_refetch (same_hart past n s) (same_hart past n x) n x s (same_hart-moves past h n x s of_x of_s) under spared

-- An event says nothing of what it squashes: a completion and a retirement spare their own instruction, and a refetch,
-- which doesn't, says nothing of it.
own_spared : (e : Event) (past : List Event) (s : ℕ) → squashes e past s ≡ true → fate_by e s ≡ None
own_spared (Fetch actor hart n pc word predicted) past s cut = absurd (grind arith)
own_spared (Decode actor n) past s cut = absurd (grind arith)
own_spared (Rename actor n register) past s cut = absurd (grind arith)
own_spared (Issue actor n) past s cut = absurd (grind arith)
own_spared (Complete actor n outcome) past s cut = grind (arith, nat_tests)
own_spared (Drop actor n) past s cut = refl
own_spared (Retire actor n effect) past s cut = grind (arith, nat_tests)
own_spared (Refetch actor n) past s cut = refl

-- Who lives on was spared.
pub spared : (e : Event) (past : List Event) (s : ℕ) → is_live (fate past s) ≡ true → stage (fate (e ∷ past) s) ≢ 8
    → squashes e past s ≡ false
spared e past s was lives =
    false_from_ne_true (squashes e past s) (λ cut.
    let tells = own_spared e past s cut in
    let gone = stage-squashed e past s tells cut (grind (arith, nat_tests)) (grind (arith, nat_tests)) in
    absurd (lives gone))

-- ---- What stands

both_ways : (last replayed above same : Bool) → last ≡ true → above ≡ true → same ≡ true
    → ((last || replayed) && (above && same)) ≡ false → ⊥
both_ways last replayed above same a b c d = grind arith

-- What a retirement makes of the instruction where a younger one lives on: it doesn't end or stop the hart.
not_last : (past : List Event) (h n s : ℕ) (effect : Effect) → is_of past h n ≡ true → is_of past h s ≡ true → n < s
    → (squashes_at_retirement past n effect && (nat_lt n s && same_hart past n s)) ≡ false → is_last effect.next ≡ false
unfolding squashes_at_retirement
not_last past h n s effect of_n of_s under spares =
    let same : same_hart past n s ≡ true = same_hart-at past h n s of_n ∙ of_s in
    let above : nat_lt n s ≡ true = grind (arith, nat_tests) in
    false_from_ne_true (is_last effect.next)
    (λ last. absurd
    (both_ways (is_last effect.next) (is_replayed past n effect) (nat_lt n s)
    (same_hart past n s) last above same spares))

-- Of an older one that isn't squashed: an event leaves it standing, or as it was.
stands-told : (setup : Setup) (past : List Event) → is_legal setup past → (e : Event) → refused setup past e ≡ None
    → (h x s : ℕ)
    → is_of past h x ≡ true → is_of past h s ≡ true → x < s → squashes e past s ≡ false → squashes e past x ≡ false
    → 3 ≤ stage (fate past x) → stands (fate (e ∷ past) x) ≡ stands (fate past x)
stands-told setup past legal (Fetch actor hart n pc word predicted) ok h x s of_x of_s under keeps keeps_x late =
    let was =
    fetch_was setup past (sound setup past legal) actor hart n pc word predicted ok in grind (arith, nat_tests)
stands-told setup past legal (Decode actor n) ok h x s of_x of_s under keeps keeps_x late =
    let was = decode_was setup past actor n ok in grind (arith, nat_tests)
stands-told setup past legal (Rename actor n register) ok h x s of_x of_s under keeps keeps_x late =
    let was = rename_was setup past actor n register ok in grind (arith, nat_tests)
stands-told setup past legal (Issue actor n) ok h x s of_x of_s under keeps keeps_x late =
    let was = issue_was setup past actor n ok in grind (arith, nat_tests)
stands-told setup past legal (Complete actor n outcome) ok h x s of_x of_s under keeps keeps_x late =
    let was = complete_was setup past (sound setup past legal) actor n outcome ok in
    elim (cases_eq n x) [
      | inl here ↦ grind (arith, nat_tests)
      | inr other ↦
          let tells : fate_by (Complete actor n outcome) x ≡ None = grind (arith, nat_tests) in
          ap stands (fate-kept (Complete actor n outcome) past x tells keeps_x)
    ]
stands-told setup past legal (Drop actor n) ok h x s of_x of_s under keeps keeps_x late = refl
stands-told setup past legal (Retire actor n effect) ok h x s of_x of_s under keeps keeps_x late =
    let was = retire_was setup past actor n effect ok in
    elim (cases_eq n x) [
      | inl here ↦
          let going : is_last effect.next ≡ false =
          not_last past h n s effect (rw here of_x) of_s (omega arith) keeps in
          grind (arith, nat_tests)
      | inr other ↦
          let tells : fate_by (Retire actor n effect) x ≡ None = grind (arith, nat_tests) in
          ap stands (fate-kept (Retire actor n effect) past x tells keeps_x)
    ]
stands-told setup past legal (Refetch actor n) ok h x s of_x of_s under keeps keeps_x late =
    ap stands (fate-kept (Refetch actor n) past x refl keeps_x)

-- While s is in flight, those of its hart up to it that were renamed stand as they stood.
pub stands-stay : (setup : Setup) (past : List Event) → is_legal setup past → (e : Event) → refused setup past e ≡ None
    → (h x s : ℕ)
    → is_of past h x ≡ true → is_of past h s ≡ true → x ≤ s → is_in_flight (fate past s) ≡ true
    → is_in_flight (fate (e ∷ past) s) ≡ true
    → 3 ≤ stage (fate past x) → stands (fate (e ∷ past) x) ≡ stands (fate past x)
stands-stay setup past legal e ok h x s of_x of_s upto was still late =
    let keeps = spared e past s (grind (arith, nat_tests)) (grind (arith, nat_tests)) in
    elim (cases_lt x s) [
      | inl under ↦
          stands-told setup past legal e ok h x s of_x of_s under keeps
          (older_spared e past h x s of_x of_s upto keeps) late
      | inr above ↦
          let same : x ≡ s = omega arith in
          rw same (grind (arith, nat_tests))
    ]
