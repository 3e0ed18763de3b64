-- Numbers that aren't given yet are unknown, and jobs are of issued or squashed instructions: in every legal history.
use Rattle.std.specs.Prelude.{◌≡◌, ◌≢◌, ◌⊎◌, ℕ, suc, ◌≤◌, true, ◌==◌, if◌then◌else◌, List, [], ◌∷◌, Option, Some, None}
use Rattle.std.proofs.Common.{refl, inl, inr, arith}
use Rattle.std.proofs.lemmas.Bool.Decides.{nat_tests}
use Rattle.events.specs.{declared.effect.Outcome.Outcome, declared.effect.Effect.Effect, declared.event.Event.Event}
use Rattle.events.specs.declared.event.Event.TheVariants.{Fetch, Decode, Rename, Issue, Complete, Drop, Retire, Refetch}
use Rattle.smt_model.specs.{Setup.Setup, Fates.stage, Fates.fetches, Fates.fate, Rules.refused, Rules.is_legal}
use Rattle.smt_model.specs.{Jobs.job, Jobs.is_actor}
use Rattle.smt_model.proofs.Allowed.{issue_allowed}
use Rattle.smt_model.proofs.Fates.Moves.{IsLent, IsSound, is_open, fetch_number, fetch_was, decode_was, rename_was}
use Rattle.smt_model.proofs.Fates.Moves.{issue_was, complete_was, complete_lent, drop_was, drop_lent, retire_was, refetch_was}
use Rattle.smt_model.proofs.Fates.Moves.{moved_if_sound, stage-retired_as, moves}

-- ---- Fresh numbers

fresh-Fetch : (setup : Setup) (past : List Event) → IsSound setup past
    → (actor hart seq pc : ℕ) (word : Option ℕ) (predicted : ℕ)
    → refused setup past (Fetch actor hart seq pc word predicted) ≡ None → (s : ℕ) → suc (fetches past) ≤ s
    → stage (fate (Fetch actor hart seq pc word predicted ∷ past) s) ≡ 0
fresh-Fetch setup past sound actor hart seq pc word predicted ok s above =
    let given = fetch_number setup past actor hart seq pc word predicted ok in
    grind (arith, nat_tests, given, sound.fresh s)

fresh-Decode : (setup : Setup) (past : List Event) → IsSound setup past → (actor seq : ℕ)
    → refused setup past (Decode actor seq) ≡ None
    → (s : ℕ) → fetches past ≤ s → stage (fate (Decode actor seq ∷ past) s) ≡ 0
fresh-Decode setup past sound actor seq ok s above =
    let was = decode_was setup past actor seq ok in grind (arith, nat_tests, was, sound.fresh s)

fresh-Rename : (setup : Setup) (past : List Event) → IsSound setup past → (actor seq : ℕ) (phys : Option ℕ)
    → refused setup past (Rename actor seq phys) ≡ None → (s : ℕ) → fetches past ≤ s
    → stage (fate (Rename actor seq phys ∷ past) s) ≡ 0
fresh-Rename setup past sound actor seq phys ok s above =
    let was = rename_was setup past actor seq phys ok in grind (arith, nat_tests, was, sound.fresh s)

fresh-Issue : (setup : Setup) (past : List Event) → IsSound setup past → (actor seq : ℕ)
    → refused setup past (Issue actor seq) ≡ None
    → (s : ℕ) → fetches past ≤ s → stage (fate (Issue actor seq ∷ past) s) ≡ 0
fresh-Issue setup past sound actor seq ok s above =
    let was = issue_was setup past actor seq ok in grind (arith, nat_tests, was, sound.fresh s)

fresh-Complete : (setup : Setup) (past : List Event) → IsSound setup past → (actor seq : ℕ) (outcome : Outcome)
    → refused setup past (Complete actor seq outcome) ≡ None → (s : ℕ) → fetches past ≤ s
    → stage (fate (Complete actor seq outcome ∷ past) s) ≡ 0
fresh-Complete setup past sound actor seq outcome ok s above =
    let was = complete_was setup past sound actor seq outcome ok in grind (arith, nat_tests, was, sound.fresh s)

fresh-Drop : (setup : Setup) (past : List Event) → IsSound setup past → (actor seq : ℕ)
    → (s : ℕ) → fetches past ≤ s → stage (fate (Drop actor seq ∷ past) s) ≡ 0
fresh-Drop setup past sound actor seq s above = grind (arith, nat_tests, sound.fresh s)

fresh-Retire : (setup : Setup) (past : List Event) → IsSound setup past → (actor seq : ℕ) (effect : Effect)
    → refused setup past (Retire actor seq effect) ≡ None → (s : ℕ) → fetches past ≤ s
    → stage (fate (Retire actor seq effect ∷ past) s) ≡ 0
fresh-Retire setup past sound actor seq effect ok s above =
    let was = retire_was setup past actor seq effect ok in grind (arith, nat_tests, was, sound.fresh s)

fresh-Refetch : (setup : Setup) (past : List Event) → IsSound setup past → (actor seq s : ℕ) → fetches past ≤ s
    → stage (fate (Refetch actor seq ∷ past) s) ≡ 0
fresh-Refetch setup past sound actor seq s above = grind (arith, nat_tests, sound.fresh s)

-- ---- Open jobs: the one that is completed is nobody else's

jobs-Fetch : (setup : Setup) (past : List Event) → IsSound setup past
    → (actor hart seq pc : ℕ) (word : Option ℕ) (predicted : ℕ)
    → refused setup past (Fetch actor hart seq pc word predicted) ≡ None → (k s : ℕ)
    → job (Fetch actor hart seq pc word predicted ∷ past) k ≡ Some s
    → is_open (stage (fate (Fetch actor hart seq pc word predicted ∷ past) s)) ≡ true
jobs-Fetch setup past sound actor hart seq pc word predicted ok k s now =
    let was =
    fetch_was setup past sound actor hart seq pc word predicted ok in grind (arith, nat_tests, was, sound.jobs k s)

jobs-Decode : (setup : Setup) (past : List Event) → IsSound setup past → (actor seq : ℕ)
    → refused setup past (Decode actor seq) ≡ None → (k s : ℕ) → job (Decode actor seq ∷ past) k ≡ Some s
    → is_open (stage (fate (Decode actor seq ∷ past) s)) ≡ true
jobs-Decode setup past sound actor seq ok k s now =
    let was = decode_was setup past actor seq ok in grind (arith, nat_tests, was, sound.jobs k s)

jobs-Rename : (setup : Setup) (past : List Event) → IsSound setup past → (actor seq : ℕ) (phys : Option ℕ)
    → refused setup past (Rename actor seq phys) ≡ None → (k s : ℕ) → job (Rename actor seq phys ∷ past) k ≡ Some s
    → is_open (stage (fate (Rename actor seq phys ∷ past) s)) ≡ true
jobs-Rename setup past sound actor seq phys ok k s now =
    let was = rename_was setup past actor seq phys ok in grind (arith, nat_tests, was, sound.jobs k s)

jobs-Issue : (setup : Setup) (past : List Event) → IsSound setup past → (actor seq : ℕ)
    → refused setup past (Issue actor seq) ≡ None → (k s : ℕ) → job (Issue actor seq ∷ past) k ≡ Some s
    → is_open (stage (fate (Issue actor seq ∷ past) s)) ≡ true
jobs-Issue setup past sound actor seq ok k s now =
    let was = issue_was setup past actor seq ok in grind (arith, nat_tests, was, sound.jobs k s)

jobs-Complete : (setup : Setup) (past : List Event) → IsSound setup past → (actor seq : ℕ) (outcome : Outcome)
    → refused setup past (Complete actor seq outcome) ≡ None → (k s : ℕ)
    → job (Complete actor seq outcome ∷ past) k ≡ Some s
    → is_open (stage (fate (Complete actor seq outcome ∷ past) s)) ≡ true
jobs-Complete setup past sound actor seq outcome ok k s now =
    let was = complete_was setup past sound actor seq outcome ok in
    let lent = complete_lent setup past actor seq outcome ok in
    let still : job past k ≡ Some s = grind (arith, nat_tests) in
    let other : actor ≢ k = grind (arith, nat_tests) in
    let apart : seq ≢ s = grind (arith, sound.alone actor k s) in
    grind (arith, nat_tests, was, sound.jobs k s)

jobs-Drop : (setup : Setup) (past : List Event) → IsSound setup past → (actor seq : ℕ)
    → refused setup past (Drop actor seq) ≡ None → (k s : ℕ) → job (Drop actor seq ∷ past) k ≡ Some s
    → is_open (stage (fate (Drop actor seq ∷ past) s)) ≡ true
jobs-Drop setup past sound actor seq ok k s now =
    let was = drop_was setup past actor seq ok in
    let lent = drop_lent setup past actor seq ok in
    let still : job past k ≡ Some s = grind (arith, nat_tests) in
    let other : actor ≢ k = grind (arith, nat_tests) in
    let apart : seq ≢ s = grind (arith, sound.alone actor k s) in
    grind (arith, nat_tests, was, sound.jobs k s)

jobs-Retire : (setup : Setup) (past : List Event) → IsSound setup past → (actor seq : ℕ) (effect : Effect)
    → refused setup past (Retire actor seq effect) ≡ None → (k s : ℕ) → job (Retire actor seq effect ∷ past) k ≡ Some s
    → is_open (stage (fate (Retire actor seq effect ∷ past) s)) ≡ true
jobs-Retire setup past sound actor seq effect ok k s now =
    let was = retire_was setup past actor seq effect ok in grind (arith, nat_tests, was, sound.jobs k s)

jobs-Refetch : (setup : Setup) (past : List Event) → IsSound setup past → (actor seq : ℕ)
    → refused setup past (Refetch actor seq) ≡ None → (k s : ℕ) → job (Refetch actor seq ∷ past) k ≡ Some s
    → is_open (stage (fate (Refetch actor seq ∷ past) s)) ≡ true
jobs-Refetch setup past sound actor seq ok k s now =
    let was = refetch_was setup past actor seq ok in grind (arith, nat_tests, was, sound.jobs k s)

-- ---- What is issued was issued before, or is it now

pub issued-Fetch : (setup : Setup) (past : List Event) → IsSound setup past
    → (actor hart seq pc : ℕ) (word : Option ℕ) (predicted : ℕ)
    → refused setup past (Fetch actor hart seq pc word predicted) ≡ None → (s : ℕ)
    → stage (fate (Fetch actor hart seq pc word predicted ∷ past) s) ≡ 4
    → stage (fate past s) ≡ 4
issued-Fetch setup past sound actor hart seq pc word predicted ok s now =
    let was = fetch_was setup past sound actor hart seq pc word predicted ok in grind (arith, nat_tests, was)

pub issued-Decode : (setup : Setup) (past : List Event) → IsSound setup past → (actor seq : ℕ)
    → refused setup past (Decode actor seq) ≡ None → (s : ℕ) → stage (fate (Decode actor seq ∷ past) s) ≡ 4
    → stage (fate past s) ≡ 4
issued-Decode setup past sound actor seq ok s now =
    let was = decode_was setup past actor seq ok in grind (arith, nat_tests, was)

pub issued-Rename : (setup : Setup) (past : List Event) → IsSound setup past → (actor seq : ℕ) (phys : Option ℕ)
    → refused setup past (Rename actor seq phys) ≡ None → (s : ℕ) → stage (fate (Rename actor seq phys ∷ past) s) ≡ 4
    → stage (fate past s) ≡ 4
issued-Rename setup past sound actor seq phys ok s now =
    let was = rename_was setup past actor seq phys ok in grind (arith, nat_tests, was)

pub issued-Issue : (setup : Setup) (past : List Event) → IsSound setup past → (actor seq : ℕ)
    → refused setup past (Issue actor seq) ≡ None → (s : ℕ) → stage (fate (Issue actor seq ∷ past) s) ≡ 4
    → (s ≡ seq) ⊎ (stage (fate past s) ≡ 4)
issued-Issue setup past sound actor seq ok s now =
    let was = issue_was setup past actor seq ok in grind (arith, nat_tests, was)

pub issued-Complete : (setup : Setup) (past : List Event) → IsSound setup past → (actor seq : ℕ) (outcome : Outcome)
    → refused setup past (Complete actor seq outcome) ≡ None → (s : ℕ)
    → stage (fate (Complete actor seq outcome ∷ past) s) ≡ 4
    → (s ≢ seq) × (stage (fate past s) ≡ 4)
issued-Complete setup past sound actor seq outcome ok s now =
    let was = complete_was setup past sound actor seq outcome ok in grind (arith, nat_tests, was)

pub issued-Drop : (setup : Setup) (past : List Event) → IsSound setup past → (actor seq : ℕ)
    → refused setup past (Drop actor seq) ≡ None → (s : ℕ) → stage (fate (Drop actor seq ∷ past) s) ≡ 4
    → (s ≢ seq) × (stage (fate past s) ≡ 4)
issued-Drop setup past sound actor seq ok s now =
    let was = drop_was setup past actor seq ok in grind (arith, nat_tests, was)

pub issued-Retire : (setup : Setup) (past : List Event) → IsSound setup past → (actor seq : ℕ) (effect : Effect)
    → refused setup past (Retire actor seq effect) ≡ None → (s : ℕ)
    → stage (fate (Retire actor seq effect ∷ past) s) ≡ 4
    → stage (fate past s) ≡ 4
issued-Retire setup past sound actor seq effect ok s now =
    let was = retire_was setup past actor seq effect ok in
    let told = stage-retired_as effect in
    grind (arith, nat_tests, was, told)

pub issued-Refetch : (past : List Event) (actor seq s : ℕ) → stage (fate (Refetch actor seq ∷ past) s) ≡ 4
    → stage (fate past s) ≡ 4
issued-Refetch past actor seq s now = grind (arith, nat_tests)

-- ---- Each issued one is lent

lent-Fetch : (setup : Setup) (past : List Event) → IsSound setup past
    → (actor hart seq pc : ℕ) (word : Option ℕ) (predicted : ℕ)
    → refused setup past (Fetch actor hart seq pc word predicted) ≡ None → (s : ℕ)
    → stage (fate (Fetch actor hart seq pc word predicted ∷ past) s) ≡ 4
    → IsLent (Fetch actor hart seq pc word predicted ∷ past) s
lent-Fetch setup past sound actor hart seq pc word predicted ok s now =
    let old = sound.lent s (issued-Fetch setup past sound actor hart seq pc word predicted ok s now) in
    record { actor = old.actor; job_is = old.job_is }

lent-Decode : (setup : Setup) (past : List Event) → IsSound setup past → (actor seq : ℕ)
    → refused setup past (Decode actor seq) ≡ None → (s : ℕ) → stage (fate (Decode actor seq ∷ past) s) ≡ 4
    → IsLent (Decode actor seq ∷ past) s
lent-Decode setup past sound actor seq ok s now =
    let old = sound.lent s (issued-Decode setup past sound actor seq ok s now) in
    record { actor = old.actor; job_is = old.job_is }

lent-Rename : (setup : Setup) (past : List Event) → IsSound setup past → (actor seq : ℕ) (phys : Option ℕ)
    → refused setup past (Rename actor seq phys) ≡ None → (s : ℕ) → stage (fate (Rename actor seq phys ∷ past) s) ≡ 4
    → IsLent (Rename actor seq phys ∷ past) s
lent-Rename setup past sound actor seq phys ok s now =
    let old = sound.lent s (issued-Rename setup past sound actor seq phys ok s now) in
    record { actor = old.actor; job_is = old.job_is }

lent-Issue : (setup : Setup) (past : List Event) → IsSound setup past → (actor seq : ℕ)
    → refused setup past (Issue actor seq) ≡ None → (s : ℕ) → stage (fate (Issue actor seq ∷ past) s) ≡ 4
    → IsLent (Issue actor seq ∷ past) s
lent-Issue setup past sound actor seq ok s now =
    let idle = (issue_allowed setup past actor seq ok).idle in
    elim (issued-Issue setup past sound actor seq ok s now) [
      | inl here ↦ record { actor = actor; job_is = grind (arith, nat_tests) }
      | inr before ↦
          let old = sound.lent s before in
          let job_is = old.job_is in
          let other : actor ≢ old.actor = grind arith in
          record { actor = old.actor; job_is = grind (arith, nat_tests) }
    ]

lent-Complete : (setup : Setup) (past : List Event) → IsSound setup past → (actor seq : ℕ) (outcome : Outcome)
    → refused setup past (Complete actor seq outcome) ≡ None → (s : ℕ)
    → stage (fate (Complete actor seq outcome ∷ past) s) ≡ 4 → IsLent (Complete actor seq outcome ∷ past) s
lent-Complete setup past sound actor seq outcome ok s now =
    let before = issued-Complete setup past sound actor seq outcome ok s now in
    let old = sound.lent s before.1 in
    let job_is = old.job_is in
    let lent = complete_lent setup past actor seq outcome ok in
    let other : actor ≢ old.actor = grind (arith, before.0) in
    record { actor = old.actor; job_is = grind (arith, nat_tests) }

lent-Drop : (setup : Setup) (past : List Event) → IsSound setup past → (actor seq : ℕ)
    → refused setup past (Drop actor seq) ≡ None → (s : ℕ) → stage (fate (Drop actor seq ∷ past) s) ≡ 4
    → IsLent (Drop actor seq ∷ past) s
lent-Drop setup past sound actor seq ok s now =
    let before = issued-Drop setup past sound actor seq ok s now in
    let old = sound.lent s before.1 in
    let job_is = old.job_is in
    let lent = drop_lent setup past actor seq ok in
    let other : actor ≢ old.actor = grind (arith, before.0) in
    record { actor = old.actor; job_is = grind (arith, nat_tests) }

lent-Retire : (setup : Setup) (past : List Event) → IsSound setup past → (actor seq : ℕ) (effect : Effect)
    → refused setup past (Retire actor seq effect) ≡ None → (s : ℕ)
    → stage (fate (Retire actor seq effect ∷ past) s) ≡ 4 → IsLent (Retire actor seq effect ∷ past) s
lent-Retire setup past sound actor seq effect ok s now =
    let old = sound.lent s (issued-Retire setup past sound actor seq effect ok s now) in
    record { actor = old.actor; job_is = old.job_is }

lent-Refetch : (setup : Setup) (past : List Event) → IsSound setup past → (actor seq s : ℕ)
    → stage (fate (Refetch actor seq ∷ past) s) ≡ 4 → IsLent (Refetch actor seq ∷ past) s
lent-Refetch setup past sound actor seq s now =
    let old = sound.lent s (issued-Refetch past actor seq s now) in
    record { actor = old.actor; job_is = old.job_is }

-- ---- An actor issues only where it is one, and only what nobody has

actors-Issue : (setup : Setup) (past : List Event) → IsSound setup past → (actor seq : ℕ)
    → refused setup past (Issue actor seq) ≡ None → (k s : ℕ) → job (Issue actor seq ∷ past) k ≡ Some s
    → is_actor setup k ≡ true
actors-Issue setup past sound actor seq ok k s now =
    let mine = (issue_allowed setup past actor seq ok).actor_is in grind (arith, nat_tests, sound.actors k s)

alone-Issue : (setup : Setup) (past : List Event) → IsSound setup past → (actor seq : ℕ)
    → refused setup past (Issue actor seq) ≡ None → (j k s : ℕ) → job (Issue actor seq ∷ past) j ≡ Some s
    → job (Issue actor seq ∷ past) k ≡ Some s → j ≡ k
alone-Issue setup past sound actor seq ok j k s a b =
    let was = issue_was setup past actor seq ok in
    grind (arith, nat_tests, was, sound.jobs j s, sound.jobs k s, sound.alone j k s)

ended : (past : List Event) (actor k s : ℕ) → (if actor == k then None else job past k) ≡ Some s → job past k ≡ Some s
ended past actor k s now = grind (arith, nat_tests)

sound-Fetch : (setup : Setup) (past : List Event) → IsSound setup past
    → (actor hart seq pc : ℕ) (word : Option ℕ) (predicted : ℕ)
    → refused setup past (Fetch actor hart seq pc word predicted) ≡ None
    → IsSound setup (Fetch actor hart seq pc word predicted ∷ past)
sound-Fetch setup past sound actor hart seq pc word predicted ok = record {
  fresh = fresh-Fetch setup past sound actor hart seq pc word predicted ok;
  jobs = jobs-Fetch setup past sound actor hart seq pc word predicted ok;
  actors = sound.actors;
  alone = sound.alone;
  lent = lent-Fetch setup past sound actor hart seq pc word predicted ok;
}

sound-Decode : (setup : Setup) (past : List Event) → IsSound setup past → (actor seq : ℕ)
    → refused setup past (Decode actor seq) ≡ None → IsSound setup (Decode actor seq ∷ past)
sound-Decode setup past sound actor seq ok = record {
  fresh = fresh-Decode setup past sound actor seq ok;
  jobs = jobs-Decode setup past sound actor seq ok;
  actors = sound.actors;
  alone = sound.alone;
  lent = lent-Decode setup past sound actor seq ok;
}

sound-Rename : (setup : Setup) (past : List Event) → IsSound setup past → (actor seq : ℕ) (phys : Option ℕ)
    → refused setup past (Rename actor seq phys) ≡ None → IsSound setup (Rename actor seq phys ∷ past)
sound-Rename setup past sound actor seq phys ok = record {
  fresh = fresh-Rename setup past sound actor seq phys ok;
  jobs = jobs-Rename setup past sound actor seq phys ok;
  actors = sound.actors;
  alone = sound.alone;
  lent = lent-Rename setup past sound actor seq phys ok;
}

sound-Issue : (setup : Setup) (past : List Event) → IsSound setup past → (actor seq : ℕ)
    → refused setup past (Issue actor seq) ≡ None → IsSound setup (Issue actor seq ∷ past)
sound-Issue setup past sound actor seq ok = record {
  fresh = fresh-Issue setup past sound actor seq ok;
  jobs = jobs-Issue setup past sound actor seq ok;
  actors = actors-Issue setup past sound actor seq ok;
  alone = alone-Issue setup past sound actor seq ok;
  lent = lent-Issue setup past sound actor seq ok;
}

sound-Complete : (setup : Setup) (past : List Event) → IsSound setup past → (actor seq : ℕ) (outcome : Outcome)
    → refused setup past (Complete actor seq outcome) ≡ None → IsSound setup (Complete actor seq outcome ∷ past)
sound-Complete setup past sound actor seq outcome ok = record {
  fresh = fresh-Complete setup past sound actor seq outcome ok;
  jobs = jobs-Complete setup past sound actor seq outcome ok;
  actors = λ k s now. sound.actors k s (ended past actor k s now);
  alone = λ j k s a b. sound.alone j k s (ended past actor j s a) (ended past actor k s b);
  lent = lent-Complete setup past sound actor seq outcome ok;
}

sound-Drop : (setup : Setup) (past : List Event) → IsSound setup past → (actor seq : ℕ)
    → refused setup past (Drop actor seq) ≡ None → IsSound setup (Drop actor seq ∷ past)
sound-Drop setup past sound actor seq ok = record {
  fresh = fresh-Drop setup past sound actor seq;
  jobs = jobs-Drop setup past sound actor seq ok;
  actors = λ k s now. sound.actors k s (ended past actor k s now);
  alone = λ j k s a b. sound.alone j k s (ended past actor j s a) (ended past actor k s b);
  lent = lent-Drop setup past sound actor seq ok;
}

sound-Retire : (setup : Setup) (past : List Event) → IsSound setup past → (actor seq : ℕ) (effect : Effect)
    → refused setup past (Retire actor seq effect) ≡ None → IsSound setup (Retire actor seq effect ∷ past)
sound-Retire setup past sound actor seq effect ok = record {
  fresh = fresh-Retire setup past sound actor seq effect ok;
  jobs = jobs-Retire setup past sound actor seq effect ok;
  actors = sound.actors;
  alone = sound.alone;
  lent = lent-Retire setup past sound actor seq effect ok;
}

sound-Refetch : (setup : Setup) (past : List Event) → IsSound setup past → (actor seq : ℕ)
    → refused setup past (Refetch actor seq) ≡ None → IsSound setup (Refetch actor seq ∷ past)
sound-Refetch setup past sound actor seq ok = record {
  fresh = fresh-Refetch setup past sound actor seq;
  jobs = jobs-Refetch setup past sound actor seq ok;
  actors = sound.actors;
  alone = sound.alone;
  lent = lent-Refetch setup past sound actor seq;
}

-- ---- Every legal history

sound-start : (setup : Setup) → IsSound setup []
sound-start setup = record {
  fresh = λ s above. refl;
  jobs = λ k s now. absurd (grind arith);
  actors = λ k s now. absurd (grind arith);
  alone = λ j k s a b. absurd (grind arith);
  lent = λ s now. absurd (grind arith);
}

sound-next : (setup : Setup) (past : List Event) → IsSound setup past → (e : Event) → refused setup past e ≡ None
    → IsSound setup (e ∷ past)
sound-next setup past sound (Fetch actor hart seq pc word predicted) ok =
    sound-Fetch setup past sound actor hart seq pc word predicted ok
sound-next setup past sound (Decode actor seq) ok = sound-Decode setup past sound actor seq ok
sound-next setup past sound (Rename actor seq phys) ok = sound-Rename setup past sound actor seq phys ok
sound-next setup past sound (Issue actor seq) ok = sound-Issue setup past sound actor seq ok
sound-next setup past sound (Complete actor seq outcome) ok = sound-Complete setup past sound actor seq outcome ok
sound-next setup past sound (Drop actor seq) ok = sound-Drop setup past sound actor seq ok
sound-next setup past sound (Retire actor seq effect) ok = sound-Retire setup past sound actor seq effect ok
sound-next setup past sound (Refetch actor seq) ok = sound-Refetch setup past sound actor seq ok

pub sound : (setup : Setup) (past : List Event) → is_legal setup past → IsSound setup past
sound setup [] legal = sound-start setup
sound setup (e ∷ past) legal = sound-next setup past (sound setup past legal.1) e legal.0

-- The law: each instruction moves by the eight steps alone.
pub moved : (setup : Setup) (past : List Event) → is_legal setup past → (e : Event)
    → refused setup past e ≡ None → (s : ℕ)
    → moves (stage (fate past s)) (stage (fate (e ∷ past) s)) ≡ true
moved setup past legal e ok s = moved_if_sound setup past (sound setup past legal) e ok s
