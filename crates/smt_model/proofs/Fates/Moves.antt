-- How an instruction moves on: what each event finds its own instruction at, and that every move is one of eight steps.
use Rattle.std.specs.Prelude.{◌≡◌, ◌⊎◌, ℕ, ◌+◌, ◌≤◌, Bool, true, false, ◌==◌, ◌&&◌, ◌||◌, nat_le, List, ◌∷◌, Option}
use Rattle.std.specs.Prelude.{Some, None}
use Rattle.std.proofs.Common.{refl, inl, inr, arith}
use Rattle.std.proofs.{lemmas.Bool.cases_Bool, lemmas.Bool.Decides.nat_tests}
use Rattle.events.specs.{declared.effect.Outcome.Outcome, declared.effect.Effect.Effect, declared.event.Event.Event}
use Rattle.events.specs.declared.event.Event.TheVariants.{Fetch, Decode, Rename, Issue, Complete, Drop, Retire, Refetch}
use Rattle.smt_model.specs.{Basics.same_number, Setup.Setup, Nexts.is_last, Rules.refused, Jobs.job, Jobs.is_actor}
use Rattle.smt_model.specs.Fates.{Fate, Unknown, InDecode, InRename, Renamed, Issued, Completed, Retired, Halted}
use Rattle.smt_model.specs.Fates.{Squashed, stage, is, fetches, fate, fate_by, squashes, retired_as}
use Rattle.smt_model.proofs.Allowed.{fetch_allowed, decode_allowed, rename_allowed, issue_allowed, complete_allowed}
use Rattle.smt_model.proofs.Allowed.{drop_allowed, retire_allowed, refetch_allowed}

-- ---- Fates and their stages

pub stage_of : (f g : Fate) → is f g ≡ true → stage f ≡ stage g
stage_of f g same = grind (arith, nat_tests)

pub is_at : (f g : Fate) → stage f ≡ stage g → is f g ≡ true
is_at f g same = grind (arith, nat_tests)

pub fate_at : (f g : Fate) → stage f ≡ stage g → f ≡ g
fate_at Unknown g same = grind arith
fate_at InDecode g same = grind arith
fate_at InRename g same = grind arith
fate_at Renamed g same = grind arith
fate_at Issued g same = grind arith
fate_at Completed g same = grind arith
fate_at Retired g same = grind arith
fate_at Halted g same = grind arith
fate_at Squashed g same = grind arith

-- An event that says nothing of an instruction and doesn't squash it leaves it where it is.
pub fate-kept : (e : Event) (past : List Event) (s : ℕ) → fate_by e s ≡ None → squashes e past s ≡ false
    → fate (e ∷ past) s ≡ fate past s
fate-kept e past s tells spared = rw (tells, spared)

pub stage-squashed : (e : Event) (past : List Event) (s : ℕ) → fate_by e s ≡ None → squashes e past s ≡ true
    → 1 ≤ stage (fate past s) → stage (fate past s) ≤ 5 → stage (fate (e ∷ past) s) ≡ 8
stage-squashed e past s tells squashes_it one five = rw (tells, squashes_it) (grind (arith, nat_tests))

-- ---- What holds of jobs and of numbers that aren't given yet

-- An actor has it as its open job.
pub record IsLent (past : List Event) (s : ℕ) : Type 0 where
  pub actor : ℕ
  pub job_is : job past actor ≡ Some s

-- Issued, or squashed.
abbrev pub is_open : ℕ → Bool
is_open n = (n == 4) || (n == 8)

pub record IsSound (setup : Setup) (past : List Event) : Type 0 where
  -- A number that isn't given yet is unknown.
  pub fresh : (s : ℕ) → fetches past ≤ s → stage (fate past s) ≡ 0
  -- An open job is of an actor, and is issued or squashed.
  pub jobs : (k s : ℕ) → job past k ≡ Some s → is_open (stage (fate past s)) ≡ true
  pub actors : (k s : ℕ) → job past k ≡ Some s → is_actor setup k ≡ true
  -- No two actors have one job.
  pub alone : (j k s : ℕ) → job past j ≡ Some s → job past k ≡ Some s → j ≡ k
  -- Each issued instruction is someone's job.
  pub lent : (s : ℕ) → stage (fate past s) ≡ 4 → IsLent past s

-- ---- Where each event finds its instruction

pub fetch_number : (setup : Setup) (past : List Event) (actor hart seq pc : ℕ) (word : Option ℕ) (predicted : ℕ)
    → refused setup past (Fetch actor hart seq pc word predicted) ≡ None → seq ≡ fetches past
fetch_number setup past actor hart seq pc word predicted ok =
    let is = (fetch_allowed setup past actor hart seq pc word predicted ok).next_number in grind (arith, nat_tests)

pub fetch_was : (setup : Setup) (past : List Event) → IsSound setup past
    → (actor hart seq pc : ℕ) (word : Option ℕ) (predicted : ℕ)
    → refused setup past (Fetch actor hart seq pc word predicted) ≡ None → stage (fate past seq) ≡ 0
fetch_was setup past sound actor hart seq pc word predicted ok =
    let given = fetch_number setup past actor hart seq pc word predicted ok in sound.fresh seq (omega arith)

pub decode_was : (setup : Setup) (past : List Event) (actor seq : ℕ) → refused setup past (Decode actor seq) ≡ None
    → stage (fate past seq) ≡ 1
decode_was setup past actor seq ok = stage_of (fate past seq) InDecode (decode_allowed setup past actor seq ok).fated

pub rename_was : (setup : Setup) (past : List Event) (actor seq : ℕ) (phys : Option ℕ)
    → refused setup past (Rename actor seq phys) ≡ None
    → stage (fate past seq) ≡ 2
rename_was setup past actor seq phys ok =
    stage_of (fate past seq) InRename (rename_allowed setup past actor seq phys ok).fated

pub issue_was : (setup : Setup) (past : List Event) (actor seq : ℕ) → refused setup past (Issue actor seq) ≡ None
    → stage (fate past seq) ≡ 3
issue_was setup past actor seq ok = stage_of (fate past seq) Renamed (issue_allowed setup past actor seq ok).fated

-- Two options of numbers that pass the test are one.
pub same_number-is : (a b : Option ℕ) → same_number a b ≡ true → a ≡ b
same_number-is None None same = refl
same_number-is None (Some n) same = grind arith
same_number-is (Some m) None same = grind arith
same_number-is (Some m) (Some n) same = grind (arith, nat_tests)

pub same_number-self : (a : Option ℕ) → same_number a a ≡ true
same_number-self None = refl
same_number-self (Some n) = grind (arith, nat_tests)

pub complete_lent : (setup : Setup) (past : List Event) (actor seq : ℕ) (outcome : Outcome)
    → refused setup past (Complete actor seq outcome) ≡ None → job past actor ≡ Some seq
complete_lent setup past actor seq outcome ok =
    same_number-is (job past actor) (Some seq) (complete_allowed setup past actor seq outcome ok).lent

pub drop_lent : (setup : Setup) (past : List Event) (actor seq : ℕ) → refused setup past (Drop actor seq) ≡ None
    → job past actor ≡ Some seq
drop_lent setup past actor seq ok =
    same_number-is (job past actor) (Some seq) (drop_allowed setup past actor seq ok).lent

pub complete_was : (setup : Setup) (past : List Event) → IsSound setup past → (actor seq : ℕ) (outcome : Outcome)
    → refused setup past (Complete actor seq outcome) ≡ None → stage (fate past seq) ≡ 4
complete_was setup past sound actor seq outcome ok =
    let spared = (complete_allowed setup past actor seq outcome ok).spared in
    let open_job = sound.jobs actor seq (complete_lent setup past actor seq outcome ok) in
    grind (arith, nat_tests)

pub drop_was : (setup : Setup) (past : List Event) (actor seq : ℕ) → refused setup past (Drop actor seq) ≡ None
    → stage (fate past seq) ≡ 8
drop_was setup past actor seq ok = stage_of (fate past seq) Squashed (drop_allowed setup past actor seq ok).fated

pub retire_was : (setup : Setup) (past : List Event) (actor seq : ℕ) (effect : Effect)
    → refused setup past (Retire actor seq effect) ≡ None → stage (fate past seq) ≡ 5
retire_was setup past actor seq effect ok =
    stage_of (fate past seq) Completed (retire_allowed setup past actor seq effect ok).fated

pub refetch_was : (setup : Setup) (past : List Event) (actor seq : ℕ) → refused setup past (Refetch actor seq) ≡ None
    → stage (fate past seq) ≡ 5
refetch_was setup past actor seq ok =
    stage_of (fate past seq) Completed (refetch_allowed setup past actor seq ok).fated

-- ---- The eight steps

-- From stage a to stage b: nowhere, one on as far as retired, from completed to halted, or squashed where live.
abbrev pub moves : ℕ → ℕ → Bool
moves a b =
    (a == b) || (((b == a + 1) && nat_le b 6) || (((a == 5) && (b == 7)) || ((nat_le 1 a && nat_le a 5) && (b == 8))))

pub stage-retired_as : (effect : Effect) → (stage (retired_as effect.next) ≡ 6) ⊎ (stage (retired_as effect.next) ≡ 7)
stage-retired_as effect =
    let cases : (is_last effect.next ≡ true) ⊎ (is_last effect.next ≡ false) = cases_Bool (is_last effect.next) in
    elim cases [
      | inl last ↦ inr (rw last)
      | inr going ↦ inl (rw going)
    ]

pub moved-Fetch : (setup : Setup) (past : List Event) → IsSound setup past
    → (actor hart seq pc : ℕ) (word : Option ℕ) (predicted : ℕ)
    → refused setup past (Fetch actor hart seq pc word predicted) ≡ None → (s : ℕ)
    → moves (stage (fate past s)) (stage (fate (Fetch actor hart seq pc word predicted ∷ past) s)) ≡ true
moved-Fetch setup past sound actor hart seq pc word predicted ok s =
    let was = fetch_was setup past sound actor hart seq pc word predicted ok in grind (arith, nat_tests)

pub moved-Decode : (setup : Setup) (past : List Event) (actor seq : ℕ)
    → refused setup past (Decode actor seq) ≡ None → (s : ℕ)
    → moves (stage (fate past s)) (stage (fate (Decode actor seq ∷ past) s)) ≡ true
moved-Decode setup past actor seq ok s = let was = decode_was setup past actor seq ok in grind (arith, nat_tests)

pub moved-Rename : (setup : Setup) (past : List Event) (actor seq : ℕ) (phys : Option ℕ)
    → refused setup past (Rename actor seq phys) ≡ None → (s : ℕ)
    → moves (stage (fate past s)) (stage (fate (Rename actor seq phys ∷ past) s)) ≡ true
moved-Rename setup past actor seq phys ok s =
    let was = rename_was setup past actor seq phys ok in grind (arith, nat_tests)

pub moved-Issue : (setup : Setup) (past : List Event) (actor seq : ℕ)
    → refused setup past (Issue actor seq) ≡ None → (s : ℕ)
    → moves (stage (fate past s)) (stage (fate (Issue actor seq ∷ past) s)) ≡ true
moved-Issue setup past actor seq ok s = let was = issue_was setup past actor seq ok in grind (arith, nat_tests)

pub moved-Complete : (setup : Setup) (past : List Event) → IsSound setup past → (actor seq : ℕ) (outcome : Outcome)
    → refused setup past (Complete actor seq outcome) ≡ None → (s : ℕ)
    → moves (stage (fate past s)) (stage (fate (Complete actor seq outcome ∷ past) s)) ≡ true
moved-Complete setup past sound actor seq outcome ok s =
    let was = complete_was setup past sound actor seq outcome ok in grind (arith, nat_tests)

pub moved-Drop : (past : List Event) (actor seq s : ℕ)
    → moves (stage (fate past s)) (stage (fate (Drop actor seq ∷ past) s)) ≡ true
moved-Drop past actor seq s = grind (arith, nat_tests)

pub moved-Retire : (setup : Setup) (past : List Event) (actor seq : ℕ) (effect : Effect)
    → refused setup past (Retire actor seq effect) ≡ None → (s : ℕ)
    → moves (stage (fate past s)) (stage (fate (Retire actor seq effect ∷ past) s)) ≡ true
moved-Retire setup past actor seq effect ok s =
    let was = retire_was setup past actor seq effect ok in grind (arith, nat_tests)

pub moved-Refetch : (past : List Event) (actor seq s : ℕ)
    → moves (stage (fate past s)) (stage (fate (Refetch actor seq ∷ past) s)) ≡ true
moved-Refetch past actor seq s = grind (arith, nat_tests)

pub moved_if_sound : (setup : Setup) (past : List Event) → IsSound setup past → (e : Event)
    → refused setup past e ≡ None → (s : ℕ)
    → moves (stage (fate past s)) (stage (fate (e ∷ past) s)) ≡ true
moved_if_sound setup past sound (Fetch actor hart seq pc word predicted) ok s =
    moved-Fetch setup past sound actor hart seq pc word predicted ok s
moved_if_sound setup past sound (Decode actor seq) ok s = moved-Decode setup past actor seq ok s
moved_if_sound setup past sound (Rename actor seq phys) ok s = moved-Rename setup past actor seq phys ok s
moved_if_sound setup past sound (Issue actor seq) ok s = moved-Issue setup past actor seq ok s
moved_if_sound setup past sound (Complete actor seq outcome) ok s =
    moved-Complete setup past sound actor seq outcome ok s
moved_if_sound setup past sound (Drop actor seq) ok s = moved-Drop past actor seq s
moved_if_sound setup past sound (Retire actor seq effect) ok s = moved-Retire setup past actor seq effect ok s
moved_if_sound setup past sound (Refetch actor seq) ok s = moved-Refetch past actor seq s
