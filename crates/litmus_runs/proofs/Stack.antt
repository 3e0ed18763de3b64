-- The work that is left while a hart's ways are followed: what was claimed of it stays true as one of it is taken up.
use Rattle.std.specs.Prelude.{◌≡◌, ◌⊎◌, ℕ, Bool, true, List, [], ◌∷◌, ◌++◌, length, All, Contains, Option, Some, None, slice_get}
use Rattle.std.proofs.Common.{sym, subst, ap, inl, inr, ◌∙◌}
use Rattle.std.proofs.lemmas.List.Elements.{All-nil, All-push, All-weaker, All-pop, Contains-push, Contains-push_cases, Contains-append_cases}
use Rattle.litmus_tests.specs.declared.test.Thread.{Thread}
use Rattle.litmus_runs.specs.declared.{access.Access.Access, hart.Hart.Hart, known.Held.Held, known.Known.Known}
use Rattle.litmus_runs.specs.declared.{runs.Run.Run, following.Going.Going, following.Ways.Ways, turns.Standing.Standing}
use Rattle.litmus_runs.specs.Steps.{those_made}
use Rattle.litmus_runs.specs.Ways.{IsAtStart}
use Rattle.litmus_runs.specs.AllWays.{IsFollowed, IsListed, AreLearnt, IsLastLearnt, AreAllListed, AreAllLearnt, Grows}
use Rattle.litmus_runs.specs.Work.{IsOfOne, HasDone, StandsFor, Comes, IsAllButLast, AreAllButLast, KeepsWays, HasGoneBeyond}
use Rattle.litmus_runs.proofs.Alike.{starts_alike}
use Rattle.litmus_runs.proofs.Leads.{none_in}

-- Each way that has come to its end is listed, or comes of what is left; what each has written is learnt, or it comes of
-- what is left.
abbrev pub AreListedOrLeft : Bool → Thread → List Held → List Run → List Going → Type 0
AreListedOrLeft conditionals thread known runs going = (last : Hart) → IsFollowed conditionals thread known last
    → slice_get thread.steps.items last.next ≡ None
    → IsListed runs last ⊎ Comes conditionals thread known going last

abbrev pub AreLearntOrLeft : Bool → Thread → List Held → List Held → List Going → Type 0
AreLearntOrLeft conditionals thread known table going = (last : Hart) → IsFollowed conditionals thread known last
    → AreLearnt table last.accesses.items ⊎ Comes conditionals thread known going last

-- At first all comes of the one at the start.
pub comes_of_start : (conditionals : Bool) (thread : Thread) (known : List Held) (one : Going) (last : Hart)
    → IsAtStart thread one.hart → length one.hart.registers ≡ 32 → one.before.items ≡ []
    → IsFollowed conditionals thread known last → Comes conditionals thread known ([] ++ one ∷ []) last
comes_of_start conditionals thread known one last starts long none followed = record {
  one = one;
  left = Contains-push [] one;
  trail = [];
  hart = followed.start;
  stands = record {
    same = starts_alike thread followed.start one.hart followed.size long followed.starts starts;
    kept = subst (λ (xs : List Standing). All (IsOfOne conditionals []) xs) (sym none) (All-nil (IsOfOne conditionals []));
    done = All-nil (HasDone followed.start);
  };
  leads = followed.way;
}

pub start_is_learnt : (thread : Thread) (table : List Held) (one : Going) → IsAtStart thread one.hart
    → AreAllButLast table ([] ++ one ∷ [])
start_is_learnt thread table one starts =
    All-push (λ (it : Going). IsAllButLast table it.hart.accesses.items) [] one
    (All-nil (λ (it : Going). IsAllButLast table it.hart.accesses.items))
    (record {
      before = [];
      made = None;
      is = starts.accesses;
      learnt = λ access number there writes. absurd (none_in access there);
    })

-- What is learnt stays so as the table grows.
pub learnt_more : (before after : Known) (accesses : List Access) → Grows before after
    → AreLearnt before.held.items accesses → AreLearnt after.held.items accesses
learnt_more before after accesses grows learnt access number there writes =
    grows.kept (record { location = access.location; number = number }) (learnt access number there writes)

pub all_but_last_more : (before after : Known) (going : List Going) → Grows before after
    → AreAllButLast before.held.items going → AreAllButLast after.held.items going
all_but_last_more before after going grows all =
    All-weaker (λ (it : Going). IsAllButLast before.held.items it.hart.accesses.items)
    (λ (it : Going). IsAllButLast after.held.items it.hart.accesses.items)
    (λ it but. record {
      before = but.before;
      made = but.made;
      is = but.is;
      learnt = learnt_more before after but.before grows but.learnt;
    }) going all

of_made : (table : List Held) (accesses before : List Access) (made : Option Access) → IsLastLearnt table accesses
    → accesses ≡ before ++ those_made made → (access : Access) (number : ℕ) → Contains (those_made made) access
    → access.writes ≡ Some number → Contains table (record { location = access.location; number = number })
of_made table accesses before None last is access number there writes = absurd (none_in access there)
of_made table accesses before (Some made) last is access number there writes =
    elim (Contains-push_cases [] made access there) [
      | inl none ↦ absurd (none_in access none)
      | inr same ↦
          last before access number (is ∙ ap (λ (a : Access). before ++ a ∷ []) same) writes
    ]

-- With the last one all are learnt.
pub all_learnt : (table : List Held) (accesses : List Access) → IsAllButLast table accesses
    → IsLastLearnt table accesses → AreLearnt table accesses
all_learnt table accesses but last access number there writes =
    elim (Contains-append_cases but.before (those_made but.made) access
    (subst (λ (xs : List Access). Contains xs access) but.is there)) [
      | inl before ↦ but.learnt access number before writes
      | inr this ↦ of_made table accesses but.before but.made last but.is access number this writes
    ]

-- One of what is left is taken up: what was listed or left is so behind it.
pub listed_further : (conditionals : Bool) (thread : Thread) (known : List Held) (from : Going)
    (old rest after : List Going) (before ways : Ways) → old ≡ rest ++ from ∷ [] → KeepsWays before ways
    → HasGoneBeyond conditionals thread known from rest after ways → ways.is_whole ≡ true
    → AreListedOrLeft conditionals thread known before.runs.items old
    → AreListedOrLeft conditionals thread known ways.runs.items after
listed_further conditionals thread known from old rest after before ways is keeps beyond whole claim last followed over =
    elim (claim last followed over) [
      | inl it ↦ inl (record {
        run = it.run;
        listed = keeps.kept it.run it.listed;
        accesses = it.accesses;
        registers = it.registers;
      })
      | inr comes ↦ elim (Contains-push_cases rest from comes.one
          (subst (λ (xs : List Going). Contains xs comes.one) is comes.left)) [
            | inl still ↦ inr (record {
              one = comes.one;
              left = beyond.left.kept comes.one still;
              trail = comes.trail;
              hart = comes.hart;
              stands = comes.stands;
              leads = comes.leads;
            })
            | inr this ↦ beyond.ended whole comes.trail comes.hart last
                (subst (λ (it : Going). StandsFor conditionals comes.trail comes.hart it) (sym this) comes.stands)
                comes.leads over
          ]
    ]

pub learnt_further : (conditionals : Bool) (thread : Thread) (known : List Held) (from : Going)
    (old rest after : List Going) (before table : Known) (ways : Ways) → old ≡ rest ++ from ∷ [] → Grows before table
    → HasGoneBeyond conditionals thread known from rest after ways → ways.is_whole ≡ true
    → AreLearnt table.held.items from.hart.accesses.items
    → AreLearntOrLeft conditionals thread known before.held.items old
    → AreLearntOrLeft conditionals thread known table.held.items after
learnt_further conditionals thread known from old rest after before table ways is grows beyond whole here claim last followed =
    elim (claim last followed) [
      | inl it ↦ inl (learnt_more before table last.accesses.items grows it)
      | inr comes ↦ elim (Contains-push_cases rest from comes.one
          (subst (λ (xs : List Going). Contains xs comes.one) is comes.left)) [
            | inl still ↦ inr (record {
              one = comes.one;
              left = beyond.left.kept comes.one still;
              trail = comes.trail;
              hart = comes.hart;
              stands = comes.stands;
              leads = comes.leads;
            })
            | inr this ↦
                let stands = subst (λ (it : Going). StandsFor conditionals comes.trail comes.hart it) (sym this)
                comes.stands in
                elim (beyond.passed whole comes.trail comes.hart last stands comes.leads) [
                  | inl same ↦ inl (subst (λ (it : Hart). AreLearnt table.held.items it.accesses.items) same
                      (subst (λ (xs : List Access). AreLearnt table.held.items xs) stands.same.accesses here))
                  | inr further ↦ inr further
                ]
          ]
    ]

-- What was learnt of the one that is taken up: all that it has done, by its last access.
pub this_is_learnt : (before table : Known) (old rest : List Going) (from : Going) → old ≡ rest ++ from ∷ []
    → Grows before table → AreAllButLast before.held.items old
    → IsLastLearnt table.held.items from.hart.accesses.items
    → AreLearnt table.held.items from.hart.accesses.items × AreAllButLast table.held.items rest
this_is_learnt before table old rest from is grows all last =
    let P = λ (it : Going). IsAllButLast before.held.items it.hart.accesses.items in
    let parts = All-pop P old rest (Some from) is all in
    let but = parts.1 in (
      all_learnt table.held.items from.hart.accesses.items
          (record {
            before = but.before;
            made = but.made;
            is = but.is;
            learnt = learnt_more before table but.before grows but.learnt;
          }) last,
      all_but_last_more before table rest grows parts.0,
    )

-- Where nothing is left all is listed, and learnt.
pub none_comes : (conditionals : Bool) (thread : Thread) (known : List Held) (going : List Going) (last : Hart)
    → going ≡ [] → Comes conditionals thread known going last → ⊥
none_comes conditionals thread known going last none comes =
    none_in comes.one (subst (λ (xs : List Going). Contains xs comes.one) none comes.left)

pub all_are_listed : (conditionals : Bool) (thread : Thread) (known : List Held) (runs : List Run) (going : List Going)
    → going ≡ [] → AreListedOrLeft conditionals thread known runs going
    → AreAllListed conditionals thread known runs
all_are_listed conditionals thread known runs going none claim last followed over = elim (claim last followed over) [
  | inl it ↦ it
  | inr comes ↦ absurd (none_comes conditionals thread known going last none comes)
]

pub all_are_learnt : (conditionals : Bool) (thread : Thread) (known table : List Held) (going : List Going)
    → going ≡ [] → AreLearntOrLeft conditionals thread known table going
    → AreAllLearnt conditionals thread known table
all_are_learnt conditionals thread known table going none claim last followed = elim (claim last followed) [
  | inl it ↦ it
  | inr comes ↦ absurd (none_comes conditionals thread known going last none comes)
]
