-- A core's rename: what it finds is allowed and answers the ask, the parts can make the step, and where it finds
-- nothing no rename is allowed.
use Rattle.std.specs.Prelude.{◌≡◌, ℕ, ◌<◌, ◌==◌, ◌&&◌, true, false, List, [], ◌∷◌, ◌++◌, length, Option, Some, None}
use Rattle.std.proofs.Common.{◌∙◌, refl, sym, subst, arith}
use Rattle.std.proofs.{lemmas.Bool.and_parts, lemmas.Bool.Decides.nat_tests}
use Rattle.events.specs.{History.EventList, declared.event.Event.Event}
use Rattle.events.specs.declared.event.Event.TheVariants.{Fetch, Decode, Rename, Issue, Complete, Drop, Retire, Refetch}
use Rattle.smt_model.specs.{Asks.answers, Asks.AskRename, Fates.is_of, Picture.Picture, Picture.picture, Rules.refused}
use Rattle.smt_model.specs.{Jobs.is_actor}
use Rattle.smt_model.proofs.Allowed.{rename_allowed}
use Rattle.smt_laws.proofs.Fates.Choosing.{hart_there}
use Rattle.core_parts.specs.{Agree.PartsAgree, Agree.KeepsSizes, Agree.From}
use Rattle.core_state.specs.{Answers.AllowsNone, Answers.IsLeastFree}
use Rattle.core_steps.specs.{Renaming.CanRename, Renaming.IsRenaming, Renaming.IsLeastIn}
use Rattle.core_state.specs.{State.IsCore, State.past_of}
use Rattle.core_state.specs.{State.setup_in, declared.state.State.TheInside.Inside}
use Rattle.core_parts.specs.{declared.parts.Parts.Parts}
use Rattle.core_state.specs.{State.view_of, View.CoreView}
use Rattle.core_state.proofs.{Steps.Invariant.core_grown, Steps.Invariant.quiet_rename, Steps.NoAnswer.allows_none, Steps.NoAnswer.core_sizes}
use Rattle.core_state.proofs.Steps.Rename.Rules.{decoded, rename_may, rename_can, renaming}

-- What the parts find to rename can be renamed in every picture with which they agree.
abbrev pub CanBeRenamed : Parts → ℕ → ℕ → Option ℕ → Type 0
CanBeRenamed x h n taken = (p : Picture) → PartsAgree p x → CanRename p x.queue.size h n taken

can_now : (i : Inside) (h n : ℕ) (taken : Option ℕ) → IsCore i → CanBeRenamed i.parts h n taken
    → CanRename (picture (setup_in i) (past_of i)) i.config.queue h n taken
can_now i h n taken core can =
    subst (λ size. CanRename (picture (setup_in i) (past_of i)) size h n taken) core.queue
    (can (picture (setup_in i) (past_of i)) core.agrees)

pub rename_of : (i : Inside) (h n : ℕ) (taken : Option ℕ) → IsCore i → CanBeRenamed i.parts h n taken
    → is_of (past_of i) h n ≡ true
rename_of i h n taken core can =
    (decoded (setup_in i) (past_of i) core.legal h n (can_now i h n taken core can).oldest).of_hart

pub rename_allowed_now : (i : Inside) (actor h n : ℕ) (taken : Option ℕ) → IsCore i → is_actor (setup_in i) actor ≡ true
    → CanBeRenamed i.parts h n taken → refused (setup_in i) (past_of i) (Rename actor n taken) ≡ None
rename_allowed_now i actor h n taken core actor_is can =
    rename_may (setup_in i) (past_of i) core.legal actor h n taken actor_is (can_now i h n taken core can)

-- One that may come next.
module _ (i : Inside) (core : IsCore i) (v : CoreView) (at : view_of i ≡ v) (actor h n : ℕ) (taken : Option ℕ)
    (ok : refused v.setup v.past (Rename actor n taken) ≡ None) (of_h : is_of v.past h n ≡ true) where
  allowed : refused (setup_in i) (past_of i) (Rename actor n taken) ≡ None
  allowed = subst (λ u. refused u.setup u.past (Rename actor n taken) ≡ None) (sym at) ok

  own : is_of (past_of i) h n ≡ true
  own = subst (λ u. is_of u.past h n ≡ true) (sym at) of_h

  step : IsRenaming (picture (setup_in i) (past_of i)) (picture (setup_in i) (Rename actor n taken ∷ past_of i))
      i.parts.queue.size h taken
  step =
      subst
      (λ size. IsRenaming (picture (setup_in i) (past_of i)) (picture (setup_in i) (Rename actor n taken ∷ past_of i))
      size h taken) (sym core.queue)
      (renaming (setup_in i) (past_of i) core.legal (core_sizes i core).registers actor h n taken allowed own)

  pub rename_starts : From i.parts h (λ p q. IsRenaming p q i.parts.queue.size h taken)
  rename_starts = record {
    before = picture (setup_in i) (past_of i);
    after = picture (setup_in i) (Rename actor n taken ∷ past_of i);
    inside = subst (λ m. h < m) (sym core.harts) (hart_there (setup_in i) (past_of i) core.legal h n own);
    agrees = core.agrees;
    step = step;
  }

  pub rename_core : (parts : Parts) (history : EventList)
      → ((p q : Picture) → PartsAgree p i.parts → IsRenaming p q i.parts.queue.size h taken → PartsAgree q parts)
      → KeepsSizes i.parts parts
      → history ≡ record i.history { items = i.history.items ++ Rename actor n taken ∷ [] }
      → IsCore (record i { parts = parts; history = history })
  rename_core parts history agrees sizes longer =
      core_grown i parts history (Rename actor n taken) core
      (record {
        allowed = allowed;
        agrees = agrees (picture (setup_in i) (past_of i)) (picture (setup_in i) (Rename actor n taken ∷ past_of i))
            core.agrees step;
        sizes = sizes;
      }) (quiet_rename actor n taken) longer

pub rename_answers : (past : List Event) (actor h n : ℕ) → is_of past h n ≡ true
    → ((actor == actor) && is_of past h n) ≡ true
rename_answers past actor h n of_n = let same : (actor == actor) ≡ true = grind (arith, nat_tests) in rw same of_n

pub least_now : (i : Inside) (taken : Option ℕ) → IsCore i → ((p : Picture) → PartsAgree p i.parts → IsLeastIn p taken)
    → IsLeastFree (setup_in i) (past_of i) taken
least_now i None core least = tt
least_now i (Some x) core least = λ y under. least (picture (setup_in i) (past_of i)) core.agrees x y refl under

-- ---- Where nothing is found

-- A rename that would answer is by this actor and of this hart.
no_rename : (i : Inside) (actor h : ℕ)
    → ((n : ℕ) (taken : Option ℕ) → is_of (past_of i) h n ≡ true
    → refused (setup_in i) (past_of i) (Rename actor n taken) ≡ None → ⊥)
    → (e : Event) → answers (AskRename actor h) (past_of i) e ≡ true → refused (setup_in i) (past_of i) e ≡ None → ⊥
no_rename i actor h wrong (Fetch k g s pc word predicted) asked ok = absurd (grind arith)
no_rename i actor h wrong (Decode k s) asked ok = absurd (grind arith)
no_rename i actor h wrong (Rename k s taken) asked ok =
    let both = and_parts (k == actor) (is_of (past_of i) h s) asked in
    let test = both.0 in
    let same : k ≡ actor = grind (arith, nat_tests) in
    wrong s taken both.1 (subst (λ a. refused (setup_in i) (past_of i) (Rename a s taken) ≡ None) same ok)
no_rename i actor h wrong (Issue k s) asked ok = absurd (grind arith)
no_rename i actor h wrong (Complete k s outcome) asked ok = absurd (grind arith)
no_rename i actor h wrong (Drop k s) asked ok = absurd (grind arith)
no_rename i actor h wrong (Retire k s effect) asked ok = absurd (grind arith)
no_rename i actor h wrong (Refetch k s) asked ok = absurd (grind arith)

pub no_actor : (i : Inside) (actor h : ℕ) → is_actor (setup_in i) actor ≡ false
    → AllowsNone (setup_in i) (AskRename actor h) (past_of i)
no_actor i actor h none =
    allows_none (setup_in i) (AskRename actor h) (past_of i) (no_rename i actor h (λ n taken of_n ok.
    let both : true ≡ false =
    sym (rename_allowed (setup_in i) (past_of i) actor n taken ok).actor_is ∙ none in absurd cc))

pub nothing_to_rename : (i : Inside) (actor h : ℕ) → IsCore i
    → ((p : Picture) → PartsAgree p i.parts → h < length i.parts.harts.items → (n : ℕ) (taken : Option ℕ)
    → CanRename p i.parts.queue.size h n taken → ⊥)
    → AllowsNone (setup_in i) (AskRename actor h) (past_of i)
nothing_to_rename i actor h core none =
    allows_none (setup_in i) (AskRename actor h) (past_of i) (no_rename i actor h (λ n taken of_n ok.
    let there = hart_there (setup_in i) (past_of i) core.legal h n of_n in
    none (picture (setup_in i) (past_of i)) core.agrees (subst (λ m. h < m) (sym core.harts) there) n taken
    (subst (λ size. CanRename (picture (setup_in i) (past_of i)) size h n taken) (sym core.queue)
    (rename_can (setup_in i) (past_of i) actor h n taken ok of_n))))
