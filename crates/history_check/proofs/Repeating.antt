-- The run of a core's records comes to what the core's account says, and no step of it is refused.
use Rattle.std.proofs.Common.{◌≡◌, ℕ, List, [], ◌∷◌, ◌++◌, Some, None, map, reverse, refl, ap, sym, ◌∙◌}
use Rattle.std.proofs.lemmas.List.{map-append, reverse-append, reverse-reverse}
use Rattle.elf_image.specs.Image.{ProgramImage}
use Rattle.smt_model.specs.{Words.Record, Plain.Run, Plain.run}
use Rattle.smt_model.specs.{Account.records, Basics.below, Memory.output, Memory.status}
use Rattle.smt_model.specs.declared.config.Status.{Status}
use Rattle.core_state.specs.View.{CoreView}
use Rattle.sc_machine.specs.declared.refused.Stopped.{Stopped}
use Rattle.smt_core.specs.Headline.{IsPlainRun}
use Rattle.plain_run.specs.{Left.Left, Orders.HasLeft, Orders.IsStoppedAt}
use Rattle.history_check.specs.Rerun.{IsAccountOf, IsRetirementOrder}

map-reverse : (f : Record → ℕ) (xs : List Record) → map f (reverse xs) ≡ reverse (map f xs)
map-reverse f [] = refl
map-reverse f (x ∷ xs) =
    ap (map f) (reverse-append (x ∷ []) xs)
    ∙ (map-append f (reverse xs) (reverse (x ∷ []))
    ∙ (ap (λ ys. ys ++ f x ∷ []) (map-reverse f xs) ∙ sym (reverse-append (f x ∷ []) (map f xs))))

same_run : (a b : Run) → Some a ≡ Some b → a ≡ b
same_run a b same = cc

no_run : (a : Run) → Some a ≡ None → ⊥
no_run a same = cc

module _ (core : CoreView) (retired : List Record) (bytes : List ℕ) (statuses : List Status) (order : List ℕ)
    (is : IsPlainRun core.setup retired bytes statuses) (harts : order ≡ map (λ (r : Record). r.hart) retired) where
  -- The order is that of the account's run.
  runs_order : run core.setup (reverse order) ≡ Some is.ran
  runs_order =
      ap (λ xs. run core.setup (reverse xs)) harts
      ∙ (ap (run core.setup) (sym (map-reverse (λ (r : Record). r.hart) retired)) ∙ is.runs)

  pub same_account : (plain : Left) → HasLeft core.setup order plain → retired ≡ reverse (records core.past)
      → bytes ≡ output core.past → statuses ≡ map (status core.past) (below core.setup.harts) → IsAccountOf core plain
  same_account plain has of_records of_output of_statuses =
      let same : has.ran ≡ is.ran = same_run has.ran is.ran (sym has.runs ∙ runs_order) in
      record {
        records_are = has.records ∙ (ap (λ (r : Run). reverse r.records) same ∙ (is.records ∙ of_records));
        output_is = has.output ∙ (ap (λ (r : Run). r.state.output) same ∙ (is.output ∙ of_output));
        statuses_are = has.statuses
            ∙ (ap (λ (r : Run). map r.state.statuses (below core.setup.harts)) same ∙ (is.stands ∙ of_statuses));
      }

  pub not_stopped : (image : ProgramImage) (harts_there index : ℕ) (why : Stopped) → core.setup.image ≡ image
      → core.setup.harts ≡ harts_there → IsStoppedAt image harts_there order index why → ⊥
  not_stopped image harts_there index why of_image of_harts stopped =
      no_run is.ran (sym runs_order ∙ (stopped.at core.setup of_image of_harts).undefined)

  pub in_order : retired ≡ reverse (records core.past) → IsRetirementOrder core order
  in_order of_records = record {
    reversed = ap reverse (harts ∙ (ap (map (λ (r : Record). r.hart)) of_records
        ∙ map-reverse (λ (r : Record). r.hart) (records core.past)))
        ∙ reverse-reverse (map (λ (r : Record). r.hart) (records core.past));
    unstopped = λ index why stopped. not_stopped core.setup.image core.setup.harts index why refl refl stopped;
  }
