-- The steps of an order, told one after another.
use Rattle.std.proofs.Common.{◌≡◌, ◌∙◌, ℕ, ◌+◌, ◌<◌, ◌≤◌, List, [], ◌∷◌, ◌++◌, Option, Some, length, take, reverse}
use Rattle.std.proofs.Common.{get_or, refl, sym, ap, subst, arith}
use Rattle.std.specs.Io.KnownBytes.{Appends}
use Rattle.std.proofs.lemmas.List.{append-nil, append_assoc, length_push, reverse-append}
use Rattle.text_fields.proofs.Appending.{appends_more}
use Rattle.smt_model.specs.{Setup.Setup, Plain.Run, Plain.advance, Plain.run, Plain.start, Plain.step}
use Rattle.sc_machine.specs.{Machine.Machine, Machine.Agrees, Machine.InEachState, Refusals.refusal}
use Rattle.sc_machine.specs.{Steps.InEachRun}
use Rattle.stories.specs.{Story.step_behind, Story.step_of, Story.steps}
use Rattle.story_text.specs.{Fields.unseen_text, Order.HasStory, Order.HasToldStep, Telling.HasTold, Telling.most_told}
use Rattle.story_text.specs.Order.{IsUnmade, IsUntold, OfEachStart, untold_at}
use Rattle.story_text.specs.declared.order.Unmade.{Unmade}
use Rattle.story_text.specs.declared.order.Unmade.TheVariants as unmade
use Rattle.story_text.specs.{Text.Plan, Text.head_text, Text.piece, Text.pieces, Text.unseen}
use Rattle.story_text.specs.declared.telling.Telling.{Telling}

-- These steps were told and made, the first word first.
pub record IsSoFar (plan : Plan) (setup : Setup) (order : List ℕ) (old new : Option (List ℕ)) (telling : Telling)
    (m : Machine) : Type 0 where
  pub ran : Run
  pub runs : run setup (reverse order) ≡ Some ran
  pub agrees : Agrees setup ran.state m
  pub told : HasTold plan.all (steps setup (reverse order)) telling
  pub few : length (steps setup (reverse order)) ≤ length order
  pub written : Appends old new (head_text plan.harts ++ pieces plan (steps setup (reverse order)))

pub none_yet : (plan : Plan) (setup : Setup) (old new : Option (List ℕ)) (telling : Telling) (m : Machine)
    → Agrees setup (start setup) m → HasTold plan.all [] telling → Appends old new (head_text plan.harts)
    → IsSoFar plan setup [] old new telling m
none_yet plan setup old new telling m agrees told head = record {
  ran = record { records = []; state = start setup };
  runs = refl;
  agrees = agrees;
  told = told;
  few = omega arith;
  written = subst (Appends old new) (sym (append-nil (head_text plan.harts))) head;
}

steps_more : (setup : Setup) (order : List ℕ) (h : ℕ) (ran : Run) → run setup (reverse order) ≡ Some ran
    → steps setup (reverse (order ++ h ∷ [])) ≡ step_of setup ran.state h ∷ steps setup (reverse order)
steps_more setup order h ran runs =
    ap (steps setup) (reverse-append order (h ∷ []))
    ∙ ap (λ o. step_behind setup o h ++ steps setup (reverse order)) runs

pub one_more : (plan : Plan) (setup : Setup) (order : List ℕ) (h : ℕ) (old mid new : Option (List ℕ))
    (was now : Telling) (m after : Machine) → IsSoFar plan setup order old mid was m → length order < most_told
    → InEachRun m (λ setup before. HasToldStep plan setup before h was now mid new after)
    → IsSoFar plan setup (order ++ h ∷ []) old new now after
one_more plan setup order h old mid new was now m after so few each =
    let one = each setup so.ran so.agrees in
    let past = steps setup (reverse order) in
    let this = step_of setup so.ran.state h in
    let head = head_text plan.harts in
    let more = steps_more setup order h so.ran so.runs in
    let under : length past < most_told = omega (arith, so.few, few) in
    let grown : length (order ++ h ∷ []) ≡ length order + 1 = length_push order h in
    let told = one.told past under so.told in
    let text = appends_more old mid new (head ++ pieces plan past) (piece plan past this) so.written
    (one.written past under so.told) in
    record {
      ran = advance setup h so.ran;
      runs = ap (run setup) (reverse-append order (h ∷ [])) ∙ (ap (step setup h) so.runs ∙ one.made);
      agrees = one.agrees;
      told = subst (λ steps. HasTold plan.all steps now) (sym more) told;
      few = subst (λ steps. length steps ≤ length (order ++ h ∷ [])) (sym more) (omega (arith, so.few, grown));
      written = subst (λ steps. Appends old new (head ++ pieces plan steps)) (sym more)
          (subst (Appends old new) (append_assoc head (pieces plan past) (piece plan past this)) text);
    }

pub ended : (plan : Plan) (setup : Setup) (order : List ℕ) (old mid new : Option (List ℕ)) (was : Telling) (m : Machine)
    → IsSoFar plan setup order old mid was m
    → Appends mid new (unseen_text (unseen plan.all (steps setup (reverse order))))
    → HasStory plan setup (reverse order) old new m
ended plan setup order old mid new was m so last =
    let past = steps setup (reverse order) in
    let head = head_text plan.harts in
    let count = unseen_text (unseen plan.all past) in
    let text = appends_more old mid new (head ++ pieces plan past) count so.written last in
    record {
      ran = so.ran;
      runs = so.runs;
      agrees = so.agrees;
      written = subst (Appends old new) (append_assoc head (pieces plan past) count) text;
    }

-- Where the step at a place of the order isn't made, it is refused there.
pub untold : (plan : Plan) (order : List ℕ) (index : ℕ) (old new : Option (List ℕ)) (was : Telling)
    (first m : Machine) (why : Unmade) → index < length order → m.room ≡ first.room → plan.harts ≡ length first.harts
    → OfEachStart first (λ setup. IsSoFar plan setup (take index order) old new was m)
    → InEachState m (λ setup s. IsUnmade setup m.room s plan.harts (get_or order index 0) why)
    → IsUntold order first (untold_at index why)
untold plan order index old new was first m (unmade.Step why) inside room harts so refused = (
  inside,
  λ setup agrees.
      let one = so setup agrees in
      record {
        before = one.ran;
        runs = one.runs;
        refused = subst (λ room. refusal setup room one.ran.state (get_or order index 0) ≡ Some why) room
            (refused setup one.ran.state one.agrees (harts ∙ agrees.count));
      },
)
untold plan order index old new was first m unmade.Output inside room harts so refused = tt
