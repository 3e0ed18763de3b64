-- One line after another.
use Rattle.std.specs.Prelude.{◌≡◌, ℕ, Bool, List, [], ◌∷◌, ◌++◌, Option, Some, None, Vec, Result}
use Rattle.std.proofs.Common.{refl, sym, ap, subst, ◌∙◌, arith}
use Rattle.std.proofs.lemmas.Grind.{common_steps}
use Rattle.std.specs.Io.KnownBytes.{Appends}
use Rattle.std.proofs.KnownBytes.{Appends-nil, Keeps-refl}
use Rattle.text_fields.specs.Printing.{Prints}
use Rattle.text_fields.proofs.Appending.{appends_more}
use Rattle.prompts.specs.declared.command.Command.TheVariants.{Quit}
use Rattle.prompts.specs.declared.session.Complaint.{Complaint}
use Rattle.prompts.specs.declared.session.Complaint.TheVariants.{Unread}
use Rattle.prompts.specs.declared.session.Session.{Session as AnySession}
use Rattle.prompts.specs.declared.prompting.Ended.{Ended}
use Rattle.prompts.specs.declared.prompting.Ended.TheVariants as ended
use Rattle.prompts.specs.{Typed.IsNextLine, Printed.sign, Printed.complaint_text}
use Rattle.prompts.specs.Answers.{IsAnswered, complaint_in, answer_text}
use Rattle.prompts.specs.Prompted.{Typed, HaveCome, HasTyped, IsPrompted, IsUnread, printed_of}
use Rattle.prompts.specs.{Kept.kept_in, Kept.Standing, Kept.Stands}
use Rattle.prompts.specs.Session.{IsSession, IsTurn, standing_of}
use Rattle.smt_model.specs.Setup.{Setup}
use Rattle.core_state.specs.View.{CoreView}

-- ---- One turn

module _ (explains : Bool) (old rest : Option (List ℕ)) (before : Standing) (out mid new : Option (List ℕ)) where
  pub answered_turn : {A : Type 0} (now : Standing) (line : List ℕ) (answer : Result (Vec ℕ A) Complaint)
      → Appends out mid sign → Appends mid new (answer_text answer) → IsNextLine old line rest
      → IsAnswered explains line (complaint_in answer) before now (answer_text answer)
      → Prints out new (IsTurn explains old rest before now None)
  answered_turn now line answer first second next is = (
    sign ++ answer_text answer,
    (line, complaint_in answer, answer_text answer, next, is, refl),
    appends_more out mid new sign (answer_text answer) first second,
  )

  pub unread_turn : (why : Complaint) → Appends out mid sign → Appends mid new (complaint_text why) → IsUnread why
      → Prints out new (IsTurn explains old rest before before (Some ended.Unread))
  unread_turn why first second unread = (
    sign ++ complaint_text why,
    (why, unread, refl, refl),
    appends_more out mid new sign (complaint_text why) first second,
  )

-- ---- All turns so far

-- Lines have come so far and were answered, and this was printed of them.
pub record AreSoFar (Holds : Standing → Type 0) (explains : Bool) (input rest : Option (List ℕ)) (now : Standing)
    (text : List ℕ) : Type 0 where
  pub typed : List Typed
  pub have_come : HaveCome Holds explains input typed rest now
  pub printed : text ≡ printed_of typed

both : (a b c d : List ℕ) → a ≡ c → b ≡ d → a ++ b ≡ c ++ d
both a b c d first second = ap (λ t. t ++ b) first ∙ ap (λ t. c ++ t) second

quits : (text more so_far : List ℕ) → text ≡ so_far → more ≡ sign → text ++ more ≡ (so_far ++ (sign ++ [])) ++ []
quits text more so_far first second =
    let alone : so_far ++ sign ≡ (so_far ++ (sign ++ [])) ++ [] = grind (arith, common_steps) in
    both text more so_far sign first second ∙ alone

module _ (Holds : Standing → Type 0) (explains : Bool) (input : Option (List ℕ)) where
  pub comes : (old rest : Option (List ℕ)) (before now : Standing) (text more : List ℕ)
      → AreSoFar Holds explains input old before text → IsTurn explains old rest before now None more → Holds now
      → AreSoFar Holds explains input rest now (text ++ more)
  comes old rest before now text more so_far turn holds = record {
    typed = record { line = turn.0; complaint = turn.1; answer = turn.2 } ∷ so_far.typed;
    have_come = (old, before, so_far.have_come, turn.3, turn.4, holds);
    printed = both text more (printed_of so_far.typed) (sign ++ turn.2) so_far.printed turn.5;
  }

  pub ends : (old rest : Option (List ℕ)) (before now : Standing) (end : Ended) (text more : List ℕ)
      → AreSoFar Holds explains input old before text → IsTurn explains old rest before now (Some end) more → Holds now
      → HasTyped Holds explains input now end (text ++ more)
  ends old rest before now ended.Quit text more so_far turn holds = record {
    typed = record { line = turn.0; complaint = None; answer = [] } ∷ so_far.typed;
    rest = rest;
    have_come = (old, before, so_far.have_come, turn.1, (Some Quit, turn.2, (turn.3, refl)), holds);
    last = [];
    is_end = (turn.2, refl);
    printed = quits text more (printed_of so_far.typed) so_far.printed turn.4;
  }
  ends old rest before now ended.Input text more so_far turn holds = record {
    typed = so_far.typed;
    rest = old;
    have_come =
        subst (λ (s : Standing). HaveCome Holds explains input so_far.typed old s) (sym turn.1) so_far.have_come;
    last = more;
    is_end = (turn.0, turn.2);
    printed = ap (λ t. t ++ more) so_far.printed;
  }
  ends old rest before now ended.Unread text more so_far turn holds = record {
    typed = so_far.typed;
    rest = old;
    have_come =
        subst (λ (s : Standing). HaveCome Holds explains input so_far.typed old s) (sym turn.2) so_far.have_come;
    last = more;
    is_end = (turn.0, turn.1, turn.3);
    printed = ap (λ t. t ++ more) so_far.printed;
  }

  pub starts : (out : Option (List ℕ)) (now : Standing) → now.kept ≡ [] → Holds now
      → Prints out out (AreSoFar Holds explains input input now)
  starts out now none holds = (
    [],
    record { typed = []; have_come = (Keeps-refl input, none, holds); printed = refl },
    Appends-nil out,
  )

  module _ (out mid new : Option (List ℕ)) where
    pub comes_on : (old rest : Option (List ℕ)) (before now : Standing) (answer : Option Ended) → answer ≡ None
        → Prints out mid (AreSoFar Holds explains input old before)
        → Prints mid new (IsTurn explains old rest before now answer) → Holds now
        → Prints out new (AreSoFar Holds explains input rest now)
    comes_on old rest before now answer is so_far turn holds = (
      so_far.0 ++ turn.0,
      comes old rest before now so_far.0 turn.0 so_far.1
          (subst (λ (a : Option Ended). IsTurn explains old rest before now a turn.0) is turn.1) holds,
      appends_more out mid new so_far.0 turn.0 so_far.2 turn.2,
    )

    pub ends_so : (old rest : Option (List ℕ)) (before now : Standing) (answer : Option Ended) (end : Ended)
        → answer ≡ Some end → Prints out mid (AreSoFar Holds explains input old before)
        → Prints mid new (IsTurn explains old rest before now answer) → Holds now
        → Prints out new (HasTyped Holds explains input now end)
    ends_so old rest before now answer end is so_far turn holds = (
      so_far.0 ++ turn.0,
      ends old rest before now end so_far.0 turn.0 so_far.1
          (subst (λ (a : Option Ended). IsTurn explains old rest before now a turn.0) is turn.1) holds,
      appends_more out mid new so_far.0 turn.0 so_far.2 turn.2,
    )

    -- they are given up
    pub stops : (rest last : Option (List ℕ)) (now : Standing) → Prints out mid (AreSoFar Holds explains input rest now)
        → Appends mid last sign → Appends last new (complaint_text Unread)
        → Prints out new (HasTyped Holds explains input now ended.Unread)
    stops rest last now so_far first second = (
      so_far.0 ++ (sign ++ complaint_text Unread),
      record {
        typed = so_far.1.typed;
        rest = rest;
        have_come = so_far.1.have_come;
        last = sign ++ complaint_text Unread;
        is_end = (Unread, tt, refl);
        printed = ap (λ t. t ++ (sign ++ complaint_text Unread)) so_far.1.printed;
      },
      appends_more out mid new so_far.0 _ so_far.2
          (appends_more mid last new sign (complaint_text Unread) first second),
    )

-- ---- What a session whose lines have come to their end has come to

module _ {P : Type 0} (predicts : P → ℕ → ℕ → ℕ → ℕ → P → Type 0) (before : P) (setup : Setup) (limit : ℕ)
    (explains : Bool) (input : Option (List ℕ)) where
  comes_to : (session : AnySession) (end : Ended) (core : CoreView) (idle text : List ℕ)
      → IsSession predicts before setup limit session
      → HasTyped (Stands predicts before setup limit) explains input (standing_of session) end text
      → core ≡ session.asked.core → idle ≡ session.asked.idle
      → IsPrompted predicts before setup limit explains input end core idle text
  comes_to session end core idle text is typed same_core same_idle =
      subst (λ (c : CoreView). IsPrompted predicts before setup limit explains input end c idle text) (sym same_core)
      (subst
      (λ (i : List ℕ). IsPrompted predicts before setup limit explains input end session.asked.core i text)
      (sym same_idle)
      (record {
        kept = kept_in session.lines.items;
        lines = session.asked.text.items;
        has_typed = typed;
        asked = is.asked;
      }))

  pub has_come_to : (session : AnySession) (end : Ended) (core : CoreView) (idle : List ℕ) (old new : Option (List ℕ))
      → IsSession predicts before setup limit session
      → Prints old new (HasTyped (Stands predicts before setup limit) explains input (standing_of session) end)
      → core ≡ session.asked.core → idle ≡ session.asked.idle
      → Prints old new (IsPrompted predicts before setup limit explains input end core idle)
  has_come_to session end core idle old new is typed same_core same_idle =
      (typed.0, comes_to session end core idle typed.0 is typed.1 same_core same_idle, typed.2)
