-- What a core replies to the next ask: an event that is allowed, or none where none is. And a history is all that it
-- can have after some asks.
use Rattle.std.specs.Prelude.{◌≡◌, ℕ, suc, true, List, [], ◌∷◌, Option, Some, None, is_some}
use Rattle.std.proofs.Common.{◌∙◌, refl, sym, ap, subst, inl, inr, arith}
use Rattle.events.specs.declared.event.Event.{Event}
use Rattle.smt_model.specs.{Setup.Setup, Asks.Ask, Asks.answers, Account.order}
use Rattle.smt_model.specs.Rules.{refused, is_legal}
use Rattle.smt_laws.specs.Shown.{Predictor, IsDecided}
use Rattle.smt_laws.specs.Scripts.{IsReply, HasReplied, RepliesAreOne}
use Rattle.smt_laws.proofs.Showing.{Turns.IsSoFar, Answering.asks_have_one_answer}

pub refused_one : (o : Option ℕ) → (o ≡ None → ⊥) → is_some o ≡ true
refused_one None never = absurd (never refl)
refused_one (Some n) never = refl

-- ---- The history goes on

pub answered : (setup : Setup) (predict : Predictor) (asks : List Ask) (harts now : List ℕ) (past : List Event)
    (most : ℕ) → IsSoFar setup predict asks harts past most → (ask : Ask) (e : Event)
    → (ok : refused setup past e ≡ None)
    → answers ask past e ≡ true → IsDecided setup predict past e → order (e ∷ past) ≡ now
    → IsSoFar setup predict (ask ∷ asks) now (e ∷ past) (suc most)
answered setup predict asks harts now past most so ask e ok suits decided in_order =
    let count = so.count in
    record {
      legal = (ok, so.legal);
      decided = (decided, so.decided);
      replied = (
        past,
        (so.replied, inl (record { event = e; allowed = ok; suits = suits; decided = decided; grown = refl })),
      );
      in_order = in_order;
      count = omega arith;
    }

pub unanswered : (setup : Setup) (predict : Predictor) (asks : List Ask) (harts : List ℕ) (past : List Event) (most : ℕ)
    → IsSoFar setup predict asks harts past most → (ask : Ask)
    → ((e : Event) → answers ask past e ≡ true → is_some (refused setup past e) ≡ true)
    → IsSoFar setup predict (ask ∷ asks) harts past most
unanswered setup predict asks harts past most so ask none = record {
  legal = so.legal;
  decided = so.decided;
  replied = (past, (so.replied, inr (record { none = none; same = refl })));
  in_order = so.in_order;
  count = so.count;
}

-- ---- One history alone

reply-legal : (setup : Setup) (predict : Predictor) (ask : Ask) (past now : List Event) → is_legal setup past
    → IsReply setup predict ask past now → is_legal setup now
reply-legal setup predict ask past now legal (inl grows) =
    subst (is_legal setup) (sym grows.grown) (grows.allowed, legal)
reply-legal setup predict ask past now legal (inr stays) = subst (is_legal setup) (sym stays.same) legal

replied-legal : (setup : Setup) (predict : Predictor) (asks : List Ask) (now : List Event)
    → HasReplied setup predict asks now → is_legal setup now
replied-legal setup predict [] now none = subst (is_legal setup) (sym none) tt
replied-legal setup predict (ask ∷ asks) now replied =
    reply-legal setup predict ask replied.0 now (replied-legal setup predict asks replied.0 replied.1.0) replied.1.1

never_refused : (o : Option ℕ) → o ≡ None → is_some o ≡ true → ⊥
never_refused o none some = absurd (grind arith)

-- Both replies on one history are the same.
replies-same : (setup : Setup) (predict : Predictor) (ask : Ask) (past one two : List Event) → is_legal setup past
    → IsReply setup predict ask past one → IsReply setup predict ask past two → one ≡ two
replies-same setup predict ask past one two legal (inl a) (inl b) =
    a.grown
    ∙ (ap (λ e. e ∷ past) (asks_have_one_answer setup predict past legal ask a.event b.event a.allowed a.suits a.decided
    b.allowed b.suits b.decided)
    ∙ sym b.grown)
replies-same setup predict ask past one two legal (inl a) (inr b) =
    absurd (never_refused (refused setup past a.event) a.allowed (b.none a.event a.suits))
replies-same setup predict ask past one two legal (inr a) (inl b) =
    absurd (never_refused (refused setup past b.event) b.allowed (a.none b.event b.suits))
replies-same setup predict ask past one two legal (inr a) (inr b) = a.same ∙ sym b.same

pub replies_are_one : RepliesAreOne
replies_are_one setup predict [] one two a b = a ∙ sym b
replies_are_one setup predict (ask ∷ asks) one two a b =
    let before : a.0 ≡ b.0 = replies_are_one setup predict asks a.0 b.0 a.1.0 b.1.0 in
    replies-same setup predict ask b.0 one two (replied-legal setup predict asks b.0 b.1.0)
    (subst (λ z. IsReply setup predict ask z one) before a.1.1) b.1.1
