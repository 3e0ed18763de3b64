-- A hart across an event that squashes nothing: its places, and the harts that the event isn't of.
use Rattle.std.specs.Prelude.{◌≡◌, ◌≢◌, ℕ, Bool, true, false, List, [], ◌∷◌, length, None}
use Rattle.std.specs.List.{filter}
use Rattle.std.proofs.Common.{◌∙◌, sym, ap, subst, inl, inr, arith}
use Rattle.std.proofs.{lemmas.Bool.cases_eq, lemmas.Bool.Decides.nat_tests}
use Rattle.events.specs.{declared.event.Event.Event, Event.seq_of}
use Rattle.smt_model.specs.{Setup.Setup, Flights.numbers, Flights.added, Memory.status, Fetching.fetch_pc}
use Rattle.smt_model.specs.{Rules.refused, Rules.is_legal, Picture.picture, Steps.IsSameHart}
use Rattle.smt_model.specs.Fates.{Fate, InDecode, InRename, fate, is, is_in_flight, is_counted, is_of}
use Rattle.smt_model.specs.Registers.{mapped, committed, given_register, writer}
use Rattle.smt_model.proofs.Fates.Numbers.{numbers-of}
use Rattle.smt_laws.proofs.{Registers.Sources.writes-of, Registers.Namings.phys-kept}
use Rattle.smt_laws.proofs.Events.Freeing.{ClaimsTheSame}
use Rattle.smt_laws.proofs.Events.Calm.{IsCalm, fate-other, place-calm, writer-calm}

true_false : true ≢ false
true_false same = grind arith

-- The event isn't of hart g.
pub record IsElsewhere (past : List Event) (e : Event) (g : ℕ) : Type 0 where
  pub calm : IsCalm past e
  pub adds_none : added e g ≡ []
  pub not_of : is_of past g (seq_of e) ≡ false

place-elsewhere : (setup : Setup) (past : List Event) → is_legal setup past → (e : Event) (g : ℕ) → IsElsewhere past e g
    → (test : Fate → Bool)
    → filter (λ s. test (fate (e ∷ past) s)) (numbers (e ∷ past) g) ≡ filter (λ s. test (fate past s)) (numbers past g)
place-elsewhere setup past legal e g away test =
    place-calm e past away.calm test g away.adds_none (λ inside.
    absurd (true_false (sym (numbers-of setup past legal g (seq_of e) inside) ∙ away.not_of)))

pub writer-elsewhere : (setup : Setup) (past : List Event) → is_legal setup past → (e : Event)
    → refused setup past e ≡ None → (g r : ℕ)
    → IsElsewhere past e g → given_register e ≡ [] → writer (e ∷ past) g r ≡ writer past g r
writer-elsewhere setup past legal e ok g r away none =
    writer-calm setup past legal e ok away.calm none g r (λ mine late.
    absurd (true_false (sym (writes-of past g r (seq_of e) mine) ∙ away.not_of)))

-- All of hart g stays.
pub elsewhere : (setup : Setup) (past : List Event) → is_legal setup past → (e : Event)
    → refused setup past e ≡ None → (g : ℕ)
    → IsElsewhere past e g
    → ((r : ℕ) → mapped (e ∷ past) g r ≡ mapped past g r) → ((r : ℕ) → committed (e ∷ past) g r ≡ committed past g r)
    → fetch_pc setup (e ∷ past) g ≡ fetch_pc setup past g → status (e ∷ past) g ≡ status past g
    → IsSameHart (picture setup past) (picture setup (e ∷ past)) g
elsewhere setup past legal e ok g away map commits pc stands_so = record {
  in_decode = place-elsewhere setup past legal e g away (λ f. is f InDecode);
  in_rename = place-elsewhere setup past legal e g away (λ f. is f InRename);
  flight = place-elsewhere setup past legal e g away is_in_flight;
  icount = ap length (place-elsewhere setup past legal e g away is_counted);
  mapped = λ r low high. map r;
  committed = λ r low high. commits r;
  fetch_pc = pc;
  status = stands_so;
}

-- A place of the event's own hart, which the instruction neither enters nor leaves.
pub place-kept : (e : Event) (past : List Event) → IsCalm past e → (test : Fate → Bool) (h : ℕ) → added e h ≡ []
    → test (fate (e ∷ past) (seq_of e)) ≡ test (fate past (seq_of e))
    → filter (λ s. test (fate (e ∷ past) s)) (numbers (e ∷ past) h) ≡ filter (λ s. test (fate past s)) (numbers past h)
place-kept e past calm test h none own = place-calm e past calm test h none (λ inside. own)

-- Claims stay where the instruction is in flight after as before, and nothing is committed.
pub claims-calm : (setup : Setup) (past : List Event) (e : Event) → refused setup past e ≡ None → IsCalm past e
    → is_in_flight (fate (e ∷ past) (seq_of e)) ≡ is_in_flight (fate past (seq_of e))
    → ((h r : ℕ) → committed (e ∷ past) h r ≡ committed past h r) → ClaimsTheSame setup past (e ∷ past)
claims-calm setup past e ok calm own commits = record {
  flies = λ s.
      elim (cases_eq (seq_of e) s) [
        | inl same ↦ subst (λ z. is_in_flight (fate (e ∷ past) z) ≡ is_in_flight (fate past z)) same own
        | inr other ↦ ap is_in_flight (fate-other e past s other (calm s))
      ];
  names = λ s flies. phys-kept setup past e ok s (λ two. absurd (grind (arith, nat_tests)));
  commits = λ h r is_register. commits h r;
}
