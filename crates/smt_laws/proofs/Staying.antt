-- What a step of one hart leaves as it was: the other harts, and what was fetched, has retired and stands in memory.
use Rattle.std.specs.Prelude.{◌≡◌, ◌≢◌, ℕ, Bool, true, false, ◌==◌, List, [], ◌∷◌, None, length}
use Rattle.std.proofs.Common.{◌∙◌, sym, ap, arith}
use Rattle.std.specs.List.{filter}
use Rattle.std.proofs.lemmas.Bool.Decides.{nat_tests}
use Rattle.events.specs.{declared.event.Event.Event, Event.seq_of}
use Rattle.smt_model.specs.{Setup.Setup, Flights.numbers, Flights.added, Registers.writer, Registers.mapped}
use Rattle.smt_model.specs.{Registers.committed, Memory.status, Fetching.fetch_pc, Rules.refused, Rules.is_legal}
use Rattle.smt_model.specs.{Picture.picture, Steps.IsSameHart}
use Rattle.smt_model.specs.Fates.{Fate, InDecode, InRename, fate, is, is_of, is_in_flight, is_counted}
use Rattle.smt_model.specs.Frames.{HartPart, KeepsHart, IsSameHart, SameMap, Unless, changes, DecodeLatch, RenameLatch}
use Rattle.smt_model.specs.Frames.{ActiveList, Counter, Map, CommittedMap, FetchPc, Standing}
use Rattle.smt_model.proofs.Fates.Numbers.{is_of-is}
use Rattle.smt_laws.proofs.Events.Calm.{IsCalm, mapped-kept}
use Rattle.smt_laws.proofs.Events.Harts.{IsElsewhere, elsewhere, place-kept}

-- An instruction of hart h is of no other hart.
pub another : (past : List Event) (h g n : ℕ) → is_of past h n ≡ true → g ≢ h → is_of past g n ≡ false
another past h g n of_n other =
    is_of-is past h g n of_n ∙ (let apart : (h == g) ≡ false = grind (arith, nat_tests) in apart)

-- A calm event of hart h is of no other.
pub away : (past : List Event) (e : Event) → IsCalm past e → ((g : ℕ) → added e g ≡ []) → (h g : ℕ)
    → is_of past h (seq_of e) ≡ true
    → g ≢ h → IsElsewhere past e g
away past e calm none h g of_h other =
    record { calm = calm; adds_none = none g; not_of = another past h g (seq_of e) of_h other }

-- One that changes no map, no fetch pc and no standing of theirs leaves all other harts.
pub others-calm : (setup : Setup) (past : List Event) → is_legal setup past → (e : Event) → refused setup past e ≡ None
    → IsCalm past e
    → ((g : ℕ) → added e g ≡ []) → (h : ℕ) → is_of past h (seq_of e) ≡ true
    → ((g r : ℕ) → writer (e ∷ past) g r ≡ writer past g r)
    → ((g r : ℕ) → committed (e ∷ past) g r ≡ committed past g r)
    → ((g : ℕ) → g ≢ h → fetch_pc setup (e ∷ past) g ≡ fetch_pc setup past g)
    → ((g : ℕ) → status (e ∷ past) g ≡ status past g)
    → (g : ℕ) → g ≢ h → IsSameHart (picture setup past) (picture setup (e ∷ past)) g
others-calm setup past legal e ok calm none h of_h writes commits pc stands_so g other =
    elsewhere setup past legal e ok g (away past e calm none h g of_h other)
    (λ r. mapped-kept setup past legal e ok g r (writes g r)) (commits g)
    (pc g other) (stands_so g)

-- ---- The event's own hart

unless : {A B : Type 0} → (stops : Bool) → (A → B) → Unless stops A → Unless stops B
unless true keeps stays = tt
unless false keeps stays = keeps stays

-- A place of it stays where the instruction is in it after the event as before.
pub hart-calm : {parts : List HartPart} → (setup : Setup) (past : List Event) (e : Event) → IsCalm past e → (h : ℕ)
    → added e h ≡ []
    → (was now : Fate) → fate past (seq_of e) ≡ was → fate (e ∷ past) (seq_of e) ≡ now
    → Unless (changes parts DecodeLatch) (is now InDecode ≡ is was InDecode)
    → Unless (changes parts RenameLatch) (is now InRename ≡ is was InRename)
    → Unless (changes parts ActiveList) (is_in_flight now ≡ is_in_flight was)
    → Unless (changes parts Counter) (is_counted now ≡ is_counted was)
    → Unless (changes parts Map) (SameMap (mapped (e ∷ past) h) (mapped past h))
    → Unless (changes parts CommittedMap) (SameMap (committed (e ∷ past) h) (committed past h))
    → Unless (changes parts FetchPc) (fetch_pc setup (e ∷ past) h ≡ fetch_pc setup past h)
    → Unless (changes parts Standing) (status (e ∷ past) h ≡ status past h)
    → KeepsHart parts (picture setup past) (picture setup (e ∷ past)) h
hart-calm {parts} setup past e calm h none was now is_was is_now decodes renames flies counts maps commits
    pc stands_so =
    let place : (test : Fate → Bool) → test now ≡ test was
    → filter (λ s. test (fate (e ∷ past) s)) (numbers (e ∷ past) h)
    ≡ filter (λ s. test (fate past s)) (numbers past h) =
    λ test same. place-kept e past calm test h none (ap test is_now ∙ (same ∙ ap test (sym is_was))) in
    record {
      in_decode = unless (changes parts DecodeLatch) (place (λ f. is f InDecode)) decodes;
      in_rename = unless (changes parts RenameLatch) (place (λ f. is f InRename)) renames;
      flight = unless (changes parts ActiveList) (place is_in_flight) flies;
      icount = unless (changes parts Counter) (λ same. ap length (place is_counted same)) counts;
      mapped = maps;
      committed = commits;
      fetch_pc = pc;
      status = stands_so;
    }
