-- The turns of an order, step by step, as the plain machine runs it.
use Rattle.std.specs.Prelude.{◌≡◌, ℕ, ◌<◌, Bool, true, false, not, ◌&&◌, ◌||◌, List, [], ◌∷◌, ◌++◌, Option, Some, None}
use Rattle.std.specs.Prelude.{◌≢◌, ◌==◌, if◌then◌else◌, get_or, slice_set, length, map, replicate, reverse}
use Rattle.std.specs.Prelude.{nat_lt, zero, suc, ◌≤◌}
use Rattle.std.proofs.Common.{refl, sym, ap, subst, ◌∙◌, append_assoc, inl, inr, arith}
use Rattle.std.proofs.Common.{get_or-set_same, get_or-set_other}
use Rattle.std.proofs.{lemmas.Bool.cases_Bool, lemmas.Bool.cases_eq, lemmas.Bool.Decides.nat_tests}
use Rattle.std.proofs.lemmas.List.{reverse-append}
use Rattle.elf_image.specs.Image.{ProgramImage, code_writable}
use Rattle.events.specs.declared.effect.Record.{Record}
use Rattle.smt_model.specs.{Basics.same_number, Setup.Setup}
use Rattle.smt_model.specs.Plain.{Run, run, start, advance, step, word_at_pc, is_going_status}
use Rattle.smt_model.specs.declared.turn.Turn.{Turn}
use Rattle.smt_laws.specs.Scripts.{turns_of, refetching, is_stale, waiting_word, word_after, goes_after}
use Rattle.sc_machine.specs.{Machine.Machine, Machine.Agrees, Machine.InEachState, Steps.InEachRun, Steps.IsStep}
use Rattle.plain_run.specs.Orders.{OfEachSetup}
use Rattle.plain_run.proofs.Running.{HasMade, made_none, made_more}
use Rattle.schedules.specs.Ran.{whole_turn, turns_for, step_turns}
use Rattle.schedules.proofs.Asking.{reverse_cons}

-- ---- The turns

abbrev turn_with : Bool → ℕ → Turn
turn_with fetches h = record { hart = h; fetches = fetches }

step_reversed : (stale fetches : Bool) (h : ℕ) (turns : List Turn)
    → reverse (turn_with fetches h ∷ refetching stale h turns) ≡ reverse turns ++ step_turns stale fetches h
step_reversed false fetches h turns = reverse_cons (turn_with fetches h) turns
step_reversed true fetches h turns =
    reverse_cons (turn_with fetches h) (whole_turn h ∷ turns)
    ∙ (ap (λ ts. ts ++ turn_with fetches h ∷ []) (reverse_cons (whole_turn h) turns)
    ∙ append_assoc (reverse turns) (whole_turn h ∷ []) (turn_with fetches h ∷ []))

turns_more : (setup : Setup) (order : List ℕ) (h : ℕ) (writable : Bool) → code_writable setup.image ≡ writable
    → reverse (turns_for setup (h ∷ order))
    ≡ reverse (turns_for setup order)
    ++ step_turns (writable && is_stale setup order h) (not writable || goes_after (run setup (h ∷ order)) h) h
turns_more setup order h true is =
    rw is (step_reversed (is_stale setup order h) (goes_after (run setup (h ∷ order)) h) h (turns_of setup order))
turns_more setup order h false is = rw is (step_reversed false true h (map whole_turn order))

-- ---- What each hart has fetched

waits_own : (setup : Setup) (order : List ℕ) (h : ℕ)
    → waiting_word setup (h ∷ order) h ≡ word_after setup (run setup (h ∷ order)) h
waits_own setup order h = let same : (h == h) ≡ true = grind (arith, nat_tests) in rw same refl

waits_other : (setup : Setup) (order : List ℕ) (h g : ℕ) → g ≢ h
    → waiting_word setup (h ∷ order) g ≡ waiting_word setup order g
waits_other setup order h g apart = let other : (h == g) ≡ false = grind (arith, nat_tests) in rw other refl

-- ---- Step by step

-- The machine has run this order; these are its records and turns, and what each hart has fetched for its next step.
pub record HasTurned (setup : Setup) (order : List ℕ) (said : List Record) (turns : List Turn)
    (words : List (Option ℕ)) (m : Machine) : Type 0 where
  pub made : HasMade setup order said m
  pub turned : turns ≡ reverse (turns_for setup (reverse order))
  pub waiting : (h : ℕ) → h < setup.harts → get_or words h None ≡ waiting_word setup (reverse order) h

there_by : (setup : Setup) (h : ℕ) (before after : Run) → step setup h (Some before) ≡ Some after → h < setup.harts
there_by setup h before after made =
    elim (cases_Bool (nat_lt h setup.harts && is_going_status (before.state.statuses h))) [
      | inl both ↦ grind (arith, nat_tests)
      | inr none ↦ let never : None ≡ Some after = rw none at made in absurd (cc)
    ]

-- The hart of a step is there.
pub is_there : (setup : Setup) (order : List ℕ) (said : List Record) (h room : ℕ) (one : Record) (old new : Machine)
    → HasMade setup order said old → InEachRun old (λ setup before. IsStep setup room before h one new)
    → h < length new.harts
is_there setup order said h room one old new made steps =
    let now = steps setup made.ran made.agrees in
    let there = there_by setup h made.ran (advance setup h made.ran) now.made in
    let count = now.agrees.count in
    omega arith

module _ (setup : Setup) (order : List ℕ) (said : List Record) (turns : List Turn) (words : List (Option ℕ))
    (h room : ℕ) (one : Record) (old new : Machine) (was : HasTurned setup order said turns words old)
    (steps : InEachRun old (λ setup before. IsStep setup room before h one new)) where
  abbrev ran : Run
  ran = was.made.ran

  next : IsStep setup room ran h one new
  next = steps setup ran was.made.agrees

  until : reverse (order ++ h ∷ []) ≡ h ∷ reverse order
  until = reverse-append order (h ∷ [])

  runs_on : run setup (h ∷ reverse order) ≡ Some (advance setup h ran)
  runs_on = ap (step setup h) was.made.runs ∙ next.made

  stale_is : h < setup.harts
      → not (same_number (get_or words h None) one.word) ≡ is_stale setup (reverse order) h
  stale_is there =
      ap (λ w. not (same_number w one.word)) (was.waiting h there)
      ∙ ap (λ w. not (same_number (waiting_word setup (reverse order) h) w))
      (ap (λ r. r.word) next.said_is ∙ sym (ap (λ o. word_after setup o h) was.made.runs))

  pub turned_more : (stale fetches flag : Bool) (w : Option ℕ) → flag ≡ code_writable setup.image → h < setup.harts
      → h < length words
      → stale ≡ (code_writable setup.image && not (same_number (get_or words h None) one.word))
      → InEachState new (λ setup s. fetches ≡ (not flag || is_going_status (s.statuses h)))
      → InEachState new (λ setup s. w ≡ word_at_pc setup s h)
      → HasTurned setup (order ++ h ∷ []) (said ++ one ∷ []) (turns ++ step_turns stale fetches h)
      (slice_set words h w) new
  turned_more stale fetches flag w flag_is there inside is_so goes now =
      let writable = code_writable setup.image in
      let stale_so : stale ≡ (writable && is_stale setup (reverse order) h) =
      is_so ∙ ap (λ b. writable && b) (stale_is there) in
      let goes_so : fetches ≡ (not writable || goes_after (run setup (h ∷ reverse order)) h) =
      goes setup (advance setup h ran).state next.agrees
      ∙ ap (λ b. not b || is_going_status ((advance setup h ran).state.statuses h)) flag_is
      ∙ sym (ap (λ o. not writable || goes_after o h) runs_on) in
      let word : w ≡ word_after setup (run setup (h ∷ reverse order)) h =
      now setup (advance setup h ran).state next.agrees ∙ sym (ap (λ o. word_after setup o h) runs_on) in
      record {
        made = made_more setup order said h room one old new was.made steps;
        turned = ap (λ ts. ts ++ step_turns stale fetches h) was.turned
            ∙ (ap (λ b. reverse (turns_for setup (reverse order)) ++ step_turns b fetches h) stale_so
            ∙ (ap (λ b. reverse (turns_for setup (reverse order))
            ++ step_turns (writable && is_stale setup (reverse order) h) b h) goes_so
            ∙ (sym (turns_more setup (reverse order) h writable refl)
            ∙ ap (λ hs. reverse (turns_for setup hs)) (sym until))));
        waiting = λ g in_it. elim (cases_eq g h) [
          | inl same ↦
              subst (λ z. get_or (slice_set words h w) z None ≡ waiting_word setup (reverse (order ++ h ∷ [])) z)
              (sym same)
              (get_or-set_same words h w None inside
              ∙ (word ∙ (sym (waits_own setup (reverse order) h)
              ∙ ap (λ hs. waiting_word setup hs h) (sym until))))
          | inr apart ↦
              get_or-set_other words h g w None apart
              ∙ (was.waiting g in_it
              ∙ (sym (waits_other setup (reverse order) h g apart)
              ∙ ap (λ hs. waiting_word setup hs g) (sym until)))
        ];
      }

-- ---- What is needed at each step

module _ (image : ProgramImage) (harts : ℕ) (order : List ℕ) (said : List Record) (turns : List Turn)
    (words : List (Option ℕ)) (h room : ℕ) (one : Record) (old new : Machine)
    (was : OfEachSetup image harts (λ setup. HasTurned setup order said turns words old))
    (steps : InEachRun old (λ setup before. IsStep setup room before h one new)) where
  some : Setup
  some = record { image = image; harts = harts; extra = 0; queue = 0; roles = [] }

  pub hart_inside : h < harts
  unfolding some
  hart_inside =
      let made = (was some refl refl).made in
      let now = steps some made.ran made.agrees in
      there_by some h made.ran (advance some h made.ran) now.made

  pub hart_there : h < length new.harts
  unfolding some
  hart_there = is_there some order said h room one old new (was some refl refl).made steps

-- An element that is there is the same whatever stands for one that isn't.
got_any : (xs : List (Option ℕ)) (i : ℕ) (d : Option ℕ) → i < length xs → get_or xs i d ≡ get_or xs i None
got_any [] i d inside = absurd (omega arith)
got_any (x ∷ xs) zero d inside = refl
got_any (x ∷ xs) (suc i) d inside = got_any xs i d (omega arith)

pub stale_read : (words : List (Option ℕ)) (i h : ℕ) (d word : Option ℕ) (writable code stale : Bool) → i ≡ h
    → h < length words → writable ≡ code → stale ≡ (writable && not (same_number (get_or words i d) word))
    → stale ≡ (code && not (same_number (get_or words h None) word))
stale_read words i h d word writable code stale same inside same_code is =
    is
    ∙ (ap (λ w. w && not (same_number (get_or words i d) word)) same_code
    ∙ (ap (λ j. code && not (same_number (get_or words j d) word)) same
    ∙ ap (λ o. code && not (same_number o word)) (got_any words h d inside)))

-- ---- At the start

first_words : (w : Option ℕ) (n h : ℕ) → h < n → get_or (replicate n w) h None ≡ w
first_words w zero h inside = absurd (omega arith)
first_words w (suc n) zero inside = refl
first_words w (suc n) (suc h) inside = first_words w n h (omega arith)

no_turns : (setup : Setup) (writable : Bool) → code_writable setup.image ≡ writable → [] ≡ reverse (turns_for setup [])
no_turns setup true is = rw is refl
no_turns setup false is = rw is refl

pub turned_none : (setup : Setup) (m : Machine) (w : Option ℕ) → setup.harts ≤ 16 → Agrees setup (start setup) m
    → w ≡ word_at_pc setup (start setup) 0 → HasTurned setup [] [] [] (replicate 16 w) m
turned_none setup m w few agrees is = record {
  made = made_none setup m agrees;
  turned = no_turns setup (code_writable setup.image) refl;
  waiting = λ h there. first_words w 16 h (omega arith) ∙ is;
}
