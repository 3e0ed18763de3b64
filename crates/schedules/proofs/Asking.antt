-- What the words of a schedule ask for is the script of its turns.
use Rattle.std.specs.Prelude.{◌≡◌, ℕ, zero, suc, Bool, true, false, List, [], ◌∷◌, ◌++◌, Option, Some, None}
use Rattle.std.specs.Prelude.{flat_map, map, replicate, reverse, if◌then◌else◌}
use Rattle.std.proofs.Common.{refl, ap, ◌∙◌, append-nil}
use Rattle.std.proofs.lemmas.List.{reverse-append, map_push}
use Rattle.std.proofs.lemmas.List.Concat.{flat_map-append}
use Rattle.rv_instr.specs.declared.op.UnitKind.TheVariants.{Alu, Mul}
use Rattle.events.specs.declared.role.Role.{Role}
use Rattle.smt_model.specs.Asks.{Ask, AskFetch, AskDecode, AskRename, AskRetire}
use Rattle.smt_model.specs.declared.turn.Turn.{Turn}
use Rattle.smt_laws.specs.Scripts.{unit_of_kind, with_unit, fetch_asks, asks_in_turn, turns_script}
use Rattle.scripts.specs.{declared.actions.ScriptWord.ScriptWord, Lines.words_in}
use Rattle.scripts.specs.declared.actions.Action.TheVariants as action
use Rattle.schedules.specs.Asks.{asks_of_action, asks_of}
use Rattle.schedules.specs.declared.units.Units.{Units}
use Rattle.schedules.specs.Turns.{AreUnits, once, unit_words, fetch_words, turn_words, first_words, schedule_lines}

pub reverse_cons : {A : Type 0} (x : A) (xs : List A) → reverse (x ∷ xs) ≡ reverse xs ++ x ∷ []
reverse_cons x xs = reverse-append (x ∷ []) xs

-- ---- The fetches at the start

fetches : (n : ℕ) → flat_map asks_of_action (replicate n (action.Fetch 0)) ≡ fetch_asks n
fetches zero = refl
fetches (suc n) = ap (λ asks. AskFetch 0 ∷ asks) (fetches n)

one_more : (n : ℕ) → fetch_asks n ++ AskFetch 0 ∷ [] ≡ AskFetch 0 ∷ fetch_asks n
one_more zero = refl
one_more (suc n) = ap (λ asks. AskFetch 0 ∷ asks) (one_more n)

reversed : (n : ℕ) → reverse (fetch_asks n) ≡ fetch_asks n
reversed zero = refl
reversed (suc n) =
    reverse_cons (AskFetch 0) (fetch_asks n)
    ∙ (ap (λ asks. asks ++ AskFetch 0 ∷ []) (reversed n) ∙ one_more n)

at_start : (n : ℕ) → reverse (asks_of (first_words n ++ [])) ≡ fetch_asks n
at_start n =
    ap reverse (append-nil (flat_map asks_of_action (replicate n (action.Fetch 0))) ∙ fetches n) ∙ reversed n

-- ---- A turn

abbrev words_by : Option ℕ → Option ℕ → Option ℕ → Bool → ℕ → List ScriptWord
words_by a b c fetches h =
    once (action.Decode 0 h) ∷ once (action.Rename 0 h) ∷ (unit_words a ++ (unit_words b ++ (unit_words c
    ++ (once (action.Retire 0 h) ∷ fetch_words fetches))))

abbrev last_by : Option ℕ → Option ℕ → Option ℕ → ℕ → List Ask → List Ask
last_by a b c h asks =
    AskRetire 0 h ∷ with_unit c (with_unit b (with_unit a (AskRename 0 h ∷ AskDecode 0 h ∷ asks)))

abbrev asks_by : Option ℕ → Option ℕ → Option ℕ → Bool → ℕ → List Ask → List Ask
asks_by a b c fetches h asks = if fetches then AskFetch 0 ∷ last_by a b c h asks else last_by a b c h asks

turn_by : (a b c : Option ℕ) (fetches : Bool) (h : ℕ) (asks : List Ask)
    → reverse (asks_of (words_by a b c fetches h)) ++ asks ≡ asks_by a b c fetches h asks
turn_by None None None true h asks = refl
turn_by None None (Some z) true h asks = refl
turn_by None (Some y) None true h asks = refl
turn_by None (Some y) (Some z) true h asks = refl
turn_by (Some x) None None true h asks = refl
turn_by (Some x) None (Some z) true h asks = refl
turn_by (Some x) (Some y) None true h asks = refl
turn_by (Some x) (Some y) (Some z) true h asks = refl
turn_by None None None false h asks = refl
turn_by None None (Some z) false h asks = refl
turn_by None (Some y) None false h asks = refl
turn_by None (Some y) (Some z) false h asks = refl
turn_by (Some x) None None false h asks = refl
turn_by (Some x) None (Some z) false h asks = refl
turn_by (Some x) (Some y) None false h asks = refl
turn_by (Some x) (Some y) (Some z) false h asks = refl

turned : (roles : List Role) (units : Units) → AreUnits roles units → (t : Turn) (asks : List Ask)
    → reverse (asks_of (turn_words units t)) ++ asks ≡ asks_in_turn roles t asks
turned roles units are t asks =
    turn_by units.alu units.mul units.mem t.fetches t.hart asks
    ∙ (ap (λ o. asks_by o units.mul units.mem t.fetches t.hart asks) are.alu
    ∙ (ap (λ o. asks_by (unit_of_kind roles Alu) o units.mem t.fetches t.hart asks) are.mul
    ∙ ap (λ o. asks_by (unit_of_kind roles Alu) (unit_of_kind roles Mul) o t.fetches t.hart asks) are.mem))

-- ---- All turns

module _ (harts : ℕ) (roles : List Role) (units : Units) (are : AreUnits roles units) where
  abbrev words : List Turn → List ScriptWord
  words turns = words_in (schedule_lines harts units turns)

  words_more : (turns : List Turn) (t : Turn) → words (turns ++ t ∷ []) ≡ words turns ++ turn_words units t
  words_more turns t =
      ap (λ lines. words_in (first_words harts ∷ lines)) (map_push (turn_words units) turns t)
      ∙ (flat_map-append (λ (ws : List ScriptWord). ws) (first_words harts ∷ map (turn_words units) turns)
      (turn_words units t ∷ [])
      ∙ ap (λ ws. words turns ++ ws) (append-nil (turn_words units t)))

  asks_more : (turns : List Turn) (t : Turn)
      → reverse (asks_of (words (turns ++ t ∷ []))) ≡ asks_in_turn roles t (reverse (asks_of (words turns)))
  asks_more turns t =
      ap (λ ws. reverse (asks_of ws)) (words_more turns t)
      ∙ (ap reverse (flat_map-append (λ w. flat_map asks_of_action (replicate w.repeat w.action)) (words turns)
      (turn_words units t))
      ∙ (reverse-append (asks_of (words turns)) (asks_of (turn_words units t))
      ∙ turned roles units are t (reverse (asks_of (words turns)))))

  -- Turns with their last first.
  asked : (turns : List Turn) → reverse (asks_of (words (reverse turns))) ≡ turns_script harts roles turns
  asked [] = at_start harts
  asked (t ∷ turns) =
      ap (λ ts. reverse (asks_of (words ts))) (reverse_cons t turns)
      ∙ (asks_more (reverse turns) t ∙ ap (asks_in_turn roles t) (asked turns))

  pub asks_are : (turns newest : List Turn) → turns ≡ reverse newest
      → reverse (asks_of (words turns)) ≡ turns_script harts roles newest
  asks_are turns newest is = ap (λ ts. reverse (asks_of (words ts))) is ∙ asked newest
