-- What is listed, and what stands before a question, put together from what was read.
use Rattle.std.proofs.Common.{◌≡◌, ℕ, suc, ◌+◌, ◌-◌, ◌<◌, ◌≤◌, List, [], ◌∷◌, ◌++◌, refl, sym, ap, ◌∙◌, subst, inl, inr, arith, append_assoc, append-nil}
use Rattle.litmus_tests.specs.declared.condition.Observed.{Observed}
use Rattle.litmus_tests.specs.declared.condition.Observed.TheVariants as observed
use Rattle.litmus_words.specs.declared.word.{Word.Word, Declared.Declared}
use Rattle.litmus_words.specs.declared.word.Token.{Token}
use Rattle.litmus_words.specs.declared.word.Token.TheVariants.{Location, Mark}
use Rattle.litmus_words.specs.declared.word.Mark.TheVariants as mark
use Rattle.litmus_words.specs.Parts.{ObservedTaken}
use Rattle.litmus_words.specs.Tokens.{Takes}
use Rattle.litmus_words.proofs.Taking.{one_behind_another, same_rest}
use Rattle.litmus_reading.specs.Fitting.{IsThere}
use Rattle.litmus_reading.specs.Names.{elements_of}
use Rattle.litmus_reading.specs.Questions.{elements_from, listed_none, listed_last, listed_more, ItemTaken, ListedTaken, ListTaken, WholeTaken}

-- one item
pub one_taken : (harts : ℕ) (words rest : List Word) (one : Observed) (before after : List Observed) (whole same : List ℕ)
    → ObservedTaken words one rest → IsThere harts one → after ≡ before ++ one ∷ [] → same ≡ whole
    → ItemTaken harts words before whole after same rest
one_taken harts words rest one before after whole same taken there is kept = record {
  text = taken.text;
  listed = one ∷ [];
  whole = [];
  spells = inl (record { one = one; spelled = taken.spells; there = there; lists = refl; none = refl });
  added = is;
  added_whole = kept ∙ sym (append-nil whole);
  takes = taken.takes;
}

pub whole_taken : (harts : ℕ) (words rest : List Word) (declared : Declared) (before after : List Observed) (whole later : List ℕ)
    → WholeTaken words declared rest → after ≡ before ++ elements_from (elements_of declared) declared.first
    → later ≡ whole ++ declared.first ∷ [] → ItemTaken harts words before whole after later rest
whole_taken harts words rest declared before after whole later taken is so = record {
  text = Location declared ∷ [];
  listed = elements_from (elements_of declared) declared.first;
  whole = declared.first ∷ [];
  spells = inr (record {
    declared = declared;
    spelled = refl;
    array = taken.array;
    elements = refl;
    first = refl;
  });
  added = is;
  added_whole = so;
  takes = taken.takes;
}

grown : {A : Type 0} (before after new others : List A) → after ≡ before ++ new
    → before ++ (new ++ others) ≡ after ++ others
grown {A} before after new others is =
    sym (append_assoc before new others) ∙ ap (λ (t : List A). t ++ others) (sym is)

-- one more, with a `;` behind it
pub item_more : (harts : ℕ) (words rest behind next : List Word) (before after : List Observed) (whole whole_after : List ℕ)
    → ((others : List Observed) (w : List ℕ) (end : List Word) → ListedTaken harts rest others w end
    → ListedTaken harts words (before ++ others) (whole ++ w) end)
    → ItemTaken harts rest before whole after whole_after behind → Takes behind (Mark mark.Semicolon ∷ []) next
    → (others : List Observed) (w : List ℕ) (end : List Word) → ListedTaken harts next others w end
    → ListedTaken harts words (after ++ others) (whole_after ++ w) end
item_more harts words rest behind next before after whole whole_after so_far taken semicolon others w end listed =
    subst (λ (t : List Observed). ListedTaken harts words t (whole_after ++ w) end)
    (grown before after taken.listed others taken.added)
    (subst (λ (t : List ℕ). ListedTaken harts words (before ++ (taken.listed ++ others)) t end)
    (grown whole whole_after taken.whole w taken.added_whole)
    (so_far (taken.listed ++ others) (taken.whole ++ w) end (record {
      text = taken.text ++ Mark mark.Semicolon ∷ listed.text;
      spells = listed_more taken.text listed.text taken.listed others taken.whole w taken.spells listed.spells;
      takes = subst (λ (t : List Token). Takes rest t end)
          (sym (append_assoc taken.text (Mark mark.Semicolon ∷ listed.text) (Mark mark.RightBracket ∷ [])))
          (one_behind_another rest behind end taken.text
          (Mark mark.Semicolon ∷ listed.text ++ Mark mark.RightBracket ∷ []) taken.takes
          (one_behind_another behind next end (Mark mark.Semicolon ∷ []) (listed.text ++ Mark mark.RightBracket ∷ [])
          semicolon listed.takes));
    })))

-- the last, with the bracket behind it
pub item_last : (harts : ℕ) (words rest behind end : List Word) (before after : List Observed) (whole whole_after : List ℕ)
    → ((others : List Observed) (w : List ℕ) (end : List Word) → ListedTaken harts rest others w end
    → ListedTaken harts words (before ++ others) (whole ++ w) end)
    → ItemTaken harts rest before whole after whole_after behind → Takes behind (Mark mark.RightBracket ∷ []) end
    → ListedTaken harts words after whole_after end
item_last harts words rest behind end before after whole whole_after so_far taken closes =
    subst (λ (t : List Observed). ListedTaken harts words t whole_after end) (sym taken.added)
    (subst (λ (t : List ℕ). ListedTaken harts words (before ++ taken.listed) t end) (sym taken.added_whole)
    (so_far taken.listed taken.whole end (record {
      text = taken.text;
      spells = listed_last taken.text taken.listed taken.whole taken.spells;
      takes = one_behind_another rest behind end taken.text (Mark mark.RightBracket ∷ []) taken.takes closes;
    })))

pub no_item : (harts : ℕ) (words rest end : List Word) (before : List Observed) (whole : List ℕ)
    → ((others : List Observed) (w : List ℕ) (end : List Word) → ListedTaken harts rest others w end
    → ListedTaken harts words (before ++ others) (whole ++ w) end)
    → Takes rest (Mark mark.RightBracket ∷ []) end → ListedTaken harts words before whole end
no_item harts words rest end before whole so_far closes =
    subst (λ (t : List Observed). ListedTaken harts words t whole end) (append-nil before)
    (subst (λ (t : List ℕ). ListedTaken harts words (before ++ []) t end) (append-nil whole)
    (so_far [] [] end (record { text = []; spells = listed_none; takes = closes })))

-- nothing is listed before the first
pub at_first : (harts : ℕ) (words : List Word) (listed : List Observed) (whole : List ℕ) → listed ≡ [] → whole ≡ []
    → (others : List Observed) (w : List ℕ) (end : List Word) → ListedTaken harts words others w end
    → ListedTaken harts words (listed ++ others) (whole ++ w) end
at_first harts words listed whole none_listed none_whole others w end taken =
    subst (λ (t : List Observed). ListedTaken harts words (t ++ others) (whole ++ w) end) (sym none_listed)
    (subst (λ (t : List ℕ). ListedTaken harts words others (t ++ w) end) (sym none_whole) taken)

pub of_list : (harts : ℕ) (words behind inside rest : List Word) (listed : List Observed) (whole : List ℕ)
    → Takes words (Mark mark.Locations ∷ []) behind → Takes behind (Mark mark.LeftBracket ∷ []) inside
    → ListedTaken harts inside listed whole rest → ListTaken harts words listed whole rest
of_list harts words behind inside rest listed whole first second are = record {
  inside = inside;
  opens = one_behind_another words behind inside (Mark mark.Locations ∷ []) (Mark mark.LeftBracket ∷ []) first second;
  are = are;
}

pub list_inside : (harts : ℕ) (words behind inside rest : List Word) (listed : List Observed) (whole : List ℕ)
    → Takes words (Mark mark.Locations ∷ []) behind → Takes behind (Mark mark.LeftBracket ∷ []) inside
    → ListTaken harts words listed whole rest → ListedTaken harts inside listed whole rest
list_inside harts words behind inside rest listed whole first second it =
    subst (λ (t : List Word). ListedTaken harts t listed whole rest)
    (same_rest words it.inside inside (Mark mark.Locations ∷ Mark mark.LeftBracket ∷ []) it.opens
    (one_behind_another words behind inside (Mark mark.Locations ∷ []) (Mark mark.LeftBracket ∷ []) first second)) it.are

-- the elements of an array, one more at each turn
pub element_listed : (count last first element index : ℕ) (all before after : List Observed) → last ≡ count
    → element < last
    → before ++ elements_from (count - element) (first + element) ≡ all → index ≡ first + element
    → after ≡ before ++ observed.Location index ∷ []
    → after ++ elements_from (count - (element + 1)) (first + (element + 1)) ≡ all
element_listed count last first element index all before after end inside so_far at is =
    let left : count - element ≡ suc (count - (element + 1)) = omega (arith, end, inside) in
    let next : first + (element + 1) ≡ first + element + 1 = omega arith in
    ap (λ (t : List Observed). t ++ elements_from (count - (element + 1)) (first + (element + 1))) is
    ∙ append_assoc before (observed.Location index ∷ []) (elements_from (count - (element + 1)) (first + (element + 1)))
    ∙ ap (λ (n : ℕ). before ++ observed.Location n ∷ elements_from (count - (element + 1)) (first + (element + 1))) at
    ∙ ap (λ (n : ℕ). before ++ observed.Location (first + element) ∷ elements_from (count - (element + 1)) n) next
    ∙ ap (λ (n : ℕ). before ++ elements_from n (first + element)) (sym left) ∙ so_far

pub all_elements_listed : (count last first element : ℕ) (all before : List Observed) → last ≡ count → last ≤ element
    → before ++ elements_from (count - element) (first + element) ≡ all → before ≡ all
all_elements_listed count last first element all before end past so_far =
    let none : count - element ≡ 0 = omega (arith, end, past) in
    sym (append-nil before) ∙ ap (λ (n : ℕ). before ++ elements_from n (first + element)) (sym none) ∙ so_far
