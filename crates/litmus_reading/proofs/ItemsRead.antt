-- What is listed, as it is read: item by item.
use Rattle.std.proofs.Common.{◌≡◌, ◌⊎◌, ℕ, List, [], ◌∷◌, ◌++◌, Result, Ok, Err, IsErrAnd, refl, sym, ap, ◌∙◌, subst, inl, inr, append_assoc, append-nil}
use Rattle.std.specs.Prelude.{◌≢◌}
use Rattle.litmus_tests.specs.declared.condition.Observed.{Observed}
use Rattle.litmus_tests.specs.declared.condition.Observed.TheVariants as observed
use denote.Bor.{Bor}
use Rattle.litmus_words.specs.Answered.{GivesOrMemory}
use Rattle.litmus_words.specs.declared.refused.Stop.{Stop}
use Rattle.litmus_words.specs.declared.word.{Word.Word, Declared.Declared}
use Rattle.litmus_words.specs.declared.word.Token.{Token}
use Rattle.litmus_words.specs.declared.word.Token.TheVariants.{Location, Number, Register, Mark}
use Rattle.litmus_words.specs.declared.word.Mark.TheVariants as mark
use Rattle.litmus_words.specs.Parts.{NoIndex, ObservedTaken, SpellsIndex, SpellsObserved}
use Rattle.litmus_words.specs.Tokens.{Takes}
use Rattle.litmus_words.proofs.Taking.{begins_by, in_parts, same_first, same_rest}
use Rattle.litmus_reading.specs.Fitting.{IsThere}
use Rattle.litmus_reading.specs.Names.{elements_of}
use Rattle.litmus_reading.specs.Questions.{AreListed, ListedTaken, SpellsItem, WholeTaken, elements_from, listed_none, listed_last, listed_more}
use Rattle.litmus_reading.proofs.Chains.{passed_on}
use Rattle.litmus_reading.proofs.ConditionRead.{memory_so}
use Rattle.litmus_reading.proofs.Conditions.{no_index}

-- what one and an array as a whole are read as
abbrev pub OneOnly : ℕ → List Word → List Observed → List Observed → List ℕ → List ℕ
    → Result (Bor (List Word)) Stop → Type 0
OneOnly harts words before after whole later result = (one : Observed) → (rest : List Word)
    → ObservedTaken words one rest → IsThere harts one → NoIndex rest
    → GivesOrMemory result (λ behind. (behind.now ≡ rest) × (after ≡ before ++ one ∷ []) × (later ≡ whole))

abbrev pub WholeOnly : List Word → List Observed → List Observed → List ℕ → List ℕ
    → Result (Bor (List Word)) Stop → Type 0
WholeOnly words before after whole later result = (declared : Declared) → (rest : List Word)
    → WholeTaken words declared rest → NoIndex rest → GivesOrMemory result (λ behind. (behind.now ≡ rest)
    × (after ≡ before ++ elements_from (elements_of declared) declared.first)
    × (later ≡ whole ++ declared.first ∷ []))

abbrev pub ItemGiven : List Word → List Observed → List Observed → List ℕ → List ℕ → List Observed → List ℕ
    → Bor (List Word) → Type 0
ItemGiven rest before after whole later listed w behind =
    (behind.now ≡ rest) × (after ≡ before ++ listed) × (later ≡ whole ++ w)

pub item_only : (harts : ℕ) (words : List Word) (before after : List Observed) (whole later : List ℕ)
    (result : Result (Bor (List Word)) Stop) → OneOnly harts words before after whole later result
    → WholeOnly words before after whole later result → (text : List Token) (listed : List Observed) (w : List ℕ)
    (rest : List Word) → SpellsItem harts text listed w → Takes words text rest → NoIndex rest
    → GivesOrMemory result (ItemGiven rest before after whole later listed w)
item_only harts words before after whole later result one all text listed w rest (inl it) takes over =
    memory_so result
    (λ behind. (behind.now ≡ rest) × (after ≡ before ++ it.one ∷ []) × (later ≡ whole))
    (ItemGiven rest before after whole later listed w)
    (λ x read. (
      read.0,
      read.1 ∙ ap (λ (t : List Observed). before ++ t) (sym it.lists),
      read.2 ∙ sym (append-nil whole) ∙ ap (λ (t : List ℕ). whole ++ t) (sym it.none),
    ))
    (one it.one rest (record { text = text; spells = it.spelled; takes = takes }) it.there over)
item_only harts words before after whole later result one all text listed w rest (inr it) takes over =
    memory_so result
    (λ behind. (behind.now ≡ rest)
    × (after ≡ before ++ elements_from (elements_of it.declared) it.declared.first)
    × (later ≡ whole ++ it.declared.first ∷ []))
    (ItemGiven rest before after whole later listed w)
    (λ x read. (
      read.0,
      read.1 ∙ ap (λ (t : List Observed). before ++ t) (sym it.elements),
      read.2 ∙ ap (λ (t : List ℕ). whole ++ t) (sym it.first),
    ))
    (all it.declared rest
    (record { array = it.array; takes = subst (λ (t : List Token). Takes words t rest) it.spelled takes }) over)

-- an item begins with no bracket that closes
pub record ItemStart (text : List Token) : Type 0 where
  pub first : Token
  pub more : List Token
  pub is : text ≡ first ∷ more
  pub other : first ≢ Mark mark.RightBracket

location_other : (declared : Declared) → Location declared ≡ Mark mark.RightBracket → ⊥
location_other declared e = cc

number_other : (number : ℕ) → Number number ≡ Mark mark.RightBracket → ⊥
number_other number e = cc

bracket_other : Mark mark.LeftBracket ≡ Mark mark.RightBracket → ⊥
bracket_other e = cc

index_start : (declared : Declared) (text : List Token) (index : ℕ) → SpellsIndex declared text index → ItemStart text
index_start declared text index (inl alone) =
    record { first = Location declared; more = []; is = alone.0; other = location_other declared }
index_start declared text index (inr (inl bracketed)) = record {
  first = Mark mark.LeftBracket;
  more = Location declared ∷ Mark mark.RightBracket ∷ [];
  is = bracketed.0;
  other = bracket_other;
}
index_start declared text index (inr (inr element)) = record {
  first = Location declared;
  more = Mark mark.LeftBracket ∷ Number element.0 ∷ Mark mark.RightBracket ∷ [];
  is = element.1;
  other = location_other declared;
}

observed_start : (one : Observed) (text : List Token) → SpellsObserved text one → ItemStart text
observed_start (observed.Register hart register) text is =
    record { first = Number hart; more = Mark mark.Colon ∷ Register register ∷ []; is = is; other = number_other hart }
observed_start (observed.Location index) text is = index_start is.declared text index is.spelled

item_start : (harts : ℕ) (text : List Token) (listed : List Observed) (w : List ℕ) → SpellsItem harts text listed w
    → ItemStart text
item_start harts text listed w (inl it) = observed_start it.one text it.spelled
item_start harts text listed w (inr it) =
    record { first = Location it.declared; more = []; is = it.spelled; other = location_other it.declared }

pub no_closing : (harts : ℕ) (words behind rest : List Word) (text : List Token) (listed : List Observed) (w : List ℕ)
    → SpellsItem harts text listed w → Takes words text rest → Takes words (Mark mark.RightBracket ∷ []) behind → ⊥
no_closing harts words behind rest text listed w spells takes closes =
    let start = item_start harts text listed w spells in
    start.other (sym (same_first words behind rest (Mark mark.RightBracket) start.first start.more closes
    (subst (λ (t : List Token). Takes words t rest) start.is takes)))

semicolon_bracket : Mark mark.Semicolon ≡ Mark mark.LeftBracket → ⊥
semicolon_bracket e = cc

closing_bracket : Mark mark.RightBracket ≡ Mark mark.LeftBracket → ⊥
closing_bracket e = cc

semicolon_closing : Mark mark.Semicolon ≡ Mark mark.RightBracket → ⊥
semicolon_closing e = cc

-- the last item, or one behind which a `;` stands and more
pub record LastItem (between : List Word) (end : List Word) (listed more : List Observed) (w all : List ℕ) : Type 0 where
  pub closes : Takes between (Mark mark.RightBracket ∷ []) end
  pub is : more ≡ listed
  pub is_whole : all ≡ w

pub record MoreItems (harts : ℕ) (between : List Word) (end : List Word) (listed more : List Observed) (w all : List ℕ)
    : Type 0 where
  pub behind : List Word
  pub others : List Observed
  pub others_whole : List ℕ
  pub semicolon : Takes between (Mark mark.Semicolon ∷ []) behind
  pub are : ListedTaken harts behind others others_whole end
  pub is : more ≡ listed ++ others
  pub is_whole : all ≡ w ++ others_whole

pub record ItemFirst (harts : ℕ) (rest : List Word) (more : List Observed) (all : List ℕ) (end : List Word)
    : Type 0 where
  pub text : List Token
  pub listed : List Observed
  pub w : List ℕ
  pub between : List Word
  pub spells : SpellsItem harts text listed w
  pub takes : Takes rest text between
  pub over : NoIndex between
  pub further : LastItem between end listed more w all ⊎ MoreItems harts between end listed more w all

by_listed : (harts : ℕ) (rest end : List Word) (more : List Observed) (all : List ℕ) (text : List Token)
    → ((behind : List Word) → Takes rest (Mark mark.RightBracket ∷ []) behind → ⊥)
    → Takes rest (text ++ Mark mark.RightBracket ∷ []) end → AreListed harts more all text
    → ItemFirst harts rest more all end
by_listed harts rest end more all text off takes listed_none = absurd (off end takes)
by_listed harts rest end more all text off takes (listed_last one listed w spells) =
    let parts = in_parts rest end one (Mark mark.RightBracket ∷ []) takes in
    record {
      text = one;
      listed = listed;
      w = w;
      between = parts.between;
      spells = spells;
      takes = parts.before;
      over = no_index parts.between end (Mark mark.RightBracket) parts.behind closing_bracket;
      further = inl (record { closes = parts.behind; is = refl; is_whole = refl });
    }
by_listed harts rest end more all text off takes (listed_more one others listed further w further_whole spells are) =
    let parts = in_parts rest end one (Mark mark.Semicolon ∷ others ++ Mark mark.RightBracket ∷ [])
    (subst (λ (t : List Token). Takes rest t end)
    (append_assoc one (Mark mark.Semicolon ∷ others) (Mark mark.RightBracket ∷ [])) takes) in
    let inner = begins_by parts.between end (Mark mark.Semicolon) (others ++ Mark mark.RightBracket ∷ [])
    parts.behind in
    record {
      text = one;
      listed = listed;
      w = w;
      between = parts.between;
      spells = spells;
      takes = parts.before;
      over = no_index parts.between inner.between (Mark mark.Semicolon) inner.before semicolon_bracket;
      further = inr (record {
        behind = inner.between;
        others = further;
        others_whole = further_whole;
        semicolon = inner.before;
        are = record { text = others; spells = are; takes = inner.behind };
        is = refl;
        is_whole = refl;
      });
    }

-- what has been read so far, and what is left of each list that stands there
pub record LeftListed (harts : ℕ) (rest : List Word) (listed : List Observed) (whole : List ℕ) (all : List Observed)
    (all_whole : List ℕ) (end : List Word) : Type 0 where
  pub more : List Observed
  pub more_whole : List ℕ
  pub are : ListedTaken harts rest more more_whole end
  pub is : all ≡ listed ++ more
  pub is_whole : all_whole ≡ whole ++ more_whole

pub record ItemsSoFar (harts : ℕ) (words rest : List Word) (listed : List Observed) (whole : List ℕ) : Type 0 where
  pub taken : (more : List Observed) → (w : List ℕ) → (end : List Word) → ListedTaken harts rest more w end
      → ListedTaken harts words (listed ++ more) (whole ++ w) end
  pub left : (all : List Observed) → (all_whole : List ℕ) → (end : List Word)
      → ListedTaken harts words all all_whole end → LeftListed harts rest listed whole all all_whole end

pub none_so_far : (harts : ℕ) (words : List Word) (listed : List Observed) (whole : List ℕ) → listed ≡ [] → whole ≡ []
    → ((more : List Observed) → (w : List ℕ) → (end : List Word) → ListedTaken harts words more w end
    → ListedTaken harts words (listed ++ more) (whole ++ w) end) → ItemsSoFar harts words words listed whole
none_so_far harts words listed whole none none_whole taken = record {
  taken = taken;
  left = λ all all_whole end are. record {
    more = all;
    more_whole = all_whole;
    are = are;
    is = ap (λ (t : List Observed). t ++ all) (sym none);
    is_whole = ap (λ (t : List ℕ). t ++ all_whole) (sym none_whole);
  };
}

abbrev pub NotClosed : List Word → Type 0
NotClosed rest = (behind : List Word) → Takes rest (Mark mark.RightBracket ∷ []) behind → ⊥

first_of_left : (harts : ℕ) (rest : List Word) (listed : List Observed) (whole : List ℕ) (all : List Observed)
    (all_whole : List ℕ) (end : List Word) → NotClosed rest
    → (left : LeftListed harts rest listed whole all all_whole end)
    → ItemFirst harts rest left.more left.more_whole end
first_of_left harts rest listed whole all all_whole end off left =
    by_listed harts rest end left.more left.more_whole left.are.text off left.are.takes left.are.spells

-- an item that is refused
pub item_stops : (harts : ℕ) (words rest : List Word) (before after : List Observed) (whole later : List ℕ) (stop : Stop)
    (result : Result (Bor (List Word)) Stop) → ItemsSoFar harts words rest before whole → NotClosed rest
    → OneOnly harts rest before after whole later (Err stop) → WholeOnly rest before after whole later (Err stop)
    → IsErrAnd result (λ found. found ≡ stop) → (all : List Observed) (all_whole : List ℕ) (end : List Word)
    (P : Bor (List Word) → Type 0) → ListedTaken harts words all all_whole end → GivesOrMemory result P
item_stops harts words rest before after whole later stop result so off one many is all all_whole end P are =
    let first = first_of_left harts rest before whole all all_whole end off (so.left all all_whole end are) in
    passed_on result stop P (ItemGiven first.between before after whole later first.listed first.w) is
    (item_only harts rest before after whole later (Err stop) one many first.text first.listed first.w first.between
    first.spells first.takes first.over)

-- an item that is read, and what is left behind it
pub record ItemBehind (harts : ℕ) (behind end : List Word) (after all : List Observed) (later all_whole : List ℕ)
    : Type 0 where
  pub listed : List Observed
  pub w : List ℕ
  pub more : List Observed
  pub more_whole : List ℕ
  pub so : all ≡ after ++ more
  pub so_whole : all_whole ≡ later ++ more_whole
  pub further : (Takes behind (Mark mark.RightBracket ∷ []) end × (more ≡ []) × (more_whole ≡ []))
      ⊎ ((next : List Word) × Takes behind (Mark mark.Semicolon ∷ []) next
      × ListedTaken harts next more more_whole end)

behind_more : (harts : ℕ) (between behind end : List Word) (before after listed all more : List Observed)
    (whole later w all_whole more_whole : List ℕ) → behind ≡ between → after ≡ before ++ listed → later ≡ whole ++ w
    → all ≡ before ++ more → all_whole ≡ whole ++ more_whole
    → LastItem between end listed more w more_whole ⊎ MoreItems harts between end listed more w more_whole
    → ItemBehind harts behind end after all later all_whole
behind_more harts between behind end before after listed all more whole later w all_whole more_whole there is is_whole
    so so_whole (inl last) = record {
      listed = listed;
      w = w;
      more = [];
      more_whole = [];
      so = so ∙ ap (λ (t : List Observed). before ++ t) last.is ∙ sym is ∙ sym (append-nil after);
      so_whole = so_whole ∙ ap (λ (t : List ℕ). whole ++ t) last.is_whole ∙ sym is_whole ∙ sym (append-nil later);
      further = inl (
        subst (λ (t : List Word). Takes t (Mark mark.RightBracket ∷ []) end) (sym there) last.closes,
        refl,
        refl,
      );
    }
behind_more harts between behind end before after listed all more whole later w all_whole more_whole there is is_whole
    so so_whole (inr further) = record {
      listed = listed;
      w = w;
      more = further.others;
      more_whole = further.others_whole;
      so = so ∙ ap (λ (t : List Observed). before ++ t) further.is ∙ sym (append_assoc before listed further.others)
          ∙ ap (λ (t : List Observed). t ++ further.others) (sym is);
      so_whole = so_whole ∙ ap (λ (t : List ℕ). whole ++ t) further.is_whole
          ∙ sym (append_assoc whole w further.others_whole)
          ∙ ap (λ (t : List ℕ). t ++ further.others_whole) (sym is_whole);
      further = inr (
        further.behind,
        subst (λ (t : List Word). Takes t (Mark mark.Semicolon ∷ []) further.behind) (sym there) further.semicolon,
        further.are,
      );
    }

pub item_behind : (harts : ℕ) (words rest : List Word) (before after : List Observed) (whole later : List ℕ)
    (behind : Bor (List Word)) → ItemsSoFar harts words rest before whole → NotClosed rest
    → OneOnly harts rest before after whole later (Ok behind) → WholeOnly rest before after whole later (Ok behind)
    → (all : List Observed) (all_whole : List ℕ) (end : List Word) → ListedTaken harts words all all_whole end
    → ItemBehind harts behind.now end after all later all_whole
item_behind harts words rest before after whole later behind so off one many all all_whole end are =
    let left = so.left all all_whole end are in
    let first = first_of_left harts rest before whole all all_whole end off left in
    let read = item_only harts rest before after whole later (Ok behind) one many first.text first.listed first.w
    first.between first.spells first.takes first.over in
    behind_more harts first.between behind.now end before after first.listed all left.more whole later first.w all_whole
    left.more_whole read.0 read.1 read.2 left.is left.is_whole first.further

-- it is the last where the bracket closes behind it
last_by : (harts : ℕ) (behind end close : List Word) (after all : List Observed) (later all_whole : List ℕ)
    → Takes behind (Mark mark.RightBracket ∷ []) close → (it : ItemBehind harts behind end after all later all_whole)
    → (Takes behind (Mark mark.RightBracket ∷ []) end × (it.more ≡ []) × (it.more_whole ≡ []))
    ⊎ ((next : List Word) × Takes behind (Mark mark.Semicolon ∷ []) next
    × ListedTaken harts next it.more it.more_whole end)
    → (close ≡ end) × (after ≡ all) × (later ≡ all_whole)
last_by harts behind end close after all later all_whole closes it (inl last) = (
  same_rest behind close end (Mark mark.RightBracket ∷ []) closes last.0,
  sym (append-nil after) ∙ ap (λ (t : List Observed). after ++ t) (sym last.1) ∙ sym it.so,
  sym (append-nil later) ∙ ap (λ (t : List ℕ). later ++ t) (sym last.2) ∙ sym it.so_whole,
)
last_by harts behind end close after all later all_whole closes it (inr more) =
    absurd (semicolon_closing (sym (same_first behind close more.0 (Mark mark.RightBracket) (Mark mark.Semicolon) []
    closes more.1)))

pub last_item : (harts : ℕ) (behind end close : List Word) (after all : List Observed) (later all_whole : List ℕ)
    → Takes behind (Mark mark.RightBracket ∷ []) close → ItemBehind harts behind end after all later all_whole
    → (close ≡ end) × (after ≡ all) × (later ≡ all_whole)
last_item harts behind end close after all later all_whole closes it =
    last_by harts behind end close after all later all_whole closes it it.further

-- else a `;` stands there, and more behind it
more_by : (harts : ℕ) (behind end : List Word) (after all : List Observed) (later all_whole : List ℕ)
    → NotClosed behind → (it : ItemBehind harts behind end after all later all_whole)
    → (Takes behind (Mark mark.RightBracket ∷ []) end × (it.more ≡ []) × (it.more_whole ≡ []))
    ⊎ ((next : List Word) × Takes behind (Mark mark.Semicolon ∷ []) next
    × ListedTaken harts next it.more it.more_whole end)
    → (next : List Word) × Takes behind (Mark mark.Semicolon ∷ []) next
    × LeftListed harts next after later all all_whole end
more_by harts behind end after all later all_whole off it (inl last) = absurd (off end last.0)
more_by harts behind end after all later all_whole off it (inr more) = (
  more.0,
  more.1,
  record { more = it.more; more_whole = it.more_whole; are = more.2; is = it.so; is_whole = it.so_whole },
)

pub more_items : (harts : ℕ) (behind end : List Word) (after all : List Observed) (later all_whole : List ℕ)
    → NotClosed behind → ItemBehind harts behind end after all later all_whole
    → (next : List Word) × Takes behind (Mark mark.Semicolon ∷ []) next
    × LeftListed harts next after later all all_whole end
more_items harts behind end after all later all_whole off it =
    more_by harts behind end after all later all_whole off it it.further

pub one_more : (harts : ℕ) (words behind next : List Word) (after : List Observed) (later : List ℕ)
    → ((more : List Observed) → (w : List ℕ) → (end : List Word) → ListedTaken harts next more w end
    → ListedTaken harts words (after ++ more) (later ++ w) end) → NotClosed behind
    → Takes behind (Mark mark.Semicolon ∷ []) next
    → ((all : List Observed) (all_whole : List ℕ) (end : List Word) → ListedTaken harts words all all_whole end
    → ItemBehind harts behind end after all later all_whole) → ItemsSoFar harts words next after later
one_more harts words behind next after later taken off semicolon behind_it = record {
  taken = taken;
  left = λ all all_whole end are.
      let more = more_items harts behind end after all later all_whole off (behind_it all all_whole end are) in
      subst (λ (t : List Word). LeftListed harts t after later all all_whole end)
      (same_rest behind more.0 next (Mark mark.Semicolon ∷ []) more.1 semicolon) more.2;
}

-- nothing is left where the bracket closes
closed_by : (harts : ℕ) (rest end close : List Word) (more : List Observed) (all : List ℕ) (text : List Token)
    → Takes rest (Mark mark.RightBracket ∷ []) close → Takes rest (text ++ Mark mark.RightBracket ∷ []) end
    → AreListed harts more all text → (close ≡ end) × (more ≡ []) × (all ≡ [])
closed_by harts rest end close more all text closes takes listed_none =
    (same_rest rest close end (Mark mark.RightBracket ∷ []) closes takes, refl, refl)
closed_by harts rest end close more all text closes takes (listed_last one listed w spells) =
    let parts = in_parts rest end one (Mark mark.RightBracket ∷ []) takes in
    absurd (no_closing harts rest close parts.between one listed w spells parts.before closes)
closed_by harts rest end close more all text closes takes
    (listed_more one others listed further w further_whole spells are) =
    let parts = in_parts rest end one (Mark mark.Semicolon ∷ others ++ Mark mark.RightBracket ∷ [])
    (subst (λ (t : List Token). Takes rest t end)
    (append_assoc one (Mark mark.Semicolon ∷ others) (Mark mark.RightBracket ∷ [])) takes) in
    absurd (no_closing harts rest close parts.between one listed w spells parts.before closes)

pub nothing_left : (harts : ℕ) (words rest close : List Word) (listed : List Observed) (whole : List ℕ)
    → ItemsSoFar harts words rest listed whole → Takes rest (Mark mark.RightBracket ∷ []) close
    → (all : List Observed) (all_whole : List ℕ) (end : List Word) → ListedTaken harts words all all_whole end
    → (close ≡ end) × (listed ≡ all) × (whole ≡ all_whole)
nothing_left harts words rest close listed whole so closes all all_whole end are =
    let left = so.left all all_whole end are in
    let none = closed_by harts rest end close left.more left.more_whole left.are.text closes left.are.takes
    left.are.spells in (
      none.0,
      sym (append-nil listed) ∙ ap (λ (t : List Observed). listed ++ t) (sym none.1) ∙ sym left.is,
      sym (append-nil whole) ∙ ap (λ (t : List ℕ). whole ++ t) (sym none.2) ∙ sym left.is_whole,
    )
