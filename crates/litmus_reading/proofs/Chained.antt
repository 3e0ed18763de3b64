-- Conditions that one connective joins from the left: how one more is read of a condition that can be read.
use Rattle.std.proofs.Common.{◌≡◌, ℕ, ◌+◌, ◌≤◌, ◌<◌, List, [], ◌∷◌, ◌++◌, refl, sym, ap, ◌∙◌, subst, arith, append_assoc, append-nil}
use Rattle.litmus_tests.specs.declared.condition.Condition.{Condition}
use Rattle.litmus_words.specs.declared.word.Word.{Word}
use Rattle.litmus_words.specs.declared.word.Token.{Token}
use Rattle.litmus_words.specs.declared.word.Token.TheVariants.{Mark as mark_token}
use Rattle.litmus_words.specs.declared.word.Mark.{Mark}
use Rattle.litmus_words.specs.Tokens.{Takes}
use Rattle.litmus_words.proofs.Taking.{begins_by, goes_on, in_parts}
use Rattle.litmus_reading.specs.Grammar.{AreThere, CanBeRead, IsAtLevel, IsOver, IsReadAs, IsSame, Means, Syntax, goes_on_with, leaves_of, most_terms, nesting_of, text_of}

-- the connective: what it makes of two, of which level its right sides are, and its mark
pub record Connective : Type 1 where
  pub join : Syntax → Syntax → Syntax
  pub Joins : Condition → Condition → Condition → Type 0
  pub sign : Mark
  pub level : ℕ
  pub low : ℕ

-- what it stands for
pub record IsConnective (it : Connective) : Type 1 where
  pub higher : it.low < it.level
  pub sign_level : goes_on_with (mark_token it.sign) ≡ it.level
  pub text : (left right : Syntax) → text_of (it.join left right) ≡ text_of left ++ mark_token it.sign ∷ text_of right
  pub leaves : (left right : Syntax) → leaves_of (it.join left right) ≡ leaves_of left + leaves_of right
  pub nests_left : (left right : Syntax) → nesting_of left ≤ nesting_of (it.join left right)
  pub nests_right : (left right : Syntax) → nesting_of right ≤ nesting_of (it.join left right)
  pub stands_left : (left right : Syntax) → IsAtLevel it.level (it.join left right) → IsAtLevel it.level left
  pub stands_right : (left right : Syntax) → IsAtLevel it.level (it.join left right) → IsAtLevel it.low right
  pub means : (left right : Syntax) (whole : Condition) → Means (it.join left right) whole
      → (a : Condition) × (b : Condition) × Means left a × Means right b × it.Joins a b whole
  pub there : (harts : ℕ) (a b whole : Condition) → it.Joins a b whole → AreThere harts whole
      → AreThere harts a × AreThere harts b
  pub same : (a b whole c d other : Condition) → it.Joins a b whole → it.Joins c d other → IsSame a c → IsSame b d
      → IsSame whole other

module _ (it : Connective) (is : IsConnective it) where
  -- those that are joined to the first, from the left
  abbrev pub joined : Syntax → List Syntax → Syntax
  joined first [] = first
  joined first (next ∷ others) = joined (it.join first next) others

  abbrev pub tail_text : List Syntax → List Token
  tail_text [] = []
  tail_text (next ∷ others) = mark_token it.sign ∷ text_of next ++ tail_text others

  abbrev pub tail_leaves : List Syntax → ℕ
  tail_leaves [] = 0
  tail_leaves (next ∷ others) = leaves_of next + tail_leaves others

  -- each of them can be read, and what all come to
  abbrev pub CanBeJoined : ℕ → ℕ → Condition → List Syntax → Condition → Type 0
  CanBeJoined harts room first [] whole = first ≡ whole
  CanBeJoined harts room first (next ∷ others) whole = (condition : Condition) × (both : Condition)
      × Means next condition × it.Joins first condition both × IsAtLevel it.low next × (nesting_of next ≤ room)
      × AreThere harts condition × CanBeJoined harts room both others whole

  pub joined_more : (harts room : ℕ) (first : Condition) (others : List Syntax) (part next : Condition) (last : Syntax)
      (whole : Condition) → CanBeJoined harts room first others part → Means last next → it.Joins part next whole
      → IsAtLevel it.low last → nesting_of last ≤ room → AreThere harts next
      → CanBeJoined harts room first (others ++ last ∷ []) whole
  joined_more harts room first [] part next last whole same means joins stands nests there =
      (next, whole, means, subst (λ (c : Condition). it.Joins c next whole) (sym same) joins, stands, nests, there, refl)
  joined_more harts room first (other ∷ others) part next last whole can means joins stands nests there = (
    can.0,
    can.1,
    can.2,
    can.3,
    can.4,
    can.5,
    can.6,
    joined_more harts room can.1 others part next last whole can.7 means joins stands nests there,
  )

  pub text_more : (others : List Syntax) (last : Syntax)
      → tail_text (others ++ last ∷ []) ≡ tail_text others ++ mark_token it.sign ∷ text_of last
  text_more [] last = ap (λ (t : List Token). mark_token it.sign ∷ t) (append-nil (text_of last))
  text_more (next ∷ others) last =
      ap (λ (t : List Token). mark_token it.sign ∷ text_of next ++ t) (text_more others last)
      ∙ ap (λ (t : List Token). mark_token it.sign ∷ t)
      (sym (append_assoc (text_of next) (tail_text others) (mark_token it.sign ∷ text_of last)))

  pub leaves_more : (others : List Syntax) (last : Syntax)
      → tail_leaves (others ++ last ∷ []) ≡ tail_leaves others + leaves_of last
  leaves_more [] last = omega arith
  leaves_more (next ∷ others) last = let rest = leaves_more others last in omega (arith, rest)

  -- the first of those that are joined, and the others
  pub record FirstOf (harts room : ℕ) (syntax : Syntax) (whole : Condition) : Type 0 where
    pub part : Syntax
    pub others : List Syntax
    pub condition : Condition
    pub text : text_of syntax ≡ text_of part ++ tail_text others
    pub leaves : leaves_of syntax ≡ leaves_of part + tail_leaves others
    pub stands : IsAtLevel it.low part
    pub means : Means part condition
    pub nests : nesting_of part ≤ room
    pub there : AreThere harts condition
    pub joined : CanBeJoined harts room condition others whole

  pub only_first : (harts room : ℕ) (syntax : Syntax) (whole : Condition) → IsAtLevel it.low syntax
      → Means syntax whole → nesting_of syntax ≤ room → AreThere harts whole → FirstOf harts room syntax whole
  only_first harts room syntax whole stands means nests there = record {
    part = syntax;
    others = [];
    condition = whole;
    text = sym (append-nil (text_of syntax));
    leaves = omega arith;
    stands = stands;
    means = means;
    nests = nests;
    there = there;
    joined = refl;
  }

  pub first_of_left : (harts room : ℕ) (left right : Syntax) (a b whole : Condition) → FirstOf harts room left a
      → Means right b → it.Joins a b whole → IsAtLevel it.low right → nesting_of right ≤ room → AreThere harts b
      → FirstOf harts room (it.join left right) whole
  first_of_left harts room left right a b whole first means joins stands nests there =
      let many = is.leaves left right in let before = first.leaves in let more = leaves_more first.others right in
      record {
        part = first.part;
        others = first.others ++ right ∷ [];
        condition = first.condition;
        text = is.text left right ∙ ap (λ (t : List Token). t ++ mark_token it.sign ∷ text_of right) first.text
            ∙ append_assoc (text_of first.part) (tail_text first.others) (mark_token it.sign ∷ text_of right)
            ∙ ap (λ (t : List Token). text_of first.part ++ t) (sym (text_more first.others right));
        leaves = omega (arith, many, before, more);
        stands = first.stands;
        means = first.means;
        nests = first.nests;
        there = first.there;
        joined = joined_more harts room first.condition first.others a b right whole first.joined means joins stands
            nests there;
      }

  -- what is left of a condition of which a part has been read
  pub record LeftOf (harts room count : ℕ) (syntax : Syntax) (whole : Condition) (end : List Word)
      (found : Condition) (rest : List Word) (now : ℕ) : Type 0 where
    pub others : List Syntax
    pub condition : Condition
    pub same : IsSame found condition
    pub takes : Takes rest (tail_text others) end
    pub counted : now + tail_leaves others ≡ count + leaves_of syntax
    pub joined : CanBeJoined harts room condition others whole

  over_by : (harts room count : ℕ) (syntax : Syntax) (whole : Condition) (end rest : List Word)
      (found : Condition) (now : ℕ) → ((behind : List Word) → Takes rest (mark_token it.sign ∷ []) behind → ⊥)
      → (others : List Syntax) (condition : Condition) → IsSame found condition → Takes rest (tail_text others) end
      → now + tail_leaves others ≡ count + leaves_of syntax → CanBeJoined harts room condition others whole
      → IsReadAs count syntax whole end found rest now
  over_by harts room count syntax whole end rest found now off [] condition same takes counted joins = record {
    same = subst (λ (c : Condition). IsSame found c) joins same;
    left = takes.so;
    counted = omega (arith, counted);
  }
  over_by harts room count syntax whole end rest found now off (next ∷ others) condition same takes counted joins =
      let first = begins_by rest end (mark_token it.sign) (text_of next ++ tail_text others) takes in
      absurd (off first.between first.before)

  -- where no sign comes next, all has been read
  pub all_read : (harts room count : ℕ) (syntax : Syntax) (whole : Condition) (end rest : List Word)
      (found : Condition) (now : ℕ) → ((behind : List Word) → Takes rest (mark_token it.sign ∷ []) behind → ⊥)
      → (left : LeftOf harts room count syntax whole end found rest now) → IsReadAs count syntax whole end found rest now
  all_read harts room count syntax whole end rest found now off left =
      over_by harts room count syntax whole end rest found now off left.others left.condition left.same left.takes
      left.counted left.joined

  lower_over : (rest : List Word) → IsOver it.level rest → IsOver it.low rest
  lower_over [] over = tt
  lower_over (word ∷ words) over = let up = is.higher in omega (arith, over, up)

  sign_over : (words behind : List Word) → Takes words (mark_token it.sign ∷ []) behind → IsOver it.low words
  sign_over [] behind takes = tt
  sign_over (word ∷ words) behind takes =
      let up = is.higher in
      let at : goes_on_with word.token ≡ it.level = ap goes_on_with takes.so.0 ∙ is.sign_level in
      omega (arith, up, at)

  over_tail : (after end : List Word) (others : List Syntax) → Takes after (tail_text others) end
      → IsOver it.level end → IsOver it.low after
  over_tail after end [] takes over =
      subst (λ (t : List Word). IsOver it.low t) (sym takes.so) (lower_over end over)
  over_tail after end (next ∷ others) takes over =
      let first = begins_by after end (mark_token it.sign) (text_of next ++ tail_text others) takes in
      sign_over after first.between first.before

  no_sign : (words behind : List Word) → Takes words (mark_token it.sign ∷ []) behind → IsOver it.level words → ⊥
  no_sign [] behind takes over = takes.so
  no_sign (word ∷ words) behind takes over =
      let at : goes_on_with word.token ≡ it.level = ap goes_on_with takes.so.0 ∙ is.sign_level in
      absurd (omega (arith, over, at))

  -- the next of them, behind a sign
  pub record NextOf (harts room count : ℕ) (syntax : Syntax) (whole : Condition) (end : List Word)
      (found : Condition) (behind : List Word) (now : ℕ) : Type 0 where
    pub next : Syntax
    pub others : List Syntax
    pub first : Condition
    pub second : Condition
    pub both : Condition
    pub after : List Word
    pub same : IsSame found first
    pub joins : it.Joins first second both
    pub can : CanBeRead harts it.low room now behind next second after
    pub takes : Takes after (tail_text others) end
    pub counted : now + (leaves_of next + tail_leaves others) ≡ count + leaves_of syntax
    pub joined : CanBeJoined harts room both others whole

  next_by : (harts room count : ℕ) (syntax : Syntax) (whole : Condition) (end rest behind : List Word)
      (found : Condition) (now : ℕ) → Takes rest (mark_token it.sign ∷ []) behind → IsOver it.level end
      → count + leaves_of syntax ≤ most_terms → (others : List Syntax) (condition : Condition)
      → IsSame found condition → Takes rest (tail_text others) end
      → now + tail_leaves others ≡ count + leaves_of syntax → CanBeJoined harts room condition others whole
      → NextOf harts room count syntax whole end found behind now
  next_by harts room count syntax whole end rest behind found now sign over few [] condition same takes counted joins =
      absurd (no_sign end behind (subst (λ (t : List Word). Takes t (mark_token it.sign ∷ []) behind) takes.so sign)
      over)
  next_by harts room count syntax whole end rest behind found now sign over few (next ∷ others) condition same takes
      counted joins =
      let inner = goes_on rest behind end (mark_token it.sign) (mark_token it.sign)
      (text_of next ++ tail_text others) sign takes in
      let parts = in_parts behind end (text_of next) (tail_text others) inner in
      record {
        next = next;
        others = others;
        first = condition;
        second = joins.0;
        both = joins.1;
        after = parts.between;
        same = same;
        joins = joins.3;
        can = record {
          stands = joins.4;
          means = joins.2;
          takes = parts.before;
          few = omega (arith, counted, few);
          shallow = joins.5;
          there = joins.6;
          over = over_tail parts.between end others parts.behind over;
        };
        takes = parts.behind;
        counted = counted;
        joined = joins.7;
      }

  pub next_of : (harts room count : ℕ) (syntax : Syntax) (whole : Condition) (end rest behind : List Word)
      (found : Condition) (now : ℕ) → Takes rest (mark_token it.sign ∷ []) behind
      → IsOver it.level end → count + leaves_of syntax ≤ most_terms
      → LeftOf harts room count syntax whole end found rest now
      → NextOf harts room count syntax whole end found behind now
  next_of harts room count syntax whole end rest behind found now sign over few left =
      next_by harts room count syntax whole end rest behind found now sign over few left.others left.condition
      left.same left.takes left.counted left.joined

  -- with it less is left
  pub less_left : (harts room count : ℕ) (syntax : Syntax) (whole : Condition) (end behind after : List Word)
      (found right joined_so : Condition) (now later : ℕ)
      (next : NextOf harts room count syntax whole end found behind now)
      → IsReadAs now next.next next.second next.after right after later → it.Joins found right joined_so
      → LeftOf harts room count syntax whole end joined_so after later
  less_left harts room count syntax whole end behind after found right joined_so now later next read joins =
      let counted = next.counted in let more = read.counted in
      record {
        others = next.others;
        condition = next.both;
        same = is.same found right joined_so next.first next.second next.both joins next.joins next.same read.same;
        takes = subst (λ (t : List Word). Takes t (tail_text next.others) end) (sym read.left) next.takes;
        counted = omega (arith, counted, more);
        joined = next.joined;
      }

  -- the first of them, and what is left behind it
  pub first_can : (harts room count : ℕ) (syntax : Syntax) (whole : Condition) (words end : List Word)
      → CanBeRead harts it.level room count words syntax whole end → (first : FirstOf harts room syntax whole)
      → (after : List Word) × CanBeRead harts it.low room count words first.part first.condition after
      × Takes after (tail_text first.others) end
  first_can harts room count syntax whole words end can first =
      let parts = in_parts words end (text_of first.part) (tail_text first.others)
      (subst (λ (t : List Token). Takes words t end) first.text can.takes) in
      let few = can.few in let leaves = first.leaves in (
        parts.between,
        record {
          stands = first.stands;
          means = first.means;
          takes = parts.before;
          few = omega (arith, few, leaves);
          shallow = first.nests;
          there = first.there;
          over = over_tail parts.between end first.others parts.behind can.over;
        },
        parts.behind,
      )

  pub first_left : (harts room count : ℕ) (syntax : Syntax) (whole : Condition) (words end behind : List Word)
      (found : Condition) (now : ℕ) (can : CanBeRead harts it.level room count words syntax whole end)
      (first : FirstOf harts room syntax whole) → (after : List Word) → Takes after (tail_text first.others) end
      → IsReadAs count first.part first.condition after found behind now
      → LeftOf harts room count syntax whole end found behind now
  first_left harts room count syntax whole words end behind found now can first after takes read =
      let counted = read.counted in let leaves = first.leaves in
      record {
        others = first.others;
        condition = first.condition;
        same = read.same;
        takes = subst (λ (t : List Word). Takes t (tail_text first.others) end) (sym read.left) takes;
        counted = omega (arith, counted, leaves);
        joined = first.joined;
      }
