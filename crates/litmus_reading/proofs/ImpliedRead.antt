-- A condition with `=>` as it is read: what stands on its left, and on its right.
use Rattle.std.proofs.Common.{◌≡◌, ℕ, ◌+◌, List, [], ◌∷◌, Result, Err, IsErrAnd, refl, sym, ap, subst, arith, inl, inr}
use Rattle.std.specs.Prelude.{◌⊎◌}
use Rattle.litmus_tests.specs.declared.condition.Condition.{Condition, Always, Holds, Not', Both', Either', Implies', Equivalent'}
use Rattle.litmus_words.specs.Answered.{GivesOrMemory}
use Rattle.litmus_words.specs.declared.refused.Stop.{Stop}
use Rattle.litmus_words.specs.declared.word.Word.{Word}
use Rattle.litmus_words.specs.declared.word.Token.TheVariants.{Mark}
use Rattle.litmus_words.specs.declared.word.Mark.TheVariants as mark
use Rattle.litmus_words.specs.Tokens.{Takes}
use Rattle.litmus_words.proofs.Taking.{begins_by, in_parts, same_rest}
use Rattle.litmus_reading.proofs.Chains.{passed_on}
use Rattle.litmus_reading.proofs.JoinedRead.{Reads}
use Rattle.litmus_reading.specs.Grammar.{Syntax, leaf, differing, always, negated, grouped, conjunction, disjunction, implication, equivalence}
use Rattle.litmus_reading.specs.Grammar.{AreThere, CanBeRead, IsAtLevel, IsImplication, IsOver, IsReadAs, IsSame, Means, goes_on_with, leaves_of, text_of}

implies_means : (left right : Syntax) (whole : Condition) → Means (implication left right) whole
    → (a : Condition) × (b : Condition) × Means left a × Means right b × IsImplication a b whole
implies_means left right (Implies' p c q d) it = (c, d, it.0, it.1, (refl, refl))
implies_means left right Always it = absurd it
implies_means left right (Holds term) it = absurd it
implies_means left right (Not' p c) it = absurd it
implies_means left right (Both' p c q d) it = absurd it
implies_means left right (Either' p c q d) it = absurd it
implies_means left right (Equivalent' p c q d) it = absurd it

implies_there : (harts : ℕ) (a b whole : Condition) → IsImplication a b whole → AreThere harts whole
    → AreThere harts a × AreThere harts b
implies_there harts a b (Implies' p c q d) it there =
    (subst (AreThere harts) it.0 there.0, subst (AreThere harts) it.1 there.1)
implies_there harts a b Always it there = absurd it
implies_there harts a b (Holds term) it there = absurd it
implies_there harts a b (Not' p c) it there = absurd it
implies_there harts a b (Both' p c q d) it there = absurd it
implies_there harts a b (Either' p c q d) it there = absurd it
implies_there harts a b (Equivalent' p c q d) it there = absurd it

implies_same : (a b whole c d other : Condition) → IsImplication a b whole → IsImplication c d other → IsSame a c
    → IsSame b d → IsSame whole other
implies_same a b (Implies' p e q f) c d (Implies' r g s h) it is first second = (
  subst (λ (x : Condition). IsSame x g) (sym it.0) (subst (λ (x : Condition). IsSame a x) (sym is.0) first),
  subst (λ (x : Condition). IsSame x h) (sym it.1) (subst (λ (x : Condition). IsSame b x) (sym is.1) second),
)
implies_same a b (Implies' p e q f) c d Always it is first second = absurd is
implies_same a b (Implies' p e q f) c d (Holds term) it is first second = absurd is
implies_same a b (Implies' p e q f) c d (Not' r g) it is first second = absurd is
implies_same a b (Implies' p e q f) c d (Both' r g s h) it is first second = absurd is
implies_same a b (Implies' p e q f) c d (Either' r g s h) it is first second = absurd is
implies_same a b (Implies' p e q f) c d (Equivalent' r g s h) it is first second = absurd is
implies_same a b Always c d other it is first second = absurd it
implies_same a b (Holds term) c d other it is first second = absurd it
implies_same a b (Not' p e) c d other it is first second = absurd it
implies_same a b (Both' p e q f) c d other it is first second = absurd it
implies_same a b (Either' p e q f) c d other it is first second = absurd it
implies_same a b (Equivalent' p e q f) c d other it is first second = absurd it

-- either it has a `=>`, or it stands a level lower
pub record ImpliesSo (harts room count : ℕ) (words : List Word) (syntax : Syntax) (whole : Condition)
    (end : List Word) : Type 0 where
  pub left : Syntax
  pub right : Syntax
  pub first : Condition
  pub second : Condition
  pub between : List Word
  pub behind : List Word
  pub leaves : leaves_of syntax ≡ leaves_of left + leaves_of right
  pub means : IsImplication first second whole
  pub can : CanBeRead harts 2 room count words left first between
  pub sign : Takes between (Mark mark.Implies ∷ []) behind
  pub right_can : (now : ℕ) → now ≡ count + leaves_of left → CanBeRead harts 3 room now behind right second end

abbrev pub LeftSide : ℕ → ℕ → ℕ → List Word → Syntax → Condition → List Word → Type 0
LeftSide harts room count words syntax whole end =
    CanBeRead harts 2 room count words syntax whole end ⊎ ImpliesSo harts room count words syntax whole end

over_lower : (words : List Word) → IsOver 3 words → IsOver 2 words
over_lower [] over = tt
over_lower (word ∷ words) over = omega (arith, over)

over_sign : (words behind : List Word) → Takes words (Mark mark.Implies ∷ []) behind → IsOver 2 words
over_sign [] behind takes = tt
over_sign (word ∷ words) behind takes =
    let at : goes_on_with word.token ≡ 3 = ap goes_on_with takes.so.0 in omega (arith, at)

lower : (harts room count : ℕ) (words : List Word) (syntax : Syntax) (whole : Condition) (end : List Word)
    → IsAtLevel 2 syntax → CanBeRead harts 3 room count words syntax whole end
    → LeftSide harts room count words syntax whole end
lower harts room count words syntax whole end stands it = inl (record {
  stands = stands;
  means = it.means;
  takes = it.takes;
  few = it.few;
  shallow = it.shallow;
  there = it.there;
  over = over_lower end it.over;
})

pub left_side : (harts room count : ℕ) (words : List Word) (syntax : Syntax) (whole : Condition) (end : List Word)
    → CanBeRead harts 3 room count words syntax whole end → LeftSide harts room count words syntax whole end
left_side harts room count words (implication left right) whole end it =
    let means = implies_means left right whole it.means in
    let there = implies_there harts means.0 means.1 whole means.4 it.there in
    let parts = in_parts words end (text_of left) (Mark mark.Implies ∷ text_of right) it.takes in
    let inner = begins_by parts.between end (Mark mark.Implies) (text_of right) parts.behind in
    let few = it.few in let deep = it.shallow in
    inr (record {
      left = left;
      right = right;
      first = means.0;
      second = means.1;
      between = parts.between;
      behind = inner.between;
      leaves = refl;
      means = means.4;
      can = record {
        stands = it.stands.1;
        means = means.2;
        takes = parts.before;
        few = omega (arith, few);
        shallow = omega (arith, deep);
        there = there.0;
        over = over_sign parts.between inner.between inner.before;
      };
      sign = inner.before;
      right_can = λ now is. record {
        stands = it.stands.2;
        means = means.3;
        takes = inner.behind;
        few = omega (arith, few, is);
        shallow = omega (arith, deep);
        there = there.1;
        over = it.over;
      };
    })
left_side harts room count words (leaf text) whole end it =
    lower harts room count words (leaf text) whole end tt it
left_side harts room count words (differing text) whole end it =
    lower harts room count words (differing text) whole end tt it
left_side harts room count words always whole end it = lower harts room count words always whole end tt it
left_side harts room count words (negated inner) whole end it =
    lower harts room count words (negated inner) whole end it.stands it
left_side harts room count words (grouped inner) whole end it =
    lower harts room count words (grouped inner) whole end it.stands it
left_side harts room count words (conjunction left right) whole end it =
    lower harts room count words (conjunction left right) whole end (omega arith, it.stands.1, it.stands.2) it
left_side harts room count words (disjunction left right) whole end it =
    lower harts room count words (disjunction left right) whole end (omega arith, it.stands.1, it.stands.2) it
left_side harts room count words (equivalence left right) whole end it =
    let level = it.stands.0 in absurd (omega (arith, level))

-- no `=>` stands behind what is over
pub no_more : (words behind : List Word) → Takes words (Mark mark.Implies ∷ []) behind → IsOver 3 words → ⊥
no_more [] behind takes over = takes.so
no_more (word ∷ words) behind takes over =
    let at : goes_on_with word.token ≡ 3 = ap goes_on_with takes.so.0 in absurd (omega (arith, over, at))

-- what is read of one with `=>`
pub implied_as : (harts room count now later : ℕ) (words end after : List Word) (syntax : Syntax)
    (whole left right found : Condition) (so : ImpliesSo harts room count words syntax whole end)
    → IsSame left so.first → now ≡ count + leaves_of so.left → IsReadAs now so.right so.second end right after later
    → IsImplication left right found → IsReadAs count syntax whole end found after later
implied_as harts room count now later words end after syntax whole left right found so same is read makes =
    let counted = read.counted in let leaves = so.leaves in
    record {
      same = implies_same left right found so.first so.second whole makes so.means same read.same;
      left = read.left;
      counted = omega (arith, counted, leaves, is);
    }

-- where the left side is refused, nothing is there that can be read
left_stops : {A B : Type 0} (harts room count : ℕ) (words : List Word) (stop : Stop) (result : Result B Stop)
    (Q : Syntax → Condition → List Word → A → Type 0)
    → ((syntax : Syntax) → (condition : Condition) → (rest : List Word)
    → CanBeRead harts 2 room count words syntax condition rest → GivesOrMemory (Err stop) (Q syntax condition rest))
    → IsErrAnd result (λ found. found ≡ stop) → (syntax : Syntax) (whole : Condition) (end : List Word)
    (P : B → Type 0) → LeftSide harts room count words syntax whole end → GivesOrMemory result P
left_stops {A} {B} harts room count words stop result Q fails is syntax whole end P (inl can) =
    passed_on result stop P (Q syntax whole end) is (fails syntax whole end can)
left_stops {A} {B} harts room count words stop result Q fails is syntax whole end P (inr so) =
    passed_on result stop P (Q so.left so.first so.between) is (fails so.left so.first so.between so.can)

pub implied_stops : {A B : Type 0} (harts room count : ℕ) (words : List Word) (stop : Stop) (result : Result B Stop)
    (Q : Syntax → Condition → List Word → A → Type 0)
    → ((syntax : Syntax) → (condition : Condition) → (rest : List Word)
    → CanBeRead harts 2 room count words syntax condition rest → GivesOrMemory (Err stop) (Q syntax condition rest))
    → IsErrAnd result (λ found. found ≡ stop) → (syntax : Syntax) (whole : Condition) (end : List Word)
    (P : B → Type 0) → CanBeRead harts 3 room count words syntax whole end → GivesOrMemory result P
implied_stops {A} {B} harts room count words stop result Q fails is syntax whole end P can =
    left_stops harts room count words stop result Q fails is syntax whole end P
    (left_side harts room count words syntax whole end can)

-- where no `=>` follows, it is what was read
alone_by : (harts room count now : ℕ) (words rest : List Word) (found : Condition)
    → Reads harts 2 room count words found rest now
    → ((behind : List Word) → Takes rest (Mark mark.Implies ∷ []) behind → ⊥) → (syntax : Syntax) (whole : Condition)
    (end : List Word) → LeftSide harts room count words syntax whole end
    → IsReadAs count syntax whole end found rest now
alone_by harts room count now words rest found reads off syntax whole end (inl can) = reads syntax whole end can
alone_by harts room count now words rest found reads off syntax whole end (inr so) =
    absurd (off so.behind (subst (λ (t : List Word). Takes t (Mark mark.Implies ∷ []) so.behind)
    (sym (reads so.left so.first so.between so.can).left) so.sign))

pub implied_alone : (harts room count now : ℕ) (words rest : List Word) (found : Condition)
    → Reads harts 2 room count words found rest now
    → ((behind : List Word) → Takes rest (Mark mark.Implies ∷ []) behind → ⊥)
    → Reads harts 3 room count words found rest now
implied_alone harts room count now words rest found reads off = λ syntax whole end can.
    alone_by harts room count now words rest found reads off syntax whole end
    (left_side harts room count words syntax whole end can)

-- where one does, the right side can be read behind it
pub record RightSide (harts room count now : ℕ) (words behind : List Word) (found : Condition) (syntax : Syntax)
    (whole : Condition) (end : List Word) : Type 0 where
  pub so : ImpliesSo harts room count words syntax whole end
  pub same : IsSame found so.first
  pub is : now ≡ count + leaves_of so.left
  pub can : CanBeRead harts 3 room now behind so.right so.second end

right_by : (harts room count now : ℕ) (words rest behind : List Word) (found : Condition)
    → Reads harts 2 room count words found rest now → Takes rest (Mark mark.Implies ∷ []) behind → (syntax : Syntax)
    (whole : Condition) (end : List Word) → IsOver 3 end → LeftSide harts room count words syntax whole end
    → RightSide harts room count now words behind found syntax whole end
right_by harts room count now words rest behind found reads sign syntax whole end over (inl can) =
    absurd (no_more end behind (subst (λ (t : List Word). Takes t (Mark mark.Implies ∷ []) behind)
    (reads syntax whole end can).left sign) over)
right_by harts room count now words rest behind found reads sign syntax whole end over (inr so) =
    let read = reads so.left so.first so.between so.can in
    let there = same_rest so.between so.behind behind (Mark mark.Implies ∷ []) so.sign
    (subst (λ (t : List Word). Takes t (Mark mark.Implies ∷ []) behind) read.left sign) in
    record {
      so = so;
      same = read.same;
      is = read.counted;
      can = subst (λ (t : List Word). CanBeRead harts 3 room now t so.right so.second end) there
          (so.right_can now read.counted);
    }

pub right_side : (harts room count now : ℕ) (words rest behind : List Word) (found : Condition)
    → Reads harts 2 room count words found rest now → Takes rest (Mark mark.Implies ∷ []) behind → (syntax : Syntax)
    (whole : Condition) (end : List Word) → CanBeRead harts 3 room count words syntax whole end
    → RightSide harts room count now words behind found syntax whole end
right_side harts room count now words rest behind found reads sign syntax whole end can =
    right_by harts room count now words rest behind found reads sign syntax whole end can.over
    (left_side harts room count words syntax whole end can)
