-- Braces close in one place.
use Rattle.std.proofs.Common.{◌≡◌, ℕ, ◌+◌, List, [], ◌∷◌, ◌++◌, Option, Some, None, length, take, drop, refl, sym, ap, ◌∙◌, subst, true≢false}
use Rattle.std.specs.Prelude.{option_and_then, unwrap_or, is_none, slice_get}
use Rattle.litmus_words.specs.declared.word.Word.{Word}
use Rattle.litmus_words.specs.declared.word.Token.{Token}
use Rattle.litmus_words.specs.declared.word.Token.TheVariants.{Mark}
use Rattle.litmus_words.specs.declared.word.Mark.TheVariants as mark
use Rattle.litmus_reading.specs.Texts.{IsBraced, IsClosedAt, open_after, open_behind}
use Rattle.litmus_reading.proofs.Wholes.{parts_at}

not_some : {A : Type 0} (x : A) → None ≡ Some x → ⊥
not_some {A} x e = true≢false (ap (λ (o : Option A). is_none o) e)

same_some : (a b : ℕ) → Some a ≡ Some b → a ≡ b
same_some a b e = ap (λ (o : Option ℕ). unwrap_or o a) e

-- the brace that closes what was open before
closes_here : (word : Word) (words : List Word) (now : ℕ) → word.token ≡ Mark mark.RightBrace
    → open_after 0 (word ∷ words) ≡ Some now → ⊥
closes_here word words now closes e =
    not_some now (sym (ap (λ (t : Token). option_and_then (λ (n : ℕ). open_after n words) (open_behind t 0)) closes) ∙ e)

-- how many are open in front
pub record OpenFront (front back : List Word) (first last : ℕ) : Type 0 where
  pub between : ℕ
  pub before : open_after first front ≡ Some between
  pub behind : open_after between back ≡ Some last

front_by : (word : Word) (front back : List Word) (first last : ℕ) (o : Option ℕ) → open_behind word.token first ≡ o
    → ((n : ℕ) → open_after n (front ++ back) ≡ Some last → OpenFront front back n last)
    → option_and_then (λ (n : ℕ). open_after n (front ++ back)) o ≡ Some last
    → OpenFront (word ∷ front) back first last
front_by word front back first last None is further e = absurd (not_some last e)
front_by word front back first last (Some n) is further e =
    let rest = further n e in
    record {
      between = rest.between;
      before = ap (λ (o : Option ℕ). option_and_then (λ (k : ℕ). open_after k front) o) is ∙ rest.before;
      behind = rest.behind;
    }

open_front : (front back : List Word) (first last : ℕ) → open_after first (front ++ back) ≡ Some last
    → OpenFront front back first last
open_front [] back first last e = record { between = first; before = refl; behind = e }
open_front (word ∷ front) back first last e =
    front_by word front back first last (open_behind word.token first) refl
    (λ n so. open_front front back n last so) e

-- where none closes, none is there that does
pub none_closes : (words : List Word) (place now : ℕ) → open_after 0 words ≡ Some now → IsClosedAt words place → ⊥
none_closes words place now stays closed =
    let it = open_front (take place words) (closed.last ∷ drop (place + 1) words) 0 now
    (sym (ap (open_after 0) (parts_at words place closed.last closed.there)) ∙ stays) in
    let none : it.between ≡ 0 = same_some it.between 0 (sym it.before ∙ closed.alone) in
    closes_here closed.last (drop (place + 1) words) now closed.closes
    (subst (λ (n : ℕ). open_after n (closed.last ∷ drop (place + 1) words) ≡ Some now) none it.behind)

step_by : (w : Word) (a c : List Word) (x y : Word) (b d : List Word) (o : Option ℕ)
    → ((n : ℕ) → open_after n a ≡ Some 0 → open_after n c ≡ Some 0 → (a ≡ c) × (b ≡ d))
    → option_and_then (λ (n : ℕ). open_after n a) o ≡ Some 0
    → option_and_then (λ (n : ℕ). open_after n c) o ≡ Some 0 → (a ≡ c) × (b ≡ d)
step_by w a c x y b d None further one other = absurd (not_some 0 one)
step_by w a c x y b d (Some n) further one other = further n one other

-- two braces that close the same are one
one_closes : (a c : List Word) (x y : Word) (b d : List Word) (n : ℕ) → a ++ x ∷ b ≡ c ++ y ∷ d
    → open_after n a ≡ Some 0 → open_after n c ≡ Some 0 → x.token ≡ Mark mark.RightBrace
    → y.token ≡ Mark mark.RightBrace → (a ≡ c) × (b ≡ d)
one_closes [] [] x y b d n same one other is so = (refl, cc)
one_closes [] (w ∷ c) x y b d n same one other is so =
    let first : x ≡ w = cc in
    let none : n ≡ 0 = same_some n 0 one in
    absurd (closes_here w c 0 (ap (λ (v : Word). v.token) (sym first) ∙ is)
    (subst (λ (k : ℕ). open_after k (w ∷ c) ≡ Some 0) none other))
one_closes (w ∷ a) [] x y b d n same one other is so =
    let first : w ≡ y = cc in
    let none : n ≡ 0 = same_some n 0 other in
    absurd (closes_here w a 0 (ap (λ (v : Word). v.token) first ∙ so)
    (subst (λ (k : ℕ). open_after k (w ∷ a) ≡ Some 0) none one))
one_closes (w ∷ a) (v ∷ c) x y b d n same one other is so =
    let first : w ≡ v = cc in
    let rest = step_by w a c x y b d (open_behind w.token n)
    (λ k a_so c_so. one_closes a c x y b d k (cc) a_so c_so is so) one
    (subst (λ (t : Word). open_after n (t ∷ c) ≡ Some 0) (sym first) other) in
    ((λ k. first k ∷ rest.0 k), rest.1)

pub one_braced : (words a b c d : List Word) → IsBraced words a b → IsBraced words c d → (a ≡ c) × (b ≡ d)
one_braced words a b c d one other =
    one_closes a c one.last other.last b d 0 (behind_first one.first other.first (a ++ one.last ∷ b)
    (c ++ other.last ∷ d) (sym one.spelled ∙ other.spelled)) one.alone other.alone one.closes other.closes
  where
    behind_first : (x y : Word) (xs ys : List Word) → x ∷ xs ≡ y ∷ ys → xs ≡ ys
    behind_first x y xs ys e = cc

-- what is braced begins with the brace that opens, and has one that closes
pub opens_first : (words rest a b : List Word) (first : Word) → words ≡ first ∷ rest → IsBraced words a b
    → first.token ≡ Mark mark.LeftBrace
opens_first words rest a b first is it =
    ap (λ (w : Word). w.token) (same_head first it.first rest (a ++ it.last ∷ b) (sym is ∙ it.spelled)) ∙ it.opens
  where
    same_head : (x y : Word) (xs ys : List Word) → x ∷ xs ≡ y ∷ ys → x ≡ y
    same_head x y xs ys e = cc

pub some_word : (words a b : List Word) → IsBraced words a b → words ≡ [] → ⊥
some_word words a b it none = no_word it.first (a ++ it.last ∷ b) (sym none ∙ it.spelled)
  where
    no_word : (x : Word) (xs : List Word) → [] ≡ x ∷ xs → ⊥
    no_word x xs e = cc

-- at which place
there_at : (front : List Word) (x : Word) (back : List Word) → slice_get (front ++ x ∷ back) (length front) ≡ Some x
there_at [] x back = refl
there_at (w ∷ front) x back = there_at front x back

taken_at : (front : List Word) (back : List Word) → take (length front) (front ++ back) ≡ front
taken_at [] [] = refl
taken_at [] (x ∷ back) = refl
taken_at (w ∷ front) back = ap (λ (t : List Word). w ∷ t) (taken_at front back)

pub closed_place : (words rest a b : List Word) (first : Word) → words ≡ first ∷ rest → IsBraced words a b
    → IsClosedAt rest (length a)
closed_place words rest a b first is it =
    let same : rest ≡ a ++ it.last ∷ b = behind_head first it.first rest (a ++ it.last ∷ b) (sym is ∙ it.spelled) in
    record {
      last = it.last;
      there = ap (λ (t : List Word). slice_get t (length a)) same ∙ there_at a it.last b;
      closes = it.closes;
      alone = ap (λ (t : List Word). open_after 0 (take (length a) t)) same
          ∙ ap (open_after 0) (taken_at a (it.last ∷ b)) ∙ it.alone;
    }
  where
    behind_head : (x y : Word) (xs ys : List Word) → x ∷ xs ≡ y ∷ ys → xs ≡ ys
    behind_head x y xs ys e = cc
