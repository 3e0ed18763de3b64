-- A term is cut at its sign in one way alone.
use Rattle.std.proofs.Common.{◌≡◌, ℕ, suc, ◌+◌, Bool, true, false, not, ◌&&◌, ◌==◌, List, [], ◌∷◌, ◌++◌, length}
use Rattle.std.proofs.Common.{Option, Some, None, option_map, refl, sym, ap, subst, ◌∙◌, arith, append_assoc, append-nil}
use Rattle.std.proofs.lemmas.List.{length-append}
use Rattle.outcome_queries.specs.declared.relation.Relation.{Relation}
use Rattle.outcome_queries.specs.declared.relation.Relation.TheVariants.{Equal, Other, Below, AtLeast}
use Rattle.outcome_queries.specs.{Quoted.place_outside, Relations.sign}
use Rattle.outcome_queries.specs.Signs.{IsFirstSign, IsMarkCut, mark}
use Rattle.outcome_queries.proofs.Outside.{Skips, at_place, at_quoted, cut_there, empty, found_behind, no_cut, none_in}
use Rattle.outcome_queries.proofs.Outside.{same_begin, skips_both, skips_plain}
use Rattle.outcome_queries.proofs.Spelled.{IsSign, behind_byte, below_sign, equals_sign, least_sign, not_sign}

-- ---- a text that closes each quotation mark doesn't end with a byte that it lacks outside of them

none_of : (o : Option ℕ) → option_map suc o ≡ None → o ≡ None
none_of None is = refl
none_of (Some k) is = cc

some_none : (k : ℕ) → Some k ≡ None → ⊥
some_none k is = cc

one_none : (m : ℕ) → m ∷ [] ≡ [] → ⊥
one_none m is = cc

ends_by : (mark here : Bool) (q : Bool) (s c : ℕ) (cs : List ℕ) → (c == 39) ≡ mark → ((c == s) && not q) ≡ here
    → ((p : Bool) → place_outside p s (cs ++ s ∷ []) ≡ None → place_outside p s ((cs ++ s ∷ []) ++ s ∷ []) ≡ None)
    → place_outside q s (c ∷ (cs ++ s ∷ [])) ≡ None → place_outside q s (c ∷ ((cs ++ s ∷ []) ++ s ∷ [])) ≡ None
unfolding place_outside
ends_by true here q s c cs is_mark is_here others is =
    rw is_mark (ap (option_map suc) (others (not q) (none_of (place_outside (not q) s (cs ++ s ∷ [])) (rw is_mark at is))))
ends_by false true q s c cs is_mark is_here others is =
    absurd (some_none 0 (rw (is_mark, is_here) at is))
ends_by false false q s c cs is_mark is_here others is =
    rw (is_mark, is_here) (ap (option_map suc)
    (others q (none_of (place_outside q s (cs ++ s ∷ [])) (rw (is_mark, is_here) at is))))

ends_first : (q : Bool) (s : ℕ) → (s == 39) ≡ false → place_outside q s (s ∷ []) ≡ None
    → place_outside q s (s ∷ s ∷ []) ≡ None
ends_first true s other is =
    at_quoted (s == s) s s (s ∷ []) refl other
    ∙ ap (option_map suc) (at_quoted (s == s) s s [] refl other ∙ ap (option_map suc) (empty true s))
ends_first false s other is = absurd (some_none 0 (sym (at_place s [] other) ∙ is))

ends_quoted : (q : Bool) (s : ℕ) (before : List ℕ) → (s == 39) ≡ false → place_outside q s (before ++ s ∷ []) ≡ None
    → place_outside q s ((before ++ s ∷ []) ++ s ∷ []) ≡ None
ends_quoted q s [] other is = ends_first q s other is
ends_quoted q s (c ∷ cs) other is =
    ends_by (c == 39) ((c == s) && not q) q s c cs refl refl (λ p. ends_quoted p s cs other) is

pub not_ended : (s : ℕ) (text before : List ℕ) → (s == 39) ≡ false → Skips s text → text ≡ before ++ s ∷ [] → ⊥
not_ended s text before other skips is =
    let none : place_outside false s (before ++ s ∷ []) ≡ None = ap (place_outside false s) (sym is) ∙ none_in s text skips in
    let again : place_outside false s (text ++ s ∷ []) ≡ None =
    ap (λ t. place_outside false s (t ++ s ∷ [])) is ∙ ends_quoted false s before other none in
    some_none (length text) (sym (found_behind s text [] other skips) ∙ again)

-- ---- the mark before an equals sign

abbrev pub Clear : List ℕ → Type 0
Clear text = (s : ℕ) → IsSign s → Skips s text

last_same : (left lead : List ℕ) (m n : ℕ) → left ++ m ∷ [] ≡ lead ++ n ∷ [] → (left ≡ lead) × (m ≡ n)
last_same left lead m n is =
    let one : length (left ++ m ∷ []) ≡ length left + 1 = length-append left (m ∷ []) in
    let two : length (lead ++ n ∷ []) ≡ length lead + 1 = length-append lead (n ∷ []) in
    let same : length (left ++ m ∷ []) ≡ length (lead ++ n ∷ []) = ap length is in
    let both = same_begin left (m ∷ []) lead (n ∷ []) (omega (arith, one, two, same)) is in
    let last = both.1 in
    (both.0, cc)

marks_same : (before left lead : List ℕ) (r q : Relation) → (q ≡ Below → ⊥) → Clear lead → IsMarkCut before left r
    → before ≡ lead ++ mark q → (left ≡ lead) × (r ≡ q)
marks_same before left lead Equal Equal other clear is cut = (sym is.0 ∙ cut ∙ append-nil lead, refl)
marks_same before left lead Equal Other other clear is cut = absurd (one_none 33 (is.1 lead Other cut))
marks_same before left lead Equal AtLeast other clear is cut = absurd (one_none 62 (is.1 lead AtLeast cut))
marks_same before left lead Equal Below other clear is cut = absurd (other refl)
marks_same before left lead Other Equal other clear is cut =
    absurd (not_ended 33 lead left refl (clear 33 not_sign) (sym (append-nil lead) ∙ sym cut ∙ is))
marks_same before left lead Other Other other clear is cut =
    ((last_same left lead 33 33 (sym is ∙ cut)).0, refl)
marks_same before left lead Other AtLeast other clear is cut =
    absurd (let never : 33 ≡ 62 = (last_same left lead 33 62 (sym is ∙ cut)).1 in omega (arith, never))
marks_same before left lead Other Below other clear is cut = absurd (other refl)
marks_same before left lead AtLeast Equal other clear is cut =
    absurd (not_ended 62 lead left refl (clear 62 least_sign) (sym (append-nil lead) ∙ sym cut ∙ is))
marks_same before left lead AtLeast Other other clear is cut =
    absurd (let never : 62 ≡ 33 = (last_same left lead 62 33 (sym is ∙ cut)).1 in omega (arith, never))
marks_same before left lead AtLeast AtLeast other clear is cut =
    ((last_same left lead 62 62 (sym is ∙ cut)).0, refl)
marks_same before left lead AtLeast Below other clear is cut = absurd (other refl)
marks_same before left lead Below q other clear is cut = absurd is

-- ---- the sign

mark_skips : (lead : List ℕ) (q : Relation) → Skips 61 lead → Skips 61 (lead ++ mark q)
mark_skips lead Equal skips = subst (λ t. Skips 61 t) (sym (append-nil lead)) skips
mark_skips lead Below skips = subst (λ t. Skips 61 t) (sym (append-nil lead)) skips
mark_skips lead Other skips = skips_both 61 lead (33 ∷ []) skips (skips_plain 61 (33 ∷ []) refl refl)
mark_skips lead AtLeast skips = skips_both 61 lead (62 ∷ []) skips (skips_plain 61 (62 ∷ []) refl refl)

-- a sign with an equals sign is its mark and that
at_equals : (lead behind : List ℕ) (q : Relation) → (q ≡ Below → ⊥)
    → lead ++ (sign q ++ behind) ≡ (lead ++ mark q) ++ 61 ∷ behind
at_equals lead behind Equal other = ap (λ (t : List ℕ). t ++ 61 ∷ behind) (sym (append-nil lead))
at_equals lead behind Other other = sym (append_assoc lead (33 ∷ []) (61 ∷ behind))
at_equals lead behind AtLeast other = sym (append_assoc lead (62 ∷ []) (61 ∷ behind))
at_equals lead behind Below other = absurd (other refl)

-- the equals sign that was found first
record AtFirst (text left right : List ℕ) (r : Relation) : Type 0 where
  pub before : List ℕ
  pub cut : IsMarkCut before left r
  pub place : Some (length before) ≡ place_outside false 61 text
  pub whole : text ≡ before ++ 61 ∷ right

at_first : (text left right : List ℕ) (r : Relation) → text ≡ left ++ (sign r ++ right) → IsFirstSign r left text
    → (r ≡ Below → ⊥) → AtFirst text left right r
at_first text left right Equal whole is other = record {
  before = is.0;
  cut = is.1;
  place = is.2;
  whole = whole ∙ ap (λ (t : List ℕ). t ++ 61 ∷ right) (sym is.1.0);
}
at_first text left right Other whole is other = record {
  before = is.0;
  cut = is.1;
  place = is.2;
  whole = whole ∙ at_equals left right Other other ∙ ap (λ (t : List ℕ). t ++ 61 ∷ right) (sym is.1);
}
at_first text left right AtLeast whole is other = record {
  before = is.0;
  cut = is.1;
  place = is.2;
  whole = whole ∙ at_equals left right AtLeast other ∙ ap (λ (t : List ℕ). t ++ 61 ∷ right) (sym is.1);
}
at_first text left right Below whole is other = absurd (other refl)

abbrev IsSameCut : List ℕ → Relation → List ℕ → List ℕ → Relation → List ℕ → Type 0
IsSameCut left r right lead q behind = (left ≡ lead) × (r ≡ q) × (right ≡ behind)

equals_both : (text left right lead behind : List ℕ) (r q : Relation) → AtFirst text left right r → (q ≡ Below → ⊥)
    → Clear lead → text ≡ lead ++ (sign q ++ behind) → IsSameCut left r right lead q behind
equals_both text left right lead behind r q first other clear is =
    let both = cut_there 61 text first.before right (lead ++ mark q) behind refl first.whole first.place
    (mark_skips lead q (clear 61 equals_sign)) (is ∙ at_equals lead behind q other) in
    let same = marks_same first.before left lead r q other clear first.cut both.0 in
    (same.0, same.1, both.1)

-- a text that is cut at `<` has no equals sign
below_skips : (lead behind : List ℕ) → Clear lead → Skips 61 behind → Skips 61 (lead ++ 60 ∷ behind)
below_skips lead behind clear skips =
    skips_both 61 lead (60 ∷ behind) (clear 61 equals_sign) (behind_byte 61 60 behind refl refl skips)

equals_below : (text left right lead behind : List ℕ) (r : Relation) → AtFirst text left right r → Clear lead
    → Skips 61 behind → text ≡ lead ++ 60 ∷ behind → ⊥
equals_below text left right lead behind r first clear skips is =
    let none : place_outside false 61 text ≡ None =
    ap (place_outside false 61) is ∙ none_in 61 (lead ++ 60 ∷ behind) (below_skips lead behind clear skips) in
    some_none (length first.before) (first.place ∙ none)

equals_first : (text left right lead behind : List ℕ) (r q : Relation) → AtFirst text left right r → Clear lead
    → (q ≡ Below → Skips 61 behind) → text ≡ lead ++ (sign q ++ behind) → IsSameCut left r right lead q behind
equals_first text left right lead behind r Equal first clear skips is =
    equals_both text left right lead behind r Equal first (λ e. cc) clear is
equals_first text left right lead behind r Other first clear skips is =
    equals_both text left right lead behind r Other first (λ e. cc) clear is
equals_first text left right lead behind r AtLeast first clear skips is =
    equals_both text left right lead behind r AtLeast first (λ e. cc) clear is
equals_first text left right lead behind r Below first clear skips is =
    absurd (equals_below text left right lead behind r first clear (skips refl) is)

no_equals : (text lead behind : List ℕ) (q : Relation) → place_outside false 61 text ≡ None → (q ≡ Below → ⊥)
    → Clear lead → text ≡ lead ++ (sign q ++ behind) → ⊥
no_equals text lead behind q none other clear is =
    no_cut 61 text (lead ++ mark q) behind refl none (mark_skips lead q (clear 61 equals_sign))
    (is ∙ at_equals lead behind q other)

below_first : (text left right lead behind : List ℕ) (q : Relation) → text ≡ left ++ 60 ∷ right
    → place_outside false 61 text ≡ None → Some (length left) ≡ place_outside false 60 text → Clear lead
    → text ≡ lead ++ (sign q ++ behind) → IsSameCut left Below right lead q behind
below_first text left right lead behind Equal whole none place clear is =
    absurd (no_equals text lead behind Equal none (λ e. cc) clear is)
below_first text left right lead behind Other whole none place clear is =
    absurd (no_equals text lead behind Other none (λ e. cc) clear is)
below_first text left right lead behind AtLeast whole none place clear is =
    absurd (no_equals text lead behind AtLeast none (λ e. cc) clear is)
below_first text left right lead behind Below whole none place clear is =
    let both = cut_there 60 text left right lead behind refl whole place (clear 60 below_sign) is in
    (both.0, refl, both.1)

pub same_cut : (text left right lead behind : List ℕ) (r q : Relation) → text ≡ left ++ (sign r ++ right)
    → IsFirstSign r left text → Clear lead → (q ≡ Below → Skips 61 behind) → text ≡ lead ++ (sign q ++ behind)
    → (left ≡ lead) × (r ≡ q) × (right ≡ behind)
same_cut text left right lead behind Equal q whole first clear skips is =
    equals_first text left right lead behind Equal q (at_first text left right Equal whole first (λ e. cc)) clear skips is
same_cut text left right lead behind Other q whole first clear skips is =
    equals_first text left right lead behind Other q (at_first text left right Other whole first (λ e. cc)) clear skips is
same_cut text left right lead behind AtLeast q whole first clear skips is =
    equals_first text left right lead behind AtLeast q (at_first text left right AtLeast whole first (λ e. cc)) clear skips
    is
same_cut text left right lead behind Below q whole first clear skips is =
    below_first text left right lead behind q whole first.0 first.1 clear is

pub no_sign : (text lead behind : List ℕ) (q : Relation) → place_outside false 61 text ≡ None
    → place_outside false 60 text ≡ None → Clear lead → text ≡ lead ++ (sign q ++ behind) → ⊥
no_sign text lead behind Equal none no_below clear is = no_equals text lead behind Equal none (λ e. cc) clear is
no_sign text lead behind Other none no_below clear is = no_equals text lead behind Other none (λ e. cc) clear is
no_sign text lead behind AtLeast none no_below clear is = no_equals text lead behind AtLeast none (λ e. cc) clear is
no_sign text lead behind Below none no_below clear is =
    no_cut 60 text lead behind refl no_below (clear 60 below_sign) is
