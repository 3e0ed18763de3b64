-- Where a byte stands outside of quotation marks, in a text that is put together.
use Rattle.std.proofs.Common.{◌≡◌, ℕ, suc, ◌+◌, ◌-◌, ◌<◌, ◌≤◌, Bool, true, false, not, ◌&&◌, ◌==◌, List, [], ◌∷◌, ◌++◌}
use Rattle.std.proofs.Common.{length}
use Rattle.std.proofs.Common.{take, drop, get_or, if◌then◌else◌, Option, Some, None, option_map, refl, sym, ap, subst}
use Rattle.std.proofs.Common.{◌∙◌, arith, append_assoc, append-nil}
use Rattle.std.proofs.{lemmas.Bool.Decides.nat_tests}
use Rattle.std.proofs.lemmas.List.{drop_all, drop_more, length-append, length-take-le, take_at, take_rest}
use Rattle.text_fields.specs.Splitting.{Lacks}
use Rattle.outcome_queries.specs.Quoted.{place_outside, field_outside}

-- ---- a byte further

lacks_parts : (s c : ℕ) (cs : List ℕ) → Lacks s (c ∷ cs) → ((c == s) ≡ false) × Lacks s cs
lacks_parts s c cs lacks = (grind (arith, nat_tests), grind (arith, nat_tests))

pub empty : (q : Bool) (s : ℕ) → place_outside q s [] ≡ None
unfolding place_outside
empty q s = refl

pub at_mark : (q : Bool) (s : ℕ) (rest : List ℕ)
    → place_outside q s (39 ∷ rest) ≡ option_map suc (place_outside (not q) s rest)
unfolding place_outside
at_mark q s rest = refl

pub at_other : (s c : ℕ) (rest : List ℕ) → (c == s) ≡ false → (c == 39) ≡ false
    → place_outside false s (c ∷ rest) ≡ option_map suc (place_outside false s rest)
unfolding place_outside
at_other s c rest other mark = rw (mark, other) refl

pub at_quoted : (b : Bool) (s c : ℕ) (rest : List ℕ) → (c == s) ≡ b → (c == 39) ≡ false
    → place_outside true s (c ∷ rest) ≡ option_map suc (place_outside true s rest)
unfolding place_outside
at_quoted true s c rest is mark = rw (mark, is) refl
at_quoted false s c rest is mark = rw (mark, is) refl

pub at_place : (s : ℕ) (rest : List ℕ) → (s == 39) ≡ false → place_outside false s (s ∷ rest) ≡ Some 0
unfolding place_outside
at_place s rest mark =
    let same : (s == s) ≡ true = grind (arith, nat_tests) in
    rw (mark, same) refl

-- ---- places that are counted on

none_before : (o : Option ℕ) → o ≡ option_map (λ k. 0 + k) o
none_before None = refl
none_before (Some k) = ap Some (omega arith)

one_more : (n : ℕ) (o : Option ℕ) → option_map suc (option_map (λ k. n + k) o) ≡ option_map (λ k. suc n + k) o
one_more n None = refl
one_more n (Some k) = ap Some (omega arith)

two_more : (m n both : ℕ) (o : Option ℕ) → both ≡ m + n
    → option_map (λ k. m + k) (option_map (λ k. n + k) o) ≡ option_map (λ k. both + k) o
two_more m n both None is = refl
two_more m n both (Some k) is = ap Some (omega (arith, is))

-- ---- texts that have no such byte outside of marks, and close each mark

pub record Skips (s : ℕ) (text : List ℕ) : Type 0 where
  pub goes_on : (more : List ℕ)
      → place_outside false s (text ++ more) ≡ option_map (λ k. length text + k) (place_outside false s more)

skipped : (s : ℕ) (text more : List ℕ) → Lacks s text → Lacks 39 text
    → place_outside false s (text ++ more) ≡ option_map (λ k. length text + k) (place_outside false s more)
skipped s [] more lacks plain = none_before (place_outside false s more)
skipped s (c ∷ cs) more lacks plain =
    let parts = lacks_parts s c cs lacks in
    let marks = lacks_parts 39 c cs plain in
    at_other s c (cs ++ more) parts.0 marks.0 ∙ ap (option_map suc) (skipped s cs more parts.1 marks.1)
    ∙ one_more (length cs) (place_outside false s more)

pub skips_plain : (s : ℕ) (text : List ℕ) → Lacks s text → Lacks 39 text → Skips s text
skips_plain s text lacks plain = record { goes_on = λ more. skipped s text more lacks plain }

closed : (s : ℕ) (name more : List ℕ) → Lacks 39 name → place_outside true s (name ++ 39 ∷ more)
    ≡ option_map (λ k. suc (length name) + k) (place_outside false s more)
closed s [] more plain = at_mark true s more ∙ ap (option_map suc) (none_before (place_outside false s more))
    ∙ one_more 0 (place_outside false s more)
closed s (c ∷ cs) more plain =
    let marks = lacks_parts 39 c cs plain in
    at_quoted (c == s) s c (cs ++ 39 ∷ more) refl marks.0 ∙ ap (option_map suc) (closed s cs more marks.1)
    ∙ one_more (suc (length cs)) (place_outside false s more)

pub skips_quoted : (s : ℕ) (name : List ℕ) → Lacks 39 name → Skips s (39 ∷ name ++ 39 ∷ [])
skips_quoted s name plain = record {
  goes_on = λ more.
      let long : length (39 ∷ name ++ 39 ∷ []) ≡ suc (suc (length name)) =
      ap suc (length-append name (39 ∷ []) ∙ omega arith) in
      ap (λ t. place_outside false s (39 ∷ t)) (append_assoc name (39 ∷ []) more)
      ∙ at_mark false s (name ++ 39 ∷ more) ∙ ap (option_map suc) (closed s name more plain)
      ∙ one_more (suc (length name)) (place_outside false s more)
      ∙ ap (λ (n : ℕ). option_map (λ k. n + k) (place_outside false s more)) (sym long);
}

pub skips_both : (s : ℕ) (one other : List ℕ) → Skips s one → Skips s other → Skips s (one ++ other)
skips_both s one other first second = record {
  goes_on = λ more.
      ap (place_outside false s) (append_assoc one other more) ∙ first.goes_on (other ++ more)
      ∙ ap (option_map (λ k. length one + k)) (second.goes_on more)
      ∙ two_more (length one) (length other) (length (one ++ other)) (place_outside false s more)
      (length-append one other);
}

pub skips_none : (s : ℕ) → Skips s []
skips_none s = record { goes_on = λ more. none_before (place_outside false s more) }

-- ---- what is found in them, and behind them

pub none_in : (s : ℕ) (text : List ℕ) → Skips s text → place_outside false s text ≡ None
none_in s text skips =
    ap (place_outside false s) (sym (append-nil text)) ∙ skips.goes_on []
    ∙ ap (option_map (λ k. length text + k)) (empty false s)

pub found_behind : (s : ℕ) (lead others : List ℕ) → (s == 39) ≡ false → Skips s lead
    → place_outside false s (lead ++ s ∷ others) ≡ Some (length lead)
found_behind s lead others mark skips =
    skips.goes_on (s ∷ others) ∙ ap (option_map (λ k. length lead + k)) (at_place s others mark) ∙ ap Some (omega arith)

-- two lists that begin with as many
pub same_begin : (a b c d : List ℕ) → length a ≡ length c → a ++ b ≡ c ++ d → (a ≡ c) × (b ≡ d)
same_begin [] b [] d long is = (refl, is)
same_begin [] b (y ∷ c) d long is = absurd (omega (arith, long))
same_begin (x ∷ a) b [] d long is = absurd (omega (arith, long))
same_begin (x ∷ a) b (y ∷ c) d long is =
    let first : x ≡ y = cc in
    let others : a ++ b ≡ c ++ d = cc in
    let less : length a ≡ length c = omega (arith, long) in
    let both = same_begin a b c d less others in
    (let rest = both.0 in cc, both.1)

same_place : (a b : ℕ) → Some a ≡ Some b → a ≡ b
same_place a b is = cc

-- the one way in which a text is cut there
pub cut_there : (s : ℕ) (text first others lead behind : List ℕ) → (s == 39) ≡ false
    → text ≡ first ++ s ∷ others → Some (length first) ≡ place_outside false s text
    → Skips s lead → text ≡ lead ++ s ∷ behind → (first ≡ lead) × (others ≡ behind)
cut_there s text first others lead behind mark cut place skips is =
    let there : place_outside false s text ≡ Some (length lead) =
    ap (place_outside false s) is ∙ found_behind s lead behind mark skips in
    let long = same_place (length first) (length lead) (place ∙ there) in
    let both = same_begin first (s ∷ others) lead (s ∷ behind) long (sym cut ∙ is) in
    let rest = both.1 in
    (both.0, cc)

-- a text that isn't cut there has no such parts
pub no_cut : (s : ℕ) (text lead behind : List ℕ) → (s == 39) ≡ false → place_outside false s text ≡ None
    → Skips s lead → text ≡ lead ++ s ∷ behind → ⊥
no_cut s text lead behind mark none skips is =
    let there : place_outside false s text ≡ Some (length lead) =
    ap (place_outside false s) is ∙ found_behind s lead behind mark skips in
    let never = sym none ∙ there in cc

-- ---- the cut at a place

pub record IsCut (s k : ℕ) (text : List ℕ) : Type 0 where
  pub inside : k < length text
  pub whole : text ≡ take k text ++ s ∷ drop (suc k) text

cut_first : (s : ℕ) (rest : List ℕ) → IsCut s 0 (s ∷ rest)
cut_first s rest = record { inside = omega arith; whole = refl }

cut_later : (s k c : ℕ) (rest : List ℕ) → IsCut s k rest → IsCut s (suc k) (c ∷ rest)
cut_later s k c rest cut =
    let inside = cut.inside in
    record { inside = omega arith; whole = ap (λ t. c ∷ t) cut.whole }

later : (s k c : ℕ) (rest : List ℕ) (o : Option ℕ) → ((j : ℕ) → o ≡ Some j → IsCut s j rest)
    → option_map suc o ≡ Some k → IsCut s k (c ∷ rest)
later s k c rest None others is = cc
later s k c rest (Some j) others is =
    let same : suc j ≡ k = cc in
    subst (λ n. IsCut s n (c ∷ rest)) same (cut_later s j c rest (others j refl))

by_first : (mark here : Bool) (q : Bool) (s k c : ℕ) (rest : List ℕ) → (c == 39) ≡ mark → ((c == s) && not q) ≡ here
    → ((p : Bool) (j : ℕ) → place_outside p s rest ≡ Some j → IsCut s j rest)
    → place_outside q s (c ∷ rest) ≡ Some k → IsCut s k (c ∷ rest)
unfolding place_outside
by_first true here q s k c rest is_mark is_here others is =
    later s k c rest (place_outside (not q) s rest) (others (not q)) (rw is_mark at is)
by_first false true q s k c rest is_mark is_here others is =
    let none : 0 ≡ k = let at_once : Some 0 ≡ Some k = rw (is_mark, is_here) at is in cc in
    let same : c ≡ s = grind (arith, nat_tests) in
    subst (λ n. IsCut s n (c ∷ rest)) none (subst (λ b. IsCut s 0 (b ∷ rest)) (sym same) (cut_first s rest))
by_first false false q s k c rest is_mark is_here others is =
    later s k c rest (place_outside q s rest) (others q) (rw (is_mark, is_here) at is)

pub cut_at : (q : Bool) (s k : ℕ) (text : List ℕ) → place_outside q s text ≡ Some k → IsCut s k text
cut_at q s k [] is = let none = empty q s in cc
cut_at q s k (c ∷ rest) is =
    by_first (c == 39) ((c == s) && not q) q s k c rest refl refl (λ p j. cut_at p s j rest) is

-- ---- what stands before a place

pub field_is : (s : ℕ) (text first others : List ℕ) → text ≡ first ++ s ∷ others
    → Some (length first) ≡ place_outside false s text → first ≡ field_outside s text
field_is s text first others cut place =
    rw (← place) (rw cut (sym (take_at first (s ∷ others) (length first) refl)))

pub field_whole : (s : ℕ) (text : List ℕ) → place_outside false s text ≡ None → field_outside s text ≡ text
field_whole s text none = rw none refl

-- ---- a turn of a loop that looks for the place

step_by : (mark here : Bool) (q : Bool) (s c : ℕ) (rest : List ℕ) → (c == 39) ≡ mark → ((c == s) && not q) ≡ here
    → place_outside q s (c ∷ rest) ≡ (if not mark && here then Some 0
    else option_map suc (place_outside (if mark then not q else q) s rest))
unfolding place_outside
step_by true here q s c rest is_mark is_here = rw is_mark refl
step_by false true q s c rest is_mark is_here = rw (is_mark, is_here) refl
step_by false false q s c rest is_mark is_here = rw (is_mark, is_here) refl

so_far : (q : Bool) (s i d : ℕ) (text : List ℕ) → i < length text
    → place_outside false s text ≡ option_map (λ k. i + k) (place_outside q s (drop i text))
    → place_outside false s text ≡ option_map (λ k. i + k) (if not (get_or text i d == 39)
    && ((get_or text i d == s) && not q) then Some 0
    else option_map suc (place_outside (if get_or text i d == 39 then not q else q) s (drop (i + 1) text)))
so_far q s i d text inside is =
    is ∙ ap (λ t. option_map (λ k. i + k) (place_outside q s t)) (drop_more text i d inside)
    ∙ ap (option_map (λ k. i + k))
    (step_by (get_or text i d == 39) ((get_or text i d == s) && not q) q s (get_or text i d) (drop (i + 1) text) refl
    refl)

pub found_here : (q : Bool) (s i d : ℕ) (text : List ℕ) → i < length text
    → place_outside false s text ≡ option_map (λ k. i + k) (place_outside q s (drop i text))
    → (not (get_or text i d == 39) && ((get_or text i d == s) && not q)) ≡ true
    → Some i ≡ place_outside false s text
found_here q s i d text inside is here =
    sym (rw here at (so_far q s i d text inside is) ∙ ap Some (omega arith))

one_on : (i : ℕ) (o : Option ℕ) → option_map (λ k. i + k) (option_map suc o) ≡ option_map (λ k. i + 1 + k) o
one_on i None = refl
one_on i (Some k) = ap Some (omega arith)

pub not_here : (q : Bool) (s i d : ℕ) (text : List ℕ) → i < length text
    → place_outside false s text ≡ option_map (λ k. i + k) (place_outside q s (drop i text))
    → (not (get_or text i d == 39) && ((get_or text i d == s) && not q)) ≡ false
    → place_outside false s text ≡ option_map (λ k. i + 1 + k)
    (place_outside (if get_or text i d == 39 then not q else q) s (drop (i + 1) text))
not_here q s i d text inside is here =
    rw here at (so_far q s i d text inside is)
    ∙ one_on i (place_outside (if get_or text i d == 39 then not q else q) s (drop (i + 1) text))

pub nowhere : (q : Bool) (s i : ℕ) (text : List ℕ) → length text ≤ i
    → place_outside false s text ≡ option_map (λ k. i + k) (place_outside q s (drop i text))
    → None ≡ place_outside false s text
nowhere q s i text past is =
    sym (is ∙ ap (λ t. option_map (λ k. i + k) (place_outside q s t)) (drop_all i text past)
    ∙ ap (option_map (λ k. i + k)) (empty q s))

pub parts_found : (s k : ℕ) (text : List ℕ) → Some k ≡ place_outside false s text
    → text ≡ take k text ++ s ∷ take (length text - (k + 1)) (drop (k + 1) text)
parts_found s k text is =
    let cut = cut_at false s k text (sym is) in
    subst (λ t. text ≡ take k text ++ s ∷ t) (sym (take_rest text (k + 1)))
    (let next : suc k ≡ k + 1 = omega arith in
    subst (λ n. text ≡ take k text ++ s ∷ drop n text) next cut.whole)

pub place_found : (s k : ℕ) (text : List ℕ) → k < length text → Some k ≡ place_outside false s text
    → Some (length (take k text)) ≡ place_outside false s text
place_found s k text inside is = ap Some (length-take-le k text (omega (arith, inside))) ∙ is
