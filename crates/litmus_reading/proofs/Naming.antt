-- Names of locations, a word more at each turn.
use Rattle.std.proofs.Common.{◌≡◌, ℕ, suc, ◌+◌, ◌<◌, ◌≤◌, Bool, true, false, if◌then◌else◌, List, [], ◌∷◌, ◌++◌, Some, None, length, drop, get_or}
use Rattle.std.proofs.Common.{sym, ap, ◌∙◌, subst, arith, append_assoc, append-nil, drop-cons, drop_of_length-le}
use Rattle.litmus_words.specs.declared.word.Word.{Word}
use Rattle.litmus_words.specs.Bytes.{same_bytes}
use Rattle.litmus_reading.specs.declared.locations.{Named.Named, Beginning.Beginning}
use Rattle.litmus_reading.specs.Declarations.{declaration_of}
use Rattle.litmus_reading.specs.Names.{behind, declared_at, is_new, name_at, declared_of, new_names}

-- the element at a place, and those behind it
pub drop_here : {A : Type 0} (xs : List A) (i : ℕ) (d : A) → i < length xs
    → drop i xs ≡ get_or xs i d ∷ drop (i + 1) xs
drop_here {A} xs i d inside =
    let next : suc i ≡ i + 1 = omega arith in
    subst (λ (k : ℕ). drop i xs ≡ get_or xs i d ∷ drop k xs) next (drop-cons xs i d inside)

-- a list told from its front
pub told_more : {A : Type 0} (all before after rest next : List A) (x : A) → rest ≡ x ∷ next
    → before ++ rest ≡ all → after ≡ before ++ x ∷ [] → after ++ next ≡ all
told_more {A} all before after rest next x here so_far is =
    ap (λ (t : List A). t ++ next) is ∙ append_assoc before (x ∷ []) next
    ∙ ap (λ (t : List A). before ++ t) (sym here) ∙ so_far

pub pushed : {A : Type 0} (before after more : List A) (x : A) → after ≡ before ++ x ∷ []
    → before ++ x ∷ more ≡ after ++ more
pushed {A} before after more x is =
    sym (append_assoc before (x ∷ []) more) ∙ ap (λ (t : List A). t ++ more) (sym is)

pub told_all : {A : Type 0} (all before rest : List A) → rest ≡ [] → before ++ rest ≡ all → before ≡ all
told_all {A} all before rest none so_far =
    sym (append-nil before) ∙ ap (λ (t : List A). before ++ t) (sym none) ∙ so_far

names_told : (text : List ℕ) (inside : List Word) (names : List Named) (next : Beginning) (words : List Word) (i : ℕ)
    (d : Word) (b : Bool) → i < length words → is_new text names (get_or words i d) ≡ b
    → new_names text inside names next (drop i words)
    ≡ (if b
    then name_at text inside next (get_or words i d)
    ∷ new_names text inside (names ++ name_at text inside next (get_or words i d) ∷ [])
    (behind (declared_at next (declaration_of text inside (get_or words i d)))) (drop (i + 1) words)
    else new_names text inside names next (drop (i + 1) words))
names_told text inside names next words i d b here new =
    ap (new_names text inside names next) (drop_here words i d here)
    ∙ ap (λ (t : Bool). if t
    then name_at text inside next (get_or words i d)
    ∷ new_names text inside (names ++ name_at text inside next (get_or words i d) ∷ [])
    (behind (declared_at next (declaration_of text inside (get_or words i d)))) (drop (i + 1) words)
    else new_names text inside names next (drop (i + 1) words)) new

-- the first that is new in what is left
pub next_new : (text : List ℕ) (inside : List Word) (all names : List Named) (next : Beginning) (words : List Word)
    (i : ℕ) (d : Word) → i < length words → names ++ new_names text inside names next (drop i words) ≡ all
    → is_new text names (get_or words i d) ≡ true
    → (others : List Named) × (all ≡ names ++ name_at text inside next (get_or words i d) ∷ others)
next_new text inside all names next words i d here so_far new = (
  new_names text inside (names ++ name_at text inside next (get_or words i d) ∷ [])
      (behind (declared_at next (declaration_of text inside (get_or words i d)))) (drop (i + 1) words),
  sym so_far ∙ ap (λ (t : List Named). names ++ t) (names_told text inside names next words i d true here new),
)

-- one name more
pub name_more : (text : List ℕ) (inside : List Word) (all names after : List Named) (next later : Beginning)
    (words : List Word) (i : ℕ) (d : Word) (name : Named) → i < length words
    → names ++ new_names text inside names next (drop i words) ≡ all
    → is_new text names (get_or words i d) ≡ true → name ≡ name_at text inside next (get_or words i d)
    → after ≡ names ++ name ∷ [] → later ≡ behind (declared_at next (declaration_of text inside (get_or words i d)))
    → after ++ new_names text inside after later (drop (i + 1) words) ≡ all
name_more text inside all names after next later words i d name here so_far new is added starts =
    let put : after ≡ names ++ name_at text inside next (get_or words i d) ∷ [] =
    added ∙ ap (λ (t : Named). names ++ t ∷ []) is in
    told_more all names after (new_names text inside names next (drop i words))
    (new_names text inside after later (drop (i + 1) words)) (name_at text inside next (get_or words i d))
    (names_told text inside names next words i d true here new
    ∙ ap (λ (t : List Named). name_at text inside next (get_or words i d)
    ∷ new_names text inside t (behind (declared_at next (declaration_of text inside (get_or words i d))))
    (drop (i + 1) words)) (sym put)
    ∙ ap (λ (t : Beginning). name_at text inside next (get_or words i d)
    ∷ new_names text inside after t (drop (i + 1) words)) (sym starts))
    so_far put

-- none more
pub names_same : (text : List ℕ) (inside : List Word) (all names : List Named) (next : Beginning)
    (words : List Word) (i : ℕ) (d : Word) → i < length words
    → names ++ new_names text inside names next (drop i words) ≡ all
    → is_new text names (get_or words i d) ≡ false
    → names ++ new_names text inside names next (drop (i + 1) words) ≡ all
names_same text inside all names next words i d here so_far old =
    ap (λ (t : List Named). names ++ t) (sym (names_told text inside names next words i d false here old)) ∙ so_far

-- the names, one more at each turn
pub named_here : (text : List ℕ) (names : List Named) (word : Word) (i : ℕ) (d : Named) → i < length names
    → same_bytes text (get_or names i d).word word ≡ true
    → declared_of text (drop i names) word ≡ Some (get_or names i d).declared
named_here text names word i d inside same =
    ap (λ (t : List Named). declared_of text t word) (drop_here names i d inside)
    ∙ ap (λ (b : Bool). if b then Some (get_or names i d).declared else declared_of text (drop (i + 1) names) word) same

pub named_later : (text : List ℕ) (names : List Named) (word : Word) (i : ℕ) (d : Named) → i < length names
    → same_bytes text (get_or names i d).word word ≡ false
    → declared_of text (drop i names) word ≡ declared_of text (drop (i + 1) names) word
named_later text names word i d inside other =
    ap (λ (t : List Named). declared_of text t word) (drop_here names i d inside)
    ∙ ap (λ (b : Bool). if b then Some (get_or names i d).declared else declared_of text (drop (i + 1) names) word) other

pub not_named : (text : List ℕ) (names : List Named) (word : Word) (i : ℕ) → length names ≤ i
    → declared_of text (drop i names) word ≡ None
not_named text names word i past = ap (λ (t : List Named). declared_of text t word) (drop_of_length-le names past)
