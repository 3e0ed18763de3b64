-- How many words of memory names have, a name more at each turn.
use Rattle.std.proofs.Common.{◌≡◌, ℕ, zero, suc, ◌+◌, ◌*◌, ◌/◌, ◌<◌, ◌≤◌, true, List, [], ◌∷◌, ◌++◌, length, drop, get_or, All, refl, sym, ap, ◌∙◌, subst, arith, length-append}
use Rattle.std.specs.Prelude.{unwrap_or}
use Rattle.std.proofs.lemmas.List.Elements.{All-head, All-tail}
use Rattle.watched_outcomes.specs.Watching.{bytes_of}
use Rattle.litmus_tests.specs.Limits.{most_locations}
use Rattle.litmus_words.specs.declared.word.{Word.Word, Declared.Declared}
use Rattle.litmus_reading.specs.declared.locations.{Named.Named, Beginning.Beginning}
use Rattle.litmus_reading.specs.declared.start.Entry.{Entry}
use Rattle.litmus_reading.specs.declared.declarations.Declaration.{Declaration}
use Rattle.litmus_reading.specs.Declarations.{declaration_of}
use Rattle.litmus_reading.specs.Memory.{memory_of, word_count, word_total, words_from, words_of}
use Rattle.litmus_reading.specs.Names.{behind, declared_at, is_new, name_at, new_names, IsNewLocation}
use Rattle.litmus_reading.proofs.Naming.{name_more, next_new}

behind_all : {A : Type 0} (P : A → Type 0) (xs ys : List A) → All P (xs ++ ys) → All P ys
behind_all P [] ys all = all
behind_all P (x ∷ xs) ys all = behind_all P xs ys (All-tail P x (xs ++ ys) all)

pub total_both : (names others : List Named) → word_total (names ++ others) ≡ word_total names + word_total others
total_both [] others = omega arith
total_both (name ∷ names) others = let rest = total_both names others in omega (arith, rest)

-- memory has as many
words_long : (count : ℕ) (entries : List Entry) (declared : Declared) (word : ℕ)
    → length (words_from count entries declared word) ≡ count
words_long zero entries declared word = refl
words_long (suc more) entries declared word = ap suc (words_long more entries declared (word + 1))

pub memory_long : (entries : List Entry) (names : List Named) → length (memory_of entries names) ≡ word_total names
memory_long entries [] = refl
memory_long entries (name ∷ names) =
    let both = length-append (words_of entries name.declared) (memory_of entries names) in
    let first = words_long (word_count name.declared) entries name.declared 0 in
    let rest = memory_long entries names in
    omega (arith, both, first, rest)

abbrev pub made : Word → Declared → Named
made word declared = record { word = word; declared = declared }

-- where the next location begins
pub begins_behind : (names after : List Named) (next later : Beginning) (found : Declaration) (declared : Declared)
    (word : Word) → next.byte ≡ 4 * word_total names → declared ≡ declared_at next found → later ≡ behind declared
    → after ≡ names ++ made word declared ∷ [] → later.byte ≡ 4 * word_total after
begins_behind names after next later found declared word so_far is starts added =
    let begins : declared.byte ≡ next.byte = ap (λ (t : Declared). t.byte) is in
    let there : later.byte ≡ (declared.byte + declared.size + 3) / 4 * 4 = ap (λ (t : Beginning). t.byte) starts in
    let total : word_total after ≡ word_total names + ((declared.size + 3) / 4 + 0) =
    ap word_total added ∙ total_both names (made word declared ∷ []) in
    omega (arith, so_far, begins, there, total)

pub first_before : (next : Beginning) (found : Declaration) (declared : Declared) → declared ≡ declared_at next found
    → next.first ≤ next.byte → declared.first ≤ declared.byte
first_before next found declared is order =
    let first : declared.first ≡ next.first = ap (λ (t : Declared). t.first) is in
    let byte : declared.byte ≡ next.byte = ap (λ (t : Declared). t.byte) is in
    omega (arith, first, byte, order)

module _ (text : List ℕ) (inside : List Word) (all names lent : List Named) (next : Beginning) (words : List Word)
    (i : ℕ) (d : Word) (here : i < length words)
    (so_far : names ++ new_names text inside names next (drop i words) ≡ all) (same : lent ≡ names)
    (new : is_new text lent (get_or words i d) ≡ true) where
  new_here : is_new text names (get_or words i d) ≡ true
  new_here = subst (λ (t : List Named). is_new text t (get_or words i d) ≡ true) same new

  found_new : (others : List Named) × (all ≡ names ++ name_at text inside next (get_or words i d) ∷ others)
  found_new = next_new text inside all names next words i d here so_far new_here

  -- one name more
  pub next_told : (after : List Named) (later : Beginning) (found : Declaration) (declared : Declared)
      → found ≡ declaration_of text inside (get_or words i d) → declared ≡ declared_at next found
      → later ≡ behind declared → after ≡ names ++ made (get_or words i d) declared ∷ []
      → after ++ new_names text inside after later (drop (i + 1) words) ≡ all
  next_told after later found declared is so starts added =
      let whole : declared ≡ declared_at next (declaration_of text inside (get_or words i d)) =
      so ∙ ap (declared_at next) is in
      name_more text inside all names after next later words i d (made (get_or words i d) declared) here so_far new_here
      (ap (made (get_or words i d)) whole) added (starts ∙ ap behind whole)

  -- the next name is one that a location may have, if all are
  pub next_named : All (IsNewLocation text) all
      → IsNewLocation text (name_at text inside next (get_or words i d))
  next_named named =
      let found = found_new in
      All-head (IsNewLocation text) (name_at text inside next (get_or words i d)) found.0
      (behind_all (IsNewLocation text) names (name_at text inside next (get_or words i d) ∷ found.0)
      (subst (λ (t : List Named). All (IsNewLocation text) t) found.1 named))

  -- and there is room for it
  pub next_fits : (found : Declaration) → found ≡ declaration_of text inside (get_or words i d)
      → next.byte ≡ 4 * word_total names → word_total all ≤ most_locations
      → next.byte + unwrap_or found.elements 1 * bytes_of found.number_type.width ≤ 256
  next_fits found is begins few =
      let next_one = found_new in
      let total = ap word_total next_one.1
      ∙ total_both names (name_at text inside next (get_or words i d) ∷ next_one.0) in
      subst (λ (t : Declaration). next.byte + unwrap_or t.elements 1 * bytes_of t.number_type.width ≤ 256) (sym is)
      (fits (unwrap_or (declaration_of text inside (get_or words i d)).elements 1
      * bytes_of (declaration_of text inside (get_or words i d)).number_type.width) (word_total next_one.0) total)
    where
      fits : (size rest : ℕ) → word_total all ≡ word_total names + ((size + 3) / 4 + rest) → next.byte + size ≤ 256
      fits size rest total = omega (arith, total, begins, few)
