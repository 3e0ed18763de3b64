-- What is watched, a member of a list or a term at a time.
use Rattle.std.proofs.Common.{◌≡◌, ℕ, zero, suc, ◌+◌, ◌≤◌, ◌<◌, List, [], ◌∷◌, ◌++◌, length, take, drop, get_or, All}
use Rattle.std.proofs.Common.{Contains}
use Rattle.std.proofs.Common.{refl, sym, ap, subst, ◌∙◌, arith, append_assoc, Bool, not, filter}
use Rattle.std.proofs.Common.{append-nil, inl, inr}
use Rattle.std.proofs.lemmas.List.{drop_more, flat_map_more, length-append, take-append-drop, take_all, take_more}
use Rattle.std.proofs.lemmas.Grind.{flat_map-append}
use Rattle.std.proofs.lemmas.List.Elements.{All-more, All-weaker, Contains-append_left}
use Rattle.std.proofs.lemmas.List.Filters.{length-filter_both}
use Rattle.watched_outcomes.specs.declared.watch.WatchedRegister.{WatchedRegister}
use Rattle.watched_outcomes.specs.declared.watch.WatchedBytes.{WatchedBytes}
use Rattle.outcome_queries.specs.{declared.term.Term.Term, declared.watched.Watched.Watched}
use Rattle.outcome_queries.specs.declared.watched.Asked.{Asked}
use Rattle.outcome_queries.specs.declared.term.Term.TheVariants as terms
use Rattle.outcome_queries.specs.declared.watched.Watched.TheVariants as watched
use Rattle.outcome_queries.specs.Watches.{registers_in, words_in, register_with, bytes_with, asked_of, asked_in}
use Rattle.outcome_queries.specs.Watches.{Extends, IsOnceBehind, IsWatchedFor, LacksRoom}

register_short : (w : Watched) → length (register_with w) ≤ 1
register_short (watched.Register h r) = omega arith
register_short (watched.Bytes b) = omega arith

bytes_short : (w : Watched) → length (bytes_with w) ≤ 1
bytes_short (watched.Register h r) = omega arith
bytes_short (watched.Bytes b) = omega arith

pub registers_few : (xs : List Asked) → length (registers_in xs) ≤ length xs
registers_few [] = omega arith
registers_few (asked ∷ xs) =
    let one = register_short asked.watched in
    let few = registers_few xs in
    let both : length (registers_in (asked ∷ xs)) ≡ length (register_with asked.watched) + length (registers_in xs) =
    length-append (register_with asked.watched) (registers_in xs) in
    omega (arith, one, few, both)

pub words_few : (xs : List Asked) → length (words_in xs) ≤ length xs
words_few [] = omega arith
words_few (asked ∷ xs) =
    let one = bytes_short asked.watched in
    let few = words_few xs in
    let both : length (words_in (asked ∷ xs)) ≡ length (bytes_with asked.watched) + length (words_in xs) =
    length-append (bytes_with asked.watched) (words_in xs) in
    omega (arith, one, few, both)

-- a turn of a loop over a list, at a register and at bytes of memory
registers_at : (list : List Asked) (i : ℕ) (d : Asked) → i < length list
    → registers_in (take (i + 1) list) ≡ registers_in (take i list) ++ register_with (get_or list i d).watched
registers_at list i d inside = ap registers_in (take_more list i d inside)
    ∙ sym (flat_map_more (λ (asked : Asked). register_with asked.watched) [] (take i list) (get_or list i d))

words_at : (list : List Asked) (i : ℕ) (d : Asked) → i < length list
    → words_in (take (i + 1) list) ≡ words_in (take i list) ++ bytes_with (get_or list i d).watched
words_at list i d inside = ap words_in (take_more list i d inside)
    ∙ sym (flat_map_more (λ (asked : Asked). bytes_with asked.watched) [] (take i list) (get_or list i d))

pub register_step : (list : List Asked) (i h r : ℕ) (d : Asked) (old new : List WatchedRegister)
    (words : List WatchedBytes) → i < length list → (get_or list i d).watched ≡ watched.Register h r
    → old ≡ registers_in (take i list) → words ≡ words_in (take i list)
    → new ≡ old ++ record { hart = h; register = r } ∷ []
    → (new ≡ registers_in (take (i + 1) list)) × (words ≡ words_in (take (i + 1) list))
register_step list i h r d old new words inside is so_far words_far pushed = (
  pushed ∙ ap (λ (t : List WatchedRegister). t ++ record { hart = h; register = r } ∷ []) so_far
      ∙ ap (λ w. registers_in (take i list) ++ register_with w) (sym is) ∙ sym (registers_at list i d inside),
  words_far ∙ sym (append-nil (words_in (take i list)))
      ∙ ap (λ w. words_in (take i list) ++ bytes_with w) (sym is) ∙ sym (words_at list i d inside),
)

pub word_step : (list : List Asked) (i : ℕ) (bytes : WatchedBytes) (d : Asked) (registers : List WatchedRegister)
    (old new : List WatchedBytes) → i < length list → (get_or list i d).watched ≡ watched.Bytes bytes
    → registers ≡ registers_in (take i list) → old ≡ words_in (take i list) → new ≡ old ++ bytes ∷ []
    → (registers ≡ registers_in (take (i + 1) list)) × (new ≡ words_in (take (i + 1) list))
word_step list i bytes d registers old new inside is registers_far so_far pushed = (
  registers_far ∙ sym (append-nil (registers_in (take i list)))
      ∙ ap (λ w. registers_in (take i list) ++ register_with w) (sym is) ∙ sym (registers_at list i d inside),
  pushed ∙ ap (λ (t : List WatchedBytes). t ++ bytes ∷ []) so_far
      ∙ ap (λ w. words_in (take i list) ++ bytes_with w) (sym is) ∙ sym (words_at list i d inside),
)

-- room for one more
take_short : (i : ℕ) (list : List Asked) → length (take i list) ≤ i
take_short zero list = omega arith
take_short (suc i) [] = omega arith
take_short (suc i) (w ∷ list) = let short = take_short i list in omega (arith, short)

pub register_room : (list : List Asked) (i : ℕ) (registers : List WatchedRegister) → length list ≤ 64 → i < length list
    → registers ≡ registers_in (take i list) → length registers < 64
register_room list i registers few inside is =
    let part = take_short i list in
    let small = registers_few (take i list) in
    let same : length registers ≡ length (registers_in (take i list)) = ap length is in
    omega (arith, few, inside, part, small, same)

pub word_room : (list : List Asked) (i : ℕ) (words : List WatchedBytes) → length list ≤ 64 → i < length list
    → words ≡ words_in (take i list) → length words < 64
word_room list i words few inside is =
    let part = take_short i list in
    let small = words_few (take i list) in
    let same : length words ≡ length (words_in (take i list)) = ap length is in
    omega (arith, few, inside, part, small, same)

pub asked_room : (p : Asked → Bool) (list : List Asked) (i : ℕ) (some : List Asked) → length list ≤ 64 → i < length list
    → some ≡ filter p (take i list) → length some < 64
asked_room p list i some few inside is =
    let part = take_short i list in
    let both = length-filter_both p (λ asked. not (p asked)) (λ asked. refl) (take i list) in
    let same : length some ≡ length (filter p (take i list)) = ap length is in
    omega (arith, few, inside, part, both, same)

-- what a longer list tells of terms
pub still_watched : (old new : List Asked) (term : Term) → Extends old new → IsWatchedFor old term
    → IsWatchedFor new term
still_watched old new (terms.Ended h r n) more is = tt
still_watched old new (terms.Stopped h r c) more is = tt
still_watched old new (terms.Put d r) more is = tt
still_watched old new (terms.Holds a r v) more is = (
  is.0,
  subst (λ (t : List Asked). Contains t is.0) (sym more.1) (Contains-append_left old more.0 is.0 is.1),
  is.2,
)

-- each once, of two lists in turn
pub once_more : (a b c xs ys : List Asked) → IsOnceBehind a xs b → IsOnceBehind b ys c
    → IsOnceBehind a (xs ++ ys) c
once_more a b c [] ys same next = subst (λ (t : List Asked). IsOnceBehind t ys c) (sym same) next
once_more a b c (x ∷ xs) ys (inl there) next = inl (there.0, once_more a b c xs ys there.1 next)
once_more a b c (x ∷ xs) ys (inr new) next = inr (new.0, once_more (a ++ x ∷ []) b c xs ys new.1 next)

-- a turn over the list, and one over the terms
pub list_turn : (list old new : List Asked) (i : ℕ) (d : Asked) → i < length list
    → IsOnceBehind [] (take i list) old → IsOnceBehind old (get_or list i d ∷ []) new
    → IsOnceBehind [] (take (i + 1) list) new
list_turn list old new i d inside once next =
    subst (λ (t : List Asked). IsOnceBehind [] t new) (sym (take_more list i d inside))
    (once_more [] old new (take i list) (get_or list i d ∷ []) once next)

pub asked_more : (terms : List Term) (i : ℕ) (d : Term) → i < length terms
    → asked_in (take (i + 1) terms) ≡ asked_in (take i terms) ++ asked_of (get_or terms i d)
asked_more terms i d inside =
    ap asked_in (take_more terms i d inside) ∙ sym (flat_map_more asked_of [] (take i terms) (get_or terms i d))

pub terms_turn : (list old new : List Asked) (terms : List Term) (i : ℕ) (d : Term) → i < length terms
    → IsOnceBehind [] (list ++ asked_in (take i terms)) old → IsOnceBehind old (asked_of (get_or terms i d)) new
    → IsOnceBehind [] (list ++ asked_in (take (i + 1) terms)) new
terms_turn list old new terms i d inside once next =
    subst (λ (t : List Asked). IsOnceBehind [] t new)
    (append_assoc list (asked_in (take i terms)) (asked_of (get_or terms i d))
    ∙ ap (λ (t : List Asked). list ++ t) (sym (asked_more terms i d inside)))
    (once_more [] old new (list ++ asked_in (take i terms)) (asked_of (get_or terms i d)) once next)

pub all_once : (list all : List Asked) (terms : List Term) (i : ℕ) → length terms ≤ i
    → IsOnceBehind [] (list ++ asked_in (take i terms)) all → IsOnceBehind [] (list ++ asked_in terms) all
all_once list all terms i past once =
    subst (λ (t : List Term). IsOnceBehind [] (list ++ asked_in t) all) (take_all i terms past) once

pub terms_step : (list all new : List Asked) (terms : List Term) (i : ℕ) (d : Term) → i < length terms
    → All (IsWatchedFor all) (take i terms) → Extends all new → IsWatchedFor new (get_or terms i d)
    → All (IsWatchedFor new) (take (i + 1) terms)
terms_step list all new terms i d inside told more next =
    All-more (IsWatchedFor new) terms i d inside
    (All-weaker (IsWatchedFor all) (IsWatchedFor new) (λ term. still_watched all new term more) (take i terms) told)
    next

pub all_told : (all : List Asked) (terms : List Term) (i : ℕ) → length terms ≤ i
    → All (IsWatchedFor all) (take i terms) → All (IsWatchedFor all) terms
all_told all terms i past told = subst (λ (t : List Term). All (IsWatchedFor all) t) (take_all i terms past) told

-- ---- want of room

once_split : (a xs ys all : List Asked) → IsOnceBehind a (xs ++ ys) all
    → (mid : List Asked) × IsOnceBehind a xs mid × IsOnceBehind mid ys all
once_split a [] ys all once = (a, refl, once)
once_split a (x ∷ xs) ys all (inl there) =
    let parts = once_split a xs ys all there.1 in (parts.0, inl (there.0, parts.1), parts.2)
once_split a (x ∷ xs) ys all (inr new) =
    let parts = once_split (a ++ x ∷ []) xs ys all new.1 in (parts.0, inr (new.0, parts.1), parts.2)

once_same : (a xs b c : List Asked) → IsOnceBehind a xs b → IsOnceBehind a xs c → b ≡ c
once_same a [] b c one other = sym one ∙ other
once_same a (x ∷ xs) b c (inl there) (inl again) = once_same a xs b c there.1 again.1
once_same a (x ∷ xs) b c (inl there) (inr new) = absurd (new.0 there.0)
once_same a (x ∷ xs) b c (inr new) (inl there) = absurd (new.0 there.0)
once_same a (x ∷ xs) b c (inr new) (inr again) = once_same (a ++ x ∷ []) xs b c new.1 again.1

once_grows : (a xs b : List Asked) → IsOnceBehind a xs b → length a ≤ length b
once_grows a [] b same = let long : length a ≡ length b = ap length same in omega (arith, long)
once_grows a (x ∷ xs) b (inl there) = once_grows a xs b there.1
once_grows a (x ∷ xs) b (inr new) =
    let more = once_grows (a ++ x ∷ []) xs b new.1 in
    let long : length (a ++ x ∷ []) ≡ length a + 1 = length-append a (x ∷ []) in omega (arith, more, long)

still_full : (a b xs ys zs : List Asked) → IsOnceBehind a xs b → LacksRoom b ys → LacksRoom a (xs ++ (ys ++ zs))
still_full a b xs ys zs once full all whole =
    let first = once_split a xs (ys ++ zs) all whole in
    let same = once_same a xs first.0 b first.1 once in
    let second = once_split b ys zs all (subst (λ (t : List Asked). IsOnceBehind t (ys ++ zs) all) same first.2) in
    let many = full second.0 second.1 in
    let more = once_grows second.0 zs all second.2 in omega (arith, many, more)

pub list_full : (list old behind : List Asked) (i : ℕ) (d : Asked) → i < length list
    → IsOnceBehind [] (take i list) old → LacksRoom old (get_or list i d ∷ []) → LacksRoom [] (list ++ behind)
list_full list old behind i d inside once full =
    let cut : list ≡ take i list ++ get_or list i d ∷ drop (i + 1) list =
    sym (take-append-drop i list) ∙ ap (λ (t : List Asked). take i list ++ t) (drop_more list i d inside) in
    subst (λ (t : List Asked). LacksRoom [] t)
    (sym (ap (λ (t : List Asked). t ++ behind) cut
    ∙ append_assoc (take i list) (get_or list i d ∷ drop (i + 1) list) behind))
    (still_full [] old (take i list) (get_or list i d ∷ []) (drop (i + 1) list ++ behind) once full)

asked_cut : (terms : List Term) (i : ℕ) (d : Term) → i < length terms
    → asked_in terms ≡ asked_in (take i terms) ++ (asked_of (get_or terms i d) ++ asked_in (drop (i + 1) terms))
asked_cut terms i d inside =
    ap asked_in (sym (take-append-drop i terms)
    ∙ ap (λ (t : List Term). take i terms ++ t) (drop_more terms i d inside))
    ∙ flat_map-append asked_of (take i terms) (get_or terms i d ∷ drop (i + 1) terms)

pub terms_full : (list old : List Asked) (terms : List Term) (i : ℕ) (d : Term) → i < length terms
    → IsOnceBehind [] (list ++ asked_in (take i terms)) old → LacksRoom old (asked_of (get_or terms i d))
    → LacksRoom [] (list ++ asked_in terms)
terms_full list old terms i d inside once full =
    subst (λ (t : List Asked). LacksRoom [] t)
    (sym (ap (λ (t : List Asked). list ++ t) (asked_cut terms i d inside)
    ∙ sym (append_assoc list (asked_in (take i terms))
    (asked_of (get_or terms i d) ++ asked_in (drop (i + 1) terms)))))
    (still_full [] old (list ++ asked_in (take i terms)) (asked_of (get_or terms i d)) (asked_in (drop (i + 1) terms))
    once full)
