-- Entries that say the same, wherever they are told: what is asked of them is the same.
use Rattle.std.proofs.Common.{◌≡◌, ℕ, zero, suc, ◌+◌, ◌*◌, ◌%◌, ◌<◌, ◌==◌, ◌&&◌, if◌then◌else◌, List, [], ◌∷◌, ◌++◌, Option, Some, map, refl, sym, ap, ◌∙◌, inl, inr, subst}
use Rattle.std.specs.Prelude.{nat_lt, option_map, option_to_list, unwrap_or}
use Rattle.std.proofs.lemmas.List.{map-append}
use Rattle.std.proofs.lemmas.List.Elements.{All-cons, All-head, All-nil, All-tail}
use Rattle.litmus_tests.specs.declared.value.Value.{Value}
use Rattle.litmus_tests.specs.declared.value.Value.TheVariants as value
use Rattle.watched_outcomes.specs.declared.watch.Width.{Width}
use Rattle.watched_outcomes.specs.declared.watch.Width.TheVariants.{Byte, Half, Word}
use Rattle.litmus_words.specs.declared.word.Declared.{Declared}
use Rattle.litmus_words.specs.declared.word.Token.{Token}
use Rattle.litmus_reading.specs.declared.contents.Given.{Given}
use Rattle.litmus_reading.specs.declared.locations.Named.{Named}
use Rattle.litmus_reading.specs.declared.start.HartStart.{HartStart}
use Rattle.litmus_reading.specs.declared.start.Entry.{Entry}
use Rattle.litmus_reading.specs.declared.start.Entry.TheVariants.{Register, Location}
use Rattle.litmus_reading.specs.Names.{elements_of}
use Rattle.litmus_reading.specs.Memory.{half_at, memory_of, number_at, number_in, word_at, word_count, word_of_halves, word_of_width, words_from, words_of}
use Rattle.litmus_reading.specs.Starts.{AreOfHarts, IsOfHarts, SayTheSame, SpellsEntry, SpellsHart, SpellsPlace, SpellsUntyped}
use Rattle.litmus_reading.specs.Starts.{initial_in, initial_of, start_at, start_in, starts_from, starts_of, unplaced}

pub same_as_itself : (entries : List Entry) → SayTheSame entries entries
same_as_itself entries = refl

pub same_behind : (one other more : List Entry) → SayTheSame one other → SayTheSame (one ++ more) (other ++ more)
same_behind one other more same =
    map-append unplaced one more ∙ ap (λ (t : List Entry). t ++ map unplaced more) same
    ∙ sym (map-append unplaced other more)

-- registers that start alike
pub same_start : (one other : HartStart) → one.hart ≡ other.hart → one.register ≡ other.register
    → one.value ≡ other.value → unplaced (Register one) ≡ unplaced (Register other)
same_start one other hart register held =
    (λ k. Register (record { at = 0; hart = hart k; register = register k; value = held k }))

pub same_starts : (before : List Entry) (one other : HartStart) → one.hart ≡ other.hart
    → one.register ≡ other.register → one.value ≡ other.value
    → SayTheSame (before ++ Register one ∷ []) (before ++ Register other ∷ [])
same_starts before one other hart register held =
    map-append unplaced before (Register one ∷ [])
    ∙ ap (λ (e : Entry). map unplaced before ++ e ∷ []) (same_start one other hart register held)
    ∙ sym (map-append unplaced before (Register other ∷ []))

-- a register and a location
start_unplaced : (entries : List Entry) (hart register : ℕ)
    → start_in (map unplaced entries) hart register ≡ start_in entries hart register
start_unplaced [] hart register = refl
start_unplaced (Register start ∷ entries) hart register =
    ap (λ (t : Option Value). if start.hart == hart && start.register == register then Some start.value else t)
    (start_unplaced entries hart register)
start_unplaced (Location initial ∷ entries) hart register = start_unplaced entries hart register

initial_unplaced : (entries : List Entry) (location : ℕ)
    → initial_in (map unplaced entries) location ≡ initial_in entries location
initial_unplaced [] location = refl
initial_unplaced (Register start ∷ entries) location = initial_unplaced entries location
initial_unplaced (Location initial ∷ entries) location =
    ap (λ (t : Option Value). if initial.location == location then Some initial.value else t)
    (initial_unplaced entries location)

pub same_start_in : (one other : List Entry) → SayTheSame one other → (hart register : ℕ)
    → start_in one hart register ≡ start_in other hart register
same_start_in one other same hart register =
    sym (start_unplaced one hart register) ∙ ap (λ (t : List Entry). start_in t hart register) same
    ∙ start_unplaced other hart register

pub same_initial_in : (one other : List Entry) → SayTheSame one other → (location : ℕ)
    → initial_in one location ≡ initial_in other location
same_initial_in one other same location =
    sym (initial_unplaced one location) ∙ ap (λ (t : List Entry). initial_in t location) same
    ∙ initial_unplaced other location

pub same_initial_of : (one other : List Entry) → SayTheSame one other → (location : ℕ)
    → initial_of one location ≡ initial_of other location
same_initial_of one other same location =
    ap (λ (t : Option Value). unwrap_or t (value.Number 0)) (same_initial_in one other same location)

-- the starts of a hart
same_start_at : (one other : List Entry) → SayTheSame one other → (hart register : ℕ)
    → start_at one hart register ≡ start_at other hart register
same_start_at one other same hart register =
    ap (λ (t : Option Value). option_to_list (option_map (λ held. record { register = register; value = held }) t))
    (same_start_in one other same hart register)

same_starts_from : (more : ℕ) (one other : List Entry) → SayTheSame one other → (hart register : ℕ)
    → starts_from more one hart register ≡ starts_from more other hart register
same_starts_from zero one other same hart register = refl
same_starts_from (suc more) one other same hart register =
    let first = same_start_at one other same hart register in
    let others = same_starts_from more one other same hart (register + 1) in
    (λ k. first k ++ others k)

pub same_starts_of : (one other : List Entry) → SayTheSame one other → (hart : ℕ)
    → starts_of one hart ≡ starts_of other hart
same_starts_of one other same hart = same_starts_from 31 one other same hart 1

-- the words of memory
pub same_number_at : (one other : List Entry) → SayTheSame one other → (declared : Declared) (element : ℕ)
    → number_at one declared element ≡ number_at other declared element
same_number_at one other same declared element =
    ap (λ (t : Value). if nat_lt element (elements_of declared) then number_in t else 0)
    (same_initial_of one other same (declared.first + element))

pub same_half_at : (one other : List Entry) → SayTheSame one other → (declared : Declared) (element : ℕ)
    → half_at one declared element ≡ half_at other declared element
same_half_at one other same declared element =
    let low = same_number_at one other same declared element in
    let high = same_number_at one other same declared (element + 1) in
    (λ k. low k % 256 + 256 * (high k % 256))

same_word_by : (width : Width) (one other : List Entry) → SayTheSame one other → (declared : Declared) (word : ℕ)
    → word_of_width width one declared word ≡ word_of_width width other declared word
same_word_by Byte one other same declared word =
    let low = same_half_at one other same declared (4 * word) in
    let high = same_half_at one other same declared (4 * word + 2) in
    (λ k. word_of_halves (low k) (high k))
same_word_by Half one other same declared word =
    let low = same_number_at one other same declared (2 * word) in
    let high = same_number_at one other same declared (2 * word + 1) in
    (λ k. word_of_halves (low k % 65536) (high k % 65536))
same_word_by Word one other same declared word = same_initial_of one other same (declared.first + word)

pub same_word_at : (one other : List Entry) → SayTheSame one other → (declared : Declared) (word : ℕ)
    → word_at one declared word ≡ word_at other declared word
same_word_at one other same declared word = same_word_by declared.number_type.width one other same declared word

same_words_from : (more : ℕ) (one other : List Entry) → SayTheSame one other → (declared : Declared) (word : ℕ)
    → words_from more one declared word ≡ words_from more other declared word
same_words_from zero one other same declared word = refl
same_words_from (suc more) one other same declared word =
    let first = same_word_at one other same declared word in
    let others = same_words_from more one other same declared (word + 1) in
    (λ k. first k ∷ others k)

pub same_words_of : (one other : List Entry) → SayTheSame one other → (declared : Declared)
    → words_of one declared ≡ words_of other declared
same_words_of one other same declared = same_words_from (word_count declared) one other same declared 0

pub same_memory_of : (one other : List Entry) → SayTheSame one other → (names : List Named)
    → memory_of one names ≡ memory_of other names
same_memory_of one other same [] = refl
same_memory_of one other same (name ∷ names) =
    let first = same_words_of one other same name.declared in
    let others = same_memory_of one other same names in
    (λ k. first k ++ others k)

-- the harts of which they say something
pub register_entry : (harts limit : ℕ) (entry : Entry) (start : HartStart) → entry ≡ Register start
    → start.hart < limit → limit ≡ harts → IsOfHarts harts entry
register_entry harts limit entry start is below so =
    subst (IsOfHarts harts) (sym is) (subst (λ (n : ℕ). start.hart < n) so below)

pub location_entry : (harts : ℕ) (entry : Entry) → ((start : HartStart) → entry ≡ Register start → ⊥)
    → IsOfHarts harts entry
location_entry harts (Register start) off = absurd (off start refl)
location_entry harts (Location initial) off = tt

one_unplaced : (harts : ℕ) (entry : Entry) → IsOfHarts harts entry → IsOfHarts harts (unplaced entry)
one_unplaced harts (Register start) below = below
one_unplaced harts (Location initial) below = tt

one_placed : (harts : ℕ) (entry : Entry) → IsOfHarts harts (unplaced entry) → IsOfHarts harts entry
one_placed harts (Register start) below = below
one_placed harts (Location initial) below = tt

harts_unplaced : (harts : ℕ) (entries : List Entry) → AreOfHarts harts entries
    → AreOfHarts harts (map unplaced entries)
harts_unplaced harts [] are = All-nil (IsOfHarts harts)
harts_unplaced harts (entry ∷ entries) are =
    All-cons (IsOfHarts harts) (unplaced entry) (map unplaced entries)
    (one_unplaced harts entry (All-head (IsOfHarts harts) entry entries are))
    (harts_unplaced harts entries (All-tail (IsOfHarts harts) entry entries are))

harts_placed : (harts : ℕ) (entries : List Entry) → AreOfHarts harts (map unplaced entries)
    → AreOfHarts harts entries
harts_placed harts [] are = All-nil (IsOfHarts harts)
harts_placed harts (entry ∷ entries) are =
    All-cons (IsOfHarts harts) entry entries
    (one_placed harts entry (All-head (IsOfHarts harts) (unplaced entry) (map unplaced entries) are))
    (harts_placed harts entries (All-tail (IsOfHarts harts) (unplaced entry) (map unplaced entries) are))

pub same_harts : (harts : ℕ) (one other : List Entry) → SayTheSame one other → AreOfHarts harts other
    → AreOfHarts harts one
same_harts harts one other same are =
    harts_placed harts one (subst (AreOfHarts harts) (sym same) (harts_unplaced harts other are))

-- what an entry says behind others, it says behind those that say the same
hart_moved : (given : Given) (one other : List Entry) (text : List Token) (entries : List Entry)
    → SayTheSame one other → SpellsHart given other text entries → SpellsHart given one text entries
hart_moved given one other text entries same it = record {
  start = it.start;
  spells = it.spells;
  once = same_start_in one other same it.start.hart it.start.register ∙ it.once;
  are = it.are;
}

place_moved : (given : Given) (one other : List Entry) (text : List Token) (entries : List Entry)
    → SayTheSame one other → SpellsPlace given other text entries → SpellsPlace given one text entries
place_moved given one other text entries same it = record {
  declared = it.declared;
  values = it.values;
  name = it.name;
  contents = it.contents;
  spelled = it.spelled;
  named = it.named;
  holds = it.holds;
  once = same_initial_in one other same it.declared.first ∙ it.once;
  are = it.are;
}

untyped_moved : (given : Given) (one other : List Entry) (text : List Token) (entries : List Entry)
    → SayTheSame one other → SpellsUntyped given other text entries → SpellsUntyped given one text entries
untyped_moved given one other text entries same (inl hart) = inl (hart_moved given one other text entries same hart)
untyped_moved given one other text entries same (inr place) = inr (place_moved given one other text entries same place)

pub entry_moved : (one other : List Entry) (text : List Token) (entries : List Entry) → SayTheSame one other
    → SpellsEntry other text entries → SpellsEntry one text entries
entry_moved one other text entries same it = record {
  given = it.given;
  first = it.first;
  behind = it.behind;
  spelled = it.spelled;
  gives = it.gives;
  untyped = untyped_moved it.given one other it.behind entries same it.untyped;
}
