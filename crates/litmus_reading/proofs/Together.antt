-- A whole test, put together from its parts.
use Rattle.std.proofs.Common.{◌≡◌, ℕ, ◌≤◌, List, [], length, map, sym, ap, ◌∙◌, subst}
use Rattle.std.specs.Prelude.{All}
use Rattle.litmus_tests.specs.declared.test.LitmusTest.{LitmusTest}
use Rattle.litmus_tests.specs.declared.condition.Observed.{Observed}
use Rattle.litmus_words.specs.declared.word.Word.{Word}
use Rattle.litmus_words.specs.Gaps.{StandFrom}
use Rattle.litmus_words.specs.Tokens.{tokens}
use Rattle.litmus_reading.specs.declared.locations.Named.{Named}
use Rattle.litmus_reading.specs.declared.start.Entry.{Entry}
use Rattle.litmus_reading.specs.Heads.{IsHeadOf}
use Rattle.litmus_reading.specs.Looked.{looked_at}
use Rattle.litmus_reading.specs.Memory.{memory_of}
use Rattle.litmus_reading.specs.Names.{located_word, names_in, IsNewLocation}
use Rattle.litmus_reading.specs.Questions.{SpellsQuestion}
use Rattle.litmus_reading.specs.Starts.{AreEntries, AreOfHarts}
use Rattle.litmus_reading.specs.Texts.{AreLocations, AreThreads, IsBraced, IsHeadRow, IsOfWords, IsTable, IsTextOf}

-- of words, and of so many harts
pub of_words : (text : List ℕ) (names : List Named) (words inside behind below rows asked : List Word)
    (entries : List Entry) (listed : List Observed) (whole : List ℕ) (harts count : ℕ) (test : LitmusTest)
    → IsBraced words inside behind → AreEntries [] entries (tokens inside) → AreOfHarts harts entries
    → IsHeadRow behind harts below
    → IsTable harts below rows asked → SpellsQuestion harts asked test.quantifier test.condition test.filter listed whole
    → AreLocations text whole names test.locations.items → count ≡ length test.locations.items
    → test.observed.items ≡ looked_at test.condition test.filter listed harts count
    → test.words.items ≡ memory_of entries names → length test.threads.items ≡ harts
    → AreThreads text rows entries 0 test.threads.items → IsOfWords text names words test
of_words text names words inside behind below rows asked entries listed whole harts count test braced start there heads
    parted question locations many observed memory threads are = record {
      inside = inside;
      behind = behind;
      below = below;
      rows = rows;
      asked = asked;
      entries = entries;
      listed = listed;
      whole = whole;
      braced = braced;
      start = start;
      harts = subst (λ (n : ℕ). AreOfHarts n entries) (sym threads) there;
      heads = subst (λ (n : ℕ). IsHeadRow behind n below) (sym threads) heads;
      parted = subst (λ (n : ℕ). IsTable n below rows asked) (sym threads) parted;
      memory = memory;
      locations = locations;
      threads = are;
      question = subst (λ (n : ℕ). SpellsQuestion n asked test.quantifier test.condition test.filter listed whole)
          (sym threads) question;
      observed = observed
          ∙ ap (λ (n : ℕ). looked_at test.condition test.filter listed n count) (sym threads)
          ∙ ap (λ (n : ℕ). looked_at test.condition test.filter listed (length test.threads.items) n) many;
    }

-- of a text
pub of_text : (text name : List ℕ) (from : ℕ) (words inside behind located : List Word) (names : List Named)
    (test : LitmusTest) → length text ≤ 65536 → IsHeadOf text name from → test.name.items ≡ name
    → StandFrom text from words → IsBraced words inside behind → names ≡ names_in text inside
    → All (IsNewLocation text) names
    → located ≡ map (located_word text names) words → IsOfWords text names located test → IsTextOf text test
of_text text name from words inside behind located names test short head named stand braced are new is of = record {
  from = from;
  words = words;
  inside = inside;
  behind = behind;
  short = short;
  head = subst (λ (t : List ℕ). IsHeadOf text t from) (sym named) head;
  stand = stand;
  braced = braced;
  named = subst (All (IsNewLocation text)) are new;
  is = subst (λ (t : List Named). IsOfWords text t (map (located_word text t) words) test) are
      (subst (λ (t : List Word). IsOfWords text names t test) is of);
}

-- the same where parts are lent as slices
pub of_slices : (text name : List ℕ) (from : ℕ) (words lent again inside behind located lent_located : List Word)
    (names lent_names names_again : List Named) (test : LitmusTest) → length text ≤ 65536 → IsHeadOf text name from
    → test.name.items ≡ name → StandFrom text from words → lent ≡ words → again ≡ words → lent_names ≡ names
    → lent_located ≡ located → names_again ≡ names → IsBraced lent inside behind → names ≡ names_in text inside
    → All (IsNewLocation text) names → located ≡ map (located_word text lent_names) again → IsOfWords text names_again lent_located test
    → IsTextOf text test
of_slices text name from words lent again inside behind located lent_located names lent_names names_again test short
    head named stand same same_again same_names same_located same_names_again braced are new is of =
    of_text text name from words inside behind located names test short head named stand
    (subst (λ (t : List Word). IsBraced t inside behind) same braced) are new
    (is ∙ ap (λ (t : List Named). map (located_word text t) again) same_names
    ∙ ap (map (located_word text names)) same_again)
    (subst (λ (t : List Named). IsOfWords text t located test) same_names_again
    (subst (λ (t : List Word). IsOfWords text names_again t test) same_located of))

-- the words that are known to be a test's are those that are read
pub words_at : (text : List ℕ) (words so inside inside_so again located lent_located : List Word)
    (names lent_names names_again : List Named) (test : LitmusTest) → again ≡ words → words ≡ so → inside ≡ inside_so
    → names ≡ names_in text inside → lent_names ≡ names → names_again ≡ names
    → located ≡ map (located_word text lent_names) again → lent_located ≡ located
    → IsOfWords text (names_in text inside_so) (map (located_word text (names_in text inside_so)) so) test
    → IsOfWords text names_again lent_located test
words_at text words so inside inside_so again located lent_located names lent_names names_again test same_again same
    same_inside are same_names same_names_again is same_located it =
    let known : names ≡ names_in text inside_so = are ∙ ap (names_in text) same_inside in
    subst (λ (t : List Named). IsOfWords text t lent_located test) (sym (same_names_again ∙ known))
    (subst (λ (t : List Word). IsOfWords text (names_in text inside_so) t test)
    (sym (same_located ∙ is ∙ ap (λ (t : List Named). map (located_word text t) again) (same_names ∙ known)
    ∙ ap (map (located_word text (names_in text inside_so))) (same_again ∙ same))) it)
