-- The words of a test, part by part: what is known of each where those before it were read.
use Rattle.std.proofs.Common.{◌≡◌, ◌⊎◌, ℕ, ◌≤◌, Bool, true, false, List, [], ◌∷◌, length, refl, sym, ap, ◌∙◌, subst, inl, inr, true≢false}
use Rattle.std.specs.List.{AllZip}
use Rattle.std.proofs.lemmas.List.Elements.{length_all_zip}
use Rattle.litmus_tests.specs.declared.condition.Condition.{Condition}
use Rattle.litmus_tests.specs.declared.condition.Observed.{Observed}
use Rattle.litmus_tests.specs.declared.condition.Quantifier.{Quantifier}
use Rattle.litmus_tests.specs.declared.condition.Quantifier.TheVariants.{Exists, NotExists, ForAll}
use Rattle.litmus_tests.specs.declared.location.Location.{Location}
use Rattle.litmus_tests.specs.declared.test.{LitmusTest.LitmusTest}
use Rattle.litmus_tests.specs.Limits.{most_observed}
use Rattle.litmus_tests.specs.WellFormed.{IsWellFormed}
use Rattle.litmus_words.specs.declared.word.Word.{Word}
use Rattle.litmus_words.specs.declared.word.Token.{Token}
use Rattle.litmus_words.specs.declared.word.Token.TheVariants.{Mark}
use Rattle.litmus_words.specs.declared.word.Mark.TheVariants as mark
use Rattle.litmus_words.specs.Tokens.{Takes, tokens}
use Rattle.litmus_reading.specs.declared.locations.Named.{Named}
use Rattle.litmus_reading.specs.declared.start.Entry.{Entry}
use Rattle.litmus_reading.specs.Declarations.{begins}
use Rattle.litmus_reading.specs.Grammar.{IsSame}
use Rattle.litmus_reading.specs.Looked.{looked_at}
use Rattle.litmus_reading.specs.Questions.{IsAskedAfter, MayFilter, MayList, SpellsQuestion, quantifier_tokens, FilterTaken}
use Rattle.litmus_reading.specs.Rows.{is_asking}
use Rattle.litmus_reading.specs.Same.{IsSameLocation}
use Rattle.litmus_reading.specs.Starts.{AreEntries, AreOfHarts, SayTheSame}
use Rattle.litmus_reading.specs.Texts.{AreLocations, AreThreads, IsHeadRow, IsOfWords, IsTable}
use Rattle.litmus_reading.proofs.Alike.{locations_same, looked_same, threads_moved}
use Rattle.litmus_reading.proofs.Placeless.{same_harts}

-- what is asked begins as no row does
asks_first : (words rest : List Word) (one : Token) (more : List Token) → Takes words (one ∷ more) rest
    → is_asking one ≡ true → begins is_asking words ≡ true
asks_first [] rest one more takes asks = absurd takes.so
asks_first (word ∷ words) rest one more takes asks = ap is_asking takes.so.0 ∙ asks

asks_quantifier : (quantifier : Quantifier) (words rest : List Word) → Takes words (quantifier_tokens quantifier) rest
    → begins is_asking words ≡ true
asks_quantifier Exists words rest takes = asks_first words rest (Mark mark.Exists) [] takes refl
asks_quantifier NotExists words rest takes = asks_first words rest (Mark mark.Not) (Mark mark.Exists ∷ []) takes refl
asks_quantifier ForAll words rest takes = asks_first words rest (Mark mark.ForAll) [] takes refl

asks_filter : (harts : ℕ) (words : List Word) (filter : Condition) (rest : List Word)
    → FilterTaken harts words filter rest → begins is_asking words ≡ true
asks_filter harts words filter rest it = asks_first words it.behind (Mark mark.Filter) [] it.begins refl

asks_after : (harts : ℕ) (words rest : List Word) (quantifier : Quantifier) (condition : Condition) → words ≡ rest
    → IsAskedAfter harts false rest quantifier condition → begins is_asking words ≡ true
asks_after harts words rest quantifier condition same (inl it) =
    ap (begins is_asking) same ∙ asks_quantifier quantifier rest it.behind it.begins
asks_after harts words rest quantifier condition same (inr it) = absurd (true≢false (sym it.0))

asks_between : (harts : ℕ) (has : Bool) (words between rest : List Word) (filter : Condition) (quantifier : Quantifier)
    (condition : Condition) → has ≡ false → words ≡ between → MayFilter harts between filter rest
    → IsAskedAfter harts has rest quantifier condition → begins is_asking words ≡ true
asks_between harts has words between rest filter quantifier condition none same (inl it) asked =
    asks_after harts words rest quantifier condition (same ∙ it.1)
    (subst (λ (b : Bool). IsAskedAfter harts b rest quantifier condition) none asked)
asks_between harts has words between rest filter quantifier condition none same (inr it) asked =
    ap (begins is_asking) same ∙ asks_filter harts between filter rest it

asks_list : (harts : ℕ) (has : Bool) (words between rest : List Word) (listed : List Observed) (whole : List ℕ)
    (filter : Condition) (quantifier : Quantifier) (condition : Condition)
    → MayList harts words has listed whole between → MayFilter harts between filter rest
    → IsAskedAfter harts has rest quantifier condition → begins is_asking words ≡ true
asks_list harts has words between rest listed whole filter quantifier condition (inl none) may asked =
    asks_between harts has words between rest filter quantifier condition none.0 none.3 may asked
asks_list harts has words between rest listed whole filter quantifier condition (inr it) may asked =
    asks_first words it.1.inside (Mark mark.Locations) (Mark mark.LeftBracket ∷ []) it.1.opens refl

asks_by : (harts : ℕ) (has : Bool) (words between rest : List Word) (listed : List Observed) (whole : List ℕ)
    (filter : Condition) (quantifier : Quantifier) (condition : Condition)
    → (MayList harts words has listed whole between × MayFilter harts between filter rest)
    ⊎ (FilterTaken harts words filter between × MayList harts between has listed whole rest)
    → IsAskedAfter harts has rest quantifier condition → begins is_asking words ≡ true
asks_by harts has words between rest listed whole filter quantifier condition (inl it) asked =
    asks_list harts has words between rest listed whole filter quantifier condition it.0 it.1 asked
asks_by harts has words between rest listed whole filter quantifier condition (inr it) asked =
    asks_filter harts words filter between it.0

pub question_asks : (harts : ℕ) (words : List Word) (quantifier : Quantifier) (condition filter : Condition)
    (listed : List Observed) (whole : List ℕ) → SpellsQuestion harts words quantifier condition filter listed whole
    → begins is_asking words ≡ true
question_asks harts words quantifier condition filter listed whole it =
    asks_by harts it.has words it.before.0 it.rest listed whole filter quantifier condition it.before.1 it.asked

module _ (text : List ℕ) (names : List Named) (words : List Word) (test : LitmusTest)
    (it : IsOfWords text names words test) where
  pub start_at : (inside : List Word) → inside ≡ it.inside → AreEntries [] it.entries (tokens inside)
  start_at inside same = subst (λ (t : List Word). AreEntries [] it.entries (tokens t)) (sym same) it.start

  pub heads_at : (behind : List Word) → behind ≡ it.behind → IsHeadRow behind (length test.threads.items) it.below
  heads_at behind same =
      subst (λ (t : List Word). IsHeadRow t (length test.threads.items) it.below) (sym same) it.heads

  pub harts_at : (harts : ℕ) (entries lent : List Entry) → harts ≡ length test.threads.items
      → SayTheSame entries it.entries → lent ≡ entries → AreOfHarts harts lent
  harts_at harts entries lent many same is =
      subst (AreOfHarts harts) (sym is) (same_harts harts entries it.entries same
      (subst (λ (n : ℕ). AreOfHarts n it.entries) (sym many) it.harts))

  pub table_at : (harts : ℕ) (below : List Word) → harts ≡ length test.threads.items → below ≡ it.below
      → IsTable harts below it.rows it.asked
  table_at harts below many same =
      subst (λ (n : ℕ). IsTable n below it.rows it.asked) (sym many)
      (subst (λ (t : List Word). IsTable (length test.threads.items) t it.rows it.asked) (sym same) it.parted)

  pub asks_at : begins is_asking it.asked ≡ true
  asks_at = question_asks (length test.threads.items) it.asked test.quantifier test.condition test.filter it.listed
      it.whole it.question

  pub question_at : (harts : ℕ) (asked : List Word) → harts ≡ length test.threads.items → asked ≡ it.asked
      → SpellsQuestion harts asked test.quantifier test.condition test.filter it.listed it.whole
  question_at harts asked many same =
      subst (λ (n : ℕ). SpellsQuestion n asked test.quantifier test.condition test.filter it.listed it.whole) (sym many)
      (subst (λ (t : List Word). SpellsQuestion (length test.threads.items) t test.quantifier test.condition
      test.filter it.listed it.whole) (sym same) it.question)

  pub places_at : (whole lent : List ℕ) (found : List Location) → lent ≡ whole → whole ≡ it.whole
      → AreLocations text lent names found → AllZip IsSameLocation test.locations.items found
  places_at whole lent found is same are =
      locations_same text it.whole names test.locations.items found it.locations
      (subst (λ (t : List ℕ). AreLocations text t names found) (is ∙ same) are)

  pub looked_as : (condition filters : Condition) (listed : List Observed) (harts count : ℕ) (found : List Location)
      → IsSame condition test.condition → IsSame filters test.filter → listed ≡ it.listed
      → harts ≡ length test.threads.items → count ≡ length found
      → AllZip IsSameLocation test.locations.items found
      → looked_at condition filters listed harts count ≡ test.observed.items
  looked_as condition filters listed harts count found is so list many long places =
      looked_same condition test.condition filters test.filter listed it.listed harts (length test.threads.items) count
      (length test.locations.items) is so list many
      (long ∙ sym (length_all_zip IsSameLocation test.locations.items found places)) ∙ sym it.observed

  pub few_looked : (condition filters : Condition) (listed : List Observed) (harts count : ℕ) (found : List Location)
      → IsSame condition test.condition → IsSame filters test.filter → listed ≡ it.listed
      → harts ≡ length test.threads.items → count ≡ length found
      → AllZip IsSameLocation test.locations.items found → IsWellFormed test
      → length (looked_at condition filters listed harts count) ≤ most_observed
  few_looked condition filters listed harts count found is so list many long places well =
      subst (λ (t : List Observed). length t ≤ most_observed)
      (sym (looked_as condition filters listed harts count found is so list many long places)) well.few

  pub threads_at : (rows : List Word) (entries lent : List Entry) → rows ≡ it.rows → SayTheSame entries it.entries
      → lent ≡ entries → AreThreads text rows lent 0 test.threads.items
  threads_at rows entries lent same so is =
      subst (λ (t : List Entry). AreThreads text rows t 0 test.threads.items) (sym is)
      (subst (λ (t : List Word). AreThreads text t entries 0 test.threads.items) (sym same)
      (threads_moved text it.rows entries it.entries so 0 test.threads.items it.threads))
