-- Two readings of the same text say the same: conditions, what is looked at, locations and harts.
use Rattle.std.proofs.Common.{◌≡◌, ℕ, ◌+◌, ◌<◌, ◌≤◌, ◌||◌, Bool, List, [], ◌∷◌, ◌++◌, length, get_or, refl, sym, ap, ◌∙◌, subst, arith, append_assoc, append-nil}
use Rattle.std.specs.Prelude.{All}
use Rattle.std.specs.List.{AllZip, filter}
use Rattle.std.proofs.lemmas.List.Elements.{AllZip-push}
use Rattle.litmus_tests.specs.declared.condition.Condition.{Condition, Always, Holds, Not', Both', Either', Implies', Equivalent'}
use Rattle.litmus_tests.specs.declared.condition.Observed.{Observed}
use Rattle.litmus_tests.specs.declared.condition.Term.{Term}
use Rattle.litmus_tests.specs.declared.location.Location.{Location}
use Rattle.litmus_tests.specs.declared.test.Thread.{Thread}
use Rattle.litmus_words.specs.declared.word.Word.{Word}
use Rattle.litmus_reading.specs.declared.locations.Named.{Named}
use Rattle.litmus_reading.specs.declared.start.Entry.{Entry}
use Rattle.litmus_reading.specs.Grammar.{IsSame}
use Rattle.litmus_reading.specs.Looked.{harts_from, is_listed, is_same, looked_at, looks_at}
use Rattle.litmus_reading.specs.Questions.{elements_from}
use Rattle.litmus_reading.specs.Same.{IsSameLocation, IsSameThread}
use Rattle.litmus_reading.specs.Starts.{SayTheSame, starts_of}
use Rattle.litmus_reading.specs.Texts.{AreElementsFrom, AreLocations, AreThreads}
use Rattle.litmus_reading.specs.Threads.{SpellsThread}
use Rattle.litmus_reading.proofs.Placeless.{same_starts_of}

-- conditions
pub other_way : (one other : Condition) → IsSame one other → IsSame other one
other_way Always Always is = tt
other_way (Holds term) (Holds other) is = sym is
other_way (Not' p inner) (Not' q other) is = other_way inner other is
other_way (Both' p a q b) (Both' r c s d) is = (other_way a c is.0, other_way b d is.1)
other_way (Either' p a q b) (Either' r c s d) is = (other_way a c is.0, other_way b d is.1)
other_way (Implies' p a q b) (Implies' r c s d) is = (other_way a c is.0, other_way b d is.1)
other_way (Equivalent' p a q b) (Equivalent' r c s d) is = (other_way a c is.0, other_way b d is.1)
other_way one other is = absurd is

looks_same : (one other : Condition) → IsSame one other → (at : Observed) → looks_at one at ≡ looks_at other at
looks_same Always Always is at = refl
looks_same (Holds term) (Holds other) is at = ap (λ (t : Term). is_same t.observed at) is
looks_same (Not' p inner) (Not' q other) is at = looks_same inner other is at
looks_same (Both' p a q b) (Both' r c s d) is at = λ k. looks_same a c is.0 at k || looks_same b d is.1 at k
looks_same (Either' p a q b) (Either' r c s d) is at = λ k. looks_same a c is.0 at k || looks_same b d is.1 at k
looks_same (Implies' p a q b) (Implies' r c s d) is at = λ k. looks_same a c is.0 at k || looks_same b d is.1 at k
looks_same (Equivalent' p a q b) (Equivalent' r c s d) is at = λ k. looks_same a c is.0 at k || looks_same b d is.1 at k
looks_same one other is at = absurd is

pub looked_same : (condition other filters others : Condition) (listed listed_so : List Observed)
    (harts harts_so locations locations_so : ℕ) → IsSame condition other → IsSame filters others → listed ≡ listed_so
    → harts ≡ harts_so → locations ≡ locations_so
    → looked_at condition filters listed harts locations ≡ looked_at other others listed_so harts_so locations_so
looked_same condition other filters others listed listed_so harts harts_so locations locations_so is so list many count =
    ap (λ (p : Observed → Bool). filter p (harts_from harts 0 ++ elements_from locations 0))
    (λ k at. looks_same condition other is at k || (looks_same filters others so at k || is_listed listed at))
    ∙ ap (λ (t : List Observed). looked_at other others t harts locations) list
    ∙ ap (λ (n : ℕ). looked_at other others listed_so n locations) many
    ∙ ap (λ (n : ℕ). looked_at other others listed_so harts_so n) count

-- lists side by side
zip_append : {A : Type 0} (R : A → A → Type 0) (a b c d : List A) → AllZip R a b → AllZip R c d
    → AllZip R (a ++ c) (b ++ d)
zip_append R [] [] c d one other = other
zip_append R [] (y ∷ b) c d one other = absurd one
zip_append R (x ∷ a) [] c d one other = absurd one
zip_append R (x ∷ a) (y ∷ b) c d one other = (one.0, zip_append R a b c d one.1 other)

-- locations
elements_same : (text whole : List ℕ) (name : Named) (index : ℕ) (a b : List Location) → length a ≡ length b
    → AreElementsFrom text whole name index a → AreElementsFrom text whole name index b → AllZip IsSameLocation a b
elements_same text whole name index [] [] long one other = tt
elements_same text whole name index [] (y ∷ b) long one other = absurd (omega (arith, long))
elements_same text whole name index (x ∷ a) [] long one other = absurd (omega (arith, long))
elements_same text whole name index (x ∷ a) (y ∷ b) long one other = (
  record {
    name = one.0.named ∙ sym other.0.named;
    element = one.0.element ∙ sym other.0.element;
    byte = one.0.byte ∙ sym other.0.byte;
    begin = one.0.begin ∙ sym other.0.begin;
    number_type = one.0.number_type ∙ sym other.0.number_type;
  },
  elements_same text whole name (index + 1) a b (omega (arith, long)) one.1 other.1,
)

pub locations_same : (text whole : List ℕ) (names : List Named) (a b : List Location)
    → AreLocations text whole names a → AreLocations text whole names b → AllZip IsSameLocation a b
locations_same text whole [] a b one other =
    subst (λ (t : List Location). AllZip IsSameLocation t b) (sym one)
    (subst (λ (t : List Location). AllZip IsSameLocation [] t) (sym other) tt)
locations_same text whole (name ∷ names) a b one other =
    subst (λ (t : List Location). AllZip IsSameLocation t b) (sym one.2)
    (subst (λ (t : List Location). AllZip IsSameLocation (one.0 ++ one.1) t) (sym other.2)
    (zip_append IsSameLocation one.0 other.0 one.1 other.1
    (elements_same text whole name 0 one.0 other.0 (one.3 ∙ sym other.3) one.4 other.4)
    (locations_same text whole names one.1 other.1 one.5 other.5)))

-- harts, one more at each turn
pub record LeftThreads (text : List ℕ) (rows : List Word) (entries : List Entry) (hart : ℕ) (all found : List Thread)
    : Type 0 where
  pub front : List Thread
  pub rest : List Thread
  pub is : all ≡ front ++ rest
  pub same : AllZip IsSameThread front found
  pub are : AreThreads text rows entries hart rest
  pub count : hart + length rest ≡ length all

pub threads_begin : (text : List ℕ) (rows : List Word) (entries : List Entry) (all : List Thread)
    → AreThreads text rows entries 0 all → LeftThreads text rows entries 0 all []
threads_begin text rows entries all are =
    record { front = []; rest = all; is = refl; same = tt; are = are; count = omega arith }

pub record FirstThread (text : List ℕ) (rows : List Word) (entries : List Entry) (hart : ℕ) (all found : List Thread)
    : Type 0 where
  pub front : List Thread
  pub thread : Thread
  pub others : List Thread
  pub is : all ≡ front ++ thread ∷ others
  pub same : AllZip IsSameThread front found
  pub starts : thread.starts.items ≡ starts_of entries hart
  pub steps : SpellsThread text rows hart thread.steps.items
  pub are : AreThreads text rows entries (hart + 1) others
  pub count : hart + 1 + length others ≡ length all

first_by : (text : List ℕ) (rows : List Word) (entries : List Entry) (hart : ℕ) (all found front rest : List Thread)
    → all ≡ front ++ rest → AllZip IsSameThread front found → AreThreads text rows entries hart rest
    → hart + length rest ≡ length all → hart < length all → FirstThread text rows entries hart all found
first_by text rows entries hart all found front [] is same are count inside = absurd (omega (arith, count, inside))
first_by text rows entries hart all found front (thread ∷ others) is same are count inside = record {
  front = front;
  thread = thread;
  others = others;
  is = is;
  same = same;
  starts = are.0;
  steps = are.1;
  are = are.2;
  count = omega (arith, count);
}

pub first_thread : (text : List ℕ) (rows : List Word) (entries : List Entry) (hart : ℕ) (all found : List Thread)
    → LeftThreads text rows entries hart all found → hart < length all → FirstThread text rows entries hart all found
first_thread text rows entries hart all found it inside =
    first_by text rows entries hart all found it.front it.rest it.is it.same it.are it.count inside

pub next_thread : (text : List ℕ) (rows : List Word) (entries : List Entry) (hart : ℕ) (all found after : List Thread)
    (new : Thread) (first : FirstThread text rows entries hart all found) → new.starts.items ≡ starts_of entries hart
    → new.steps.items ≡ first.thread.steps.items → after ≡ found ++ new ∷ []
    → LeftThreads text rows entries (hart + 1) all after
next_thread text rows entries hart all found after new first starts steps is = record {
  front = first.front ++ first.thread ∷ [];
  rest = first.others;
  is = first.is ∙ sym (append_assoc first.front (first.thread ∷ []) first.others);
  same = subst (λ (t : List Thread). AllZip IsSameThread (first.front ++ first.thread ∷ []) t) (sym is)
      (AllZip-push IsSameThread first.front found first.thread new first.same
      (record { starts = first.starts ∙ sym starts; steps = sym steps }));
  are = first.are;
  count = first.count;
}

over_by : (all found front rest : List Thread) (hart : ℕ) → all ≡ front ++ rest → AllZip IsSameThread front found
    → hart + length rest ≡ length all → length all ≤ hart → AllZip IsSameThread all found
over_by all found front [] hart is same count past =
    subst (λ (t : List Thread). AllZip IsSameThread t found) (sym (is ∙ append-nil front)) same
over_by all found front (thread ∷ rest) hart is same count past = absurd (omega (arith, count, past))

pub threads_over : (text : List ℕ) (rows : List Word) (entries : List Entry) (hart : ℕ) (all found : List Thread)
    → LeftThreads text rows entries hart all found → length all ≤ hart → AllZip IsSameThread all found
threads_over text rows entries hart all found it past =
    over_by all found it.front it.rest hart it.is it.same it.count past

got_at : (front : List Thread) (thread d : Thread) (others : List Thread)
    → get_or (front ++ thread ∷ others) (length front) d ≡ thread
got_at [] thread d others = refl
got_at (x ∷ front) thread d others = got_at front thread d others

front_inside : (front : List Thread) (thread : Thread) (others : List Thread)
    → length front < length (front ++ thread ∷ others)
front_inside [] thread others = omega arith
front_inside (x ∷ front) thread others = let less = front_inside front thread others in omega (arith, less)

pub of_first : (text : List ℕ) (rows : List Word) (entries : List Entry) (hart : ℕ) (all found : List Thread)
    (P : Thread → Type 0) (first : FirstThread text rows entries hart all found) → All P all → P first.thread
of_first text rows entries hart all found P first every =
    subst P (got_at first.front first.thread first.thread first.others)
    ((subst (λ (t : List Thread). All P t) first.is every) (length first.front) first.thread
    (front_inside first.front first.thread first.others))

-- harts are the same for entries that say the same
pub threads_moved : (text : List ℕ) (rows : List Word) (one other : List Entry) → SayTheSame one other → (hart : ℕ)
    (all : List Thread) → AreThreads text rows other hart all → AreThreads text rows one hart all
threads_moved text rows one other same hart [] are = tt
threads_moved text rows one other same hart (thread ∷ all) are = (
  are.0 ∙ sym (same_starts_of one other same hart),
  are.1,
  threads_moved text rows one other same (hart + 1) all are.2,
)
