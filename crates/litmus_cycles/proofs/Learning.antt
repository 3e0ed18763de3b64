-- What is known of an end stays known, and so does what a condition is where it can be said.
use Rattle.std.proofs.Common.{◌≡◌, ℕ, zero, suc, ◌==◌, ◌&&◌, ◌++◌, ◌/◌, not, Bool, true, false, inl, inr, if◌then◌else◌}
use Rattle.std.proofs.Common.{List, [], ◌∷◌, slice_get, Option, Some, None, is_some, option_and_then, sym, ◌∙◌, arith, ap, ap₂, refl, true≢false}
use Rattle.std.specs.Option.{option_map, option_map_or}
use Rattle.std.specs.List.{list_all}
use Rattle.std.proofs.lemmas.Bool.{and_parts, cases_Bool, eqb-true, eq-eqb, ne_eqb}
use Rattle.litmus_tests.specs.declared.{test.LitmusTest.LitmusTest, condition.Observed.Observed, location.Location.Location}
use Rattle.litmus_tests.specs.declared.condition.Observed.TheVariants as observed
use Rattle.litmus_tests.specs.declared.condition.Condition.{Condition, Always, Holds, Not', Both', Either', Implies', Equivalent'}
use Rattle.litmus_tests.specs.Conditions.{narrowed}
use Rattle.litmus_runs.specs.{declared.runs.AllRuns.AllRuns, Numbers.initial_number, Numbers.word_of}
use Rattle.litmus_cycles.specs.declared.{event.MemoryEvent.MemoryEvent, open.Open.Open}
use Rattle.litmus_cycles.specs.{Executions.is_write, Executions.all_pairs, Executions.are_apart, Choices.after, Choices.writes_at}
use Rattle.litmus_cycles.specs.Endings.{Known, negated, both, either, alike, meets, part_of, written_last, last_word, located, found_at, asked_for, may_end}
use Rattle.litmus_cycles.specs.{Counts.is_ruled_out, Kept.IsKept, Kept.KeptAt, Kept.AreKept}
use Rattle.litmus_cycles.proofs.Pairs.{IsCandidate, all_at}
use Rattle.litmus_cycles.proofs.Staying.{becomes, zero_or_more}

-- What can be said of the one is said of the other.
abbrev pub IsSaid : {X : Type 0} → Option X → Option X → Type 0
IsSaid {X} one other = (x : X) → one ≡ Some x → other ≡ Some x

negated_said : (x y : Option Bool) → IsSaid x y → IsSaid (negated x) (negated y)
negated_said None y said b is = cc
negated_said (Some a) y said b is = ap negated (said a refl) ∙ is

both_fails : (x : Option Bool) → both x (Some false) ≡ Some false
both_fails None = refl
both_fails (Some true) = refl
both_fails (Some false) = refl

either_holds : (x : Option Bool) → either x (Some true) ≡ Some true
either_holds None = refl
either_holds (Some true) = refl
either_holds (Some false) = refl

both_said : (x y x' y' : Option Bool) → IsSaid x x' → IsSaid y y' → IsSaid (both x y) (both x' y')
both_said (Some false) y x' y' first second b is = ap (λ o. both o y') (first false refl) ∙ is
both_said (Some true) y x' y' first second b is = ap (λ o. both o y') (first true refl) ∙ second b is
both_said None (Some false) x' y' first second b is = ap (both x') (second false refl) ∙ both_fails x' ∙ is
both_said None (Some true) x' y' first second b is = cc
both_said None None x' y' first second b is = cc

either_said : (x y x' y' : Option Bool) → IsSaid x x' → IsSaid y y' → IsSaid (either x y) (either x' y')
either_said (Some true) y x' y' first second b is = ap (λ o. either o y') (first true refl) ∙ is
either_said (Some false) y x' y' first second b is = ap (λ o. either o y') (first false refl) ∙ second b is
either_said None (Some true) x' y' first second b is = ap (either x') (second true refl) ∙ either_holds x' ∙ is
either_said None (Some false) x' y' first second b is = cc
either_said None None x' y' first second b is = cc

alike_said : (x y x' y' : Option Bool) → IsSaid x x' → IsSaid y y' → IsSaid (alike x y) (alike x' y')
alike_said (Some true) y x' y' first second b is = ap (λ o. alike o y') (first true refl) ∙ second b is
alike_said (Some false) y x' y' first second b is =
    ap (λ o. alike o y') (first false refl) ∙ negated_said y y' second b is
alike_said None y x' y' first second b is = cc

map_said : {X Y : Type 0} (f : X → Y) (x y : Option X) → IsSaid x y → IsSaid (option_map f x) (option_map f y)
map_said f None y said b is = cc
map_said f (Some a) y said b is = ap (option_map f) (said a refl) ∙ is

pub meets_said : (known more : Known) → ((o : Observed) → IsSaid (known o) (more o)) → (condition : Condition)
    → IsSaid (meets known condition) (meets more condition)
meets_said known more said Always b is = is
meets_said known more said (Holds term) b is =
    map_said (λ found. found == narrowed term.width (word_of term.value)) (known term.observed) (more term.observed)
    (said term.observed) b is
meets_said known more said (Not' p condition) b is =
    negated_said (meets known condition) (meets more condition) (meets_said known more said condition) b is
meets_said known more said (Both' p first q second) b is =
    both_said (meets known first) (meets known second) (meets more first) (meets more second)
    (meets_said known more said first) (meets_said known more said second) b is
meets_said known more said (Either' p first q second) b is =
    either_said (meets known first) (meets known second) (meets more first) (meets more second)
    (meets_said known more said first) (meets_said known more said second) b is
meets_said known more said (Implies' p first q second) b is =
    either_said (negated (meets known first)) (meets known second) (negated (meets more first)) (meets more second)
    (negated_said (meets known first) (meets more first) (meets_said known more said first))
    (meets_said known more said second) b is
meets_said known more said (Equivalent' p first q second) b is =
    alike_said (meets known first) (meets known second) (meets more first) (meets more second)
    (meets_said known more said first) (meets_said known more said second) b is

asked_said : (test : LitmusTest) (runs : AllRuns) (chosen more : List ℕ) (has had : Bool) (events final : List MemoryEvent)
    → ((o : Observed) → IsSaid (found_at test runs chosen has events o) (found_at test runs more had final o))
    → IsSaid (asked_for test runs chosen has events) (asked_for test runs more had final)
asked_said test runs chosen more has had events final said =
    both_said (meets (found_at test runs chosen has events) test.filter) (meets (found_at test runs chosen has events) test.condition)
    (meets (found_at test runs more had final) test.filter) (meets (found_at test runs more had final) test.condition)
    (meets_said (found_at test runs chosen has events) (found_at test runs more had final) said test.filter)
    (meets_said (found_at test runs chosen has events) (found_at test runs more had final) said test.condition)

known_to_fail : (asked : Option Bool) → option_map_or (λ holds. holds) asked true ≡ false → asked ≡ Some false
known_to_fail None is = absurd (true≢false is)
known_to_fail (Some b) is = ap Some is

ruled : (asked : Option Bool) → option_map_or (λ holds. not holds) asked false ≡ true → asked ≡ Some false
ruled None is = absurd (true≢false (sym is))
ruled (Some true) is = absurd (true≢false (sym is))
ruled (Some false) is = refl

-- What hasn't a number where registers alone are known has one or not where all is.
within_said : {X : Type 0} (xs ys : List X) (i : ℕ) → IsSaid (slice_get xs i) (slice_get (xs ++ ys) i)
within_said [] ys i x is = cc
within_said (z ∷ xs) ys zero x is = is
within_said (z ∷ xs) ys (suc i) x is = within_said xs ys i x is

then_said : {X Y : Type 0} (f : X → Option Y) (x y : Option X) → IsSaid x y
    → IsSaid (option_and_then f x) (option_and_then f y)
then_said f None y said b is = cc
then_said f (Some a) y said b is = ap (option_and_then f) (said a refl) ∙ is

unlocated : (locations : Option Location) (x : ℕ)
    → option_and_then (λ location. option_map (λ word. part_of word location) None) locations ≡ Some x → ⊥
unlocated None x is = cc
unlocated (Some location) x is = cc

located_none : (test : LitmusTest) (index x : ℕ) → located test false [] index ≡ Some x → ⊥
located_none test index x is = unlocated (slice_get test.locations.items index) x is

ways_said : (test : LitmusTest) (runs : AllRuns) (chosen others : List ℕ) (had : Bool) (final : List MemoryEvent)
    (o : Observed) → IsSaid (found_at test runs chosen false [] o) (found_at test runs (chosen ++ others) had final o)
ways_said test runs chosen others had final (observed.Register hart register) x is =
    then_said (λ index. option_and_then (λ found. option_and_then (λ run. slice_get run.registers register)
    (slice_get found.runs.items index)) (slice_get runs.harts.items hart)) (slice_get chosen hart)
    (slice_get (chosen ++ others) hart) (within_said chosen others hart) x is
ways_said test runs chosen others had final (observed.Location index) x is =
    absurd (located_none test index x is)

-- Ways that are ruled out stay so, and no end of them is wanted.
pub ruled_out_then : (test : LitmusTest) (runs : AllRuns) (chosen others : List ℕ)
    → is_ruled_out test runs chosen ≡ true → is_ruled_out test runs (chosen ++ others) ≡ true
ruled_out_then test runs chosen others out =
    ap (λ o. option_map_or (λ holds. not holds) o false)
    (asked_said test runs chosen (chosen ++ others) false false [] [] (ways_said test runs chosen others false [])
    false (ruled (asked_for test runs chosen false []) out))

pub never_ends : (test : LitmusTest) (runs : AllRuns) (chosen others : List ℕ) (final : List MemoryEvent)
    → is_ruled_out test runs chosen ≡ true → may_end test runs (chosen ++ others) final ≡ false
never_ends test runs chosen others final out =
    ap (λ o. option_map_or (λ holds. holds) o true)
    (asked_said test runs chosen (chosen ++ others) false true [] final (ways_said test runs chosen others true final)
    false (ruled (asked_for test runs chosen false []) out))

-- The writes of a location are as many.
writes_next : (rest : List Open) (index location : ℕ) (event found : MemoryEvent) → IsKept rest index event found
    → (found.location == location && is_write found) ≡ (event.location == location && is_write event)
writes_next rest index location event found kept =
    ap₂ (λ l w. l == location && is_some w) kept.location kept.writes

writes_same : (rest : List Open) (location : ℕ) (at : ℕ → ℕ) (events final : List MemoryEvent)
    → ((i : ℕ) → KeptAt rest (at i) (slice_get events i) (slice_get final i))
    → writes_at location final ≡ writes_at location events
writes_same rest location at [] [] kept = refl
writes_same rest location at [] (found ∷ final) kept = absurd (kept zero)
writes_same rest location at (event ∷ events) [] kept = absurd (kept zero)
writes_same rest location at (event ∷ events) (found ∷ final) kept =
    ap₂ (λ b n. if b then after n else n) (writes_next rest (at zero) location event found (kept zero))
    (writes_same rest location (λ i. at (suc i)) events final (λ i. kept (suc i)))

-- The write with a place, and where it is.
record IsPlaced (events : List MemoryEvent) (location rank number : ℕ) : Type 0 where
  pub index : ℕ
  pub event : MemoryEvent
  pub is : slice_get events index ≡ Some event
  pub here : event.location ≡ location
  pub stands : event.rank ≡ rank
  pub writes : event.writes ≡ Some number

placed_of : (events : List MemoryEvent) (location rank number : ℕ) → written_last events location rank ≡ Some number
    → IsPlaced events location rank number
placed_of [] location rank number is = cc
placed_of (event ∷ events) location rank number is =
    elim (cases_Bool (event.location == location && is_write event && event.rank == rank)) [
      | inl one ↦
          let parts = and_parts (event.location == location && is_write event) (event.rank == rank) one in
          record {
            index = zero;
            event = event;
            is = refl;
            here = eqb-true event.location location (and_parts (event.location == location) (is_write event) parts.0).0;
            stands = eqb-true event.rank rank parts.1;
            writes = sym (ap (λ b. if b then event.writes else written_last events location rank) one) ∙ is;
          }
      | inr other ↦
          let p = placed_of events location rank number
          (sym (ap (λ b. if b then event.writes else written_last events location rank) other) ∙ is) in
          record { index = suc p.index; event = p.event; is = p.is; here = p.here; stands = p.stands; writes = p.writes }
    ]

not_apart : (a b : MemoryEvent) (location rank number : ℕ)
    → (a.location == location && is_write a && a.rank == rank) ≡ true
    → b.location ≡ location → b.rank ≡ rank → b.writes ≡ Some number → are_apart a b ≡ false
not_apart a b location rank number is here at writes =
    let p = and_parts (a.location == location && is_write a) (a.rank == rank) is in
    let q = and_parts (a.location == location) (is_write a) p.0 in
    let l : a.location ≡ b.location = eqb-true a.location location q.0 ∙ sym here in
    let r : a.rank ≡ b.rank = eqb-true a.rank rank p.1 ∙ sym at in
    ap (λ x. not (x && is_write b && a.location == b.location && a.rank == b.rank)) q.1
    ∙ ap (λ x. not (x && a.location == b.location && a.rank == b.rank)) (ap is_some writes)
    ∙ ap (λ x. not (x && a.rank == b.rank)) (eq-eqb a.location b.location l)
    ∙ ap not (eq-eqb a.rank b.rank r)

-- Where no two writes of a location have one place, it is the one that is found there.
found_last : (events : List MemoryEvent) (location rank number index : ℕ) (event : MemoryEvent)
    → all_pairs are_apart events ≡ true → slice_get events index ≡ Some event → event.location ≡ location
    → event.rank ≡ rank → event.writes ≡ Some number → written_last events location rank ≡ Some number
found_last [] location rank number index event apart at here stands writes = cc
found_last (first ∷ events) location rank number zero event apart at here stands writes =
    let e : first ≡ event = cc in
    let l : first.location ≡ location = ap (λ x. x.location) e ∙ here in
    let r : first.rank ≡ rank = ap (λ x. x.rank) e ∙ stands in
    let w : first.writes ≡ Some number = ap (λ x. x.writes) e ∙ writes in
    ap (λ b. if b && is_write first && first.rank == rank then first.writes else written_last events location rank)
    (eq-eqb first.location location l)
    ∙ ap (λ b. if b && first.rank == rank then first.writes else written_last events location rank) (ap is_some w)
    ∙ ap (λ b. if b then first.writes else written_last events location rank) (eq-eqb first.rank rank r) ∙ w
found_last (first ∷ events) location rank number (suc index) event apart at here stands writes =
    let parts = and_parts (list_all (are_apart first) events) (all_pairs are_apart events) apart in
    elim (cases_Bool (first.location == location && is_write first && first.rank == rank)) [
      | inl one ↦
          absurd (true≢false (sym (all_at (are_apart first) events index event parts.0 at)
          ∙ not_apart first event location rank number one here stands writes))
      | inr other ↦
          ap (λ b. if b then first.writes else written_last events location rank) other
          ∙ found_last events location rank number index event parts.1 at here stands writes
    ]

last_said : (test : LitmusTest) (rest : List Open) (events final : List MemoryEvent) (word : ℕ)
    → AreKept rest events final → IsCandidate test final
    → IsSaid (last_word test true events word) (last_word test true final word)
last_said test rest events final word kept candidate number is =
    let same : writes_at word final ≡ writes_at word events =
    writes_same rest word (λ i. i) events final (λ i. kept.each i) in
    let chosen : ℕ → List MemoryEvent → Option ℕ =
    λ n es. if n == 0 then initial_number test word else written_last es word n in
    elim (zero_or_more (writes_at word events)) [
      | inl none ↦
          let one : last_word test true events word ≡ initial_number test word = ap (λ n. chosen n events) none in
          let two : last_word test true final word ≡ initial_number test word = ap (λ n. chosen n final) (same ∙ none) in
          two ∙ sym one ∙ is
      | inr some ↦
          let more : (writes_at word events == 0) ≡ false = ne_eqb (writes_at word events) 0 (λ e. omega (arith, e, some)) in
          let one : last_word test true events word ≡ written_last events word (writes_at word events) =
          ap (λ b. if b then initial_number test word else written_last events word (writes_at word events)) more in
          let p = placed_of events word (writes_at word events) number (sym one ∙ is) in
          let b = becomes rest events final p.index p.event kept p.is in
          let at = p.stands in
          let found : written_last final word (writes_at word events) ≡ Some number =
          found_last final word (writes_at word events) number p.index b.event candidate.apart b.is
          (b.kept.location ∙ p.here) (b.kept.placed (omega (arith, at, some)) ∙ p.stands) (b.kept.writes ∙ p.writes) in
          ap (λ n. chosen n final) same
          ∙ ap (λ b. if b then initial_number test word else written_last final word (writes_at word events)) more ∙ found
    ]

then_each : {X Y : Type 0} (f g : X → Option Y) (x : Option X) → ((a : X) → IsSaid (f a) (g a))
    → IsSaid (option_and_then f x) (option_and_then g x)
then_each f g None said b is = cc
then_each f g (Some a) said b is = said a b is

end_said : (test : LitmusTest) (runs : AllRuns) (chosen : List ℕ) (rest : List Open) (events final : List MemoryEvent)
    → AreKept rest events final → IsCandidate test final
    → (o : Observed) → IsSaid (found_at test runs chosen true events o) (found_at test runs chosen true final o)
end_said test runs chosen rest events final kept candidate (observed.Register hart register) x is = is
end_said test runs chosen rest events final kept candidate (observed.Location index) x is =
    then_each (λ location. option_map (λ word. part_of word location) (last_word test true events (location.byte / 4)))
    (λ location. option_map (λ word. part_of word location) (last_word test true final (location.byte / 4)))
    (slice_get test.locations.items index)
    (λ location. map_said (λ word. part_of word location) (last_word test true events (location.byte / 4))
    (last_word test true final (location.byte / 4)) (last_said test rest events final (location.byte / 4) kept candidate))
    x is

-- An end that fails as far as it is decided is none.
pub never_ends_so : (test : LitmusTest) (runs : AllRuns) (chosen : List ℕ) (rest : List Open)
    (events final : List MemoryEvent) → AreKept rest events final → IsCandidate test final
    → may_end test runs chosen events ≡ false → may_end test runs chosen final ≡ false
never_ends_so test runs chosen rest events final kept candidate fails =
    ap (λ o. option_map_or (λ holds. holds) o true)
    (asked_said test runs chosen chosen true true events final (end_said test runs chosen rest events final kept candidate)
    false (known_to_fail (asked_for test runs chosen true events) fails))
