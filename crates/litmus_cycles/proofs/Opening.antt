-- What is open, one more place and one more location at a time, and the events of one more hart.
use Rattle.std.proofs.Common.{◌≡◌, ℕ, zero, suc, ◌+◌, ◌-◌, ◌≤◌, List, [], ◌∷◌, ◌++◌, length, get_or, take, drop, arith, refl, sym, ap, ◌∙◌}
use Rattle.std.proofs.lemmas.List.{append_assoc, length-append, take_all}
use Rattle.litmus_runs.specs.declared.{access.Access.Access, runs.HartRuns.HartRuns}
use Rattle.litmus_cycles.specs.declared.{event.MemoryEvent.MemoryEvent}
use Rattle.litmus_cycles.specs.declared.open.Open.TheVariants.{Place}
use Rattle.litmus_cycles.specs.Choices.{after, places, open_at, all_open, undecided_all, accesses_of, events_of}

pub places_next : (location count : ℕ) → (count ≡ 0 → ⊥)
    → places location count ≡ Place location count ∷ places location (count - 1)
places_next location zero some = absurd (some refl)
places_next location (suc count) some =
    let e : suc count - 1 ≡ count = omega arith in
    ap (λ n. Place location (suc count) ∷ places location n) (sym e)

pub all_open_next : (events : List MemoryEvent) (location left : ℕ) → (left ≡ 0 → ⊥)
    → all_open events location left ≡ open_at events location ++ all_open events (after location) (left - 1)
all_open_next events location zero some = absurd (some refl)
all_open_next events location (suc left) some =
    let e : suc left - 1 ≡ left = omega arith in
    ap (λ n. open_at events location ++ all_open events (after location) n) (sym e)

length_undecided : (hart first place : ℕ) (accesses : List Access)
    → length (undecided_all hart first place accesses) ≡ length accesses
length_undecided hart first place [] = refl
length_undecided hart first place (access ∷ accesses) =
    let e = length_undecided hart first (after place) accesses in
    omega (arith, e)

joined : (harts : List HartRuns) (hart index first : ℕ) (rest : List ℕ) (accesses : List Access)
    (old mid all : List MemoryEvent) → first ≡ length old → accesses_of harts hart index ≡ accesses
    → mid ≡ old ++ undecided_all hart first 0 accesses
    → all ≡ mid ++ events_of harts (after hart) (length mid) rest
    → all ≡ old ++ events_of harts hart first (index ∷ rest)
joined harts hart index first rest accesses old mid all begun same more then =
    let made : List MemoryEvent = undecided_all hart first 0 accesses in
    let count : length mid ≡ first + length accesses =
    ap length more ∙ length-append old made
    ∙ ap (λ n. length old + n) (length_undecided hart first 0 accesses)
    ∙ ap (λ n. n + length accesses) (sym begun) in
    then ∙ ap (λ n. mid ++ events_of harts (after hart) n rest) count
    ∙ ap (λ xs. xs ++ events_of harts (after hart) (first + length accesses) rest) more
    ∙ append_assoc old made (events_of harts (after hart) (first + length accesses) rest)
    ∙ ap (λ xs. old ++ (undecided_all hart first 0 xs ++ events_of harts (after hart) (first + length xs) rest))
    (sym same)

pub events_next : (harts : List HartRuns) (hart first next : ℕ) (chosen : List ℕ) (accesses : List Access)
    (old mid all : List MemoryEvent) → first ≡ length old → next ≡ after hart → 1 ≤ length chosen
    → accesses_of harts hart (get_or chosen 0 0) ≡ accesses
    → mid ≡ old ++ undecided_all hart first 0 accesses
    → all ≡ mid ++ events_of harts next (length mid) (take (length chosen - 1) (drop 1 chosen))
    → all ≡ old ++ events_of harts hart (length old) chosen
events_next harts hart first next [] accesses old mid all begun on some same more then = absurd (omega (arith, some))
events_next harts hart first next (index ∷ rest) accesses old mid all begun on some same more then =
    let count : length (index ∷ rest) - 1 ≡ length rest = omega arith in
    let whole : take (length (index ∷ rest) - 1) rest ≡ rest =
    ap (λ n. take n rest) count ∙ take_all (length rest) rest (omega arith) in
    joined harts hart index first rest accesses old mid all begun same more
    (then ∙ ap (λ xs. mid ++ events_of harts next (length mid) xs) whole
    ∙ ap (λ n. mid ++ events_of harts n (length mid) rest) on)
    ∙ ap (λ n. old ++ events_of harts hart n (index ∷ rest)) begun
