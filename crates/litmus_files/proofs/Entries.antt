-- One more location, and its entry in a table of symbols.
use Rattle.std.proofs.Common.{◌≡◌, ℕ, suc, ◌+◌, ◌<◌, ◌≤◌, List, [], ◌∷◌, ◌++◌, length, get_or, drop, refl, sym, ap}
use Rattle.std.proofs.Common.{drop-cons, add-one}
use Rattle.std.proofs.lemmas.List.{drop_all}
use Rattle.litmus_tests.specs.declared.location.Location.{Location}
use Rattle.litmus_files.specs.Names.{entries, entry_of, name_of}

entries_of_more : (location : Location) (locations : List Location) (begin : ℕ)
    → entries (location ∷ locations) begin ≡ entry_of location begin
    ++ entries locations (begin + length (name_of location))
unfolding entries
entries_of_more location locations begin = refl

pub entries_with : (locations : List Location) (i begin : ℕ) (location : Location) → i < length locations
    → location ≡ get_or locations i location
    → entries (drop i locations) begin ≡ entry_of location begin
    ++ entries (drop (i + 1) locations) (begin + length (name_of location))
entries_with locations i begin location below is =
    let first : drop i locations ≡ location ∷ drop (i + 1) locations =
    rw (add-one, drop-cons locations i location)
    (ap (λ (x : Location). x ∷ drop (suc i) locations) (sym is)) in
    rw first (entries_of_more location (drop (i + 1) locations) begin)

pub entries_none : (locations : List Location) (i begin : ℕ) → length locations ≤ i
    → entries (drop i locations) begin ≡ []
unfolding entries
entries_none locations i begin past = rw (drop_all i locations past) refl
