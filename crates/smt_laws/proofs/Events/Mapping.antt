-- The map of a hart is its committed map with the registers of its flight entered in order.
use Rattle.std.specs.Prelude.{◌≡◌, ◌≢◌, ℕ, ◌<◌, ◌≤◌, Bool, true, false, ◌==◌, ◌&&◌, List, [], ◌∷◌, Option, Some, None}
use Rattle.std.specs.Prelude.{is_some}
use Rattle.std.specs.List.{filter}
use Rattle.std.proofs.Common.{◌∙◌, refl, sym, ap, subst, inl, inr, arith}
use Rattle.std.proofs.{lemmas.Bool.cases_Bool, lemmas.Bool.cases_eq, lemmas.Bool.false_from_ne_true}
use Rattle.std.proofs.{lemmas.Bool.Decides.nat_tests}
use Rattle.events.specs.declared.event.Event.{Event}
use Rattle.smt_model.specs.{Basics.first, Basics.or_zero, Setup.Setup, Kinds.destination, Flights.numbers}
use Rattle.smt_model.specs.{Flights.flight, Rules.is_legal, Picture.Picture, Picture.picture, Steps.youngest}
use Rattle.smt_model.specs.{Steps.renamed_map, Steps.op_in}
use Rattle.smt_model.specs.Fates.{Fate, Retired, stage, fate, fetching, is, is_in_flight, stands, is_of, op_at}
use Rattle.smt_model.specs.Fates.{op_of_fetched}
use Rattle.smt_model.specs.Registers.{phys, namings, writes, writer, committer, mapped, committed, register_by}
use Rattle.smt_model.specs.Registers.{first_register}
use Rattle.smt_model.proofs.Lists.{member, member-behind, FallsOf, first-none, Each-at, Rises, skips, takes}
use Rattle.smt_model.proofs.Lists.{first-narrow, first-none_narrow, first-passes, Rises-filter, member-filter}
use Rattle.smt_model.proofs.Lists.{filter-member}
use Rattle.smt_model.proofs.Fates.Numbers.{numbers-of, numbers-member, numbers-rise}
use Rattle.smt_laws.proofs.Registers.Namings.{named_is, namings-fall, is_spared}
use Rattle.smt_laws.proofs.{Events.Freeing.true_false, Registers.Held.writer_named, Registers.Sources.writes-of}
use Rattle.smt_laws.proofs.{Registers.Sources.retired_older, Steps.RenameMap.writes_where, Events.Filling.some_one}

-- ---- The youngest of a list that writes r

-- s gives r a register.
abbrev pub gives : Picture → ℕ → ℕ → Bool
gives p r s = is_some (p.phys s) && (r == destination (op_in p s))

entered : (rd : ℕ) (taken : Option ℕ) (r before : ℕ) → (is_some taken && (r == rd)) ≡ false
    → renamed_map rd taken r before ≡ before
entered rd None r before none = refl
entered rd (Some x) r before none = rw none refl

taken_now : (rd : ℕ) (taken : Option ℕ) (r before : ℕ) → (is_some taken && (r == rd)) ≡ true
    → renamed_map rd taken r before ≡ or_zero taken
taken_now rd None r before some = absurd (grind arith)
taken_now rd (Some x) r before some = rw some refl

-- None does.
youngest-none : (p : Picture) (r : ℕ) (xs : List ℕ) (otherwise : ℕ)
    → ((s : ℕ) → member s xs ≡ true → gives p r s ≡ false)
    → youngest p r xs otherwise ≡ otherwise
youngest-none p r [] otherwise none = refl
youngest-none p r (s ∷ rest) otherwise none =
    ap (youngest p r rest)
    (entered (destination (op_in p s)) (p.phys s) r otherwise (none s (grind (arith, nat_tests))))
    ∙ youngest-none p r rest otherwise (λ t m. none t (member-behind s t rest m))

-- w is the last that does.
youngest-is : (p : Picture) (r w : ℕ) (xs : List ℕ) (otherwise : ℕ) → Rises xs → member w xs ≡ true → gives p r w ≡ true
    → ((s : ℕ) → member s xs ≡ true → gives p r s ≡ true → s ≤ w) → youngest p r xs otherwise ≡ or_zero (p.phys w)
youngest-is p r w [] otherwise rises m mine last = absurd (grind arith)
youngest-is p r w (s ∷ rest) otherwise rises m mine last =
    elim (cases_eq s w) [
      | inl here ↦
          let mine_too : gives p r s ≡ true = subst (λ z. gives p r z ≡ true) (sym here) mine in
          ap (youngest p r rest) (taken_now (destination (op_in p s)) (p.phys s) r otherwise mine_too)
          ∙ (youngest-none p r rest (or_zero (p.phys s)) (λ t in_t.
          let above : s < t = Each-at (λ z. s < z) rest rises.0 t in_t in
          false_from_ne_true (gives p r t) (λ gives_too.
          let upto = last t (member-behind s t rest in_t) gives_too in
          absurd (omega arith)))
          ∙ ap (λ z. or_zero (p.phys z)) here)
      | inr other ↦
          youngest-is p r w rest (renamed_map (destination (op_in p s)) (p.phys s) r otherwise) rises.1
          (grind (arith, nat_tests)) mine
          (λ t in_t. last t (member-behind s t rest in_t))
    ]

-- It depends on what was fetched and named alone.
pub youngest-same : (p q : Picture) (r : ℕ) (xs : List ℕ) (otherwise : ℕ)
    → ((s : ℕ) → member s xs ≡ true → p.fetched s ≡ q.fetched s)
    → ((s : ℕ) → member s xs ≡ true → p.phys s ≡ q.phys s) → youngest p r xs otherwise ≡ youngest q r xs otherwise
youngest-same p q r [] otherwise fetched named = refl
youngest-same p q r (s ∷ rest) otherwise fetched named =
    let here : member s (s ∷ rest) ≡ true = grind (arith, nat_tests) in
    ap (λ o. youngest p r rest (renamed_map (destination (op_of_fetched o)) (p.phys s) r otherwise)) (fetched s here)
    ∙ (ap (λ o. youngest p r rest (renamed_map (destination (op_in q s)) o r otherwise)) (named s here)
    ∙ youngest-same p q r rest (renamed_map (destination (op_in q s)) (q.phys s) r otherwise)
    (λ t m. fetched t (member-behind s t rest m)) (λ t m. named t (member-behind s t rest m)))

-- ---- The map

-- Who gives r a register writes it, and was given one.
gives_writes : (setup : Setup) (past : List Event) (h r s : ℕ) → is_of past h s ≡ true
    → gives (picture setup past) r s ≡ true → writes past h r s ≡ true
gives_writes setup past h r s of_s mine = writes_where (fetching past s) h r of_s ∙ grind arith

both : (a b : Bool) → a ≡ true → b ≡ true → (a && b) ≡ true
both a b one two = rw (one, two) refl

writes_gives : (setup : Setup) (past : List Event) → is_legal setup past → (h r s : ℕ) → 1 ≤ r
    → writes past h r s ≡ true → 3 ≤ stage (fate past s)
    → stage (fate past s) ≤ 7 → gives (picture setup past) r s ≡ true
writes_gives setup past legal h r s low mine three seven =
    let some = writer_named setup past legal h r s low mine three seven in
    let same : (r == destination (op_at past s)) ≡ true =
    sym (writes_where (fetching past s) h r (writes-of past h r s mine)) ∙ mine in
    both (is_some (phys past s)) (r == destination (op_at past s)) some same

standing_flight : (f : Fate) → is_in_flight f ≡ true → stands f ≡ true
standing_flight f flies = grind (arith, nat_tests)

standing_of : (writes_it : Bool) (f : Fate) → (writes_it && stands f) ≡ true → stands f ≡ true
standing_of writes_it f passes = grind arith

stands_too : (writes_it : Bool) (f : Fate) → writes_it ≡ true → is_in_flight f ≡ true → (writes_it && stands f) ≡ true
stands_too writes_it f mine flies = grind (arith, nat_tests)

retired_one : (f : Fate) → is_in_flight f ≡ false → stands f ≡ true → is f Retired ≡ true
retired_one f landed standing = grind (arith, nat_tests)

nothing_found : (t : ℕ → Bool) (xs : List ℕ) (s : ℕ) → first (filter t xs) ≡ None → member s xs ≡ true → t s ≢ true
nothing_found t xs s none m passes = absurd (true_false (sym passes ∙ first-none t xs none s m))

-- In a list that falls where a test passes, what is found first is the greatest that passes a narrower one.
greatest_first : (p t : ℕ → Bool) (xs : List ℕ) (w s : ℕ) → FallsOf p xs → ((y : ℕ) → t y ≡ true → p y ≡ true)
    → first (filter t xs) ≡ Some w
    → member s xs ≡ true → t s ≡ true → s ≤ w
greatest_first p t [] w s falls narrower found m passes = absurd (grind arith)
greatest_first p t (x ∷ xs) w s falls narrower found m passes =
    elim (cases_Bool (t x)) [
      | inl kept ↦
          let here : x ≡ w = some_one x w (sym (takes t x xs kept) ∙ found) in
          elim (cases_eq x s) [
            | inl same ↦ omega arith
            | inr other ↦
                let under : s < x = Each-at (λ y. p y ≡ true → y < x) xs (falls.0 (narrower x kept)) s
                (grind (arith, nat_tests)) (narrower s passes) in
                omega arith
          ]
      | inr gone ↦
          let other : x ≢ s = λ same. absurd (true_false (sym (subst (λ z. t z ≡ true) (sym same) passes) ∙ gone)) in
          greatest_first p t xs w s falls.1 narrower (sym (skips t x xs gone) ∙ found) (grind (arith, nat_tests)) passes
    ]

-- Of those that stand and write r, the newest is the greatest.
writer_greatest : (setup : Setup) (past : List Event) → is_legal setup past → (h r w s : ℕ) → writer past h r ≡ Some w
    → writes past h r s ≡ true
    → stands (fate past s) ≡ true → member s (namings past) ≡ true → s ≤ w
writer_greatest setup past legal h r w s found mine standing named =
    greatest_first (is_spared past h) (λ x. writes past h r x && stands (fate past x)) (namings past) w s
    (namings-fall setup past legal h)
    (λ y passes.
    let writes_y : writes past h r y ≡ true = grind arith in
    let of_y = writes-of past h r y writes_y in
    grind (arith, nat_tests))
    found named (grind arith)

flying_in : (setup : Setup) (past : List Event) → is_legal setup past → (h s : ℕ) → member s (flight past h) ≡ true
    → (is_of past h s ≡ true) × (is_in_flight (fate past s) ≡ true)
flying_in setup past legal h s m =
    let parts = member-filter (λ x. is_in_flight (fate past x)) s (numbers past h) m in
    (numbers-of setup past legal h s parts.0, parts.1)

flight_has : (setup : Setup) (past : List Event) → is_legal setup past → (h s : ℕ) → is_of past h s ≡ true
    → is_in_flight (fate past s) ≡ true
    → member s (flight past h) ≡ true
flight_has setup past legal h s of_s flies =
    filter-member (λ x. is_in_flight (fate past x)) s (numbers past h) (numbers-member setup past legal h s of_s) flies

-- One in flight that gives r a register was named, and stands.
gives_named : (setup : Setup) (past : List Event) → is_legal setup past → (r s : ℕ)
    → gives (picture setup past) r s ≡ true
    → member s (namings past) ≡ true
gives_named setup past legal r s mine = named_is setup past legal s ∙ grind arith

mapped_by : (setup : Setup) (past : List Event) → is_legal setup past → (h r : ℕ) → 1 ≤ r → (o : Option ℕ)
    → writer past h r ≡ o
    → register_by past (first_register h r) o ≡ youngest (picture setup past) r (flight past h) (committed past h r)
mapped_by setup past legal h r low None found =
    let none : committer past h r ≡ None =
    first-none_narrow (λ x. writes past h r x && stands (fate past x))
    (λ x. writes past h r x && is (fate past x) Retired) (namings past)
    (λ y passes. grind (arith, nat_tests)) found in
    sym (youngest-none (picture setup past) r (flight past h) (committed past h r) (λ s m.
    let at = flying_in setup past legal h s m in
    false_from_ne_true (gives (picture setup past) r s) (λ mine.
    nothing_found (λ x. writes past h r x && stands (fate past x)) (namings past) s found
    (gives_named setup past legal r s mine)
    (stands_too (writes past h r s) (fate past s) (gives_writes setup past h r s at.0 mine) at.1)))
    ∙ ap (register_by past (first_register h r)) none)
mapped_by setup past legal h r low (Some w) found =
    let passes = first-passes (λ x. writes past h r x && stands (fate past x)) (namings past) w found in
    let at : (writes past h r w && stands (fate past w)) ≡ true = passes.0 in
    let mine : writes past h r w ≡ true = grind arith in
    let of_w = writes-of past h r w mine in
    elim (cases_Bool (is_in_flight (fate past w))) [
      | inl flies ↦
          sym (youngest-is (picture setup past) r w (flight past h) (committed past h r)
          (Rises-filter (λ x. is_in_flight (fate past x)) (numbers past h) (numbers-rise setup past legal h))
          (flight_has setup past legal h w of_w flies)
          (writes_gives setup past legal h r w low mine (grind (arith, nat_tests)) (grind (arith, nat_tests)))
          (λ s m gives_s.
          let in_flight = flying_in setup past legal h s m in
          writer_greatest setup past legal h r w s found (gives_writes setup past h r s in_flight.0 gives_s)
          (standing_flight (fate past s) in_flight.1)
          (gives_named setup past legal r s gives_s)))
      | inr landed ↦
          let committed_one : committer past h r ≡ Some w =
          first-narrow (λ x. writes past h r x && stands (fate past x))
          (λ x. writes past h r x && is (fate past x) Retired) (namings past) w
          (λ y retired. grind (arith, nat_tests)) found (grind (arith, nat_tests)) in
          sym (youngest-none (picture setup past) r (flight past h) (committed past h r) (λ s m.
          let in_flight = flying_in setup past legal h s m in
          false_from_ne_true (gives (picture setup past) r s) (λ gives_s.
          let upto = writer_greatest setup past legal h r w s found (gives_writes setup past h r s in_flight.0 gives_s)
          (standing_flight (fate past s) in_flight.1) (gives_named setup past legal r s gives_s) in
          let older = retired_older setup past legal h s w in_flight.0 in_flight.1 of_w
          (retired_one (fate past w) landed (standing_of (writes past h r w) (fate past w) at)) in
          absurd (omega arith)))
          ∙ ap (register_by past (first_register h r)) committed_one)
    ]

-- The law: the map of a hart is its committed map with the registers of its flight entered in order.
pub mapped-is : (setup : Setup) (past : List Event) → is_legal setup past → (h r : ℕ) → 1 ≤ r
    → mapped past h r ≡ youngest (picture setup past) r (flight past h) (committed past h r)
mapped-is setup past legal h r low = mapped_by setup past legal h r low (writer past h r) refl
