-- What is listed of a hart is a way of it: one number more, one way more.
use Rattle.std.specs.Prelude.{◌≡◌, ℕ, zero, suc, ◌<◌, ◌==◌, Bool, true, false, if◌then◌else◌, slice_index, List, [], ◌∷◌, ◌++◌, length, Contains, Some, slice_index_or}
use Rattle.std.specs.List.{AllZip, slice_get}
use Rattle.std.specs.Prelude.{unwrap_or}
use Rattle.std.proofs.Common.{refl, sym, ap, subst, ◌∙◌, get_or, arith}
use Rattle.std.proofs.lemmas.Bool.Decides.{nat_tests}
use Rattle.std.proofs.lemmas.List.Elements.{All-contains, All-contains_itself, All-push}
use Rattle.std.proofs.lemmas.List.Quantifiers.{position-Some}
use Rattle.elf_image.specs.Image.{word_in}
use Rattle.smt_model.specs.{Setup.Setup, Exec.Computed, Nexts.is_last, Plain.computes, Plain.read_register}
use Rattle.litmus_runs.specs.declared.{access.Access.Access, finding.Found.Found, runs.Run.Run, runs.HartRuns.HartRuns}
use Rattle.program_ways.specs.declared.{known.Held.Held, known.Known.Known, program.Program.Program, hart.Hart.Hart, hart.End.End}
use Rattle.program_ways.specs.Steps.{location_of}
use Rattle.program_ways.specs.Ways.{MayHave, initially, written, how_ended, IsTold, IsRun, AreRunsOf}
use Rattle.program_ways.specs.Keeping.{setup_here, op_of, end_number, IsOneOf, MayHaveAt, HasWay, AreKnown, AreListed}
use Rattle.program_ways.specs.Keeping.{IsProgram, IsGoing, IsAtEnd, AreFollowed}
use Rattle.program_ways.proofs.Moving.{same_computed}

-- A read finds the number of an entry of its location.
pub one_of_them : (known : List Held) (location index : ℕ) (d : Held) (found : Found) → index < length known
    → (slice_index_or known index d).location ≡ location → found.number ≡ (slice_index_or known index d).number
    → found.location ≡ Some location → IsOneOf known location found
one_of_them known location index d found bound place number at = record {
  place = at;
  number = rw (sym place, number) (All-contains_itself known index d bound);
}

-- A location is that of one word.
there_is : (shared : List ℕ) (word location d : ℕ) → location_of shared word ≡ Some location
    → get_or shared location d ≡ word
there_is shared word location d at =
    let test = (position-Some (λ one. one == word) shared location d at).1 in grind (arith, nat_tests, test)

pub one_word : (shared : List ℕ) (location word other : ℕ) → location_of shared word ≡ Some location
    → location_of shared other ≡ Some location → word ≡ other
one_word shared location word other at there =
    sym (there_is shared word location 0 at) ∙ there_is shared other location 0 there

-- At the start each location has the number that its word has there.
pub first_there : (setup : Setup) (shared : List ℕ) (location d number : ℕ)
    → number ≡ word_in setup.image (get_or shared location d) → MayHaveAt setup shared location number
first_there setup shared location d number is =
    λ word at.
    subst (MayHave setup shared word)
    (sym (is ∙ ap (word_in setup.image) (there_is shared word location d at))) (initially word)

-- Of lists that go together, what stands at a place of the second goes with one of the first.
pub zip_at : {A B : Type 0} (R : A → B → Type 0) (xs : List A) (ys : List B) (i : ℕ) (d : B) → AllZip R xs ys
    → i < length ys → (x : A) × Contains xs x × R x (slice_index_or ys i d)
zip_at R [] [] i d all within = absurd (omega (arith, within))
zip_at R [] (y ∷ ys) i d all within = absurd all
zip_at R (x ∷ xs) [] i d all within = absurd all
zip_at R (x ∷ xs) (y ∷ ys) zero d all within = (x, (zero, omega arith, refl), all.0)
zip_at R (x ∷ xs) (y ∷ ys) (suc i) d all within =
    let found = zip_at R xs ys i d all.1 (omega (arith, within)) in
    let later = found.1.1 in (found.0, (suc found.1.0, omega (arith, later), found.1.2), found.2)

-- What a hart has written on its way its location may have.
pub learnt : (p : Program) (shared : List ℕ) (hart : Hart) (all : List Access) (at : ℕ) (d : Access) (number : ℕ)
    → HasWay p shared hart → all ≡ hart.accesses.items → at < length all
    → (slice_index_or all at d).writes ≡ Some number
    → MayHaveAt (setup_here p) shared (slice_index_or all at d).location number
learnt p shared hart all at d number has same within writes =
    let found = zip_at (IsTold shared p.places.items) has.way.made all at d
    (subst (λ (xs : List Access). AllZip (IsTold shared p.places.items) has.way.made xs) (sym same) has.keeps.accesses)
    within in
    λ word there.
    subst (λ one. MayHave (setup_here p) shared one number)
    (one_word shared (slice_index_or all at d).location found.0.word word found.2.location there)
    (written hart.index has.way found.0 number has.on found.1 (sym found.2.writes ∙ writes))

-- What may be found of the numbers that are known is a number that its word may have.
pub may_read : (p : Program) (shared : List ℕ) (known : Known) (location number : ℕ) → AreKnown p shared known
    → Contains known.held.items (record { location = location; number = number })
    → MayHaveAt (setup_here p) shared location number
may_read p shared known location number are there =
    All-contains (λ (held : Held). MayHaveAt (setup_here p) shared held.location held.number) known.held.items
    (record { location = location; number = number }) are.each there

-- A hart at its end is listed.
by_first : (b : Bool) (a c n m : ℕ) → (b ≡ true → a ≡ n) → (b ≡ false → c ≡ m)
    → (if b then a else c) ≡ (if b then n else m)
by_first true a c n m first other = first refl
by_first false a c n m first other = other refl

pub one_run : (p : Program) (shared : List ℕ) (index : ℕ) (hart : Hart) (it : End) (run : Run) → IsProgram p
    → IsGoing p shared index hart → IsAtEnd p hart it → run.accesses.items ≡ hart.accesses.items
    → ((r : ℕ) → r < 32 → slice_index run.registers r
    ≡ (if r == 0 then end_number it else slice_index hart.state.registers r))
    → IsRun (setup_here p) shared p.places.items index run
one_run p shared index hart it run program going at accesses registers =
    let has = going.way in
    let s = has.way.state in
    let next = same_computed p shared has.way hart program has.keeps (op_of p hart) at.in_range refl in
    subst (λ i. IsRun (setup_here p) shared p.places.items i run) going.same
    (record {
      way = has.way;
      on = has.on;
      ended = subst (λ (c : Computed). is_last c.next ≡ true) next at.stopping.last;
      accesses = subst (λ (xs : List Access). AllZip (IsTold shared p.places.items) has.way.made xs) (sym accesses)
          has.keeps.accesses;
      registers = λ r below.
          registers r below
          ∙ by_first (r == 0) (end_number it) (slice_index hart.state.registers r)
          (how_ended (computes (setup_here p) s hart.index).next) (read_register s hart.index r)
          (λ _. at.stopping.how ∙ ap (λ (c : Computed). how_ended c.next) next)
          (λ _. has.keeps.state.registers r below);
    })

pub one_run_more : (p : Program) (shared : List ℕ) (index : ℕ) (runs : List Run) (run : Run)
    → AreListed p shared index runs → IsRun (setup_here p) shared p.places.items index run
    → AreListed p shared index (runs ++ run ∷ [])
one_run_more p shared index runs run all one =
    All-push (IsRun (setup_here p) shared p.places.items index) runs run all one

-- What holds of each item by its place holds of one more.
pub get_more : {A : Type 0} (P : ℕ → A → Type 0) (xs : List A) (x : A)
    → ((h : ℕ) (y : A) → slice_get xs h ≡ Some y → P h y) → P (length xs) x
    → (h : ℕ) (y : A) → slice_get (xs ++ x ∷ []) h ≡ Some y → P h y
get_more P [] x all one zero y is = subst (P 0) (ap (λ o. unwrap_or o x) is) one
get_more P [] x all one (suc h) y is = absurd (grind (arith, is))
get_more P (a ∷ xs) x all one zero y is = all 0 y is
get_more P (a ∷ xs) x all one (suc h) y is =
    get_more (λ n. P (suc n)) xs x (λ k z there. all (suc k) z there) (subst (λ n. P n x) (omega arith) one) h y is

pub one_hart_more : (p : Program) (shared : List ℕ) (index : ℕ) (harts : List HartRuns) (hart : HartRuns)
    → length harts ≡ index → AreFollowed p shared harts → AreListed p shared index hart.runs.items
    → AreFollowed p shared (harts ++ hart ∷ [])
one_hart_more p shared index harts hart count all one =
    get_more (AreRunsOf (setup_here p) shared p.places.items) harts hart all
    (subst (λ n. AreRunsOf (setup_here p) shared p.places.items n hart) (sym count) one)
