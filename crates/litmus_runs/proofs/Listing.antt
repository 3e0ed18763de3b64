-- What is listed of a hart is a way of it: one step more, one run more, one number more.
use Rattle.std.specs.Prelude.{◌≡◌, ℕ, zero, suc, ◌+◌, ◌<◌, false, List, [], ◌∷◌, ◌++◌, length, All, Contains, Some, None, slice_get, slice_index_or}
use Rattle.std.specs.List.{AllZip}
use Rattle.std.proofs.Common.{sym, subst, take, get_or, arith, ap}
use Rattle.std.proofs.lemmas.List.{take_more}
use Rattle.std.proofs.lemmas.Option.{slice_get_within, get_or_from_slice_get}
use Rattle.std.proofs.lemmas.List.Elements.{All-contains, All-contains_itself, All-push}
use Rattle.litmus_tests.specs.declared.{test.LitmusTest.LitmusTest, test.Thread.Thread}
use Rattle.litmus_tests.specs.declared.step.LitmusStep.{LitmusStep}
use Rattle.litmus_runs.specs.declared.{access.Access.Access, hart.Hart.Hart, finding.Found.Found}
use Rattle.litmus_runs.specs.declared.{known.Known.Known, known.Held.Held, runs.Run.Run}
use Rattle.litmus_runs.specs.Steps.{HasTaken}
use Rattle.litmus_runs.specs.Ways.{IsOnWay, MayHave, behind_step, written, IsRun, AreKnown, MayFind, IsOneOf}

-- A hart makes a step with what it may find.
pub one_step_more : (test : LitmusTest) (thread : Thread) (known : Known) (before after : Hart) (step : LitmusStep)
    (found : Found) → AreKnown test known → IsOnWay test thread before
    → slice_get thread.steps.items before.next ≡ Some step → MayFind known.held.items step before found
    → HasTaken step found before after → IsOnWay test thread after
one_step_more test thread known before after step found held way there may taken =
    behind_step thread before after step found way there may.finds
    (λ location reads at. All-contains (λ one. MayHave test one.location one.number) known.held.items
    (record { location = location; number = found.number }) held.each (may.number location reads at)) taken

-- A hart at its end is listed.
pub one_run_more : (test : LitmusTest) (thread : Thread) (runs : List Run) (hart : Hart) (run : Run)
    → All (IsRun test thread) runs → IsOnWay test thread hart
    → slice_get thread.steps.items hart.next ≡ None → run.accesses.items ≡ hart.accesses.items
    → run.registers ≡ hart.registers → All (IsRun test thread) (runs ++ run ∷ [])
one_run_more test thread runs hart run all way ended accesses registers = All-push (IsRun test thread) runs run all
    (record { hart = hart; way = way; ended = ended; accesses = accesses; registers = registers })

-- What a hart has written on its way its location may have.
pub one_number_more : (test : LitmusTest) (index : ℕ) (thread : Thread) (hart : Hart) (access : Access) (number : ℕ)
    → slice_get test.threads.items index ≡ Some thread → IsOnWay test thread hart
    → Contains hart.accesses.items access → access.writes ≡ Some number → MayHave test access.location number
one_number_more test index thread hart access number there way made writes =
    written index thread hart access number there way made writes

-- A read finds the number of an entry of its location.
pub one_of_them : (known : List Held) (location index : ℕ) (d : Held) (found : Found) → index < length known
    → (slice_index_or known index d).location ≡ location → found.number ≡ (slice_index_or known index d).number
    → found.held ≡ false → found.location ≡ Some location → IsOneOf known location found
one_of_them known location index d found bound place number free at = record {
  held = free;
  place = at;
  number = rw (sym place, number) (All-contains_itself known index d bound);
}

-- So it may have the number of an access at a place of its hart's.
pub learnt : (test : LitmusTest) (index : ℕ) (thread : Thread) (hart : Hart) (all : List Access) (at : ℕ) (d : Access)
    (number : ℕ) → slice_get test.threads.items index ≡ Some thread → IsOnWay test thread hart
    → all ≡ hart.accesses.items → at < length all → (slice_index_or all at d).writes ≡ Some number
    → MayHave test (slice_index_or all at d).location number
learnt test index thread hart all at d number there way same bound writes =
    one_number_more test index thread hart (slice_index_or all at d) number there way
    (subst (λ (xs : List Access). Contains xs (slice_index_or all at d)) same (All-contains_itself all at d bound)) writes

-- Two lists that go together, with one more of each.
pub zip_more : {A B : Type 0} (R : A → B → Type 0) (xs : List A) (ys : List B) (x : A) (y : B) → AllZip R xs ys → R x y
    → AllZip R (xs ++ x ∷ []) (ys ++ y ∷ [])
zip_more R [] [] x y all one = (one, tt)
zip_more R [] (b ∷ ys) x y all one = absurd all
zip_more R (a ∷ xs) [] x y all one = absurd all
zip_more R (a ∷ xs) (b ∷ ys) x y all one = (all.0, zip_more R xs ys x y all.1 one)

-- So have the first of one list, with the next of it.
pub zip_next : {A B : Type 0} (R : A → B → Type 0) (xs : List A) (ys : List B) (i : ℕ) (x : A) (y : B)
    → slice_get xs i ≡ Some x → AllZip R (take i xs) ys → R x y → AllZip R (take (i + 1) xs) (ys ++ y ∷ [])
zip_next R xs ys i x y there all one =
    rw (take_more xs i x (slice_get_within xs i x there), get_or_from_slice_get xs i x x there)
    (zip_more R (take i xs) ys x y all one)

-- The item at a place.
pub some_at : {A : Type 0} (xs : List A) (i : ℕ) (x : A) → i < length xs → x ≡ get_or xs i x → slice_get xs i ≡ Some x
some_at [] i x there is = absurd (omega (arith, there))
some_at (y ∷ ys) zero x there is = ap Some (sym is)
some_at (y ∷ ys) (suc i) x there is = some_at ys i x (omega (arith, there)) is
