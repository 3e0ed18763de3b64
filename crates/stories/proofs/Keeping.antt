-- The last rows told, once another was.
use Rattle.std.proofs.Common.{◌≡◌, ◌∙◌, ℕ, suc, ◌+◌, ◌<◌, ◌≤◌, List, [], ◌∷◌, ◌++◌, refl, sym, ap, subst, arith}
use Rattle.std.proofs.Common.{length, take, drop}
use Rattle.std.specs.Prelude.{slice_set}
use Rattle.std.specs.List.{copy_within}
use Rattle.std.proofs.lemmas.List.{length-take-le, take-append-le, take-take, take_all}
use Rattle.stories.specs.{declared.row.Row.Row, declared.recent.Recent.Recent}
use Rattle.stories.specs.Notes.{HasKept}

moved_is : (rows : List Row) (row : Row) → length rows ≡ 256
    → slice_set (copy_within rows 0 255 1) 0 row ≡ row ∷ (take 255 rows ++ drop 256 rows)
moved_is [] row long = absurd (omega (arith, long))
moved_is (first ∷ rows) row long = refl

one_more : (k : ℕ) (row : Row) (rows : List Row) → take (k + 1) (row ∷ rows) ≡ row ∷ take k rows
one_more k row rows =
    let more : k + 1 ≡ suc k = omega arith in
    ap (λ n. take n (row ∷ rows)) more

front : (k : ℕ) (rows : List Row) → k ≤ 255 → length rows ≡ 256 → take k (take 255 rows ++ drop 256 rows) ≡ take k rows
front k rows few long =
    let inside : 255 ≤ length rows = omega (arith, long) in
    take-append-le k (take 255 rows) (drop 256 rows)
    (subst (λ n. k ≤ n) (sym (length-take-le 255 rows inside)) few)
    ∙ take-take k 255 rows few

-- Where fewer than 256 were told, all of them are there.
some_told : (count : ℕ) (rows past : List Row) → count ≤ 255 → length rows ≡ 256 → take count rows ≡ take 256 past
    → take count rows ≡ take 255 past
some_told count rows past few long same =
    let inside : count ≤ length rows = omega (arith, few, long) in
    let counted : length (take count rows) ≡ count = length-take-le count rows inside in
    let short : length (take 256 past) ≤ 255 = subst (λ xs. length xs ≤ 255) same (omega (arith, counted, few)) in
    let less : 255 ≤ 256 = omega arith in
    same ∙ sym (take_all 255 (take 256 past) short) ∙ take-take 255 256 past less

all_told : (rows past : List Row) → take 256 rows ≡ take 256 past → take 255 rows ≡ take 255 past
all_told rows past same =
    let less : 255 ≤ 256 = omega arith in
    sym (take-take 255 256 rows less) ∙ ap (take 255) same ∙ take-take 255 256 past less

-- One more of them is there, before the others.
behind : (k : ℕ) (row : Row) (rows moved past : List Row) → k ≤ 255 → length rows ≡ 256
    → moved ≡ copy_within rows 0 255 1 → take k rows ≡ take 255 past
    → take (k + 1) (slice_set moved 0 row) ≡ take 256 (row ∷ past)
behind k row rows moved past few long is same =
    ap (λ xs. take (k + 1) (slice_set xs 0 row)) is
    ∙ ap (take (k + 1)) (moved_is rows row long)
    ∙ one_more k row (take 255 rows ++ drop 256 rows)
    ∙ ap (λ xs. row ∷ xs) (front k rows few long ∙ same)
    ∙ sym (one_more 255 row past)

pub grown : (row : Row) (past moved : List Row) (was : Recent) → length was.rows ≡ 256
    → moved ≡ copy_within was.rows 0 255 1 → was.count < 256 → HasKept past was
    → HasKept (row ∷ past) (record { rows = slice_set moved 0 row; count = was.count + 1 })
grown row past moved was long is small has =
    let few : was.count ≤ 255 = omega (arith, small) in
    record {
      rows = behind was.count row was.rows moved past few long is
          (some_told was.count was.rows past few long has.rows);
      few = omega (arith, small);
    }

pub shifted : (row : Row) (past moved : List Row) (was : Recent) → length was.rows ≡ 256
    → moved ≡ copy_within was.rows 0 255 1 → 256 ≤ was.count → HasKept past was
    → HasKept (row ∷ past) (record { rows = slice_set moved 0 row; count = was.count })
shifted row past moved was long is full has =
    let most : was.count ≤ 256 = has.few in
    let all : was.count ≡ 256 = omega (arith, full, most) in
    let less : 255 ≤ 255 = omega arith in
    let same : take 255 was.rows ≡ take 255 past =
    all_told was.rows past (subst (λ n. take n was.rows ≡ take 256 past) all has.rows) in
    record {
      rows = ap (λ n. take n (slice_set moved 0 row)) all
          ∙ behind 255 row was.rows moved past less long is same;
      few = has.few;
    }
