-- One turn of the loop that resolves a store: the one at i is resolved if its number is the one, and stays otherwise.
use Rattle.std.proofs.Common.{◌≡◌, ◌≢◌, ℕ, ◌+◌, ◌<◌, ◌==◌, Some, List, ◌++◌, map, length, get_or, set, take, drop, sym}
use Rattle.std.proofs.Common.{ap, ◌∙◌, arith}
use Rattle.std.proofs.lemmas.Bool.{eq-eqb, ne_eqb, cond-true, cond-false}
use Rattle.std.proofs.lemmas.List.{get_or_default}
use Rattle.std.proofs.lemmas.List.Edits.{map_over_more}
use Rattle.events.specs.declared.effect.Written.{Written}
use Rattle.load_store.specs.declared.store.Store.{Store}
use Rattle.load_store.specs.Queues.{resolved}

module _ (seq : ℕ) (w : Written) (xs ys : List Store) (i : ℕ) (d : Store)
    (inside : i < length xs) (same : length ys ≡ length xs)
    (so_far : ys ≡ map (resolved seq w) (take i xs) ++ drop i xs) where
  turn : set ys i (resolved seq w (get_or ys i d)) ≡ map (resolved seq w) (take (i + 1) xs) ++ drop (i + 1) xs
  turn = map_over_more (resolved seq w) xs ys i (get_or ys i d) inside so_far
      (get_or_default ys i d (get_or ys i d) (omega arith))

  pub resolved_more : (get_or ys i d).seq ≡ seq
      → set ys i (record (get_or ys i d) { write = Some w }) ≡ map (resolved seq w) (take (i + 1) xs) ++ drop (i + 1) xs
  resolved_more it =
      let here = get_or ys i d in
      let is = cond-true (here.seq == seq) (record here { write = Some w }) here (eq-eqb here.seq seq it) in
      ap (set ys i) (sym is) ∙ turn

  pub resolved_other : (get_or ys i d).seq ≢ seq
      → set ys i (get_or ys i d) ≡ map (resolved seq w) (take (i + 1) xs) ++ drop (i + 1) xs
  resolved_other other =
      let here = get_or ys i d in
      let is = cond-false (here.seq == seq) (record here { write = Some w }) here (ne_eqb here.seq seq other) in
      ap (set ys i) (sym is) ∙ turn
