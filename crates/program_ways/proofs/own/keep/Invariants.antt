use Rattle.std.proofs.Common.{◌≡◌, ℕ, ◌==◌, ◌<◌, false}
use Rattle.std.specs.Prelude.{slice_index_or}
use Rattle.program_ways.specs.declared.own.OwnWord.{OwnWord}
use Rattle.program_ways.proofs.own.keep.Given as goal

abbrev pub invariant-loop-place : goal.invariant-loop-place
invariant-loop-place l = record {
  same : l.own.items ≡ l.initial.own.items;
  none : (k : ℕ) (d : OwnWord) → k < l.place → ((slice_index_or l.own.items k d).word == l.word) ≡ false;
}
