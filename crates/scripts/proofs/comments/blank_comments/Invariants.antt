use Rattle.std.proofs.Common.{◌≡◌, ◌++◌, length, take, drop}
use Rattle.scripts.specs.Comments.{uncommented, uncommented_from}
use Rattle.scripts.proofs.comments.blank_comments.Given as goal

-- the bytes so far are blanked, and the rest is as it was
abbrev pub invariant-loop-place : goal.invariant-loop-place
invariant-loop-place l = record {
  blanked : take l.place l.text ++ uncommented_from l.commented l.starts (drop l.place l.text) ≡ uncommented l.fn.text;
  long : length l.text ≡ length l.fn.text;
}
