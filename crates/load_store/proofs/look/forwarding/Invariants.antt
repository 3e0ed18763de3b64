use Rattle.std.proofs.Common.{◌≡◌, take}
use Rattle.load_store.specs.Looks.{youngest_write}
use Rattle.load_store.proofs.look.forwarding.Given as goal

-- none of those from here on is older and shares a byte
abbrev pub invariant-loop-place : goal.invariant-loop-place
invariant-loop-place l =
    youngest_write l.seq l.addr l.n l.stores ≡ youngest_write l.seq l.addr l.n (take l.place l.stores)
