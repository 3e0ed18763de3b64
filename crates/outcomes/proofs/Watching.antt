-- What is watched, register by register.
use Rattle.std.specs.Prelude.{◌≡◌, ℕ, ◌<◌, true, List, length, slice_get, slice_index_or, Some}
use Rattle.std.proofs.Common.{subst, arith}
use Rattle.std.proofs.lemmas.Bool.Decides.{nat_tests}
use Rattle.std.proofs.lemmas.Option.{slice_get-get_or}
use Rattle.watched_outcomes.specs.declared.watch.{Watch.Watch, WatchedRegister.WatchedRegister}
use Rattle.watched_outcomes.specs.Watching.{AreThere, is_register_there}

number_there : (harts : ℕ) (w : WatchedRegister) → is_register_there harts w ≡ true
    → (w.hart < harts) × (w.register < 32)
number_there harts w there = (grind (arith, nat_tests), grind (arith, nat_tests))

pub there_at : (harts : ℕ) (watch : Watch) (items : List WatchedRegister) (k : ℕ) (d : WatchedRegister)
    → items ≡ watch.registers.items → k < length items → AreThere harts watch
    → ((slice_index_or items k d).hart < harts) × ((slice_index_or items k d).register < 32)
there_at harts watch items k d same inside there =
    number_there harts (slice_index_or items k d)
    (there k (slice_index_or items k d)
    (subst (λ (xs : List WatchedRegister). slice_get xs k ≡ Some (slice_index_or items k d)) same
    (slice_get-get_or items k d inside)))
