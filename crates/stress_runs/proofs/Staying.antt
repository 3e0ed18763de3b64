-- What was put into a file is there once it is finished.
use Rattle.std.specs.Prelude.{◌≡◌, ℕ, Bool, List, Option, None, Some, Result, Ok, Err, OnOk}
use Rattle.std.proofs.Common.{◌∙◌}
use Rattle.std.specs.Io.KnownBytes.{Appends, Keeps}
use Rattle.event_text.specs.{Sinking.HasPut}

still_there : (old filled new : Option (List ℕ)) (text : List ℕ) → Appends old filled text → Keeps filled new
    → Appends old new text
still_there None filled new text put kept = tt
still_there (Some xs) None new text put kept = absurd put
still_there (Some xs) (Some ys) None text put kept = absurd kept
still_there (Some xs) (Some ys) (Some zs) text put kept = kept ∙ put

module _ {S : Type 0} (written : S → Option (List ℕ)) (has_failed : S → Bool) (old filled new : S) (text : List ℕ) where
  pub finished_put : {A E : Type 0} (answer : Result A E) → HasPut written has_failed old filled text
      → OnOk answer (Keeps (written filled) (written new)) → OnOk answer (has_failed new ≡ has_failed filled)
      → OnOk answer (HasPut written has_failed old new text)
  finished_put (Ok done) put kept works = record {
    appended = still_there (written old) (written filled) (written new) text put.appended kept;
    works = works ∙ put.works;
  }
  finished_put (Err broken) put kept works = tt
