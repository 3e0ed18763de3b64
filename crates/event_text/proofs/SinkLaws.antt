-- What goes into a sink, one text after another.

use Rattle.std.proofs.Common.{◌≡◌, ℕ, Bool, false, List, [], ◌++◌, Option, Result, Ok, Err, sym, ◌∙◌, ap, append_assoc}
use Rattle.std.proofs.Common.{refl}
use Rattle.std.specs.Prelude.{OnErr}
use Rattle.std.proofs.KnownBytes.{Appends-nil, Appends-trans}
use Rattle.event_text.specs.{declared.sink.Broken.Broken, Sinking.HasBroken, Sinking.HasPut, Sinking.HasPutBut}

module _ {S : Type 0} (written : S → Option (List ℕ)) (has_failed : S → Bool) where
  pub HasPut-nil : (s : S) → has_failed s ≡ false → HasPut written has_failed s s []
  HasPut-nil s works = record { appended = Appends-nil (written s); works = works }

  pub HasPut-append : (r s t : S) (a b : List ℕ) → HasPut written has_failed r s a → HasPut written has_failed s t b
      → HasPut written has_failed r t (a ++ b)
  HasPut-append r s t a b first second = record {
    appended = Appends-trans (written r) (written s) (written t) a b first.appended second.appended;
    works = second.works;
  }

  -- nothing was put, and all is held back
  pub HasPutBut-nil : (s : S) (text : List ℕ) → has_failed s ≡ false → HasPutBut written has_failed s s text text
  HasPutBut-nil s text works = record { part = []; parts = refl; put = HasPut-nil s works }

  -- another text is held back behind it
  pub HasPutBut-more : (r s : S) (text held next : List ℕ) → HasPutBut written has_failed r s text held
      → HasPutBut written has_failed r s (text ++ next) (held ++ next)
  HasPutBut-more r s text held next h = record {
    part = h.part;
    parts = ap (λ t. t ++ next) h.parts ∙ append_assoc h.part held next;
    put = h.put;
  }

  -- a part of what was held back is put
  pub HasPutBut-step : (r s t : S) (text held left : List ℕ) → HasPutBut written has_failed r s text held
      → HasPutBut written has_failed s t held left → HasPutBut written has_failed r t text left
  HasPutBut-step r s t text held left first second = record {
    part = first.part ++ second.part;
    parts = first.parts ∙ ap (λ u. first.part ++ u) second.parts ∙ sym (append_assoc first.part second.part left);
    put = HasPut-append r s t first.part second.part first.put second.put;
  }

  -- all that was held back is put
  pub HasPutBut-rest : (r s t : S) (text held : List ℕ) → HasPutBut written has_failed r s text held
      → HasPut written has_failed s t held → HasPut written has_failed r t text
  HasPutBut-rest r s t text held first second =
      rw first.parts (HasPut-append r s t first.part held first.put second)

  module _ (puts : S → List ℕ → Result ℕ Broken → S → Type 0) where
    -- the first text went out whole
    pub HasBroken-behind : (r s t : S) (a b : List ℕ) → HasPut written has_failed r s a
        → HasBroken written has_failed puts s t b → HasBroken written has_failed puts r t (a ++ b)
    HasBroken-behind r s t a b first h = record {
      part = a ++ h.part;
      left = h.left;
      begins = ap (λ text. a ++ text) h.begins ∙ sym (append_assoc a h.part h.left);
      appended = Appends-trans (written r) (written s) (written t) a h.part first.appended h.appended;
      failed = h.failed;
      before = h.before;
      worked = h.worked;
      piece = h.piece;
      cause = h.cause;
      last = h.last;
    }

    -- what was held back went out in part
    pub HasBroken-held : (r s t : S) (text held : List ℕ) → HasPutBut written has_failed r s text held
        → HasBroken written has_failed puts s t held → HasBroken written has_failed puts r t text
    HasBroken-held r s t text held first h =
        rw first.parts (HasBroken-behind r s t first.part held first.put h)

    -- another text was to come
    pub HasBroken-before : (r t : S) (a b : List ℕ) → HasBroken written has_failed puts r t a
        → HasBroken written has_failed puts r t (a ++ b)
    HasBroken-before r t a b h = record {
      part = h.part;
      left = h.left ++ b;
      begins = ap (λ text. text ++ b) h.begins ∙ append_assoc h.part h.left b;
      appended = h.appended;
      failed = h.failed;
      before = h.before;
      worked = h.worked;
      piece = h.piece;
      cause = h.cause;
      last = h.last;
    }

-- what an answer of Err says
pub when_err : {A E : Type 0} {P : Type 0} (r : Result A E) → P → OnErr r P
when_err (Ok value) p = tt
when_err (Err error) p = p

pub on_err : {A E : Type 0} {P Q : Type 0} (r : Result A E) → (P → Q) → OnErr r P → OnErr r Q
on_err (Ok value) more p = tt
on_err (Err error) more p = more p
