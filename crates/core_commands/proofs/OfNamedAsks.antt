-- Lines of asks, cut off one by one.
use Rattle.std.proofs.Common.{◌≡◌, ◌+◌, ◌≤◌, ◌<◌, ℕ, zero, suc, ◌==◌, Bool, true, false, List, [], ◌∷◌, ◌++◌, length}
use Rattle.std.proofs.Common.{flat_map}
use Rattle.std.proofs.Common.{Result, Ok, Err, OnOk, Option, refl, sym, ap, subst, ◌∙◌, arith, append_assoc, append-nil}
use Rattle.std.specs.List.{All}
use Rattle.std.specs.Io.KnownBytes.{Appends}
use Rattle.std.proofs.lemmas.{Grind.flat_map-append, List.Elements.All-push, Bool.Decides.nat_tests, List.length-append}
use Rattle.text_fields.specs.Splitting.{Lacks, field, field_count, rest}
use Rattle.text_fields.specs.Printing.{Prints}
use Rattle.text_fields.proofs.{SplittingLaws.parts_of, Appending.appends_more}
use Rattle.address_labels.specs.Labels.{Marks}
use Rattle.core_commands.specs.NamedAsks.{IsNamedText, named_line, last_line}

-- ---- The first line

one_or_more : (n : ℕ) → 1 ≤ n → (P : Type 0) → (n ≡ 1 → P) → (2 ≤ n → P) → P
one_or_more zero some P one more = absurd (omega arith)
one_or_more (suc zero) some P one more = one refl
one_or_more (suc (suc n)) some P one more = more (omega arith)

pub first_cut : (text line others : List ℕ) → line ≡ field 10 text → others ≡ rest 10 text
    → (length line ≡ length text → ⊥) → text ≡ line ++ 10 ∷ others
first_cut text line others is are shorter =
    let parts = parts_of 10 text in
    let same : length line ≡ length (field 10 text) = ap length is in
    one_or_more (field_count 10 text) parts.count (text ≡ line ++ 10 ∷ others)
    (λ one. absurd (shorter (same ∙ sym (ap length (parts.alone one)))))
    (λ two. (parts.cut two).0 ∙ ap (λ (bs : List ℕ). bs ++ 10 ∷ rest 10 text) (sym is)
    ∙ ap (λ (bs : List ℕ). line ++ 10 ∷ bs) (sym are))

pub first_lacks : (text line : List ℕ) → line ≡ field 10 text → Lacks 10 line
first_lacks text line is = subst (λ (bs : List ℕ). Lacks 10 bs) (sym is) (parts_of 10 text).lacks

pub none_cut : (text line : List ℕ) → line ≡ field 10 text → length line ≡ length text → Lacks 10 text
none_cut text line is whole =
    let parts = parts_of 10 text in
    let same : length line ≡ length (field 10 text) = ap length is in
    one_or_more (field_count 10 text) parts.count (Lacks 10 text)
    (λ one. subst (λ (bs : List ℕ). Lacks 10 bs) (sym (parts.alone one)) parts.lacks)
    (λ two.
    let cut : length text ≡ length (field 10 text ++ 10 ∷ rest 10 text) = ap length (parts.cut two).0 in
    let both : length (field 10 text ++ 10 ∷ rest 10 text) ≡ length (field 10 text) + length (10 ∷ rest 10 text)
    = length-append (field 10 text) (10 ∷ rest 10 text) in
    let more : length (10 ∷ rest 10 text) ≡ suc (length (rest 10 text)) = refl in
    absurd (omega (arith, cut, both, more, same, whole)))

-- ---- The lines so far

pub record AreNamed (marks : Marks) (old new : Option (List ℕ)) (text left : List ℕ) : Type 0 where
  pub done : List (List ℕ)
  pub whole : text ≡ flat_map (λ line. line ++ 10 ∷ []) done ++ left
  pub each : All (Lacks 10) done
  pub written : Appends old new (flat_map (named_line marks) done)

module _ (marks : Marks) (old mid new : Option (List ℕ)) (text : List ℕ) where
  pub one_more : (left line others : List ℕ) → AreNamed marks old mid text left → left ≡ line ++ 10 ∷ others
      → Lacks 10 line → Appends mid new (named_line marks line) → AreNamed marks old new text others
  one_more left line others so_far cut lacks next =
      let ended : List ℕ → List ℕ = λ line. line ++ 10 ∷ [] in
      let before : List ℕ = flat_map ended so_far.done in
      record {
        done = so_far.done ++ line ∷ [];
        whole = so_far.whole ∙ ap (λ (bs : List ℕ). before ++ bs) cut
            ∙ ap (λ (bs : List ℕ). before ++ bs) (sym (append_assoc line (10 ∷ []) others))
            ∙ sym (append_assoc before (line ++ 10 ∷ []) others)
            ∙ ap (λ (bs : List ℕ). bs ++ others)
            (ap (λ (bs : List ℕ). before ++ bs) (sym (append-nil (line ++ 10 ∷ [])))
            ∙ sym (flat_map-append ended so_far.done (line ∷ [])));
        each = All-push (Lacks 10) so_far.done line so_far.each lacks;
        written = subst (λ (t : List ℕ). Appends old new t)
            (ap (λ (bs : List ℕ). flat_map (named_line marks) so_far.done ++ bs) (sym (append-nil
            (named_line marks line)))
            ∙ sym (flat_map-append (named_line marks) so_far.done (line ∷ [])))
            (appends_more old mid new _ _ so_far.written next);
      }

  pub last_too : (left : List ℕ) → AreNamed marks old mid text left → Lacks 10 left
      → Appends mid new (last_line marks left) → Prints old new (IsNamedText marks text)
  last_too left so_far lacks next = (
    flat_map (named_line marks) so_far.done ++ last_line marks left,
    record {
      lines = so_far.done;
      last = left;
      whole = so_far.whole;
      each = so_far.each;
      last_lacks = lacks;
      is = refl;
    },
    appends_more old mid new _ _ so_far.written next,
  )

  -- where it was written
  pub last_written : {E : Type 0} (answer : Result Unit E) (left : List ℕ) → AreNamed marks old mid text left
      → Lacks 10 left
      → OnOk answer (Appends mid new (last_line marks left)) → OnOk answer (Prints old new (IsNamedText marks text))
  last_written (Ok done) left so_far lacks next = last_too left so_far lacks next
  last_written (Err why) left so_far lacks next = tt
