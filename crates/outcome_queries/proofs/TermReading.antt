-- The terms of a condition, read where their text is cut.
use Rattle.std.proofs.Common.{◌≡◌, ℕ, true, false, ◌||◌, ◌==◌, Bool, List, [], ◌∷◌, ◌++◌, length}
use Rattle.std.proofs.Common.{Option, Some, None, IfOk, IfErr, Result, Ok, Err, refl, sym, subst, ◌∙◌, arith, codes}
use Rattle.std.specs.Fmt.{decimal}
use Rattle.text_fields.specs.Reading.{decimal_field}
use Rattle.text_fields.specs.Splitting.{field, rest}
use Rattle.text_fields.specs.declared.read.FieldError.{FieldError}
use Rattle.text_fields.proofs.SplittingLaws.{parts_at}
use Rattle.text_fields.specs.{Spelling.hex, Values.SpellsValue}
use Rattle.text_fields.proofs.LacksLaws.{Lacks-decimal, Lacks-hex}
use Rattle.symbols.specs.Tables.{Table}
use Rattle.watched_outcomes.specs.declared.watch.WatchedBytes.{WatchedBytes}
use Rattle.outcome_queries.specs.{declared.term.Term.Term, declared.term.Harts.Harts, declared.watched.Watched.Watched}
use Rattle.outcome_queries.specs.declared.relation.Relation.{Relation}
use Rattle.outcome_queries.specs.declared.relation.Relation.TheVariants.{Below}
use Rattle.outcome_queries.specs.declared.term.Term.TheVariants as terms
use Rattle.outcome_queries.specs.declared.term.Harts.TheVariants.{One, Each}
use Rattle.outcome_queries.specs.declared.watched.Watched.TheVariants as watched
use Rattle.outcome_queries.specs.declared.refused.Expected.{Expected}
use Rattle.outcome_queries.specs.declared.refused.Expected.TheVariants as expected
use Rattle.outcome_queries.specs.{Quoted.place_outside, Placed.SpellsPlaced, Asking.Asks, declared.placed.Placed.Placed}
use Rattle.outcome_queries.specs.{Lists.IsPartRefused, Widths.width_text, Relations.sign, Relations.is_equality}
use Rattle.outcome_queries.specs.Signs.{IsFirstSign}
use Rattle.outcome_queries.specs.Watched.{IsUnnamed, Spells, SpellsBytes, SpellsRegister}
use Rattle.outcome_queries.specs.Terms.{AsksPlace, HoldsNothing, IsCause, IsNoTerm, IsOfEnd, IsPut, Means, MeansNothing}
use Rattle.outcome_queries.specs.Terms.{SaysTerm, SpellsCause, SpellsHart, SpellsHarts, of_term, trimmed}
use Rattle.outcome_queries.proofs.Cutting.{Clear, no_sign, same_cut}
use Rattle.outcome_queries.proofs.Outside.{Skips, skips_both, skips_plain}
use Rattle.outcome_queries.proofs.Reading.{either_lacks, number_found, number_none, quote_mark}
use Rattle.outcome_queries.proofs.Spelled.{IsSign, behind_byte, equals, place_skips, value_skips, width_skips}

-- ---- the hart, and the cause

pub hart_found : (text before digits : List ℕ) (h : ℕ) → before ≡ field 104 text → digits ≡ rest 104 text
    → before ≡ [] → Ok h ≡ decimal_field 255 digits → SpellsHart text h
hart_found text before digits h first behind none read =
    let found = number_found 104 255 h text before digits first behind (grind arith) read in
    record { in_range = found.0; spelled = rw none at found.1 }

pub hart_before : (text before : List ℕ) → before ≡ field 104 text → (before ≡ [] → ⊥) → (h : ℕ) → SpellsHart text h → ⊥
hart_before text before first other h is =
    other (first ∙ (parts_at 104 text [] (decimal h) is.spelled refl).0)

pub hart_none : (text digits : List ℕ) (error : FieldError) → digits ≡ rest 104 text
    → Err error ≡ decimal_field 255 digits → (h : ℕ) → SpellsHart text h → ⊥
hart_none text digits error behind read h is =
    number_none 104 255 h text [] digits error behind (grind arith) read is.in_range refl is.spelled

pub cause_found : (text word digits : List ℕ) (c : ℕ) → word ≡ field 32 text → digits ≡ rest 32 text
    → word ≡ codes "stopped" → Ok c ≡ decimal_field 255 digits → IsCause text c
cause_found text word digits c first behind stopped read =
    let found = number_found 32 255 c text word digits first behind (grind arith) read in
    record { in_range = found.0; spelled = rw stopped at found.1 }

pub cause_word : (text word : List ℕ) → word ≡ field 32 text → (word ≡ codes "stopped" → ⊥) → (c : ℕ)
    → IsCause text c → ⊥
cause_word text word first other c is =
    other (first ∙ (parts_at 32 text (codes "stopped") (decimal c) is.spelled refl).0)

pub cause_none : (text digits : List ℕ) (error : FieldError) → digits ≡ rest 32 text
    → Err error ≡ decimal_field 255 digits → (c : ℕ) → IsCause text c → ⊥
cause_none text digits error behind read c is =
    number_none 32 255 c text (codes "stopped") digits error behind (grind arith) read is.in_range refl is.spelled

pub no_harts : (text : List ℕ) → (text ≡ codes "h*" → ⊥) → ((h : ℕ) → SpellsHart text h → ⊥) → (harts : Harts)
    → SpellsHarts text harts → ⊥
no_harts text each none (One h) is = none h is
no_harts text each none Each is = each is

-- what a relation with an order says nothing of, and what is no cause
pub no_end : (names : Table) (left : List ℕ) (r : Relation) (right : List ℕ) → ((v : ℕ) → SpellsValue right v → ⊥)
    → (is_equality r ≡ true → (c : Option ℕ) → SpellsCause right c → ⊥) → (term : Term) → IsOfEnd term
    → Means names left r right term → ⊥
no_end names left r right no_value no_cause (terms.Ended harts relation n) is_end is = no_value n is.1
no_end names left r right no_value no_cause (terms.Stopped harts relation c) is_end is = no_cause is.3 c is.1
no_end names left r right no_value no_cause (terms.Holds asked relation v) is_end is = is_end
no_end names left r right no_value no_cause (terms.Put digits relation) is_end is = is_end

pub not_both : (b : Bool) → b ≡ false → b ≡ true → ⊥
not_both true is other = cc
not_both false is other = cc

pub no_causes : (text : List ℕ) → (text ≡ codes "stopped" → ⊥) → ((c : ℕ) → IsCause text c → ⊥) → (cause : Option ℕ)
    → SpellsCause text cause → ⊥
no_causes text any none None is = any is
no_causes text any none (Some c) is = none c is

-- ---- what stands before the sign has no byte of a sign of its own

hart_skips : (s : ℕ) (text : List ℕ) (h : ℕ) → IsSign s → SpellsHart text h → Skips s text
hart_skips s text h sign is =
    let small = is.in_range in
    subst (λ t. Skips s t) (sym is.spelled)
    (behind_byte s 104 (decimal h) sign.h refl
    (skips_plain s (decimal h) (Lacks-decimal s h sign.apart.digit (grind arith)) (Lacks-decimal 39 h refl (grind arith))))

harts_skip : (s : ℕ) (text : List ℕ) (harts : Harts) → IsSign s → SpellsHarts text harts → Skips s text
harts_skip s text (One h) sign is = hart_skips s text h sign is
harts_skip s text Each sign is =
    subst (λ t. Skips s t) (sym is)
    (behind_byte s 104 (42 ∷ []) sign.h refl (skips_plain s (42 ∷ []) (rw sign.star refl) refl))

register_skips : (s : ℕ) (text : List ℕ) (h r : ℕ) → IsSign s → SpellsRegister text h r → Skips s text
register_skips s text h r sign is =
    let small = is.in_range in
    let name : Skips s is.name =
    skips_plain s is.name (either_lacks s r is.name sign.mark is.names.last is.names.name)
    (either_lacks 39 r is.name quote_mark is.names.last is.names.name) in
    subst (λ t. Skips s t) (sym is.spelled)
    (skips_both s is.name (64 ∷ decimal h) name (behind_byte s 64 (decimal h) sign.at_not refl
    (skips_plain s (decimal h) (Lacks-decimal s h sign.apart.digit (grind arith)) (Lacks-decimal 39 h refl (grind arith)))))

bytes_skip : (s : ℕ) (text : List ℕ) (b : WatchedBytes) → IsSign s → SpellsBytes text b → Skips s text
bytes_skip s text b sign is =
    subst (λ t. Skips s t) (sym is.spelled)
    (skips_both s (hex 8 b.address) (width_text (Some b.width))
    (skips_plain s (hex 8 b.address) (Lacks-hex s 8 b.address sign.apart.hex) (Lacks-hex 39 8 b.address refl))
    (width_skips s (Some b.width) sign.apart sign.colon_not))

spelled_clear : (text : List ℕ) (one : Watched) → Spells text one → Clear text
spelled_clear text (watched.Register h r) is = λ s sign. register_skips s text h r sign is
spelled_clear text (watched.Bytes b) is = λ s sign. bytes_skip s text b sign is

place_clear : (text : List ℕ) (placed : Placed) → SpellsPlaced text placed → Clear text
place_clear text placed is = λ s sign. place_skips s text placed sign is

both_not : (a b : Bool) → (a || b) ≡ false → (a ≡ false) × (b ≡ false)
both_not true b is = cc
both_not false b is = (refl, is)

out_clear : (text : List ℕ) → text ≡ codes "out" → Clear text
out_clear text is = λ s sign.
    let first = both_not (111 == s) _ sign.letters in
    let others = both_not (117 == s) _ first.1 in
    subst (λ t. Skips s t) (sym is)
    (behind_byte s 111 (117 ∷ 116 ∷ []) first.0 refl (behind_byte s 117 (116 ∷ []) others.0 refl
    (skips_plain s (116 ∷ []) (rw others.1 refl) refl)))

end_clear : (names : Table) (left : List ℕ) (r : Relation) (right : List ℕ) (term : Term) → IsOfEnd term
    → Means names left r right term → Clear left
end_clear names left r right (terms.Ended harts relation n) is_end is = λ s sign. harts_skip s left harts sign is.0
end_clear names left r right (terms.Stopped harts relation c) is_end is = λ s sign. harts_skip s left harts sign is.0
end_clear names left r right (terms.Holds asked relation v) is_end is = absurd is_end
end_clear names left r right (terms.Put digits relation) is_end is = absurd is_end

put_clear : (names : Table) (left : List ℕ) (r : Relation) (right : List ℕ) (term : Term) → IsPut term
    → Means names left r right term → Clear left
put_clear names left r right (terms.Put digits relation) is_put is = out_clear left is.0
put_clear names left r right (terms.Ended harts relation n) is_put is = absurd is_put
put_clear names left r right (terms.Stopped harts relation c) is_put is = absurd is_put
put_clear names left r right (terms.Holds asked relation v) is_put is = absurd is_put

-- what stands behind `<` is a number, which has no equals sign
value_plain : (right : List ℕ) (v : ℕ) → SpellsValue right v → Skips 61 right
value_plain right v is = value_skips 61 v right equals is

end_below : (names : Table) (left : List ℕ) (r : Relation) (right : List ℕ) (term : Term) → IsOfEnd term
    → Means names left r right term → r ≡ Below → Skips 61 right
end_below names left r right (terms.Ended harts relation n) is_end is below = value_plain right n is.1
end_below names left r right (terms.Stopped harts relation c) is_end is below =
    let never : is_equality Below ≡ true = subst (λ q. is_equality q ≡ true) below is.3 in cc
end_below names left r right (terms.Holds asked relation v) is_end is below = absurd is_end
end_below names left r right (terms.Put digits relation) is_end is below = absurd is_end

put_below : (names : Table) (left : List ℕ) (r : Relation) (right : List ℕ) (term : Term) → IsPut term
    → Means names left r right term → r ≡ Below → Skips 61 right
put_below names left r right (terms.Put digits relation) is_put is below =
    let never : is_equality Below ≡ true = subst (λ q. is_equality q ≡ true) below is.5 in cc
put_below names left r right (terms.Ended harts relation n) is_put is below = absurd is_put
put_below names left r right (terms.Stopped harts relation c) is_put is below = absurd is_put
put_below names left r right (terms.Holds asked relation v) is_put is below = absurd is_put

-- ---- the whole term

pub term_found : (names : Table) (text inner left right : List ℕ) (r : Relation) (term : Term) → inner ≡ trimmed text
    → inner ≡ left ++ (sign r ++ right) → Means names left r right term → SaysTerm names text term
term_found names text inner left right r term is cut means = record {
  left = left;
  relation = r;
  right = right;
  spelled = sym is ∙ cut;
  means = means;
}

pub holds_found : (names : Table) (text inner left right : List ℕ) (r : Relation) (read : Result Term Expected)
    → inner ≡ trimmed text → inner ≡ left ++ (sign r ++ right) → IfOk read (Means names left r right)
    → IfOk read (SaysTerm names text)
holds_found names text inner left right r (Ok term) is cut means =
    term_found names text inner left right r term is cut means
holds_found names text inner left right r (Err expected) is cut means = tt

-- a text without a sign
pub uncut_none : (names : Table) (text inner : List ℕ) → inner ≡ trimmed text → place_outside false 61 inner ≡ None
    → place_outside false 60 inner ≡ None → IsNoTerm names text expected.Term
uncut_none names text inner is none no_below left r right cut =
    let never : Clear left → ⊥ = λ clear. no_sign inner left right r none no_below clear (is ∙ cut) in (
      λ term is_end means. never (end_clear names left r right term is_end means),
      λ term is_put means. never (put_clear names left r right term is_put means),
      (
        λ one value spells says. never (spelled_clear left one spells),
        λ placed asks. never (place_clear left placed asks.spelled),
      ),
    )

-- a text that is cut at one: nothing is meant where it is cut, so nothing is meant at all
moved : (names : Table) (left lead : List ℕ) (r q : Relation) (right behind : List ℕ) (term : Term)
    → (left ≡ lead) × (r ≡ q) × (right ≡ behind) → Means names lead q behind term → Means names left r right term
moved names left lead r q right behind term same means =
    subst (λ t. Means names left r t term) (sym same.2)
    (subst (λ s. Means names left s behind term) (sym same.1)
    (subst (λ t. Means names t q behind term) (sym same.0) means))

cut_none : (names : Table) (text inner left right : List ℕ) (r : Relation) → inner ≡ trimmed text
    → inner ≡ left ++ (sign r ++ right) → IsFirstSign r left inner → MeansNothing names left r right expected.Term
    → IsNoTerm names text expected.Term
cut_none names text inner left right r is cut first nothing lead q behind other =
    let same : Clear lead → (q ≡ Below → Skips 61 behind) → (left ≡ lead) × (r ≡ q) × (right ≡ behind) =
    λ clear skips. same_cut inner left right lead behind r q cut first clear skips (is ∙ other) in (
      λ term is_end means. nothing.0 term is_end (moved names left lead r q right behind term
          (same (end_clear names lead q behind term is_end means) (end_below names lead q behind term is_end means))
          means),
      λ term is_put means. nothing.1 term is_put (moved names left lead r q right behind term
          (same (put_clear names lead q behind term is_put means) (put_below names lead q behind term is_put means))
          means),
      (
        λ one value spells says.
            let both = same (spelled_clear lead one spells) (λ below. value_plain behind value says) in
            nothing.2.0 one value (subst (λ t. Spells t one) (sym both.0) spells)
            (subst (λ t. SpellsValue t value) (sym both.2) says),
        λ placed asks.
            let both = same (place_clear lead placed asks.spelled) (λ below. value_plain behind asks.value asks.said) in
            nothing.2.1 placed (record {
              spelled = subst (λ t. SpellsPlaced t placed) (sym both.0) asks.spelled;
              value = asks.value;
              said = subst (λ t. SpellsValue t asks.value) (sym both.2) asks.said;
            }),
      ),
    )

term_none : (names : Table) (text inner left right : List ℕ) (r : Relation) (refused : Expected)
    → inner ≡ trimmed text → inner ≡ left ++ (sign r ++ right) → IsFirstSign r left inner
    → MeansNothing names left r right refused → IsNoTerm names text refused
term_none names text inner left right r expected.Term is cut first nothing =
    cut_none names text inner left right r is cut first nothing
term_none names text inner left right r refused is cut first nothing = (left, r, right, sym is ∙ cut, nothing)

pub holds_none : (names : Table) (text inner left right : List ℕ) (r : Relation) (read : Result Term Expected)
    → inner ≡ trimmed text → inner ≡ left ++ (sign r ++ right) → IsFirstSign r left inner
    → ((term : Term) → IsOfEnd term → Means names left r right term → ⊥)
    → ((term : Term) → IsPut term → Means names left r right term → ⊥)
    → IfErr read (HoldsNothing names left right) → IfErr read (IsNoTerm names text)
holds_none names text inner left right r (Ok term) is cut first no_end no_put nothing = tt
holds_none names text inner left right r (Err refused) is cut first no_end no_put nothing =
    term_none names text inner left right r refused is cut first (no_end, no_put, nothing)

-- ---- what is watched and a number

pub no_value : (names : Table) (left right : List ℕ) → ((value : ℕ) → SpellsValue right value → ⊥)
    → HoldsNothing names left right expected.Term
no_value names left right none = (λ one value spells says. none value says, λ placed asks. none asks.value asks.said)

pub unnamed_holds : (names : Table) (left right : List ℕ) (value : ℕ) (refused : Expected) → SpellsValue right value
    → IsUnnamed names left refused → HoldsNothing names left right (of_term refused)
unnamed_holds names left right value expected.Watched says is =
    (λ one value spells says. is.0 one spells, λ placed asks. is.1 placed asks.spelled)
unnamed_holds names left right value expected.Term says is = absurd is.2
unnamed_holds names left right value refused says is =
    (is.0, record { spelled = is.1; value = value; said = says }, is.2)

-- ---- a part of a list that is refused

pub unnamed_part : (names : Table) (part : List ℕ) (count : ℕ) (refused : Expected) → IsUnnamed names part refused
    → IsPartRefused (Asks names) (IsUnnamed names) count part refused
unnamed_part names part count expected.End is = absurd is.2
unnamed_part names part count refused is = is
