-- Fields one behind the other, and the end of the text: what is read is spelled so, and what is spelled so is read.
use Rattle.std.proofs.Common.{◌≡◌, ℕ, cond, ◌==◌, List, [], ◌++◌, length, Ok, Err, refl, sym, ◌∙◌, ap, subst}
use Rattle.std.proofs.Common.{append_assoc}
use Rattle.std.proofs.{lemmas.Bool.eqb-true, lemmas.List.append-nil, lemmas.List.nil_from_length}
use Rattle.rv_text.specs.declared.refused.TextRefused.TheVariants.{TrailingText}
use Rattle.rv_text.specs.Reading.{◌>>=◌, Field, text_after, end_at, two_fields, three_fields}
use Rattle.rv_text.proofs.FieldLaws.{bind_ok, guard_ok, ok_is, IsField, text_after_takes, text_after_again}

-- ---- the end

pub end_at_takes : (suffix text : List ℕ) (u : Unit {0}) → end_at suffix text ≡ Ok u → text ≡ suffix
unfolding end_at
end_at_takes suffix text u e =
    let a = bind_ok (text_after suffix text) (λ rest. cond (length rest == 0) (Ok tt) (Err TrailingText)) u e in
    let g = guard_ok (length a.0 == 0) TrailingText tt u a.2 in
    text_after_takes suffix text a.0 a.1
    ∙ ap (λ (rest : List ℕ). suffix ++ rest) (nil_from_length a.0 (eqb-true (length a.0) 0 g.0)) ∙ append-nil suffix

pub end_at_again : (suffix : List ℕ) → end_at suffix suffix ≡ Ok tt
unfolding end_at
end_at_again suffix =
    let nothing : text_after suffix suffix ≡ Ok [] =
    ap (text_after suffix) (sym (append-nil suffix)) ∙ text_after_again suffix [] in
    rw nothing refl

-- ---- two fields, and three: f, g and h read what sf, sg and sh spell

regroup : (a b c d : List ℕ) → ((a ++ b) ++ c) ++ d ≡ a ++ (b ++ (c ++ d))
regroup a b c d = append_assoc (a ++ b) c d ∙ append_assoc a b (c ++ d)

-- what stands behind the front, in other words
link : (front text rest more : List ℕ) → text ≡ front ++ rest → rest ≡ more → text ≡ front ++ more
link front text rest more e f = e ∙ ap (λ (r : List ℕ). front ++ r) f

-- three fields and the end, each behind the one before
chained : (a b c suffix text rest more last : List ℕ) → text ≡ a ++ rest → rest ≡ b ++ more → more ≡ c ++ last
    → last ≡ suffix
    → text ≡ ((a ++ b) ++ c) ++ suffix
chained a b c suffix text rest more last e f g h =
    link a text rest (b ++ (c ++ suffix)) e (link b rest more (c ++ suffix) f (link c more last suffix g h))
    ∙ sym (regroup a b c suffix)

pub two_takes : {A B : Type 0} {sf : A → List ℕ} {sg : B → List ℕ} {Ff : A → Type 0} {Fg : B → Type 0}
    {Ef Eg : List ℕ → Type 0} {f : Field A} {g : Field B}
    → IsField sf Ff Ef f → IsField sg Fg Eg g → (suffix text : List ℕ) (x : A × B) → two_fields f g suffix text ≡ Ok x
    → (text ≡ (sf x.0 ++ sg x.1) ++ suffix) × Ff x.0 × Fg x.1
unfolding two_fields
two_takes {A} {B} {sf} {sg} {Ff} {Fg} {Ef} {Eg} {f} {g} p q suffix text x e =
    let a = bind_ok (f text) (λ a. g a.1 >>= λ b. end_at suffix b.1 >>= λ end. Ok (a.0, b.0)) x e in
    let b = bind_ok (g a.0.1) (λ b. end_at suffix b.1 >>= λ end. Ok (a.0.0, b.0)) x a.2 in
    let c = bind_ok (end_at suffix b.0.1) (λ end. Ok (a.0.0, b.0.0)) x b.2 in
    let t = p.takes text a.0 a.1 in
    let u = q.takes a.0.1 b.0 b.1 in
    let v = end_at_takes suffix b.0.1 c.0 c.1 in
    let made : A × B = (a.0.0, b.0.0) in
    subst (λ (y : A × B). (text ≡ (sf y.0 ++ sg y.1) ++ suffix) × Ff y.0 × Fg y.1) (ok_is made x c.2) (
      link (sf a.0.0) text a.0.1 (sg b.0.0 ++ suffix) t.0 (link (sg b.0.0) a.0.1 b.0.1 suffix u.0 v)
          ∙ sym (append_assoc (sf a.0.0) (sg b.0.0) suffix),
      t.1,
      u.1,
    )

pub two_again : {A B : Type 0} {sf : A → List ℕ} {sg : B → List ℕ} {Ff : A → Type 0} {Fg : B → Type 0}
    {Ef Eg : List ℕ → Type 0} {f : Field A} {g : Field B}
    → IsField sf Ff Ef f → IsField sg Fg Eg g → (suffix : List ℕ) (a : A) (b : B) → Ff a → Fg b
    → Ef (sg b ++ suffix) → Eg suffix
    → two_fields f g suffix ((sf a ++ sg b) ++ suffix) ≡ Ok (a, b)
unfolding two_fields
two_again {A} {B} {sf} {sg} p q suffix a b fa fb ea eb =
    rw (
      append_assoc (sf a) (sg b) suffix,
      p.again a (sg b ++ suffix) fa ea,
      q.again b suffix fb eb,
      end_at_again suffix,
    ) refl

pub three_takes : {A B C : Type 0} {sf : A → List ℕ} {sg : B → List ℕ} {sh : C → List ℕ} {Ff : A → Type 0}
    {Fg : B → Type 0} {Fh : C → Type 0} {Ef Eg Eh : List ℕ → Type 0}
    {f : Field A} {g : Field B} {h : Field C} → IsField sf Ff Ef f → IsField sg Fg Eg g → IsField sh Fh Eh h
    → (suffix text : List ℕ) (x : A × B × C) → three_fields f g h suffix text ≡ Ok x
    → (text ≡ ((sf x.0 ++ sg x.1) ++ sh x.2) ++ suffix) × Ff x.0 × Fg x.1 × Fh x.2
unfolding three_fields
three_takes {A} {B} {C} {sf} {sg} {sh} {Ff} {Fg} {Fh} {Ef} {Eg} {Eh} {f} {g} {h} p q r suffix text x e =
    let a = bind_ok (f text) (λ a. g a.1 >>= λ b. h b.1 >>= λ c. end_at suffix c.1 >>= λ end. Ok (a.0, b.0, c.0)) x e in
    let b = bind_ok (g a.0.1) (λ b. h b.1 >>= λ c. end_at suffix c.1 >>= λ end. Ok (a.0.0, b.0, c.0)) x a.2 in
    let c = bind_ok (h b.0.1) (λ c. end_at suffix c.1 >>= λ end. Ok (a.0.0, b.0.0, c.0)) x b.2 in
    let d = bind_ok (end_at suffix c.0.1) (λ end. Ok (a.0.0, b.0.0, c.0.0)) x c.2 in
    let t = p.takes text a.0 a.1 in
    let u = q.takes a.0.1 b.0 b.1 in
    let v = r.takes b.0.1 c.0 c.1 in
    let w = end_at_takes suffix c.0.1 d.0 d.1 in
    let made : A × B × C = (a.0.0, b.0.0, c.0.0) in
    subst (λ (y : A × B × C). (text ≡ ((sf y.0 ++ sg y.1) ++ sh y.2) ++ suffix) × Ff y.0 × Fg y.1 × Fh y.2) {x = made}
    (ok_is made x d.2) (
      chained (sf a.0.0) (sg b.0.0) (sh c.0.0) suffix text a.0.1 b.0.1 c.0.1 t.0 u.0 v.0 w,
      t.1,
      u.1,
      v.1,
    )

pub three_again : {A B C : Type 0} {sf : A → List ℕ} {sg : B → List ℕ} {sh : C → List ℕ} {Ff : A → Type 0}
    {Fg : B → Type 0} {Fh : C → Type 0} {Ef Eg Eh : List ℕ → Type 0}
    {f : Field A} {g : Field B} {h : Field C} → IsField sf Ff Ef f → IsField sg Fg Eg g → IsField sh Fh Eh h
    → (suffix : List ℕ) (a : A) (b : B) (c : C) → Ff a → Fg b → Fh c → Ef (sg b ++ (sh c ++ suffix))
    → Eg (sh c ++ suffix) → Eh suffix
    → three_fields f g h suffix (((sf a ++ sg b) ++ sh c) ++ suffix) ≡ Ok (a, b, c)
unfolding three_fields
three_again {A} {B} {C} {sf} {sg} {sh} p q r suffix a b c fa fb fc ea eb ec =
    rw (
      regroup (sf a) (sg b) (sh c) suffix,
      p.again a (sg b ++ (sh c ++ suffix)) fa ea,
      q.again b (sh c ++ suffix) fb eb,
      r.again c suffix fc ec,
      end_at_again suffix,
    ) refl

-- the same where nothing stands behind the last field
pub two_alone_takes : {A B : Type 0} {sf : A → List ℕ} {sg : B → List ℕ} {Ff : A → Type 0} {Fg : B → Type 0}
    {Ef Eg : List ℕ → Type 0} {f : Field A} {g : Field B}
    → IsField sf Ff Ef f → IsField sg Fg Eg g → (text : List ℕ) (x : A × B) → two_fields f g [] text ≡ Ok x
    → (text ≡ sf x.0 ++ sg x.1) × Ff x.0 × Fg x.1
two_alone_takes {A} {B} {sf} {sg} p q text x e =
    let t = two_takes p q [] text x e in
    (t.0 ∙ append-nil (sf x.0 ++ sg x.1), t.1, t.2)

pub two_alone_again : {A B : Type 0} {sf : A → List ℕ} {sg : B → List ℕ} {Ff : A → Type 0} {Fg : B → Type 0}
    {Ef Eg : List ℕ → Type 0} {f : Field A} {g : Field B}
    → IsField sf Ff Ef f → IsField sg Fg Eg g → (a : A) (b : B) → Ff a → Fg b → Ef (sg b ++ []) → Eg []
    → two_fields f g [] (sf a ++ sg b) ≡ Ok (a, b)
two_alone_again {A} {B} {sf} {sg} {Ff} {Fg} {Ef} {Eg} {f} {g} p q a b fa fb ea eb =
    ap (two_fields f g []) (sym (append-nil (sf a ++ sg b))) ∙ two_again p q [] a b fa fb ea eb

pub three_alone_takes : {A B C : Type 0} {sf : A → List ℕ} {sg : B → List ℕ} {sh : C → List ℕ} {Ff : A → Type 0}
    {Fg : B → Type 0} {Fh : C → Type 0} {Ef Eg Eh : List ℕ → Type 0}
    {f : Field A} {g : Field B} {h : Field C} → IsField sf Ff Ef f → IsField sg Fg Eg g → IsField sh Fh Eh h
    → (text : List ℕ) (x : A × B × C) → three_fields f g h [] text ≡ Ok x
    → (text ≡ (sf x.0 ++ sg x.1) ++ sh x.2) × Ff x.0 × Fg x.1 × Fh x.2
three_alone_takes {A} {B} {C} {sf} {sg} {sh} p q r text x e =
    let t = three_takes p q r [] text x e in
    (t.0 ∙ append-nil ((sf x.0 ++ sg x.1) ++ sh x.2), t.1, t.2, t.3)

pub three_alone_again : {A B C : Type 0} {sf : A → List ℕ} {sg : B → List ℕ} {sh : C → List ℕ} {Ff : A → Type 0}
    {Fg : B → Type 0} {Fh : C → Type 0} {Ef Eg Eh : List ℕ → Type 0}
    {f : Field A} {g : Field B} {h : Field C} → IsField sf Ff Ef f → IsField sg Fg Eg g → IsField sh Fh Eh h
    → (a : A) (b : B) (c : C) → Ff a → Fg b → Fh c → Ef (sg b ++ (sh c ++ [])) → Eg (sh c ++ []) → Eh []
    → three_fields f g h [] ((sf a ++ sg b) ++ sh c) ≡ Ok (a, b, c)
three_alone_again {A} {B} {C} {sf} {sg} {sh} {Ff} {Fg} {Fh} {Ef} {Eg} {Eh} {f} {g} {h} p q r a b c fa fb fc ea eb ec =
    ap (three_fields f g h []) (sym (append-nil ((sf a ++ sg b) ++ sh c)))
    ∙ three_again p q r [] a b c fa fb fc ea eb ec
