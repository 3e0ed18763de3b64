-- What names are: harts, the first of all that their bytes spell, and atomics with a dot between their ordering bits.
use Rattle.std.proofs.Common.{◌≡◌, ℕ, ◌-◌, ◌^◌, ◌<◌, ◌≤◌, ◌==◌, List, [], ◌∷◌, ◌++◌, length, Ok, Err, ap, sym, refl, ◌∙◌, arith, length-append}
use Rattle.std.specs.{Fmt.decimal, List.position_or_len, Prelude.codes}
use Rattle.text_fields.specs.{declared.read.FieldError.FieldError, Reading.decimal_field}
use Rattle.text_fields.proofs.{DecimalLaws.decimal_field-decimal, DecimalLaws.decimal_field_only}
use Rattle.rv_word.specs.declared.amo_kind.AmoKind.TheVariants as kinds
use Rattle.rv_text.specs.declared.mnemonic.{Mnemonic.Mnemonic as Row, AtomicOp.AtomicOp}
use Rattle.rv_text.specs.declared.mnemonic.Mnemonic.TheVariants as row_of
use Rattle.rv_text.specs.declared.mnemonic.AtomicOp.TheVariants.{Amo}
use Rattle.rv_text.specs.Mnemonic.{atomic_name}
use Rattle.litmus_tests.specs.declared.number_type.NumberType.{NumberType}
use Rattle.litmus_words.specs.declared.{mnemonic.Mnemonic.Mnemonic, word.Mark.Mark}
use Rattle.litmus_words.specs.declared.word.Token.{Token}
use Rattle.litmus_words.specs.declared.word.Token.TheVariants as token
use Rattle.litmus_words.specs.Mnemonics.{HasDotBetween, IsNamed}
use Rattle.litmus_words.specs.Words.{IsKeywordNamed, IsNameToken, IsRegisterNamed, IsTypeNamed, SpellsToken, rank}

same_rest : (a b : ℕ) (xs ys : List ℕ) → a ∷ xs ≡ b ∷ ys → xs ≡ ys
same_rest a b xs ys e = cc

same_first : (a b : ℕ) (xs ys : List ℕ) → a ∷ xs ≡ b ∷ ys → a ≡ b
same_first a b xs ys e = cc

pub hart_is : (name digits : List ℕ) (letter hart : ℕ) → name ≡ letter ∷ digits → letter ≡ 80
    → Ok hart ≡ decimal_field (2 ^ 32 - 1) digits → name ≡ 80 ∷ decimal hart
hart_is name digits letter hart cut is read =
    let number = decimal_field_only (2 ^ 32 - 1) hart digits (grind arith) (sym read) in
    cut ∙ ap (λ (l : ℕ). l ∷ digits) is ∙ ap (λ (t : List ℕ). 80 ∷ t) number.1

pub no_hart : (name digits : List ℕ) (letter : ℕ) (fault : FieldError) → name ≡ letter ∷ digits
    → Err fault ≡ decimal_field (2 ^ 32 - 1) digits → (hart : ℕ) → hart < 2 ^ 32 → name ≡ 80 ∷ decimal hart → ⊥
no_hart name digits letter fault cut read hart small is =
    let same : digits ≡ decimal hart = same_rest letter 80 digits (decimal hart) (sym cut ∙ is) in
    let field = decimal_field-decimal (2 ^ 32 - 1) hart (omega (arith, small)) (grind arith) in
    let both : Err fault ≡ Ok hart = read ∙ ap (decimal_field (2 ^ 32 - 1)) same ∙ field in cc

pub no_letter : (name digits : List ℕ) (letter : ℕ) → name ≡ letter ∷ digits → (letter ≡ 80 → ⊥) → (hart : ℕ)
    → name ≡ 80 ∷ decimal hart → ⊥
no_letter name digits letter cut other hart is = other (same_first letter 80 digits (decimal hart) (sym cut ∙ is))

-- what comes first of all that a name's bytes spell
pub names_register : (name : List ℕ) (register : ℕ) → IsRegisterNamed name register
    → IsNameToken name (token.Register register)
names_register name register is = record { spelled = is; first = λ other spelled. omega arith }

behind_registers : (name : List ℕ) → ((r : ℕ) → IsRegisterNamed name r → ⊥) → (other : Token)
    → SpellsToken name other → 1 ≤ rank other
behind_registers name none (token.Register r) is = absurd (none r is)
behind_registers name none _ is = omega arith

pub names_keyword : (name : List ℕ) (mark : Mark) → ((r : ℕ) → IsRegisterNamed name r → ⊥) → IsKeywordNamed name mark
    → IsNameToken name (token.Mark mark)
names_keyword name mark none is = record { spelled = is; first = behind_registers name none }

behind_keywords : (name : List ℕ) → ((r : ℕ) → IsRegisterNamed name r → ⊥) → ((m : Mark) → IsKeywordNamed name m → ⊥)
    → (other : Token) → SpellsToken name other → 2 ≤ rank other
behind_keywords name none none' (token.Register r) is = absurd (none r is)
behind_keywords name none none' (token.Mark m) is = absurd (none' m is)
behind_keywords name none none' _ is = omega arith

pub names_type : (name : List ℕ) (t : NumberType) → ((r : ℕ) → IsRegisterNamed name r → ⊥)
    → ((m : Mark) → IsKeywordNamed name m → ⊥) → IsTypeNamed name t → IsNameToken name (token.Type t)
names_type name t none none' is = record { spelled = is; first = behind_keywords name none none' }

behind_types : (name : List ℕ) → ((r : ℕ) → IsRegisterNamed name r → ⊥) → ((m : Mark) → IsKeywordNamed name m → ⊥)
    → ((t : NumberType) → IsTypeNamed name t → ⊥) → (other : Token) → SpellsToken name other → 3 ≤ rank other
behind_types name none none' none'' (token.Register r) is = absurd (none r is)
behind_types name none none' none'' (token.Mark m) is = absurd (none' m is)
behind_types name none none' none'' (token.Type t) is = absurd (none'' t is)
behind_types name none none' none'' _ is = omega arith

pub names_instruction : (name : List ℕ) (mnemonic : Mnemonic) → ((r : ℕ) → IsRegisterNamed name r → ⊥)
    → ((m : Mark) → IsKeywordNamed name m → ⊥) → ((t : NumberType) → IsTypeNamed name t → ⊥) → IsNamed name mnemonic
    → IsNameToken name (token.Mnemonic mnemonic)
names_instruction name mnemonic none none' none'' is =
    record { spelled = is; first = behind_types name none none' none'' }

behind_instructions : (name : List ℕ) → ((r : ℕ) → IsRegisterNamed name r → ⊥)
    → ((m : Mark) → IsKeywordNamed name m → ⊥) → ((t : NumberType) → IsTypeNamed name t → ⊥)
    → ((i : Mnemonic) → IsNamed name i → ⊥) → (other : Token) → SpellsToken name other → 4 ≤ rank other
behind_instructions name none none' none'' last (token.Register r) is = absurd (none r is)
behind_instructions name none none' none'' last (token.Mark m) is = absurd (none' m is)
behind_instructions name none none' none'' last (token.Type t) is = absurd (none'' t is)
behind_instructions name none none' none'' last (token.Mnemonic i) is = absurd (last i is)
behind_instructions name none none' none'' last _ is = omega arith

pub names_hart : (name : List ℕ) (hart : ℕ) → ((r : ℕ) → IsRegisterNamed name r → ⊥)
    → ((m : Mark) → IsKeywordNamed name m → ⊥) → ((t : NumberType) → IsTypeNamed name t → ⊥)
    → ((i : Mnemonic) → IsNamed name i → ⊥) → hart < 2 ^ 32 → name ≡ 80 ∷ decimal hart
    → IsNameToken name (token.Hart hart)
names_hart name hart none none' none'' last small is =
    record { spelled = (is, small); first = behind_instructions name none none' none'' last }

behind_harts : (name : List ℕ) → ((r : ℕ) → IsRegisterNamed name r → ⊥)
    → ((m : Mark) → IsKeywordNamed name m → ⊥) → ((t : NumberType) → IsTypeNamed name t → ⊥)
    → ((i : Mnemonic) → IsNamed name i → ⊥) → ((h : ℕ) → h < 2 ^ 32 → name ≡ 80 ∷ decimal h → ⊥) → (other : Token)
    → SpellsToken name other → 5 ≤ rank other
behind_harts name none none' none'' last no_hart (token.Register r) is = absurd (none r is)
behind_harts name none none' none'' last no_hart (token.Mark m) is = absurd (none' m is)
behind_harts name none none' none'' last no_hart (token.Type t) is = absurd (none'' t is)
behind_harts name none none' none'' last no_hart (token.Mnemonic i) is = absurd (last i is)
behind_harts name none none' none'' last no_hart (token.Hart h) is = absurd (no_hart h is.1 is.0)
behind_harts name none none' none'' last no_hart _ is = omega arith

pub names_nothing : (name : List ℕ) → ((r : ℕ) → IsRegisterNamed name r → ⊥)
    → ((m : Mark) → IsKeywordNamed name m → ⊥) → ((t : NumberType) → IsTypeNamed name t → ⊥)
    → ((i : Mnemonic) → IsNamed name i → ⊥) → ((h : ℕ) → h < 2 ^ 32 → name ≡ 80 ∷ decimal h → ⊥)
    → IsNameToken name token.Name
names_nothing name none none' none'' last no_hart =
    record { spelled = tt; first = behind_harts name none none' none'' last no_hart }

-- an atomic's name is what stands before its first dot
dot_place : (op : AtomicOp) (rest : List ℕ)
    → position_or_len (λ b. b == 46) (atomic_name op ++ 46 ∷ rest) ≡ length (atomic_name op)
dot_place (Amo kinds.Swap) rest = refl
dot_place (Amo _) rest = refl
dot_place _ rest = refl

same_front : (a b x y : List ℕ) → length a ≡ length b → a ++ x ≡ b ++ y → (a ≡ b) × (x ≡ y)
same_front [] [] x y long e = (refl, e)
same_front [] (b ∷ ys) x y long e = absurd (omega (arith, long))
same_front (a ∷ rest) [] x y long e = absurd (omega (arith, long))
same_front (a ∷ xs) (b ∷ ys) x y long e =
    let rest = same_front xs ys x y (omega (arith, long)) (same_rest a b (xs ++ x) (ys ++ y) e) in
    (ap (λ (l : ℕ). l ∷ xs) (same_first a b (xs ++ x) (ys ++ y) e) ∙ ap (λ (t : List ℕ). b ∷ t) rest.0, rest.1)

pub has_dot : (name : List ℕ) (row : Row) → HasDotBetween name row → (op : AtomicOp) × (name ≡ atomic_name op ++ 46 ∷ codes "w.aq.rl")
has_dot name (row_of.Atomic op ordering) h = (op, h.0)
has_dot name _ h = absurd h

pub no_dot : (name : List ℕ) (row : Row) → position_or_len (λ b. b == 46) name ≡ length name → HasDotBetween name row → ⊥
no_dot name row none h =
    let it = has_dot name row h in
    let place = ap (position_or_len (λ b. b == 46)) it.1 ∙ dot_place it.0 (codes "w.aq.rl") in
    let long = ap length it.1 ∙ length-append (atomic_name it.0) (46 ∷ codes "w.aq.rl") in
    absurd (omega (arith, none, place, long))

pub at_dot : (name stem bits : List ℕ) (row : Row) → name ≡ stem ++ 46 ∷ bits
    → position_or_len (λ b. b == 46) name ≡ length stem → HasDotBetween name row
    → (op : AtomicOp) × (stem ≡ atomic_name op) × (bits ≡ codes "w.aq.rl")
at_dot name stem bits row cut place h =
    let it = has_dot name row h in
    let there = ap (position_or_len (λ b. b == 46)) it.1 ∙ dot_place it.0 (codes "w.aq.rl") in
    let same = same_front stem (atomic_name it.0) (46 ∷ bits) (46 ∷ codes "w.aq.rl") (sym place ∙ there) (sym cut ∙ it.1) in
    (it.0, same.0, same_rest 46 46 bits (codes "w.aq.rl") same.1)
