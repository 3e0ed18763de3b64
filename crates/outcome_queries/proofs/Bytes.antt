-- The digits of bytes.
use Rattle.std.proofs.Common.{◌≡◌, ℕ, ◌+◌, ◌-◌, ◌^◌, ◌<◌, ◌≤◌, Bool, true, false, ◌==◌, List, [], ◌∷◌, ◌++◌, length, take, drop}
use Rattle.std.proofs.Common.{get_or, Ok, Err, refl, sym, ap, subst, ◌∙◌, arith, append_assoc, append-nil}
use Rattle.std.proofs.lemmas.List.{take-append-drop, take_all, take_more, flat_map_more, drop_more}
use Rattle.std.proofs.lemmas.Grind.{flat_map-append}
use Rattle.std.proofs.lemmas.Slice.Eq.{bytes_eq-Decides}
use Rattle.std.specs.{List.flat_map, Str.bytes_eq}
use Rattle.text_fields.specs.{Reading.hex_field, Spelling.hex}
use Rattle.text_fields.specs.declared.read.FieldError.{FieldError}
use Rattle.text_fields.proofs.{HexLaws.hex_field-hex, HexLaws.hex_field_only}

pub pair_found : (digits rest : List ℕ) (byte n : ℕ) → Ok n ≡ hex_field 2 (take 2 digits) → n ≡ byte
    → rest ≡ drop 2 digits → digits ≡ hex 2 byte ++ rest
pair_found digits rest byte n read same is =
    let number = hex_field_only 2 n (take 2 digits) (sym read) in
    sym (take-append-drop 2 digits) ∙ ap (λ (t : List ℕ). t ++ drop 2 digits) (number.1 ∙ ap (hex 2) same)
    ∙ ap (λ (t : List ℕ). hex 2 byte ++ t) (sym is)

pair_read : (digits others : List ℕ) (byte : ℕ) → byte < 256 → digits ≡ hex 2 byte ++ others
    → hex_field 2 (take 2 digits) ≡ Ok byte
pair_read digits others byte small is =
    ap (λ (t : List ℕ). hex_field 2 (take 2 t)) is ∙ hex_field-hex 2 byte (omega (arith, small))

pub no_pair : (digits others : List ℕ) (byte : ℕ) (error : FieldError) → byte < 256
    → Err error ≡ hex_field 2 (take 2 digits) → digits ≡ hex 2 byte ++ others → ⊥
no_pair digits others byte error small read is =
    let never : Err error ≡ Ok byte = read ∙ pair_read digits others byte small is in cc

pub other_pair : (digits others : List ℕ) (byte n : ℕ) → byte < 256 → Ok n ≡ hex_field 2 (take 2 digits)
    → (n ≡ byte → ⊥) → digits ≡ hex 2 byte ++ others → ⊥
other_pair digits others byte n small read other is =
    let same : Ok n ≡ Ok byte = read ∙ pair_read digits others byte small is in
    other (let both = same in cc)

-- a turn of the loop over the bytes
pub one_more : (bytes digits rest others : List ℕ) (i d : ℕ) → i < length bytes
    → digits ≡ flat_map (hex 2) (take i bytes) ++ rest → rest ≡ hex 2 (get_or bytes i d) ++ others
    → digits ≡ flat_map (hex 2) (take (i + 1) bytes) ++ others
one_more bytes digits rest others i d below so_far next =
    so_far ∙ ap (λ (t : List ℕ). flat_map (hex 2) (take i bytes) ++ t) next
    ∙ sym (append_assoc (flat_map (hex 2) (take i bytes)) (hex 2 (get_or bytes i d)) others)
    ∙ ap (λ (t : List ℕ). t ++ others) (flat_map_more (hex 2) [] (take i bytes) (get_or bytes i d)
    ∙ ap (flat_map (hex 2)) (sym (take_more bytes i d below)))

same_end : (a b c : List ℕ) → a ++ b ≡ a ++ c → b ≡ c
same_end [] b c is = is
same_end (x ∷ a) b c is = same_end a b c (let rest = is in cc)

-- what must stand behind the digits of so many
pub behind_so_many : (bytes digits rest : List ℕ) (i d : ℕ) → i < length bytes
    → digits ≡ flat_map (hex 2) (take i bytes) ++ rest → digits ≡ flat_map (hex 2) bytes
    → rest ≡ hex 2 (get_or bytes i d) ++ flat_map (hex 2) (drop (i + 1) bytes)
behind_so_many bytes digits rest i d below so_far whole =
    let cut : bytes ≡ take i bytes ++ (get_or bytes i d ∷ drop (i + 1) bytes) =
    sym (take-append-drop i bytes) ∙ ap (λ (t : List ℕ). take i bytes ++ t) (drop_more bytes i d below) in
    same_end (flat_map (hex 2) (take i bytes)) rest (flat_map (hex 2) (get_or bytes i d ∷ drop (i + 1) bytes))
    (sym so_far ∙ whole ∙ ap (flat_map (hex 2)) cut
    ∙ flat_map-append (hex 2) (take i bytes) (get_or bytes i d ∷ drop (i + 1) bytes))

pub all_bytes : (bytes digits rest : List ℕ) (i : ℕ) → length bytes ≤ i
    → digits ≡ flat_map (hex 2) (take i bytes) ++ rest → digits ≡ flat_map (hex 2) bytes ++ rest
all_bytes bytes digits rest i past is =
    subst (λ (t : List ℕ). digits ≡ flat_map (hex 2) t ++ rest) (take_all i bytes past) is

-- a test of two texts
told_by : (r b : Bool) (xs ys : List ℕ) → (b ≡ true → xs ≡ ys) → (xs ≡ ys → b ≡ true) → (r ≡ true → xs ≡ ys)
    → (r ≡ false → xs ≡ ys → ⊥) → r ≡ b
told_by true b xs ys is has same other = sym (has (same refl))
told_by false true xs ys is has same other = absurd (other refl (is refl))
told_by false false xs ys is has same other = refl

pub as_told : (xs ys : List ℕ) (r : Bool) → (r ≡ true → xs ≡ ys) → (r ≡ false → xs ≡ ys → ⊥) → r ≡ bytes_eq xs ys
as_told xs ys r same other =
    let decides = bytes_eq-Decides xs ys in told_by r (bytes_eq xs ys) xs ys decides.0 decides.1 same other
