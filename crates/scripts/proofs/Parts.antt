-- Lemmas on a text that is cut at the first byte of a kind.
use Rattle.std.proofs.Common.{Some, None, ◌≡◌, ◌≢◌, ◌==◌, ◌≤◌, ◌<◌, ◌+◌, true, false, ℕ, suc, List, [], ◌∷◌, ◌++◌}
use Rattle.std.proofs.Common.{length, take, drop, drop-cons, add-one, refl, sym, ap, ◌∙◌, arith}
use Rattle.std.specs.List.{All, position, position_or_len}
use Rattle.std.proofs.lemmas.List.{get_or-take, take-append-drop}
use Rattle.std.proofs.{lemmas.List.Sums.fails_before_first, lemmas.List.Quantifiers.position-Some}
use Rattle.std.proofs.lemmas.Bool.Decides.{nat_tests}
use Rattle.std.proofs.lemmas.Grind.{common_steps}

pub apart : {A B : Type 0} (x : A) → None ≡ Some x → B
apart x e = cc

pub same_value : {A : Type 0} (x y : A) → Some x ≡ Some y → x ≡ y
same_value x y e = cc

abbrev pub Lacks : ℕ → List ℕ → Type 0
Lacks byte text = All (λ b. b ≢ byte) text

lacks_head : (byte x : ℕ) (xs : List ℕ) → Lacks byte (x ∷ xs) → x ≢ byte
lacks_head byte x xs h = h 0 0 (grind arith)

lacks_tail : (byte x : ℕ) (xs : List ℕ) → Lacks byte (x ∷ xs) → Lacks byte xs
lacks_tail byte x xs h = λ k d inside. h (suc k) d (grind (arith, inside))

-- such a text has the byte
pub has_byte : (byte : ℕ) (text left right : List ℕ) → text ≡ left ++ byte ∷ right → Lacks byte text → ⊥
has_byte byte text left right e h =
    rw e at h (length left) 0 (grind (arith, common_steps)) (grind (arith, common_steps))

-- and it is cut there in one way
pub same_parts : (byte : ℕ) (l r m s : List ℕ) → l ++ byte ∷ r ≡ m ++ byte ∷ s → Lacks byte l → Lacks byte m
    → (l ≡ m) × (r ≡ s)
same_parts byte [] r [] s e hl hm = (cc, cc)
same_parts byte [] r (y ∷ m) s e hl hm = let head : y ≡ byte = cc in absurd (lacks_head byte y m hm head)
same_parts byte (x ∷ l) r [] s e hl hm = let head : x ≡ byte = cc in absurd (lacks_head byte x l hl head)
same_parts byte (x ∷ l) r (y ∷ m) s e hl hm =
    let tail : l ++ byte ∷ r ≡ m ++ byte ∷ s = cc in
    let more = same_parts byte l r m s tail (lacks_tail byte x l hl) (lacks_tail byte y m hm) in
    let head : x ≡ y = cc in
    (cc, more.1)

-- where the first byte of a kind stands, a text is cut; and a text without such a place lacks the byte
same_byte : (b byte : ℕ) → (b == byte) ≡ true → b ≡ byte
same_byte b byte is = grind (arith, nat_tests)

other_byte : (b byte : ℕ) → (b == byte) ≡ false → b ≢ byte
other_byte b byte is = λ same. grind (arith, nat_tests)

pub cut_there : (byte : ℕ) (text : List ℕ) (place : ℕ) → position (λ b. b == byte) text ≡ Some place
    → text ≡ take place text ++ byte ∷ drop (place + 1) text
cut_there byte text place is =
    let found = position-Some (λ b. b == byte) text place 0 is in
    let here = same_byte _ byte found.1 in
    let more : drop place text ≡ byte ∷ drop (place + 1) text = rw (drop-cons text place 0 found.0, here, add-one) refl in
    sym (take-append-drop place text) ∙ ap (λ rest. take place text ++ rest) more

pub lacks_before : (byte : ℕ) (text : List ℕ) (place : ℕ) → position (λ b. b == byte) text ≡ Some place
    → Lacks byte (take place text)
lacks_before byte text place is = λ k d inside.
    let found = position-Some (λ b. b == byte) text place d is in
    let before : k < place = grind (arith, common_steps, inside) in
    rw (get_or-take place text k d before) (other_byte _ byte (found.2 k before))

pub lacks_all : (byte : ℕ) (text : List ℕ) → position (λ b. b == byte) text ≡ None → Lacks byte text
lacks_all byte text is = λ k d inside.
    other_byte _ byte (fails_before_first (λ b. b == byte) text k d
    (let far : length text ≤ position_or_len (λ b. b == byte) text = grind (arith, nat_tests) in omega (arith, inside, far)))
