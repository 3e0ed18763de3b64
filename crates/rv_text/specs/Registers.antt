-- The names of registers: x and the number, and those of the calling convention (the RISC-V psABI, its
-- table of integer registers).
use Rattle.std.specs.Prelude.{◌≡◌, ◌⊎◌, ℕ, ◌-◌, ◌≤◌, nat_lt, ◌==◌, if◌then◌else◌, List, ◌∷◌, codes}
use Rattle.std.specs.Fmt.{decimal}

-- A letter and a number.
abbrev pub lettered : ℕ → ℕ → List ℕ
lettered letter number = letter ∷ decimal number

abbrev pub x_name : ℕ → List ℕ
x_name register = lettered 120 register

-- The return address, and the pointers to the stack, to the globals and to the thread.
unfoldable pub pointer_name : ℕ → List ℕ
pointer_name register =
    if register == 1 then codes "ra" else (if register == 2 then codes "sp"
    else (if register == 3 then codes "gp" else codes "tp"))

-- Behind them t0 to t2, s0 and s1, a0 to a7, s2 to s11, and t3 to t6.
unfoldable pub abi_name : ℕ → List ℕ
abi_name register =
    if nat_lt register 5 then pointer_name register
    else (if nat_lt register 8 then lettered 116 (register - 5)
    else (if nat_lt register 10 then lettered 115 (register - 8)
    else (if nat_lt register 18 then lettered 97 (register - 10)
    else (if nat_lt register 28 then lettered 115 (register - 16)
    else lettered 116 (register - 25)))))

-- The text is a name of the register, x1 to x31.
pub record IsNameOf (register : ℕ) (text : List ℕ) : Type 0 where
  pub first : 1 ≤ register
  pub last : register ≤ 31
  pub name : (text ≡ abi_name register) ⊎ (text ≡ x_name register)
