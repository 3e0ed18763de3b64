-- How an order of harts is written (this project's own choice).
use Rattle.std.specs.Prelude.{◌≡◌, ℕ, ◌≤◌, List, ◌∷◌, ◌++◌, length}
use Rattle.std.specs.{List.AllZip, Fmt.decimal}
use Rattle.scripts.specs.{Script.pieces, declared.order.OrderRefused.OrderRefused}
use Rattle.scripts.specs.declared.order.OrderRefused.TheVariants as refused

-- The text spells the hart: a decimal number 0 to 255, without leading zeros.
pub record SpellsHart (text : List ℕ) (hart : ℕ) : Type 0 where
  pub in_range : hart ≤ 255
  pub spelled : text ≡ decimal hart

-- The text is an order of these harts: its pieces spell them, one after another.
abbrev pub IsOrder : List ℕ → List ℕ → Type 0
IsOrder text harts = AllZip SpellsHart (pieces text) harts

-- The n-th piece of the text, from 0, is the first that spells no hart.
pub record IsFirstNoHart (text : List ℕ) (n : ℕ) : Type 0 where
  pub before : List (List ℕ)
  pub misspelled : List ℕ
  pub after : List (List ℕ)
  pub parts : pieces text ≡ before ++ misspelled ∷ after
  pub place : n ≡ length before
  pub harts : List ℕ
  pub spelled : AllZip SpellsHart before harts
  pub spells_none : (hart : ℕ) → SpellsHart misspelled hart → ⊥

-- When each refusal comes.
abbrev pub IsOrderRefusedFor : List ℕ → OrderRefused → Type 0
IsOrderRefusedFor text (refused.Word n) = IsFirstNoHart text n
IsOrderRefusedFor text refused.Memory = Unit {0}
