use Rattle.std.proofs.Common.{◌≡◌, ◌<◌, ℕ}
use Rattle.symbols.specs.Sections.{section_type}
use Rattle.symbols.proofs.sections.symbol_section.Given as goal

abbrev pub invariant-loop-number : goal.invariant-loop-number
invariant-loop-number l = (m : ℕ) → m < l.number → section_type l.file m ≡ 2 → ⊥
