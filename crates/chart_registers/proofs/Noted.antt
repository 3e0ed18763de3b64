-- The tables behind one more event.
use Rattle.std.specs.Prelude.{◌≡◌, ◌≢◌, ℕ, zero, suc, ◌<◌, ◌≤◌, true, false, ◌==◌, List, [], ◌∷◌, ◌++◌}
use Rattle.std.specs.Prelude.{length, set, slice_index_or, IfSome, Option, Some, None}
use Rattle.std.proofs.Common.{◌∙◌, refl, sym, ap, subst, inl, inr, arith, length-append}
use Rattle.std.proofs.lemmas.Bool.{Decides.nat_tests, cases_eq, cases_lt}
use Rattle.std.proofs.lemmas.List.{length-set, get_or-set_same, get_or-set_other}
use Rattle.events.specs.declared.event.Event.{Event}
use Rattle.events.specs.declared.event.Event.TheVariants.{Fetch, Decode, Rename, Issue, Complete, Drop, Retire, Refetch}
use Rattle.smt_model.specs.{Setup.Setup, Rules.is_legal, Rules.refused, Fates.fetches}
use Rattle.smt_model.specs.Registers.{holder}
use Rattle.smt_model.proofs.Fates.{Numbers.known_below, Moves.rename_was}
use Rattle.smt_laws.proofs.{Registers.Held.holder-Rename_other, Registers.Held.holder-Rename_own, Registers.Namings.taken}
use Rattle.chart_registers.specs.declared.registers.Registers.{Registers}
use Rattle.chart_registers.specs.Registers.{AreRegisters, found_by, registers}
use Rattle.chart_registers.specs.Finding.{AreHolders, HasRoom, holders_with}

-- ---- An event that neither fetches nor renames

abbrev pub IsOther : Event → Type 0
IsOther (Fetch actor hart seq pc word predicted) = ⊥
IsOther (Rename actor seq phys) = ⊥
IsOther _ = Unit {0}

pub other : (e : Event)
    → ((actor hart seq pc : ℕ) (word : Option ℕ) (predicted : ℕ) → e ≡ Fetch actor hart seq pc word predicted → ⊥)
    → ((actor seq : ℕ) (phys : Option ℕ) → e ≡ Rename actor seq phys → ⊥) → IsOther e
other (Fetch actor hart seq pc word predicted) not_fetch not_rename =
    not_fetch actor hart seq pc word predicted refl
other (Decode actor seq) not_fetch not_rename = tt
other (Rename actor seq phys) not_fetch not_rename = not_rename actor seq phys refl
other (Issue actor seq) not_fetch not_rename = tt
other (Complete actor seq outcome) not_fetch not_rename = tt
other (Drop actor seq) not_fetch not_rename = tt
other (Retire actor seq effect) not_fetch not_rename = tt
other (Refetch actor seq) not_fetch not_rename = tt

pub holders_kept : (e : Event) (past : List Event) (holders : List (Option ℕ)) → IsOther e → AreHolders past holders
    → AreHolders (e ∷ past) holders
holders_kept (Fetch actor hart seq pc word predicted) past holders is were = absurd is
holders_kept (Decode actor seq) past holders is were = were
holders_kept (Rename actor seq phys) past holders is were = absurd is
holders_kept (Issue actor seq) past holders is were = were
holders_kept (Complete actor seq outcome) past holders is were = were
holders_kept (Drop actor seq) past holders is were = were
holders_kept (Retire actor seq effect) past holders is were = were
holders_kept (Refetch actor seq) past holders is were = were

pub registers_kept : (e : Event) (past : List Event) (table : List (Option Registers)) → IsOther e
    → AreRegisters past table → AreRegisters (e ∷ past) table
registers_kept (Fetch actor hart seq pc word predicted) past table is were = absurd is
registers_kept (Decode actor seq) past table is were = record { count = were.count; each = were.each }
registers_kept (Rename actor seq phys) past table is were = absurd is
registers_kept (Issue actor seq) past table is were = record { count = were.count; each = were.each }
registers_kept (Complete actor seq outcome) past table is were = record { count = were.count; each = were.each }
registers_kept (Drop actor seq) past table is were = record { count = were.count; each = were.each }
registers_kept (Retire actor seq effect) past table is were = record { count = were.count; each = were.each }
registers_kept (Refetch actor seq) past table is were = record { count = were.count; each = were.each }

-- ---- A fetch

pub holders_fetched : (past : List Event) (actor hart seq pc : ℕ) (word : Option ℕ) (predicted : ℕ)
    (holders : List (Option ℕ)) → AreHolders past holders
    → AreHolders (Fetch actor hart seq pc word predicted ∷ past) holders
holders_fetched past actor hart seq pc word predicted holders were = were

renamed_below : (setup : Setup) (past : List Event) → is_legal setup past → (actor n : ℕ) (given : Option ℕ)
    → refused setup past (Rename actor n given) ≡ None → n < fetches past
renamed_below setup past legal actor n given ok =
    let was = rename_was setup past actor n given ok in known_below setup past legal n (omega arith)

unrenamed : (setup : Setup) (past : List Event) → is_legal setup past → (s : ℕ) → fetches past ≤ s
    → registers past s ≡ None
unrenamed setup [] legal s above = refl
unrenamed setup (Fetch actor hart seq pc word predicted ∷ past) legal s above =
    unrenamed setup past legal.1 s (omega (arith, above))
unrenamed setup (Decode actor seq ∷ past) legal s above = unrenamed setup past legal.1 s above
unrenamed setup (Rename actor seq phys ∷ past) legal s above =
    let under = renamed_below setup past legal.1 actor seq phys legal.0 in
    let apart : (seq == s) ≡ false = grind (arith, nat_tests) in
    rw apart (unrenamed setup past legal.1 s above)
unrenamed setup (Issue actor seq ∷ past) legal s above = unrenamed setup past legal.1 s above
unrenamed setup (Complete actor seq outcome ∷ past) legal s above = unrenamed setup past legal.1 s above
unrenamed setup (Drop actor seq ∷ past) legal s above = unrenamed setup past legal.1 s above
unrenamed setup (Retire actor seq effect ∷ past) legal s above = unrenamed setup past legal.1 s above
unrenamed setup (Refetch actor seq ∷ past) legal s above = unrenamed setup past legal.1 s above

older : (table : List (Option Registers)) (one d : Option Registers) (k : ℕ) → k < length table
    → slice_index_or (table ++ one ∷ []) k d ≡ slice_index_or table k d
older [] one d k under = absurd (omega (arith, under))
older (x ∷ table) one d zero under = refl
older (x ∷ table) one d (suc k) under = older table one d k (omega (arith, under))

newest : (table : List (Option Registers)) (one d : Option Registers)
    → slice_index_or (table ++ one ∷ []) (length table) d ≡ one
newest [] one d = refl
newest (x ∷ table) one d = newest table one d

pub registers_fetched : (setup : Setup) (past : List Event) → is_legal setup past
    → (actor hart seq pc : ℕ) (word : Option ℕ) (predicted : ℕ) (table : List (Option Registers))
    → AreRegisters past table → AreRegisters (Fetch actor hart seq pc word predicted ∷ past) (table ++ None ∷ [])
registers_fetched setup past legal actor hart seq pc word predicted table were = record {
  count = let count = were.count in let more = length-append table (None ∷ []) in omega (arith, count, more);
  each = λ s d under.
      elim (cases_lt s (length table)) [
        | inl before ↦ older table None d s before ∙ were.each s d before
        | inr behind ↦
            let count = were.count in
            let here : s ≡ length table =
            let more = length-append table (None ∷ []) in omega (arith, more, under, behind) in
            ap (λ k. slice_index_or (table ++ None ∷ []) k d) here
            ∙ (newest table None d ∙ sym (unrenamed setup past legal s (omega (arith, count, here))))
      ];
}

-- ---- A rename

some_same : (p q : ℕ) → Some p ≡ Some q → p ≡ q
some_same p q same = grind arith

none_some : (p : ℕ) → ◌≢◌ {A = Option ℕ} None (Some p)
none_some p same = absurd (grind arith)

pub holders_renamed : (setup : Setup) (past : List Event) → is_legal setup past → (actor n : ℕ) (given : Option ℕ)
    → refused setup past (Rename actor n given) ≡ None → (holders : List (Option ℕ)) → HasRoom setup holders
    → AreHolders past holders → AreHolders (Rename actor n given ∷ past) (holders_with given n holders)
holders_renamed setup past legal actor n None ok holders room were p =
    were p ∙ sym (holder-Rename_other setup past legal actor n None ok p (none_some p))
holders_renamed setup past legal actor n (Some q) ok holders room were p =
    let there : q < length holders = let range = (taken setup past actor n q ok).in_range in omega (arith, range, room) in
    elim (cases_eq p q) [
      | inl same ↦
          subst (λ x. slice_index_or (set holders q (Some n)) x None ≡ holder (Rename actor n (Some q) ∷ past) x)
          (sym same) (get_or-set_same holders q (Some n) None there ∙ sym (holder-Rename_own past actor n q))
      | inr apart ↦
          get_or-set_other holders q p (Some n) None apart
          ∙ (were p ∙ sym (holder-Rename_other setup past legal actor n (Some q) ok p
          (λ same. apart (sym (some_same q p same)))))
    ]

pub given_inside : (setup : Setup) (past : List Event) (actor n : ℕ) (given : Option ℕ)
    → refused setup past (Rename actor n given) ≡ None → (holders : List (Option ℕ)) → HasRoom setup holders
    → IfSome given (λ p. p < length holders)
given_inside setup past actor n None ok holders room = tt
given_inside setup past actor n (Some q) ok holders room =
    let range = (taken setup past actor n q ok).in_range in omega (arith, range, room)

pub renamed_inside : (setup : Setup) (past : List Event) → is_legal setup past → (actor n : ℕ) (given : Option ℕ)
    → refused setup past (Rename actor n given) ≡ None → (table : List (Option Registers)) → AreRegisters past table
    → n < length table
renamed_inside setup past legal actor n given ok table were =
    let count = were.count in let under = renamed_below setup past legal actor n given ok in omega (arith, count, under)

pub registers_renamed : (setup : Setup) (past : List Event) → is_legal setup past → (actor n : ℕ) (given : Option ℕ)
    → refused setup past (Rename actor n given) ≡ None → (table : List (Option Registers)) (found : Registers)
    → found ≡ found_by past actor n given → AreRegisters past table
    → AreRegisters (Rename actor n given ∷ past) (set table n (Some found))
registers_renamed setup past legal actor n given ok table found is were =
    let there = renamed_inside setup past legal actor n given ok table were in
    record {
      count = length-set table n (Some found) ∙ were.count;
      each = λ s d under.
          elim (cases_eq s n) [
            | inl same ↦
                let it : (n == s) ≡ true = grind (arith, nat_tests) in
                rw it (ap (λ k. slice_index_or (set table n (Some found)) k d) same
                ∙ (get_or-set_same table n (Some found) d there ∙ ap Some is))
            | inr apart ↦
                let it : (n == s) ≡ false = grind (arith, nat_tests) in
                rw it (get_or-set_other table n s (Some found) d apart
                ∙ were.each s d (let whole = length-set table n (Some found) in omega (arith, whole, under)))
          ];
    }
