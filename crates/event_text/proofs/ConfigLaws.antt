-- The line of a core is read as its sizes, and nothing else is.

use Rattle.std.proofs.Common.{◌≡◌, ℕ, suc, ◌+◌, ◌-◌, ◌^◌, ◌<◌, ◌≤◌, Bool, true, false, ◌||◌, cond, List, [], ◌∷◌, ◌++◌}
use Rattle.std.proofs.Common.{length, Result, Ok, Err, refl, subst, sym, ◌∙◌, ap, arith, append_assoc, lit<}
use Rattle.std.specs.{Prelude.codes, Prelude.nat_le, Prelude.nat_lt, Fmt.decimal, Str.bytes_eq}
use Rattle.std.proofs.lemmas.Bool.Decides.{nat_tests}
use Rattle.std.proofs.lemmas.Slice.Eq.{bytes_eq-Decides}
use Rattle.numbers.specs.Sizes.{fewest_queued, most_actors, most_extra, most_harts, most_queued}
use Rattle.text_fields.specs.{declared.read.FieldError.FieldError, Reading.decimal_field}
use Rattle.text_fields.specs.{declared.read.FieldError.TheVariants.OutOfRange}
use Rattle.text_fields.specs.Splitting.{field_count, Lacks}
use Rattle.text_fields.proofs.{DecimalLaws.decimal_field-decimal, DecimalLaws.decimal_field_only}
use Rattle.text_fields.proofs.LacksLaws.{Lacks-append, Lacks-decimal}
use Rattle.text_fields.proofs.SplittingLaws.{count-alone, count-cut, field-cut, parts_of, rest-cut}
use Rattle.events.specs.{declared.role.Role.Role, Roles.role_name}
use Rattle.event_text.specs.{Core.AreCoreSizes, Core.CoreSizes, declared.read.Rule.Rule}
use Rattle.event_text.specs.{declared.read.Rule.TheVariants.FieldCount, declared.read.Rule.TheVariants.FirstField}
use Rattle.event_text.specs.{Line.after_space, Reading.◌>>=◌, Reading.first_field, Reading.others}
use Rattle.event_text.specs.Heads.{config_line, config_of, of_sizes, roles_of, size_field, sizes_of}
use Rattle.event_text.proofs.{RoleFields.roles_back, RoleFields.roles_only, RoleFields.spaced}
use Rattle.event_text.proofs.{RoleFields.spaced_lacks, Sequences.bind_only, Sequences.cut}

-- one number
kept : (b : Bool) (m n : ℕ) → cond b (Ok m) (Err OutOfRange) ≡ Ok n → (b ≡ true) × (m ≡ n)
kept true m n read = (refl, cc)
kept false m n read = cc

record IsSize (least most n : ℕ) (text : List ℕ) : Type 0 where
  low : least ≤ n
  high : n ≤ most
  spelled : text ≡ decimal n

size_only : (least most n : ℕ) (text : List ℕ) → most < 2 ^ 32 → size_field least most text ≡ Ok n
    → IsSize least most n text
unfolding size_field
size_only least most n text small read =
    let step =
    bind_only (decimal_field most text) (λ number. cond (nat_le least number) (Ok number) (Err OutOfRange)) n read in
    let is = kept (nat_le least step.0) step.0 n step.2 in
    let field = decimal_field_only most step.0 text (omega (arith, small)) step.1 in
    let least_is : least ≤ step.0 = grind (arith, nat_tests, is.0) in
    rw (← is.1) (record { low = least_is; high = field.0; spelled = field.1 })

size_back : (least most n : ℕ) → most < 2 ^ 32 → least ≤ n → n ≤ most → size_field least most (decimal n) ≡ Ok n
unfolding size_field
size_back least most n small low high =
    let test : nat_le least n ≡ true = grind (arith, nat_tests) in
    rw (decimal_field-decimal most n high (omega (arith, small)), test) refl

-- sizes that a core may have
pub record AreWithinSizes (sizes : CoreSizes) : Type 0 where
  pub some_harts : 1 ≤ sizes.harts
  pub few_harts : sizes.harts ≤ 16
  pub some_extra : 1 ≤ sizes.extra
  pub few_extra : sizes.extra ≤ 528
  pub some_queue : 4 ≤ sizes.queue
  pub few_queue : sizes.queue ≤ 64
  pub some_actors : 1 ≤ length sizes.roles
  pub few_actors : length sizes.roles ≤ 32

pub within_sizes : (sizes : CoreSizes) → AreCoreSizes sizes → AreWithinSizes sizes
within_sizes sizes are = record {
  some_harts = grind (arith, nat_tests);
  few_harts = grind (arith, nat_tests);
  some_extra = grind (arith, nat_tests);
  few_extra = grind (arith, nat_tests);
  some_queue = grind (arith, nat_tests);
  few_queue = grind (arith, nat_tests);
  some_actors = grind (arith, nat_tests);
  few_actors = grind (arith, nat_tests);
}

sizes_within : (sizes : CoreSizes) → AreWithinSizes sizes → AreCoreSizes sizes
sizes_within sizes are =
    let h : nat_le 1 sizes.harts ≡ true = grind (arith, nat_tests, are.some_harts) in
    let h' : nat_le sizes.harts most_harts ≡ true = grind (arith, nat_tests, are.few_harts) in
    let e : nat_le 1 sizes.extra ≡ true = grind (arith, nat_tests, are.some_extra) in
    let e' : nat_le sizes.extra most_extra ≡ true = grind (arith, nat_tests, are.few_extra) in
    let q : nat_le fewest_queued sizes.queue ≡ true = grind (arith, nat_tests, are.some_queue) in
    let q' : nat_le sizes.queue most_queued ≡ true = grind (arith, nat_tests, are.few_queue) in
    let a : nat_le 1 (length sizes.roles) ≡ true = grind (arith, nat_tests, are.some_actors) in
    let a' : nat_le (length sizes.roles) most_actors ≡ true = grind (arith, nat_tests, are.few_actors) in
    rw (h, h', e, e', q, q', a, a') refl

-- the fields behind `config`
abbrev behind_config : CoreSizes → List ℕ
behind_config sizes =
    decimal sizes.harts ++ 32 ∷ (decimal sizes.extra ++ 32 ∷ (decimal sizes.queue ++ spaced sizes.roles))

by_words : (c h e q r : List ℕ) → c ++ (32 ∷ h) ++ (32 ∷ e) ++ (32 ∷ q) ++ r
    ≡ c ++ 32 ∷ (h ++ 32 ∷ (e ++ 32 ∷ (q ++ r)))
by_words c h e q r = simp append_assoc

config_line-parts : (sizes : CoreSizes) → config_line sizes ≡ codes "config" ++ 32 ∷ behind_config sizes
config_line-parts sizes =
    by_words (codes "config") (decimal sizes.harts) (decimal sizes.extra) (decimal sizes.queue) (spaced sizes.roles)

record IsCore (many : ℕ) (fields : List ℕ) (sizes : CoreSizes) : Type 0 where
  within : AreWithinSizes sizes
  spelled : fields ≡ behind_config sizes

joined_fields : (fields f o f' o' f'' o'' h e q r : List ℕ) → fields ≡ f ++ 32 ∷ o → o ≡ f' ++ 32 ∷ o'
    → o' ≡ f'' ++ 32 ∷ o'' → f ≡ h → f' ≡ e → f'' ≡ q → 32 ∷ o'' ≡ r
    → fields ≡ h ++ 32 ∷ (e ++ 32 ∷ (q ++ r))
joined_fields fields f o f' o' f'' o'' h e q r cut1 cut2 cut3 first second third last =
    cut1 ∙ rw (first, cut2, second, cut3, third, last) refl

sizes_only : (n : ℕ) (fields : List ℕ) (sizes : CoreSizes) → n ≤ 31 → field_count 32 fields ≡ n + 4
    → sizes_of (n + 4) fields ≡ Ok sizes → IsCore (n + 4) fields sizes
unfolding sizes_of
sizes_only n fields sizes few count read =
    let one = others fields in
    let two = others one in
    let three = others two in
    let many : n + 4 - 3 ≡ suc n = omega arith in
    let step1 = bind_only (size_field 1 most_harts (first_field fields)) _ sizes read in
    let step2 = bind_only (size_field 1 most_extra (first_field one)) _ sizes step1.2 in
    let step3 = bind_only (size_field fewest_queued most_queued (first_field two)) _ sizes step2.2 in
    let step4 = bind_only (roles_of (n + 4 - 3) three) _ sizes step3.2 in
    let is : ◌≡◌ {A = CoreSizes}
    (record { harts = step1.0; extra = step2.0; queue = step3.0; roles = step4.0 }) sizes = cc (step4.2) in
    let cut1 = (parts_of 32 fields).cut (omega (arith, count)) in
    let cut2 = (parts_of 32 one).cut (omega (arith, count, cut1.1)) in
    let cut3 = (parts_of 32 two).cut (omega (arith, count, cut1.1, cut2.1)) in
    let left : field_count 32 three ≡ suc n = omega (arith, count, cut1.1, cut2.1, cut3.1) in
    let harts = size_only 1 most_harts step1.0 (first_field fields) (lit< tt) step1.1 in
    let extra = size_only 1 most_extra step2.0 (first_field one) (lit< tt) step2.1 in
    let queue = size_only fewest_queued most_queued step3.0 (first_field two) (lit< tt) step3.1 in
    let roles = roles_only n three step4.0 left (rw (← many) (step4.1)) in
    rw (← is) (record {
      within = record {
        some_harts = harts.low;
        few_harts = harts.high;
        some_extra = extra.low;
        few_extra = extra.high;
        some_queue = queue.low;
        few_queue = queue.high;
        some_actors = omega (arith, roles.count);
        few_actors = omega (arith, roles.count, few);
      };
      spelled = joined_fields fields (first_field fields) one (first_field one) two (first_field two) three
          (decimal step1.0) (decimal step2.0) (decimal step3.0) (spaced step4.0) cut1.0 cut2.0 cut3.0 harts.spelled
          extra.spelled queue.spelled roles.spelled;
    })

abbrev made_of : ℕ → ℕ → ℕ → List Role → Result CoreSizes FieldError
made_of harts extra queue roles = Ok (record { harts = harts; extra = extra; queue = queue; roles = roles })

together : (first second third : Result ℕ FieldError) (last : Result (List Role) FieldError) (h e q : ℕ)
    (rs : List Role) → first ≡ Ok h → second ≡ Ok e → third ≡ Ok q → last ≡ Ok rs
    → (first >>= λ harts. (second >>= λ extra. (third >>= λ queue. (last >>= λ roles.
    made_of harts extra queue roles))))
    ≡ Ok (record { harts = h; extra = e; queue = q; roles = rs })
together first second third last h e q rs is1 is2 is3 is4 = rw (is1, is2, is3, is4) refl

record IsReadBack (many : ℕ) (fields : List ℕ) (sizes : CoreSizes) : Type 0 where
  count : field_count 32 fields ≡ many
  read : sizes_of many fields ≡ Ok sizes

sizes_back : (harts extra queue : ℕ) (role : Role) (roles : List Role)
    → AreWithinSizes (record { harts = harts; extra = extra; queue = queue; roles = role ∷ roles })
    → IsReadBack (length roles + 4)
    (decimal harts ++ 32 ∷ (decimal extra ++ 32 ∷ (decimal queue ++ 32 ∷ (role_name role ++ spaced roles))))
    (record { harts = harts; extra = extra; queue = queue; roles = role ∷ roles })
unfolding sizes_of
sizes_back harts extra queue role roles are =
    let h = decimal harts in
    let e = decimal extra in
    let q = decimal queue in
    let three = role_name role ++ spaced roles in
    let two = q ++ 32 ∷ three in
    let one = e ++ 32 ∷ two in
    let fields = h ++ 32 ∷ one in
    let many : length roles + 4 - 3 ≡ suc (length roles) = omega arith in
    let lh : Lacks 32 h = Lacks-decimal 32 harts refl (omega (arith, are.few_harts)) in
    let le : Lacks 32 e = Lacks-decimal 32 extra refl (omega (arith, are.few_extra)) in
    let lq : Lacks 32 q = Lacks-decimal 32 queue refl (omega (arith, are.few_queue)) in
    let o1 : others fields ≡ one = rest-cut 32 h one lh in
    let o2 : others (others fields) ≡ two = ap others o1 ∙ rest-cut 32 e two le in
    let o3 : others (others (others fields)) ≡ three = ap others o2 ∙ rest-cut 32 q three lq in
    let f1 : first_field fields ≡ h = field-cut 32 h one lh in
    let f2 : first_field (others fields) ≡ e = ap first_field o1 ∙ field-cut 32 e two le in
    let f3 : first_field (others (others fields)) ≡ q = ap first_field o2 ∙ field-cut 32 q three lq in
    let behind = roles_back role roles in
    record {
      count = omega (arith, count-cut 32 h one lh, count-cut 32 e two le, count-cut 32 q three lq, behind.count);
      read = together (size_field 1 most_harts (first_field fields))
          (size_field 1 most_extra (first_field (others fields)))
          (size_field fewest_queued most_queued (first_field (others (others fields))))
          (roles_of (length roles + 4 - 3) (others (others (others fields)))) harts extra queue (role ∷ roles)
          (ap (size_field 1 most_harts) f1 ∙ size_back 1 most_harts harts (lit< tt) are.some_harts are.few_harts)
          (ap (size_field 1 most_extra) f2 ∙ size_back 1 most_extra extra (lit< tt) are.some_extra are.few_extra)
          (ap (size_field fewest_queued most_queued) f3
          ∙ size_back fewest_queued most_queued queue (lit< tt) are.some_queue are.few_queue)
          (ap (λ n. roles_of n (others (others (others fields)))) many ∙ ap (roles_of (suc (length roles))) o3
          ∙ behind.read);
    }

-- the whole line
of_sizes_only : (r : Result CoreSizes FieldError) (sizes : CoreSizes) → of_sizes r ≡ Ok sizes → r ≡ Ok sizes
of_sizes_only (Ok s) sizes read = cc
of_sizes_only (Err error) sizes read = cc

record Passed (first few many : Bool) (r : Result CoreSizes Rule) (sizes : CoreSizes) : Type 0 where
  first_is : first ≡ true
  few_is : few ≡ false
  many_is : many ≡ false
  read : r ≡ Ok sizes

passed : (first few many : Bool) (r : Result CoreSizes Rule) (sizes : CoreSizes)
    → cond first (cond (few || many) (Err FieldCount) r) (Err FirstField) ≡ Ok sizes → Passed first few many r sizes
passed true false false r sizes read = record { first_is = refl; few_is = refl; many_is = refl; read = read }
passed true true many r sizes read = cc
passed true false true r sizes read = cc
passed false few many r sizes read = cc

pub config_only : (line : List ℕ) (sizes : CoreSizes) → config_of line ≡ Ok sizes
    → AreCoreSizes sizes × (line ≡ config_line sizes)
unfolding config_of
config_only line sizes read =
    let fields = others line in
    let count = field_count 32 fields in
    let was =
    passed (bytes_eq (first_field line) (codes "config")) (nat_lt count 4) (nat_lt (3 + most_actors) count)
    (of_sizes (sizes_of count fields)) sizes read in
    let word : first_field line ≡ codes "config" =
    (bytes_eq-Decides (first_field line) (codes "config")).0 was.first_is in
    let least : 4 ≤ count = grind (arith, nat_tests, was.few_is) in
    let most : count ≤ 35 = grind (arith, nat_tests, was.many_is) in
    let same : count ≡ count - 4 + 4 = omega (arith, least) in
    let fields_read = of_sizes_only (sizes_of count fields) sizes was.read in
    let is =
    sizes_only (count - 4) fields sizes (omega (arith, most)) same
    (ap (λ n. sizes_of n fields) (sym same) ∙ fields_read) in
    let whole = (cut line (λ none. omega (arith, least, ap (field_count 32) none, count-alone 32 [] refl))).0 in
    (sizes_within sizes is.within, whole ∙ rw (word, is.spelled) refl ∙ sym (config_line-parts sizes))

through : (first behind fields : List ℕ) (many : ℕ) (sizes : CoreSizes) → first ≡ codes "config" → behind ≡ fields
    → field_count 32 fields ≡ many → nat_lt many 4 ≡ false → nat_lt (3 + most_actors) many ≡ false
    → sizes_of many fields ≡ Ok sizes
    → cond (bytes_eq first (codes "config"))
    (cond (nat_lt (field_count 32 behind) 4 || nat_lt (3 + most_actors) (field_count 32 behind)) (Err FieldCount)
    (of_sizes (sizes_of (field_count 32 behind) behind))) (Err FirstField) ≡ Ok sizes
through first behind fields many sizes word is count few most read = rw (word, is, count, few, most, read) refl

back_at : (harts extra queue : ℕ) (roles : List Role)
    → AreWithinSizes (record { harts = harts; extra = extra; queue = queue; roles = roles })
    → config_of (config_line (record { harts = harts; extra = extra; queue = queue; roles = roles }))
    ≡ Ok (record { harts = harts; extra = extra; queue = queue; roles = roles })
unfolding config_of
back_at harts extra queue [] are = absurd (omega (arith, are.some_actors))
back_at harts extra queue (role ∷ roles) are =
    let fields = behind_config (record { harts = harts; extra = extra; queue = queue; roles = role ∷ roles }) in
    let back = sizes_back harts extra queue role roles are in
    let few : nat_lt (length roles + 4) 4 ≡ false = grind (arith, nat_tests) in
    let most : length roles ≤ 31 = omega (arith, are.few_actors) in
    let many : nat_lt (3 + most_actors) (length roles + 4) ≡ false = grind (arith, nat_tests) in
    rw config_line-parts (through (first_field (codes "config" ++ 32 ∷ fields))
    (others (codes "config" ++ 32 ∷ fields)) fields
    (length roles + 4) (record { harts = harts; extra = extra; queue = queue; roles = role ∷ roles })
    (field-cut 32 (codes "config") fields refl) (rest-cut 32 (codes "config") fields refl)
    back.count few many back.read)

pub config_back : (sizes : CoreSizes) → AreCoreSizes sizes → config_of (config_line sizes) ≡ Ok sizes
config_back sizes are =
    back_at sizes.harts sizes.extra sizes.queue sizes.roles (within_sizes sizes are)

-- no newline stands in it
number_lacks : (n : ℕ) → n < 2 ^ 64 → Lacks 10 (after_space (decimal n))
number_lacks n small = Lacks-append 10 (32 ∷ []) (decimal n) refl (Lacks-decimal 10 n refl small)

pub config_lacks : (sizes : CoreSizes) → AreCoreSizes sizes → Lacks 10 (config_line sizes)
config_lacks sizes are =
    let w = within_sizes sizes are in
    let harts = number_lacks sizes.harts (omega (arith, w.few_harts)) in
    let extra = number_lacks sizes.extra (omega (arith, w.few_extra)) in
    let queue = number_lacks sizes.queue (omega (arith, w.few_queue)) in
    let roles = spaced sizes.roles in
    let two = after_space (decimal sizes.queue) ++ roles in
    let one = after_space (decimal sizes.extra) ++ two in
    subst (Lacks 10) (sym (config_line-parts sizes))
    (Lacks-append 10 (codes "config") (after_space (decimal sizes.harts) ++ one) refl
    (Lacks-append 10 (after_space (decimal sizes.harts)) one harts
    (Lacks-append 10 (after_space (decimal sizes.extra)) two extra
    (Lacks-append 10 (after_space (decimal sizes.queue)) roles queue (spaced_lacks sizes.roles)))))
