-- The names of roles, each behind a space: they are read as these roles, and nothing else is.

use Rattle.std.proofs.Common.{◌≡◌, ℕ, zero, suc, true, List, [], ◌∷◌, ◌++◌, length}
use Rattle.std.proofs.Common.{Option, None, Some, Result, Ok, Err, refl, sym, ◌∙◌, ap, arith, append-nil, append_assoc}
use Rattle.std.proofs.Common.{filter, flat_map}
use Rattle.std.specs.{Prelude.All, Prelude.slice_get, Str.bytes_eq}
use Rattle.std.proofs.lemmas.List.Elements.{All-head, filter_passes}
use Rattle.std.proofs.lemmas.Slice.Eq.{bytes_eq-Decides}
use Rattle.text_fields.specs.{declared.read.FieldError.FieldError, Splitting.field_count, Splitting.Lacks}
use Rattle.text_fields.proofs.LacksLaws.{Lacks-append}
use Rattle.text_fields.proofs.SplittingLaws.{count-alone, count-cut, field-alone, field-cut, parts_of, rest-cut}
use Rattle.events.specs.{declared.role.Role.Role, Roles.every_role, Roles.role_name, Roles.role_of_name}
use Rattle.events.specs.declared.role.Role.TheVariants.{Fetch, Front, Retire, Alu, Mul, Mem}
use Rattle.event_text.specs.{Line.after_space, Reading.◌>>=◌, Reading.first_field, Reading.others}
use Rattle.event_text.specs.Heads.{role_field, role_read, roles_of}
use Rattle.event_text.proofs.Sequences.{bind_only}

-- one role
first_passes : (P : Role → Type 0) (roles : List Role) (role : Role) → All P roles → slice_get roles 0 ≡ Some role
    → P role
first_passes P [] role all is = cc
first_passes P (r ∷ rs) role all is =
    let same : r ≡ role = cc in
    rw (← same) (All-head P r rs all)

named_only : (name : List ℕ) (role : Role) → role_of_name name ≡ Some role → name ≡ role_name role
named_only name role named =
    (bytes_eq-Decides name (role_name role)).0
    (first_passes (λ r. bytes_eq name (role_name r) ≡ true) (filter (λ r. bytes_eq name (role_name r)) every_role) role
    (filter_passes (λ r. bytes_eq name (role_name r)) every_role) named)

some_read : (o : Option Role) (role : Role) → role_read o ≡ Ok role → o ≡ Some role
some_read (Some r) role read = cc
some_read None role read = cc

role_only : (name : List ℕ) (role : Role) → role_field name ≡ Ok role → name ≡ role_name role
unfolding role_field
role_only name role read = named_only name role (some_read (role_of_name name) role read)

role_back : (role : Role) → role_field (role_name role) ≡ Ok role
unfolding role_field
role_back Fetch = refl
role_back Front = refl
role_back Retire = refl
role_back Alu = refl
role_back Mul = refl
role_back Mem = refl

role_lacks : (role : Role) → Lacks 32 (role_name role)
role_lacks Fetch = refl
role_lacks Front = refl
role_lacks Retire = refl
role_lacks Alu = refl
role_lacks Mul = refl
role_lacks Mem = refl

ended_role_lacks : (role : Role) → Lacks 10 (after_space (role_name role))
ended_role_lacks Fetch = refl
ended_role_lacks Front = refl
ended_role_lacks Retire = refl
ended_role_lacks Alu = refl
ended_role_lacks Mul = refl
ended_role_lacks Mem = refl

-- some roles, each behind a space
abbrev pub spaced : List Role → List ℕ
spaced roles = flat_map (λ role. after_space (role_name role)) roles

pub spaced_lacks : (roles : List Role) → Lacks 10 (spaced roles)
spaced_lacks [] = refl
spaced_lacks (role ∷ roles) =
    Lacks-append 10 (after_space (role_name role)) (spaced roles) (ended_role_lacks role) (spaced_lacks roles)

-- fields that are these roles
pub record AreRoles (many : ℕ) (fields : List ℕ) (roles : List Role) : Type 0 where
  pub count : length roles ≡ many
  pub spelled : 32 ∷ fields ≡ spaced roles

pub roles_only : (n : ℕ) (fields : List ℕ) (roles : List Role) → field_count 32 fields ≡ suc n
    → roles_of (suc n) fields ≡ Ok roles → AreRoles (suc n) fields roles
unfolding roles_of
roles_only zero fields roles count read =
    let step = bind_only (role_field (first_field fields)) (λ role. Ok (role ∷ [])) roles read in
    let is : step.0 ∷ [] ≡ roles = cc (step.2) in
    let one = role_only (first_field fields) step.0 step.1 in
    let whole = (parts_of 32 fields).alone count in
    rw (← is) (record {
      count = refl;
      spelled = ap (λ text. 32 ∷ text) (whole ∙ one ∙ sym (append-nil (role_name step.0)));
    })
roles_only (suc n) fields roles count read =
    let step =
    bind_only (role_field (first_field fields)) (λ role. roles_of (suc n) (others fields) >>= λ more. Ok (role ∷ more))
    roles read in
    let later = bind_only (roles_of (suc n) (others fields)) (λ more. Ok (step.0 ∷ more)) roles step.2 in
    let is : step.0 ∷ later.0 ≡ roles = cc (later.2) in
    let one = role_only (first_field fields) step.0 step.1 in
    let parts = (parts_of 32 fields).cut (omega (arith, count)) in
    let fewer : field_count 32 (others fields) ≡ suc n = omega (arith, count, parts.1) in
    let behind = roles_only n (others fields) later.0 fewer later.1 in
    rw (← is) (record {
      count = ap suc behind.count;
      spelled = ap (λ text. 32 ∷ text)
          (parts.0 ∙ ap (λ f. f ++ 32 ∷ others fields) one ∙ ap (λ text. role_name step.0 ++ text) behind.spelled);
    })

-- and back
pub record IsReadAs (many : ℕ) (fields : List ℕ) (roles : List Role) : Type 0 where
  pub read : roles_of many fields ≡ Ok roles
  pub count : field_count 32 fields ≡ many

pub roles_back : (role : Role) (roles : List Role)
    → IsReadAs (suc (length roles)) (role_name role ++ spaced roles) (role ∷ roles)
unfolding roles_of
roles_back role [] =
    let lacks = role_lacks role in
    rw append-nil (record {
      read = rw (field-alone 32 (role_name role) lacks, role_back role) refl;
      count = count-alone 32 (role_name role) lacks;
    })
roles_back role (r ∷ rs) =
    let lacks = role_lacks role in
    let behind = role_name r ++ spaced rs in
    let later = roles_back r rs in
    let count = count-cut 32 (role_name role) behind lacks in
    record {
      read = rw (field-cut 32 (role_name role) behind lacks, role_back role, rest-cut 32 (role_name role) behind lacks, later.read)
          refl;
      count = omega (arith, count, later.count);
    }

-- what is read behind the roles that were read first
abbrev pub behind_roles : List Role → Result (List Role) FieldError → Result (List Role) FieldError
behind_roles roles (Ok more) = Ok (roles ++ more)
behind_roles roles (Err error) = Err error

pub behind_none : (r : Result (List Role) FieldError) → behind_roles [] r ≡ r
behind_none (Ok more) = refl
behind_none (Err error) = refl

one_behind : (roles : List Role) (role : Role) (r : Result (List Role) FieldError)
    → behind_roles roles (r >>= λ more. Ok (role ∷ more)) ≡ behind_roles (roles ++ role ∷ []) r
one_behind roles role (Ok more) = ap Ok (sym (append_assoc roles (role ∷ []) more))
one_behind roles role (Err error) = refl

-- one more of them is read, or refused, or there is none
pub role_more : (n : ℕ) (fields : List ℕ) (roles : List Role) (role : Role) → role_field (first_field fields) ≡ Ok role
    → behind_roles roles (roles_of (suc n) fields) ≡ behind_roles (roles ++ role ∷ []) (roles_of n (others fields))
unfolding roles_of
role_more n fields roles role read = rw read (one_behind roles role (roles_of n (others fields)))

pub role_refused : (n : ℕ) (fields : List ℕ) (roles : List Role) (error : FieldError)
    → role_field (first_field fields) ≡ Err error → behind_roles roles (roles_of (suc n) fields) ≡ Err error
unfolding roles_of
role_refused n fields roles error refused = rw refused refl

pub role_none : (fields : List ℕ) (roles : List Role) → behind_roles roles (roles_of 0 fields) ≡ Ok roles
unfolding roles_of
role_none fields roles = ap Ok (append-nil roles)
