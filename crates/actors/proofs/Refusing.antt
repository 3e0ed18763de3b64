-- A refusal that is handed on, and one that no longer comes.
use Rattle.std.proofs.Common.{◌≡◌, ◌∙◌, ℕ, Bool, true, false, List, refl, sym, ap, inl, inr, ◌⊎◌}
use Rattle.std.proofs.lemmas.Bool.{false≢true}
use Rattle.std.specs.Prelude.{◌↔◌, Result, Ok, Err, IfErr}
use Rattle.elf_image.specs.Image.{ProgramImage}
use Rattle.events.specs.declared.role.Role.{Role}
use Rattle.smt_model.specs.{Setup.Setup}
use Rattle.smt_model.specs.declared.config.Config.{Config as CoreConfig}
use Rattle.core_state.specs.{Setup.setup_of, declared.refused.CoreRefused.CoreRefused}
use Rattle.core_state.specs.declared.refused.CoreRefused.TheVariants as refused
use Rattle.actors.specs.declared.refused.RunRefused.{RunRefused}
use Rattle.actors.specs.declared.refused.RunRefused.TheVariants.{Config, Memory, Roles, Thread}

-- This refusal is that one, of a call that answers an A.
abbrev pub IsErr : (A : Type 0) {E : Type 0} → E → E → Type 0
IsErr A {E} a b = ◌≡◌ {A = Result A E} (Err a) (Err b)

same_err : (A : Type 0) {E : Type 0} (a b : E) → IsErr A a b → a ≡ b
same_err A a b is = cc

pub no_err : {A E : Type 0} (a : A) (b : E) → Ok a ≡ Err b → ⊥
no_err a b is = cc

-- A refusal of another call comes when the first one's did.
pub handed_on : (A B : Type 0) {E P : Type 0} (a b : E) → IsErr A a b ↔ P → IsErr B a b ↔ P
handed_on A B a b when =
    (λ is. when.0 (ap (λ e. Err e) (same_err B a b is)), λ p. ap (λ e. Err e) (same_err A a b (when.1 p)))

-- Where the first call wasn't refused so, and the second never is, neither comes.
pub neither : {A B E : Type 0} (a : A) (r : Result B E) (why : E) {P : Type 0} → (Ok a ≡ Err why) ↔ P
    → (r ≡ Err why → ⊥) → (r ≡ Err why) ↔ P
neither a r why when never = (λ is. absurd (never is), λ p. absurd (no_err a why (when.1 p)))

-- Two refusals that differ.
pub roles_config : Roles ≡ Config → ⊥
roles_config is = cc

pub config_roles : Config ≡ Roles → ⊥
config_roles is = cc

pub memory_config : Memory ≡ Config → ⊥
memory_config is = cc

pub memory_roles : Memory ≡ Roles → ⊥
memory_roles is = cc

thread_config : Thread ≡ Config → ⊥
thread_config is = cc

thread_roles : Thread ≡ Roles → ⊥
thread_roles is = cc

-- A run that has begun is refused for want of memory or of a thread.
pub begun : {A : Type 0} (r : Result A RunRefused) → IfErr r (λ w. (w ≡ Memory) ⊎ (w ≡ Thread))
    → (r ≡ Err Config → ⊥) × (r ≡ Err Roles → ⊥)
begun (Ok a) why = (λ is. no_err a Config is, λ is. no_err a Roles is)
begun (Err Config) (inl is) = absurd (memory_config (sym is))
begun (Err Config) (inr is) = absurd (thread_config (sym is))
begun (Err Roles) (inl is) = absurd (memory_roles (sym is))
begun (Err Roles) (inr is) = absurd (thread_roles (sym is))
begun {A} (Err Memory) why =
    (λ is. memory_config (same_err A Memory Config is), λ is. memory_roles (same_err A Memory Roles is))
begun {A} (Err Thread) why =
    (λ is. thread_config (same_err A Thread Config is), λ is. thread_roles (same_err A Thread Roles is))

-- ---- A core is made, or refused

pub same_setup : (image : ProgramImage) (a b : CoreConfig)
    → (a.harts ≡ b.harts) × (a.extra ≡ b.extra) × (a.queue ≡ b.queue) → a.roles.items ≡ b.roles.items
    → setup_of image a ≡ setup_of image b
same_setup image a b sizes roles =
    let of : ℕ → ℕ → ℕ → List Role → Setup = λ h e q r. record { image = image; harts = h; extra = e; queue = q; roles = r } in
    ap (λ h. of h a.extra a.queue a.roles.items) sizes.0
    ∙ ap (λ e. of b.harts e a.queue a.roles.items) sizes.1
    ∙ ap (λ q. of b.harts b.extra q a.roles.items) sizes.2
    ∙ ap (of b.harts b.extra b.queue) roles

-- This refusal comes, and rightly so; or another one comes, and rightly not this.
pub this : (A : Type 0) {E P : Type 0} (why : E) → P → IsErr A why why ↔ P
this A why p = (λ _. p, λ _. refl)

pub another : (A : Type 0) {E P : Type 0} (came why : E) → (came ≡ why → ⊥) → (P → ⊥) → IsErr A came why ↔ P
another A came why differs never = (λ is. absurd (differs (same_err A came why is)), λ p. absurd (never p))

-- None comes, and rightly so.
pub none : {A E P : Type 0} (a : A) (why : E) → (P → ⊥) → ◌≡◌ {A = Result A E} (Ok a) (Err why) ↔ P
none a why never = (λ is. absurd (no_err a why is), λ p. absurd (never p))

-- A configuration is accepted where a core came, and where there was no memory for one.
pub by_core : {A E : Type 0} (a : A) (why : E) (b : Bool) → (Ok a ≡ Err why) ↔ (b ≡ false) → b ≡ false → ⊥
by_core a why b when is = no_err a why (when.1 is)

memory_comes : refused.Memory ≡ refused.Config → ⊥
memory_comes is = cc

pub by_memory : {A : Type 0} (r : Result A CoreRefused) (why : CoreRefused) (b : Bool) → r ≡ Err why
    → why ≡ refused.Memory → (r ≡ Err refused.Config) ↔ (b ≡ false) → b ≡ false → ⊥
by_memory {A} r why b came memory when is =
    memory_comes (sym memory ∙ same_err A why refused.Config (sym came ∙ when.1 is))

pub accepted : (b : Bool) → (b ≡ false → ⊥) → b ≡ true
accepted true never = refl
accepted false never = absurd (never refl)

-- A test that fails, and what it tests.
pub lacks : (b : Bool) {P : Type 0} → b ≡ false → (b ≡ true) ↔ P → P → ⊥
lacks b fails tests p = false≢true (sym fails ∙ tests.1 p)

pub both : {b : Bool} {P : Type 0} → b ≡ false → (b ≡ true) × P → ⊥
both fails holds = false≢true (sym fails ∙ holds.0)
