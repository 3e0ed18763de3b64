-- What callers see of a state, said of its fields.
use Rattle.std.specs.Prelude.{◌≡◌, ℕ, ◌<◌, true, length}
use Rattle.std.proofs.{Common.sym, Common.subst, Common.arith}
use Rattle.smt_model.specs.Jobs.{is_actor}
use Rattle.core_state.specs.State.{IsCore, view_of, past_of, setup_in}
use Rattle.core_state.specs.{View.CoreView, declared.state.State.TheInside.Inside}

pub actor_in : (i : Inside) (v : CoreView) → view_of i ≡ v → (actor : ℕ) → is_actor v.setup actor ≡ true
    → is_actor (setup_in i) actor ≡ true
actor_in i v view actor is_one = subst (λ (w : CoreView). is_actor w.setup actor ≡ true) (sym view) is_one

-- There is room in the history, so it has fewer events than a history can have.
pub short_in : (i : Inside) (v : CoreView) → view_of i ≡ v → IsCore i → length v.past < v.limit
    → length (past_of i) < 16777216
short_in i v view core room =
    let here : length (past_of i) < i.history.limit =
    subst (λ (w : CoreView). length w.past < w.limit) (sym view) room in
    let limit = core.limit in
    omega arith
