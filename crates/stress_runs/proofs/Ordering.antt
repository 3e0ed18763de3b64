-- The lines of an order, as a loop puts them.
use Rattle.std.proofs.Common.{◌≡◌, ℕ, ◌+◌, ◌<◌, Bool, List, [], ◌∷◌, ◌++◌, length, map, reverse, take, get_or, Option, refl, sym, ap, ◌∙◌}
use Rattle.std.proofs.{lemmas.List.take_more, lemmas.List.flat_map_more, lemmas.List.map-append}
use Rattle.std.proofs.lemmas.List.{reverse-append, reverse-reverse}
use Rattle.events.specs.{declared.effect.Record.Record, declared.event.Event.Event}
use Rattle.smt_model.specs.Account.{records, order}
use Rattle.event_text.specs.Sinking.{HasPutBut}
use Rattle.event_text.proofs.SinkLaws.{HasPutBut-more, HasPutBut-step}
use Rattle.stress_runs.specs.Kept.{order_line, order_text}

abbrev harts_of : List Record → List ℕ
harts_of records = map (λ r. r.hart) records

order_more : (xs : List Record) (i : ℕ) (d : Record) → i < length xs
    → order_text (harts_of (take (i + 1) xs)) ≡ order_text (harts_of (take i xs)) ++ order_line (get_or xs i d).hart
order_more xs i d inside =
    let x : Record = get_or xs i d in
    ap (λ rs. order_text (harts_of rs)) (take_more xs i d inside)
    ∙ ap order_text (map-append (λ (r : Record). r.hart) (take i xs) (x ∷ []))
    ∙ sym (flat_map_more order_line [] (harts_of (take i xs)) x.hart)

-- One more line is held back, behind those that were put to make room.
pub order_step : {S : Type 0} (written : S → Option (List ℕ)) (has_failed : S → Bool) (r s t : S) (xs : List Record)
    (i : ℕ) (d : Record) (held left bytes : List ℕ) → i < length xs
    → HasPutBut written has_failed r s (order_text (harts_of (take i xs))) held
    → HasPutBut written has_failed s t held left → bytes ≡ left ++ order_line (get_or xs i d).hart
    → HasPutBut written has_failed r t (order_text (harts_of (take (i + 1) xs))) bytes
order_step written has_failed r s t xs i d held left bytes inside before room is =
    let x : Record = get_or xs i d in
    rw (order_more xs i d inside, is)
    (HasPutBut-more written has_failed r t (order_text (harts_of (take i xs))) left (order_line x.hart)
    (HasPutBut-step written has_failed r s t (order_text (harts_of (take i xs))) held left before room))

-- The harts of what has retired, the oldest first.
map-reverse : {A B : Type 0} (f : A → B) (xs : List A) → map f (reverse xs) ≡ reverse (map f xs)
map-reverse f [] = refl
map-reverse f (x ∷ xs) =
    ap (map f) (reverse-append (x ∷ []) xs) ∙ map-append f (reverse xs) (x ∷ [])
    ∙ ap (λ l. l ++ f x ∷ []) (map-reverse f xs) ∙ sym (reverse-append (f x ∷ []) (map f xs))

pub order_is : (rs : List Record) (past : List Event) → rs ≡ reverse (records past)
    → order_text (harts_of rs) ≡ order_text (reverse (order past))
order_is rs past is =
    ap (λ (xs : List Record). order_text (harts_of xs)) is
    ∙ ap order_text (map-reverse (λ (r : Record). r.hart) (records past))
