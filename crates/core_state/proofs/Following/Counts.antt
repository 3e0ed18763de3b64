-- A hart's queues are as long as its loads and its stores in flight are many.
use Rattle.std.specs.Prelude.{◌≡◌, ℕ, ◌<◌, filter, length, slice_index_or}
use Rattle.std.proofs.Common.{◌∙◌, ap}
use Rattle.std.proofs.{lemmas.List.length-map}
use Rattle.smt_model.specs.{Basics.how_many, Picture.Picture}
use Rattle.load_store.specs.Queues.{Queues, queues_of}
use Rattle.core_parts.specs.Accesses.{is_load_in, is_store_in, load_in, store_in, queues_in}
use Rattle.core_parts.specs.{Agree.PartsAgree, declared.parts.Parts.Parts}
use Rattle.core_parts.proofs.Agreement.Queues.{queues_are}
use Rattle.core_state.proofs.Following.Place.{first_hart}

module _ (p : Picture) (x : Parts) (h : ℕ) (agrees : PartsAgree p x) (inside : h < length x.harts.items) where
  queues : queues_of x.accesses h ≡ queues_in p h
  queues =
      let d = first_hart x.harts.items h inside in
      agrees.accesses.each h d inside
      ∙ queues_are p h (slice_index_or x.harts.items h d) (agrees.harts h d inside)

  pub loads_in_flight : length (queues_of x.accesses h).loads ≡ how_many (is_load_in p) (p.flight h)
  loads_in_flight =
      ap (λ (q : Queues). length q.loads) queues ∙ length-map (filter (is_load_in p) (p.flight h)) (load_in p)

  pub stores_in_flight : length (queues_of x.accesses h).stores ≡ how_many (is_store_in p) (p.flight h)
  stores_in_flight =
      ap (λ (q : Queues). length q.stores) queues ∙ length-map (filter (is_store_in p) (p.flight h)) (store_in p)
