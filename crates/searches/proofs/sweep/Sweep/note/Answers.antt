use Rattle.std.proofs.Common.{inl, inr}
use Rattle.std.specs.List.{list_any}
use Rattle.searches.specs.Sweeps.{found_by}
use Rattle.searches.proofs.Noting.{kept_keys, stood, longer_keys, stands_last, is_absent, is_there}
use Rattle.searches.proofs.sweep.Sweep.note.Goals as goal

pub returns-then-not-is_new : goal.returns-then-not-is_new
returns-then-not-is_new g c =
    let eq = g.S.PartialEq.eq in
    let old = c.args.self.now in
    let there = is_there (list_any (eq c.args.state) old.states.keys) c.in_ok-place.is_new c.in_ok-place.ensures.added
    c.if-not-is_new.true in
    record {
      noted = inl (
        λ i. record {
          harts = old.harts;
          states = kept_keys eq (found_by old) c.args.state c.in_ok-place.place c.insert_full.new.self.keys
              c.in_ok-place.ensures.keys c.in_ok-place.ensures.stored there i;
          origins = old.origins.items;
          edges = old.edges.items;
          ends = old.ends.items;
        },
        stood eq (found_by old) c.args.state c.in_ok-place.place c.insert_full.new.self.keys
            c.in_ok-place.ensures.keys c.in_ok-place.ensures.stored there,
      );
    }

pub returns : goal.returns
returns g c =
    let eq = g.S.PartialEq.eq in
    let old = c.args.self.now in
    let absent = is_absent (list_any (eq c.args.state) old.states.keys) c.in_ok-place.is_new
    c.in_ok-place.ensures.added c.if-not-is_new.false in
    let keys = longer_keys eq (found_by old) c.args.state c.in_ok-place.place c.insert_full.new.self.keys
    c.in_ok-place.ensures.keys c.in_ok-place.ensures.stored absent in
    record {
      noted = inr (
        λ i. record {
          harts = old.harts;
          states = keys i;
          origins = c.in_ok-push.ensures.items i;
          edges = old.edges.items;
          ends = old.ends.items;
        },
        stands_last eq (found_by old) c.args.state c.in_ok-place.place c.insert_full.new.self.keys
            c.in_ok-place.ensures.keys c.in_ok-place.ensures.stored absent,
        absent,
      );
    }
