use Rattle.std.proofs.Common.{◌≡◌, true, false}
use Rattle.grb_objects.proofs.ByNumber.{kept_at, holds_at, holds_kept, holds_beyond, on_ok}
use Rattle.grb_objects.proofs.places.assemble_at.Goals as goal

pub returns-in-Some-clause-same : goal.returns-in-Some-clause-same
returns-in-Some-clause-same g c =
    let is = c.in-Some.ensures.item in
    kept_at g.T.StoredObject.contents c.args.places.now.items c.args.at c.in-Some.place.now is.0 is.1 c.assemble_place.new.place c.assemble_place.ensures.same

pub returns-in-Some-clause-assembled : goal.returns-in-Some-clause-assembled
returns-in-Some-clause-assembled g c =
    let is = c.in-Some.ensures.item in
    on_ok _ _ c.assemble_place.result (holds_at (λ (x : g.row.T.Denot). g.T.StoredObject.is_assembled x ≡ true) c.args.places.now.items c.args.at is.0 c.assemble_place.new.place) c.assemble_place.ensures.assembled

pub returns-in-Some-clause-kept : goal.returns-in-Some-clause-kept
returns-in-Some-clause-kept g c =
    let is = c.in-Some.ensures.item in
    λ n. holds_kept (λ (x : g.row.T.Denot). g.T.StoredObject.is_assembled x ≡ true) c.args.places.now.items c.args.at c.in-Some.place.now is.0 is.1 c.assemble_place.new.place c.assemble_place.ensures.kept n

pub returns-in-None-clause-assembled : goal.returns-in-None-clause-assembled
returns-in-None-clause-assembled g c =
    holds_beyond (λ (x : g.row.T.Denot). g.T.StoredObject.is_assembled x ≡ true) c.args.places.now.items c.args.at (λ lt. let no : false ≡ true = c.in-None.ensures.item.2 lt in cc)
