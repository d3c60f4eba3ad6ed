use Rattle.std.proofs.Common.{◌∙◌, ap, List, Option}
use Rattle.grb_call.specs.Shapes.{object_at}
use Rattle.grb_objects.specs.Places.{contents_at}
use Rattle.grb_objects.proofs.Edited.{object_at-more}
use Rattle.grb_objects.proofs.places.make_places.Goals as goal

pub places-preserved : goal.places-preserved
places-preserved g c n =
    ap (λ (xs : List (Option g.row.T.Denot)). object_at (contents_at g.T.StoredObject.contents xs) n) c.in_ok-push.ensures.items
    ∙ (object_at-more g.T.StoredObject.contents c.places.places.items n ∙ c.places.invariant n)

pub returns-in_err-push-clause-same : goal.returns-in_err-push-clause-same
returns-in_err-push-clause-same g c n =
    ap (λ (xs : List (Option g.row.T.Denot)). object_at (contents_at g.T.StoredObject.contents xs) n) c.in_err-push.ensures.items ∙ c.places.invariant n
