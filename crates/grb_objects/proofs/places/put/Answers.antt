use Rattle.std.proofs.Common.{Some, ap, ◌∙◌}
use Rattle.grb_objects.proofs.ByNumber.{edited_at}
use Rattle.grb_objects.proofs.places.put.Goals as goal

pub returns-in-Some-clause-ok : goal.returns-in-Some-clause-ok
returns-in-Some-clause-ok g c =
    let is = c.in-Some.ensures.item in let made = ap (λ (x : g.row.T.Denot). Some (g.T.StoredObject.contents x)) c.in_ok-shared.ensures ∙ ap Some c.make_shareable.ensures.same in
    edited_at g.T.StoredObject.contents c.args.places.now.items c.number.result c.in-Some.place.now is.0 is.1 (λ _. Some (g.T.StoredObject.contents c.args.object)) _ c.number.ensures (Some c.in_ok-shared.shared) made
