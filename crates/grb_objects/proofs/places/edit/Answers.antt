use Rattle.grb_objects.specs.Places.{left_of}
use Rattle.grb_objects.proofs.ByNumber.{edited_at, kept_at, on_ok, on_err}
use Rattle.grb_objects.proofs.places.edit.Goals as goal

pub returns-in-Some-clause-ok : goal.returns-in-Some-clause-ok
returns-in-Some-clause-ok g c =
    let is = c.in-Some.ensures.item in let call = c.args.call.now in
    on_ok _ _ c.change_place.result
    (edited_at g.T.StoredObject.contents c.args.places.now.items c.number.result c.in-Some.place.now is.0 is.1 (left_of (g.T.StoredObject.ends call) (g.T.StoredObject.after call)) _ c.number.ensures c.change_place.new.place)
    c.change_place.ensures.ok

pub returns-in-Some-clause-err : goal.returns-in-Some-clause-err
returns-in-Some-clause-err g c =
    let is = c.in-Some.ensures.item in
    on_err _ _ c.change_place.result (kept_at g.T.StoredObject.contents c.args.places.now.items c.number.result c.in-Some.place.now is.0 is.1 c.change_place.new.place) c.change_place.ensures.err
