use Rattle.std.proofs.Common.{sym, ltb-true, length, ◌∙◌}
use Rattle.grb_objects.proofs.Edited.{put_held, put_others}
use Rattle.grb_objects.proofs.places.hold.Goals as goal

pub returns-in-Some-clause-held : goal.returns-in-Some-clause-held
returns-in-Some-clause-held g c =
    let is = c.in-Some.ensures.item in
    put_held g.T.StoredObject.contents c.make_places.new.places.items c.number-2.result _ c.args.object c.number-2.ensures
    (ltb-true c.number-2.result (length c.make_places.new.places.items) (sym is.0))

pub returns-in-Some-clause-others : goal.returns-in-Some-clause-others
returns-in-Some-clause-others g c n apart =
    put_others g.T.StoredObject.contents c.make_places.new.places.items c.number-2.result _ n c.args.object c.number-2.ensures apart ∙ c.in_ok-make_places.ensures.same n
