use Rattle.grb_push.proofs.WantedPlaces.{wanted_none}
use Rattle.grb_push.proofs.wanted.places_beside_none.Goals as goal

pub returns : goal.returns
returns c = wanted_none c.args.among
