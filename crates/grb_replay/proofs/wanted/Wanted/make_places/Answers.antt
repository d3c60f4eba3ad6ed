use Rattle.std.proofs.Common.{◌≡◌, ◌-◌, ℕ, suc, List, drop, length, refl, sym, subst, ◌∙◌, arith}
use Rattle.grb_replay.proofs.Prelude.{Object, HavePlaces}
use Rattle.grb_replay.proofs.Places.{drop_end, have_places_still, keeps_further, keeps_same, places_next}
use Rattle.grb_replay.proofs.wanted.Wanted.make_places.Goals as goal

pub places-init : goal.places-init
places-init c =
    record {
      within = omega arith;
      same = λ o. refl;
      places = subst (λ (os : List Object). HavePlaces c.args.self.now os) (sym (drop_end c.args.objects.now (length c.args.objects.now) refl)) tt;
      kept = keeps_same c.args.self.now;
    }

pub places-preserved : goal.places-preserved
places-preserved c =
    let os : List Object = c.args.objects.now in let at : ℕ = c.places.at - 1 in
    let next : suc at ≡ c.places.at = omega (arith, c.places-test.true) in
    record {
      within = omega (arith, c.places.invariant.within);
      same = λ o. c.in_ok-make_place.ensures.same o ∙ c.places.invariant.same o;
      places = places_next c.make_place.new.self os at c.object_at.result c.object_at.ensures c.in_ok-make_place.ensures.place
          (have_places_still c.places.self c.make_place.new.self c.in_ok-make_place.ensures.kept (drop (suc at) os)
          (subst (λ (n : ℕ). HavePlaces c.places.self (drop n os)) (sym next) c.places.invariant.places));
      kept = keeps_further c.args.self.now c.places.self c.make_place.new.self c.places.invariant.kept c.in_ok-make_place.ensures.kept;
    }
