use Rattle.std.proofs.Common.{◌∙◌, ap, subst}
use Rattle.std.specs.Prelude.{All}
use Rattle.std.proofs.lemmas.List.Elements.{recursion_from_All}
use Rattle.grb_core.specs.declared.domain.Domain.{Domain}
use Rattle.grb_core.specs.declared.value.Value.{Value}
use Rattle.grb_core.specs.Value.{IsValueOf}
use Rattle.grb_core.specs.Functions.{value_of_function}
use Rattle.grb_maps.specs.Bound.{bound_value}
use Rattle.grb_maps.proofs.Changed.{same_on}
use Rattle.grb_maps.proofs.apply.change.Goals as goal

pub of-requires : goal.of-requires
of-requires g c = c.bound_of-first.ensures.bound g.T.Scalar.domain c.requires.function

pub choose-requires : goal.choose-requires
choose-requires g c = record { domain = c.bound_of-first.ensures.op g.T.Scalar.domain c.requires.function }

pub returns : goal.returns
returns g c =
    let made = c.in_ok-made.ensures in
    let d = g.T.Scalar.domain in
    let m = (g.O.EachObject.contents c.args.a.now).entries in
    let first = c.bound_of-first.result.0 in
    let op = c.bound_of-first.result.1 in
    let x = g.T.Scalar.value c.of.result in
    record {
      entries = made.entries
          ∙ same_on d (bound_value first op x) (value_of_function c.args.f)
          (λ v h. ap (λ (y : Value). bound_value first op y v) c.of.ensures ∙ c.bound_of-first.ensures.value d v c.requires.function h) m
          (recursion_from_All (λ e. IsValueOf d e.1) m (subst (λ (o : Domain). All (λ e. IsValueOf o e.1) m) c.requires.domain c.show.ensures));
      domain = made.domain;
      rows = made.rows;
      columns = made.columns;
      assembled = made.assembled;
    }
