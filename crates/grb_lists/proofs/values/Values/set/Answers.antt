use Rattle.std.proofs.Common.{◌∙◌, ap, sym, set}
use Rattle.std.proofs.lemmas.List.{map-set}
use Rattle.grb_core.specs.declared.value.Value.TheVariants as value
use Rattle.grb_lists.specs.declared.values.Values.TheVariants as values
use Rattle.grb_lists.specs.Values.{values_list}
use Rattle.grb_lists.proofs.values.Values.set.Goals as goal

pub returns-in-Bool-clause-list : goal.returns-in-Bool-clause-list
returns-in-Bool-clause-list c =
    map-set (λ b. value.Bool b) c.in-Bool.bools.items c.args.at c.bool_of.result ∙ ap (set (values_list (values.Bool c.in-Bool.bools)) c.args.at) (sym c.bool_of.ensures) ∙ ap (λ v. set (values_list v) c.args.at c.args.value) (sym c.in-Bool.is)

pub returns-in-Uint64-clause-list : goal.returns-in-Uint64-clause-list
returns-in-Uint64-clause-list c =
    map-set (λ n. value.Uint64 n) c.in-Uint64.numbers.items c.args.at c.number_of.result ∙ ap (set (values_list (values.Uint64 c.in-Uint64.numbers)) c.args.at) (sym c.number_of.ensures) ∙ ap (λ v. set (values_list v) c.args.at c.args.value) (sym c.in-Uint64.is)
