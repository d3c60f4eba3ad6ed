use Rattle.std.proofs.Common.{Some, sym, ap, ◌∙◌}
use Rattle.grb_results.proofs.Prelude.{option_map, blank_of}
use Rattle.grb_results.proofs.Making.{if_ok, some_of}
use Rattle.grb_results.proofs.table.Table.blank_at.Goals as goal

pub returns-in-Some : goal.returns-in-Some
returns-in-Some c =
    if_ok _ _ c.blank.result
    (λ found. some_of _ _ found
    (λ v e node here. ap (option_map blank_of) (c.shape_at.ensures node here ∙ c.in-Some.is) ∙ ap (λ w. Some w) (sym e)))
    c.blank.ensures
