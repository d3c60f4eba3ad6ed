use Rattle.std.proofs.Common.{rules, ap, ◌∙◌, ◌++◌, [], ◌∷◌}
use Rattle.grb_script.proofs.NamesLemmas.{names_in, insert_entry-names_in}
use Rattle.grb_script.proofs.names.Names.make.Goals as goal

pub returns-clause-made : goal.returns-clause-made
returns-clause-made c =
    ap (names_in (λ name. name.items)) c.in_ok-insert.ensures.entries
    ∙ insert_entry-names_in (λ name. name.items) c.self.inside.sorts.entries c.args.name.now c.in_ok-name.name c.args.sort (search rules) (rw c.self.view_is c.requires)
    ∙ ap (λ names. names ++ (c.args.name.now, c.args.sort) ∷ []) c.self.view_is
