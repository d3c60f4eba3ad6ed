use Rattle.std.proofs.Common.{◌≡◌, List, [], ◌∷◌, ◌++◌, length, sym, arith}
use Rattle.grb_kernels.proofs.Lists.{append_nil}
use Rattle.grb_mxm.proofs.rows.push_row.Goals as goal

-- nothing is put behind
nothing : {V : Type 0} (xs ys : List V) → length ys ≡ 0 → xs ≡ xs ++ ys
nothing xs [] e = sym (append_nil xs)
nothing xs (y ∷ ys) e = absurd (omega arith)

pub returns-then-columns-eq0-clause-columns : goal.returns-then-columns-eq0-clause-columns
returns-then-columns-eq0-clause-columns g c = nothing c.args.made.now.columns.items c.args.columns.now (omega arith)

pub returns-then-columns-eq0-clause-values : goal.returns-then-columns-eq0-clause-values
returns-then-columns-eq0-clause-values g c = nothing c.args.made.now.values.items c.args.values.now (omega arith)
