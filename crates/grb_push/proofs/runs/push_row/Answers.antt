use Rattle.std.proofs.Common.{arith, ◌≡◌, ◌+◌, ◌<◌, ◌++◌, ◌∷◌, [], ◌∙◌, ℕ, length, get_or, ap, sym, subst}
use Rattle.std.proofs.lemmas.List.Elements.{All-push}
use Rattle.std.specs.List.{All}
use Rattle.grb_core.specs.Value.{IsValueOf}
use Rattle.grb_core.specs.Entries.{VectorEntries}
use Rattle.grb_kernels.specs.Typed.{first_entries}
use Rattle.grb_kernels.proofs.Lists.{first-read, first-all}
use Rattle.grb_sums.specs.ColumnSums.{as_entries, with_values}
use Rattle.grb_push.proofs.RunFolds.{as_entries-append}
use Rattle.grb_sums.proofs.SumsByColumn.{added_more}
use Rattle.grb_push.proofs.runs.push_row.Goals as goal

pub row-preserved : goal.row-preserved
row-preserved g c =
    let tv = g.T.Scalar.value in
    let f = g.R.Term.gives c.args.term.now in
    let cs = c.args.columns.now in
    let vs = c.args.values.now in
    let i = c.row.i in
    let was = c.row.products.items in
    let begun = as_entries tv c.args.products.now.items in
    let x = c.index-values-i.result in
    let made = c.read-value.result in
    let inside : i < length cs = omega arith in
    let is : tv made ≡ f (tv x) = ap tv c.read-value.ensures.same ∙ c.of-made.ensures in
    let one : first_entries tv (i + 1) cs vs ≡ first_entries tv i cs vs ++ (get_or cs i 0, tv x) ∷ [] = first-read tv cs vs i x inside c.requires.same c.index-values-i.is in
    record {
      of_domain = subst (All (λ (p : ℕ × g.row.T.Denot). IsValueOf g.T.Scalar.domain (tv p.1))) (sym c.push_reserved.ensures.items)
          (All-push (λ (p : ℕ × g.row.T.Denot). IsValueOf g.T.Scalar.domain (tv p.1)) was (get_or cs i 0, made) c.row.invariant.of_domain
          (subst (IsValueOf g.T.Scalar.domain) (sym (ap tv c.read-value.ensures.same)) c.read-value.ensures.of_domain));
      added = ap (as_entries tv) c.push_reserved.ensures.items
          ∙ as_entries-append tv was ((get_or cs i 0, made) ∷ [])
          ∙ ap (λ (m : VectorEntries). m ++ (get_or cs i 0, tv made) ∷ []) c.row.invariant.added
          ∙ ap (λ w. (begun ++ with_values f (first_entries tv i cs vs)) ++ (get_or cs i 0, w) ∷ []) is
          ∙ added_more f begun (first_entries tv i cs vs) (first_entries tv (i + 1) cs vs) (get_or cs i 0) (tv x) one;
      len = omega arith;
      room = omega arith;
    }

pub returns-clause-added : goal.returns-clause-added
returns-clause-added g c =
    let tv = g.T.Scalar.value in
    c.row.invariant.added
    ∙ ap (λ (m : VectorEntries). as_entries tv c.args.products.now.items ++ with_values (g.R.Term.gives c.args.term.now) m)
    (first-all tv c.args.columns.now c.args.values.now c.row.i (omega arith) c.requires.same)
