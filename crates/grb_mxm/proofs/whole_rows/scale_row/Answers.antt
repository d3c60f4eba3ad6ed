use Rattle.std.proofs.Common.{◌≡◌, ◌<◌, ◌++◌, ◌∷◌, [], arith, refl, ap, sym, subst, ◌∙◌, length, get_or}
use Rattle.std.specs.List.{AllByRecursion}
use Rattle.std.proofs.lemmas.List.{length-set}
use Rattle.std.proofs.lemmas.List.Elements.{recursion_from_All}
use Rattle.grb_core.specs.Value.{IsValueOf}
use Rattle.grb_core.specs.Operator.{value_of_op}
use Rattle.grb_core.specs.Entries.{VectorEntries}
use Rattle.grb_kernels.specs.Typed.{first_entries}
use Rattle.grb_kernels.proofs.Lists.{first-set_more, first-read, first-all}
use Rattle.grb_sums.specs.ColumnSums.{with_values}
use Rattle.grb_sums.specs.Naming.{name_in, renamed}
use Rattle.grb_mxm.proofs.Names.{few-below}
use Rattle.grb_mxm.proofs.ScaledRow.{scaled_more, all_scaled_more}
use Rattle.grb_mxm.proofs.whole_rows.scale_row.Goals as goal

pub entries-init : goal.entries-init
entries-init g c =
    let row = c.row-row.result in
    let few = few-below g.T.Scalar.value (length c.args.b.now.names.now) row.indices.now row.values.now row.same row.rising
    (recursion_from_All (λ r. r < length c.args.b.now.names.now) row.indices.now c.row-row.ensures.in_range) in
    record { room = omega (arith, few, c.requires.room); so_far = refl; of_domain = tt }

pub entries-preserved : goal.entries-preserved
entries-preserved g c =
    let tv = g.T.Scalar.value in
    let f = value_of_op g.O.Operator.op (tv c.args.x) in
    let name = name_in c.args.b.now.names.now in
    let row = c.row-row.result in
    let cs = row.indices.now in
    let vs = row.values.now in
    let i = c.entries.i in
    let v = c.index-factors-i.result in
    let columns = c.entries.columns in
    let values = c.entries.values in
    let held = c.entries.invariant in
    let inside : i < length cs = omega arith in
    let more = first-read tv cs vs i v inside row.same c.index-factors-i.is in
    let before = first_entries tv i cs vs in
    let written = first_entries tv i columns values in
    record {
      room = omega (arith, held.room, length-set columns i c.name.result);
      so_far =
          first-set_more tv columns values i c.name.result c.read-product.result (omega (arith, held.room, inside)) (omega arith)
          ∙ ap (λ j. written ++ (j, tv c.read-product.result) ∷ []) c.name.ensures
          ∙ ap (λ x. written ++ (name (get_or cs i 0), tv x) ∷ []) c.read-product.ensures.same
          ∙ ap (λ w. written ++ (name (get_or cs i 0), w) ∷ []) c.apply-made.ensures
          ∙ ap (λ (m : VectorEntries). m ++ (name (get_or cs i 0), f (tv v)) ∷ []) held.so_far
          ∙ sym (scaled_more f name before (get_or cs i 0) (tv v))
          ∙ ap (λ (m : VectorEntries). with_values f (renamed name m)) (sym more);
      of_domain = subst (λ (m : VectorEntries). AllByRecursion (λ e. IsValueOf g.T.Scalar.domain (f e.1)) (renamed name m)) (sym more)
          (all_scaled_more (λ w. IsValueOf g.T.Scalar.domain (f w)) name before (get_or cs i 0) (tv v) held.of_domain
          (subst (IsValueOf g.T.Scalar.domain) c.apply-made.ensures c.read-product.ensures.of_domain));
    }

pub returns-clause-entries : goal.returns-clause-entries
returns-clause-entries g c =
    let tv = g.T.Scalar.value in
    let f = value_of_op g.O.Operator.op (tv c.args.x) in
    let name = name_in c.args.b.now.names.now in
    let row = c.row-row.result in
    let cs = row.indices.now in
    let vs = row.values.now in
    let all : length cs ≡ c.entries.i = omega arith in
    ap (λ n. first_entries tv n c.entries.columns c.entries.values) all
    ∙ c.entries.invariant.so_far
    ∙ ap (λ (m : VectorEntries). with_values f (renamed name m)) (first-all tv cs vs c.entries.i c.entries-test.false row.same)
    ∙ ap (with_values f) c.row-row.ensures.entries

pub returns-clause-of_domain : goal.returns-clause-of_domain
returns-clause-of_domain g c =
    let tv = g.T.Scalar.value in
    let f = value_of_op g.O.Operator.op (tv c.args.x) in
    let name = name_in c.args.b.now.names.now in
    let row = c.row-row.result in
    subst (AllByRecursion (λ e. IsValueOf g.T.Scalar.domain (f e.1)))
    (ap (renamed name) (first-all tv row.indices.now row.values.now c.entries.i c.entries-test.false row.same) ∙ c.row-row.ensures.entries)
    c.entries.invariant.of_domain
