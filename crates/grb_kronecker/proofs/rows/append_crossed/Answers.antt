use Rattle.std.proofs.Common.{◌≡◌, ◌+◌, ℕ, List, length, take, drop, ap, ◌∙◌, arith}
use Rattle.std.proofs.lemmas.List.{drop-take}
use Rattle.grb_kernels.specs.Typed.{entries_of}
use Rattle.grb_maps.proofs.Lists.{of_lent}
use Rattle.grb_kronecker.proofs.rows.append_crossed.Goals as goal

pub returns-clause-entries : goal.returns-clause-entries
returns-clause-entries g c =
    let tv = g.T.Scalar.value in
    let k = c.len-k.result in
    let n = c.cross_after-count.result in
    let columns = c.cross_after-count.new.columns in
    let values = c.cross_after-count.new.values in
    let columns_are : drop k c.truncate.new.self.items ≡ take n (drop k columns) =
    ap (drop k) (c.truncate.ensures.items ∙ of_lent (k + n) c.resize.new.self.len columns _ (omega (arith, c.cross_after-count.auto.columns, ap length c.as_mut_slice.ensures.value, c.resize.new.self.ok.0)))
    ∙ drop-take k n columns in
    let values_are : drop k c.truncate-2.new.self.items ≡ take n (drop k values) =
    ap (drop k) (c.truncate-2.ensures.items ∙ of_lent (k + n) c.resize-2.new.self.len values _ (omega (arith, c.cross_after-count.auto.values, ap length c.as_mut_slice-2.ensures.value, c.resize-2.new.self.ok.0)))
    ∙ drop-take k n values in
    let here : length c.args.columns.now.items ≡ k = omega (arith, c.len-k.ensures, c.args.columns.now.ok.0) in
    ap (λ (m : ℕ). entries_of tv (drop m c.truncate.new.self.items) (drop m c.truncate-2.new.self.items)) here
    ∙ ap (λ (s : List ℕ). entries_of tv s (drop k c.truncate-2.new.self.items)) columns_are
    ∙ ap (entries_of tv (take n (drop k columns))) values_are
    ∙ c.cross_after-count.ensures.entries
