-- A Kronecker product of whole matrices is whole.
use Rattle.std.proofs.Common.{◌≡◌, ℕ, Bool, true, false, ◌*◌, ◌/◌, ◌%◌, ◌<◌, sym, ap, subst, ◌∙◌, arith}
use Rattle.std.specs.Prelude.{IsTrue, All, Some}
use Rattle.std.specs.List.{AllByRecursion}
use Rattle.std.specs.FinMap.{is_sorted}
use Rattle.std.proofs.lemmas.List.Elements.{All-from_recursion}
use Rattle.grb_core.specs.declared.domain.Domain.{Domain}
use Rattle.grb_core.specs.declared.operator.BinaryOp.{BinaryOp}
use Rattle.grb_core.specs.declared.value.Value.{Value}
use Rattle.grb_core.specs.Value.{IsValueOf}
use Rattle.grb_core.specs.Operator.{value_of_op}
use Rattle.grb_core.specs.Entries.{Cell, cell_cmp, MatrixEntries}
use Rattle.grb_core.specs.Contents.{Matrix, IsMatrix, IsDimension}
use Rattle.grb_core.specs.Written.{both_values}
use Rattle.grb_core.proofs.Made.{within-pointwise}
use Rattle.grb_core.specs.Results.{transposed, turned}
use Rattle.grb_ewise.specs.Premises.{IsMatrixInput, columns_read, rows_read}
use Rattle.grb_ewise.proofs.WholeMatrix.{matrix_of}
use Rattle.grb_sparse.specs.Matrix.{SparseMatrixView}
use Rattle.grb_ewise.specs.Made.{turned_matrix}
use Rattle.grb_ewise.proofs.ReadInputs.{domain_read, ncols_read, nrows_read}
use Rattle.grb_kronecker.specs.Factors.{AreFactors}
use Rattle.grb_core.specs.Pulled.{pulled_matrix}
use Rattle.grb_core.specs.Maps.{kronecker_of}
use Rattle.grb_core.proofs.Each.{made_true}
use Rattle.std.proofs.Common.{mul-pos}
use Rattle.std.proofs.lemmas.Bool.Decides.{nat_tests}
use Rattle.grb_kronecker.specs.Product.{product_matrix}
use Rattle.grb_core.proofs.Products.{kronecker_sorted}
use Rattle.grb_core.proofs.Pulls.{within-cells_made}

product-within : (op : BinaryOp) (m n r c : ℕ) (a b : MatrixEntries) → AllByRecursion (λ e. (e.0.0 < m * r) × (e.0.1 < n * c)) (kronecker_of op r c (m * r) (n * c) a b)
product-within op m n r c a b =
    within-pointwise cell_cmp (λ (k : Cell). (k.0 < m * r) × (k.1 < n * c)) (both_values (value_of_op op))
    (pulled_matrix (m * r) (n * c) (λ (k : Cell). Some (k.0 / r, k.1 / c)) a) (pulled_matrix (m * r) (n * c) (λ (k : Cell). Some (k.0 % r, k.1 % c)) b)
    (within-cells_made _ (m * r) (n * c)) (within-cells_made _ (m * r) (n * c))

pub product_whole : (op : BinaryOp) (d : Domain) (m n r c : ℕ) (a b s : MatrixEntries) → IsDimension (m * r) → IsDimension (n * c)
    → s ≡ kronecker_of op r c (m * r) (n * c) a b → All (λ e. IsValueOf d e.1) s → IsMatrix (matrix_of d (m * r) (n * c) s)
product_whole op d m n r c a b s rows columns is of = record {
  nrows = rows;
  ncols = columns;
  ordered = subst (λ (e : MatrixEntries). IsTrue (is_sorted cell_cmp e)) (sym is) (made_true _ (kronecker_sorted op r c (m * r) (n * c) a b));
  within = subst (λ (e : MatrixEntries). All (λ x. (x.0.0 < m * r) × (x.0.1 < n * c)) e) (sym is)
      (All-from_recursion (λ (x : Cell × Value). (x.0.0 < m * r) × (x.0.1 < n * c)) _ (product-within op m n r c a b));
  of_domain = of;
}

-- the product of two dimensions that is small enough is a dimension
pub product_dimension : (x y : ℕ) → IsDimension x → IsDimension y → x * y < 4294967296 → IsDimension (x * y)
product_dimension x y h k l =
    let p : 0 < x = grind (arith, nat_tests, h) in
    let q : 0 < y = grind (arith, nat_tests, k) in
    let some : 0 < x * y = mul-pos p q in
    grind (arith, nat_tests, some, l)

-- and what is made of the lists of two matrices is their product
pub same_product : (op : BinaryOp) (d : Domain) (m n r c : ℕ) (ea eb s : MatrixEntries) (a b : Matrix) → d ≡ a.domain → m ≡ a.nrows → n ≡ a.ncols → r ≡ b.nrows → c ≡ b.ncols
    → ea ≡ a.entries → eb ≡ b.entries → s ≡ kronecker_of op r c (m * r) (n * c) ea eb → matrix_of d (m * r) (n * c) s ≡ product_matrix op a b
same_product op d m n r c ea eb s a b hd hm hn hr hc ha hb hs =
    ap (λ (e : MatrixEntries). matrix_of d (m * r) (n * c) e) hs
    ∙ (λ i. matrix_of (hd i) (hm i * hr i) (hn i * hc i) (kronecker_of op (hr i) (hc i) (hm i * hr i) (hn i * hc i) (ha i) (hb i)))

-- the product of two matrices as they are read
pub entries_read : (op : BinaryOp) (tran tran1 : Bool) (nrows ncols : ℕ) (a b : Matrix) → rows_read tran a * rows_read tran1 b ≡ nrows → columns_read tran a * columns_read tran1 b ≡ ncols
    → (product_matrix op (turned_matrix tran a) (turned_matrix tran1 b)).entries ≡ kronecker_of op (rows_read tran1 b) (columns_read tran1 b) nrows ncols (turned tran a.entries) (turned tran1 b.entries)
entries_read op true true nrows ncols a b r c = λ i. kronecker_of op b.ncols b.nrows (r i) (c i) (transposed a.entries) (transposed b.entries)
entries_read op true false nrows ncols a b r c = λ i. kronecker_of op b.nrows b.ncols (r i) (c i) (transposed a.entries) b.entries
entries_read op false true nrows ncols a b r c = λ i. kronecker_of op b.ncols b.nrows (r i) (c i) a.entries (transposed b.entries)
entries_read op false false nrows ncols a b r c = λ i. kronecker_of op b.nrows b.ncols (r i) (c i) a.entries b.entries

-- two matrices in place of those as they are read
module _ (tran tran1 : Bool) (a b first second : Matrix) (p : first ≡ turned_matrix tran a) (q : second ≡ turned_matrix tran1 b) where
  pub rows_made : (n : ℕ) → rows_read tran a * rows_read tran1 b ≡ n → first.nrows * second.nrows ≡ n
  rows_made n h = ap (λ (m : Matrix). m.nrows * second.nrows) p ∙ ap (λ (m : Matrix). (turned_matrix tran a).nrows * m.nrows) q
      ∙ ap (λ k. k * (turned_matrix tran1 b).nrows) (nrows_read tran a) ∙ ap (λ k. rows_read tran a * k) (nrows_read tran1 b) ∙ h

  pub columns_made : (n : ℕ) → columns_read tran a * columns_read tran1 b ≡ n → first.ncols * second.ncols ≡ n
  columns_made n h = ap (λ (m : Matrix). m.ncols * second.ncols) p ∙ ap (λ (m : Matrix). (turned_matrix tran a).ncols * m.ncols) q
      ∙ ap (λ k. k * (turned_matrix tran1 b).ncols) (ncols_read tran a) ∙ ap (λ k. columns_read tran a * k) (ncols_read tran1 b) ∙ h

  pub matrix_made : (op : BinaryOp) → product_matrix op first second ≡ product_matrix op (turned_matrix tran a) (turned_matrix tran1 b)
  matrix_made op = λ i. product_matrix op (p i) (q i)

-- the product fits the output
pub product_read : (op : BinaryOp) (tran tran1 : Bool) (of : Domain) (nrows ncols : ℕ) (a b made : SparseMatrixView) → AreFactors tran tran1 of nrows ncols a b
    → made.assembled ≡ true → made.matrix ≡ product_matrix op (turned_matrix tran a.matrix) (turned_matrix tran1 b.matrix) → IsMatrixInput false of nrows ncols made
product_read op tran tran1 of nrows ncols a b made h s e = record {
  assembled = s;
  domain = ap (λ (m : Matrix). m.domain) e ∙ domain_read tran a.matrix ∙ h.a_domain;
  rows = ap (λ (m : Matrix). m.nrows) e ∙ ap (λ n. n * (turned_matrix tran1 b.matrix).nrows) (nrows_read tran a.matrix) ∙ ap (λ n. rows_read tran a.matrix * n) (nrows_read tran1 b.matrix) ∙ h.rows;
  columns = ap (λ (m : Matrix). m.ncols) e ∙ ap (λ n. n * (turned_matrix tran1 b.matrix).ncols) (ncols_read tran a.matrix) ∙ ap (λ n. columns_read tran a.matrix * n) (ncols_read tran1 b.matrix)
      ∙ h.columns;
}

pub fits : (n : ℕ) → IsDimension n → n < 4294967296
fits n h = grind (arith, nat_tests, h)
