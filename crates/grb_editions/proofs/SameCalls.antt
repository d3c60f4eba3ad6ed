-- Calls that compare equal are the same.
use Rattle.std.proofs.Common.{◌≡◌, ℕ, Bool, true, false, ◌&&◌, nat_eq, List, [], ◌∷◌, refl, ap, arith}
use Rattle.std.specs.Prelude.{Option, Some, None}
use Rattle.std.specs.Option.{option_eq}
use Rattle.std.specs.Cmp.Lexicographic.{pointwise}
use Rattle.std.proofs.lemmas.Bool.{and_parts}
use Rattle.grb_tuples.proofs.Listed.{cell_same, index_same, lists_same, number_same, value_same}
use Rattle.grb_tuples.proofs.Stored.{eq_cell, eq_index}
use Rattle.grb_core.specs.declared.domain.Domain.{Domain}
use Rattle.grb_core.specs.declared.domain.Domain.TheVariants as domain
use Rattle.grb_core.specs.declared.value.Value.{Value}
use Rattle.grb_core.specs.declared.value.Value.TheVariants as value
use Rattle.grb_core.specs.declared.monoid.Monoid.{Monoid}
use Rattle.grb_core.specs.declared.monoid.Monoid.TheVariants as monoid
use Rattle.grb_core.specs.declared.operator.BinaryOp.{BinaryOp}
use Rattle.grb_core.specs.declared.operator.BinaryOp.TheVariants as op
use Rattle.grb_core.specs.Semiring.{SemiringParts}
use Rattle.grb_core.specs.contracts.domain.DomainPartialEq.TheImpl.{ghosts as domain_ghosts}
use Rattle.grb_core.specs.contracts.monoid.MonoidPartialEq.TheImpl.{ghosts as monoid_ghosts}
use Rattle.grb_core.specs.contracts.operator.BinaryOpPartialEq.TheImpl.{ghosts as op_ghosts}
use Rattle.grb_core.specs.contracts.semiring.SemiringPartialEq.TheImpl.{ghosts as semiring_ghosts}
use Rattle.grb_core.specs.contracts.value.ValuePartialEq.TheImpl.{ghosts as value_ghosts}
use Rattle.grb_core.specs.declared.functions.Function.{Function}
use Rattle.grb_core.specs.declared.functions.Function.TheVariants as function
use Rattle.grb_core.specs.declared.functions.UnaryOp.{UnaryOp}
use Rattle.grb_core.specs.declared.functions.UnaryOp.TheVariants as unary
use Rattle.grb_core.specs.declared.tests.Diagonal.{Diagonal}
use Rattle.grb_core.specs.declared.tests.Diagonal.TheVariants as diagonal
use Rattle.grb_core.specs.declared.tests.Test.{Test}
use Rattle.grb_core.specs.declared.tests.Test.TheVariants as test
use Rattle.grb_core.specs.contracts.functions.FunctionPartialEq.TheImpl.{ghosts as function_ghosts}
use Rattle.grb_core.specs.contracts.functions.UnaryOpPartialEq.TheImpl.{ghosts as unary_ghosts}
use Rattle.grb_core.specs.contracts.tests.DiagonalPartialEq.TheImpl.{ghosts as diagonal_ghosts}
use Rattle.grb_core.specs.contracts.tests.TestPartialEq.TheImpl.{ghosts as test_ghosts}
use Rattle.grb_call.specs.declared.ids.MatrixId.{MatrixId}
use Rattle.grb_call.specs.declared.ids.VectorId.{VectorId}
use Rattle.grb_core.specs.declared.descriptor.Descriptor.{Descriptor}
use Rattle.grb_call.specs.declared.wait_mode.WaitMode.{WaitMode}
use Rattle.grb_call.specs.declared.wait_mode.WaitMode.TheVariants.{Complete, Materialize}
use Rattle.grb_call.specs.declared.call.Call.{Call}
use Rattle.grb_call.specs.declared.call.Call.TheVariants as call
use Rattle.grb_call.specs.declared.term.MatrixTerm.{MatrixTerm}
use Rattle.grb_call.specs.declared.term.MatrixTerm.TheVariants as matrix_term
use Rattle.grb_call.specs.declared.term.VectorTerm.{VectorTerm}
use Rattle.grb_call.specs.declared.term.VectorTerm.TheVariants as vector_term
use Rattle.grb_call.specs.contracts.term.MatrixTermPartialEq.TheImpl.{ghosts as matrix_term_ghosts}
use Rattle.grb_call.specs.contracts.term.VectorTermPartialEq.TheImpl.{ghosts as vector_term_ghosts}
use Rattle.grb_call.specs.contracts.call.CallPartialEq.TheImpl.{ghosts}
use Rattle.grb_core.specs.contracts.descriptor.DescriptorPartialEq.TheImpl.{ghosts as descriptor_ghosts}
use Rattle.grb_call.specs.contracts.wait_mode.WaitModePartialEq.TheImpl.{ghosts as mode_ghosts}

abbrev eq : Call → Call → Bool
eq = ghosts.eq

no : false ≡ true → ⊥
no e = cc

abbrev eq_matrix : MatrixId → MatrixId → Bool
eq_matrix a b = nat_eq a.0 b.0

matrix_same : (a b : MatrixId) → eq_matrix a b ≡ true → a ≡ b
matrix_same a b e = ap (λ n. record { 0 = n }) (number_same a.0 b.0 e)

abbrev eq_vector : VectorId → VectorId → Bool
eq_vector a b = nat_eq a.0 b.0

vector_same : (a b : VectorId) → eq_vector a b ≡ true → a ≡ b
vector_same a b e = ap (λ n. record { 0 = n }) (number_same a.0 b.0 e)

domain_same : (d e : Domain) → domain_ghosts.eq d e ≡ true → d ≡ e
domain_same domain.Bool domain.Bool h = refl
domain_same domain.Uint64 domain.Uint64 h = refl
domain_same domain.Bool domain.Uint64 h = cc
domain_same domain.Uint64 domain.Bool h = cc

monoid_same : (m n : Monoid) → monoid_ghosts.eq m n ≡ true → m ≡ n
monoid_same monoid.Lor monoid.Lor h = refl
monoid_same monoid.Land monoid.Land h = refl
monoid_same monoid.Lxor monoid.Lxor h = refl
monoid_same monoid.Lxnor monoid.Lxnor h = refl
monoid_same monoid.Plus monoid.Plus h = refl
monoid_same monoid.Times monoid.Times h = refl
monoid_same monoid.Min monoid.Min h = refl
monoid_same monoid.Max monoid.Max h = refl
monoid_same m n h = absurd (no h)

op_same : (m n : BinaryOp) → op_ghosts.eq m n ≡ true → m ≡ n
op_same op.Lor op.Lor h = refl
op_same op.Land op.Land h = refl
op_same op.Lxor op.Lxor h = refl
op_same op.Lxnor op.Lxnor h = refl
op_same op.FirstBool op.FirstBool h = refl
op_same op.SecondBool op.SecondBool h = refl
op_same op.Plus op.Plus h = refl
op_same op.Times op.Times h = refl
op_same op.Min op.Min h = refl
op_same op.Max op.Max h = refl
op_same op.Minus op.Minus h = refl
op_same op.First op.First h = refl
op_same op.Second op.Second h = refl
op_same m n h = absurd (no h)

semiring_same : (s t : SemiringParts) → semiring_ghosts.eq s t ≡ true → s ≡ t
semiring_same s t e =
    let p = and_parts (monoid_ghosts.eq s.monoid t.monoid) (op_ghosts.eq s.op t.op) e in λ i. record { monoid = monoid_same s.monoid t.monoid p.0 i; op = op_same s.op t.op p.1 i }

-- a descriptor is its five truth values
flags_same : (a b c d e f g h k l : Bool) → descriptor_ghosts.eq (record { structure = a; comp = c; replace = e; tran = g; tran1 = k }) (record { structure = b; comp = d; replace = f; tran = h; tran1 = l }) ≡ true →
    ◌≡◌ {A = Descriptor} (record { structure = a; comp = c; replace = e; tran = g; tran1 = k }) (record { structure = b; comp = d; replace = f; tran = h; tran1 = l })
flags_same true true true true true true true true true true is = refl
flags_same true true true true true true true true false false is = refl
flags_same true true true true true true false false true true is = refl
flags_same true true true true true true false false false false is = refl
flags_same true true true true false false true true true true is = refl
flags_same true true true true false false true true false false is = refl
flags_same true true true true false false false false true true is = refl
flags_same true true true true false false false false false false is = refl
flags_same true true false false true true true true true true is = refl
flags_same true true false false true true true true false false is = refl
flags_same true true false false true true false false true true is = refl
flags_same true true false false true true false false false false is = refl
flags_same true true false false false false true true true true is = refl
flags_same true true false false false false true true false false is = refl
flags_same true true false false false false false false true true is = refl
flags_same true true false false false false false false false false is = refl
flags_same false false true true true true true true true true is = refl
flags_same false false true true true true true true false false is = refl
flags_same false false true true true true false false true true is = refl
flags_same false false true true true true false false false false is = refl
flags_same false false true true false false true true true true is = refl
flags_same false false true true false false true true false false is = refl
flags_same false false true true false false false false true true is = refl
flags_same false false true true false false false false false false is = refl
flags_same false false false false true true true true true true is = refl
flags_same false false false false true true true true false false is = refl
flags_same false false false false true true false false true true is = refl
flags_same false false false false true true false false false false is = refl
flags_same false false false false false false true true true true is = refl
flags_same false false false false false false true true false false is = refl
flags_same false false false false false false false false true true is = refl
flags_same false false false false false false false false false false is = refl
flags_same a b c d e f g h k l is = absurd (no is)

descriptor_same : (d e : Descriptor) → descriptor_ghosts.eq d e ≡ true → d ≡ e
descriptor_same d e h = flags_same d.structure e.structure d.comp e.comp d.replace e.replace d.tran e.tran d.tran1 e.tran1 h

-- terms
unary_same : (m n : UnaryOp) → unary_ghosts.eq m n ≡ true → m ≡ n
unary_same unary.Identity unary.Identity h = refl
unary_same unary.IdentityBool unary.IdentityBool h = refl
unary_same unary.Ainv unary.Ainv h = refl
unary_same unary.Bnot unary.Bnot h = refl
unary_same unary.Lnot unary.Lnot h = refl
unary_same m n h = absurd (no h)

function_same : (f g : Function) → function_ghosts.eq f g ≡ true → f ≡ g
function_same (function.Unary m) (function.Unary n) h = ap function.Unary (unary_same m n h)
function_same (function.First x m) (function.First y n) h = let p = and_parts (value_ghosts.eq x y) (op_ghosts.eq m n) h in λ i. function.First (value_same x y p.0 i) (op_same m n p.1 i)
function_same (function.Second m x) (function.Second n y) h = let p = and_parts (op_ghosts.eq m n) (value_ghosts.eq x y) h in λ i. function.Second (op_same m n p.0 i) (value_same x y p.1 i)
function_same f g h = absurd (no h)

diagonal_same : (d e : Diagonal) → diagonal_ghosts.eq d e ≡ true → d ≡ e
diagonal_same (diagonal.Above m) (diagonal.Above n) h = ap diagonal.Above (number_same m n h)
diagonal_same (diagonal.Below m) (diagonal.Below n) h = ap diagonal.Below (number_same m n h)
diagonal_same d e h = absurd (no h)

test_same : (t u : Test) → test_ghosts.eq t u ≡ true → t ≡ u
test_same (test.Tril d) (test.Tril e) h = ap test.Tril (diagonal_same d e h)
test_same (test.Triu d) (test.Triu e) h = ap test.Triu (diagonal_same d e h)
test_same (test.Diag d) (test.Diag e) h = ap test.Diag (diagonal_same d e h)
test_same (test.Offdiag d) (test.Offdiag e) h = ap test.Offdiag (diagonal_same d e h)
test_same (test.RowLe m) (test.RowLe n) h = ap test.RowLe (number_same m n h)
test_same (test.RowGt m) (test.RowGt n) h = ap test.RowGt (number_same m n h)
test_same (test.ColLe m) (test.ColLe n) h = ap test.ColLe (number_same m n h)
test_same (test.ColGt m) (test.ColGt n) h = ap test.ColGt (number_same m n h)
test_same (test.ValueEq x) (test.ValueEq y) h = ap test.ValueEq (value_same x y h)
test_same (test.ValueNe x) (test.ValueNe y) h = ap test.ValueNe (value_same x y h)
test_same (test.ValueLt x) (test.ValueLt y) h = ap test.ValueLt (value_same x y h)
test_same (test.ValueLe x) (test.ValueLe y) h = ap test.ValueLe (value_same x y h)
test_same (test.ValueGt x) (test.ValueGt y) h = ap test.ValueGt (value_same x y h)
test_same (test.ValueGe x) (test.ValueGe y) h = ap test.ValueGe (value_same x y h)
test_same t u h = absurd (no h)

matrix_term_same : (x y : MatrixTerm) → matrix_term_ghosts.eq x y ≡ true → x ≡ y
matrix_term_same (matrix_term.Transposed a) (matrix_term.Transposed b) h = ap matrix_term.Transposed (matrix_same a b h)
matrix_term_same (matrix_term.Applied f a) (matrix_term.Applied g b) h = let p = and_parts (function_ghosts.eq f g) (eq_matrix a b) h in λ i. matrix_term.Applied (function_same f g p.0 i) (matrix_same a b p.1 i)
matrix_term_same (matrix_term.Selected t a) (matrix_term.Selected u b) h = let p = and_parts (test_ghosts.eq t u) (eq_matrix a b) h in λ i. matrix_term.Selected (test_same t u p.0 i) (matrix_same a b p.1 i)
matrix_term_same (matrix_term.Kronecker m a b) (matrix_term.Kronecker n c d) h =
    let p = and_parts (op_ghosts.eq m n) (eq_matrix a c && eq_matrix b d) h in let q = and_parts (eq_matrix a c) (eq_matrix b d) p.1 in
    λ i. matrix_term.Kronecker (op_same m n p.0 i) (matrix_same a c q.0 i) (matrix_same b d q.1 i)
matrix_term_same x y h = absurd (no h)

vector_term_same : (x y : VectorTerm) → vector_term_ghosts.eq x y ≡ true → x ≡ y
vector_term_same (vector_term.Applied f u) (vector_term.Applied g v) h = let p = and_parts (function_ghosts.eq f g) (eq_vector u v) h in λ i. vector_term.Applied (function_same f g p.0 i) (vector_same u v p.1 i)
vector_term_same (vector_term.Selected t u) (vector_term.Selected x v) h = let p = and_parts (test_ghosts.eq t x) (eq_vector u v) h in λ i. vector_term.Selected (test_same t x p.0 i) (vector_same u v p.1 i)
vector_term_same x y h = absurd (no h)

mode_same : (m n : WaitMode) → mode_ghosts.eq m n ≡ true → m ≡ n
mode_same Complete Complete h = refl
mode_same Materialize Materialize h = refl
mode_same m n h = absurd (no h)

option_same : {X : Type 0} (f : X → X → Bool) → ((x y : X) → f x y ≡ true → x ≡ y) → (o p : Option X) → option_eq f o p ≡ true → o ≡ p
option_same f same None None e = refl
option_same f same None (Some y) e = cc
option_same f same (Some x) None e = cc
option_same f same (Some x) (Some y) e = ap Some (same x y e)

pub same : (a b : Call) → eq a b ≡ true → a ≡ b
same (call.NewMatrix x0 x1 x2) (call.NewMatrix y0 y1 y2) e =
    let p0 = and_parts (domain_ghosts.eq x0 y0) ((nat_eq x1 y1 && nat_eq x2 y2)) e in let p1 = and_parts (nat_eq x1 y1) (nat_eq x2 y2) p0.1 in λ i. call.NewMatrix (domain_same x0 y0 p0.0 i) (number_same x1 y1 p1.0 i) (number_same x2 y2 p1.1 i)
same (call.NewVector x0 x1) (call.NewVector y0 y1) e =
    let p0 = and_parts (domain_ghosts.eq x0 y0) (nat_eq x1 y1) e in λ i. call.NewVector (domain_same x0 y0 p0.0 i) (number_same x1 y1 p0.1 i)
same (call.FreeMatrix x0) (call.FreeMatrix y0) e =
    λ i. call.FreeMatrix (matrix_same x0 y0 e i)
same (call.FreeVector x0) (call.FreeVector y0) e =
    λ i. call.FreeVector (vector_same x0 y0 e i)
same (call.SetMatrix x0 x1 x2 x3) (call.SetMatrix y0 y1 y2 y3) e =
    let p0 = and_parts (nat_eq x0.0 y0.0) ((nat_eq x1 y1 && (nat_eq x2 y2 && value_ghosts.eq x3 y3))) e in let p1 = and_parts (nat_eq x1 y1) ((nat_eq x2 y2 && value_ghosts.eq x3 y3)) p0.1 in let p2 = and_parts (nat_eq x2 y2) (value_ghosts.eq x3 y3) p1.1 in λ i. call.SetMatrix (matrix_same x0 y0 p0.0 i) (number_same x1 y1 p1.0 i) (number_same x2 y2 p2.0 i) (value_same x3 y3 p2.1 i)
same (call.SetVector x0 x1 x2) (call.SetVector y0 y1 y2) e =
    let p0 = and_parts (nat_eq x0.0 y0.0) ((nat_eq x1 y1 && value_ghosts.eq x2 y2)) e in let p1 = and_parts (nat_eq x1 y1) (value_ghosts.eq x2 y2) p0.1 in λ i. call.SetVector (vector_same x0 y0 p0.0 i) (number_same x1 y1 p1.0 i) (value_same x2 y2 p1.1 i)
same (call.RemoveMatrix x0 x1 x2) (call.RemoveMatrix y0 y1 y2) e =
    let p0 = and_parts (nat_eq x0.0 y0.0) ((nat_eq x1 y1 && nat_eq x2 y2)) e in let p1 = and_parts (nat_eq x1 y1) (nat_eq x2 y2) p0.1 in λ i. call.RemoveMatrix (matrix_same x0 y0 p0.0 i) (number_same x1 y1 p1.0 i) (number_same x2 y2 p1.1 i)
same (call.RemoveVector x0 x1) (call.RemoveVector y0 y1) e =
    let p0 = and_parts (nat_eq x0.0 y0.0) (nat_eq x1 y1) e in λ i. call.RemoveVector (vector_same x0 y0 p0.0 i) (number_same x1 y1 p0.1 i)
same (call.GetMatrix x0 x1 x2) (call.GetMatrix y0 y1 y2) e =
    let p0 = and_parts (nat_eq x0.0 y0.0) ((nat_eq x1 y1 && nat_eq x2 y2)) e in let p1 = and_parts (nat_eq x1 y1) (nat_eq x2 y2) p0.1 in λ i. call.GetMatrix (matrix_same x0 y0 p0.0 i) (number_same x1 y1 p1.0 i) (number_same x2 y2 p1.1 i)
same (call.GetVector x0 x1) (call.GetVector y0 y1) e =
    let p0 = and_parts (nat_eq x0.0 y0.0) (nat_eq x1 y1) e in λ i. call.GetVector (vector_same x0 y0 p0.0 i) (number_same x1 y1 p0.1 i)
same (call.NvalsMatrix x0) (call.NvalsMatrix y0) e =
    λ i. call.NvalsMatrix (matrix_same x0 y0 e i)
same (call.NvalsVector x0) (call.NvalsVector y0) e =
    λ i. call.NvalsVector (vector_same x0 y0 e i)
same (call.SizeMatrix x0) (call.SizeMatrix y0) e =
    λ i. call.SizeMatrix (matrix_same x0 y0 e i)
same (call.SizeVector x0) (call.SizeVector y0) e =
    λ i. call.SizeVector (vector_same x0 y0 e i)
same (call.ClearMatrix x0) (call.ClearMatrix y0) e =
    λ i. call.ClearMatrix (matrix_same x0 y0 e i)
same (call.ClearVector x0) (call.ClearVector y0) e =
    λ i. call.ClearVector (vector_same x0 y0 e i)
same (call.ResizeMatrix x0 x1 x2) (call.ResizeMatrix y0 y1 y2) e =
    let p0 = and_parts (nat_eq x0.0 y0.0) ((nat_eq x1 y1 && nat_eq x2 y2)) e in let p1 = and_parts (nat_eq x1 y1) (nat_eq x2 y2) p0.1 in λ i. call.ResizeMatrix (matrix_same x0 y0 p0.0 i) (number_same x1 y1 p1.0 i) (number_same x2 y2 p1.1 i)
same (call.ResizeVector x0 x1) (call.ResizeVector y0 y1) e =
    let p0 = and_parts (nat_eq x0.0 y0.0) (nat_eq x1 y1) e in λ i. call.ResizeVector (vector_same x0 y0 p0.0 i) (number_same x1 y1 p0.1 i)
same (call.DupMatrix x0) (call.DupMatrix y0) e =
    λ i. call.DupMatrix (matrix_same x0 y0 e i)
same (call.DupVector x0) (call.DupVector y0) e =
    λ i. call.DupVector (vector_same x0 y0 e i)
same (call.BuildMatrix x0 x1 x2) (call.BuildMatrix y0 y1 y2) e =
    let p0 = and_parts (nat_eq x0.0 y0.0) ((pointwise eq_cell x1 y1 && monoid_ghosts.eq x2 y2)) e in let p1 = and_parts (pointwise eq_cell x1 y1) (monoid_ghosts.eq x2 y2) p0.1 in λ i. call.BuildMatrix (matrix_same x0 y0 p0.0 i) (lists_same eq_cell cell_same x1 y1 p1.0 i) (monoid_same x2 y2 p1.1 i)
same (call.BuildVector x0 x1 x2) (call.BuildVector y0 y1 y2) e =
    let p0 = and_parts (nat_eq x0.0 y0.0) ((pointwise eq_index x1 y1 && monoid_ghosts.eq x2 y2)) e in let p1 = and_parts (pointwise eq_index x1 y1) (monoid_ghosts.eq x2 y2) p0.1 in λ i. call.BuildVector (vector_same x0 y0 p0.0 i) (lists_same eq_index index_same x1 y1 p1.0 i) (monoid_same x2 y2 p1.1 i)
same (call.EwiseAddMatrix x0 x1 x2 x3 x4 x5 x6) (call.EwiseAddMatrix y0 y1 y2 y3 y4 y5 y6) e =
    let p0 = and_parts (nat_eq x0.0 y0.0) ((option_eq eq_matrix x1 y1 && (option_eq op_ghosts.eq x2 y2 && (op_ghosts.eq x3 y3 && (nat_eq x4.0 y4.0 && (nat_eq x5.0 y5.0 && descriptor_ghosts.eq x6 y6)))))) e in let p1 = and_parts (option_eq eq_matrix x1 y1) ((option_eq op_ghosts.eq x2 y2 && (op_ghosts.eq x3 y3 && (nat_eq x4.0 y4.0 && (nat_eq x5.0 y5.0 && descriptor_ghosts.eq x6 y6))))) p0.1 in let p2 = and_parts (option_eq op_ghosts.eq x2 y2) ((op_ghosts.eq x3 y3 && (nat_eq x4.0 y4.0 && (nat_eq x5.0 y5.0 && descriptor_ghosts.eq x6 y6)))) p1.1 in let p3 = and_parts (op_ghosts.eq x3 y3) ((nat_eq x4.0 y4.0 && (nat_eq x5.0 y5.0 && descriptor_ghosts.eq x6 y6))) p2.1 in let p4 = and_parts (nat_eq x4.0 y4.0) ((nat_eq x5.0 y5.0 && descriptor_ghosts.eq x6 y6)) p3.1 in let p5 = and_parts (nat_eq x5.0 y5.0) (descriptor_ghosts.eq x6 y6) p4.1 in λ i. call.EwiseAddMatrix (matrix_same x0 y0 p0.0 i) (option_same eq_matrix matrix_same x1 y1 p1.0 i) (option_same op_ghosts.eq op_same x2 y2 p2.0 i) (op_same x3 y3 p3.0 i) (matrix_same x4 y4 p4.0 i) (matrix_same x5 y5 p5.0 i) (descriptor_same x6 y6 p5.1 i)
same (call.EwiseAddVector x0 x1 x2 x3 x4 x5 x6) (call.EwiseAddVector y0 y1 y2 y3 y4 y5 y6) e =
    let p0 = and_parts (nat_eq x0.0 y0.0) ((option_eq eq_vector x1 y1 && (option_eq op_ghosts.eq x2 y2 && (op_ghosts.eq x3 y3 && (nat_eq x4.0 y4.0 && (nat_eq x5.0 y5.0 && descriptor_ghosts.eq x6 y6)))))) e in let p1 = and_parts (option_eq eq_vector x1 y1) ((option_eq op_ghosts.eq x2 y2 && (op_ghosts.eq x3 y3 && (nat_eq x4.0 y4.0 && (nat_eq x5.0 y5.0 && descriptor_ghosts.eq x6 y6))))) p0.1 in let p2 = and_parts (option_eq op_ghosts.eq x2 y2) ((op_ghosts.eq x3 y3 && (nat_eq x4.0 y4.0 && (nat_eq x5.0 y5.0 && descriptor_ghosts.eq x6 y6)))) p1.1 in let p3 = and_parts (op_ghosts.eq x3 y3) ((nat_eq x4.0 y4.0 && (nat_eq x5.0 y5.0 && descriptor_ghosts.eq x6 y6))) p2.1 in let p4 = and_parts (nat_eq x4.0 y4.0) ((nat_eq x5.0 y5.0 && descriptor_ghosts.eq x6 y6)) p3.1 in let p5 = and_parts (nat_eq x5.0 y5.0) (descriptor_ghosts.eq x6 y6) p4.1 in λ i. call.EwiseAddVector (vector_same x0 y0 p0.0 i) (option_same eq_vector vector_same x1 y1 p1.0 i) (option_same op_ghosts.eq op_same x2 y2 p2.0 i) (op_same x3 y3 p3.0 i) (vector_same x4 y4 p4.0 i) (vector_same x5 y5 p5.0 i) (descriptor_same x6 y6 p5.1 i)
same (call.EwiseMultMatrix x0 x1 x2 x3 x4 x5 x6) (call.EwiseMultMatrix y0 y1 y2 y3 y4 y5 y6) e =
    let p0 = and_parts (nat_eq x0.0 y0.0) ((option_eq eq_matrix x1 y1 && (option_eq op_ghosts.eq x2 y2 && (op_ghosts.eq x3 y3 && (nat_eq x4.0 y4.0 && (nat_eq x5.0 y5.0 && descriptor_ghosts.eq x6 y6)))))) e in let p1 = and_parts (option_eq eq_matrix x1 y1) ((option_eq op_ghosts.eq x2 y2 && (op_ghosts.eq x3 y3 && (nat_eq x4.0 y4.0 && (nat_eq x5.0 y5.0 && descriptor_ghosts.eq x6 y6))))) p0.1 in let p2 = and_parts (option_eq op_ghosts.eq x2 y2) ((op_ghosts.eq x3 y3 && (nat_eq x4.0 y4.0 && (nat_eq x5.0 y5.0 && descriptor_ghosts.eq x6 y6)))) p1.1 in let p3 = and_parts (op_ghosts.eq x3 y3) ((nat_eq x4.0 y4.0 && (nat_eq x5.0 y5.0 && descriptor_ghosts.eq x6 y6))) p2.1 in let p4 = and_parts (nat_eq x4.0 y4.0) ((nat_eq x5.0 y5.0 && descriptor_ghosts.eq x6 y6)) p3.1 in let p5 = and_parts (nat_eq x5.0 y5.0) (descriptor_ghosts.eq x6 y6) p4.1 in λ i. call.EwiseMultMatrix (matrix_same x0 y0 p0.0 i) (option_same eq_matrix matrix_same x1 y1 p1.0 i) (option_same op_ghosts.eq op_same x2 y2 p2.0 i) (op_same x3 y3 p3.0 i) (matrix_same x4 y4 p4.0 i) (matrix_same x5 y5 p5.0 i) (descriptor_same x6 y6 p5.1 i)
same (call.EwiseMultVector x0 x1 x2 x3 x4 x5 x6) (call.EwiseMultVector y0 y1 y2 y3 y4 y5 y6) e =
    let p0 = and_parts (nat_eq x0.0 y0.0) ((option_eq eq_vector x1 y1 && (option_eq op_ghosts.eq x2 y2 && (op_ghosts.eq x3 y3 && (nat_eq x4.0 y4.0 && (nat_eq x5.0 y5.0 && descriptor_ghosts.eq x6 y6)))))) e in let p1 = and_parts (option_eq eq_vector x1 y1) ((option_eq op_ghosts.eq x2 y2 && (op_ghosts.eq x3 y3 && (nat_eq x4.0 y4.0 && (nat_eq x5.0 y5.0 && descriptor_ghosts.eq x6 y6))))) p0.1 in let p2 = and_parts (option_eq op_ghosts.eq x2 y2) ((op_ghosts.eq x3 y3 && (nat_eq x4.0 y4.0 && (nat_eq x5.0 y5.0 && descriptor_ghosts.eq x6 y6)))) p1.1 in let p3 = and_parts (op_ghosts.eq x3 y3) ((nat_eq x4.0 y4.0 && (nat_eq x5.0 y5.0 && descriptor_ghosts.eq x6 y6))) p2.1 in let p4 = and_parts (nat_eq x4.0 y4.0) ((nat_eq x5.0 y5.0 && descriptor_ghosts.eq x6 y6)) p3.1 in let p5 = and_parts (nat_eq x5.0 y5.0) (descriptor_ghosts.eq x6 y6) p4.1 in λ i. call.EwiseMultVector (vector_same x0 y0 p0.0 i) (option_same eq_vector vector_same x1 y1 p1.0 i) (option_same op_ghosts.eq op_same x2 y2 p2.0 i) (op_same x3 y3 p3.0 i) (vector_same x4 y4 p4.0 i) (vector_same x5 y5 p5.0 i) (descriptor_same x6 y6 p5.1 i)
same (call.Mxv x0 x1 x2 x3 x4 x5 x6) (call.Mxv y0 y1 y2 y3 y4 y5 y6) e =
    let p0 = and_parts (nat_eq x0.0 y0.0) ((option_eq eq_vector x1 y1 && (option_eq op_ghosts.eq x2 y2 && (semiring_ghosts.eq x3 y3 && (nat_eq x4.0 y4.0 && (nat_eq x5.0 y5.0 && descriptor_ghosts.eq x6 y6)))))) e in let p1 = and_parts (option_eq eq_vector x1 y1) ((option_eq op_ghosts.eq x2 y2 && (semiring_ghosts.eq x3 y3 && (nat_eq x4.0 y4.0 && (nat_eq x5.0 y5.0 && descriptor_ghosts.eq x6 y6))))) p0.1 in let p2 = and_parts (option_eq op_ghosts.eq x2 y2) ((semiring_ghosts.eq x3 y3 && (nat_eq x4.0 y4.0 && (nat_eq x5.0 y5.0 && descriptor_ghosts.eq x6 y6)))) p1.1 in let p3 = and_parts (semiring_ghosts.eq x3 y3) ((nat_eq x4.0 y4.0 && (nat_eq x5.0 y5.0 && descriptor_ghosts.eq x6 y6))) p2.1 in let p4 = and_parts (nat_eq x4.0 y4.0) ((nat_eq x5.0 y5.0 && descriptor_ghosts.eq x6 y6)) p3.1 in let p5 = and_parts (nat_eq x5.0 y5.0) (descriptor_ghosts.eq x6 y6) p4.1 in λ i. call.Mxv (vector_same x0 y0 p0.0 i) (option_same eq_vector vector_same x1 y1 p1.0 i) (option_same op_ghosts.eq op_same x2 y2 p2.0 i) (semiring_same x3 y3 p3.0 i) (matrix_same x4 y4 p4.0 i) (vector_same x5 y5 p5.0 i) (descriptor_same x6 y6 p5.1 i)
same (call.Vxm x0 x1 x2 x3 x4 x5 x6) (call.Vxm y0 y1 y2 y3 y4 y5 y6) e =
    let p0 = and_parts (nat_eq x0.0 y0.0) ((option_eq eq_vector x1 y1 && (option_eq op_ghosts.eq x2 y2 && (semiring_ghosts.eq x3 y3 && (nat_eq x4.0 y4.0 && (nat_eq x5.0 y5.0 && descriptor_ghosts.eq x6 y6)))))) e in let p1 = and_parts (option_eq eq_vector x1 y1) ((option_eq op_ghosts.eq x2 y2 && (semiring_ghosts.eq x3 y3 && (nat_eq x4.0 y4.0 && (nat_eq x5.0 y5.0 && descriptor_ghosts.eq x6 y6))))) p0.1 in let p2 = and_parts (option_eq op_ghosts.eq x2 y2) ((semiring_ghosts.eq x3 y3 && (nat_eq x4.0 y4.0 && (nat_eq x5.0 y5.0 && descriptor_ghosts.eq x6 y6)))) p1.1 in let p3 = and_parts (semiring_ghosts.eq x3 y3) ((nat_eq x4.0 y4.0 && (nat_eq x5.0 y5.0 && descriptor_ghosts.eq x6 y6))) p2.1 in let p4 = and_parts (nat_eq x4.0 y4.0) ((nat_eq x5.0 y5.0 && descriptor_ghosts.eq x6 y6)) p3.1 in let p5 = and_parts (nat_eq x5.0 y5.0) (descriptor_ghosts.eq x6 y6) p4.1 in λ i. call.Vxm (vector_same x0 y0 p0.0 i) (option_same eq_vector vector_same x1 y1 p1.0 i) (option_same op_ghosts.eq op_same x2 y2 p2.0 i) (semiring_same x3 y3 p3.0 i) (vector_same x4 y4 p4.0 i) (matrix_same x5 y5 p5.0 i) (descriptor_same x6 y6 p5.1 i)
same (call.Mxm x0 x1 x2 x3 x4 x5 x6) (call.Mxm y0 y1 y2 y3 y4 y5 y6) e =
    let p0 = and_parts (nat_eq x0.0 y0.0) ((option_eq eq_matrix x1 y1 && (option_eq op_ghosts.eq x2 y2 && (semiring_ghosts.eq x3 y3 && (nat_eq x4.0 y4.0 && (nat_eq x5.0 y5.0 && descriptor_ghosts.eq x6 y6)))))) e in let p1 = and_parts (option_eq eq_matrix x1 y1) ((option_eq op_ghosts.eq x2 y2 && (semiring_ghosts.eq x3 y3 && (nat_eq x4.0 y4.0 && (nat_eq x5.0 y5.0 && descriptor_ghosts.eq x6 y6))))) p0.1 in let p2 = and_parts (option_eq op_ghosts.eq x2 y2) ((semiring_ghosts.eq x3 y3 && (nat_eq x4.0 y4.0 && (nat_eq x5.0 y5.0 && descriptor_ghosts.eq x6 y6)))) p1.1 in let p3 = and_parts (semiring_ghosts.eq x3 y3) ((nat_eq x4.0 y4.0 && (nat_eq x5.0 y5.0 && descriptor_ghosts.eq x6 y6))) p2.1 in let p4 = and_parts (nat_eq x4.0 y4.0) ((nat_eq x5.0 y5.0 && descriptor_ghosts.eq x6 y6)) p3.1 in let p5 = and_parts (nat_eq x5.0 y5.0) (descriptor_ghosts.eq x6 y6) p4.1 in λ i. call.Mxm (matrix_same x0 y0 p0.0 i) (option_same eq_matrix matrix_same x1 y1 p1.0 i) (option_same op_ghosts.eq op_same x2 y2 p2.0 i) (semiring_same x3 y3 p3.0 i) (matrix_same x4 y4 p4.0 i) (matrix_same x5 y5 p5.0 i) (descriptor_same x6 y6 p5.1 i)
same (call.ReduceRows x0 x1 x2 x3 x4 x5) (call.ReduceRows y0 y1 y2 y3 y4 y5) e =
    let p0 = and_parts (nat_eq x0.0 y0.0) ((option_eq eq_vector x1 y1 && (option_eq op_ghosts.eq x2 y2 && (monoid_ghosts.eq x3 y3 && (nat_eq x4.0 y4.0 && descriptor_ghosts.eq x5 y5))))) e in let p1 = and_parts (option_eq eq_vector x1 y1) ((option_eq op_ghosts.eq x2 y2 && (monoid_ghosts.eq x3 y3 && (nat_eq x4.0 y4.0 && descriptor_ghosts.eq x5 y5)))) p0.1 in let p2 = and_parts (option_eq op_ghosts.eq x2 y2) ((monoid_ghosts.eq x3 y3 && (nat_eq x4.0 y4.0 && descriptor_ghosts.eq x5 y5))) p1.1 in let p3 = and_parts (monoid_ghosts.eq x3 y3) ((nat_eq x4.0 y4.0 && descriptor_ghosts.eq x5 y5)) p2.1 in let p4 = and_parts (nat_eq x4.0 y4.0) (descriptor_ghosts.eq x5 y5) p3.1 in λ i. call.ReduceRows (vector_same x0 y0 p0.0 i) (option_same eq_vector vector_same x1 y1 p1.0 i) (option_same op_ghosts.eq op_same x2 y2 p2.0 i) (monoid_same x3 y3 p3.0 i) (matrix_same x4 y4 p4.0 i) (descriptor_same x5 y5 p4.1 i)
same (call.WriteMatrix x0 x1 x2 x3 x4) (call.WriteMatrix y0 y1 y2 y3 y4) e =
    let p0 = and_parts (nat_eq x0.0 y0.0) ((option_eq eq_matrix x1 y1 && (option_eq op_ghosts.eq x2 y2 && (matrix_term_ghosts.eq x3 y3 && descriptor_ghosts.eq x4 y4)))) e in
    let p1 = and_parts (option_eq eq_matrix x1 y1) ((option_eq op_ghosts.eq x2 y2 && (matrix_term_ghosts.eq x3 y3 && descriptor_ghosts.eq x4 y4))) p0.1 in
    let p2 = and_parts (option_eq op_ghosts.eq x2 y2) ((matrix_term_ghosts.eq x3 y3 && descriptor_ghosts.eq x4 y4)) p1.1 in
    let p3 = and_parts (matrix_term_ghosts.eq x3 y3) (descriptor_ghosts.eq x4 y4) p2.1 in
    λ i. call.WriteMatrix (matrix_same x0 y0 p0.0 i) (option_same eq_matrix matrix_same x1 y1 p1.0 i) (option_same op_ghosts.eq op_same x2 y2 p2.0 i) (matrix_term_same x3 y3 p3.0 i) (descriptor_same x4 y4 p3.1 i)
same (call.WriteVector x0 x1 x2 x3 x4) (call.WriteVector y0 y1 y2 y3 y4) e =
    let p0 = and_parts (nat_eq x0.0 y0.0) ((option_eq eq_vector x1 y1 && (option_eq op_ghosts.eq x2 y2 && (vector_term_ghosts.eq x3 y3 && descriptor_ghosts.eq x4 y4)))) e in
    let p1 = and_parts (option_eq eq_vector x1 y1) ((option_eq op_ghosts.eq x2 y2 && (vector_term_ghosts.eq x3 y3 && descriptor_ghosts.eq x4 y4))) p0.1 in
    let p2 = and_parts (option_eq op_ghosts.eq x2 y2) ((vector_term_ghosts.eq x3 y3 && descriptor_ghosts.eq x4 y4)) p1.1 in
    let p3 = and_parts (vector_term_ghosts.eq x3 y3) (descriptor_ghosts.eq x4 y4) p2.1 in
    λ i. call.WriteVector (vector_same x0 y0 p0.0 i) (option_same eq_vector vector_same x1 y1 p1.0 i) (option_same op_ghosts.eq op_same x2 y2 p2.0 i) (vector_term_same x3 y3 p3.0 i) (descriptor_same x4 y4 p3.1 i)
same (call.Diag x0 x1) (call.Diag y0 y1) e =
    let p0 = and_parts (nat_eq x0.0 y0.0) (diagonal_ghosts.eq x1 y1) e in λ i. call.Diag (vector_same x0 y0 p0.0 i) (diagonal_same x1 y1 p0.1 i)
same (call.ReduceMatrix x0 x1) (call.ReduceMatrix y0 y1) e =
    let p0 = and_parts (nat_eq x0.0 y0.0) (monoid_ghosts.eq x1 y1) e in λ i. call.ReduceMatrix (matrix_same x0 y0 p0.0 i) (monoid_same x1 y1 p0.1 i)
same (call.ReduceVector x0 x1) (call.ReduceVector y0 y1) e =
    let p0 = and_parts (nat_eq x0.0 y0.0) (monoid_ghosts.eq x1 y1) e in λ i. call.ReduceVector (vector_same x0 y0 p0.0 i) (monoid_same x1 y1 p0.1 i)
same (call.WaitMatrix x0 x1) (call.WaitMatrix y0 y1) e =
    let p0 = and_parts (nat_eq x0.0 y0.0) (mode_ghosts.eq x1 y1) e in λ i. call.WaitMatrix (matrix_same x0 y0 p0.0 i) (mode_same x1 y1 p0.1 i)
same (call.WaitVector x0 x1) (call.WaitVector y0 y1) e =
    let p0 = and_parts (nat_eq x0.0 y0.0) (mode_ghosts.eq x1 y1) e in λ i. call.WaitVector (vector_same x0 y0 p0.0 i) (mode_same x1 y1 p0.1 i)
same a b e = absurd (no e)
