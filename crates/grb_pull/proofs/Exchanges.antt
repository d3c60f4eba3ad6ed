-- Operators that take their arguments the other way around, and the products of a matrix's rows with a vector by them.
use Rattle.std.proofs.Common.{◌≡◌, ℕ, Bool, true, false, refl, sym, ap, subst, ◌∙◌}
use Rattle.std.specs.Prelude.{IfOk, IfSome, IsTrue, Option, Some, None, Result, Ok, Err, map}
use Rattle.std.specs.Result.{result_ok}
use Rattle.std.specs.List.{AllByRecursion}
use Rattle.std.specs.Ordering.{nat_cmp}
use Rattle.std.specs.Cmp.{nat_cmp_total}
use Rattle.std.specs.FinMap.{find, is_sorted, nat_cmp-IsAntisymmetric}
use lib.Dec.{T}
use Rattle.grb_core.specs.declared.domain.Domain.TheVariants as domain
use Rattle.grb_core.specs.declared.monoid.Monoid.{Monoid}
use Rattle.grb_core.specs.declared.monoid.Monoid.TheVariants as monoid
use Rattle.grb_core.specs.declared.operator.BinaryOp.{BinaryOp}
use Rattle.grb_core.specs.declared.operator.BinaryOp.TheVariants as op
use Rattle.grb_core.specs.declared.refusal.Refusal.{Refusal}
use Rattle.grb_core.specs.declared.value.Value.{Value}
use Rattle.grb_core.specs.declared.value.Value.TheVariants as value
use Rattle.grb_core.specs.Value.{IsValueOf}
use Rattle.grb_core.specs.Monoid.{monoid_op}
use Rattle.grb_core.specs.Operator.{op_domain, value_of_op}
use Rattle.grb_core.specs.Entries.{Cell, VectorEntries, MatrixEntries, cell_cmp, map_on, values_of}
use Rattle.grb_core.specs.Fold.{fold_of_some}
use Rattle.grb_core.specs.Semiring.{SemiringParts}
use Rattle.grb_core.specs.Results.{each_row, ewise_mult, mxv_of, product_of, row_of, rows_of, transposed, turned_entry, vxm_of}
use Rattle.grb_core.specs.Written.{both_values}
use Rattle.grb_core.proofs.Made.{Holds, of-find, of-row}
use Rattle.grb_core.proofs.ResultLaws.{monoids_commute}
use Rattle.grb_core.proofs.Maps.{cell_cmp_total, is_sorted-map_from, same_entries_at}
use Rattle.grb_core.specs.TransposeLaws.{TransposedTwice, VxmIsMxvExchanged}
use Rattle.grb_core.proofs.Written.{find-pointwise, is_sorted-pointwise}
use Rattle.grb_pull.specs.Exchanged.{IsExchanged, exchanged_op}

-- an operator of a monoid commutes
of_monoid : (m : Monoid) → IsExchanged (monoid_op m) (monoid_op m)
of_monoid m = record { domain = refl; value = monoids_commute m }

first_second : (x y : Value) → IsValueOf domain.Uint64 x → IsValueOf domain.Uint64 y → value_of_op op.First x y ≡ value_of_op op.Second y x
first_second (value.Uint64 x) (value.Uint64 y) g h = refl
first_second (value.Uint64 x) (value.Bool y) g h = absurd h
first_second (value.Bool x) y g h = absurd g

second_first : (x y : Value) → IsValueOf domain.Uint64 x → IsValueOf domain.Uint64 y → value_of_op op.Second x y ≡ value_of_op op.First y x
second_first (value.Uint64 x) (value.Uint64 y) g h = refl
second_first (value.Uint64 x) (value.Bool y) g h = absurd h
second_first (value.Bool x) y g h = absurd g

first_second_bool : (x y : Value) → IsValueOf domain.Bool x → IsValueOf domain.Bool y → value_of_op op.FirstBool x y ≡ value_of_op op.SecondBool y x
first_second_bool (value.Bool x) (value.Bool y) g h = refl
first_second_bool (value.Bool x) (value.Uint64 y) g h = absurd h
first_second_bool (value.Uint64 x) y g h = absurd g

second_first_bool : (x y : Value) → IsValueOf domain.Bool x → IsValueOf domain.Bool y → value_of_op op.SecondBool x y ≡ value_of_op op.FirstBool y x
second_first_bool (value.Bool x) (value.Bool y) g h = refl
second_first_bool (value.Bool x) (value.Uint64 y) g h = absurd h
second_first_bool (value.Uint64 x) y g h = absurd g

exchanged_each : (o : BinaryOp) → IfSome (exchanged_op o) (λ other. IsExchanged other o)
exchanged_each op.Minus = tt
exchanged_each op.FirstBool = record { domain = refl; value = second_first_bool }
exchanged_each op.SecondBool = record { domain = refl; value = first_second_bool }
exchanged_each op.First = record { domain = refl; value = second_first }
exchanged_each op.Second = record { domain = refl; value = first_second }
exchanged_each op.Lor = of_monoid monoid.Lor
exchanged_each op.Land = of_monoid monoid.Land
exchanged_each op.Lxor = of_monoid monoid.Lxor
exchanged_each op.Lxnor = of_monoid monoid.Lxnor
exchanged_each op.Plus = of_monoid monoid.Plus
exchanged_each op.Times = of_monoid monoid.Times
exchanged_each op.Min = of_monoid monoid.Min
exchanged_each op.Max = of_monoid monoid.Max

pub exchanged_is : (o other : BinaryOp) → exchanged_op o ≡ Some other → IsExchanged other o
exchanged_is o other e = subst (λ (r : Option BinaryOp). IfSome r (λ p. IsExchanged p o)) e (exchanged_each o)

-- a semiring by such an operator, if it is one
pub semiring_exchanged : (s : SemiringParts) (m : Monoid) (o : BinaryOp) (r : Result SemiringParts Refusal) → m ≡ s.monoid → exchanged_op s.op ≡ Some o
    → IfOk r (λ k. k ≡ record { monoid = m; op = o }) → IfSome (result_ok r) (λ k. (k.monoid ≡ s.monoid) × IsExchanged k.op s.op)
semiring_exchanged s m o (Ok k) e h is = (ap (λ (x : SemiringParts). x.monoid) is ∙ e, subst (λ p. IsExchanged p s.op) (sym (ap (λ (x : SemiringParts). x.op) is)) (exchanged_is s.op o h))
semiring_exchanged s m o (Err x) e h is = tt

holds_true : (b : Bool) → T b → IsTrue b
holds_true true h = refl
holds_true false h = absurd h

module _ (s t : SemiringParts) (m : t.monoid ≡ s.monoid) (e : IsExchanged t.op s.op) where
  both_exchanged : (x y : Option Value) → Holds (IsValueOf (op_domain s.op)) x → Holds (IsValueOf (op_domain s.op)) y → both_values (value_of_op t.op) x y ≡ both_values (value_of_op s.op) y x
  both_exchanged None None g h = refl
  both_exchanged None (Some y) g h = refl
  both_exchanged (Some x) None g h = refl
  both_exchanged (Some x) (Some y) g h = ap Some (e.value x y g h)

  module _ (u : VectorEntries) (of_u : AllByRecursion (λ (k : ℕ × Value). IsValueOf (op_domain s.op) k.1) u) where
    products_exchanged : (x : VectorEntries) → AllByRecursion (λ (k : ℕ × Value). IsValueOf (op_domain s.op) k.1) x → ewise_mult nat_cmp t.op x u ≡ ewise_mult nat_cmp s.op u x
    products_exchanged x of_x =
        same_entries_at nat_cmp nat_cmp_total nat_cmp-IsAntisymmetric (ewise_mult nat_cmp t.op x u) (ewise_mult nat_cmp s.op u x)
        (is_sorted-pointwise nat_cmp_total nat_cmp-IsAntisymmetric (both_values (value_of_op t.op)) x u) (is_sorted-pointwise nat_cmp_total nat_cmp-IsAntisymmetric (both_values (value_of_op s.op)) u x)
        (λ q. find-pointwise nat_cmp_total nat_cmp-IsAntisymmetric (both_values (value_of_op t.op)) refl q x u
        ∙ both_exchanged (find nat_cmp q x) (find nat_cmp q u) (of-find nat_cmp (IsValueOf (op_domain s.op)) q x of_x) (of-find nat_cmp (IsValueOf (op_domain s.op)) q u of_u)
        ∙ sym (find-pointwise nat_cmp_total nat_cmp-IsAntisymmetric (both_values (value_of_op s.op)) refl q u x))

    product_exchanged : (x : VectorEntries) → AllByRecursion (λ (k : ℕ × Value). IsValueOf (op_domain s.op) k.1) x → product_of t x u ≡ product_of s u x
    product_exchanged x of_x =
        ap (λ (z : VectorEntries). fold_of_some t.monoid (values_of z)) (products_exchanged x of_x) ∙ ap (λ (k : Monoid). fold_of_some k (values_of (ewise_mult nat_cmp s.op u x))) m

    pub mxv_exchanged : TransposedTwice → VxmIsMxvExchanged → (a : MatrixEntries) → IsTrue (is_sorted cell_cmp a) → AllByRecursion (λ (k : Cell × Value). IsValueOf (op_domain s.op) k.1) a
        → mxv_of t a u ≡ vxm_of s u (transposed a)
    mxv_exchanged twice exchanged a h of_a =
        let rows : (j : ℕ) → product_of t (row_of j a) u ≡ product_of s u (row_of j a) = λ j. product_exchanged (row_of j a) (of-row (IsValueOf (op_domain s.op)) j a of_a) in
        ap (map_on (rows_of a)) (λ i j. rows j i)
        ∙ sym (exchanged s u (transposed a) (holds_true _ (is_sorted-map_from cell_cmp cell_cmp_total (map turned_entry a))) ∙ ap (each_row (λ x. product_of s u x)) (twice a h))
