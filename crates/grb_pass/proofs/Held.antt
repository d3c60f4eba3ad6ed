-- Where an object lies that a wait had the changes done of.
use Rattle.std.proofs.Common.{◌≡◌, ℕ, ◌<◌, ◌≤◌, ◌⊎◌, inl, inr, true, false, length, is_some, refl, sym, ap, subst, ◌∙◌, arith, Option, Some, None, option_map, List, [], ◌∷◌, take}
use Rattle.grb_pass.proofs.Prelude.{IfNone, IfSome, MatchOption, Object, ObjectShapes, is_live, Store, empty_store, matrix_at, shapes_of, vector_at, after_all, calls_of, Call, IsTableOf, Table, IsEvaluatedFor, LiesReady, LiesReadyAfter, Knowing, known, IsLeftReady, length-calls_of}
use Rattle.grb_call.specs.declared.ids.Object.TheVariants as object
use Rattle.grb_call.specs.declared.ids.MatrixId.{MatrixId}
use Rattle.grb_call.specs.declared.ids.VectorId.{VectorId}
use Rattle.grb_slices.specs.Content.{MatrixContent, VectorContent}
use Rattle.grb_slices.proofs.Live.{live_by}
use Rattle.grb_results.specs.Kept.{IsReady}
use Rattle.grb_pass.proofs.Evaluating.{le_or_lt}

-- the table of all known calls
pub table_here : (p : Knowing) (t : Table) → IsEvaluatedFor p t → length (known p) ≤ length t.learnt.nodes.items → IsTableOf (calls_of (known p)) t
table_here p t is enough = record { table = is.table; all = let w = is.table.learnt.within in omega (arith, w, enough, length-calls_of (known p)) }

take_whole : (cs : List Call) (n : ℕ) → n ≡ length cs → take n cs ≡ cs
take_whole [] n e = ap (λ m. take m []) e
take_whole (c ∷ cs) n e = ap (λ m. take m (c ∷ cs)) e ∙ ap (λ (ds : List Call). c ∷ ds) (take_whole cs (length cs) refl)

-- an object is there for the table where it is there
pub live_here : (cs : List Call) (t : Table) (o : Object) → IsTableOf cs t → is_live t.learnt.shapes.objects o ≡ is_live (shapes_of (after_all empty_store cs)) o
live_here cs t o is =
    ap (λ (u : ObjectShapes). is_live u o) (is.table.learnt.shapes_are ∙ ap (λ (xs : List Call). shapes_of (after_all empty_store xs)) (take_whole cs (length t.learnt.nodes.items) is.all))

some_map : {X Y : Type 0} (f : X → Y) (x : Option X) → is_some x ≡ true → is_some (option_map f x) ≡ true
some_map f (Some x) there = refl
some_map f None there = cc

pub matrix_live : (s : Store) (a : MatrixId) → is_some (matrix_at s a) ≡ true → is_live (shapes_of s) (object.Matrix a) ≡ true
matrix_live s a there = live_by s (object.Matrix a) ∙ some_map MatrixContent (matrix_at s a) there

pub vector_live : (s : Store) (v : VectorId) → is_some (vector_at s v) ≡ true → is_live (shapes_of s) (object.Vector v) ≡ true
vector_live s v there = live_by s (object.Vector v) ∙ some_map VectorContent (vector_at s v) there

-- where an object does not lie ready that is there, not all is settled
pub unready_unsettled : (p : Knowing) (t : Table) → IsEvaluatedFor p t → (o : Object) → (IsReady t o → ⊥) → is_live t.learnt.shapes.objects o ≡ true → p.settled < length (known p)
unready_unsettled p t is o none live = by (le_or_lt (length (known p)) p.settled)
  where
    by : (length (known p) ≤ p.settled) ⊎ (p.settled < length (known p)) → p.settled < length (known p)
    by (inl all) = absurd (none ((is.settled all).ready o live))
    by (inr few) = few

module _ (p : Knowing) (t : Table) (is : IsEvaluatedFor p t) (ready : IfSome p.made.ready (LiesReady t)) where
  left_lies : (o : Object) → IsLeftReady p o → LiesReadyAfter t o (length (known p))
  left_lies o left = subst (λ (x : Option (Object × ℕ)). IfSome x (LiesReady t)) left ready

  -- nor where the object does not lie ready
  pub lacks : (o : Object) → (IsReady t o → ⊥) → IsLeftReady p o → ⊥
  lacks o none left = none (left_lies o left).ready

  pub lacks_unsettled : (o : Object) → (IsReady t o → ⊥) → is_live t.learnt.shapes.objects o ≡ true → p.settled < length (known p)
  lacks_unsettled o none live = unready_unsettled p t is o none live

pub matched : {X : Type 0} (P : X → Type 0) (Q N : Type 0) (x : Option X) → IfSome x P → IfNone x N → (N → Q) → MatchOption x Q P
matched P Q N (Some m) some none then = some
matched P Q N None some none then = then none

none_map : {X Y : Type 0} (f : X → Y) (x : Option X) → is_some (option_map f x) ≡ false → None ≡ x
none_map f None there = refl
none_map f (Some x) there = cc

-- where the table has no object, the store has none
pub matrix_gone : (s : Store) (a : MatrixId) → is_live (shapes_of s) (object.Matrix a) ≡ false → None ≡ matrix_at s a
matrix_gone s a gone = none_map MatrixContent (matrix_at s a) (sym (live_by s (object.Matrix a)) ∙ gone)

pub vector_gone : (s : Store) (v : VectorId) → is_live (shapes_of s) (object.Vector v) ≡ false → None ≡ vector_at s v
vector_gone s v gone = none_map VectorContent (vector_at s v) (sym (live_by s (object.Vector v)) ∙ gone)
