-- What a statement is answered, by the answer to its call.
use Rattle.std.proofs.Common.{inl, inr, ◌≡◌, ℕ, List, [], refl, sym, ap, ◌∙◌, subst}
use Rattle.std.specs.Prelude.{Option, Some, None}
use Rattle.std.specs.Option.{option_map_or}
use Rattle.grb_run.proofs.Prelude.{Ok, Err, Answer, Answered, call_of, StepAnswer, Shared, Knowing, known, Statement, Stage, IsTold, IsStatementTold, IsToldBy, asked, entries_named}
use Rattle.grb_core.specs.Contents.{Matrix, Vector}
use Rattle.grb_core.specs.declared.refusal.Refusal.{Refusal}
use Rattle.grb_call.specs.History.{store_of}
use Rattle.grb_call.specs.Store.{Store, matrix_entries, vector_entries}
use Rattle.grb_call.specs.declared.call.Call.{Call}
use Rattle.grb_call.specs.declared.call.Call.TheVariants as call
use Rattle.grb_call.specs.declared.wait_mode.WaitMode.TheVariants.{Complete}
use Rattle.grb_call.specs.declared.ids.MatrixId.{MatrixId}
use Rattle.grb_call.specs.declared.ids.Object.{Object}
use Rattle.grb_call.specs.declared.ids.VectorId.{VectorId}
use Rattle.grb_context.specs.Snapshot.{Hands, IsSnapshot}
use Rattle.grb_context.specs.StoredIn.{IsMatrixOf, IsVectorOf}
use Rattle.grb_sparse.specs.Matrix.{SparseMatrixView}
use Rattle.grb_sparse.specs.Vector.{SparseVectorView}
use Rattle.grb_script.specs.declared.names.Sort.{Sort}
use Rattle.grb_script.specs.declared.names.Sort.TheVariants as sort
use Rattle.grb_script.specs.declared.statement.Statement.TheVariants as statement
use Rattle.grb_run.specs.Objects.{matrix_named, vector_named}
use Rattle.grb_replies.specs.declared.step_answer.StepAnswer.TheVariants as told

-- entries that were handed out, or why none were
handed : {X : Type 0} (answer : Answer) (x : X) (entries given : StepAnswer) → Hands answer (Ok x) → given ≡ entries → IsToldBy (Some entries) answer given
handed (Ok reply) x entries given hands is = inl is
handed (Err refusal) x entries given hands is = absurd hands

unhanded : (X : Type 0) (answer : Answer) (r : Refusal) (entries : StepAnswer) → Hands {X = X} answer (Err r) → IsToldBy (Some entries) answer (told.Call (Err r))
unhanded X (Ok reply) r entries hands = inr (ap (λ x. told.Call (Err x)) hands)
unhanded X (Err refusal) r entries hands = ap (λ x. told.Call (Err x)) hands

module _ (context : Shared) (objects : List Object) (old new : Knowing) (name : ℕ) where
  abbrev at : Stage
  at = record { objects = objects; pass = old }

  abbrev after : Stage
  after = record { objects = objects; pass = new }

  -- the call of `tuples` was made, and told so
  told_by_wait : (s : Sort) (wait : Call) (given : StepAnswer) → (wait_is : wait ≡ call_of objects (statement.Tuples name s)) → (answer : Answer) → Answered context old new wait answer
      → IsToldBy (Some (entries_named objects (store_of (known new)) name s)) answer given → IsStatementTold context at (statement.Tuples name s) given after
  told_by_wait s wait given wait_is answer answered tells = record {
    answer = answer;
    said = record { answered = subst (λ c. Answered context old new c answer) wait_is answered; objects = refl };
    tells = tells;
  }

  pub matrix_told : {X : Type 0} (x : X) (a : MatrixId) (m : SparseMatrixView) → a ≡ matrix_named objects name → IsSnapshot context old new (call.WaitMatrix a Complete) (Ok x)
      → IsMatrixOf (store_of (known new)) a m → IsStatementTold context at (statement.Tuples name sort.Matrix) (told.Matrix m.matrix.entries) after
  matrix_told x a m named snapshot is =
      let entries : m.matrix.entries ≡ matrix_entries (store_of (known new)) (matrix_named objects name) =
      ap (λ (o : Option Matrix). option_map_or (λ m. m.entries) o []) (sym is.stored) ∙ ap (matrix_entries (store_of (known new))) named in
      told_by_wait sort.Matrix _ _ (ap (λ b. call.WaitMatrix b Complete) named) snapshot.answer snapshot.answered (handed snapshot.answer x _ _ snapshot.hands (ap told.Matrix entries))

  pub matrix_untold : {X : Type 0} (r : Refusal) (a : MatrixId) → a ≡ matrix_named objects name → IsSnapshot context old new (call.WaitMatrix a Complete) {X = X} (Err r)
      → IsStatementTold context at (statement.Tuples name sort.Matrix) (told.Call (Err r)) after
  matrix_untold {X = X} r a named snapshot =
      told_by_wait sort.Matrix _ _ (ap (λ b. call.WaitMatrix b Complete) named) snapshot.answer snapshot.answered (unhanded X snapshot.answer r _ snapshot.hands)

  pub vector_told : {X : Type 0} (x : X) (v : VectorId) (y : SparseVectorView) → v ≡ vector_named objects name → IsSnapshot context old new (call.WaitVector v Complete) (Ok x)
      → IsVectorOf (store_of (known new)) v y → IsStatementTold context at (statement.Tuples name sort.Vector) (told.Vector y.vector.entries) after
  vector_told x v y named snapshot is =
      let entries : y.vector.entries ≡ vector_entries (store_of (known new)) (vector_named objects name) =
      ap (λ (o : Option Vector). option_map_or (λ y. y.entries) o []) (sym is.stored) ∙ ap (vector_entries (store_of (known new))) named in
      told_by_wait sort.Vector _ _ (ap (λ w. call.WaitVector w Complete) named) snapshot.answer snapshot.answered (handed snapshot.answer x _ _ snapshot.hands (ap told.Vector entries))

  pub vector_untold : {X : Type 0} (r : Refusal) (v : VectorId) → v ≡ vector_named objects name → IsSnapshot context old new (call.WaitVector v Complete) {X = X} (Err r)
      → IsStatementTold context at (statement.Tuples name sort.Vector) (told.Call (Err r)) after
  vector_untold {X = X} r v named snapshot =
      told_by_wait sort.Vector _ _ (ap (λ w. call.WaitVector w Complete) named) snapshot.answer snapshot.answered (unhanded X snapshot.answer r _ snapshot.hands)

-- any other statement asks for nothing beside its call
asked-other : (objects : List Object) (store : Store) (s : Statement) → ((name : ℕ) (kind : Sort) → s ≡ statement.Tuples name kind → ⊥) → asked objects store s ≡ None
asked-other objects store (statement.Tuples name kind) other = absurd (other name kind refl)
asked-other objects store _ other = refl

tells_call : (asks : Option StepAnswer) (a : Answer) → asks ≡ None → IsToldBy asks a (told.Call a)
tells_call None a is = refl
tells_call (Some x) a is = cc

pub call_told : (context : Shared) (at after : Stage) (s : Statement) (a : Answer) → ((name : ℕ) (kind : Sort) → s ≡ statement.Tuples name kind → ⊥) → IsTold context at s a after
    → IsStatementTold context at s (told.Call a) after
call_told context at after s a other said = record {
  answer = a;
  said = said;
  tells = tells_call (asked at.objects (store_of (known after.pass)) s) a (asked-other at.objects (store_of (known after.pass)) s other);
}
