-- believed: What a statement is answered (own): the answer to its call, or, of 'tuples', whose call is a wait, the entries of its object
-- behind it.
use Rattle.std.specs.Prelude.{◌≡◌, ◌⊎◌, ℕ, List, Option, Some, None, Ok, Err}
use Rattle.grb_core.specs.declared.refusal.Refusal.TheVariants.{OutOfMemory}
use Rattle.grb_call.specs.declared.ids.Object.{Object}
use Rattle.grb_call.specs.Store.{Store, matrix_entries, vector_entries}
use Rattle.grb_script.specs.declared.names.Sort.{Sort}
use Rattle.grb_script.specs.declared.names.Sort.TheVariants as sort
use Rattle.grb_script.specs.declared.statement.Statement.{Statement}
use Rattle.grb_script.specs.declared.statement.Statement.TheVariants as statement
use Rattle.grb_replies.specs.declared.step_answer.StepAnswer.{StepAnswer}
use Rattle.grb_replies.specs.declared.step_answer.StepAnswer.TheVariants as told
use Rattle.grb_run.specs.Objects.{matrix_named, vector_named}
use Rattle.grb_replies.specs.ReplyLine.{Answer}

-- the entries of the object of a name, in this store
abbrev pub entries_named : List Object → Store → ℕ → Sort → StepAnswer
entries_named objects store name sort.Matrix = told.Matrix (matrix_entries store (matrix_named objects name))
entries_named objects store name sort.Vector = told.Vector (vector_entries store (vector_named objects name))

-- what a statement asks for beside the answer to its call, where this store is behind that: 'tuples' asks for entries
abbrev pub asked : List Object → Store → Statement → Option StepAnswer
asked objects store (statement.Tuples name sort) = Some (entries_named objects store name sort)
asked objects store _ = None

-- what a statement is answered that asks for this, by the answer to its call
abbrev pub told_by : Option StepAnswer → Answer → StepAnswer
told_by (Some entries) (Ok reply) = entries
told_by _ a = told.Call a

-- the same; in place of the entries, memory may be refused to who holds them
abbrev pub IsToldBy : Option StepAnswer → Answer → StepAnswer → Type 0
IsToldBy (Some entries) (Ok reply) a = (a ≡ entries) ⊎ (a ≡ told.Call (Err OutOfMemory))
IsToldBy _ r a = a ≡ told.Call r
