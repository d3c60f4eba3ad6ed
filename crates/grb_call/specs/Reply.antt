-- believed: What a reply holds (own): the value, the count or the number of the object made, and none where it holds no such thing.
use Rattle.std.specs.Prelude.{ℕ, Option, Some, None}
use Rattle.grb_core.specs.declared.value.Value.{Value}
use Rattle.grb_call.specs.declared.ids.MatrixId.{MatrixId}
use Rattle.grb_call.specs.declared.ids.VectorId.{VectorId}
use Rattle.grb_call.specs.declared.reply.Reply.{Reply}
use Rattle.grb_call.specs.declared.reply.Reply.TheVariants as reply

-- the value that a get found or a total made
abbrev pub value_in : Reply → Option Value
value_in (reply.Value value) = Some value
value_in _ = None

-- the number of stored entries
abbrev pub count_in : Reply → Option ℕ
count_in (reply.Count count) = Some count
count_in _ = None

-- the matrix that was made
abbrev pub matrix_in : Reply → Option MatrixId
matrix_in (reply.MadeMatrix a) = Some a
matrix_in _ = None

-- the vector that was made
abbrev pub vector_in : Reply → Option VectorId
vector_in (reply.MadeVector v) = Some v
vector_in _ = None
