-- believed: The line that an answer prints (own).
use Rattle.std.specs.Prelude.{ℕ, true, false, List, [], ◌∷◌, ◌++◌, Result, Ok, Err, codes}
use Rattle.std.specs.Fmt.{decimal}
use Rattle.std.specs.List.{flat_map}
use Rattle.grb_core.specs.declared.refusal.Refusal.{Refusal}
use Rattle.grb_core.specs.Entries.{MatrixEntries, VectorEntries}
use Rattle.grb_core.specs.declared.value.Value.{Value}
use Rattle.grb_core.specs.declared.value.Value.TheVariants as value
use Rattle.grb_core.specs.Refusal.{refusal_name}
use Rattle.grb_call.specs.declared.reply.Reply.{Reply}
use Rattle.grb_call.specs.declared.reply.Reply.TheVariants as reply
use Rattle.grb_replies.specs.declared.step_answer.StepAnswer.{StepAnswer}
use Rattle.grb_replies.specs.declared.step_answer.StepAnswer.TheVariants as told

-- what a call is answered: its reply, or why it is refused
abbrev pub Answer : Type 0
Answer = Result Reply Refusal

-- a number, with a space before it
abbrev pub number_words : ℕ → List ℕ
number_words n = codes " " ++ decimal n

-- a value, with a space before it
abbrev pub value_words : Value → List ℕ
value_words (value.Bool true) = codes " true"
value_words (value.Bool false) = codes " false"
value_words (value.Uint64 n) = number_words n

-- the words of a reply
abbrev pub printed_reply : Reply → List ℕ
printed_reply reply.Done = codes "ok"
printed_reply (reply.MadeMatrix a) = codes "ok"
printed_reply (reply.MadeVector v) = codes "ok"
printed_reply (reply.Value v) = codes "value" ++ value_words v
printed_reply reply.NoValue = codes "none"
printed_reply (reply.Count n) = codes "count" ++ number_words n
printed_reply (reply.Size n) = codes "size" ++ number_words n
printed_reply (reply.Dims r c) = (codes "size" ++ number_words r) ++ number_words c

-- the line of the answer to a call, with its end: of a refusal its name
abbrev pub printed_call : Answer → List ℕ
printed_call (Ok r) = printed_reply r
printed_call (Err refusal) = refusal_name refusal

abbrev pub call_line : Answer → List ℕ
call_line a = printed_call a ++ 10 ∷ []

-- the words of an entry, with a space before each: those with which a build makes it
abbrev pub cell_words : (ℕ × ℕ) × Value → List ℕ
cell_words e = (number_words e.0.0 ++ number_words e.0.1) ++ value_words e.1

abbrev pub index_words : ℕ × Value → List ℕ
index_words e = number_words e.0 ++ value_words e.1

-- the line of all entries of a matrix or a vector, in their order, with its end
abbrev pub matrix_line : MatrixEntries → List ℕ
matrix_line entries = codes "tuples" ++ flat_map cell_words entries ++ 10 ∷ []

abbrev pub vector_line : VectorEntries → List ℕ
vector_line entries = codes "tuples" ++ flat_map index_words entries ++ 10 ∷ []

-- the line of what a step is answered, with its end
abbrev pub reply_line : StepAnswer → List ℕ
reply_line (told.Call a) = call_line a
reply_line (told.Matrix entries) = matrix_line entries
reply_line (told.Vector entries) = vector_line entries
