use Rattle.grb_call.proofs.Operated.{matrix_apart, vector_apart, writes_matrix, writes_vector}
use Rattle.grb_call.proofs.laws.an_operation_writes_what_it_computes.Goals as goal

pub returns-clause-matrices : goal.returns-clause-matrices
returns-clause-matrices c = λ r m c mask accum d. writes_matrix r mask accum d m c

pub returns-clause-vectors : goal.returns-clause-vectors
returns-clause-vectors c = λ r x w mask accum d. writes_vector r mask accum d x w

pub returns-clause-matrices_apart : goal.returns-clause-matrices_apart
returns-clause-matrices_apart c = λ r call v m e. matrix_apart r call v m e

pub returns-clause-vectors_apart : goal.returns-clause-vectors_apart
returns-clause-vectors_apart c = λ r call a x e. vector_apart r call a x e
