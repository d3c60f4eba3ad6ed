-- Each call by inner numbers is that of one by outer numbers.
use Rattle.std.proofs.Common.{◌≡◌, List, [], ◌∷◌, map, refl, ap, ◌∙◌, None, Some}
use Rattle.grb_call.specs.declared.call.Call.{Call}
use Rattle.grb_call.specs.declared.call.Call.TheVariants as call
use Rattle.grb_call.specs.declared.term.MatrixTerm.TheVariants as matrix_term
use Rattle.grb_call.specs.declared.term.VectorTerm.TheVariants as vector_term
use Rattle.grb_numbers.specs.Inside.{Renaming, inside, inwards, renamed}
use Rattle.grb_numbers.specs.Numbers.{AreNumbers, NumbersSeen, outer_number}
use Rattle.grb_numbers.proofs.First.{none, renamed-none}
use Rattle.grb_numbers.proofs.Numbering.{inner-outer}

-- outer numbers for inner ones, of which none is the last
abbrev pub freely : NumbersSeen → Renaming
freely n = record { matrix = λ a. record { 0 = outer_number n.matrices a.0 }; vector = λ v. record { 0 = outer_number n.vectors v.0 } }

-- the one after the other
abbrev both : Renaming → Renaming → Renaming
both r q = record { matrix = λ a. r.matrix (q.matrix a); vector = λ v. r.vector (q.vector v) }

renamed-twice : (r q : Renaming) (c : Call) → renamed r (renamed q c) ≡ renamed (both r q) c
renamed-twice r q (call.EwiseAddMatrix c None accum op a b d) = refl
renamed-twice r q (call.EwiseAddMatrix c (Some m) accum op a b d) = refl
renamed-twice r q (call.EwiseAddVector w None accum op u v d) = refl
renamed-twice r q (call.EwiseAddVector w (Some m) accum op u v d) = refl
renamed-twice r q (call.EwiseMultMatrix c None accum op a b d) = refl
renamed-twice r q (call.EwiseMultMatrix c (Some m) accum op a b d) = refl
renamed-twice r q (call.EwiseMultVector w None accum op u v d) = refl
renamed-twice r q (call.EwiseMultVector w (Some m) accum op u v d) = refl
renamed-twice r q (call.Mxv w None accum semiring a u d) = refl
renamed-twice r q (call.Mxv w (Some m) accum semiring a u d) = refl
renamed-twice r q (call.Vxm w None accum semiring u a d) = refl
renamed-twice r q (call.Vxm w (Some m) accum semiring u a d) = refl
renamed-twice r q (call.Mxm c None accum semiring a b d) = refl
renamed-twice r q (call.Mxm c (Some m) accum semiring a b d) = refl
renamed-twice r q (call.ReduceRows w None accum monoid a d) = refl
renamed-twice r q (call.ReduceRows w (Some m) accum monoid a d) = refl
renamed-twice r q (call.WriteMatrix c None accum (matrix_term.Transposed a) d) = refl
renamed-twice r q (call.WriteMatrix c (Some m) accum (matrix_term.Transposed a) d) = refl
renamed-twice r q (call.WriteMatrix c None accum (matrix_term.Applied f a) d) = refl
renamed-twice r q (call.WriteMatrix c (Some m) accum (matrix_term.Applied f a) d) = refl
renamed-twice r q (call.WriteMatrix c None accum (matrix_term.Selected t a) d) = refl
renamed-twice r q (call.WriteMatrix c (Some m) accum (matrix_term.Selected t a) d) = refl
renamed-twice r q (call.WriteMatrix c None accum (matrix_term.Kronecker op a b) d) = refl
renamed-twice r q (call.WriteMatrix c (Some m) accum (matrix_term.Kronecker op a b) d) = refl
renamed-twice r q (call.WriteVector w None accum (vector_term.Applied f u) d) = refl
renamed-twice r q (call.WriteVector w (Some m) accum (vector_term.Applied f u) d) = refl
renamed-twice r q (call.WriteVector w None accum (vector_term.Selected t u) d) = refl
renamed-twice r q (call.WriteVector w (Some m) accum (vector_term.Selected t u) d) = refl
renamed-twice r q _ = refl

back : (n : NumbersSeen) → AreNumbers n → both (inwards n) (freely n) ≡ none
back n are = λ i. record { matrix = λ a. record { 0 = inner-outer n.matrices are.matrices a.0 i }; vector = λ v. record { 0 = inner-outer n.vectors are.vectors v.0 i } }

pub inside_again : (n : NumbersSeen) → AreNumbers n → (c : Call) → inside n (renamed (freely n) c) ≡ c
inside_again n are c = renamed-twice (inwards n) (freely n) c ∙ ap (λ r. renamed r c) (back n are) ∙ renamed-none c

pub inside_all : (n : NumbersSeen) → AreNumbers n → (cs : List Call) → map (inside n) (map (renamed (freely n)) cs) ≡ cs
inside_all n are [] = refl
inside_all n are (c ∷ cs) = λ i. inside_again n are c i ∷ inside_all n are cs i
