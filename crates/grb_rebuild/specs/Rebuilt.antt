-- believed: The calls that make a store anew (own): number by number, matrices first and then vectors, a new and, where entries are
-- stored, a build of them in their order; of a number that was freed a new and a free, so that each object has the number that it had,
-- and the next one is given the next number.
use Rattle.std.specs.Prelude.{◌≡◌, ℕ, ◌+◌, ◌*◌, ◌≤◌, true, List, [], ◌∷◌, ◌++◌, length, Option, Some, None}
use Rattle.grb_core.specs.declared.domain.Domain.{Domain}
use Rattle.grb_core.specs.declared.domain.Domain.TheVariants as domain
use Rattle.grb_core.specs.declared.monoid.Monoid.{Monoid}
use Rattle.grb_core.specs.declared.monoid.Monoid.TheVariants as monoid
use Rattle.grb_core.specs.Contents.{Matrix, Vector}
use Rattle.grb_core.specs.Entries.{MatrixEntries, VectorEntries}
use Rattle.grb_call.specs.declared.call.Call.{Call}
use Rattle.grb_call.specs.declared.call.Call.TheVariants as call
use Rattle.grb_call.specs.declared.ids.MatrixId.{MatrixId}
use Rattle.grb_call.specs.declared.ids.VectorId.{VectorId}
use Rattle.grb_call.specs.Store.{Store, IsStore, empty_store}
use Rattle.grb_call.specs.Tuples.{tuples_of}
use Rattle.grb_call.specs.Kinds.{enters}
use Rattle.grb_call.specs.After.{refused, after}
use Rattle.grb_call.specs.History.{after_all}

-- a monoid of the domain: where no place stands twice in a list, a build makes the same of it by any
abbrev pub monoid_for : Domain → Monoid
monoid_for domain.Bool = monoid.Lor
monoid_for domain.Uint64 = monoid.Plus

-- the build of a matrix that stores these entries, if it stores any
abbrev pub matrix_build : MatrixId → Domain → MatrixEntries → List Call
matrix_build a d [] = []
matrix_build a d (e ∷ es) = call.BuildMatrix a (tuples_of (e ∷ es)) (monoid_for d) ∷ []

abbrev pub vector_build : VectorId → Domain → VectorEntries → List Call
vector_build v d [] = []
vector_build v d (e ∷ es) = call.BuildVector v (e ∷ es) (monoid_for d) ∷ []

-- the calls that make what stands at a number where it is the next one
abbrev pub matrix_calls : ℕ → Option Matrix → List Call
matrix_calls n None = call.NewMatrix domain.Bool 1 1 ∷ call.FreeMatrix (record { 0 = n }) ∷ []
matrix_calls n (Some m) = call.NewMatrix m.domain m.nrows m.ncols ∷ matrix_build (record { 0 = n }) m.domain m.entries

abbrev pub vector_calls : ℕ → Option Vector → List Call
vector_calls n None = call.NewVector domain.Bool 1 ∷ call.FreeVector (record { 0 = n }) ∷ []
vector_calls n (Some v) = call.NewVector v.domain v.size ∷ vector_build (record { 0 = n }) v.domain v.entries

-- the same of all from a number on
abbrev pub matrices_calls : ℕ → List (Option Matrix) → List Call
matrices_calls n [] = []
matrices_calls n (m ∷ ms) = matrix_calls n m ++ matrices_calls (n + 1) ms

abbrev pub vectors_calls : ℕ → List (Option Vector) → List Call
vectors_calls n [] = []
vectors_calls n (v ∷ vs) = vector_calls n v ++ vectors_calls (n + 1) vs

-- the calls that make the store anew
abbrev pub rebuilt : Store → List Call
rebuilt s = matrices_calls 0 s.matrices ++ vectors_calls 0 s.vectors

-- after these calls the store is the one that they were made of
abbrev pub RebuildLeavesTheStore : Type 0
RebuildLeavesTheStore = (s : Store) → IsStore s → after_all empty_store (rebuilt s) ≡ s

-- and so further calls leave after them what they leave in that store
abbrev pub HistoryGoesOn : Type 0
HistoryGoesOn = (s : Store) (more : List Call) → IsStore s → after_all empty_store (rebuilt s ++ more) ≡ after_all s more

-- each of the calls, made in turn from this store, is one that enters and is not refused
abbrev pub AreTaken : Store → List Call → Type 0
AreTaken s [] = Unit {0}
AreTaken s (c ∷ cs) = (enters c ≡ true) × (refused s c ≡ None) × AreTaken (after s c) cs

-- none of the calls that make a store anew is refused
abbrev pub RebuildIsTaken : Type 0
RebuildIsTaken = (s : Store) → IsStore s → AreTaken empty_store (rebuilt s)

-- a store is made anew by two calls at most for each number
abbrev pub RebuildIsShort : Type 0
RebuildIsShort = (s : Store) → length (rebuilt s) ≤ 2 * (length s.matrices + length s.vectors)
