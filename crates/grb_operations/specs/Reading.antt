-- inside: no public contract names it. What a call reads of one object, by itself (own).
use Rattle.std.specs.Prelude.{[]}
use Rattle.grb_core.specs.declared.domain.Domain.{Domain}
use Rattle.grb_core.specs.declared.monoid.Monoid.{Monoid}
use Rattle.grb_core.specs.declared.value.Value.{Value}
use Rattle.grb_core.specs.Entries.{MatrixEntries, VectorEntries}
use Rattle.grb_core.specs.Results.{reduce_of}
use Rattle.grb_objects.specs.declared.shared_content.SharedContent.{SharedContent}
use Rattle.grb_objects.specs.declared.shared_content.SharedContent.TheVariants as shared

-- the entries of a matrix, and none of a vector
abbrev pub cells_of : SharedContent → MatrixEntries
cells_of (shared.Matrix m) = m.matrix.entries
cells_of (shared.Vector x) = []

-- the entries of a vector, and none of a matrix
abbrev pub elements_of : SharedContent → VectorEntries
elements_of (shared.Matrix m) = []
elements_of (shared.Vector x) = x.vector.entries

-- the domain of its values
abbrev pub domain_in : SharedContent → Domain
domain_in (shared.Matrix m) = m.matrix.domain
domain_in (shared.Vector x) = x.vector.domain

-- all values that it stores, combined
abbrev pub total_of : Monoid → SharedContent → Value
total_of monoid (shared.Matrix m) = reduce_of monoid m.matrix.entries
total_of monoid (shared.Vector x) = reduce_of monoid x.vector.entries
