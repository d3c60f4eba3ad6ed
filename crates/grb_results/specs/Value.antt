-- believed: What a shared object holds (own).
pub use Rattle.grb_links.specs.Dup.{is_dup}
use Rattle.std.specs.Prelude.{◌≡◌, false}
use Rattle.grb_call.specs.declared.call.Call.{Call}
use Rattle.grb_call.specs.declared.class.Class.TheVariants.{Edits}
use Rattle.grb_call.specs.Kinds.{class_of}
use Rattle.grb_slices.specs.Content.{Content, MatrixContent, VectorContent}
use Rattle.grb_objects.specs.declared.shared_content.SharedContent.{SharedContent}
use Rattle.grb_objects.specs.declared.shared_content.SharedContent.TheVariants as shared
use Rattle.grb_objects.specs.SharedContent.{is_free}
use Rattle.grb_links.specs.Overwrites.{forgets}

abbrev pub content_of : SharedContent → Content
content_of (shared.Matrix m) = MatrixContent m.matrix
content_of (shared.Vector x) = VectorContent x.vector

-- the call changes what one object stores: it neither ends it nor clears it
abbrev pub IsEdit : Call → Type 0
IsEdit c = (class_of c ≡ Edits) × (is_free c ≡ false) × (forgets c ≡ false)
