-- believed: The faults of a line of a script (own), each by a rule that asks for no other. Which of several is answered, the number says:
-- the first.
use Rattle.std.specs.Prelude.{◌≡◌, ◌≤◌, ℕ, Bool, true, false, not, ◌&&◌, ◌||◌, if◌then◌else◌, List, [], ◌∷◌, Option, Some, None, is_some}
use Rattle.std.specs.List.{list_all}
use Rattle.std.specs.Option.{option_map, option_map_or, option_to_list}
use Rattle.grb_core.specs.declared.value.Value.{Value}
use Rattle.grb_core.specs.Monoid.{monoid_domain}
use Rattle.grb_core.specs.Operator.{op_domain}
use Rattle.grb_call.specs.Refused.{same_domain}
use Rattle.grb_core.specs.declared.descriptor.Descriptor.{Descriptor}
use Rattle.grb_market.specs.Line.{Line}
use Rattle.grb_words.specs.declared.fault.FaultKind.{FaultKind}
use Rattle.grb_words.specs.declared.fault.FaultKind.TheVariants as kind
use Rattle.grb_words.specs.declared.indices.Indices.{Indices}
use Rattle.grb_words.specs.declared.indices.Indices.TheVariants as indices
use Rattle.grb_words.specs.declared.keyword.Multiply.TheVariants as multiply
use Rattle.grb_words.specs.declared.section.Section.{Section}
use Rattle.grb_words.specs.declared.version.Version.{Version}
use Rattle.grb_words.specs.Form.{Form, MatrixForm, VectorForm, DupForm, FreeForm, NvalsForm, SizeForm, ClearForm, RemoveForm, GetForm, ResizeForm, SetForm, BuildForm, EwiseForm, ProductForm, ReduceForm, TotalForm, WaitForm, TransposeForm, ApplyForm, SelectForm, KroneckerForm, DiagForm, TuplesForm, form_of, load_of}
use Rattle.grb_words.specs.Line.{Word, words_of, has_allowed_bytes, is_load, is_section}
use Rattle.grb_words.specs.Section.{section_of}
use Rattle.grb_words.specs.Tuples.{vector_tuples, matrix_tuples}
use Rattle.grb_script.specs.declared.names.Sort.{Sort}
use Rattle.grb_script.specs.declared.names.Sort.TheVariants as sort
use Rattle.grb_script.specs.Names.{Name, sort_of, stands, same_sort}
use Rattle.grb_script.specs.Scope.{Scope, may_follow}
use Rattle.grb_script.specs.Version.{version_by, says_nothing}

-- the number of a fault
abbrev pub fault_number : FaultKind → ℕ
fault_number kind.UnendedLine = 1
fault_number kind.BadByte = 2
fault_number kind.Section = 3
fault_number kind.Statement = 4
fault_number kind.NameTaken = 5
fault_number kind.UnknownName = 6
fault_number kind.WrongKind = 7
fault_number kind.Semiring = 8

-- what is answered is the fault of the lowest number that applies, or none where none applies
abbrev pub IsLowestFault : (FaultKind → Type 0) → Option FaultKind → Type 0
IsLowestFault Applies None = (k : FaultKind) → Applies k → ⊥
IsLowestFault Applies (Some k) = Applies k × ((q : FaultKind) → Applies q → fault_number k ≤ fault_number q)

-- what a line is by its words: one that says nothing, one that begins with a word of sections, one that begins with the word of a load,
-- or a statement; each but the first may not have the form that it begins
pub data Sense : Type 0 where
  Silent : Sense
  SectionWords : Option Section → Sense
  LoadWords : Option (Word × Word) → Sense
  StatementWords : Option Form → Sense

abbrev pub sense_of : Option Version → List Word → Sense
sense_of settled words =
    if says_nothing settled words then Silent
    else (if is_section words then SectionWords (section_of words)
    else (if is_load words then LoadWords (load_of words)
    else StatementWords (form_of (version_by settled words) words)))

-- it spells a section that may stand here
abbrev pub is_section_here : Version → Option Section → Sense → Bool
is_section_here version here (SectionWords section) = option_map_or (may_follow version here) section false
is_section_here version here _ = true

-- it has a form, whatever its names stand for
abbrev pub has_form : Sense → Bool
has_form (LoadWords load) = is_some load
has_form (StatementWords form) = is_some form
has_form _ = true

-- the name that a statement makes, if it makes one
abbrev pub made_name : Form → Option Word
made_name (MatrixForm name domain nrows ncols) = Some name
made_name (VectorForm name domain size) = Some name
made_name (DupForm name source) = Some name
made_name (DiagForm name vector diagonal) = Some name
made_name _ = None

-- the names that a statement uses
abbrev pub used_names : Form → List Word
used_names (MatrixForm name domain nrows ncols) = []
used_names (VectorForm name domain size) = []
used_names (DupForm name source) = source ∷ []
used_names (FreeForm name) = name ∷ []
used_names (NvalsForm name) = name ∷ []
used_names (SizeForm name) = name ∷ []
used_names (ClearForm name) = name ∷ []
used_names (RemoveForm name p) = name ∷ []
used_names (GetForm name p) = name ∷ []
used_names (ResizeForm name p) = name ∷ []
used_names (SetForm name p x) = name ∷ []
used_names (BuildForm name dup values) = name ∷ []
used_names (EwiseForm w output left right op o) = output ∷ left ∷ right ∷ option_to_list o.mask
used_names (ProductForm w output left right semiring o) = output ∷ left ∷ right ∷ option_to_list o.mask
used_names (ReduceForm output input monoid o) = output ∷ input ∷ option_to_list o.mask
used_names (TotalForm name monoid) = name ∷ []
used_names (WaitForm name mode) = name ∷ []
used_names (TransposeForm output input o) = output ∷ input ∷ option_to_list o.mask
used_names (ApplyForm output input f o) = output ∷ input ∷ option_to_list o.mask
used_names (SelectForm output input test o) = output ∷ input ∷ option_to_list o.mask
used_names (KroneckerForm output left right op o) = output ∷ left ∷ right ∷ option_to_list o.mask
used_names (DiagForm name vector diagonal) = vector ∷ []
used_names (TuplesForm name) = name ∷ []

-- the name that it makes does not stand
abbrev pub makes_new : List Name → Sense → Bool
makes_new names (LoadWords load) = option_map_or (λ l. not (stands names l.0)) load true
makes_new names (StatementWords form) = option_map_or (λ f. option_map_or (λ name. not (stands names name)) (made_name f) true) form true
makes_new names _ = true

-- the names that it uses stand
abbrev pub uses_known : List Name → Sense → Bool
uses_known names (StatementWords form) = option_map_or (λ f. list_all (stands names) (used_names f)) form true
uses_known names _ = true

-- the name, where it stands, is of an object of this sort
abbrev pub is_of : List Name → Sort → Word → Bool
is_of names s name = option_map_or (same_sort s) (sort_of names name) true

-- one index is of a vector, and two are of a matrix
abbrev pub sort_by : Indices → Sort
sort_by (indices.One i) = sort.Vector
sort_by (indices.Two i j) = sort.Matrix

-- a mask is of the sort of its output
abbrev pub mask_sorts : Sort → Option Word → List (Word × Sort)
mask_sorts s mask = option_to_list (option_map (λ name. (name, s)) mask)

-- the names whose sort the form says, with that sort
abbrev pub read_sorts : Form → List (Word × Sort)
read_sorts (RemoveForm name p) = (name, sort_by p) ∷ []
read_sorts (GetForm name p) = (name, sort_by p) ∷ []
read_sorts (ResizeForm name p) = (name, sort_by p) ∷ []
read_sorts (SetForm name p x) = (name, sort_by p) ∷ []
read_sorts (ProductForm multiply.Mxv w a u semiring o) = (w, sort.Vector) ∷ (a, sort.Matrix) ∷ (u, sort.Vector) ∷ mask_sorts sort.Vector o.mask
read_sorts (ProductForm multiply.Vxm w u a semiring o) = (w, sort.Vector) ∷ (u, sort.Vector) ∷ (a, sort.Matrix) ∷ mask_sorts sort.Vector o.mask
read_sorts (ProductForm multiply.Mxm c a b semiring o) = (c, sort.Matrix) ∷ (a, sort.Matrix) ∷ (b, sort.Matrix) ∷ mask_sorts sort.Matrix o.mask
read_sorts (ReduceForm w a monoid o) = (w, sort.Vector) ∷ (a, sort.Matrix) ∷ mask_sorts sort.Vector o.mask
read_sorts (TransposeForm c a o) = (c, sort.Matrix) ∷ (a, sort.Matrix) ∷ mask_sorts sort.Matrix o.mask
read_sorts (KroneckerForm c a b op o) = (c, sort.Matrix) ∷ (a, sort.Matrix) ∷ (b, sort.Matrix) ∷ mask_sorts sort.Matrix o.mask
read_sorts (DiagForm name vector diagonal) = (vector, sort.Vector) ∷ []
read_sorts _ = []

-- the values of a build are whole groups for an object of this sort
abbrev pub are_groups : List Value → Sort → Bool
are_groups values sort.Matrix = is_some (matrix_tuples values)
are_groups values sort.Vector = is_some (vector_tuples values)

-- these names stand for matrices, or, where no input is read transposed, for vectors
abbrev pub are_alike : List Name → List Word → Descriptor → Bool
are_alike names words d = list_all (is_of names sort.Matrix) words || (list_all (is_of names sort.Vector) words && not d.tran && not d.tran1)

-- what the names of a form stand for is of the sorts that it asks for: the names of an element-wise statement, of an `apply` and of a
-- `select` all of matrices, or, where it does not transpose, all of vectors; the list of a build whole groups
abbrev pub form_has_sorts : List Name → Form → Bool
form_has_sorts names (BuildForm name dup values) = option_map_or (are_groups values) (sort_of names name) true
form_has_sorts names (EwiseForm w output left right op o) = are_alike names (output ∷ left ∷ right ∷ option_to_list o.mask) o.descriptor
form_has_sorts names (ApplyForm output input f o) = are_alike names (output ∷ input ∷ option_to_list o.mask) o.descriptor
form_has_sorts names (SelectForm output input test o) = are_alike names (output ∷ input ∷ option_to_list o.mask) o.descriptor
form_has_sorts names form = list_all (λ p. is_of names p.1 p.0) (read_sorts form)

abbrev pub has_sorts : List Name → Sense → Bool
has_sorts names (StatementWords form) = option_map_or (form_has_sorts names) form true
has_sorts names _ = true

-- the monoid and the operator of a semiring are of one domain
abbrev pub form_has_semiring : Form → Bool
form_has_semiring (ProductForm w output left right semiring o) = same_domain (monoid_domain semiring.0) (op_domain semiring.1)
form_has_semiring _ = true

abbrev pub has_semiring : Sense → Bool
has_semiring (StatementWords form) = option_map_or form_has_semiring form true
has_semiring _ = true

-- the faults of words that are this, where they stand here in a script of this version
abbrev pub AppliesToWords : Version → Scope → Sense → FaultKind → Type 0
AppliesToWords version here sense kind.UnendedLine = ⊥
AppliesToWords version here sense kind.BadByte = ⊥
AppliesToWords version here sense kind.Section = is_section_here version here.section sense ≡ false
AppliesToWords version here sense kind.Statement = has_form sense ≡ false
AppliesToWords version here sense kind.NameTaken = makes_new here.names sense ≡ false
AppliesToWords version here sense kind.UnknownName = uses_known here.names sense ≡ false
AppliesToWords version here sense kind.WrongKind = has_sorts here.names sense ≡ false
AppliesToWords version here sense kind.Semiring = has_semiring sense ≡ false

-- the fault is one of this line, which stands here
abbrev pub AppliesToLine : Scope → Line → FaultKind → Type 0
AppliesToLine here line kind.UnendedLine = line.is_ended ≡ false
AppliesToLine here line kind.BadByte = has_allowed_bytes line.bytes ≡ false
AppliesToLine here line k = AppliesToWords (version_by here.version (words_of line.bytes)) here (sense_of here.version (words_of line.bytes)) k
