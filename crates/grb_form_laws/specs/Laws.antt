-- believed: What a user relies on of the versions of scripts (own).
use Rattle.std.specs.Prelude.{◌≡◌, Bool, true, false, List, Some}
use Rattle.grb_words.specs.declared.version.Version.{Version}
use Rattle.grb_words.specs.declared.version.Version.TheVariants.{Three}
use Rattle.grb_words.specs.Form.{Form, EwiseForm, ProductForm, ReduceForm, TransposeForm, ApplyForm, SelectForm, KroneckerForm, DiagForm, TuplesForm, form_of}
use Rattle.grb_words.specs.Line.{Word}

-- the form is one that version 3 adds, or reads a second input transposed
abbrev pub is_later : Form → Bool
is_later (EwiseForm w output left right op options) = options.descriptor.tran1
is_later (ProductForm w output left right semiring options) = options.descriptor.tran1
is_later (ReduceForm output input monoid options) = options.descriptor.tran1
is_later (TransposeForm output input options) = true
is_later (ApplyForm output input f options) = true
is_later (SelectForm output input test options) = true
is_later (KroneckerForm output left right op options) = true
is_later (DiagForm name vector diagonal) = true
is_later (TuplesForm name) = true
is_later _ = false

-- words have such a form in a script of version 3 alone
abbrev pub LaterFormsAreOfVersionThree : Type 0
LaterFormsAreOfVersionThree = (version : Version) (words : List Word) (form : Form) → form_of version words ≡ Some form → is_later form ≡ true → version ≡ Three
