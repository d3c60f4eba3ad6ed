-- believed: What a statement says where some names stand (own): the call that it makes, or the first of what is wrong with it: it
-- has no form, it makes a name that stands, it uses one that does not, or one of another sort than its form asks for, or the two
-- parts of its semiring differ in domain.
use Rattle.std.specs.Prelude.{◌≡◌, ℕ, Bool, true, not, ◌&&◌, if◌then◌else◌, List, [], ◌∷◌, ◌++◌, Option, Some, None, Result, Ok, Err}
use Rattle.std.specs.Option.{option_map, option_map_or}
use Rattle.grb_core.specs.declared.monoid.Monoid.{Monoid}
use Rattle.grb_core.specs.declared.operator.BinaryOp.{BinaryOp}
use Rattle.grb_core.specs.declared.value.Value.{Value}
use Rattle.grb_core.specs.Monoid.{monoid_domain}
use Rattle.grb_core.specs.Operator.{op_domain}
use Rattle.grb_core.specs.Semiring.{SemiringParts}
use Rattle.grb_call.specs.Refused.{same_domain}
use Rattle.grb_core.specs.declared.descriptor.Descriptor.{Descriptor}
use Rattle.grb_core.specs.declared.functions.Function.{Function}
use Rattle.grb_core.specs.declared.tests.Diagonal.{Diagonal}
use Rattle.grb_core.specs.declared.tests.Test.{Test}
use Rattle.grb_script.specs.declared.ewise.Elementwise.{Elementwise}
use Rattle.grb_script.specs.declared.product.Product.{Product}
use Rattle.grb_words.specs.declared.keyword.Multiply.{Multiply}
use Rattle.grb_words.specs.declared.keyword.Multiply.TheVariants as multiply
use Rattle.grb_words.specs.declared.fault.FaultKind.{FaultKind}
use Rattle.grb_words.specs.declared.fault.FaultKind.TheVariants as kind
use Rattle.grb_words.specs.declared.fault.Unread.{Unread}
use Rattle.grb_words.specs.declared.fault.Unread.TheVariants as unread
use Rattle.grb_words.specs.declared.keyword.Ewise.{Ewise}
use Rattle.grb_words.specs.declared.keyword.Ewise.TheVariants as ewise
use Rattle.grb_script.specs.declared.names.Sort.{Sort}
use Rattle.grb_script.specs.declared.names.Sort.TheVariants as sort
use Rattle.grb_words.specs.declared.indices.Indices.{Indices}
use Rattle.grb_words.specs.declared.indices.Indices.TheVariants as indices
use Rattle.grb_script.specs.declared.statement.Statement.{Statement}
use Rattle.grb_script.specs.declared.statement.Statement.TheVariants as statement
use Rattle.grb_words.specs.Line.{Word}
use Rattle.grb_script.specs.Names.{Name, sort_of, stands, name_found, same_sort}
use Rattle.grb_words.specs.Options.{OptionWords}
use Rattle.grb_words.specs.Tuples.{vector_tuples, matrix_tuples}
use Rattle.grb_words.specs.Form.{Form, MatrixForm, VectorForm, DupForm, FreeForm, NvalsForm, SizeForm, ClearForm, RemoveForm, GetForm, ResizeForm, SetForm, BuildForm, EwiseForm, ProductForm, ReduceForm, TotalForm, WaitForm, TransposeForm, ApplyForm, SelectForm, KroneckerForm, DiagForm, TuplesForm}

-- a statement by the number and the sort of its name, and by its indices: one number at a vector, two at a matrix
abbrev pub set_at : ℕ → Sort → Indices → Value → Result Statement FaultKind
set_at n sort.Matrix (indices.Two i j) x = Ok (statement.SetMatrix n i j x)
set_at n sort.Vector (indices.One i) x = Ok (statement.SetVector n i x)
set_at n _ _ x = Err kind.WrongKind

abbrev pub remove_at : ℕ → Sort → Indices → Result Statement FaultKind
remove_at n sort.Matrix (indices.Two i j) = Ok (statement.RemoveMatrix n i j)
remove_at n sort.Vector (indices.One i) = Ok (statement.RemoveVector n i)
remove_at n _ _ = Err kind.WrongKind

abbrev pub get_at : ℕ → Sort → Indices → Result Statement FaultKind
get_at n sort.Matrix (indices.Two i j) = Ok (statement.GetMatrix n i j)
get_at n sort.Vector (indices.One i) = Ok (statement.GetVector n i)
get_at n _ _ = Err kind.WrongKind

abbrev pub resize_to : ℕ → Sort → Indices → Result Statement FaultKind
resize_to n sort.Matrix (indices.Two nrows ncols) = Ok (statement.ResizeMatrix n nrows ncols)
resize_to n sort.Vector (indices.One size) = Ok (statement.ResizeVector n size)
resize_to n _ _ = Err kind.WrongKind

-- a build by the tuples of its values
abbrev pub build_of : ℕ → Sort → Monoid → List Value → Result Statement FaultKind
build_of n sort.Matrix dup values = option_map_or (λ tuples. Ok (statement.BuildMatrix n tuples dup)) (matrix_tuples values) (Err kind.WrongKind)
build_of n sort.Vector dup values = option_map_or (λ tuples. Ok (statement.BuildVector n tuples dup)) (vector_tuples values) (Err kind.WrongKind)

-- what follows from what was found, or that it was not
abbrev pub where_found : {X : Type 0} → (X → Result Statement FaultKind) → Result X FaultKind → Result Statement FaultKind
where_found says (Ok x) = says x
where_found says (Err fault) = Err fault

-- the element-wise statement of a keyword
abbrev pub ewise_statement : Ewise → Elementwise → Statement
ewise_statement ewise.Add e = statement.EwiseAdd e
ewise_statement ewise.Mult e = statement.EwiseMult e

-- whether the object of the name of the mask is of this sort, where one is given
abbrev pub mask_is_of : Sort → Option (ℕ × Sort) → Bool
mask_is_of sort mask = option_map_or (λ m. same_sort sort m.1) mask true

-- whether the object of each of these names is of this sort, and that of the mask where one is given
abbrev pub are_of : Sort → ℕ × Sort → ℕ × Sort → Option (ℕ × Sort) → Bool
are_of sort left right mask = same_sort sort left.1 && same_sort sort right.1 && mask_is_of sort mask

-- whether a statement on objects of this sort may say what this descriptor says of transposed inputs: that of vectors has none
abbrev pub turn_fits : Sort → Descriptor → Bool
turn_fits sort.Matrix d = true
turn_fits sort.Vector d = not d.tran && not d.tran1

-- the same by the numbers and the sorts of its names, in the order output, first input, second input, mask
abbrev pub ewise_on : Ewise → ℕ × Sort → ℕ × Sort → ℕ × Sort → Option (ℕ × Sort) → BinaryOp → OptionWords → Result Statement FaultKind
ewise_on w output left right mask op o =
    if are_of output.1 left right mask && turn_fits output.1 o.descriptor
    then Ok (ewise_statement w (record {
      sort = output.1;
      output = output.0;
      mask = option_map (λ m. m.0) mask;
      accum = o.accum;
      op = op;
      left = left.0;
      right = right.0;
      descriptor = o.descriptor;
    }))
    else Err kind.WrongKind

-- the statement of a keyword that multiplies
abbrev pub product_statement : Multiply → Product → Statement
product_statement multiply.Mxv p = statement.Mxv p
product_statement multiply.Vxm p = statement.Vxm p
product_statement multiply.Mxm p = statement.Mxm p

-- the sorts of the output of a product, of its first input and of its second input
abbrev pub output_sort : Multiply → Sort
output_sort multiply.Mxv = sort.Vector
output_sort multiply.Vxm = sort.Vector
output_sort multiply.Mxm = sort.Matrix

abbrev pub left_sort : Multiply → Sort
left_sort multiply.Mxv = sort.Matrix
left_sort multiply.Vxm = sort.Vector
left_sort multiply.Mxm = sort.Matrix

abbrev pub right_sort : Multiply → Sort
right_sort multiply.Mxv = sort.Vector
right_sort multiply.Vxm = sort.Matrix
right_sort multiply.Mxm = sort.Matrix

-- whether the object of each of these names is of its sort in this product, and that of the mask, where one is given, of the output's
abbrev pub are_of_product : Multiply → ℕ × Sort → ℕ × Sort → ℕ × Sort → Option (ℕ × Sort) → Bool
are_of_product w output left right mask =
    same_sort (output_sort w) output.1 && same_sort (left_sort w) left.1 && same_sort (right_sort w) right.1 && mask_is_of (output_sort w) mask

-- the semiring of a monoid and an operator, where both are of one domain
abbrev pub semiring_made : Monoid × BinaryOp → Result SemiringParts FaultKind
semiring_made s = if same_domain (monoid_domain s.0) (op_domain s.1) then Ok (record { monoid = s.0; op = s.1 }) else Err kind.Semiring

-- a product by the numbers and the sorts of its names, in the order output, first input, second input, mask
abbrev pub product_on : Multiply → ℕ × Sort → ℕ × Sort → ℕ × Sort → Option (ℕ × Sort) → Monoid × BinaryOp → OptionWords → Result Statement FaultKind
product_on w output left right mask s o =
    if are_of_product w output left right mask
    then where_found
    (λ semiring. Ok (product_statement w (record {
      output = output.0;
      mask = option_map (λ m. m.0) mask;
      accum = o.accum;
      semiring = semiring;
      left = left.0;
      right = right.0;
      descriptor = o.descriptor;
    })))
    (semiring_made s)
    else Err kind.WrongKind

-- a reduction of the rows of a matrix to a vector by the same, in the order output, input, mask
abbrev pub reduction_on : ℕ × Sort → ℕ × Sort → Option (ℕ × Sort) → Monoid → OptionWords → Result Statement FaultKind
reduction_on output input mask monoid o =
    if same_sort sort.Vector output.1 && same_sort sort.Matrix input.1 && mask_is_of sort.Vector mask
    then Ok (statement.Reduce (record {
      output = output.0;
      mask = option_map (λ m. m.0) mask;
      accum = o.accum;
      monoid = monoid;
      input = input.0;
      descriptor = o.descriptor;
    }))
    else Err kind.WrongKind

-- the transposition of a matrix by the same
abbrev pub transpose_on : ℕ × Sort → ℕ × Sort → Option (ℕ × Sort) → OptionWords → Result Statement FaultKind
transpose_on output input mask o =
    if same_sort sort.Matrix output.1 && same_sort sort.Matrix input.1 && mask_is_of sort.Matrix mask
    then Ok (statement.Transpose (record {
      output = output.0;
      mask = option_map (λ m. m.0) mask;
      input = input.0;
      accum = o.accum;
      descriptor = o.descriptor;
    }))
    else Err kind.WrongKind

-- whether the objects of both names, and that of the mask where one is given, are of one sort, of which inputs may be read as this
-- descriptor says
abbrev pub same_fit : ℕ × Sort → ℕ × Sort → Option (ℕ × Sort) → Descriptor → Bool
same_fit output input mask d = same_sort output.1 input.1 && mask_is_of output.1 mask && turn_fits output.1 d

-- a function of each value of an object, and a test of each entry, by the same
abbrev pub apply_on : ℕ × Sort → ℕ × Sort → Option (ℕ × Sort) → Function → OptionWords → Result Statement FaultKind
apply_on output input mask f o =
    if same_fit output input mask o.descriptor
    then Ok (statement.Apply (record {
      sort = output.1;
      output = output.0;
      mask = option_map (λ m. m.0) mask;
      accum = o.accum;
      function = f;
      input = input.0;
      descriptor = o.descriptor;
    }))
    else Err kind.WrongKind

abbrev pub select_on : ℕ × Sort → ℕ × Sort → Option (ℕ × Sort) → Test → OptionWords → Result Statement FaultKind
select_on output input mask test o =
    if same_fit output input mask o.descriptor
    then Ok (statement.Select (record {
      sort = output.1;
      output = output.0;
      mask = option_map (λ m. m.0) mask;
      accum = o.accum;
      test = test;
      input = input.0;
      descriptor = o.descriptor;
    }))
    else Err kind.WrongKind

-- a Kronecker product of matrices by the same, in the order output, first input, second input, mask
abbrev pub kronecker_on : ℕ × Sort → ℕ × Sort → ℕ × Sort → Option (ℕ × Sort) → BinaryOp → OptionWords → Result Statement FaultKind
kronecker_on output left right mask op o =
    if same_sort sort.Matrix output.1 && are_of sort.Matrix left right mask
    then Ok (statement.Kronecker (record {
      output = output.0;
      mask = option_map (λ m. m.0) mask;
      accum = o.accum;
      op = op;
      left = left.0;
      right = right.0;
      descriptor = o.descriptor;
    }))
    else Err kind.WrongKind

-- a matrix with the vector of this name on a diagonal
abbrev pub diag_of : ℕ → Sort → Diagonal → Result Statement FaultKind
diag_of n sort.Vector diagonal = Ok (statement.Diag n diagonal)
diag_of n sort.Matrix diagonal = Err kind.WrongKind

-- what a statement says that makes this name
abbrev pub made : List Name → Word → Result Statement FaultKind → Result Statement FaultKind
made names name says = if stands names name then Err kind.NameTaken else says

-- what a statement says that uses this name
abbrev pub used : List Name → Word → (ℕ → Sort → Result Statement FaultKind) → Result Statement FaultKind
used names name says = option_map_or (λ n. says n.0 n.1) (name_found names name) (Err kind.UnknownName)

-- the number and the sort of the name of a mask, where one is given
abbrev pub mask_found : List Name → Option Word → Result (Option (ℕ × Sort)) FaultKind
mask_found names None = Ok None
mask_found names (Some name) = option_map_or (λ n. Ok (Some n)) (name_found names name) (Err kind.UnknownName)

-- what a statement says that uses this name for its mask, where one is given
abbrev pub masked : List Name → Option Word → (Option (ℕ × Sort) → Result Statement FaultKind) → Result Statement FaultKind
masked names mask says = where_found says (mask_found names mask)

-- what a statement of this form says
abbrev pub saying : List Name → Form → Result Statement FaultKind
saying names (MatrixForm name domain nrows ncols) = made names name (Ok (statement.Matrix domain nrows ncols))
saying names (VectorForm name domain size) = made names name (Ok (statement.Vector domain size))
saying names (DupForm name source) = made names name (used names source (λ n sort. Ok (statement.Dup n sort)))
saying names (FreeForm name) = used names name (λ n sort. Ok (statement.Free n sort))
saying names (NvalsForm name) = used names name (λ n sort. Ok (statement.Nvals n sort))
saying names (SizeForm name) = used names name (λ n sort. Ok (statement.Size n sort))
saying names (ClearForm name) = used names name (λ n sort. Ok (statement.Clear n sort))
saying names (RemoveForm name p) = used names name (λ n sort. remove_at n sort p)
saying names (GetForm name p) = used names name (λ n sort. get_at n sort p)
saying names (ResizeForm name p) = used names name (λ n sort. resize_to n sort p)
saying names (SetForm name p x) = used names name (λ n sort. set_at n sort p x)
saying names (BuildForm name dup values) = used names name (λ n sort. build_of n sort dup values)
saying names (EwiseForm w output left right op o) =
    used names output (λ n s. used names left (λ i t. used names right (λ j u. masked names o.mask (λ mask. ewise_on w (n, s) (i, t) (j, u) mask op o))))
saying names (ProductForm w output left right semiring o) =
    used names output (λ n s. used names left (λ i t. used names right (λ j u. masked names o.mask (λ mask. product_on w (n, s) (i, t) (j, u) mask semiring o))))
saying names (ReduceForm output input monoid o) =
    used names output (λ n s. used names input (λ i t. masked names o.mask (λ mask. reduction_on (n, s) (i, t) mask monoid o)))
saying names (TotalForm name monoid) = used names name (λ n sort. Ok (statement.Total n sort monoid))
saying names (WaitForm name mode) = used names name (λ n sort. Ok (statement.Wait n sort mode))
saying names (TransposeForm output input o) = used names output (λ n s. used names input (λ i t. masked names o.mask (λ mask. transpose_on (n, s) (i, t) mask o)))
saying names (ApplyForm output input f o) = used names output (λ n s. used names input (λ i t. masked names o.mask (λ mask. apply_on (n, s) (i, t) mask f o)))
saying names (SelectForm output input test o) = used names output (λ n s. used names input (λ i t. masked names o.mask (λ mask. select_on (n, s) (i, t) mask test o)))
saying names (KroneckerForm output left right op o) =
    used names output (λ n s. used names left (λ i t. used names right (λ j u. masked names o.mask (λ mask. kronecker_on (n, s) (i, t) (j, u) mask op o))))
saying names (DiagForm name vector diagonal) = made names name (used names vector (λ n sort. diag_of n sort diagonal))
saying names (TuplesForm name) = used names name (λ n sort. Ok (statement.Tuples n sort))

-- the same of words that may have no form
abbrev pub reading : List Name → Option Form → Result Statement FaultKind
reading names form = option_map_or (saying names) form (Err kind.Statement)

-- the names that stand behind a statement of this form: one more where it makes one. A copy is of the sort of what it copies, and what
-- has a vector on a diagonal is a matrix
abbrev pub names_behind : List Name → Option Form → List Name
names_behind names (Some (MatrixForm name domain nrows ncols)) = names ++ (name, sort.Matrix) ∷ []
names_behind names (Some (VectorForm name domain size)) = names ++ (name, sort.Vector) ∷ []
names_behind names (Some (DupForm name source)) = option_map_or (λ sort. names ++ (name, sort) ∷ []) (sort_of names source) names
names_behind names (Some (DiagForm name vector diagonal)) = names ++ (name, sort.Matrix) ∷ []
names_behind names _ = names

-- this is what the form says, and these are the names behind it
pub record IsReading (names : List Name) (form : Option Form) (s : Statement) (after : List Name) : Type 0 where
  pub says : reading names form ≡ Ok s
  pub behind : after ≡ names_behind names form

-- why the form was not read: this is wrong with it, or memory was refused
abbrev pub IsWhyUnread : List Name → Option Form → Unread → Type 0
IsWhyUnread names form (unread.Fault kind) = reading names form ≡ Err kind
IsWhyUnread names form unread.OutOfMemory = Unit {0}
