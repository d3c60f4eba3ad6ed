-- The first fault of a line is that of the lowest number of those that apply.
use Rattle.std.proofs.Common.{◌≡◌, ℕ, ◌+◌, ◌≤◌, Bool, true, false, ◌&&◌, ◌||◌, cond, nat_eq, List, ◌∷◌, Option, Some, None, Ok, Err, Result, is_some, refl, sym, ap, subst, ◌∙◌, arith, inl, inr}
use Rattle.std.specs.Prelude.{not}
use Rattle.grb_script.proofs.Prelude.{list_all, option_map, option_map_or, option_to_list, cases_eq, Line, FaultKind, Version, Form, MatrixForm, VectorForm, DupForm, FreeForm, NvalsForm, SizeForm, ClearForm, RemoveForm, GetForm, ResizeForm, SetForm, BuildForm, EwiseForm, ProductForm, ReduceForm, TotalForm, WaitForm, TransposeForm, ApplyForm, SelectForm, KroneckerForm, DiagForm, TuplesForm, form_of, load_of, Word, words_of, has_allowed_bytes, is_load, is_section, OptionWords, section_of, Sort, asks_load, asks_statement, loading, Name, sort_of, stands, number_in, same_sort, are_of, are_of_product, build_of, diag_of, ewise_on, kronecker_on, transpose_on, same_fit, get_at, left_sort, made, mask_is_of, masked, output_sort, product_on, reading, reduction_on, remove_at, resize_to, right_sort, saying, set_at, turn_fits, used, where_found, Scope, line_fault, section_fault, wording_fault, version_by, says_nothing}
use Rattle.std.specs.Result.{result_err}
use Rattle.grb_core.specs.declared.operator.BinaryOp.{BinaryOp}
use Rattle.grb_core.specs.declared.monoid.Monoid.{Monoid}
use Rattle.grb_core.specs.declared.value.Value.{Value}
use Rattle.grb_core.specs.Monoid.{monoid_domain}
use Rattle.grb_core.specs.Operator.{op_domain}
use Rattle.grb_core.specs.Semiring.{SemiringParts}
use Rattle.grb_call.specs.Refused.{same_domain}
use Rattle.grb_core.specs.declared.descriptor.Descriptor.{Descriptor}
use Rattle.grb_core.specs.declared.tests.Diagonal.{Diagonal}
use Rattle.grb_words.specs.declared.fault.FaultKind.TheVariants as kind
use Rattle.grb_words.specs.declared.indices.Indices.{Indices}
use Rattle.grb_words.specs.declared.indices.Indices.TheVariants as indices
use Rattle.grb_words.specs.declared.keyword.Ewise.{Ewise}
use Rattle.grb_words.specs.declared.keyword.Multiply.{Multiply}
use Rattle.grb_words.specs.declared.keyword.Multiply.TheVariants as multiply
use Rattle.grb_words.specs.declared.section.Section.{Section}
use Rattle.grb_words.specs.Tuples.{vector_tuples, matrix_tuples}
use Rattle.grb_script.specs.declared.names.Sort.TheVariants as sort
use Rattle.grb_script.specs.declared.statement.Statement.{Statement}
use Rattle.grb_script.specs.declared.statement.Statement.TheVariants as statement
use Rattle.grb_script.specs.Faults.{fault_number, IsLowestFault, Sense, Silent, SectionWords, LoadWords, StatementWords, sense_of, is_section_here, has_form, makes_new, uses_known, is_of, sort_by, mask_sorts, are_groups, are_alike, form_has_sorts, has_sorts, form_has_semiring, has_semiring, used_names, AppliesToLine}

-- the fault of a number
of_number : ℕ → FaultKind
of_number n = cond (nat_eq n 1) kind.UnendedLine (cond (nat_eq n 2) kind.BadByte (cond (nat_eq n 3) kind.Section (cond (nat_eq n 4) kind.Statement (cond (nat_eq n 5) kind.NameTaken (cond (nat_eq n 6) kind.UnknownName (cond (nat_eq n 7) kind.WrongKind kind.Semiring))))))

of_its_number : (k : FaultKind) → of_number (fault_number k) ≡ k
unfolding of_number
of_its_number kind.UnendedLine = refl
of_its_number _ = refl

one_number : (p q : FaultKind) → fault_number p ≡ fault_number q → p ≡ q
one_number p q e = sym (of_its_number p) ∙ ap of_number e ∙ of_its_number q

-- a test for each fault: whether it does not apply
abbrev Tests : Type 0
Tests = FaultKind → Bool

-- the first of the faults whose test fails
abbrev first_failed : Tests → Option FaultKind
first_failed t =
    cond (t kind.UnendedLine) (cond (t kind.BadByte) (cond (t kind.Section) (cond (t kind.Statement) (cond (t kind.NameTaken) (cond (t kind.UnknownName) (cond (t kind.WrongKind) (cond (t kind.Semiring) None
    (Some kind.Semiring)) (Some kind.WrongKind)) (Some kind.UnknownName)) (Some kind.NameTaken)) (Some kind.Statement)) (Some kind.Section)) (Some kind.BadByte)) (Some kind.UnendedLine)

module _ (t : Tests) where
  -- the faults from a number on whose tests fail
  abbrev From : ℕ → FaultKind → Type 0
  From n k = (t k ≡ false) × (n ≤ fault_number k)

  tested : (k : FaultKind) (b : Bool) (o : Option FaultKind) → t k ≡ b → IsLowestFault (From (fault_number k + 1)) o → IsLowestFault (From (fault_number k)) (cond b o (Some k))
  tested k false o is first = ((is, omega arith), λ q fails. fails.1)
  tested k true None is first = λ q fails. first q (fails.0, above q fails)
    where
      above : (q : FaultKind) → From (fault_number k) q → fault_number k + 1 ≤ fault_number q
      above q fails =
          elim (cases_eq (fault_number q) (fault_number k)) [
            | inl e ↦ let never : true ≡ false = sym is ∙ (ap t (sym (one_number q k e)) ∙ fails.0) in absurd (cc)
            | inr e ↦ let l = fails.1 in omega arith
          ]
  tested k true (Some p) is first = ((first.0.0, let l = first.0.1 in omega arith), λ q fails. first.1 q (fails.0, above q fails))
    where
      above : (q : FaultKind) → From (fault_number k) q → fault_number k + 1 ≤ fault_number q
      above q fails =
          elim (cases_eq (fault_number q) (fault_number k)) [
            | inl e ↦ let never : true ≡ false = sym is ∙ (ap t (sym (one_number q k e)) ∙ fails.0) in absurd (cc)
            | inr e ↦ let l = fails.1 in omega arith
          ]

  none_behind : IsLowestFault (From 9) None
  none_behind kind.UnendedLine fails = let l = fails.1 in absurd (omega arith)
  none_behind _ fails = let l = fails.1 in absurd (omega arith)

  first-from : IsLowestFault (From 1) (first_failed t)
  first-from =
      tested kind.UnendedLine _ _ refl (tested kind.BadByte _ _ refl (tested kind.Section _ _ refl (tested kind.Statement _ _ refl
      (tested kind.NameTaken _ _ refl (tested kind.UnknownName _ _ refl (tested kind.WrongKind _ _ refl (tested kind.Semiring _ None refl none_behind)))))))

  positive : (k : FaultKind) → 1 ≤ fault_number k
  positive kind.UnendedLine = omega arith
  positive _ = omega arith

  first-of : (Applies : FaultKind → Type 0) → ((k : FaultKind) → Applies k → t k ≡ false) → ((k : FaultKind) → t k ≡ false → Applies k)
      → (o : Option FaultKind) → IsLowestFault (From 1) o → IsLowestFault Applies o
  first-of Applies fails applies None first = λ k is. first k (fails k is, positive k)
  first-of Applies fails applies (Some p) first = (applies p first.0.0, λ k is. first.1 k (fails k is, positive k))

-- the outcome of the last six tests, and of the last four
abbrev by_form : Bool → Bool → Bool → Bool → Option FaultKind
by_form new known sorts semiring =
    cond new (cond known (cond sorts (cond semiring None (Some kind.Semiring)) (Some kind.WrongKind)) (Some kind.UnknownName)) (Some kind.NameTaken)

abbrev by_words : Bool → Bool → Bool → Bool → Bool → Bool → Option FaultKind
by_words section form new known sorts semiring = cond section (cond form (by_form new known sorts semiring) (Some kind.Statement)) (Some kind.Section)

-- a name that is made
module _ (names : List Name) (name : Word) where
  made-by : (b : Bool) (says : Result Statement FaultKind) (known sorts semiring : Bool) → result_err says ≡ by_form true known sorts semiring
      → result_err (cond b (Err kind.NameTaken) says) ≡ by_form (not b) known sorts semiring
  made-by true says known sorts semiring e = refl
  made-by false says known sorts semiring e = e

  made-first : (says : Result Statement FaultKind) (known sorts semiring : Bool) → result_err says ≡ by_form true known sorts semiring
      → result_err (made names name says) ≡ by_form (not (stands names name)) known sorts semiring
  made-first = made-by (stands names name)

  -- a name that is used: what follows is by its sort
  used-by : (o : Option Sort) (says : ℕ → Sort → Result Statement FaultKind) (rest : Bool) (sorts : Option Sort → Bool) (semiring : Bool)
      → ((n : ℕ) (s : Sort) → result_err (says n s) ≡ by_form true rest (sorts (Some s)) semiring)
      → result_err (option_map_or (λ (n : ℕ × Sort). says n.0 n.1) (option_map (λ s. (number_in names name, s)) o) (Err kind.UnknownName)) ≡ by_form true (is_some o && rest) (sorts o) semiring
  used-by None says rest sorts semiring follows = refl
  used-by (Some s) says rest sorts semiring follows = follows (number_in names name) s

  used-first : (says : ℕ → Sort → Result Statement FaultKind) (rest : Bool) (sorts : Option Sort → Bool) (semiring : Bool)
      → ((n : ℕ) (s : Sort) → result_err (says n s) ≡ by_form true rest (sorts (Some s)) semiring)
      → result_err (used names name says) ≡ by_form true (stands names name && rest) (sorts (sort_of names name)) semiring
  used-first = used-by (sort_of names name)

  -- the name of a mask
  mask-by : (o : Option Sort) (says : Option (ℕ × Sort) → Result Statement FaultKind) (sorts : Option Sort → Bool) (semiring : Bool)
      → ((n : ℕ) (s : Sort) → result_err (says (Some (n, s))) ≡ by_form true true (sorts (Some s)) semiring)
      → result_err (where_found says (option_map_or (λ n. Ok (Some n)) (option_map (λ s. (number_in names name, s)) o) (Err kind.UnknownName)))
      ≡ by_form true (is_some o && true) (sorts o) semiring
  mask-by None says sorts semiring follows = refl
  mask-by (Some s) says sorts semiring follows = follows (number_in names name) s

module _ (names : List Name) where
  -- a mask, where one is given
  masked-first : (mask : Option Word) (says : Option (ℕ × Sort) → Result Statement FaultKind) (sorts : Option Word → Bool) (by_sort : Option Sort → Bool) (semiring : Bool)
      → ((name : Word) → by_sort (sort_of names name) ≡ sorts (Some name))
      → result_err (says None) ≡ by_form true true (sorts None) semiring
      → ((n : ℕ) (s : Sort) → result_err (says (Some (n, s))) ≡ by_form true true (by_sort (Some s)) semiring)
      → result_err (masked names mask says) ≡ by_form true (list_all (stands names) (option_to_list mask)) (sorts mask) semiring
  masked-first None says sorts by_sort semiring same none some = none
  masked-first (Some name) says sorts by_sort semiring same none some =
      mask-by names name (sort_of names name) says by_sort semiring some ∙ ap (λ b. by_form true (stands names name && true) b semiring) (same name)

  -- a statement on one name whose sort is not asked
  plain-first : (name : Word) (says : ℕ → Sort → Statement) → result_err (used names name (λ n s. Ok (says n s))) ≡ by_form true (stands names name && true) true true
  plain-first name says = used-first names name (λ n s. Ok (says n s)) true (λ o. true) true (λ n s. refl)

  -- one whose sort its indices ask for
  placed-first : (name : Word) (p : Indices) (says : ℕ → Sort → Indices → Result Statement FaultKind)
      → ((n : ℕ) (s : Sort) → result_err (says n s p) ≡ by_form true true (same_sort (sort_by p) s && true) true)
      → result_err (used names name (λ n s. says n s p)) ≡ by_form true (stands names name && true) (is_of names (sort_by p) name && true) true
  placed-first name p says follows = used-first names name (λ n s. says n s p) true (λ o. option_map_or (same_sort (sort_by p)) o true && true) true follows

removes : (p : Indices) (n : ℕ) (s : Sort) → result_err (remove_at n s p) ≡ by_form true true (same_sort (sort_by p) s && true) true
removes (indices.One i) n sort.Vector = refl
removes (indices.One i) n sort.Matrix = refl
removes (indices.Two i j) n sort.Vector = refl
removes (indices.Two i j) n sort.Matrix = refl

gets : (p : Indices) (n : ℕ) (s : Sort) → result_err (get_at n s p) ≡ by_form true true (same_sort (sort_by p) s && true) true
gets (indices.One i) n sort.Vector = refl
gets (indices.One i) n sort.Matrix = refl
gets (indices.Two i j) n sort.Vector = refl
gets (indices.Two i j) n sort.Matrix = refl

resizes : (p : Indices) (n : ℕ) (s : Sort) → result_err (resize_to n s p) ≡ by_form true true (same_sort (sort_by p) s && true) true
resizes (indices.One i) n sort.Vector = refl
resizes (indices.One i) n sort.Matrix = refl
resizes (indices.Two i j) n sort.Vector = refl
resizes (indices.Two i j) n sort.Matrix = refl

sets : (x : Value) (p : Indices) (n : ℕ) (s : Sort) → result_err (set_at n s p x) ≡ by_form true true (same_sort (sort_by p) s && true) true
sets x (indices.One i) n sort.Vector = refl
sets x (indices.One i) n sort.Matrix = refl
sets x (indices.Two i j) n sort.Vector = refl
sets x (indices.Two i j) n sort.Matrix = refl

-- a list that may not be one of groups
grouped : {X : Type 0} (tuples : Option X) (says : X → Statement)
    → result_err (option_map_or (λ t. Ok (says t)) tuples (Err kind.WrongKind)) ≡ by_form true true (is_some tuples) true
grouped None says = refl
grouped (Some t) says = refl

builds : (dup : Monoid) (values : List Value) (n : ℕ) (s : Sort) → result_err (build_of n s dup values) ≡ by_form true true (are_groups values s) true
builds dup values n sort.Matrix = grouped (matrix_tuples values) (λ tuples. statement.BuildMatrix n tuples dup)
builds dup values n sort.Vector = grouped (vector_tuples values) (λ tuples. statement.BuildVector n tuples dup)

-- a statement of which a test of sorts is left, and one of which a semiring is left behind it
sorted : (b : Bool) (s : Statement) → result_err (cond b (Ok s) (Err kind.WrongKind)) ≡ by_form true true b true
sorted true s = refl
sorted false s = refl

multiplied : (b d : Bool) (x : SemiringParts) (says : SemiringParts → Statement)
    → result_err (cond b (where_found (λ y. Ok (says y)) (cond d (Ok x) (Err kind.Semiring))) (Err kind.WrongKind)) ≡ by_form true true b d
multiplied true true x says = refl
multiplied true false x says = refl
multiplied false d x says = refl

-- the sorts of an element-wise statement: those of its names, and of its mask
abbrev of_sort : Sort → Option Sort → Bool
of_sort s o = option_map_or (same_sort s) o true

abbrev all_of : Sort → Option Sort → Option Sort → Option Sort → Bool → Bool
all_of s a b c mask = of_sort s a && (of_sort s b && (of_sort s c && mask))

ewise-none : (d : Descriptor) (s t u : Sort)
    → (are_of s (0, t) (0, u) None && turn_fits s d) ≡ (all_of sort.Matrix (Some s) (Some t) (Some u) true || (all_of sort.Vector (Some s) (Some t) (Some u) true && not d.tran && not d.tran1))
ewise-none d sort.Matrix sort.Matrix sort.Matrix = refl
ewise-none d sort.Matrix sort.Matrix sort.Vector = refl
ewise-none d sort.Matrix sort.Vector u = refl
ewise-none d sort.Vector sort.Matrix u = refl
ewise-none d sort.Vector sort.Vector sort.Matrix = refl
ewise-none d sort.Vector sort.Vector sort.Vector = refl

ewise-some : (d : Descriptor) (s t u v : Sort)
    → (are_of s (0, t) (0, u) (Some (0, v)) && turn_fits s d)
    ≡ (all_of sort.Matrix (Some s) (Some t) (Some u) (of_sort sort.Matrix (Some v) && true) || (all_of sort.Vector (Some s) (Some t) (Some u) (of_sort sort.Vector (Some v) && true) && not d.tran && not d.tran1))
ewise-some d sort.Matrix sort.Matrix sort.Matrix sort.Matrix = refl
ewise-some d sort.Matrix sort.Matrix sort.Matrix sort.Vector = refl
ewise-some d sort.Matrix sort.Matrix sort.Vector v = refl
ewise-some d sort.Matrix sort.Vector u v = refl
ewise-some d sort.Vector sort.Matrix u v = refl
ewise-some d sort.Vector sort.Vector sort.Matrix v = refl
ewise-some d sort.Vector sort.Vector sort.Vector sort.Matrix = refl
ewise-some d sort.Vector sort.Vector sort.Vector sort.Vector = refl

-- the same of a statement with one input
abbrev both_of : Sort → Option Sort → Option Sort → Bool → Bool
both_of s a b mask = of_sort s a && (of_sort s b && mask)

same-none : (d : Descriptor) (s t : Sort)
    → same_fit (0, s) (0, t) None d ≡ (both_of sort.Matrix (Some s) (Some t) true || (both_of sort.Vector (Some s) (Some t) true && not d.tran && not d.tran1))
same-none d sort.Matrix sort.Matrix = refl
same-none d sort.Matrix sort.Vector = refl
same-none d sort.Vector sort.Matrix = refl
same-none d sort.Vector sort.Vector = refl

same-some : (d : Descriptor) (s t v : Sort)
    → same_fit (0, s) (0, t) (Some (0, v)) d
    ≡ (both_of sort.Matrix (Some s) (Some t) (of_sort sort.Matrix (Some v) && true) || (both_of sort.Vector (Some s) (Some t) (of_sort sort.Vector (Some v) && true) && not d.tran && not d.tran1))
same-some d sort.Matrix sort.Matrix sort.Matrix = refl
same-some d sort.Matrix sort.Matrix sort.Vector = refl
same-some d sort.Matrix sort.Vector v = refl
same-some d sort.Vector sort.Matrix v = refl
same-some d sort.Vector sort.Vector sort.Matrix = refl
same-some d sort.Vector sort.Vector sort.Vector = refl

diags : (diagonal : Diagonal) (n : ℕ) (s : Sort) → result_err (diag_of n s diagonal) ≡ by_form true true (same_sort sort.Vector s && true) true
diags diagonal n sort.Matrix = refl
diags diagonal n sort.Vector = refl

-- three tests and that of a mask, as a list has them
four : (a b c d : Bool) → (a && b && c && d) ≡ (a && (b && (c && (d && true))))
four false b c d = refl
four true false c d = refl
four true true false d = refl
four true true true false = refl
four true true true true = refl

three : (a b c : Bool) → (a && b && c && true) ≡ (a && (b && (c && true)))
three false b c = refl
three true false c = refl
three true true false = refl
three true true true = refl

-- the same where the first test stands apart
one_and_three : (a b c d : Bool) → (a && (b && c && d)) ≡ (a && (b && (c && (d && true))))
one_and_three false b c d = refl
one_and_three true false c d = refl
one_and_three true true false d = refl
one_and_three true true true false = refl
one_and_three true true true true = refl

one_and_two : (a b c : Bool) → (a && (b && c && true)) ≡ (a && (b && (c && true)))
one_and_two false b c = refl
one_and_two true false c = refl
one_and_two true true false = refl
one_and_two true true true = refl

three_with : (a b d : Bool) → (a && b && d) ≡ (a && (b && (d && true)))
three_with false b d = refl
three_with true false d = refl
three_with true true false = refl
three_with true true true = refl

two : (a b : Bool) → (a && b && true) ≡ (a && (b && true))
two false b = refl
two true false = refl
two true true = refl

module _ (names : List Name) where
  -- whether a mask stands, and is of this sort
  abbrev mask_stands : Option Word → Bool
  mask_stands mask = list_all (stands names) (option_to_list mask)

  abbrev mask_of : Sort → Option Word → Bool
  mask_of s mask = list_all (is_of names s) (option_to_list mask)

  -- whether the sorts of an element-wise statement fit, by those of its names and by its mask, and by the sort of that
  abbrev ewise_sorts : Descriptor → Option Sort → Option Sort → Option Sort → Option Word → Bool
  ewise_sorts d a b c mask = all_of sort.Matrix a b c (mask_of sort.Matrix mask) || (all_of sort.Vector a b c (mask_of sort.Vector mask) && not d.tran && not d.tran1)

  abbrev ewise_by_mask : Descriptor → Sort → Sort → Sort → Option Sort → Bool
  ewise_by_mask d s t u v =
      all_of sort.Matrix (Some s) (Some t) (Some u) (of_sort sort.Matrix v && true) || (all_of sort.Vector (Some s) (Some t) (Some u) (of_sort sort.Vector v && true) && not d.tran && not d.tran1)

  ewise-first : (w : Ewise) (output left right : Word) (op : BinaryOp) (o : OptionWords)
      → result_err (saying names (EwiseForm w output left right op o)) ≡ by_form true (list_all (stands names) (used_names (EwiseForm w output left right op o))) (form_has_sorts names (EwiseForm w output left right op o)) true
  ewise-first w output left right op o =
      used-first names output _ (stands names left && (stands names right && mask_stands o.mask)) (λ a. ewise_sorts o.descriptor a (sort_of names left) (sort_of names right) o.mask) true (λ n s.
      used-first names left _ (stands names right && mask_stands o.mask) (λ b. ewise_sorts o.descriptor (Some s) b (sort_of names right) o.mask) true (λ i t.
      used-first names right _ (mask_stands o.mask) (λ c. ewise_sorts o.descriptor (Some s) (Some t) c o.mask) true (λ j u.
      masked-first names o.mask (λ mask. ewise_on w (n, s) (i, t) (j, u) mask op o) (ewise_sorts o.descriptor (Some s) (Some t) (Some u)) (ewise_by_mask o.descriptor s t u) true (λ name. refl)
      (sorted (are_of s (i, t) (j, u) None && turn_fits s o.descriptor) _ ∙ ap (λ b. by_form true true b true) (ewise-none o.descriptor s t u))
      (λ m v. sorted (are_of s (i, t) (j, u) (Some (m, v)) && turn_fits s o.descriptor) _ ∙ ap (λ b. by_form true true b true) (ewise-some o.descriptor s t u v)))))

  -- the same of a statement with one input
  abbrev same_sorts : Descriptor → Option Sort → Option Sort → Option Word → Bool
  same_sorts d a b mask = both_of sort.Matrix a b (mask_of sort.Matrix mask) || (both_of sort.Vector a b (mask_of sort.Vector mask) && not d.tran && not d.tran1)

  abbrev same_by_mask : Descriptor → Sort → Sort → Option Sort → Bool
  same_by_mask d s t v =
      both_of sort.Matrix (Some s) (Some t) (of_sort sort.Matrix v && true) || (both_of sort.Vector (Some s) (Some t) (of_sort sort.Vector v && true) && not d.tran && not d.tran1)

  same-first : (output input : Word) (o : OptionWords) (says : ℕ × Sort → ℕ × Sort → Option (ℕ × Sort) → Statement)
      → result_err (used names output (λ n s. used names input (λ i t. masked names o.mask (λ mask. cond (same_fit (n, s) (i, t) mask o.descriptor) (Ok (says (n, s) (i, t) mask)) (Err kind.WrongKind)))))
      ≡ by_form true (list_all (stands names) (output ∷ input ∷ option_to_list o.mask)) (are_alike names (output ∷ input ∷ option_to_list o.mask) o.descriptor) true
  same-first output input o says =
      used-first names output _ (stands names input && mask_stands o.mask) (λ a. same_sorts o.descriptor a (sort_of names input) o.mask) true (λ n s.
      used-first names input _ (mask_stands o.mask) (λ b. same_sorts o.descriptor (Some s) b o.mask) true (λ i t.
      masked-first names o.mask (λ mask. cond (same_fit (n, s) (i, t) mask o.descriptor) (Ok (says (n, s) (i, t) mask)) (Err kind.WrongKind)) (same_sorts o.descriptor (Some s) (Some t)) (same_by_mask o.descriptor s t) true (λ name. refl)
      (sorted (same_fit (n, s) (i, t) None o.descriptor) _ ∙ ap (λ b. by_form true true b true) (same-none o.descriptor s t))
      (λ m v. sorted (same_fit (n, s) (i, t) (Some (m, v)) o.descriptor) _ ∙ ap (λ b. by_form true true b true) (same-some o.descriptor s t v))))

  -- whether what a list of names asks for is so
  abbrev are_sorts : List (Word × Sort) → Bool
  are_sorts commands = list_all (λ p. is_of names p.1 p.0) commands

  -- the same of a product
  abbrev product_sorts : Multiply → Option Sort → Option Sort → Option Sort → Option Word → Bool
  product_sorts w a b c mask = of_sort (output_sort w) a && (of_sort (left_sort w) b && (of_sort (right_sort w) c && are_sorts (mask_sorts (output_sort w) mask)))

  abbrev product_by_mask : Multiply → Sort → Sort → Sort → Option Sort → Bool
  product_by_mask w s t u v = of_sort (output_sort w) (Some s) && (of_sort (left_sort w) (Some t) && (of_sort (right_sort w) (Some u) && (of_sort (output_sort w) v && true)))

  abbrev domains : Monoid × BinaryOp → Bool
  domains f = same_domain (monoid_domain f.0) (op_domain f.1)

  product-first : (w : Multiply) (output left right : Word) (f : Monoid × BinaryOp) (o : OptionWords)
      → result_err (saying names (ProductForm w output left right f o))
      ≡ by_form true (list_all (stands names) (output ∷ left ∷ right ∷ option_to_list o.mask))
      (are_sorts ((output, output_sort w) ∷ (left, left_sort w) ∷ (right, right_sort w) ∷ mask_sorts (output_sort w) o.mask)) (same_domain (monoid_domain f.0) (op_domain f.1))
  product-first w output left right f o =
      used-first names output _ (stands names left && (stands names right && mask_stands o.mask)) (λ a. product_sorts w a (sort_of names left) (sort_of names right) o.mask) (domains f) (λ n s.
      used-first names left _ (stands names right && mask_stands o.mask) (λ b. product_sorts w (Some s) b (sort_of names right) o.mask) (domains f) (λ i t.
      used-first names right _ (mask_stands o.mask) (λ c. product_sorts w (Some s) (Some t) c o.mask) (domains f) (λ j u.
      masked-first names o.mask (λ mask. product_on w (n, s) (i, t) (j, u) mask f o) (product_sorts w (Some s) (Some t) (Some u)) (product_by_mask w s t u) (domains f) (λ name. refl)
      (multiplied (are_of_product w (n, s) (i, t) (j, u) None) (domains f) _ _ ∙ ap (λ b. by_form true true b (domains f)) (three (same_sort (output_sort w) s) (same_sort (left_sort w) t) (same_sort (right_sort w) u)))
      (λ m v. multiplied (are_of_product w (n, s) (i, t) (j, u) (Some (m, v))) (domains f) _ _
      ∙ ap (λ b. by_form true true b (domains f)) (four (same_sort (output_sort w) s) (same_sort (left_sort w) t) (same_sort (right_sort w) u) (same_sort (output_sort w) v))))))

  -- the same of a reduction
  abbrev reduction_sorts : Option Sort → Option Sort → Option Word → Bool
  reduction_sorts a b mask = of_sort sort.Vector a && (of_sort sort.Matrix b && are_sorts (mask_sorts sort.Vector mask))

  abbrev reduction_by_mask : Sort → Sort → Option Sort → Bool
  reduction_by_mask s t v = of_sort sort.Vector (Some s) && (of_sort sort.Matrix (Some t) && (of_sort sort.Vector v && true))

  reduction-first : (output input : Word) (monoid : Monoid) (o : OptionWords)
      → result_err (saying names (ReduceForm output input monoid o))
      ≡ by_form true (list_all (stands names) (output ∷ input ∷ option_to_list o.mask)) (are_sorts ((output, sort.Vector) ∷ (input, sort.Matrix) ∷ mask_sorts sort.Vector o.mask)) true
  reduction-first output input monoid o =
      used-first names output _ (stands names input && mask_stands o.mask) (λ a. reduction_sorts a (sort_of names input) o.mask) true (λ n s.
      used-first names input _ (mask_stands o.mask) (λ b. reduction_sorts (Some s) b o.mask) true (λ i t.
      masked-first names o.mask (λ mask. reduction_on (n, s) (i, t) mask monoid o) (reduction_sorts (Some s) (Some t)) (reduction_by_mask s t) true (λ name. refl)
      (sorted (same_sort sort.Vector s && same_sort sort.Matrix t && mask_is_of sort.Vector None) _ ∙ ap (λ b. by_form true true b true) (two (same_sort sort.Vector s) (same_sort sort.Matrix t)))
      (λ m v. sorted (same_sort sort.Vector s && same_sort sort.Matrix t && mask_is_of sort.Vector (Some (m, v))) _
      ∙ ap (λ b. by_form true true b true) (three_with (same_sort sort.Vector s) (same_sort sort.Matrix t) (same_sort sort.Vector v)))))

  -- the same of a transposition
  abbrev transpose_sorts : Option Sort → Option Sort → Option Word → Bool
  transpose_sorts a b mask = of_sort sort.Matrix a && (of_sort sort.Matrix b && are_sorts (mask_sorts sort.Matrix mask))

  abbrev transpose_by_mask : Sort → Sort → Option Sort → Bool
  transpose_by_mask s t v = of_sort sort.Matrix (Some s) && (of_sort sort.Matrix (Some t) && (of_sort sort.Matrix v && true))

  transpose-first : (output input : Word) (o : OptionWords)
      → result_err (saying names (TransposeForm output input o))
      ≡ by_form true (list_all (stands names) (output ∷ input ∷ option_to_list o.mask)) (are_sorts ((output, sort.Matrix) ∷ (input, sort.Matrix) ∷ mask_sorts sort.Matrix o.mask)) true
  transpose-first output input o =
      used-first names output _ (stands names input && mask_stands o.mask) (λ a. transpose_sorts a (sort_of names input) o.mask) true (λ n s.
      used-first names input _ (mask_stands o.mask) (λ b. transpose_sorts (Some s) b o.mask) true (λ i t.
      masked-first names o.mask (λ mask. transpose_on (n, s) (i, t) mask o) (transpose_sorts (Some s) (Some t)) (transpose_by_mask s t) true (λ name. refl)
      (sorted (same_sort sort.Matrix s && same_sort sort.Matrix t && mask_is_of sort.Matrix None) _ ∙ ap (λ b. by_form true true b true) (two (same_sort sort.Matrix s) (same_sort sort.Matrix t)))
      (λ m v. sorted (same_sort sort.Matrix s && same_sort sort.Matrix t && mask_is_of sort.Matrix (Some (m, v))) _
      ∙ ap (λ b. by_form true true b true) (three_with (same_sort sort.Matrix s) (same_sort sort.Matrix t) (same_sort sort.Matrix v)))))

  -- and of a Kronecker product
  abbrev kronecker_sorts : Option Sort → Option Sort → Option Sort → Option Word → Bool
  kronecker_sorts a b c mask = of_sort sort.Matrix a && (of_sort sort.Matrix b && (of_sort sort.Matrix c && are_sorts (mask_sorts sort.Matrix mask)))

  abbrev kronecker_by_mask : Sort → Sort → Sort → Option Sort → Bool
  kronecker_by_mask s t u v = of_sort sort.Matrix (Some s) && (of_sort sort.Matrix (Some t) && (of_sort sort.Matrix (Some u) && (of_sort sort.Matrix v && true)))

  kronecker-first : (output left right : Word) (op : BinaryOp) (o : OptionWords)
      → result_err (saying names (KroneckerForm output left right op o))
      ≡ by_form true (list_all (stands names) (output ∷ left ∷ right ∷ option_to_list o.mask))
      (are_sorts ((output, sort.Matrix) ∷ (left, sort.Matrix) ∷ (right, sort.Matrix) ∷ mask_sorts sort.Matrix o.mask)) true
  kronecker-first output left right op o =
      used-first names output _ (stands names left && (stands names right && mask_stands o.mask)) (λ a. kronecker_sorts a (sort_of names left) (sort_of names right) o.mask) true (λ n s.
      used-first names left _ (stands names right && mask_stands o.mask) (λ b. kronecker_sorts (Some s) b (sort_of names right) o.mask) true (λ i t.
      used-first names right _ (mask_stands o.mask) (λ c. kronecker_sorts (Some s) (Some t) c o.mask) true (λ j u.
      masked-first names o.mask (λ mask. kronecker_on (n, s) (i, t) (j, u) mask op o) (kronecker_sorts (Some s) (Some t) (Some u)) (kronecker_by_mask s t u) true (λ name. refl)
      (sorted (same_sort sort.Matrix s && are_of sort.Matrix (i, t) (j, u) None) _ ∙ ap (λ b. by_form true true b true) (one_and_two (same_sort sort.Matrix s) (same_sort sort.Matrix t) (same_sort sort.Matrix u)))
      (λ m v. sorted (same_sort sort.Matrix s && are_of sort.Matrix (i, t) (j, u) (Some (m, v))) _
      ∙ ap (λ b. by_form true true b true) (one_and_three (same_sort sort.Matrix s) (same_sort sort.Matrix t) (same_sort sort.Matrix u) (same_sort sort.Matrix v))))))

  -- the tests of a form
  abbrev form_fault : Form → Option FaultKind
  form_fault f = by_form (makes_new names (StatementWords (Some f))) (uses_known names (StatementWords (Some f))) (form_has_sorts names f) (form_has_semiring f)

  form-first : (f : Form) → result_err (saying names f) ≡ form_fault f
  form-first (MatrixForm name domain nrows ncols) = made-first names name (Ok (statement.Matrix domain nrows ncols)) true true true refl
  form-first (VectorForm name domain size) = made-first names name (Ok (statement.Vector domain size)) true true true refl
  form-first (DupForm name source) =
      made-first names name (used names source (λ n s. Ok (statement.Dup n s))) (stands names source && true) true true (plain-first names source (λ n s. statement.Dup n s))
  form-first (FreeForm name) = plain-first names name (λ n s. statement.Free n s)
  form-first (NvalsForm name) = plain-first names name (λ n s. statement.Nvals n s)
  form-first (SizeForm name) = plain-first names name (λ n s. statement.Size n s)
  form-first (ClearForm name) = plain-first names name (λ n s. statement.Clear n s)
  form-first (RemoveForm name p) = placed-first names name p remove_at (removes p)
  form-first (GetForm name p) = placed-first names name p get_at (gets p)
  form-first (ResizeForm name p) = placed-first names name p resize_to (resizes p)
  form-first (SetForm name p x) = placed-first names name p (λ n s q. set_at n s q x) (sets x p)
  form-first (BuildForm name dup values) = used-first names name (λ n s. build_of n s dup values) true (λ o. option_map_or (are_groups values) o true) true (builds dup values)
  form-first (EwiseForm w output left right op o) = ewise-first w output left right op o
  form-first (ProductForm multiply.Mxv output left right f o) = product-first multiply.Mxv output left right f o
  form-first (ProductForm multiply.Vxm output left right f o) = product-first multiply.Vxm output left right f o
  form-first (ProductForm multiply.Mxm output left right f o) = product-first multiply.Mxm output left right f o
  form-first (ReduceForm output input monoid o) = reduction-first output input monoid o
  form-first (TotalForm name monoid) = plain-first names name (λ n s. statement.Total n s monoid)
  form-first (WaitForm name mode) = plain-first names name (λ n s. statement.Wait n s mode)
  form-first (TransposeForm output input o) = transpose-first output input o
  form-first (ApplyForm output input f o) =
      same-first output input o (λ p q mask. statement.Apply (record { sort = p.1; output = p.0; mask = option_map (λ m. m.0) mask; accum = o.accum; function = f; input = q.0; descriptor = o.descriptor }))
  form-first (SelectForm output input test o) =
      same-first output input o (λ p q mask. statement.Select (record { sort = p.1; output = p.0; mask = option_map (λ m. m.0) mask; accum = o.accum; test = test; input = q.0; descriptor = o.descriptor }))
  form-first (KroneckerForm output left right op o) = kronecker-first output left right op o
  form-first (DiagForm name vector diagonal) =
      made-first names name (used names vector (λ n s. diag_of n s diagonal)) (stands names vector && true) (is_of names sort.Vector vector && true) true
      (used-first names vector (λ n s. diag_of n s diagonal) true (λ o. option_map_or (same_sort sort.Vector) o true && true) true (diags diagonal))
  form-first (TuplesForm name) = plain-first names name (λ n s. statement.Tuples n s)

-- the fault of words by what they are
abbrev sense_fault : Version → Scope → Sense → Option FaultKind
sense_fault version here Silent = None
sense_fault version here (SectionWords section) = section_fault version here.section section
sense_fault version here (LoadWords load) = result_err (asks_load (loading here.names load))
sense_fault version here (StatementWords form) = result_err (asks_statement (reading here.names form))

loaded : (b : Bool) (path : Word) → result_err (asks_load (cond b (Err kind.NameTaken) (Ok path))) ≡ by_form (not b) true true true
loaded true path = refl
loaded false path = refl

stated : (r : Result Statement FaultKind) → result_err (asks_statement r) ≡ result_err r
stated (Ok s) = refl
stated (Err k) = refl

words-first : (version : Version) (here : Scope) (sense : Sense)
    → sense_fault version here sense
    ≡ by_words (is_section_here version here.section sense) (has_form sense) (makes_new here.names sense) (uses_known here.names sense) (has_sorts here.names sense) (has_semiring sense)
words-first version here (SectionWords None) = refl
words-first version here (LoadWords (Some load)) = loaded (stands here.names load.0) load.1
words-first version here (StatementWords (Some form)) = stated (saying here.names form) ∙ form-first here.names form
words-first version here _ = refl

-- words by what they are
sensed : (version : Version) (here : Scope) (a b c : Bool) (section : Option Section) (load : Option (Word × Word)) (form : Option Form)
    → cond a None (cond b (section_fault version here.section section) (result_err (cond c (asks_load (loading here.names load)) (asks_statement (reading here.names form)))))
    ≡ sense_fault version here (cond a Silent (cond b (SectionWords section) (cond c (LoadWords load) (StatementWords form))))
sensed version here true b c section load form = refl
sensed version here false true c section load form = refl
sensed version here false false true section load form = refl
sensed version here false false false section load form = refl

exchanged : (b : Bool) (x y : Option FaultKind) → cond (not b) x y ≡ cond b y x
exchanged true x y = refl
exchanged false x y = refl

module _ (here : Scope) (line : Line) where
  abbrev words : List Word
  words = words_of line.bytes

  abbrev version : Version
  version = version_by here.version words

  abbrev sense : Sense
  sense = sense_of here.version words

  -- the tests of a line
  abbrev line_tests : Tests
  line_tests kind.UnendedLine = line.is_ended
  line_tests kind.BadByte = has_allowed_bytes line.bytes
  line_tests kind.Section = is_section_here version here.section sense
  line_tests kind.Statement = has_form sense
  line_tests kind.NameTaken = makes_new here.names sense
  line_tests kind.UnknownName = uses_known here.names sense
  line_tests kind.WrongKind = has_sorts here.names sense
  line_tests kind.Semiring = has_semiring sense

  fails : (k : FaultKind) → AppliesToLine here line k → line_tests k ≡ false
  fails kind.UnendedLine is = is
  fails _ is = is

  applies : (k : FaultKind) → line_tests k ≡ false → AppliesToLine here line k
  applies kind.UnendedLine is = is
  applies _ is = is

  worded : wording_fault here words ≡ by_words (is_section_here version here.section sense) (has_form sense) (makes_new here.names sense) (uses_known here.names sense) (has_sorts here.names sense) (has_semiring sense)
  worded =
      sensed version here (says_nothing here.version words) (is_section words) (is_load words) (section_of words) (load_of words) (form_of version words)
      ∙ words-first version here sense

  by_tests : line_fault here line ≡ first_failed line_tests
  by_tests =
      exchanged line.is_ended (Some kind.UnendedLine) _
      ∙ ap (λ o. cond line.is_ended o (Some kind.UnendedLine))
      (exchanged (has_allowed_bytes line.bytes) (Some kind.BadByte) (wording_fault here words) ∙ ap (λ o. cond (has_allowed_bytes line.bytes) o (Some kind.BadByte)) worded)

  pub first_fault_of_line : IsLowestFault (AppliesToLine here line) (line_fault here line)
  first_fault_of_line =
      subst (IsLowestFault (AppliesToLine here line)) (sym by_tests) (first-of line_tests (AppliesToLine here line) fails applies (first_failed line_tests) (first-from line_tests))
