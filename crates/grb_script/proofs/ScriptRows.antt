-- Worked rows: what the definitions of scripts say of small texts, by computing. Expected values are by hand.
use Rattle.std.specs.Str.{is_utf8, chars}
use Rattle.grb_script.proofs.Prelude.{codes, FaultKind, UnendedLine, BadByte, NameTaken, UnknownName, WrongKind, Semiring, NumberedCommand, sections_of, script_fault}
use Rattle.std.specs.Prelude.{◌≡◌, ℕ, List, [], ◌∷◌, ◌++◌, Some, None, refl, true, false}
use Rattle.grb_core.specs.declared.domain.Domain.TheVariants as domain
use Rattle.grb_core.specs.declared.descriptor.Descriptor.{Descriptor}
use Rattle.grb_core.specs.declared.monoid.Monoid.TheVariants as monoid
use Rattle.grb_core.specs.declared.operator.BinaryOp.TheVariants as op
use Rattle.grb_core.specs.declared.value.Value.TheVariants as value
use Rattle.grb_words.specs.declared.fault.FaultKind.TheVariants.{Section, Statement}
use Rattle.grb_core.specs.declared.functions.Function.TheVariants as function
use Rattle.grb_core.specs.declared.functions.UnaryOp.TheVariants as unary
use Rattle.grb_core.specs.declared.tests.Diagonal.TheVariants as diagonal
use Rattle.grb_core.specs.declared.tests.Test.TheVariants as test
use Rattle.grb_script.specs.declared.command.Command.TheVariants as command
use Rattle.grb_script.specs.declared.names.Sort.TheVariants as sort
use Rattle.grb_script.specs.declared.statement.Statement.{Statement as SaidStatement}
use Rattle.grb_script.specs.declared.statement.Statement.TheVariants as statement

-- the text has this first fault
abbrev IsFaulty : List ℕ → ℕ → FaultKind → Type 0
IsFaulty text line kind = script_fault text ≡ Some (record { line = line; kind = kind })

-- what main asks for
abbrev main_of : List ℕ → List NumberedCommand
main_of text = (sections_of text).main

-- a statement on the line of this number, and a load
abbrev says : ℕ → SaidStatement → NumberedCommand
says number s = record { line = number; command = command.Statement s }

abbrev loads : ℕ → List ℕ → NumberedCommand
loads number path = record { line = number; command = command.Load path }

-- the line ended
abbrev ended : List ℕ → List ℕ
ended line = line ++ 10 ∷ []

-- a script
abbrev first : List ℕ
first = ended (codes "vector v uint64 5") ++ ended (codes "set v 2 7") ++ ended (codes "get v 2") ++ ended (codes "nvals v")

no_text : (script_fault [] ≡ None) × (main_of [] ≡ [])
no_text = (refl, refl)

one_empty_line : (script_fault (10 ∷ []) ≡ None) × (main_of (10 ∷ []) ≡ [])
one_empty_line = (refl, refl)

first_script : (script_fault first ≡ None) × (main_of first ≡ says 1 (statement.Vector domain.Uint64 5) ∷ says 2 (statement.SetVector 0 2 (value.Uint64 7)) ∷ says 3 (statement.GetVector 0 2) ∷ says 4 (statement.Nvals 0 sort.Vector) ∷ [])
first_script = (refl, refl)

-- names count from 0 in the order of making; comments, lines of spaces and many spaces are skipped
abbrev two_names : List ℕ
two_names = ended (codes "# names") ++ ended (codes "vector a bool 1") ++ ended (codes "   ") ++ ended (codes "  vector   b_2 uint64 18446744073709551615 ") ++ ended (codes "  # more") ++ ended (codes "set a 0 false") ++ ended (codes "get b_2 18446744073709551615")

numbered : (script_fault two_names ≡ None) × (main_of two_names ≡ says 2 (statement.Vector domain.Bool 1) ∷ says 4 (statement.Vector domain.Uint64 18446744073709551615) ∷ says 6 (statement.SetVector 0 0 (value.Bool false)) ∷ says 7 (statement.GetVector 1 18446744073709551615) ∷ [])
numbered = (refl, refl)

unended : IsFaulty (ended (codes "vector v uint64 5") ++ codes "nvals v") 2 UnendedLine
unended = refl

carriage_return : IsFaulty (codes "vector v uint64 5" ++ 13 ∷ 10 ∷ []) 1 BadByte
carriage_return = refl

delete_in_a_comment : IsFaulty (ended (ended [] ++ codes "# " ++ 127 ∷ [])) 2 BadByte
delete_in_a_comment = refl

section : IsFaulty (ended (codes "thread 2")) 1 Section
section = refl

section_behind_a_space : IsFaulty (ended (codes " finally x")) 1 Section
section_behind_a_space = refl

leading_zero : IsFaulty (ended (codes "vector v uint64 05")) 1 Statement
leading_zero = refl

short_set : IsFaulty (ended (codes "vector v uint64 5") ++ ended (codes "set v 1")) 2 Statement
short_set = refl

too_great : IsFaulty (ended (codes "vector v uint64 5") ++ ended (codes "get v 18446744073709551616")) 2 Statement
too_great = refl

long_name : IsFaulty (ended (codes "nvals a23456789012345678901234567890123")) 1 Statement
long_name = refl

longest_name : IsFaulty (ended (codes "nvals a2345678901234567890123456789012")) 1 UnknownName
longest_name = refl

unknown_keyword : IsFaulty (ended (codes "Nvals v")) 1 Statement
unknown_keyword = refl

taken : IsFaulty (ended (codes "vector v uint64 5") ++ ended (codes "vector v bool 1")) 2 NameTaken
taken = refl

unknown : IsFaulty (ended (codes "get x 1")) 1 UnknownName
unknown = refl

made_too_late : IsFaulty (ended (codes "nvals v") ++ ended (codes "vector v uint64 5")) 1 UnknownName
made_too_late = refl

-- a fault of an earlier line comes before those of a later one, whatever their kinds
earlier_line : IsFaulty (ended (codes "get x 1") ++ codes "thread" ++ 0 ∷ []) 1 UnknownName
earlier_line = refl

-- of one line the first kind is answered
unended_before_bad_byte : IsFaulty (codes "thread" ++ 0 ∷ []) 1 UnendedLine
unended_before_bad_byte = refl

-- main, two thread sections and `finally`: the names of main stand in each, and each section has its own
abbrev sectioned : List ℕ
sectioned =
    ended (codes "vector v bool 1") ++ ended (codes "thread 1") ++ ended (codes "vector w bool 2") ++ ended (codes "nvals w") ++ ended (codes " thread  2")
    ++ ended (codes "matrix w bool 3 3") ++ ended (codes "nvals v") ++ ended (codes "finally") ++ ended (codes "# the end") ++ ended (codes "vector w bool 4") ++ ended (codes "free w")

four_sections : (script_fault sectioned ≡ None) × (sections_of sectioned ≡ record {
  main = says 1 (statement.Vector domain.Bool 1) ∷ [];
  threads =
      (says 3 (statement.Vector domain.Bool 2) ∷ says 4 (statement.Nvals 1 sort.Vector) ∷ [])
      ∷ (says 6 (statement.Matrix domain.Bool 3 3) ∷ says 7 (statement.Nvals 0 sort.Vector) ∷ []) ∷ [];
  finally = says 10 (statement.Vector domain.Bool 4) ∷ says 11 (statement.Free 1 sort.Vector) ∷ [];
})
four_sections = (refl, refl)

-- a section may be empty
empty_sections : (script_fault (ended (codes "thread 1") ++ ended (codes "thread 2") ++ ended (codes "finally")) ≡ None)
    × (sections_of (ended (codes "thread 1") ++ ended (codes "thread 2") ++ ended (codes "finally")) ≡ record { main = []; threads = [] ∷ [] ∷ []; finally = [] })
empty_sections = (refl, refl)

-- names of one section in another
name_of_another_section : IsFaulty (ended (codes "thread 1") ++ ended (codes "vector w bool 2") ++ ended (codes "thread 2") ++ ended (codes "nvals w")) 4 UnknownName
name_of_another_section = refl

name_of_main_made_again : IsFaulty (ended (codes "vector v bool 1") ++ ended (codes "thread 1") ++ ended (codes "vector v bool 1")) 3 NameTaken
name_of_main_made_again = refl

-- sections out of their order
thread_left_out : IsFaulty (ended (codes "thread 1") ++ ended (codes "thread 3")) 2 Section
thread_left_out = refl

thread_twice : IsFaulty (ended (codes "thread 1") ++ ended (codes "thread 1")) 2 Section
thread_twice = refl

finally_twice : IsFaulty (ended (codes "finally") ++ ended (codes "finally")) 2 Section
finally_twice = refl

thread_behind_finally : IsFaulty (ended (codes "thread 1") ++ ended (codes "finally") ++ ended (codes "thread 2")) 3 Section
thread_behind_finally = refl

thread_of_a_leading_zero : IsFaulty (ended (codes "thread 01")) 1 Section
thread_of_a_leading_zero = refl

bad_byte_before_section : IsFaulty (ended (codes "thread" ++ 0 ∷ [])) 1 BadByte
bad_byte_before_section = refl

section_before_statement : IsFaulty (ended (codes "finally nvals x")) 1 Section
section_before_statement = refl

statement_before_unknown_name : IsFaulty (ended (codes "get x 01")) 1 Statement
statement_before_unknown_name = refl

statement_before_name_taken : IsFaulty (ended (codes "vector v bool 1") ++ ended (codes "vector v bool 01")) 2 Statement
statement_before_name_taken = refl

-- a word of sections is one only where it begins a line
name_of_a_section : (script_fault (ended (codes "vector thread uint64 5")) ≡ None) × (main_of (ended (codes "vector thread uint64 5")) ≡ says 1 (statement.Vector domain.Uint64 5) ∷ [])
name_of_a_section = (refl, refl)

longer_word : IsFaulty (ended (codes "threads")) 1 Statement
longer_word = refl

-- the statements on a matrix, behind those on a vector: names of both sorts count together
abbrev matrices : List ℕ
matrices =
    ended (codes "vector v bool 9") ++ ended (codes "matrix A uint64 3 4") ++ ended (codes "set A 2 3 7") ++ ended (codes "remove A 2 0")
    ++ ended (codes "get A 0 1") ++ ended (codes "resize A 5 6") ++ ended (codes "build A plus 1 0 8 0 1 true") ++ ended (codes "dup B A") ++ ended (codes "free A")
    ++ ended (codes "get A 0 0") ++ ended (codes "size B") ++ ended (codes "clear v")

matrix_statements : (script_fault matrices ≡ None) × (main_of matrices ≡ says 1 (statement.Vector domain.Bool 9) ∷ says 2 (statement.Matrix domain.Uint64 3 4) ∷ says 3 (statement.SetMatrix 1 2 3 (value.Uint64 7))
    ∷ says 4 (statement.RemoveMatrix 1 2 0) ∷ says 5 (statement.GetMatrix 1 0 1) ∷ says 6 (statement.ResizeMatrix 1 5 6)
    ∷ says 7 (statement.BuildMatrix 1 ((1, 0, value.Uint64 8) ∷ (0, 1, value.Bool true) ∷ []) monoid.Plus) ∷ says 8 (statement.Dup 1 sort.Matrix) ∷ says 9 (statement.Free 1 sort.Matrix)
    ∷ says 10 (statement.GetMatrix 1 0 0) ∷ says 11 (statement.Size 2 sort.Matrix) ∷ says 12 (statement.Clear 0 sort.Vector) ∷ [])
matrix_statements = (refl, refl)

-- a list of tuples may be empty, and its values of any domain
abbrev builds : List ℕ
builds = ended (codes "vector v uint64 5") ++ ended (codes "build v plus") ++ ended (codes "build v min 2 5 0 false 2 6") ++ ended (codes "resize v 6") ++ ended (codes "remove v 5")

vector_builds : (script_fault builds ≡ None) × (main_of builds ≡ says 1 (statement.Vector domain.Uint64 5) ∷ says 2 (statement.BuildVector 0 [] monoid.Plus)
    ∷ says 3 (statement.BuildVector 0 ((2, value.Uint64 5) ∷ (0, value.Bool false) ∷ (2, value.Uint64 6) ∷ []) monoid.Min) ∷ says 4 (statement.ResizeVector 0 6) ∷ says 5 (statement.RemoveVector 0 5) ∷ [])
vector_builds = (refl, refl)

-- a copy of itself
unknown_copy : IsFaulty (ended (codes "dup A A")) 1 UnknownName
unknown_copy = refl

taken_copy : IsFaulty (ended (codes "matrix A bool 1 1") ++ ended (codes "dup A A")) 2 NameTaken
taken_copy = refl

taken_before_unknown : IsFaulty (ended (codes "matrix A bool 1 1") ++ ended (codes "dup A B")) 2 NameTaken
taken_before_unknown = refl

-- `free` keeps the name
taken_when_freed : IsFaulty (ended (codes "vector v bool 1") ++ ended (codes "free v") ++ ended (codes "vector v bool 1")) 3 NameTaken
taken_when_freed = refl

-- places and groups of the other sort
short_place : IsFaulty (ended (codes "matrix A bool 1 1") ++ ended (codes "set A 0 1")) 2 WrongKind
short_place = refl

long_place : IsFaulty (ended (codes "vector v bool 1") ++ ended (codes "set v 0 1 2")) 2 WrongKind
long_place = refl

copied_sort : IsFaulty (ended (codes "matrix A bool 1 1") ++ ended (codes "dup B A") ++ ended (codes "resize B 2")) 3 WrongKind
copied_sort = refl

short_group : IsFaulty (ended (codes "matrix A bool 1 1") ++ ended (codes "build A lor 0 0")) 2 WrongKind
short_group = refl

half_group : IsFaulty (ended (codes "vector v bool 1") ++ ended (codes "build v lor 0 true 1")) 2 WrongKind
half_group = refl

truth_as_index : IsFaulty (ended (codes "vector v bool 1") ++ ended (codes "build v lor true 1")) 2 WrongKind
truth_as_index = refl

unknown_before_kind : IsFaulty (ended (codes "build v lor true 1")) 1 UnknownName
unknown_before_kind = refl

no_monoid : IsFaulty (ended (codes "build v first 0 1")) 1 Statement
no_monoid = refl

no_value : IsFaulty (ended (codes "build v plus 0 01")) 1 Statement
no_value = refl

no_columns : IsFaulty (ended (codes "matrix A uint64 2")) 1 Statement
no_columns = refl

-- element-wise statements
abbrev plain : Descriptor
plain = record { structure = false; comp = false; replace = false; tran = false; tran1 = false }

abbrev three : List ℕ
three = ended (codes "vector c uint64 3") ++ ended (codes "vector a uint64 3") ++ ended (codes "matrix M uint64 3 3")

abbrev sums : List ℕ
sums = three ++ ended (codes "ewiseadd c a c plus") ++ ended (codes "ewisemult M M M first mask M accum minus") ++ ended (codes "ewiseadd c a a second mask c structure comp accum max replace")

element_wise : (script_fault sums ≡ None) × (main_of sums ≡ says 1 (statement.Vector domain.Uint64 3) ∷ says 2 (statement.Vector domain.Uint64 3) ∷ says 3 (statement.Matrix domain.Uint64 3 3)
    ∷ says 4 (statement.EwiseAdd (record { sort = sort.Vector; output = 0; mask = None; accum = None; op = op.Plus; left = 1; right = 0; descriptor = plain }))
    ∷ says 5 (statement.EwiseMult (record { sort = sort.Matrix; output = 2; mask = Some 2; accum = Some op.Minus; op = op.First; left = 2; right = 2; descriptor = plain }))
    ∷ says 6 (statement.EwiseAdd (record { sort = sort.Vector; output = 0; mask = Some 0; accum = Some op.Max; op = op.Second; left = 1; right = 1; descriptor = record { structure = true; comp = true; replace = true; tran = false; tran1 = false } })) ∷ [])
element_wise = (refl, refl)

options_out_of_order : IsFaulty (three ++ ended (codes "ewiseadd c a a plus comp structure")) 4 Statement
options_out_of_order = refl

option_twice : IsFaulty (three ++ ended (codes "ewiseadd c a a plus replace replace")) 4 Statement
option_twice = refl

mask_without_name : IsFaulty (three ++ ended (codes "ewiseadd c a a plus mask")) 4 Statement
mask_without_name = refl

mask_of_an_option : IsFaulty (three ++ ended (codes "ewiseadd c a a plus mask comp")) 4 UnknownName
mask_of_an_option = refl

no_operator : IsFaulty (three ++ ended (codes "ewiseadd c a a accum plus")) 4 Statement
no_operator = refl

unknown_mask_before_sorts : IsFaulty (three ++ ended (codes "ewiseadd c a M plus mask x")) 4 UnknownName
unknown_mask_before_sorts = refl

sorts_of_inputs : IsFaulty (three ++ ended (codes "ewiseadd c a M plus")) 4 WrongKind
sorts_of_inputs = refl

sort_of_output : IsFaulty (three ++ ended (codes "ewiseadd M a a plus")) 4 WrongKind
sort_of_output = refl

sort_of_mask : IsFaulty (three ++ ended (codes "ewisemult c a a plus mask M structure")) 4 WrongKind
sort_of_mask = refl

-- a load, which makes the name of a matrix; its path is any word
abbrev loaded : List ℕ
loaded = ended (codes "# a graph") ++ ended (codes " load  P ../a-b/s.mtx ") ++ ended (codes "get P 0 1")

one_load : (script_fault loaded ≡ None) × (main_of loaded ≡ loads 2 (codes "../a-b/s.mtx") ∷ says 3 (statement.GetMatrix 0 0 1) ∷ [])
unfolding is_utf8 chars lib.Utf8.encode
one_load = (refl, refl)

load_without_path : IsFaulty (ended (codes "load P")) 1 Statement
load_without_path = refl

load_of_two_paths : IsFaulty (ended (codes "load P a b")) 1 Statement
load_of_two_paths = refl

load_of_no_name : IsFaulty (ended (codes "load 1P a")) 1 Statement
load_of_no_name = refl

load_of_a_taken_name : IsFaulty (ended (codes "vector v bool 1") ++ ended (codes "load v a")) 2 NameTaken
unfolding is_utf8 chars lib.Utf8.encode
load_of_a_taken_name = refl

index_of_a_loaded_vector : IsFaulty (ended (codes "load P a") ++ ended (codes "get P 1")) 2 WrongKind
unfolding is_utf8 chars lib.Utf8.encode
index_of_a_loaded_vector = refl

-- `version 2` on line 1 asks for nothing, and spaces may stand there as on any line
version_line : (script_fault (ended (codes "  version   2 ") ++ ended (codes "vector v bool 1")) ≡ None)
    × (main_of (ended (codes "  version   2 ") ++ ended (codes "vector v bool 1")) ≡ says 2 (statement.Vector domain.Bool 1) ∷ [])
version_line = (refl, refl)

-- behind any line it is no statement, nor is another line that begins with `version`
version_behind_a_comment : IsFaulty (ended (codes "# script") ++ ended (codes "version 2")) 2 Statement
version_behind_a_comment = refl

version_behind_an_empty_line : IsFaulty (ended [] ++ ended (codes "version 2")) 2 Statement
version_behind_an_empty_line = refl

version_twice : IsFaulty (ended (codes "version 2") ++ ended (codes "version 2")) 2 Statement
version_twice = refl

version_in_a_section : IsFaulty (ended (codes "version 2") ++ ended (codes "finally") ++ ended (codes "version 2")) 3 Statement
version_in_a_section = refl

version_one : IsFaulty (ended (codes "version 1")) 1 Statement
version_one = refl

version_without_number : IsFaulty (ended (codes "version")) 1 Statement
version_without_number = refl

version_with_more : IsFaulty (ended (codes "version 2 x")) 1 Statement
version_with_more = refl

unended_version : IsFaulty (codes "version 2") 1 UnendedLine
unended_version = refl

-- without that line there is neither `vxm` nor `tran`, whatever the names are; a name may be `tran`
tran_without_version : IsFaulty (three ++ ended (codes "ewiseadd M M M plus tran")) 4 Statement
tran_without_version = refl

tran_of_a_product_without_version : IsFaulty (ended (codes "mxv w A u plus.times replace tran")) 1 Statement
tran_of_a_product_without_version = refl

tran_of_a_reduction_without_version : IsFaulty (ended (codes "reduce w A plus tran")) 1 Statement
tran_of_a_reduction_without_version = refl

vxm_without_version : IsFaulty (ended (codes "vxm w u A plus.times")) 1 Statement
vxm_without_version = refl

mask_tran : IsFaulty (three ++ ended (codes "ewiseadd c a a plus mask tran")) 4 UnknownName
mask_tran = refl

-- behind it there are both
abbrev second : List ℕ
second = ended (codes "version 2") ++ three

abbrev turned : Descriptor
turned = record { structure = false; comp = false; replace = false; tran = true; tran1 = false }

abbrev turns : List ℕ
turns =
    second ++ ended (codes "ewisemult M M M first tran") ++ ended (codes "mxv c M a plus.times tran") ++ ended (codes "vxm c a M min.minus mask a accum plus") ++ ended (codes "mxm M M M max.plus tran")
    ++ ended (codes "reduce c M plus mask a structure comp accum min replace tran")

turned_statements : (script_fault turns ≡ None) × (main_of turns ≡ says 2 (statement.Vector domain.Uint64 3) ∷ says 3 (statement.Vector domain.Uint64 3) ∷ says 4 (statement.Matrix domain.Uint64 3 3)
    ∷ says 5 (statement.EwiseMult (record { sort = sort.Matrix; output = 2; mask = None; accum = None; op = op.First; left = 2; right = 2; descriptor = turned }))
    ∷ says 6 (statement.Mxv (record { output = 0; mask = None; accum = None; semiring = record { monoid = monoid.Plus; op = op.Times }; left = 2; right = 1; descriptor = turned }))
    ∷ says 7 (statement.Vxm (record { output = 0; mask = Some 1; accum = Some op.Plus; semiring = record { monoid = monoid.Min; op = op.Minus }; left = 1; right = 2; descriptor = plain }))
    ∷ says 8 (statement.Mxm (record { output = 2; mask = None; accum = None; semiring = record { monoid = monoid.Max; op = op.Plus }; left = 2; right = 2; descriptor = turned }))
    ∷ says 9 (statement.Reduce (record { output = 0; mask = Some 1; accum = Some op.Min; monoid = monoid.Plus; input = 2; descriptor = record { structure = true; comp = true; replace = true; tran = true; tran1 = false } })) ∷ [])
turned_statements = (refl, refl)

tran_of_vxm : IsFaulty (second ++ ended (codes "vxm c x M plus.times tran")) 5 Statement
tran_of_vxm = refl

tran_twice : IsFaulty (second ++ ended (codes "mxv c M a plus.times tran tran")) 5 Statement
tran_twice = refl

tran_before_replace : IsFaulty (second ++ ended (codes "mxv c M a plus.times tran replace")) 5 Statement
tran_before_replace = refl

tran_of_vectors : IsFaulty (second ++ ended (codes "ewiseadd c a a plus tran")) 5 WrongKind
tran_of_vectors = refl

unknown_name_before_tran_of_vectors : IsFaulty (second ++ ended (codes "ewiseadd c a x plus tran")) 5 UnknownName
unknown_name_before_tran_of_vectors = refl

sorts_of_vxm : IsFaulty (second ++ ended (codes "vxm c M a plus.times")) 5 WrongKind
sorts_of_vxm = refl

output_of_vxm : IsFaulty (second ++ ended (codes "vxm M a M plus.times")) 5 WrongKind
output_of_vxm = refl

sorts_of_vxm_before_semiring : IsFaulty (second ++ ended (codes "vxm c M a plus.lor")) 5 WrongKind
sorts_of_vxm_before_semiring = refl

semiring_of_vxm : IsFaulty (second ++ ended (codes "vxm c a M plus.lor")) 5 Semiring
semiring_of_vxm = refl

-- sections are numbered from 1 there too
section_in_version_two : IsFaulty (ended (codes "version 2") ++ ended (codes "thread 2")) 2 Section
section_in_version_two = refl

-- `version 3` on line 1 asks for nothing either, and the names of its words are names too
abbrev third : List ℕ
third = ended (codes "version 3") ++ three

abbrev turned_second : Descriptor
turned_second = record { structure = false; comp = false; replace = false; tran = false; tran1 = true }

abbrev turned_both : Descriptor
turned_both = record { structure = false; comp = false; replace = false; tran = true; tran1 = true }

abbrev maps : List ℕ
maps =
    third ++ ended (codes "transpose M M tran") ++ ended (codes "apply M M ainv mask M structure comp accum plus replace tran") ++ ended (codes "apply c a 9 minus mask a") ++ ended (codes "apply M M true lor tran1")
    ++ ended (codes "apply c c minus 1") ++ ended (codes "select c a rowle 1") ++ ended (codes "select M M tril -2 tran") ++ ended (codes "select c a valuene false") ++ ended (codes "kronecker M M M times mask M tran tran1")

maps_read : (script_fault maps ≡ None) × (main_of maps ≡ says 2 (statement.Vector domain.Uint64 3) ∷ says 3 (statement.Vector domain.Uint64 3) ∷ says 4 (statement.Matrix domain.Uint64 3 3)
    ∷ says 5 (statement.Transpose (record { output = 2; mask = None; input = 2; accum = None; descriptor = turned }))
    ∷ says 6 (statement.Apply (record { sort = sort.Matrix; output = 2; mask = Some 2; input = 2; accum = Some op.Plus; function = function.Unary unary.Ainv; descriptor = record { structure = true; comp = true; replace = true; tran = true; tran1 = false } }))
    ∷ says 7 (statement.Apply (record { sort = sort.Vector; output = 0; mask = Some 1; input = 1; accum = None; function = function.First (value.Uint64 9) op.Minus; descriptor = plain }))
    ∷ says 8 (statement.Apply (record { sort = sort.Matrix; output = 2; mask = None; input = 2; accum = None; function = function.First (value.Bool true) op.Lor; descriptor = turned_second }))
    ∷ says 9 (statement.Apply (record { sort = sort.Vector; output = 0; mask = None; input = 0; accum = None; function = function.Second op.Minus (value.Uint64 1); descriptor = plain }))
    ∷ says 10 (statement.Select (record { sort = sort.Vector; output = 0; mask = None; input = 1; accum = None; test = test.RowLe 1; descriptor = plain }))
    ∷ says 11 (statement.Select (record { sort = sort.Matrix; output = 2; mask = None; input = 2; accum = None; test = test.Tril (diagonal.Below 2); descriptor = turned }))
    ∷ says 12 (statement.Select (record { sort = sort.Vector; output = 0; mask = None; input = 1; accum = None; test = test.ValueNe (value.Bool false); descriptor = plain }))
    ∷ says 13 (statement.Kronecker (record { output = 2; mask = Some 2; left = 2; right = 2; accum = None; op = op.Times; descriptor = turned_both })) ∷ [])
maps_read = (refl, refl)

-- the second input of what stood before, and a matrix with a vector on a diagonal
abbrev more : List ℕ
more =
    third ++ ended (codes "ewiseadd M M M plus tran1") ++ ended (codes "mxm M M M max.plus tran tran1") ++ ended (codes "vxm c a M min.minus tran1") ++ ended (codes "diag D a -4294967295")
    ++ ended (codes "diag diag c 0") ++ ended (codes "tuples D") ++ ended (codes "tuples a") ++ ended (codes "free diag")

more_read : (script_fault more ≡ None) × (main_of more ≡ says 2 (statement.Vector domain.Uint64 3) ∷ says 3 (statement.Vector domain.Uint64 3) ∷ says 4 (statement.Matrix domain.Uint64 3 3)
    ∷ says 5 (statement.EwiseAdd (record { sort = sort.Matrix; output = 2; mask = None; accum = None; op = op.Plus; left = 2; right = 2; descriptor = turned_second }))
    ∷ says 6 (statement.Mxm (record { output = 2; mask = None; accum = None; semiring = record { monoid = monoid.Max; op = op.Plus }; left = 2; right = 2; descriptor = turned_both }))
    ∷ says 7 (statement.Vxm (record { output = 0; mask = None; accum = None; semiring = record { monoid = monoid.Min; op = op.Minus }; left = 1; right = 2; descriptor = turned_second }))
    ∷ says 8 (statement.Diag 1 (diagonal.Below 4294967295)) ∷ says 9 (statement.Diag 0 (diagonal.Above 0)) ∷ says 10 (statement.Tuples 3 sort.Matrix) ∷ says 11 (statement.Tuples 1 sort.Vector)
    ∷ says 12 (statement.Free 4 sort.Matrix) ∷ [])
more_read = (refl, refl)

version_three_behind_a_comment : IsFaulty (ended (codes "# script") ++ ended (codes "version 3")) 2 Statement
version_three_behind_a_comment = refl

version_three_behind_version_two : IsFaulty (ended (codes "version 2") ++ ended (codes "version 3")) 2 Statement
version_three_behind_version_two = refl

version_four : IsFaulty (ended (codes "version 4")) 1 Statement
version_four = refl

-- none of its words is one in the versions before
transpose_in_version_two : IsFaulty (second ++ ended (codes "transpose M M")) 5 Statement
transpose_in_version_two = refl

tuples_in_version_one : IsFaulty (three ++ ended (codes "tuples M")) 4 Statement
tuples_in_version_one = refl

diag_in_version_one : IsFaulty (ended (codes "diag D x 0")) 1 Statement
diag_in_version_one = refl

tran1_in_version_two : IsFaulty (second ++ ended (codes "ewiseadd M M M plus tran1")) 5 Statement
tran1_in_version_two = refl

tran1_of_vxm_in_version_two : IsFaulty (second ++ ended (codes "vxm c a M plus.times tran1")) 5 Statement
tran1_of_vxm_in_version_two = refl

-- each statement has the options of its inputs alone, in their order
tran1_of_transpose : IsFaulty (third ++ ended (codes "transpose M M tran1")) 5 Statement
tran1_of_transpose = refl

tran1_of_mxv : IsFaulty (third ++ ended (codes "mxv c M a plus.times tran1")) 5 Statement
tran1_of_mxv = refl

tran_where_the_value_stands_first : IsFaulty (third ++ ended (codes "apply M M 9 minus tran")) 5 Statement
tran_where_the_value_stands_first = refl

tran1_where_the_value_stands_second : IsFaulty (third ++ ended (codes "apply M M minus 9 tran1")) 5 Statement
tran1_where_the_value_stands_second = refl

tran1_before_tran : IsFaulty (third ++ ended (codes "mxm M M M plus.times tran1 tran")) 5 Statement
tran1_before_tran = refl

-- words of diagonals, of functions and of tests
negative_zero : IsFaulty (third ++ ended (codes "diag D a -0")) 5 Statement
negative_zero = refl

far_diagonal : IsFaulty (third ++ ended (codes "diag D a 4294967296")) 5 Statement
far_diagonal = refl

diagonal_of_a_leading_zero : IsFaulty (third ++ ended (codes "select M M triu 01")) 5 Statement
diagonal_of_a_leading_zero = refl

negative_row : IsFaulty (third ++ ended (codes "select c a rowle -1")) 5 Statement
negative_row = refl

test_without_number : IsFaulty (third ++ ended (codes "select c a tril")) 5 Statement
test_without_number = refl

two_operators : IsFaulty (third ++ ended (codes "apply c a plus minus")) 5 Statement
two_operators = refl

two_values : IsFaulty (third ++ ended (codes "apply c a 1 2")) 5 Statement
two_values = refl

value_alone : IsFaulty (third ++ ended (codes "apply c a 1")) 5 Statement
value_alone = refl

-- names, and what they stand for
diag_of_itself : IsFaulty (third ++ ended (codes "diag D D 0")) 5 UnknownName
diag_of_itself = refl

diag_of_a_taken_name : IsFaulty (third ++ ended (codes "diag a a 0")) 5 NameTaken
diag_of_a_taken_name = refl

diag_of_a_matrix : IsFaulty (third ++ ended (codes "diag D M 0")) 5 WrongKind
diag_of_a_matrix = refl

transpose_of_vectors : IsFaulty (third ++ ended (codes "transpose c a")) 5 WrongKind
transpose_of_vectors = refl

kronecker_of_a_vector : IsFaulty (third ++ ended (codes "kronecker M M a times")) 5 WrongKind
kronecker_of_a_vector = refl

sorts_of_apply : IsFaulty (third ++ ended (codes "apply c M ainv")) 5 WrongKind
sorts_of_apply = refl

mask_of_select : IsFaulty (third ++ ended (codes "select c a rowle 1 mask M")) 5 WrongKind
mask_of_select = refl

unknown_mask_of_apply : IsFaulty (third ++ ended (codes "apply c M ainv mask x")) 5 UnknownName
unknown_mask_of_apply = refl

tran_of_select_of_vectors : IsFaulty (third ++ ended (codes "select c a rowle 1 tran")) 5 WrongKind
tran_of_select_of_vectors = refl

tran1_of_apply_of_vectors : IsFaulty (third ++ ended (codes "apply c a 9 minus tran1")) 5 WrongKind
tran1_of_apply_of_vectors = refl

tran1_of_element_wise_vectors : IsFaulty (third ++ ended (codes "ewisemult c a a plus tran1")) 5 WrongKind
tran1_of_element_wise_vectors = refl
