use Rattle.std.proofs.Common.{ap, refl, Some}
use Rattle.grb_call.specs.declared.call.Call.TheVariants as call
use Rattle.grb_call.specs.declared.term.MatrixTerm.TheVariants as term
use Rattle.grb_objects.specs.Stored.{stored}
use Rattle.grb_operations.proofs.Dispatched.{held_output_matrix, is_call, matrix_left_as}
use Rattle.grb_operations.proofs.Lent.{if_ok, lent_matrix_entries}
use Rattle.grb_operations.proofs.LentTerms.{applied-left, applied-tests, each_matrix-there, each_matrix_are, each_matrix_input, each_matrix_output, first_factor-there, kronecker-left, kronecker-tests, kronecker_are, kronecker_factors, kronecker_output, second_factor-there, selected-left, selected-tests, term_matrix_mask-there, transposed-left, transposed-tests}
use Rattle.grb_call.proofs.Terms.{function_is, test_is}
use Rattle.grb_operations.proofs.outputs.written_matrix.Goals as goal

pub lent-output-requires : goal.lent-output-requires
lent-output-requires c =
    held_output_matrix c.args.objects.now.matrices.items c.args.objects.now.vectors.items c.args.c (call.WriteMatrix c.args.c c.args.mask c.args.accum c.args.term c.args.d) refl refl c.requires.accepted

pub lent_mask-inside-requires : goal.lent_mask-inside-requires
lent_mask-inside-requires c =
    term_matrix_mask-there c.args.objects.now.matrices.items c.args.objects.now.vectors.items c.args.c c.args.mask c.args.accum c.args.term c.args.d c.requires.accepted

pub lent-input-requires : goal.lent-input-requires
lent-input-requires c =
    let f = c.in-Transposed in let ms = c.args.objects.now.matrices.items in let vs = c.args.objects.now.vectors.items in
    let of = is_call ms vs (call.WriteMatrix c.args.c c.args.mask c.args.accum c.args.term c.args.d) c.requires.accepted c.requires.assembled (call.WriteMatrix c.args.c c.args.mask c.args.accum (term.Transposed f.a) c.args.d)
    (ap (λ t. call.WriteMatrix c.args.c c.args.mask c.args.accum t c.args.d) f.is) in
    let tests = transposed-tests (stored ms vs) c.args.c c.args.mask c.args.accum c.args.d f.a of.accepted in
    each_matrix-there ms vs c.args.c c.args.mask c.args.accum f.a tests

pub transpose_matrix-requires-clause-output : goal.transpose_matrix-requires-clause-output
transpose_matrix-requires-clause-output c =
    let f = c.in-Transposed in let ms = c.args.objects.now.matrices.items in let vs = c.args.objects.now.vectors.items in
    let of = is_call ms vs (call.WriteMatrix c.args.c c.args.mask c.args.accum c.args.term c.args.d) c.requires.accepted c.requires.assembled (call.WriteMatrix c.args.c c.args.mask c.args.accum (term.Transposed f.a) c.args.d)
    (ap (λ t. call.WriteMatrix c.args.c c.args.mask c.args.accum t c.args.d) f.is) in
    let tests = transposed-tests (stored ms vs) c.args.c c.args.mask c.args.accum c.args.d f.a of.accepted in
    each_matrix_output ms vs c.args.c c.args.mask c.args.accum f.a tests of.assembled c.lent-output.result.now c.lent-output.ensures c.lent_mask-inside.result c.lent_mask-inside.ensures

pub transpose_matrix-requires-clause-a : goal.transpose_matrix-requires-clause-a
transpose_matrix-requires-clause-a c =
    let f = c.in-Transposed in let ms = c.args.objects.now.matrices.items in let vs = c.args.objects.now.vectors.items in
    let of = is_call ms vs (call.WriteMatrix c.args.c c.args.mask c.args.accum c.args.term c.args.d) c.requires.accepted c.requires.assembled (call.WriteMatrix c.args.c c.args.mask c.args.accum (term.Transposed f.a) c.args.d)
    (ap (λ t. call.WriteMatrix c.args.c c.args.mask c.args.accum t c.args.d) f.is) in
    let tests = transposed-tests (stored ms vs) c.args.c c.args.mask c.args.accum c.args.d f.a of.accepted in
    each_matrix_input ms vs c.args.c c.args.mask c.args.accum f.a tests of.assembled c.lent-output.result.now c.lent-output.ensures c.lent-input.result.now c.lent-input.ensures

pub returns-in-Transposed : goal.returns-in-Transposed
returns-in-Transposed c =
    let f = c.in-Transposed in let ms = c.args.objects.now.matrices.items in let vs = c.args.objects.now.vectors.items in
    let of = is_call ms vs (call.WriteMatrix c.args.c c.args.mask c.args.accum c.args.term c.args.d) c.requires.accepted c.requires.assembled (call.WriteMatrix c.args.c c.args.mask c.args.accum (term.Transposed f.a) c.args.d)
    (ap (λ t. call.WriteMatrix c.args.c c.args.mask c.args.accum t c.args.d) f.is) in
    let tests = transposed-tests (stored ms vs) c.args.c c.args.mask c.args.accum c.args.d f.a of.accepted in
    let same_mask = lent_matrix_entries ms vs (λ m. m.now) c.args.mask c.lent_mask-inside.result c.lent_mask-inside.ensures in
    if_ok _ _ c.transpose_matrix.result (λ made is. matrix_left_as (stored ms vs) (call.WriteMatrix c.args.c c.args.mask c.args.accum c.args.term c.args.d) _ of.is c.args.c (Some made.matrix)
    (transposed-left ms vs c.args.c c.args.mask c.args.accum c.args.d c.lent-output.result.now c.lent-output.ensures _ same_mask made.matrix f.a c.lent-input.result.now c.lent-input.ensures is)) c.transpose_matrix.ensures.matrix

pub lent-input-requires-in-Applied : goal.lent-input-requires-in-Applied
lent-input-requires-in-Applied c =
    let f = c.in-Applied in let ms = c.args.objects.now.matrices.items in let vs = c.args.objects.now.vectors.items in
    let of = is_call ms vs (call.WriteMatrix c.args.c c.args.mask c.args.accum c.args.term c.args.d) c.requires.accepted c.requires.assembled (call.WriteMatrix c.args.c c.args.mask c.args.accum (term.Applied f.f f.a) c.args.d)
    (ap (λ t. call.WriteMatrix c.args.c c.args.mask c.args.accum t c.args.d) f.is) in
    let tests = applied-tests (stored ms vs) c.args.c c.args.mask c.args.accum c.args.d f.f f.a of.accepted in
    each_matrix-there ms vs c.args.c c.args.mask c.args.accum f.a tests

pub apply_matrix-requires-clause-output : goal.apply_matrix-requires-clause-output
apply_matrix-requires-clause-output c =
    let f = c.in-Applied in let ms = c.args.objects.now.matrices.items in let vs = c.args.objects.now.vectors.items in
    let of = is_call ms vs (call.WriteMatrix c.args.c c.args.mask c.args.accum c.args.term c.args.d) c.requires.accepted c.requires.assembled (call.WriteMatrix c.args.c c.args.mask c.args.accum (term.Applied f.f f.a) c.args.d)
    (ap (λ t. call.WriteMatrix c.args.c c.args.mask c.args.accum t c.args.d) f.is) in
    let tests = applied-tests (stored ms vs) c.args.c c.args.mask c.args.accum c.args.d f.f f.a of.accepted in
    each_matrix_output ms vs c.args.c c.args.mask c.args.accum f.a tests of.assembled c.lent-output.result.now c.lent-output.ensures c.lent_mask-inside.result c.lent_mask-inside.ensures

pub apply_matrix-requires-clause-a : goal.apply_matrix-requires-clause-a
apply_matrix-requires-clause-a c =
    let f = c.in-Applied in let ms = c.args.objects.now.matrices.items in let vs = c.args.objects.now.vectors.items in
    let of = is_call ms vs (call.WriteMatrix c.args.c c.args.mask c.args.accum c.args.term c.args.d) c.requires.accepted c.requires.assembled (call.WriteMatrix c.args.c c.args.mask c.args.accum (term.Applied f.f f.a) c.args.d)
    (ap (λ t. call.WriteMatrix c.args.c c.args.mask c.args.accum t c.args.d) f.is) in
    let tests = applied-tests (stored ms vs) c.args.c c.args.mask c.args.accum c.args.d f.f f.a of.accepted in
    each_matrix_input ms vs c.args.c c.args.mask c.args.accum f.a tests of.assembled c.lent-output.result.now c.lent-output.ensures c.lent-input-in-Applied.result.now c.lent-input-in-Applied.ensures

pub apply_matrix-requires-clause-function : goal.apply_matrix-requires-clause-function
apply_matrix-requires-clause-function c =
    let f = c.in-Applied in let ms = c.args.objects.now.matrices.items in let vs = c.args.objects.now.vectors.items in
    let of = is_call ms vs (call.WriteMatrix c.args.c c.args.mask c.args.accum c.args.term c.args.d) c.requires.accepted c.requires.assembled (call.WriteMatrix c.args.c c.args.mask c.args.accum (term.Applied f.f f.a) c.args.d)
    (ap (λ t. call.WriteMatrix c.args.c c.args.mask c.args.accum t c.args.d) f.is) in
    let tests = applied-tests (stored ms vs) c.args.c c.args.mask c.args.accum c.args.d f.f f.a of.accepted in
    function_is c.lent-output.result.now.matrix.domain f.f (each_matrix_are ms vs c.args.c c.args.mask c.args.accum f.a tests of.assembled c.lent-output.result.now c.lent-output.ensures).computes

pub returns-in-Applied : goal.returns-in-Applied
returns-in-Applied c =
    let f = c.in-Applied in let ms = c.args.objects.now.matrices.items in let vs = c.args.objects.now.vectors.items in
    let of = is_call ms vs (call.WriteMatrix c.args.c c.args.mask c.args.accum c.args.term c.args.d) c.requires.accepted c.requires.assembled (call.WriteMatrix c.args.c c.args.mask c.args.accum (term.Applied f.f f.a) c.args.d)
    (ap (λ t. call.WriteMatrix c.args.c c.args.mask c.args.accum t c.args.d) f.is) in
    let tests = applied-tests (stored ms vs) c.args.c c.args.mask c.args.accum c.args.d f.f f.a of.accepted in
    let same_mask = lent_matrix_entries ms vs (λ m. m.now) c.args.mask c.lent_mask-inside.result c.lent_mask-inside.ensures in
    if_ok _ _ c.apply_matrix.result (λ made is. matrix_left_as (stored ms vs) (call.WriteMatrix c.args.c c.args.mask c.args.accum c.args.term c.args.d) _ of.is c.args.c (Some made.matrix)
    (applied-left ms vs c.args.c c.args.mask c.args.accum c.args.d c.lent-output.result.now c.lent-output.ensures _ same_mask made.matrix f.f f.a c.lent-input-in-Applied.result.now c.lent-input-in-Applied.ensures is)) c.apply_matrix.ensures.matrix

pub lent-input-requires-in-Selected : goal.lent-input-requires-in-Selected
lent-input-requires-in-Selected c =
    let f = c.in-Selected in let ms = c.args.objects.now.matrices.items in let vs = c.args.objects.now.vectors.items in
    let of = is_call ms vs (call.WriteMatrix c.args.c c.args.mask c.args.accum c.args.term c.args.d) c.requires.accepted c.requires.assembled (call.WriteMatrix c.args.c c.args.mask c.args.accum (term.Selected f.test f.a) c.args.d)
    (ap (λ t. call.WriteMatrix c.args.c c.args.mask c.args.accum t c.args.d) f.is) in
    let tests = selected-tests (stored ms vs) c.args.c c.args.mask c.args.accum c.args.d f.test f.a of.accepted in
    each_matrix-there ms vs c.args.c c.args.mask c.args.accum f.a tests

pub select_matrix-requires-clause-output : goal.select_matrix-requires-clause-output
select_matrix-requires-clause-output c =
    let f = c.in-Selected in let ms = c.args.objects.now.matrices.items in let vs = c.args.objects.now.vectors.items in
    let of = is_call ms vs (call.WriteMatrix c.args.c c.args.mask c.args.accum c.args.term c.args.d) c.requires.accepted c.requires.assembled (call.WriteMatrix c.args.c c.args.mask c.args.accum (term.Selected f.test f.a) c.args.d)
    (ap (λ t. call.WriteMatrix c.args.c c.args.mask c.args.accum t c.args.d) f.is) in
    let tests = selected-tests (stored ms vs) c.args.c c.args.mask c.args.accum c.args.d f.test f.a of.accepted in
    each_matrix_output ms vs c.args.c c.args.mask c.args.accum f.a tests of.assembled c.lent-output.result.now c.lent-output.ensures c.lent_mask-inside.result c.lent_mask-inside.ensures

pub select_matrix-requires-clause-a : goal.select_matrix-requires-clause-a
select_matrix-requires-clause-a c =
    let f = c.in-Selected in let ms = c.args.objects.now.matrices.items in let vs = c.args.objects.now.vectors.items in
    let of = is_call ms vs (call.WriteMatrix c.args.c c.args.mask c.args.accum c.args.term c.args.d) c.requires.accepted c.requires.assembled (call.WriteMatrix c.args.c c.args.mask c.args.accum (term.Selected f.test f.a) c.args.d)
    (ap (λ t. call.WriteMatrix c.args.c c.args.mask c.args.accum t c.args.d) f.is) in
    let tests = selected-tests (stored ms vs) c.args.c c.args.mask c.args.accum c.args.d f.test f.a of.accepted in
    each_matrix_input ms vs c.args.c c.args.mask c.args.accum f.a tests of.assembled c.lent-output.result.now c.lent-output.ensures c.lent-input-in-Selected.result.now c.lent-input-in-Selected.ensures

pub select_matrix-requires-clause-test : goal.select_matrix-requires-clause-test
select_matrix-requires-clause-test c =
    let f = c.in-Selected in let ms = c.args.objects.now.matrices.items in let vs = c.args.objects.now.vectors.items in
    let of = is_call ms vs (call.WriteMatrix c.args.c c.args.mask c.args.accum c.args.term c.args.d) c.requires.accepted c.requires.assembled (call.WriteMatrix c.args.c c.args.mask c.args.accum (term.Selected f.test f.a) c.args.d)
    (ap (λ t. call.WriteMatrix c.args.c c.args.mask c.args.accum t c.args.d) f.is) in
    let tests = selected-tests (stored ms vs) c.args.c c.args.mask c.args.accum c.args.d f.test f.a of.accepted in
    test_is c.lent-output.result.now.matrix.domain f.test (each_matrix_are ms vs c.args.c c.args.mask c.args.accum f.a tests of.assembled c.lent-output.result.now c.lent-output.ensures).computes

pub returns-in-Selected : goal.returns-in-Selected
returns-in-Selected c =
    let f = c.in-Selected in let ms = c.args.objects.now.matrices.items in let vs = c.args.objects.now.vectors.items in
    let of = is_call ms vs (call.WriteMatrix c.args.c c.args.mask c.args.accum c.args.term c.args.d) c.requires.accepted c.requires.assembled (call.WriteMatrix c.args.c c.args.mask c.args.accum (term.Selected f.test f.a) c.args.d)
    (ap (λ t. call.WriteMatrix c.args.c c.args.mask c.args.accum t c.args.d) f.is) in
    let tests = selected-tests (stored ms vs) c.args.c c.args.mask c.args.accum c.args.d f.test f.a of.accepted in
    let same_mask = lent_matrix_entries ms vs (λ m. m.now) c.args.mask c.lent_mask-inside.result c.lent_mask-inside.ensures in
    if_ok _ _ c.select_matrix.result (λ made is. matrix_left_as (stored ms vs) (call.WriteMatrix c.args.c c.args.mask c.args.accum c.args.term c.args.d) _ of.is c.args.c (Some made.matrix)
    (selected-left ms vs c.args.c c.args.mask c.args.accum c.args.d c.lent-output.result.now c.lent-output.ensures _ same_mask made.matrix f.test f.a c.lent-input-in-Selected.result.now c.lent-input-in-Selected.ensures is)) c.select_matrix.ensures.matrix

pub lent-first-requires : goal.lent-first-requires
lent-first-requires c =
    let f = c.in-Kronecker in let ms = c.args.objects.now.matrices.items in let vs = c.args.objects.now.vectors.items in
    let of = is_call ms vs (call.WriteMatrix c.args.c c.args.mask c.args.accum c.args.term c.args.d) c.requires.accepted c.requires.assembled (call.WriteMatrix c.args.c c.args.mask c.args.accum (term.Kronecker f.op f.a f.b) c.args.d)
    (ap (λ t. call.WriteMatrix c.args.c c.args.mask c.args.accum t c.args.d) f.is) in
    let tests = kronecker-tests (stored ms vs) c.args.c c.args.mask c.args.accum c.args.d f.op f.a f.b of.accepted in
    first_factor-there ms vs c.args.c c.args.mask c.args.accum f.op f.a f.b tests

pub lent-second-requires : goal.lent-second-requires
lent-second-requires c =
    let f = c.in-Kronecker in let ms = c.args.objects.now.matrices.items in let vs = c.args.objects.now.vectors.items in
    let of = is_call ms vs (call.WriteMatrix c.args.c c.args.mask c.args.accum c.args.term c.args.d) c.requires.accepted c.requires.assembled (call.WriteMatrix c.args.c c.args.mask c.args.accum (term.Kronecker f.op f.a f.b) c.args.d)
    (ap (λ t. call.WriteMatrix c.args.c c.args.mask c.args.accum t c.args.d) f.is) in
    let tests = kronecker-tests (stored ms vs) c.args.c c.args.mask c.args.accum c.args.d f.op f.a f.b of.accepted in
    second_factor-there ms vs c.args.c c.args.mask c.args.accum f.op f.a f.b tests

pub kronecker_matrix-requires-clause-output : goal.kronecker_matrix-requires-clause-output
kronecker_matrix-requires-clause-output c =
    let f = c.in-Kronecker in let ms = c.args.objects.now.matrices.items in let vs = c.args.objects.now.vectors.items in
    let of = is_call ms vs (call.WriteMatrix c.args.c c.args.mask c.args.accum c.args.term c.args.d) c.requires.accepted c.requires.assembled (call.WriteMatrix c.args.c c.args.mask c.args.accum (term.Kronecker f.op f.a f.b) c.args.d)
    (ap (λ t. call.WriteMatrix c.args.c c.args.mask c.args.accum t c.args.d) f.is) in
    let tests = kronecker-tests (stored ms vs) c.args.c c.args.mask c.args.accum c.args.d f.op f.a f.b of.accepted in
    kronecker_output ms vs c.args.c c.args.mask c.args.accum f.op f.a f.b tests of.assembled c.lent-output.result.now c.lent-output.ensures c.lent_mask-inside.result c.lent_mask-inside.ensures

pub kronecker_matrix-requires-clause-operator : goal.kronecker_matrix-requires-clause-operator
kronecker_matrix-requires-clause-operator c =
    let f = c.in-Kronecker in let ms = c.args.objects.now.matrices.items in let vs = c.args.objects.now.vectors.items in
    let of = is_call ms vs (call.WriteMatrix c.args.c c.args.mask c.args.accum c.args.term c.args.d) c.requires.accepted c.requires.assembled (call.WriteMatrix c.args.c c.args.mask c.args.accum (term.Kronecker f.op f.a f.b) c.args.d)
    (ap (λ t. call.WriteMatrix c.args.c c.args.mask c.args.accum t c.args.d) f.is) in
    let tests = kronecker-tests (stored ms vs) c.args.c c.args.mask c.args.accum c.args.d f.op f.a f.b of.accepted in
    (kronecker_are ms vs c.args.c c.args.mask c.args.accum f.op f.a f.b tests of.assembled c.lent-output.result.now c.lent-output.ensures).computes

pub kronecker_matrix-requires-clause-factors : goal.kronecker_matrix-requires-clause-factors
kronecker_matrix-requires-clause-factors c =
    let f = c.in-Kronecker in let ms = c.args.objects.now.matrices.items in let vs = c.args.objects.now.vectors.items in
    let of = is_call ms vs (call.WriteMatrix c.args.c c.args.mask c.args.accum c.args.term c.args.d) c.requires.accepted c.requires.assembled (call.WriteMatrix c.args.c c.args.mask c.args.accum (term.Kronecker f.op f.a f.b) c.args.d)
    (ap (λ t. call.WriteMatrix c.args.c c.args.mask c.args.accum t c.args.d) f.is) in
    let tests = kronecker-tests (stored ms vs) c.args.c c.args.mask c.args.accum c.args.d f.op f.a f.b of.accepted in
    kronecker_factors ms vs c.args.c c.args.mask c.args.accum f.op f.a f.b tests of.assembled c.lent-output.result.now c.lent-output.ensures c.lent-first.result.now c.lent-second.result.now c.lent-first.ensures c.lent-second.ensures

pub returns-in-Kronecker : goal.returns-in-Kronecker
returns-in-Kronecker c =
    let f = c.in-Kronecker in let ms = c.args.objects.now.matrices.items in let vs = c.args.objects.now.vectors.items in
    let of = is_call ms vs (call.WriteMatrix c.args.c c.args.mask c.args.accum c.args.term c.args.d) c.requires.accepted c.requires.assembled (call.WriteMatrix c.args.c c.args.mask c.args.accum (term.Kronecker f.op f.a f.b) c.args.d)
    (ap (λ t. call.WriteMatrix c.args.c c.args.mask c.args.accum t c.args.d) f.is) in
    let tests = kronecker-tests (stored ms vs) c.args.c c.args.mask c.args.accum c.args.d f.op f.a f.b of.accepted in
    let factors = kronecker_factors ms vs c.args.c c.args.mask c.args.accum f.op f.a f.b tests of.assembled c.lent-output.result.now c.lent-output.ensures c.lent-first.result.now c.lent-second.result.now c.lent-first.ensures c.lent-second.ensures in
    let same_mask = lent_matrix_entries ms vs (λ m. m.now) c.args.mask c.lent_mask-inside.result c.lent_mask-inside.ensures in
    if_ok _ _ c.kronecker_matrix.result (λ made is. matrix_left_as (stored ms vs) (call.WriteMatrix c.args.c c.args.mask c.args.accum c.args.term c.args.d) _ of.is c.args.c (Some made.matrix)
    (kronecker-left ms vs c.args.c c.args.mask c.args.accum c.args.d c.lent-output.result.now c.lent-output.ensures _ same_mask made.matrix f.op f.a f.b
    c.lent-first.result.now c.lent-second.result.now c.lent-first.ensures c.lent-second.ensures factors.rows factors.columns is)) c.kronecker_matrix.ensures.matrix
