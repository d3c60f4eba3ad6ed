use Rattle.std.proofs.Common.{refl, sym, ◌∙◌, Some}
use Rattle.grb_call.specs.declared.call.Call.TheVariants as call
use Rattle.grb_objects.specs.Stored.{stored}
use Rattle.grb_operations.proofs.Dispatched.{held_output_matrix, matrix_call, matrix_left_as}
use Rattle.grb_operations.proofs.Lent.{if_ok, add_matrix-tests, mult_matrix-tests, matrix_first-there, matrix_second-there, matrix_mask-there, matrix_are, lent_matrix_entries, add_matrix-left, mult_matrix-left}
use Rattle.grb_operations.proofs.LentProducts.{mxm_first-there, mxm_second-there, mxm_mask-there, mxm_are, mxm-left}
use Rattle.grb_operations.proofs.Premises.{ewise_matrix_output, ewise_matrix_first, ewise_matrix_second, matrix_output, turned_input}
use Rattle.grb_operations.proofs.outputs.operated_matrix.Goals as goal

pub lent-output-requires : goal.lent-output-requires
lent-output-requires c = held_output_matrix c.args.objects.now.matrices.items c.args.objects.now.vectors.items c.args.c c.args.call.now c.requires.operates c.requires.output c.requires.accepted

pub lent_mask-inside-requires : goal.lent_mask-inside-requires
lent_mask-inside-requires c =
    let f = c.in-EwiseAddMatrix in let ms = c.args.objects.now.matrices.items in let vs = c.args.objects.now.vectors.items in
    let of = matrix_call ms vs c.args.call.now c.requires.accepted c.requires.assembled (λ x. call.EwiseAddMatrix x f.mask f.accum f.op f.a f.b f.d) f.c c.args.c f.is refl c.requires.output in
    let tests = add_matrix-tests (stored ms vs) c.args.c f.mask f.accum f.op f.a f.b f.d of.accepted in
    matrix_mask-there ms vs c.args.c f.mask f.accum f.op f.a f.b tests

pub lent-a-requires : goal.lent-a-requires
lent-a-requires c =
    let f = c.in-EwiseAddMatrix in let ms = c.args.objects.now.matrices.items in let vs = c.args.objects.now.vectors.items in
    let of = matrix_call ms vs c.args.call.now c.requires.accepted c.requires.assembled (λ x. call.EwiseAddMatrix x f.mask f.accum f.op f.a f.b f.d) f.c c.args.c f.is refl c.requires.output in
    let tests = add_matrix-tests (stored ms vs) c.args.c f.mask f.accum f.op f.a f.b f.d of.accepted in
    matrix_first-there ms vs c.args.c f.mask f.accum f.op f.a f.b tests

pub lent-b-requires : goal.lent-b-requires
lent-b-requires c =
    let f = c.in-EwiseAddMatrix in let ms = c.args.objects.now.matrices.items in let vs = c.args.objects.now.vectors.items in
    let of = matrix_call ms vs c.args.call.now c.requires.accepted c.requires.assembled (λ x. call.EwiseAddMatrix x f.mask f.accum f.op f.a f.b f.d) f.c c.args.c f.is refl c.requires.output in
    let tests = add_matrix-tests (stored ms vs) c.args.c f.mask f.accum f.op f.a f.b f.d of.accepted in
    matrix_second-there ms vs c.args.c f.mask f.accum f.op f.a f.b tests

pub ewise_add_matrix-requires-clause-op_domain : goal.ewise_add_matrix-requires-clause-op_domain
ewise_add_matrix-requires-clause-op_domain c =
    let f = c.in-EwiseAddMatrix in let ms = c.args.objects.now.matrices.items in let vs = c.args.objects.now.vectors.items in
    let of = matrix_call ms vs c.args.call.now c.requires.accepted c.requires.assembled (λ x. call.EwiseAddMatrix x f.mask f.accum f.op f.a f.b f.d) f.c c.args.c f.is refl c.requires.output in
    let tests = add_matrix-tests (stored ms vs) c.args.c f.mask f.accum f.op f.a f.b f.d of.accepted in
    (matrix_are ms vs c.args.c f.mask f.accum f.op f.a f.b tests c.lent-output.result.now c.lent-output.ensures).computes

pub ewise_add_matrix-requires-clause-output : goal.ewise_add_matrix-requires-clause-output
ewise_add_matrix-requires-clause-output c =
    let f = c.in-EwiseAddMatrix in let ms = c.args.objects.now.matrices.items in let vs = c.args.objects.now.vectors.items in
    let of = matrix_call ms vs c.args.call.now c.requires.accepted c.requires.assembled (λ x. call.EwiseAddMatrix x f.mask f.accum f.op f.a f.b f.d) f.c c.args.c f.is refl c.requires.output in
    let tests = add_matrix-tests (stored ms vs) c.args.c f.mask f.accum f.op f.a f.b f.d of.accepted in
    ewise_matrix_output ms vs c.args.c f.mask f.accum f.op f.a f.b tests of.assembled c.lent-output.result.now c.lent-output.ensures c.lent_mask-inside.result c.lent_mask-inside.ensures

pub ewise_add_matrix-requires-clause-a : goal.ewise_add_matrix-requires-clause-a
ewise_add_matrix-requires-clause-a c =
    let f = c.in-EwiseAddMatrix in let ms = c.args.objects.now.matrices.items in let vs = c.args.objects.now.vectors.items in
    let of = matrix_call ms vs c.args.call.now c.requires.accepted c.requires.assembled (λ x. call.EwiseAddMatrix x f.mask f.accum f.op f.a f.b f.d) f.c c.args.c f.is refl c.requires.output in
    let tests = add_matrix-tests (stored ms vs) c.args.c f.mask f.accum f.op f.a f.b f.d of.accepted in
    ewise_matrix_first ms vs c.args.c f.mask f.accum f.op f.a f.b tests of.assembled c.lent-output.result.now c.lent-output.ensures c.lent-a.result.now c.lent-a.ensures

pub ewise_add_matrix-requires-clause-b : goal.ewise_add_matrix-requires-clause-b
ewise_add_matrix-requires-clause-b c =
    let f = c.in-EwiseAddMatrix in let ms = c.args.objects.now.matrices.items in let vs = c.args.objects.now.vectors.items in
    let of = matrix_call ms vs c.args.call.now c.requires.accepted c.requires.assembled (λ x. call.EwiseAddMatrix x f.mask f.accum f.op f.a f.b f.d) f.c c.args.c f.is refl c.requires.output in
    let tests = add_matrix-tests (stored ms vs) c.args.c f.mask f.accum f.op f.a f.b f.d of.accepted in
    ewise_matrix_second ms vs c.args.c f.mask f.accum f.op f.a f.b tests of.assembled c.lent-output.result.now c.lent-output.ensures c.lent-b.result.now c.lent-b.ensures

pub returns-in-EwiseAddMatrix : goal.returns-in-EwiseAddMatrix
returns-in-EwiseAddMatrix c =
    let f = c.in-EwiseAddMatrix in let ms = c.args.objects.now.matrices.items in let vs = c.args.objects.now.vectors.items in
    let of = matrix_call ms vs c.args.call.now c.requires.accepted c.requires.assembled (λ x. call.EwiseAddMatrix x f.mask f.accum f.op f.a f.b f.d) f.c c.args.c f.is refl c.requires.output in
    let same_mask = lent_matrix_entries ms vs (λ m. m.now) f.mask c.lent_mask-inside.result c.lent_mask-inside.ensures in
    if_ok _ _ c.ewise_add_matrix.result (λ made is. matrix_left_as (stored ms vs) c.args.call.now _ of.is c.args.c (Some made.matrix) (add_matrix-left ms vs c.args.c f.mask f.accum f.op f.a f.b f.d
    c.lent-output.result.now c.lent-a.result.now c.lent-b.result.now c.lent-output.ensures c.lent-a.ensures c.lent-b.ensures _ same_mask made.matrix is)) c.ewise_add_matrix.ensures.matrix

pub lent_mask-inside-requires-in-EwiseMultMatrix : goal.lent_mask-inside-requires-in-EwiseMultMatrix
lent_mask-inside-requires-in-EwiseMultMatrix c =
    let f = c.in-EwiseMultMatrix in let ms = c.args.objects.now.matrices.items in let vs = c.args.objects.now.vectors.items in
    let of = matrix_call ms vs c.args.call.now c.requires.accepted c.requires.assembled (λ x. call.EwiseMultMatrix x f.mask f.accum f.op f.a f.b f.d) f.c c.args.c f.is refl c.requires.output in
    let tests = mult_matrix-tests (stored ms vs) c.args.c f.mask f.accum f.op f.a f.b f.d of.accepted in
    matrix_mask-there ms vs c.args.c f.mask f.accum f.op f.a f.b tests

pub lent-a-requires-in-EwiseMultMatrix : goal.lent-a-requires-in-EwiseMultMatrix
lent-a-requires-in-EwiseMultMatrix c =
    let f = c.in-EwiseMultMatrix in let ms = c.args.objects.now.matrices.items in let vs = c.args.objects.now.vectors.items in
    let of = matrix_call ms vs c.args.call.now c.requires.accepted c.requires.assembled (λ x. call.EwiseMultMatrix x f.mask f.accum f.op f.a f.b f.d) f.c c.args.c f.is refl c.requires.output in
    let tests = mult_matrix-tests (stored ms vs) c.args.c f.mask f.accum f.op f.a f.b f.d of.accepted in
    matrix_first-there ms vs c.args.c f.mask f.accum f.op f.a f.b tests

pub lent-b-requires-in-EwiseMultMatrix : goal.lent-b-requires-in-EwiseMultMatrix
lent-b-requires-in-EwiseMultMatrix c =
    let f = c.in-EwiseMultMatrix in let ms = c.args.objects.now.matrices.items in let vs = c.args.objects.now.vectors.items in
    let of = matrix_call ms vs c.args.call.now c.requires.accepted c.requires.assembled (λ x. call.EwiseMultMatrix x f.mask f.accum f.op f.a f.b f.d) f.c c.args.c f.is refl c.requires.output in
    let tests = mult_matrix-tests (stored ms vs) c.args.c f.mask f.accum f.op f.a f.b f.d of.accepted in
    matrix_second-there ms vs c.args.c f.mask f.accum f.op f.a f.b tests

pub ewise_mult_matrix-requires-clause-op_domain : goal.ewise_mult_matrix-requires-clause-op_domain
ewise_mult_matrix-requires-clause-op_domain c =
    let f = c.in-EwiseMultMatrix in let ms = c.args.objects.now.matrices.items in let vs = c.args.objects.now.vectors.items in
    let of = matrix_call ms vs c.args.call.now c.requires.accepted c.requires.assembled (λ x. call.EwiseMultMatrix x f.mask f.accum f.op f.a f.b f.d) f.c c.args.c f.is refl c.requires.output in
    let tests = mult_matrix-tests (stored ms vs) c.args.c f.mask f.accum f.op f.a f.b f.d of.accepted in
    (matrix_are ms vs c.args.c f.mask f.accum f.op f.a f.b tests c.lent-output.result.now c.lent-output.ensures).computes

pub ewise_mult_matrix-requires-clause-output : goal.ewise_mult_matrix-requires-clause-output
ewise_mult_matrix-requires-clause-output c =
    let f = c.in-EwiseMultMatrix in let ms = c.args.objects.now.matrices.items in let vs = c.args.objects.now.vectors.items in
    let of = matrix_call ms vs c.args.call.now c.requires.accepted c.requires.assembled (λ x. call.EwiseMultMatrix x f.mask f.accum f.op f.a f.b f.d) f.c c.args.c f.is refl c.requires.output in
    let tests = mult_matrix-tests (stored ms vs) c.args.c f.mask f.accum f.op f.a f.b f.d of.accepted in
    ewise_matrix_output ms vs c.args.c f.mask f.accum f.op f.a f.b tests of.assembled c.lent-output.result.now c.lent-output.ensures c.lent_mask-inside-in-EwiseMultMatrix.result c.lent_mask-inside-in-EwiseMultMatrix.ensures

pub ewise_mult_matrix-requires-clause-a : goal.ewise_mult_matrix-requires-clause-a
ewise_mult_matrix-requires-clause-a c =
    let f = c.in-EwiseMultMatrix in let ms = c.args.objects.now.matrices.items in let vs = c.args.objects.now.vectors.items in
    let of = matrix_call ms vs c.args.call.now c.requires.accepted c.requires.assembled (λ x. call.EwiseMultMatrix x f.mask f.accum f.op f.a f.b f.d) f.c c.args.c f.is refl c.requires.output in
    let tests = mult_matrix-tests (stored ms vs) c.args.c f.mask f.accum f.op f.a f.b f.d of.accepted in
    ewise_matrix_first ms vs c.args.c f.mask f.accum f.op f.a f.b tests of.assembled c.lent-output.result.now c.lent-output.ensures c.lent-a-in-EwiseMultMatrix.result.now c.lent-a-in-EwiseMultMatrix.ensures

pub ewise_mult_matrix-requires-clause-b : goal.ewise_mult_matrix-requires-clause-b
ewise_mult_matrix-requires-clause-b c =
    let f = c.in-EwiseMultMatrix in let ms = c.args.objects.now.matrices.items in let vs = c.args.objects.now.vectors.items in
    let of = matrix_call ms vs c.args.call.now c.requires.accepted c.requires.assembled (λ x. call.EwiseMultMatrix x f.mask f.accum f.op f.a f.b f.d) f.c c.args.c f.is refl c.requires.output in
    let tests = mult_matrix-tests (stored ms vs) c.args.c f.mask f.accum f.op f.a f.b f.d of.accepted in
    ewise_matrix_second ms vs c.args.c f.mask f.accum f.op f.a f.b tests of.assembled c.lent-output.result.now c.lent-output.ensures c.lent-b-in-EwiseMultMatrix.result.now c.lent-b-in-EwiseMultMatrix.ensures

pub returns-in-EwiseMultMatrix : goal.returns-in-EwiseMultMatrix
returns-in-EwiseMultMatrix c =
    let f = c.in-EwiseMultMatrix in let ms = c.args.objects.now.matrices.items in let vs = c.args.objects.now.vectors.items in
    let of = matrix_call ms vs c.args.call.now c.requires.accepted c.requires.assembled (λ x. call.EwiseMultMatrix x f.mask f.accum f.op f.a f.b f.d) f.c c.args.c f.is refl c.requires.output in
    let same_mask = lent_matrix_entries ms vs (λ m. m.now) f.mask c.lent_mask-inside-in-EwiseMultMatrix.result c.lent_mask-inside-in-EwiseMultMatrix.ensures in
    if_ok _ _ c.ewise_mult_matrix.result (λ made is. matrix_left_as (stored ms vs) c.args.call.now _ of.is c.args.c (Some made.matrix) (mult_matrix-left ms vs c.args.c f.mask f.accum f.op f.a f.b f.d
    c.lent-output.result.now c.lent-a-in-EwiseMultMatrix.result.now c.lent-b-in-EwiseMultMatrix.result.now c.lent-output.ensures c.lent-a-in-EwiseMultMatrix.ensures c.lent-b-in-EwiseMultMatrix.ensures _ same_mask made.matrix is)) c.ewise_mult_matrix.ensures.matrix

pub lent_mask-inside-requires-in-Mxm : goal.lent_mask-inside-requires-in-Mxm
lent_mask-inside-requires-in-Mxm c =
    let f = c.in-Mxm in let ms = c.args.objects.now.matrices.items in let vs = c.args.objects.now.vectors.items in
    let of = matrix_call ms vs c.args.call.now c.requires.accepted c.requires.assembled (λ x. call.Mxm x f.mask f.accum f.semiring f.a f.b f.d) f.c c.args.c f.is refl c.requires.output in
    mxm_mask-there ms vs c.args.c f.mask f.accum f.semiring f.a f.b f.d of.accepted

pub lent-a-requires-in-Mxm : goal.lent-a-requires-in-Mxm
lent-a-requires-in-Mxm c =
    let f = c.in-Mxm in let ms = c.args.objects.now.matrices.items in let vs = c.args.objects.now.vectors.items in
    let of = matrix_call ms vs c.args.call.now c.requires.accepted c.requires.assembled (λ x. call.Mxm x f.mask f.accum f.semiring f.a f.b f.d) f.c c.args.c f.is refl c.requires.output in
    mxm_first-there ms vs c.args.c f.mask f.accum f.semiring f.a f.b f.d of.accepted

pub lent-b-requires-in-Mxm : goal.lent-b-requires-in-Mxm
lent-b-requires-in-Mxm c =
    let f = c.in-Mxm in let ms = c.args.objects.now.matrices.items in let vs = c.args.objects.now.vectors.items in
    let of = matrix_call ms vs c.args.call.now c.requires.accepted c.requires.assembled (λ x. call.Mxm x f.mask f.accum f.semiring f.a f.b f.d) f.c c.args.c f.is refl c.requires.output in
    mxm_second-there ms vs c.args.c f.mask f.accum f.semiring f.a f.b f.d of.accepted

pub multiply-requires-clause-semiring_domain : goal.multiply-requires-clause-semiring_domain
multiply-requires-clause-semiring_domain c =
    let f = c.in-Mxm in let ms = c.args.objects.now.matrices.items in let vs = c.args.objects.now.vectors.items in
    let of = matrix_call ms vs c.args.call.now c.requires.accepted c.requires.assembled (λ x. call.Mxm x f.mask f.accum f.semiring f.a f.b f.d) f.c c.args.c f.is refl c.requires.output in
    (mxm_are ms vs c.args.c f.mask f.accum f.semiring f.a f.b f.d of.accepted c.lent-output.result.now c.lent-output.ensures).multiplies

pub multiply-requires-clause-output : goal.multiply-requires-clause-output
multiply-requires-clause-output c =
    let f = c.in-Mxm in let ms = c.args.objects.now.matrices.items in let vs = c.args.objects.now.vectors.items in
    let of = matrix_call ms vs c.args.call.now c.requires.accepted c.requires.assembled (λ x. call.Mxm x f.mask f.accum f.semiring f.a f.b f.d) f.c c.args.c f.is refl c.requires.output in
    let are = mxm_are ms vs c.args.c f.mask f.accum f.semiring f.a f.b f.d of.accepted c.lent-output.result.now c.lent-output.ensures in
    matrix_output ms vs c.args.c c.lent-output.result.now c.lent-output.ensures of.assembled.0 f.mask c.lent_mask-inside-in-Mxm.result c.lent_mask-inside-in-Mxm.ensures of.assembled.1.1.1 are.masked f.accum are.accumulates

pub multiply-requires-clause-a : goal.multiply-requires-clause-a
multiply-requires-clause-a c =
    let f = c.in-Mxm in let ms = c.args.objects.now.matrices.items in let vs = c.args.objects.now.vectors.items in
    let of = matrix_call ms vs c.args.call.now c.requires.accepted c.requires.assembled (λ x. call.Mxm x f.mask f.accum f.semiring f.a f.b f.d) f.c c.args.c f.is refl c.requires.output in
    let are = mxm_are ms vs c.args.c f.mask f.accum f.semiring f.a f.b f.d of.accepted c.lent-output.result.now c.lent-output.ensures in
    let second = turned_input ms vs f.b c.lent-b-in-Mxm.result.now c.lent-b-in-Mxm.ensures f.d.tran1 _ _ _ are.second of.assembled.1.1.0 in
    let first = turned_input ms vs f.a c.lent-a-in-Mxm.result.now c.lent-a-in-Mxm.ensures f.d.tran _ _ _ are.first of.assembled.1.0 in
    record { assembled = first.assembled; domain = first.domain; rows = first.rows; columns = first.columns ∙ sym second.rows }

pub multiply-requires-clause-b : goal.multiply-requires-clause-b
multiply-requires-clause-b c =
    let f = c.in-Mxm in let ms = c.args.objects.now.matrices.items in let vs = c.args.objects.now.vectors.items in
    let of = matrix_call ms vs c.args.call.now c.requires.accepted c.requires.assembled (λ x. call.Mxm x f.mask f.accum f.semiring f.a f.b f.d) f.c c.args.c f.is refl c.requires.output in
    let are = mxm_are ms vs c.args.c f.mask f.accum f.semiring f.a f.b f.d of.accepted c.lent-output.result.now c.lent-output.ensures in
    let second = turned_input ms vs f.b c.lent-b-in-Mxm.result.now c.lent-b-in-Mxm.ensures f.d.tran1 _ _ _ are.second of.assembled.1.1.0 in
    record { assembled = second.assembled; domain = second.domain; rows = refl; columns = second.columns }

pub returns-in-Mxm : goal.returns-in-Mxm
returns-in-Mxm c =
    let f = c.in-Mxm in let ms = c.args.objects.now.matrices.items in let vs = c.args.objects.now.vectors.items in
    let of = matrix_call ms vs c.args.call.now c.requires.accepted c.requires.assembled (λ x. call.Mxm x f.mask f.accum f.semiring f.a f.b f.d) f.c c.args.c f.is refl c.requires.output in
    let same_mask = lent_matrix_entries ms vs (λ m. m.now) f.mask c.lent_mask-inside-in-Mxm.result c.lent_mask-inside-in-Mxm.ensures in
    if_ok _ _ c.multiply.result (λ made is. matrix_left_as (stored ms vs) c.args.call.now _ of.is c.args.c (Some made.matrix) (mxm-left ms vs c.args.c f.mask f.accum f.semiring f.a f.b f.d of.accepted
    c.lent-output.result.now c.lent-a-in-Mxm.result.now c.lent-b-in-Mxm.result.now c.lent-output.ensures c.lent-a-in-Mxm.ensures c.lent-b-in-Mxm.ensures _ same_mask made.matrix is)) c.multiply.ensures.matrix

pub written_matrix-requires-clause-accepted : goal.written_matrix-requires-clause-accepted
written_matrix-requires-clause-accepted c =
    let f = c.in-WriteMatrix in let ms = c.args.objects.now.matrices.items in let vs = c.args.objects.now.vectors.items in
    let of = matrix_call ms vs c.args.call.now c.requires.accepted c.requires.assembled (λ x. call.WriteMatrix x f.mask f.accum f.term f.d) f.c c.args.c f.is refl c.requires.output in of.accepted

pub written_matrix-requires-clause-assembled : goal.written_matrix-requires-clause-assembled
written_matrix-requires-clause-assembled c =
    let f = c.in-WriteMatrix in let ms = c.args.objects.now.matrices.items in let vs = c.args.objects.now.vectors.items in
    let of = matrix_call ms vs c.args.call.now c.requires.accepted c.requires.assembled (λ x. call.WriteMatrix x f.mask f.accum f.term f.d) f.c c.args.c f.is refl c.requires.output in of.assembled

pub returns-in-WriteMatrix : goal.returns-in-WriteMatrix
returns-in-WriteMatrix c =
    let f = c.in-WriteMatrix in let ms = c.args.objects.now.matrices.items in let vs = c.args.objects.now.vectors.items in
    let of = matrix_call ms vs c.args.call.now c.requires.accepted c.requires.assembled (λ x. call.WriteMatrix x f.mask f.accum f.term f.d) f.c c.args.c f.is refl c.requires.output in
    if_ok _ _ c.written_matrix.result (λ made is. matrix_left_as (stored ms vs) c.args.call.now _ of.is c.args.c (Some made.matrix) is) c.written_matrix.ensures
