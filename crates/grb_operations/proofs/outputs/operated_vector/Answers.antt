use Rattle.std.proofs.Common.{refl, sym, ◌∙◌, Some}
use Rattle.grb_call.specs.declared.call.Call.TheVariants as call
use Rattle.grb_objects.specs.Stored.{stored}
use Rattle.grb_operations.proofs.Dispatched.{held_output_vector, vector_call, vector_left_as}
use Rattle.grb_operations.proofs.Lent.{if_ok, add_vector-tests, mult_vector-tests, vector_first-there, vector_second-there, vector_mask-there, vector_are, lent_vector_entries, add_vector-left, mult_vector-left}
use Rattle.grb_operations.proofs.LentProducts.{mxv_matrix-there, mxv_vector-there, mxv_mask-there, mxv_are, mxv-left, vxm_matrix-there, vxm_vector-there, vxm_mask-there, vxm_are, vxm-left, rows_matrix-there, rows_mask-there, rows_are, rows-left}
use Rattle.grb_operations.proofs.Premises.{ewise_vector_output, ewise_vector_first, ewise_vector_second, turned_input, vector_input, vector_output}
use Rattle.grb_operations.proofs.outputs.operated_vector.Goals as goal

pub lent-output-requires : goal.lent-output-requires
lent-output-requires c = held_output_vector c.args.objects.now.matrices.items c.args.objects.now.vectors.items c.args.w c.args.call.now c.requires.operates c.requires.output c.requires.accepted

pub lent_mask-inside-requires : goal.lent_mask-inside-requires
lent_mask-inside-requires c =
    let f = c.in-EwiseAddVector in let ms = c.args.objects.now.matrices.items in let vs = c.args.objects.now.vectors.items in
    let of = vector_call ms vs c.args.call.now c.requires.accepted c.requires.assembled (λ x. call.EwiseAddVector x f.mask f.accum f.op f.u f.v f.d) f.w c.args.w f.is refl c.requires.output in
    let tests = add_vector-tests (stored ms vs) c.args.w f.mask f.accum f.op f.u f.v f.d of.accepted in
    vector_mask-there ms vs c.args.w f.mask f.accum f.op f.u f.v tests

pub lent-u-requires : goal.lent-u-requires
lent-u-requires c =
    let f = c.in-EwiseAddVector in let ms = c.args.objects.now.matrices.items in let vs = c.args.objects.now.vectors.items in
    let of = vector_call ms vs c.args.call.now c.requires.accepted c.requires.assembled (λ x. call.EwiseAddVector x f.mask f.accum f.op f.u f.v f.d) f.w c.args.w f.is refl c.requires.output in
    let tests = add_vector-tests (stored ms vs) c.args.w f.mask f.accum f.op f.u f.v f.d of.accepted in
    vector_first-there ms vs c.args.w f.mask f.accum f.op f.u f.v tests

pub lent-v-requires : goal.lent-v-requires
lent-v-requires c =
    let f = c.in-EwiseAddVector in let ms = c.args.objects.now.matrices.items in let vs = c.args.objects.now.vectors.items in
    let of = vector_call ms vs c.args.call.now c.requires.accepted c.requires.assembled (λ x. call.EwiseAddVector x f.mask f.accum f.op f.u f.v f.d) f.w c.args.w f.is refl c.requires.output in
    let tests = add_vector-tests (stored ms vs) c.args.w f.mask f.accum f.op f.u f.v f.d of.accepted in
    vector_second-there ms vs c.args.w f.mask f.accum f.op f.u f.v tests

pub ewise_add_vector-requires-clause-op_domain : goal.ewise_add_vector-requires-clause-op_domain
ewise_add_vector-requires-clause-op_domain c =
    let f = c.in-EwiseAddVector in let ms = c.args.objects.now.matrices.items in let vs = c.args.objects.now.vectors.items in
    let of = vector_call ms vs c.args.call.now c.requires.accepted c.requires.assembled (λ x. call.EwiseAddVector x f.mask f.accum f.op f.u f.v f.d) f.w c.args.w f.is refl c.requires.output in
    let tests = add_vector-tests (stored ms vs) c.args.w f.mask f.accum f.op f.u f.v f.d of.accepted in
    (vector_are ms vs c.args.w f.mask f.accum f.op f.u f.v tests c.lent-output.result.now c.lent-output.ensures).computes

pub ewise_add_vector-requires-clause-output : goal.ewise_add_vector-requires-clause-output
ewise_add_vector-requires-clause-output c =
    let f = c.in-EwiseAddVector in let ms = c.args.objects.now.matrices.items in let vs = c.args.objects.now.vectors.items in
    let of = vector_call ms vs c.args.call.now c.requires.accepted c.requires.assembled (λ x. call.EwiseAddVector x f.mask f.accum f.op f.u f.v f.d) f.w c.args.w f.is refl c.requires.output in
    let tests = add_vector-tests (stored ms vs) c.args.w f.mask f.accum f.op f.u f.v f.d of.accepted in
    ewise_vector_output ms vs c.args.w f.mask f.accum f.op f.u f.v tests of.assembled c.lent-output.result.now c.lent-output.ensures c.lent_mask-inside.result c.lent_mask-inside.ensures

pub ewise_add_vector-requires-clause-u : goal.ewise_add_vector-requires-clause-u
ewise_add_vector-requires-clause-u c =
    let f = c.in-EwiseAddVector in let ms = c.args.objects.now.matrices.items in let vs = c.args.objects.now.vectors.items in
    let of = vector_call ms vs c.args.call.now c.requires.accepted c.requires.assembled (λ x. call.EwiseAddVector x f.mask f.accum f.op f.u f.v f.d) f.w c.args.w f.is refl c.requires.output in
    let tests = add_vector-tests (stored ms vs) c.args.w f.mask f.accum f.op f.u f.v f.d of.accepted in
    ewise_vector_first ms vs c.args.w f.mask f.accum f.op f.u f.v tests of.assembled c.lent-output.result.now c.lent-output.ensures c.lent-u.result.now c.lent-u.ensures

pub ewise_add_vector-requires-clause-v : goal.ewise_add_vector-requires-clause-v
ewise_add_vector-requires-clause-v c =
    let f = c.in-EwiseAddVector in let ms = c.args.objects.now.matrices.items in let vs = c.args.objects.now.vectors.items in
    let of = vector_call ms vs c.args.call.now c.requires.accepted c.requires.assembled (λ x. call.EwiseAddVector x f.mask f.accum f.op f.u f.v f.d) f.w c.args.w f.is refl c.requires.output in
    let tests = add_vector-tests (stored ms vs) c.args.w f.mask f.accum f.op f.u f.v f.d of.accepted in
    ewise_vector_second ms vs c.args.w f.mask f.accum f.op f.u f.v tests of.assembled c.lent-output.result.now c.lent-output.ensures c.lent-v.result.now c.lent-v.ensures

pub returns-in-EwiseAddVector : goal.returns-in-EwiseAddVector
returns-in-EwiseAddVector c =
    let f = c.in-EwiseAddVector in let ms = c.args.objects.now.matrices.items in let vs = c.args.objects.now.vectors.items in
    let of = vector_call ms vs c.args.call.now c.requires.accepted c.requires.assembled (λ x. call.EwiseAddVector x f.mask f.accum f.op f.u f.v f.d) f.w c.args.w f.is refl c.requires.output in
    let same_mask = lent_vector_entries ms vs (λ m. m.now) f.mask c.lent_mask-inside.result c.lent_mask-inside.ensures in
    if_ok _ _ c.ewise_add_vector.result (λ made is. vector_left_as (stored ms vs) c.args.call.now _ of.is c.args.w (Some made.vector) (add_vector-left ms vs c.args.w f.mask f.accum f.op f.u f.v f.d
    c.lent-output.result.now c.lent-u.result.now c.lent-v.result.now c.lent-output.ensures c.lent-u.ensures c.lent-v.ensures _ same_mask made.vector is)) c.ewise_add_vector.ensures.vector

pub lent_mask-inside-requires-in-EwiseMultVector : goal.lent_mask-inside-requires-in-EwiseMultVector
lent_mask-inside-requires-in-EwiseMultVector c =
    let f = c.in-EwiseMultVector in let ms = c.args.objects.now.matrices.items in let vs = c.args.objects.now.vectors.items in
    let of = vector_call ms vs c.args.call.now c.requires.accepted c.requires.assembled (λ x. call.EwiseMultVector x f.mask f.accum f.op f.u f.v f.d) f.w c.args.w f.is refl c.requires.output in
    let tests = mult_vector-tests (stored ms vs) c.args.w f.mask f.accum f.op f.u f.v f.d of.accepted in
    vector_mask-there ms vs c.args.w f.mask f.accum f.op f.u f.v tests

pub lent-u-requires-in-EwiseMultVector : goal.lent-u-requires-in-EwiseMultVector
lent-u-requires-in-EwiseMultVector c =
    let f = c.in-EwiseMultVector in let ms = c.args.objects.now.matrices.items in let vs = c.args.objects.now.vectors.items in
    let of = vector_call ms vs c.args.call.now c.requires.accepted c.requires.assembled (λ x. call.EwiseMultVector x f.mask f.accum f.op f.u f.v f.d) f.w c.args.w f.is refl c.requires.output in
    let tests = mult_vector-tests (stored ms vs) c.args.w f.mask f.accum f.op f.u f.v f.d of.accepted in
    vector_first-there ms vs c.args.w f.mask f.accum f.op f.u f.v tests

pub lent-v-requires-in-EwiseMultVector : goal.lent-v-requires-in-EwiseMultVector
lent-v-requires-in-EwiseMultVector c =
    let f = c.in-EwiseMultVector in let ms = c.args.objects.now.matrices.items in let vs = c.args.objects.now.vectors.items in
    let of = vector_call ms vs c.args.call.now c.requires.accepted c.requires.assembled (λ x. call.EwiseMultVector x f.mask f.accum f.op f.u f.v f.d) f.w c.args.w f.is refl c.requires.output in
    let tests = mult_vector-tests (stored ms vs) c.args.w f.mask f.accum f.op f.u f.v f.d of.accepted in
    vector_second-there ms vs c.args.w f.mask f.accum f.op f.u f.v tests

pub ewise_mult_vector-requires-clause-op_domain : goal.ewise_mult_vector-requires-clause-op_domain
ewise_mult_vector-requires-clause-op_domain c =
    let f = c.in-EwiseMultVector in let ms = c.args.objects.now.matrices.items in let vs = c.args.objects.now.vectors.items in
    let of = vector_call ms vs c.args.call.now c.requires.accepted c.requires.assembled (λ x. call.EwiseMultVector x f.mask f.accum f.op f.u f.v f.d) f.w c.args.w f.is refl c.requires.output in
    let tests = mult_vector-tests (stored ms vs) c.args.w f.mask f.accum f.op f.u f.v f.d of.accepted in
    (vector_are ms vs c.args.w f.mask f.accum f.op f.u f.v tests c.lent-output.result.now c.lent-output.ensures).computes

pub ewise_mult_vector-requires-clause-output : goal.ewise_mult_vector-requires-clause-output
ewise_mult_vector-requires-clause-output c =
    let f = c.in-EwiseMultVector in let ms = c.args.objects.now.matrices.items in let vs = c.args.objects.now.vectors.items in
    let of = vector_call ms vs c.args.call.now c.requires.accepted c.requires.assembled (λ x. call.EwiseMultVector x f.mask f.accum f.op f.u f.v f.d) f.w c.args.w f.is refl c.requires.output in
    let tests = mult_vector-tests (stored ms vs) c.args.w f.mask f.accum f.op f.u f.v f.d of.accepted in
    ewise_vector_output ms vs c.args.w f.mask f.accum f.op f.u f.v tests of.assembled c.lent-output.result.now c.lent-output.ensures c.lent_mask-inside-in-EwiseMultVector.result c.lent_mask-inside-in-EwiseMultVector.ensures

pub ewise_mult_vector-requires-clause-u : goal.ewise_mult_vector-requires-clause-u
ewise_mult_vector-requires-clause-u c =
    let f = c.in-EwiseMultVector in let ms = c.args.objects.now.matrices.items in let vs = c.args.objects.now.vectors.items in
    let of = vector_call ms vs c.args.call.now c.requires.accepted c.requires.assembled (λ x. call.EwiseMultVector x f.mask f.accum f.op f.u f.v f.d) f.w c.args.w f.is refl c.requires.output in
    let tests = mult_vector-tests (stored ms vs) c.args.w f.mask f.accum f.op f.u f.v f.d of.accepted in
    ewise_vector_first ms vs c.args.w f.mask f.accum f.op f.u f.v tests of.assembled c.lent-output.result.now c.lent-output.ensures c.lent-u-in-EwiseMultVector.result.now c.lent-u-in-EwiseMultVector.ensures

pub ewise_mult_vector-requires-clause-v : goal.ewise_mult_vector-requires-clause-v
ewise_mult_vector-requires-clause-v c =
    let f = c.in-EwiseMultVector in let ms = c.args.objects.now.matrices.items in let vs = c.args.objects.now.vectors.items in
    let of = vector_call ms vs c.args.call.now c.requires.accepted c.requires.assembled (λ x. call.EwiseMultVector x f.mask f.accum f.op f.u f.v f.d) f.w c.args.w f.is refl c.requires.output in
    let tests = mult_vector-tests (stored ms vs) c.args.w f.mask f.accum f.op f.u f.v f.d of.accepted in
    ewise_vector_second ms vs c.args.w f.mask f.accum f.op f.u f.v tests of.assembled c.lent-output.result.now c.lent-output.ensures c.lent-v-in-EwiseMultVector.result.now c.lent-v-in-EwiseMultVector.ensures

pub returns-in-EwiseMultVector : goal.returns-in-EwiseMultVector
returns-in-EwiseMultVector c =
    let f = c.in-EwiseMultVector in let ms = c.args.objects.now.matrices.items in let vs = c.args.objects.now.vectors.items in
    let of = vector_call ms vs c.args.call.now c.requires.accepted c.requires.assembled (λ x. call.EwiseMultVector x f.mask f.accum f.op f.u f.v f.d) f.w c.args.w f.is refl c.requires.output in
    let same_mask = lent_vector_entries ms vs (λ m. m.now) f.mask c.lent_mask-inside-in-EwiseMultVector.result c.lent_mask-inside-in-EwiseMultVector.ensures in
    if_ok _ _ c.ewise_mult_vector.result (λ made is. vector_left_as (stored ms vs) c.args.call.now _ of.is c.args.w (Some made.vector) (mult_vector-left ms vs c.args.w f.mask f.accum f.op f.u f.v f.d
    c.lent-output.result.now c.lent-u-in-EwiseMultVector.result.now c.lent-v-in-EwiseMultVector.result.now c.lent-output.ensures c.lent-u-in-EwiseMultVector.ensures c.lent-v-in-EwiseMultVector.ensures _ same_mask made.vector is)) c.ewise_mult_vector.ensures.vector

pub lent_mask-inside-requires-in-Mxv : goal.lent_mask-inside-requires-in-Mxv
lent_mask-inside-requires-in-Mxv c =
    let f = c.in-Mxv in let ms = c.args.objects.now.matrices.items in let vs = c.args.objects.now.vectors.items in
    let of = vector_call ms vs c.args.call.now c.requires.accepted c.requires.assembled (λ x. call.Mxv x f.mask f.accum f.semiring f.a f.u f.d) f.w c.args.w f.is refl c.requires.output in
    mxv_mask-there ms vs c.args.w f.mask f.accum f.semiring f.a f.u f.d of.accepted

pub lent-a-requires : goal.lent-a-requires
lent-a-requires c =
    let f = c.in-Mxv in let ms = c.args.objects.now.matrices.items in let vs = c.args.objects.now.vectors.items in
    let of = vector_call ms vs c.args.call.now c.requires.accepted c.requires.assembled (λ x. call.Mxv x f.mask f.accum f.semiring f.a f.u f.d) f.w c.args.w f.is refl c.requires.output in
    mxv_matrix-there ms vs c.args.w f.mask f.accum f.semiring f.a f.u f.d of.accepted

pub lent-u-requires-in-Mxv : goal.lent-u-requires-in-Mxv
lent-u-requires-in-Mxv c =
    let f = c.in-Mxv in let ms = c.args.objects.now.matrices.items in let vs = c.args.objects.now.vectors.items in
    let of = vector_call ms vs c.args.call.now c.requires.accepted c.requires.assembled (λ x. call.Mxv x f.mask f.accum f.semiring f.a f.u f.d) f.w c.args.w f.is refl c.requires.output in
    mxv_vector-there ms vs c.args.w f.mask f.accum f.semiring f.a f.u f.d of.accepted

pub mxv-requires-clause-semiring_domain : goal.mxv-requires-clause-semiring_domain
mxv-requires-clause-semiring_domain c =
    let f = c.in-Mxv in let ms = c.args.objects.now.matrices.items in let vs = c.args.objects.now.vectors.items in
    let of = vector_call ms vs c.args.call.now c.requires.accepted c.requires.assembled (λ x. call.Mxv x f.mask f.accum f.semiring f.a f.u f.d) f.w c.args.w f.is refl c.requires.output in
    (mxv_are ms vs c.args.w f.mask f.accum f.semiring f.a f.u f.d of.accepted c.lent-output.result.now c.lent-output.ensures).multiplies

pub mxv-requires-clause-output : goal.mxv-requires-clause-output
mxv-requires-clause-output c =
    let f = c.in-Mxv in let ms = c.args.objects.now.matrices.items in let vs = c.args.objects.now.vectors.items in
    let of = vector_call ms vs c.args.call.now c.requires.accepted c.requires.assembled (λ x. call.Mxv x f.mask f.accum f.semiring f.a f.u f.d) f.w c.args.w f.is refl c.requires.output in
    let are = mxv_are ms vs c.args.w f.mask f.accum f.semiring f.a f.u f.d of.accepted c.lent-output.result.now c.lent-output.ensures in
    vector_output ms vs c.args.w c.lent-output.result.now c.lent-output.ensures of.assembled.0 f.mask c.lent_mask-inside-in-Mxv.result c.lent_mask-inside-in-Mxv.ensures of.assembled.1.1.1 are.masked f.accum are.accumulates

pub mxv-requires-clause-a : goal.mxv-requires-clause-a
mxv-requires-clause-a c =
    let f = c.in-Mxv in let ms = c.args.objects.now.matrices.items in let vs = c.args.objects.now.vectors.items in
    let of = vector_call ms vs c.args.call.now c.requires.accepted c.requires.assembled (λ x. call.Mxv x f.mask f.accum f.semiring f.a f.u f.d) f.w c.args.w f.is refl c.requires.output in
    let are = mxv_are ms vs c.args.w f.mask f.accum f.semiring f.a f.u f.d of.accepted c.lent-output.result.now c.lent-output.ensures in
    let second = vector_input ms vs f.u c.lent-u-in-Mxv.result.now c.lent-u-in-Mxv.ensures _ _ are.vector of.assembled.1.1.0 in
    let first = turned_input ms vs f.a c.lent-a.result.now c.lent-a.ensures f.d.tran _ _ _ are.matrix of.assembled.1.0 in
    record { assembled = first.assembled; domain = first.domain; rows = first.rows; columns = first.columns ∙ sym second.same_size }

pub mxv-requires-clause-u : goal.mxv-requires-clause-u
mxv-requires-clause-u c =
    let f = c.in-Mxv in let ms = c.args.objects.now.matrices.items in let vs = c.args.objects.now.vectors.items in
    let of = vector_call ms vs c.args.call.now c.requires.accepted c.requires.assembled (λ x. call.Mxv x f.mask f.accum f.semiring f.a f.u f.d) f.w c.args.w f.is refl c.requires.output in
    let are = mxv_are ms vs c.args.w f.mask f.accum f.semiring f.a f.u f.d of.accepted c.lent-output.result.now c.lent-output.ensures in
    let second = vector_input ms vs f.u c.lent-u-in-Mxv.result.now c.lent-u-in-Mxv.ensures _ _ are.vector of.assembled.1.1.0 in
    record { assembled = second.assembled; domain = second.domain; same_size = refl }

pub returns-in-Mxv : goal.returns-in-Mxv
returns-in-Mxv c =
    let f = c.in-Mxv in let ms = c.args.objects.now.matrices.items in let vs = c.args.objects.now.vectors.items in
    let of = vector_call ms vs c.args.call.now c.requires.accepted c.requires.assembled (λ x. call.Mxv x f.mask f.accum f.semiring f.a f.u f.d) f.w c.args.w f.is refl c.requires.output in
    let same_mask = lent_vector_entries ms vs (λ m. m.now) f.mask c.lent_mask-inside-in-Mxv.result c.lent_mask-inside-in-Mxv.ensures in
    if_ok _ _ c.mxv.result (λ made is. vector_left_as (stored ms vs) c.args.call.now _ of.is c.args.w (Some made.vector) (mxv-left ms vs c.args.w f.mask f.accum f.d c.lent-output.result.now c.lent-output.ensures _ same_mask made.vector f.semiring f.a f.u
    c.lent-a.result.now c.lent-u-in-Mxv.result.now c.lent-a.ensures c.lent-u-in-Mxv.ensures is)) c.mxv.ensures.vector

pub lent_mask-inside-requires-in-Vxm : goal.lent_mask-inside-requires-in-Vxm
lent_mask-inside-requires-in-Vxm c =
    let f = c.in-Vxm in let ms = c.args.objects.now.matrices.items in let vs = c.args.objects.now.vectors.items in
    let of = vector_call ms vs c.args.call.now c.requires.accepted c.requires.assembled (λ x. call.Vxm x f.mask f.accum f.semiring f.u f.a f.d) f.w c.args.w f.is refl c.requires.output in
    vxm_mask-there ms vs c.args.w f.mask f.accum f.semiring f.u f.a f.d of.accepted

pub lent-a-requires-in-Vxm : goal.lent-a-requires-in-Vxm
lent-a-requires-in-Vxm c =
    let f = c.in-Vxm in let ms = c.args.objects.now.matrices.items in let vs = c.args.objects.now.vectors.items in
    let of = vector_call ms vs c.args.call.now c.requires.accepted c.requires.assembled (λ x. call.Vxm x f.mask f.accum f.semiring f.u f.a f.d) f.w c.args.w f.is refl c.requires.output in
    vxm_matrix-there ms vs c.args.w f.mask f.accum f.semiring f.u f.a f.d of.accepted

pub lent-u-requires-in-Vxm : goal.lent-u-requires-in-Vxm
lent-u-requires-in-Vxm c =
    let f = c.in-Vxm in let ms = c.args.objects.now.matrices.items in let vs = c.args.objects.now.vectors.items in
    let of = vector_call ms vs c.args.call.now c.requires.accepted c.requires.assembled (λ x. call.Vxm x f.mask f.accum f.semiring f.u f.a f.d) f.w c.args.w f.is refl c.requires.output in
    vxm_vector-there ms vs c.args.w f.mask f.accum f.semiring f.u f.a f.d of.accepted

pub vxm-requires-clause-semiring_domain : goal.vxm-requires-clause-semiring_domain
vxm-requires-clause-semiring_domain c =
    let f = c.in-Vxm in let ms = c.args.objects.now.matrices.items in let vs = c.args.objects.now.vectors.items in
    let of = vector_call ms vs c.args.call.now c.requires.accepted c.requires.assembled (λ x. call.Vxm x f.mask f.accum f.semiring f.u f.a f.d) f.w c.args.w f.is refl c.requires.output in
    (vxm_are ms vs c.args.w f.mask f.accum f.semiring f.u f.a f.d of.accepted c.lent-output.result.now c.lent-output.ensures).multiplies

pub vxm-requires-clause-output : goal.vxm-requires-clause-output
vxm-requires-clause-output c =
    let f = c.in-Vxm in let ms = c.args.objects.now.matrices.items in let vs = c.args.objects.now.vectors.items in
    let of = vector_call ms vs c.args.call.now c.requires.accepted c.requires.assembled (λ x. call.Vxm x f.mask f.accum f.semiring f.u f.a f.d) f.w c.args.w f.is refl c.requires.output in
    let are = vxm_are ms vs c.args.w f.mask f.accum f.semiring f.u f.a f.d of.accepted c.lent-output.result.now c.lent-output.ensures in
    vector_output ms vs c.args.w c.lent-output.result.now c.lent-output.ensures of.assembled.0 f.mask c.lent_mask-inside-in-Vxm.result c.lent_mask-inside-in-Vxm.ensures of.assembled.1.1.1 are.masked f.accum are.accumulates

pub vxm-requires-clause-u : goal.vxm-requires-clause-u
vxm-requires-clause-u c =
    let f = c.in-Vxm in let ms = c.args.objects.now.matrices.items in let vs = c.args.objects.now.vectors.items in
    let of = vector_call ms vs c.args.call.now c.requires.accepted c.requires.assembled (λ x. call.Vxm x f.mask f.accum f.semiring f.u f.a f.d) f.w c.args.w f.is refl c.requires.output in
    let are = vxm_are ms vs c.args.w f.mask f.accum f.semiring f.u f.a f.d of.accepted c.lent-output.result.now c.lent-output.ensures in
    let first = vector_input ms vs f.u c.lent-u-in-Vxm.result.now c.lent-u-in-Vxm.ensures _ _ are.vector of.assembled.1.0 in
    record { assembled = first.assembled; domain = first.domain; same_size = refl }

pub vxm-requires-clause-a : goal.vxm-requires-clause-a
vxm-requires-clause-a c =
    let f = c.in-Vxm in let ms = c.args.objects.now.matrices.items in let vs = c.args.objects.now.vectors.items in
    let of = vector_call ms vs c.args.call.now c.requires.accepted c.requires.assembled (λ x. call.Vxm x f.mask f.accum f.semiring f.u f.a f.d) f.w c.args.w f.is refl c.requires.output in
    let are = vxm_are ms vs c.args.w f.mask f.accum f.semiring f.u f.a f.d of.accepted c.lent-output.result.now c.lent-output.ensures in
    let first = vector_input ms vs f.u c.lent-u-in-Vxm.result.now c.lent-u-in-Vxm.ensures _ _ are.vector of.assembled.1.0 in
    let second = turned_input ms vs f.a c.lent-a-in-Vxm.result.now c.lent-a-in-Vxm.ensures f.d.tran1 _ _ _ are.matrix of.assembled.1.1.0 in
    record { assembled = second.assembled; domain = second.domain; rows = second.rows ∙ sym first.same_size; columns = second.columns }

pub returns-in-Vxm : goal.returns-in-Vxm
returns-in-Vxm c =
    let f = c.in-Vxm in let ms = c.args.objects.now.matrices.items in let vs = c.args.objects.now.vectors.items in
    let of = vector_call ms vs c.args.call.now c.requires.accepted c.requires.assembled (λ x. call.Vxm x f.mask f.accum f.semiring f.u f.a f.d) f.w c.args.w f.is refl c.requires.output in
    let same_mask = lent_vector_entries ms vs (λ m. m.now) f.mask c.lent_mask-inside-in-Vxm.result c.lent_mask-inside-in-Vxm.ensures in
    if_ok _ _ c.vxm.result (λ made is. vector_left_as (stored ms vs) c.args.call.now _ of.is c.args.w (Some made.vector) (vxm-left ms vs c.args.w f.mask f.accum f.d c.lent-output.result.now c.lent-output.ensures _ same_mask made.vector f.semiring f.u f.a
    c.lent-u-in-Vxm.result.now c.lent-a-in-Vxm.result.now c.lent-u-in-Vxm.ensures c.lent-a-in-Vxm.ensures is)) c.vxm.ensures.vector

pub lent_mask-inside-requires-in-ReduceRows : goal.lent_mask-inside-requires-in-ReduceRows
lent_mask-inside-requires-in-ReduceRows c =
    let f = c.in-ReduceRows in let ms = c.args.objects.now.matrices.items in let vs = c.args.objects.now.vectors.items in
    let of = vector_call ms vs c.args.call.now c.requires.accepted c.requires.assembled (λ x. call.ReduceRows x f.mask f.accum f.monoid f.a f.d) f.w c.args.w f.is refl c.requires.output in
    rows_mask-there ms vs c.args.w f.mask f.accum f.monoid f.a f.d of.accepted

pub lent-a-requires-in-ReduceRows : goal.lent-a-requires-in-ReduceRows
lent-a-requires-in-ReduceRows c =
    let f = c.in-ReduceRows in let ms = c.args.objects.now.matrices.items in let vs = c.args.objects.now.vectors.items in
    let of = vector_call ms vs c.args.call.now c.requires.accepted c.requires.assembled (λ x. call.ReduceRows x f.mask f.accum f.monoid f.a f.d) f.w c.args.w f.is refl c.requires.output in
    rows_matrix-there ms vs c.args.w f.mask f.accum f.monoid f.a f.d of.accepted

pub reduce_rows-requires-clause-monoid_domain : goal.reduce_rows-requires-clause-monoid_domain
reduce_rows-requires-clause-monoid_domain c =
    let f = c.in-ReduceRows in let ms = c.args.objects.now.matrices.items in let vs = c.args.objects.now.vectors.items in
    let of = vector_call ms vs c.args.call.now c.requires.accepted c.requires.assembled (λ x. call.ReduceRows x f.mask f.accum f.monoid f.a f.d) f.w c.args.w f.is refl c.requires.output in
    (rows_are ms vs c.args.w f.mask f.accum f.monoid f.a f.d of.accepted c.lent-output.result.now c.lent-output.ensures).folds

pub reduce_rows-requires-clause-output : goal.reduce_rows-requires-clause-output
reduce_rows-requires-clause-output c =
    let f = c.in-ReduceRows in let ms = c.args.objects.now.matrices.items in let vs = c.args.objects.now.vectors.items in
    let of = vector_call ms vs c.args.call.now c.requires.accepted c.requires.assembled (λ x. call.ReduceRows x f.mask f.accum f.monoid f.a f.d) f.w c.args.w f.is refl c.requires.output in
    let are = rows_are ms vs c.args.w f.mask f.accum f.monoid f.a f.d of.accepted c.lent-output.result.now c.lent-output.ensures in
    vector_output ms vs c.args.w c.lent-output.result.now c.lent-output.ensures of.assembled.0 f.mask c.lent_mask-inside-in-ReduceRows.result c.lent_mask-inside-in-ReduceRows.ensures of.assembled.1.1 are.masked f.accum are.accumulates

pub reduce_rows-requires-clause-a : goal.reduce_rows-requires-clause-a
reduce_rows-requires-clause-a c =
    let f = c.in-ReduceRows in let ms = c.args.objects.now.matrices.items in let vs = c.args.objects.now.vectors.items in
    let of = vector_call ms vs c.args.call.now c.requires.accepted c.requires.assembled (λ x. call.ReduceRows x f.mask f.accum f.monoid f.a f.d) f.w c.args.w f.is refl c.requires.output in
    let are = rows_are ms vs c.args.w f.mask f.accum f.monoid f.a f.d of.accepted c.lent-output.result.now c.lent-output.ensures in
    let first = turned_input ms vs f.a c.lent-a-in-ReduceRows.result.now c.lent-a-in-ReduceRows.ensures f.d.tran _ _ _ are.matrix of.assembled.1.0 in
    record { assembled = first.assembled; domain = first.domain; rows = first.rows; columns = refl }

pub returns-in-ReduceRows : goal.returns-in-ReduceRows
returns-in-ReduceRows c =
    let f = c.in-ReduceRows in let ms = c.args.objects.now.matrices.items in let vs = c.args.objects.now.vectors.items in
    let of = vector_call ms vs c.args.call.now c.requires.accepted c.requires.assembled (λ x. call.ReduceRows x f.mask f.accum f.monoid f.a f.d) f.w c.args.w f.is refl c.requires.output in
    let same_mask = lent_vector_entries ms vs (λ m. m.now) f.mask c.lent_mask-inside-in-ReduceRows.result c.lent_mask-inside-in-ReduceRows.ensures in
    if_ok _ _ c.reduce_rows.result (λ made is. vector_left_as (stored ms vs) c.args.call.now _ of.is c.args.w (Some made.vector) (rows-left ms vs c.args.w f.mask f.accum f.d c.lent-output.result.now c.lent-output.ensures _ same_mask made.vector f.monoid f.a
    c.lent-a-in-ReduceRows.result.now c.lent-a-in-ReduceRows.ensures is)) c.reduce_rows.ensures.vector

pub written_vector-requires-clause-accepted : goal.written_vector-requires-clause-accepted
written_vector-requires-clause-accepted c =
    let f = c.in-WriteVector in let ms = c.args.objects.now.matrices.items in let vs = c.args.objects.now.vectors.items in
    let of = vector_call ms vs c.args.call.now c.requires.accepted c.requires.assembled (λ x. call.WriteVector x f.mask f.accum f.term f.d) f.w c.args.w f.is refl c.requires.output in of.accepted

pub written_vector-requires-clause-assembled : goal.written_vector-requires-clause-assembled
written_vector-requires-clause-assembled c =
    let f = c.in-WriteVector in let ms = c.args.objects.now.matrices.items in let vs = c.args.objects.now.vectors.items in
    let of = vector_call ms vs c.args.call.now c.requires.accepted c.requires.assembled (λ x. call.WriteVector x f.mask f.accum f.term f.d) f.w c.args.w f.is refl c.requires.output in of.assembled

pub returns-in-WriteVector : goal.returns-in-WriteVector
returns-in-WriteVector c =
    let f = c.in-WriteVector in let ms = c.args.objects.now.matrices.items in let vs = c.args.objects.now.vectors.items in
    let of = vector_call ms vs c.args.call.now c.requires.accepted c.requires.assembled (λ x. call.WriteVector x f.mask f.accum f.term f.d) f.w c.args.w f.is refl c.requires.output in
    if_ok _ _ c.written_vector.result (λ made is. vector_left_as (stored ms vs) c.args.call.now _ of.is c.args.w (Some made.vector) is) c.written_vector.ensures
