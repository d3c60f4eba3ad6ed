use Rattle.std.proofs.Common.{ap, refl, Some}
use Rattle.grb_call.specs.declared.call.Call.TheVariants as call
use Rattle.grb_call.specs.declared.term.VectorTerm.TheVariants as term
use Rattle.grb_objects.specs.Stored.{stored}
use Rattle.grb_operations.proofs.Dispatched.{held_output_vector, is_call, vector_left_as}
use Rattle.grb_operations.proofs.Lent.{if_ok, lent_vector_entries}
use Rattle.grb_operations.proofs.LentTerms.{applied_vector-left, applied_vector-tests, each_vector-there, each_vector_are, each_vector_input, each_vector_output, selected_vector-left, selected_vector-tests, term_vector_mask-there}
use Rattle.grb_call.proofs.Terms.{function_is, test_is}
use Rattle.grb_operations.proofs.outputs.written_vector.Goals as goal

pub lent-output-requires : goal.lent-output-requires
lent-output-requires c =
    held_output_vector c.args.objects.now.matrices.items c.args.objects.now.vectors.items c.args.w (call.WriteVector c.args.w c.args.mask c.args.accum c.args.term c.args.d) refl refl c.requires.accepted

pub lent_mask-inside-requires : goal.lent_mask-inside-requires
lent_mask-inside-requires c =
    term_vector_mask-there c.args.objects.now.matrices.items c.args.objects.now.vectors.items c.args.w c.args.mask c.args.accum c.args.term c.args.d c.requires.accepted

pub lent-input-requires : goal.lent-input-requires
lent-input-requires c =
    let f = c.in-Applied in let ms = c.args.objects.now.matrices.items in let vs = c.args.objects.now.vectors.items in
    let of = is_call ms vs (call.WriteVector c.args.w c.args.mask c.args.accum c.args.term c.args.d) c.requires.accepted c.requires.assembled (call.WriteVector c.args.w c.args.mask c.args.accum (term.Applied f.f f.u) c.args.d)
    (ap (λ t. call.WriteVector c.args.w c.args.mask c.args.accum t c.args.d) f.is) in
    let tests = applied_vector-tests (stored ms vs) c.args.w c.args.mask c.args.accum c.args.d f.f f.u of.accepted in
    each_vector-there ms vs c.args.w c.args.mask c.args.accum f.u tests

pub apply_vector-requires-clause-output : goal.apply_vector-requires-clause-output
apply_vector-requires-clause-output c =
    let f = c.in-Applied in let ms = c.args.objects.now.matrices.items in let vs = c.args.objects.now.vectors.items in
    let of = is_call ms vs (call.WriteVector c.args.w c.args.mask c.args.accum c.args.term c.args.d) c.requires.accepted c.requires.assembled (call.WriteVector c.args.w c.args.mask c.args.accum (term.Applied f.f f.u) c.args.d)
    (ap (λ t. call.WriteVector c.args.w c.args.mask c.args.accum t c.args.d) f.is) in
    let tests = applied_vector-tests (stored ms vs) c.args.w c.args.mask c.args.accum c.args.d f.f f.u of.accepted in
    each_vector_output ms vs c.args.w c.args.mask c.args.accum f.u tests of.assembled c.lent-output.result.now c.lent-output.ensures c.lent_mask-inside.result c.lent_mask-inside.ensures

pub apply_vector-requires-clause-u : goal.apply_vector-requires-clause-u
apply_vector-requires-clause-u c =
    let f = c.in-Applied in let ms = c.args.objects.now.matrices.items in let vs = c.args.objects.now.vectors.items in
    let of = is_call ms vs (call.WriteVector c.args.w c.args.mask c.args.accum c.args.term c.args.d) c.requires.accepted c.requires.assembled (call.WriteVector c.args.w c.args.mask c.args.accum (term.Applied f.f f.u) c.args.d)
    (ap (λ t. call.WriteVector c.args.w c.args.mask c.args.accum t c.args.d) f.is) in
    let tests = applied_vector-tests (stored ms vs) c.args.w c.args.mask c.args.accum c.args.d f.f f.u of.accepted in
    each_vector_input ms vs c.args.w c.args.mask c.args.accum f.u tests of.assembled c.lent-output.result.now c.lent-output.ensures c.lent-input.result.now c.lent-input.ensures

pub apply_vector-requires-clause-function : goal.apply_vector-requires-clause-function
apply_vector-requires-clause-function c =
    let f = c.in-Applied in let ms = c.args.objects.now.matrices.items in let vs = c.args.objects.now.vectors.items in
    let of = is_call ms vs (call.WriteVector c.args.w c.args.mask c.args.accum c.args.term c.args.d) c.requires.accepted c.requires.assembled (call.WriteVector c.args.w c.args.mask c.args.accum (term.Applied f.f f.u) c.args.d)
    (ap (λ t. call.WriteVector c.args.w c.args.mask c.args.accum t c.args.d) f.is) in
    let tests = applied_vector-tests (stored ms vs) c.args.w c.args.mask c.args.accum c.args.d f.f f.u of.accepted in
    function_is c.lent-output.result.now.vector.domain f.f (each_vector_are ms vs c.args.w c.args.mask c.args.accum f.u tests of.assembled c.lent-output.result.now c.lent-output.ensures).computes

pub returns-in-Applied : goal.returns-in-Applied
returns-in-Applied c =
    let f = c.in-Applied in let ms = c.args.objects.now.matrices.items in let vs = c.args.objects.now.vectors.items in
    let of = is_call ms vs (call.WriteVector c.args.w c.args.mask c.args.accum c.args.term c.args.d) c.requires.accepted c.requires.assembled (call.WriteVector c.args.w c.args.mask c.args.accum (term.Applied f.f f.u) c.args.d)
    (ap (λ t. call.WriteVector c.args.w c.args.mask c.args.accum t c.args.d) f.is) in
    let tests = applied_vector-tests (stored ms vs) c.args.w c.args.mask c.args.accum c.args.d f.f f.u of.accepted in
    let same_mask = lent_vector_entries ms vs (λ m. m.now) c.args.mask c.lent_mask-inside.result c.lent_mask-inside.ensures in
    if_ok _ _ c.apply_vector.result (λ made is. vector_left_as (stored ms vs) (call.WriteVector c.args.w c.args.mask c.args.accum c.args.term c.args.d) _ of.is c.args.w (Some made.vector)
    (applied_vector-left ms vs c.args.w c.args.mask c.args.accum c.args.d c.lent-output.result.now c.lent-output.ensures _ same_mask made.vector f.f f.u c.lent-input.result.now c.lent-input.ensures is)) c.apply_vector.ensures.vector

pub lent-input-requires-in-Selected : goal.lent-input-requires-in-Selected
lent-input-requires-in-Selected c =
    let f = c.in-Selected in let ms = c.args.objects.now.matrices.items in let vs = c.args.objects.now.vectors.items in
    let of = is_call ms vs (call.WriteVector c.args.w c.args.mask c.args.accum c.args.term c.args.d) c.requires.accepted c.requires.assembled (call.WriteVector c.args.w c.args.mask c.args.accum (term.Selected f.test f.u) c.args.d)
    (ap (λ t. call.WriteVector c.args.w c.args.mask c.args.accum t c.args.d) f.is) in
    let tests = selected_vector-tests (stored ms vs) c.args.w c.args.mask c.args.accum c.args.d f.test f.u of.accepted in
    each_vector-there ms vs c.args.w c.args.mask c.args.accum f.u tests

pub select_vector-requires-clause-output : goal.select_vector-requires-clause-output
select_vector-requires-clause-output c =
    let f = c.in-Selected in let ms = c.args.objects.now.matrices.items in let vs = c.args.objects.now.vectors.items in
    let of = is_call ms vs (call.WriteVector c.args.w c.args.mask c.args.accum c.args.term c.args.d) c.requires.accepted c.requires.assembled (call.WriteVector c.args.w c.args.mask c.args.accum (term.Selected f.test f.u) c.args.d)
    (ap (λ t. call.WriteVector c.args.w c.args.mask c.args.accum t c.args.d) f.is) in
    let tests = selected_vector-tests (stored ms vs) c.args.w c.args.mask c.args.accum c.args.d f.test f.u of.accepted in
    each_vector_output ms vs c.args.w c.args.mask c.args.accum f.u tests of.assembled c.lent-output.result.now c.lent-output.ensures c.lent_mask-inside.result c.lent_mask-inside.ensures

pub select_vector-requires-clause-u : goal.select_vector-requires-clause-u
select_vector-requires-clause-u c =
    let f = c.in-Selected in let ms = c.args.objects.now.matrices.items in let vs = c.args.objects.now.vectors.items in
    let of = is_call ms vs (call.WriteVector c.args.w c.args.mask c.args.accum c.args.term c.args.d) c.requires.accepted c.requires.assembled (call.WriteVector c.args.w c.args.mask c.args.accum (term.Selected f.test f.u) c.args.d)
    (ap (λ t. call.WriteVector c.args.w c.args.mask c.args.accum t c.args.d) f.is) in
    let tests = selected_vector-tests (stored ms vs) c.args.w c.args.mask c.args.accum c.args.d f.test f.u of.accepted in
    each_vector_input ms vs c.args.w c.args.mask c.args.accum f.u tests of.assembled c.lent-output.result.now c.lent-output.ensures c.lent-input-in-Selected.result.now c.lent-input-in-Selected.ensures

pub select_vector-requires-clause-test : goal.select_vector-requires-clause-test
select_vector-requires-clause-test c =
    let f = c.in-Selected in let ms = c.args.objects.now.matrices.items in let vs = c.args.objects.now.vectors.items in
    let of = is_call ms vs (call.WriteVector c.args.w c.args.mask c.args.accum c.args.term c.args.d) c.requires.accepted c.requires.assembled (call.WriteVector c.args.w c.args.mask c.args.accum (term.Selected f.test f.u) c.args.d)
    (ap (λ t. call.WriteVector c.args.w c.args.mask c.args.accum t c.args.d) f.is) in
    let tests = selected_vector-tests (stored ms vs) c.args.w c.args.mask c.args.accum c.args.d f.test f.u of.accepted in
    test_is c.lent-output.result.now.vector.domain f.test (each_vector_are ms vs c.args.w c.args.mask c.args.accum f.u tests of.assembled c.lent-output.result.now c.lent-output.ensures).computes

pub returns-in-Selected : goal.returns-in-Selected
returns-in-Selected c =
    let f = c.in-Selected in let ms = c.args.objects.now.matrices.items in let vs = c.args.objects.now.vectors.items in
    let of = is_call ms vs (call.WriteVector c.args.w c.args.mask c.args.accum c.args.term c.args.d) c.requires.accepted c.requires.assembled (call.WriteVector c.args.w c.args.mask c.args.accum (term.Selected f.test f.u) c.args.d)
    (ap (λ t. call.WriteVector c.args.w c.args.mask c.args.accum t c.args.d) f.is) in
    let tests = selected_vector-tests (stored ms vs) c.args.w c.args.mask c.args.accum c.args.d f.test f.u of.accepted in
    let same_mask = lent_vector_entries ms vs (λ m. m.now) c.args.mask c.lent_mask-inside.result c.lent_mask-inside.ensures in
    if_ok _ _ c.select_vector.result (λ made is. vector_left_as (stored ms vs) (call.WriteVector c.args.w c.args.mask c.args.accum c.args.term c.args.d) _ of.is c.args.w (Some made.vector)
    (selected_vector-left ms vs c.args.w c.args.mask c.args.accum c.args.d c.lent-output.result.now c.lent-output.ensures _ same_mask made.vector f.test f.u c.lent-input-in-Selected.result.now c.lent-input-in-Selected.ensures is)) c.select_vector.ensures.vector
