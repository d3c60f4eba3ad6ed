use Rattle.std.proofs.Common.{length, ap, ◌∙◌}
use Rattle.std.specs.Option.{option_map}
use Rattle.std.proofs.lemmas.List.{length-map}
use Rattle.grb_call.specs.History.{store_of}
use Rattle.grb_call.specs.Shapes.{ObjectShapes}
use Rattle.grb_call.specs.Store.{Store, vector_shape}
use Rattle.grb_pass.proofs.Prelude.{Knowing, known}
use Rattle.grb_pass.proofs.pass.Pass.vectors_given.Goals as goal

pub returns : goal.returns
returns g c =
    let s : Store = store_of (known c.self.inside.reader) in
    c.vectors.ensures ∙ ap (λ (o : ObjectShapes). length o.vectors) c.shapes-shapes.ensures ∙ length-map s.vectors (option_map vector_shape) ∙ ap (λ (p : Knowing). length (store_of (known p)).vectors) c.self.view_is
