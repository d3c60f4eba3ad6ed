use Rattle.std.proofs.Common.{◌≡◌, length, ap, ◌∙◌}
use Rattle.std.specs.Option.{option_map}
use Rattle.std.proofs.lemmas.List.{length-map}
use Rattle.grb_call.specs.History.{store_of}
use Rattle.grb_call.specs.Shapes.{ObjectShapes}
use Rattle.grb_call.specs.Store.{Store, matrix_shape, vector_shape}
use Rattle.grb_reader.specs.Known.{known}
use Rattle.grb_reader.specs.LiveNumbers.{live_numbers, matrix_ids, vector_ids}
use Rattle.grb_reader.proofs.LiveNumbers.{live_numbers-map}
use Rattle.grb_reader.proofs.reader.Reader.live.Goals as goal

pub returns : goal.returns
returns c =
    let s : Store = store_of (known c.args.self.now) in let shapes = c.shapes-shapes.ensures in
    record {
      live = record {
        matrices = c.in_ok-live_matrices.ensures ∙ ap (λ (o : ObjectShapes). matrix_ids (live_numbers o.matrices)) shapes ∙ ap matrix_ids (live_numbers-map matrix_shape s.matrices);
        vectors = c.in_ok-live_vectors.ensures ∙ ap (λ (o : ObjectShapes). vector_ids (live_numbers o.vectors)) shapes ∙ ap vector_ids (live_numbers-map vector_shape s.vectors);
        matrix_count = c.matrices.ensures ∙ ap (λ (o : ObjectShapes). length o.matrices) shapes ∙ length-map s.matrices (option_map matrix_shape);
        vector_count = c.vectors.ensures ∙ ap (λ (o : ObjectShapes). length o.vectors) shapes ∙ length-map s.vectors (option_map vector_shape);
      };
    }
