use Rattle.std.proofs.Common.{◌≡◌, true}
use Rattle.grb_jobs.proofs.Lent.{of_lent}
use Rattle.grb_jobs.proofs.board.Board.product.Goals as goal

pub cuts_of-requires-clause-mask : goal.cuts_of-requires-clause-mask
cuts_of-requires-clause-mask c = of_lent (λ m. m.now) (λ m. m.assembled ≡ true) c.args.mask c.requires.mask_assembled
