use Rattle.std.proofs.Common.{◌∙◌, Some, ap, get_or, rules, arith}
use Rattle.grb_words.proofs.IndicesLemmas.{no_word}
use Rattle.grb_words.proofs.LoadLemmas.{load_of-read, load_of-unread}
use Rattle.grb_words.proofs.load.load_of.Goals as goal

pub returns-in-Ok : goal.returns-in-Ok
returns-in-Ok c =
    ap (λ path. Some ((get_or c.args.words.now 1 no_word).now, path)) c.in-Ok.ensures.cases.0
    ∙ load_of-read c.args.words.now (omega arith) (search rules) c.in-Ok.ensures.cases.1

pub returns-in-Err : goal.returns-in-Err
returns-in-Err c = load_of-unread c.args.words.now (omega arith) c.in-Err.ensures.cases.0
