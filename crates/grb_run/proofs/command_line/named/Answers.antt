use Rattle.std.proofs.Common.{◌≡◌, ◌∙◌, ap, true}
use Rattle.grb_run.proofs.Prelude.{Shape, new_app}
use Rattle.clap.specs.Words.{app_of}
use Rattle.clap.specs.Simple.{app_of_fields, on_top}
use Rattle.grb_run.proofs.command_line.named.Goals as goal

-- the command has a version
abbrev versioned : Shape → Shape
versioned s = record s { has_version = true }

-- no word names the program
abbrev unnamed : Shape → Shape
unnamed s = record s { no_binary_name = true }

pub returns : goal.returns
returns c =
    let bare : app_of c.new.result ≡ new_app c.args.program.now = c.new.ensures.app in
    let shown : app_of c.about.result ≡ new_app c.args.program.now = ap app_of_fields c.about.ensures ∙ bare in
    let ended : app_of c.after_help.result ≡ new_app c.args.program.now = ap app_of_fields c.after_help.ensures ∙ shown in
    let numbered : app_of c.version.result ≡ on_top versioned (new_app c.args.program.now) =
    ap app_of_fields c.version.ensures ∙ ap (on_top versioned) ended in
    ap app_of_fields c.no_binary_name.ensures ∙ ap (on_top unnamed) numbered
