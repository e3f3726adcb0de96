-- The values that clap found are those in its rows.
use Rattle.std.proofs.Common.{◌∙◌, None, Some, ap, map, string_bytes}
use Rattle.std.proofs.lemmas.Result.{IfOk-weaker}
use Rattle.clap.specs.Walk.{texts}
use Rattle.clap.specs.Words.{found_of}
use Rattle.m4_tool.proofs.RowLemmas.{files_found}
use Rattle.m4_tool.proofs.line.files_of.Goals as goal

pub returns-in-Some : goal.returns-in-Some
returns-in-Some c =
    let found = files_found (found_of c.args.matches.now) (Some (texts c.in-Some.files.now)) c.in-Some.ensures in
    IfOk-weaker c.copies.result _ _ (λ same is. is ∙ found) c.copies.ensures

pub returns-in-None : goal.returns-in-None
returns-in-None c =
    let found = files_found (found_of c.args.matches.now) None c.in-None.ensures in
    ap (map string_bytes) c.new.ensures.items ∙ found
