-- clap returns a fault of the list for these words, or that memory ran out, which is distinguished.
use Rattle.std.proofs.Common.{◌∙◌, ap, subst, sym}
use Rattle.clap.specs.Words.{App, HasKind, fault_of, is_simple, is_simple_and_free, matches_of}
use Rattle.clap.specs.Walk.{texts}
use Rattle.m4_tool.proofs.RefusalLemmas.{classified_refusal, classified_mode}
use Rattle.m4_tool.proofs.line.matches_of_words.Goals as goal

pub returns-in-Ok-clause-found : goal.returns-in-Ok-clause-found
returns-in-Ok-clause-found c =
    let words = texts c.args.words.now in
    let taken = c.in-Ok.ensures.kinds (ap is_simple_and_free c.in_ok-command.ensures) in
    let found = c.in-Ok.ensures.matches (ap is_simple c.in_ok-command.ensures) in record {
      is_taken = sym (ap (λ (a : App). fault_of a words) c.in_ok-command.ensures) ∙ taken;
      rows = found.0 ∙ ap (λ (a : App). matches_of a words) c.in_ok-command.ensures;
    }

pub returns-in-Err-clause-refused : goal.returns-in-Err-clause-refused
returns-in-Err-clause-refused c =
    let kind = c.in-Err.ensures.kinds (ap is_simple_and_free c.in_ok-command.ensures) in
    let of_words = ap (λ (a : App). fault_of a (texts c.args.words.now)) c.in_ok-command.ensures in
    classified_refusal (texts c.args.words.now) c.in-Err.error c.fault_of_parse.result c.fault_of_parse.ensures
    (subst (λ kinds. HasKind kinds c.in-Err.error) of_words kind)

pub returns-in-Err-clause-by_clap : goal.returns-in-Err-clause-by_clap
returns-in-Err-clause-by_clap c same =
    classified_mode c.in-Err.error c.fault_of_parse.result c.fault_of_parse.ensures (cc)
