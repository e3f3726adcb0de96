-- The start of the run is that of the line.
use Rattle.std.proofs.Common.{refl, None, Some, ap, ◌∙◌, sym, List, ℕ}
use Rattle.std.specs.Prelude.{option_map, string_bytes, unwrap_or, []}
use Rattle.m4_engine.specs.Run.{run}
use Rattle.m4_tool.specs.Line.{result_of_run, unreloaded}
use Rattle.m4_tool.proofs.OpenedFiles.{fresh_result, thawed_at, reloads_so, missing_so}
use Rattle.m4_tool.proofs.LineEnds.{ends_as}
use Rattle.m4_tool.proofs.FollowedCalls.{fresh_start, missing_start, opened_start}
use Rattle.m4_tool.proofs.Counts.{grew_none}
use Rattle.m4_tool.proofs.follow.follow_run.Goals as goal

pub returns-in-None-clause-follows : goal.returns-in-None-clause-follows
returns-in-None-clause-follows g c = λ files input r known l.
    let line = c.args.line.now in
    let file = unwrap_or (option_map string_bytes line.reload) [] in
    let k = fresh_result files (option_map string_bytes line.reload) line.options file l.0 r (ap (option_map string_bytes) c.in-None.is) l.2 in
    let e = sym (ap (λ o. unwrap_or (option_map string_bytes o) []) c.in-None.is) in
    ends_as c.follow_from.result.failure (unwrap_or (option_map string_bytes line.freeze) []) [] file
    (result_of_run [] (run line.options None l.0)) r c.follow_from.result.status _ e
    (ap (λ (x : List ℕ). result_of_run x (run line.options None l.0)) e ∙ k) (c.follow_from.ensures.ends files input None l.0 known refl l.1)

pub returns-in-Some-open-clause-follows : goal.returns-in-Some-open-clause-follows
returns-in-Some-open-clause-follows g c = λ files input r known l.
    let line = c.args.line.now in
    let given = c.as_bytes-file.result.now in
    let file = unwrap_or (option_map string_bytes line.reload) [] in
    let is = c.as_bytes-file.ensures.value ∙ c.as_str.ensures.value in
    let e = is ∙ sym (ap (λ o. unwrap_or (option_map string_bytes o) []) c.in-Some.is) in
    let t = thawed_at files (option_map string_bytes line.reload) given line.options file (Some l.0) r
    (ap (option_map string_bytes) c.in-Some.is ∙ ap (λ (n : List ℕ). Some n) (sym is)) l.2 in
    let k = reloads_so g.W.Reader.ByteSource.script c.in-Some-open.reader given (files given) line.options file l.0 r
    (rw known.0.1 at (c.in-Some-open.ensures known.0.0)) t in
    ends_as c.follow_from-in-Some-open.result.failure (unwrap_or (option_map string_bytes line.freeze) []) given file
    (result_of_run given (run line.options k.frozen l.0)) r c.follow_from-in-Some-open.result.status _ e
    (ap (λ (x : List ℕ). result_of_run x (run line.options k.frozen l.0)) e ∙ k.result)
    (c.follow_from-in-Some-open.ensures.ends files input k.frozen l.0 known k.describes l.1)

pub returns-in-None-open-clause-follows : goal.returns-in-None-open-clause-follows
returns-in-None-open-clause-follows g c = λ files input r known l.
    let line = c.args.line.now in
    let given = c.as_bytes-file.result.now in
    let file = unwrap_or (option_map string_bytes line.reload) [] in
    let is = c.as_bytes-file.ensures.value ∙ c.as_str.ensures.value in
    let e = is ∙ sym (ap (λ o. unwrap_or (option_map string_bytes o) []) c.in-Some.is) in
    let t = thawed_at files (option_map string_bytes line.reload) given line.options file (Some l.0) r
    (ap (option_map string_bytes) c.in-Some.is ∙ ap (λ (n : List ℕ). Some n) (sym is)) l.2 in
    let k = missing_so given (files given) line.options file (Some l.0) r (rw known.0.1 at (c.in-None-open.ensures known.0.0)) t in
    let name = unwrap_or (option_map string_bytes line.freeze) [] in
    ends_as c.close_unopened.result.failure name given file (unreloaded given) r c.close_unopened.result.status _ e k
    (c.close_unopened.ensures.ends name)

pub returns-in-None-clause-read : goal.returns-in-None-clause-read
returns-in-None-clause-read g c = λ files input known e. c.follow_from.ensures.read files input known e

pub returns-in-Some-open-clause-read : goal.returns-in-Some-open-clause-read
returns-in-Some-open-clause-read g c = λ files input known e. c.follow_from-in-Some-open.ensures.read files input known e

pub returns-in-None-open-clause-read : goal.returns-in-None-open-clause-read
returns-in-None-open-clause-read g c = λ files input known e. absurd (c.close_unopened.ensures.unread e)

pub returns-in-None-clause-ended : goal.returns-in-None-clause-ended
returns-in-None-clause-ended g c = λ files input script ss known t e n.
    c.follow_from.ensures.ended files input script ss known
    (fresh_start files (option_map string_bytes c.args.line.now.reload) script (ap (option_map string_bytes) c.in-None.is) t) e n

pub returns-in-Some-open-clause-ended : goal.returns-in-Some-open-clause-ended
returns-in-Some-open-clause-ended g c = λ files input script ss known t e n.
    let line = c.args.line.now in
    let given = c.as_bytes-file.result.now in
    let is = c.as_bytes-file.ensures.value ∙ c.as_str.ensures.value in
    c.follow_from-in-Some-open.ensures.ended files input script ss known
    (opened_start g.W.Reader.ByteSource.script c.in-Some-open.reader files (option_map string_bytes line.reload) given script
    (ap (option_map string_bytes) c.in-Some.is ∙ ap (λ (n : List ℕ). Some n) (sym is)) (rw known.0.1 at (c.in-Some-open.ensures known.0.0)) t) e n

pub returns-in-None-open-clause-ended : goal.returns-in-None-open-clause-ended
returns-in-None-open-clause-ended g c = λ files input script ss known t e n.
    let line = c.args.line.now in
    let given = c.as_bytes-file.result.now in
    let is = c.as_bytes-file.ensures.value ∙ c.as_str.ensures.value in
    missing_start files (option_map string_bytes line.reload) given script
    (ap (option_map string_bytes) c.in-Some.is ∙ ap (λ (n : List ℕ). Some n) (sym is)) (rw known.0.1 at (c.in-None-open.ensures known.0.0)) t

pub returns-in-None-open-clause-shown_output : goal.returns-in-None-open-clause-shown_output
returns-in-None-open-clause-shown_output g c = c.close_unopened.ensures.shown_output _ (grew_none _ _ refl)

pub returns-in-None-open-clause-shown_messages : goal.returns-in-None-open-clause-shown_messages
returns-in-None-open-clause-shown_messages g c = c.close_unopened.ensures.shown_messages _ (grew_none _ _ refl)
