use Rattle.std.proofs.Common.{◌≡◌, Bool, true, false, take, drop}
use Rattle.std.proofs.lemmas.Simd.{length-chunk, run_in_chunk_le, run_in_chunk_fails, run_in_chunk_stops}
use Rattle.memchr.specs.Find.{is_byte2}
use Rattle.m4_input.proofs.Marks.{either_marks}
use Rattle.m4_input.proofs.lanes.len_before_either.Goals as goal

true_is_not_false : (v : Bool) → v ≡ false → v ≡ true → ⊥
true_is_not_false true h k = cc
true_is_not_false false h k = cc

pub returns-clause-none : goal.returns-clause-none
returns-clause-none c = λ k low high.
    let x = c.args.text.now in
    let p = is_byte2 c.args.one c.args.other in
    let long = length-chunk c.args.at 16 x c.requires.room in
    let first = c.first_lane.ensures p _ long (either_marks c.args.one c.args.other (take 16 (drop c.args.at x)) long) in
    true_is_not_false _ (run_in_chunk_fails p x c.args.at 16 _ 0 c.requires.room first k low high)

pub returns-clause-here : goal.returns-clause-here
returns-clause-here c = λ inside.
    let x = c.args.text.now in
    let p = is_byte2 c.args.one c.args.other in
    let long = length-chunk c.args.at 16 x c.requires.room in
    let first = c.first_lane.ensures p _ long (either_marks c.args.one c.args.other (take 16 (drop c.args.at x)) long) in
    run_in_chunk_stops p x c.args.at 16 _ 0 c.requires.room first inside

pub returns-clause-within : goal.returns-clause-within
returns-clause-within c =
    let x = c.args.text.now in
    let p = is_byte2 c.args.one c.args.other in
    let long = length-chunk c.args.at 16 x c.requires.room in
    run_in_chunk_le p x c.args.at 16 _ 0 c.requires.room
    (c.first_lane.ensures p _ long (either_marks c.args.one c.args.other (take 16 (drop c.args.at x)) long))
