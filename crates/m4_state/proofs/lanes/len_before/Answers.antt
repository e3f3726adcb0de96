use Rattle.std.proofs.Common.{ℕ, Bool, not, refl}
use Rattle.std.specs.Prelude.{◌==◌}
use Rattle.std.proofs.lemmas.Simd.{length-chunk}
use Rattle.m4_state.proofs.LaneMarks.{run_ends, run_passes}
use Rattle.m4_state.proofs.lanes.len_before.Goals as goal

abbrev is_it : ℕ → ℕ → Bool
is_it a b = b == a

abbrev is_other : ℕ → ℕ → Bool
is_other a b = not (b == a)

pub returns-clause-ends : goal.returns-clause-ends
returns-clause-ends c =
    let x = c.args.text.now in
    let i = c.args.at in
    run_ends (is_it c.args.byte) (is_other c.args.byte) (λ b. refl) x i _ c.requires.room
    (c.first_lane.ensures (is_it c.args.byte) _ (length-chunk i 16 x c.requires.room) c.equal_marks.ensures)

pub returns-clause-passes : goal.returns-clause-passes
returns-clause-passes c =
    let x = c.args.text.now in
    let i = c.args.at in
    run_passes (is_it c.args.byte) (is_other c.args.byte) (λ b. refl) x i _ c.requires.room
    (c.first_lane.ensures (is_it c.args.byte) _ (length-chunk i 16 x c.requires.room) c.equal_marks.ensures)
