use Rattle.std.proofs.Common.{◌≡◌, ℕ, Bool, true, false, not, refl, sym, ◌∙◌}
use Rattle.std.proofs.lemmas.Simd.{length-chunk, run_in_chunk_le}
use Rattle.m4_input.specs.Ascii.{is_name_byte}
use Rattle.m4_state.proofs.LaneMarks.{run_ends}
use Rattle.m4_input.proofs.Prefixes.{run_is_prefix}
use Rattle.m4_input.proofs.Marks.{other_marks}
use Rattle.m4_input.proofs.lanes.short_word_len.Goals as goal

twice : (v : Bool) → v ≡ not (not v)
twice true = refl
twice false = refl

abbrev is_other : ℕ → Bool
is_other b = not (is_name_byte b)

pub returns-clause-within : goal.returns-clause-within
returns-clause-within c =
    let x = c.args.text.now in
    let long = length-chunk 0 16 x c.requires.room in
    run_in_chunk_le is_other x 0 16 _ 0 c.requires.room (c.first_lane.ensures is_other _ long (other_marks x long c.type_inv.text))

pub returns-clause-value : goal.returns-clause-value
returns-clause-value c = λ inside.
    let x = c.args.text.now in
    let long = length-chunk 0 16 x c.requires.room in
    sym (run_is_prefix is_name_byte x
    ∙ run_ends is_other is_name_byte (λ b. twice (is_name_byte b)) x 0 _ c.requires.room
    (c.first_lane.ensures is_other _ long (other_marks x long c.type_inv.text)) inside)
