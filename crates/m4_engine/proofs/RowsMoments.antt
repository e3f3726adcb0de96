-- RowsMoments: what an expansion has made after so many of its turns, computed from the definitions.
use Rattle.std.proofs.Common.{◌≡◌, ℕ, zero, suc, false, [], refl}
use Rattle.std.specs.Prelude.{codes}
use Rattle.m4_state.specs.Fresh.{fresh}
use Rattle.m4_engine.specs.OpenCalls.{Stops, Goes}
use Rattle.m4_engine.specs.Expansion.{RunSoFar}
use Rattle.m4_engine.specs.Expand.{expansion_of}
use Rattle.m4_engine.specs.Moments.{Next, moved, made_by, first_moment}
use Rattle.m4_engine.specs.File.{file_pending}
use Rattle.m4_engine.specs.Start.{so_far_from}
use Rattle.m4_engine.specs.Run.{limits_of}
use Rattle.m4_engine.proofs.Rows.{usual}

-- so many turns further on
abbrev turns_on : ℕ → Next → Next
turns_on zero n = n
turns_on (suc k) (Stops o) = Stops o
turns_on (suc k) (Goes c) = turns_on k (moved c)

-- what a file has made after its first turns: a name, a blank, a call whose list opens, its string, the end of the
-- list, and a name again
abbrev made_in_turns : ℕ → RunSoFar
made_in_turns k = made_by (turns_on k (Goes
    (first_moment (expansion_of (limits_of usual) (so_far_from (fresh false) [])
    (file_pending (codes "a.m4") (codes "ab errprint(`c')d\n") false)))))

-- all before the call's list ends is output
output_before_the_message : (made_in_turns 4).output ≡ codes "ab "
output_before_the_message = refl

none_before_the_message : (made_in_turns 4).messages ≡ []
none_before_the_message = refl

-- the parenthesis that ends it makes the message
message_of_a_turn : (made_in_turns 5).messages ≡ codes "c"
message_of_a_turn = refl

no_output_of_that_turn : (made_in_turns 5).output ≡ codes "ab "
no_output_of_that_turn = refl

-- and the next turn more output
output_after_the_message : (made_in_turns 6).output ≡ codes "ab d"
output_after_the_message = refl
