-- Moments: turns one after another, and what an expansion comes to from each of its moments.
use Rattle.std.proofs.Common.{◌≡◌, List, [], ◌∷◌, ◌++◌, refl, sym, ap, ◌∙◌, subst}
use Rattle.m4_engine.specs.declared.machine.driver.Wanted.{Wanted}
use Rattle.m4_engine.specs.declared.machine.driver.Wanted.TheVariants as wanted
use Rattle.m4_engine.specs.Nesting.{Outcome}
use Rattle.m4_engine.specs.OpenCalls.{Goes, moved_meaning}
use Rattle.m4_engine.specs.Expansion.{Expansion, Kept, Ended}
use Rattle.m4_engine.specs.Expand.{turn, join, expand, out_of_bound_at, size_of, calls_left}
use Rattle.m4_engine.specs.Moments.{Moment, Next, moved, Comes, first_moment}
use Rattle.m4_engine.specs.Continued.{skipped_first, comes_to, stands}
use Rattle.m4_engine.proofs.CallsFall.{falls}
use Rattle.m4_engine.proofs.MachineIsNesting.{popped, move_keeps}

-- what a turn leads to comes to this
abbrev pub comes_out : Next → Outcome Expansion Ended
comes_out n = moved_meaning Expansion Kept Ended turn join expand n

-- some turns, and then others
pub on_from : (cs ds : List Moment) (m n k : Next) → Comes cs m n → Comes ds n k → Comes (cs ++ ds) m k
on_from [] ds m n k f g = subst (λ (x : Next). Comes ds x k) f g
on_from (c ∷ cs) ds m n k f g = (f.0, on_from cs ds (moved c) n k f.1 g)

-- turns change nothing of what it all comes to
pub comes_same : (cs : List Moment) (m n : Next) → Comes cs m n → comes_out n ≡ comes_out m
comes_same [] m n f = ap comes_out f
comes_same (c ∷ cs) m n f =
    comes_same cs (moved c) n f.1
    ∙ move_keeps Expansion Kept Ended turn join out_of_bound_at size_of calls_left falls c
    ∙ sym (ap comes_out f.0)

-- where the machine stands, also within a line that is skipped
pub stands_same : (w : Wanted) (c : Moment) → comes_out (stands w c) ≡ comes_to w c
stands_same wanted.Token c = refl
stands_same wanted.Line c = popped Expansion Kept Ended turn join out_of_bound_at size_of calls_left falls c.outer (skipped_first wanted.Line c.here)

-- each moment leads to the end of the expansion
pub moments_lead : (s : Expansion) (cs : List Moment) (n : Next) → Comes cs (Goes (first_moment s)) n → comes_out n ≡ expand s
moments_lead s cs n h = comes_same cs (Goes (first_moment s)) n h
