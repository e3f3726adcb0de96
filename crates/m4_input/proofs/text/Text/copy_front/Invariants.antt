use Rattle.std.proofs.Common.{◌≡◌, ◌++◌, List, ℕ, length, take}
use Rattle.m4_input.specs.Text.{joined, text_in}
use Rattle.m4_input.proofs.text.Text.copy_front.Given as goal

-- the first bytes of those segments that were read, after which the others come
abbrev pub invariant-segments : goal.invariant-segments
invariant-segments l =
    (done : List ℕ) × (l.copy.items ≡ take l.most done) × ((done ++ joined l.rest) ++ text_in (l.self-inside.file) ≡ text_in l.self)

abbrev pub decreases-segments : goal.decreases-segments
decreases-segments l = length l.rest
