use Rattle.std.proofs.Common.{◌≡◌, ◌≤◌, length}
use Rattle.m4_input.specs.Text.{text_in, text_after}
use Rattle.m4_input.specs.TextView.{view_of, IsCounted}
use Rattle.m4_input.proofs.text.Text.consume_across.Given as goal

-- what is left to be consumed, of the text that is left
abbrev pub invariant-segments : goal.invariant-segments
invariant-segments l = (text_after l.left (view_of l.self-inside) ≡ text_after l.n l.fn.self)
    × (l.left ≤ length (text_in (view_of l.self-inside))) × IsCounted l.self-inside

abbrev pub decreases-segments : goal.decreases-segments
decreases-segments l = length (l.self-inside).below.items
