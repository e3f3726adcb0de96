-- The law, from `ThreeCalls`.
use Rattle.m4_tool.proofs.ThreeCalls as law
use Rattle.m4_tool.proofs.laws.three_lines.Goals as goal

pub returns : goal.returns
returns c = law.three_lines
