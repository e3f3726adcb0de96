use Rattle.std.proofs.Common.{eqb, w8, arith}
use Rattle.std.proofs.lemmas.Simd.{bitmask_splat}
use Rattle.m4_state.proofs.lanes.equal_marks.Goals as goal

pub returns : goal.returns
returns c = bitmask_splat w8 eqb c.args.lanes 16 c.args.byte c.fits-lanes.0 (omega arith)
