-- Before the first byte the state is empty.
use Rattle.std.proofs.Common.{refl}
use Rattle.m4_frozen.proofs.ReadOn.{has_read_nothing}
use Rattle.m4_frozen.proofs.loading.Loading.new.Goals as goal

pub returns : goal.returns
returns c = has_read_nothing _ c.in_ok-empty.ensures c.new.ensures.items refl refl
