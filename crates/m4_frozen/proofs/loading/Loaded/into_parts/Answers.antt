use Rattle.std.proofs.Common.{rules}
use Rattle.m4_frozen.proofs.loading.Loaded.into_parts.Goals as goal

pub returns : goal.returns
returns c = search rules
