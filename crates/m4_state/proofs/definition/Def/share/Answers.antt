use Rattle.std.proofs.Common.{rules}
use Rattle.m4_state.proofs.definition.Def.share.Goals as goal

pub returns-in_ok-share-in-Placeholder : goal.returns-in_ok-share-in-Placeholder
returns-in_ok-share-in-Placeholder c = search rules
