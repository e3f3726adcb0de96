-- The files before a place were opened, and the rest are to be.
use Rattle.std.proofs.Common.{◌≡◌, Some, false}
use Rattle.std.specs.Prelude.{string_bytes}
use Rattle.m4_state.specs.Device.{Script}
use Rattle.m4_tool.specs.World.{Files}
use Rattle.m4_tool.proofs.OpenedFiles.{Opening}
use Rattle.m4_tool.proofs.follow.opening.opened_files.Given as goal

abbrev pub invariant-loop-file : goal.invariant-loop-file
invariant-loop-file g l =
    (g.W.World.files l.world ≡ g.W.World.files l.fn.world)
    × (g.W.World.making l.world ≡ g.W.World.making l.fn.world)
    × (g.W.World.failures l.world ≡ g.W.World.failures l.fn.world)
    × (g.W.World.kept l.world ≡ g.W.World.kept l.fn.world)
    × ((fs : Files) (input : Script) → g.W.World.making l.fn.world ≡ false → g.W.World.files l.fn.world ≡ Some fs → g.W.World.input l.fn.world ≡ Some input
    → Opening g.W.Reader.ByteSource.script string_bytes fs input l.files l.file-index l.sources.items (g.W.World.input l.world))
