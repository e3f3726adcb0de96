-- The bytes of a byte string, wherever they are.
-- Not believed: it only views the code's storage as one list.
use Rattle.std.specs.Prelude.{ℕ, List}
use Rattle.m4_state.specs.declared.bytes.Kept.{Kept}
use Rattle.m4_state.specs.declared.bytes.Kept.TheVariants.{Short, Own, Shared}

abbrev pub bytes_of : Kept → List ℕ
bytes_of (Short bytes) = bytes
bytes_of (Own bytes) = bytes.items
bytes_of (Shared part) = part
