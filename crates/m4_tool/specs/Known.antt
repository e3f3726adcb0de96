-- Known: what is known of a world, and the results that a line may give in it if readers of its files fail.
-- Believed: public contracts cite it. Words: KnowsFiles, Knows, ExtendFiles, MayGive, AnyFails.
use Rattle.std.specs.Prelude.{◌≡◌, ◌⊎◌, ℕ, Bool, true, false, List, [], ◌∷◌, ◌++◌, Option, Some, None}
use Rattle.m4_state.specs.Device.{Script}
use Rattle.m4_engine.specs.File.{Source, Opened, Unopened}
use Rattle.m4_tool.specs.Line.{LineResult, Request, input_after, reload_name, result_by, script_at, source_name}
use Rattle.m4_tool.specs.Line.{thaw_in, words_of}
use Rattle.m4_tool.specs.World.{Files}

-- the world has these files, by the functions of its trait, and has made none yet
abbrev pub KnowsFiles : {W : Type 0} → (W → Bool) → (W → Option Files) → W → Files → Type 0
KnowsFiles making of_files world files = (making world ≡ false) × (of_files world ≡ Some files)

-- the same, and its standard input is known too
abbrev pub Knows : {W : Type 0} → (W → Bool) → (W → Option Files) → (W → Option Script) → W → Files → Script → Type 0
Knows making of_files of_input world files input =
    KnowsFiles making of_files world files × (of_input world ≡ Some input)

-- a source that a file may have been: with its bytes or, if its reader fails, with any that begin with them
abbrev pub ExtendsFile : List ℕ → Option Script → Source → Type 0
ExtendsFile name None s = s ≡ Unopened name
ExtendsFile name (Some script) s =
    (more : List ℕ) × (s ≡ Opened name (script.bytes ++ more)) × (script.fails ≡ false → more ≡ [])

-- sources that the words may have been, in order
abbrev pub ExtendFiles : Files → Script → List (List ℕ) → List Source → Type 0
ExtendFiles files input [] [] = Unit {0}
ExtendFiles files input (name ∷ names) (s ∷ ss) =
    ExtendsFile (source_name name) (script_at files input name) s × ExtendFiles files (input_after input name) names ss
ExtendFiles files input names ss = ⊥

-- a result that a line may give: that of a run over sources that its files may have been
abbrev pub MayGive : Request → Files → Script → LineResult → Type 0
MayGive q files input r =
    (ss : List Source) × ExtendFiles files input (words_of q.names) ss
    × (result_by (thaw_in files q.reload) q.options (reload_name q) (Some ss) ≡ Some r)

-- a file is there, and its reader fails
abbrev pub DoesFail : Option Script → Type 0
DoesFail None = ⊥
DoesFail (Some script) = script.fails ≡ true

-- the reader of one of these words fails
abbrev pub AnyFails : Files → Script → List (List ℕ) → Type 0
AnyFails files input [] = ⊥
AnyFails files input (name ∷ names) =
    DoesFail (script_at files input name) ⊎ AnyFails files (input_after input name) names
