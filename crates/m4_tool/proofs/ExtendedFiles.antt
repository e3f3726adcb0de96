-- The sources of a run, by the files of its line: those that its files may have been extend what was read.
use Rattle.std.proofs.Common.{◌≡◌, Bool, true, false, List, [], ◌∷◌, ◌++◌, ℕ, map, get_or, drop, Option, Some, None}
use Rattle.std.proofs.Common.{refl, sym, ap, ◌∙◌, subst, append_assoc, append-nil}
use Rattle.std.specs.Prelude.{option_map, unwrap_or}
use Rattle.m4_state.specs.Device.{Script, after_bytes}
use Rattle.m4_engine.specs.declared.options.Options.{Options}
use Rattle.m4_engine.specs.declared.source.Source.{Source as RunSource}
use Rattle.m4_engine.specs.declared.source.Source.TheVariants as sources
use Rattle.m4_engine.specs.File.{Source, Opened, Unopened}
use Rattle.m4_engine.specs.RunSources.{AllConsumeOnly, ConsumesOnly, ExtendSources, ExtendsOpened, ExtendsRead}
use Rattle.m4_engine.specs.RunSources.{ExtendsSource}
use Rattle.m4_tool.specs.Line.{source_name, LineResult, Missing, Request, Starts, Thawed, all_of, file_source}
use Rattle.m4_tool.specs.Line.{input_after, line_result, result_by, script_at, sources_in, thaw_in, words_of}
use Rattle.m4_tool.specs.Known.{ExtendFiles, ExtendsFile, MayGive}
use Rattle.m4_tool.specs.LineRun.{NamedSource, named_in, named_of}
use Rattle.m4_tool.specs.World.{Files}
use Rattle.m4_tool.proofs.OpenedFiles.{all_there}
use Rattle.m4_engine.proofs.Cases.{whole}

-- what was read of a reader, and the rest
read_extends : (before after : Script) (x more : List ℕ)
    → before ≡ record { bytes = x ++ after.bytes; fails = after.fails } → (before.fails ≡ false → more ≡ [])
    → ExtendsRead before after (before.bytes ++ more)
read_extends before after x more e h = record {
  taken = x;
  more = after.bytes ++ more;
  given = ap (λ (s : Script). s.bytes) e;
  begins = ap (λ (s : Script). s.bytes ++ more) e ∙ append_assoc x after.bytes more;
  ended = λ a b. ap (λ (bs : List ℕ). bs ++ more) a ∙ h (ap (λ (s : Script). s.fails) e ∙ b);
}

opened_extends : (name m : List ℕ) (given : Script) (before after : Option Script) (x : List ℕ) (s : Source) → m ≡ name
    → before ≡ Some given → before ≡ after_bytes x after → ExtendsFile name (Some given) s → ExtendsOpened m before after s
opened_extends name m given None after x s n b e h = absurd cc
opened_extends name m given (Some p) None x s n b e h = absurd cc
opened_extends name m given (Some p) (Some q) x s n b e h =
    let same : p ≡ given = ap (λ (o : Option Script). unwrap_or o p) b in
    let is : p ≡ record { bytes = x ++ q.bytes; fails = q.fails } = ap (λ (o : Option Script). unwrap_or o p) e in
    let r = read_extends p q x h.0 is (λ f. h.2 (sym (ap (λ (t : Script). t.fails) same) ∙ f)) in
    subst (λ (t : Source). ExtendsOpened m (Some p) (Some q) t) (sym h.1)
    (sym n, subst (λ (t : Script). ExtendsRead p q (t.bytes ++ h.0)) same r)

one_extends : {R : Type 0} (script : R → Option Script) (name : List ℕ) (given : Option Script) (x y : RunSource R) (s : Source)
    → named_of script x ≡ record { name = name; script = option_map (λ t. Some t) given } → ConsumesOnly script x y
    → ExtendsFile name given s → ExtendsSource script x y s
one_extends script name None (sources.Opened m r) y s e c h =
    absurd (let k : Some (script r) ≡ None = ap (λ (t : NamedSource). t.script) e in cc)
one_extends script name (Some t) (sources.Opened m r) (sources.Unopened k) s e c h = absurd c
one_extends script name (Some t) (sources.Opened m r) (sources.Opened k q) s e c h =
    opened_extends name m t (script r) (script q) c.1.0 s (ap (λ (u : NamedSource). u.name) e)
    (ap (λ (u : NamedSource). unwrap_or u.script None) e) c.1.1 h
one_extends script name None (sources.Unopened m) y s e c h = h ∙ ap Unopened (sym (ap (λ (u : NamedSource). u.name) e))
one_extends script name (Some t) (sources.Unopened m) y s e c h =
    absurd (let k : None ≡ Some (Some t) = ap (λ (u : NamedSource). u.script) e in cc)

-- sources that the files of a line may have been extend what a run read of its sources
pub all_extend : {R : Type 0} (script : R → Option Script) (files : Files) (input : Script) (names : List (List ℕ))
    (xs ys : List (RunSource R)) (ss : List Source)
    → map (named_of script) xs ≡ named_in files input names → AllConsumeOnly script xs ys → ExtendFiles files input names ss → ExtendSources script xs ys ss
all_extend script files input [] [] [] [] e c h = tt
all_extend script files input [] [] [] (s ∷ ss) e c h = absurd h
all_extend script files input [] [] (y ∷ ys) ss e c h = absurd c
all_extend script files input [] (x ∷ xs) ys ss e c h = absurd cc
all_extend script files input (n ∷ ns) [] ys ss e c h = absurd cc
all_extend script files input (n ∷ ns) (x ∷ xs) [] ss e c h = absurd c
all_extend script files input (n ∷ ns) (x ∷ xs) (y ∷ ys) [] e c h = absurd h
all_extend script files input (n ∷ ns) (x ∷ xs) (y ∷ ys) (s ∷ ss) e c h = (
  one_extends script (source_name n) (script_at files input n) x y s (ap (λ (l : List NamedSource). get_or l 0 (named_of script x)) e) c.0 h.0,
  all_extend script files (input_after input n) ns xs ys ss (ap (λ (l : List NamedSource). drop 1 l) e) c.1 h.1,
)

-- the sources of a line whose readers don't fail
whole_there : (name bytes : List ℕ) (fails : Bool) (s : Source) → whole name bytes fails ≡ Some s
    → (more : List ℕ) × (s ≡ Opened name (bytes ++ more)) × (fails ≡ false → more ≡ [])
whole_there name bytes true s e = absurd cc
whole_there name bytes false s e = ([], ap (λ (o : Option Source). unwrap_or o s) (sym e) ∙ ap (Opened name) (sym (append-nil bytes)), λ _. refl)

file_there : (name : List ℕ) (given : Option Script) (s : Source) → file_source name given ≡ Some s → ExtendsFile name given s
file_there name None s e = ap (λ (o : Option Source). unwrap_or o s) (sym e)
file_there name (Some script) s e = whole_there name script.bytes script.fails s e

files_there : (files : Files) (input : Script) (names : List (List ℕ)) (ss : List Source)
    → sources_in files input names ≡ map Some ss → ExtendFiles files input names ss
files_there files input [] [] e = tt
files_there files input [] (s ∷ ss) e = absurd cc
files_there files input (n ∷ ns) [] e = absurd cc
files_there files input (n ∷ ns) (s ∷ ss) e = (
  file_there (source_name n) (script_at files input n) s (ap (λ (l : List (Option Source)). get_or l 0 None) e),
  files_there files (input_after input n) ns ss (ap (λ (l : List (Option Source)). drop 1 l) e),
)

-- there are some, whatever fails
abbrev given_source : List ℕ → Option Script → Source
given_source name None = Unopened name
given_source name (Some script) = Opened name script.bytes

file_given : (name : List ℕ) (given : Option Script) → ExtendsFile name given (given_source name given)
file_given name None = refl
file_given name (Some script) = ([], ap (Opened name) (sym (append-nil script.bytes)), λ _. refl)

pub files_given : (files : Files) (input : Script) (names : List (List ℕ)) → (ss : List Source) × ExtendFiles files input names ss
files_given files input [] = ([], tt)
files_given files input (n ∷ ns) =
    let rest = files_given files (input_after input n) ns in
    (given_source (source_name n) (script_at files input n) ∷ rest.0, (file_given (source_name n) (script_at files input n), rest.1))

-- the result of a line is one that it may give
given_by : (start : Thawed) (o : Options) (file : List ℕ) (files : Files) (input : Script) (names : List (List ℕ)) (all : Option (List Source)) (r : LineResult)
    → all_of (sources_in files input names) ≡ all → result_by start o file all ≡ Some r
    → (ss : List Source) × ExtendFiles files input names ss × (result_by start o file (Some ss) ≡ Some r)
given_by (Missing name) o file files input names all r a e =
    let some = files_given files input names in (some.0, some.1, e)
given_by (Starts frozen) o file files input names None r a e = absurd cc
given_by (Starts frozen) o file files input names (Some ss) r a e =
    (ss, files_there files input names ss (all_there (sources_in files input names) ss a), e)

pub line_given : (q : Request) (files : Files) (input : Script) (r : LineResult) → line_result q files input ≡ Some r → MayGive q files input r
line_given q files input r e =
    given_by (thaw_in files q.reload) q.options (unwrap_or q.reload []) files input (words_of q.names)
    (all_of (sources_in files input (words_of q.names))) r refl e
