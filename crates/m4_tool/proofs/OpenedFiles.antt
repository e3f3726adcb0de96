-- The files of a line, opened in order, and the start of its run.
use Rattle.std.proofs.Common.{◌≡◌, ◌<◌, ◌≤◌, ℕ, ◌+◌, List, [], ◌∷◌, ◌++◌, length, get_or, drop, map, Option, Some}
use Rattle.std.proofs.Common.{None, refl, sym, ap, ◌∙◌, subst, append_assoc, append-nil}
use Rattle.std.specs.Prelude.{option_map, unwrap_or}
use Rattle.std.proofs.lemmas.List.{map-append, drop_all}
use Rattle.m4_state.specs.Device.{Script}
use Rattle.m4_engine.specs.declared.options.Options.{Options}
use Rattle.m4_engine.specs.declared.source.Source.{Source as RunSource}
use Rattle.m4_engine.specs.File.{Source}
use Rattle.m4_engine.specs.Run.{run}
use Rattle.m4_engine.specs.RunSources.{DescribesFrozen}
use Rattle.m4_tool.specs.World.{Files}
use Rattle.m4_tool.specs.Line.{LineResult, all_of, input_after, result_by, result_of_run, thaw_in}
use Rattle.m4_tool.specs.Line.{unreloaded}
use Rattle.m4_tool.specs.LineRun.{NamedSource, named_at, named_in, named_of}
use Rattle.m4_tool.proofs.Places.{at_place}
use Rattle.m4_tool.proofs.Cases.{and_then, thawed_by}

-- the files before a place were opened
pub record Opening {R A : Type 0} (script : R → Option Script) (bytes_of : A → List ℕ) (files : Files) (input : Script)
    (names : List A) (i : ℕ) (sources : List (RunSource R)) (now : Option Script) : Type 0 where
  pub left : Script
  pub is : now ≡ Some left
  pub are : map (named_of script) sources ++ named_in files left (map bytes_of (drop i names)) ≡ named_in files input (map bytes_of names)

pub one_opened : {R A : Type 0} (script : R → Option Script) (bytes_of : A → List ℕ) (files : Files) (input : Script)
    (names : List A) (i : ℕ) (sources : List (RunSource R)) (now now' : Option Script) (s : RunSource R) (d : A)
    → i < length names → (o : Opening script bytes_of files input names i sources now)
    → named_of script s ≡ named_at files o.left (bytes_of (get_or names i d)) → now' ≡ Some (input_after o.left (bytes_of (get_or names i d)))
    → Opening script bytes_of files input names (i + 1) (sources ++ s ∷ []) now'
one_opened {A = A} script bytes_of files input names i sources now now' s d lt o t e =
    let n : List ℕ = bytes_of (get_or names i d) in
    let rest : List (List ℕ) = map bytes_of (drop (i + 1) names) in
    record {
      left = input_after o.left n;
      is = e;
      are = ap (λ (xs : List NamedSource). xs ++ named_in files (input_after o.left n) rest) (map-append (named_of script) sources (s ∷ []))
          ∙ append_assoc (map (named_of script) sources) (named_of script s ∷ []) (named_in files (input_after o.left n) rest)
          ∙ ap (λ (x : NamedSource). map (named_of script) sources ++ x ∷ named_in files (input_after o.left n) rest) t
          ∙ ap (λ (ns : List A). map (named_of script) sources ++ named_in files o.left (map bytes_of ns)) (sym (at_place names i d lt))
          ∙ o.are;
    }

pub all_opened : {R A : Type 0} (script : R → Option Script) (bytes_of : A → List ℕ) (files : Files) (input : Script)
    (names : List A) (i : ℕ) (sources : List (RunSource R)) (now : Option Script)
    → length names ≤ i → Opening script bytes_of files input names i sources now → map (named_of script) sources ≡ named_in files input (map bytes_of names)
all_opened {A = A} script bytes_of files input names i sources now le o =
    sym (append-nil (map (named_of script) sources))
    ∙ ap (λ (ns : List A). map (named_of script) sources ++ named_in files o.left (map bytes_of ns))
    (sym (drop_all i names le)) ∙ o.are

-- all of the sources
some_and : (s : Option Source) (xs : List (Option Source)) (rest : Option (List Source)) (ss : List Source)
    → ((ts : List Source) → rest ≡ Some ts → xs ≡ map Some ts) → and_then s rest ≡ Some ss → s ∷ xs ≡ map Some ss
some_and None xs rest ss h e = absurd cc
some_and (Some s) xs None ss h e = absurd cc
some_and (Some s) xs (Some ts) ss h e =
    ap (λ (ys : List (Option Source)). Some s ∷ ys) (h ts refl) ∙ ap (λ (o : Option (List Source)). map Some (unwrap_or o [])) e

pub all_there : (xs : List (Option Source)) (ss : List Source) → all_of xs ≡ Some ss → xs ≡ map Some ss
all_there [] ss e = ap (λ (o : Option (List Source)). map Some (unwrap_or o [])) e
all_there (x ∷ xs) ss e = some_and x xs (all_of xs) ss (λ ts f. all_there xs ts f) e

-- a line without a frozen file has the result of a run
pub fresh_result : (files : Files) (reload : Option (List ℕ)) (o : Options) (file : List ℕ) (ss : List Source)
    (r : LineResult) → reload ≡ None → result_by (thaw_in files reload) o file (Some ss) ≡ Some r
    → result_of_run file (run o None ss) ≡ r
fresh_result files None o file ss r k e = ap (λ (p : Option LineResult). unwrap_or p (result_of_run file (run o None ss))) e
fresh_result files (Some name) o file ss r k e = absurd cc

-- so has a line whose frozen file was opened
pub record Reloads {R : Type 0} (script : R → Option Script) (reader : R) (o : Options) (file : List ℕ) (ss : List Source) (r : LineResult) : Type 0 where
  pub frozen : Option Script
  pub describes : DescribesFrozen script (Some reader) frozen
  pub result : result_of_run file (run o frozen ss) ≡ r

pub reloads_so : {R : Type 0} (script : R → Option Script) (reader : R) (name : List ℕ) (given : Option Script)
    (o : Options) (file : List ℕ) (ss : List Source) (r : LineResult)
    → Some (script reader) ≡ option_map (λ s. Some s) given → result_by (thawed_by name given) o file (Some ss) ≡ Some r → Reloads script reader o file ss r
reloads_so script reader name None o file ss r e l = absurd cc
reloads_so script reader name (Some s) o file ss r e l = record {
  frozen = Some s;
  describes = (s, ap (λ (p : Option (Option Script)). unwrap_or p None) e, refl);
  result = ap (λ (p : Option LineResult). unwrap_or p (result_of_run file (run o (Some s) ss))) l;
}

-- a line whose frozen file can't be opened
pub missing_so : (name : List ℕ) (given : Option Script) (o : Options) (file : List ℕ) (all : Option (List Source)) (r : LineResult)
    → None ≡ option_map (λ s. let p : Option Script = Some s in p) given → result_by (thawed_by name given) o file all ≡ Some r → unreloaded name ≡ r
missing_so name None o file all r e l = ap (λ (p : Option LineResult). unwrap_or p (unreloaded name)) l
missing_so name (Some s) o file all r e l = absurd cc

-- the frozen file by its name
pub thawed_at : (files : Files) (reload : Option (List ℕ)) (name : List ℕ) (o : Options) (file : List ℕ)
    (all : Option (List Source)) (r : LineResult) → reload ≡ Some name
    → result_by (thaw_in files reload) o file all ≡ Some r → result_by (thawed_by name (files name)) o file all ≡ Some r
thawed_at files None name o file all r k e = absurd cc
thawed_at files (Some m) name o file all r k e =
    let same : m ≡ name = ap (λ (p : Option (List ℕ)). unwrap_or p []) k in
    subst (λ (x : List ℕ). result_by (thawed_by x (files x)) o file all ≡ Some r) same e
