-- FollowedCalls: how the run of a line ended, and a call of `follow` by what it was given and what it left.
use Rattle.std.proofs.Common.{◌≡◌, ℕ, Bool, true, false, List, Option, Some, None, refl, sym, ap, ◌∙◌, subst}
use Rattle.std.specs.Prelude.{option_map, unwrap_or}
use Rattle.m4_state.specs.Device.{Script}
use Rattle.m4_state.specs.State.{IsSized}
use Rattle.m4_engine.specs.declared.options.Options.{Options}
use Rattle.m4_engine.specs.declared.ending.Cause.TheVariants as causes
use Rattle.m4_engine.specs.declared.ending.Ending.{Ending}
use Rattle.m4_engine.specs.Carries.{frozen_state}
use Rattle.m4_engine.specs.File.{Source}
use Rattle.m4_engine.specs.Run.{run}
use Rattle.m4_engine.specs.RunSources.{DescribesFrozen}
use Rattle.m4_engine.specs.Start.{start_of}
use Rattle.m4_engine.specs.WholeRun.{WroteAll}
use Rattle.m4_engine.specs.Writers.{writers}
use Rattle.m4_tool.specs.declared.followed.Failure.{Failure}
use Rattle.m4_tool.specs.FollowPromises.{EndsRun}
use Rattle.m4_tool.specs.Line.{LineResult, Missing, Request, Starts, Thawed, thaw_in}
use Rattle.m4_tool.specs.LineEnd.{Follows, Seen, failure_of}
use Rattle.m4_tool.specs.LineRun.{Closes, RanBy, failure_after}
use Rattle.m4_tool.specs.World.{Files}
use Rattle.m4_tool.proofs.LineEnds.{seen_from, wrote_all}
use Rattle.m4_tool.proofs.Cases.{thawed_by}

-- a run that was not begun did not read everything
pub never_done : {P : Type 0} (e : Ending) → e ≡ record { status = 1; cause = causes.OutOfMemory; wrapped = false } → e.cause ≡ causes.Done → P
never_done e is d = absurd (let k : causes.OutOfMemory ≡ causes.Done = sym (ap (λ (x : Ending). x.cause) is) ∙ d in cc)

none_before : (f : Option Failure) (b : Bool) → failure_after f b ≡ None → f ≡ None
none_before None b e = refl
none_before (Some f) b e = absurd cc

-- nothing failed: the run ended as it is defined
pub ends_run : (o : Options) (script : Option Script) (ss : List Source) (name file : List ℕ) (e : Ending) (status : ℕ) (failure : Option Failure) (w v : Seen)
    → RanBy name (run o script ss) e w → Closes file e status failure v → failure ≡ None
    → (e.cause ≡ causes.Done → o.freeze ≡ true → IsSized (frozen_state o (start_of o.prefix script) ss))
    → EndsRun o script ss e
ends_run o script ss name file e status failure w v r k n z =
    let none : failure_of e.cause k.flushed ≡ None = none_before (failure_of e.cause k.flushed) k.is_reported (sym k.failed ∙ n) in
    let g : WroteAll (run o script ss) e (writers w.out_old w.out_new w.messages_old w.messages_new) =
    wrote_all e.cause k.flushed (run o script ss) e (writers w.out_old w.out_new w.messages_old w.messages_new) none r.gives in
    record { reason = g.reason; status = g.status; wrapped = g.wrapped; sized = z }

pub ends_as : (o : Options) (script : Option Script) (ss : List Source) (e e' : Ending) → e' ≡ e → EndsRun o script ss e → EndsRun o script ss e'
ends_as o script ss e e' k h = subst (λ (x : Ending). EndsRun o script ss x) (sym k) h

-- the start of a line's run
abbrev start_file : Thawed → Option Script
start_file (Starts file) = file
start_file (Missing name) = None

pub fresh_start : (files : Files) (reload : Option (List ℕ)) (script : Option Script) → reload ≡ None → thaw_in files reload ≡ Starts script → script ≡ None
fresh_start files None script k e = sym (ap start_file e)
fresh_start files (Some name) script k e = absurd cc

thawed_same : (files : Files) (reload : Option (List ℕ)) (name : List ℕ) → reload ≡ Some name → thaw_in files reload ≡ thawed_by name (files name)
thawed_same files reload name k = ap (thaw_in files) k

opened_by : {R : Type 0} (script_of : R → Option Script) (reader : R) (name : List ℕ) (given : Option Script) (script : Option Script)
    → Some (script_of reader) ≡ option_map (λ s. Some s) given → thawed_by name given ≡ Starts script → DescribesFrozen script_of (Some reader) script
opened_by script_of reader name None script e t = absurd cc
opened_by script_of reader name (Some s) script e t =
    (s, ap (λ (p : Option (Option Script)). unwrap_or p None) e, sym (ap start_file t))

pub opened_start : {R : Type 0} (script_of : R → Option Script) (reader : R) (files : Files) (reload : Option (List ℕ)) (name : List ℕ) (script : Option Script)
    → reload ≡ Some name → Some (script_of reader) ≡ option_map (λ s. Some s) (files name)
    → thaw_in files reload ≡ Starts script → DescribesFrozen script_of (Some reader) script
opened_start script_of reader files reload name script k e t =
    opened_by script_of reader name (files name) script e (sym (thawed_same files reload name k) ∙ t)

missing_by : {P : Type 0} (name : List ℕ) (given : Option Script) (script : Option Script)
    → None ≡ option_map (λ s. let p : Option Script = Some s in p) given → thawed_by name given ≡ Starts script → P
missing_by name None script e t = absurd cc
missing_by name (Some s) script e t = absurd cc

pub missing_start : {P : Type 0} (files : Files) (reload : Option (List ℕ)) (name : List ℕ) (script : Option Script)
    → reload ≡ Some name → None ≡ option_map (λ s. let p : Option Script = Some s in p) (files name) → thaw_in files reload ≡ Starts script → P
missing_start files reload name script k e t =
    missing_by name (files name) script e (sym (thawed_same files reload name k) ∙ t)

-- a line that was followed, with what its world and its writers are known to contain
pub follows_by : (q : Request) (r : LineResult) (status : ℕ) (failure : Option Failure) (a a' b b' : Option (List ℕ))
    (f f' : ℕ) (u u' : Option Files) (o o' m m' : List ℕ) (w w' : Files)
    → a ≡ Some o → a' ≡ Some o' → b ≡ Some m → b' ≡ Some m' → u ≡ Some w → u' ≡ Some w'
    → Follows q r status failure (seen_from a a' b b' f f' u u')
    → Follows q r status failure (seen_from (Some o) (Some o') (Some m) (Some m') f f' (Some w) (Some w'))
follows_by q r status failure a a' b b' f f' u u' o o' m m' w w' i i' j j' k k' h =
    subst (λ (x : Option Files). Follows q r status failure (seen_from (Some o) (Some o') (Some m) (Some m') f f' (Some w) x)) k'
    (subst (λ (x : Option Files). Follows q r status failure (seen_from (Some o) (Some o') (Some m) (Some m') f f' x u')) k
    (subst (λ (x : Option (List ℕ)). Follows q r status failure (seen_from (Some o) (Some o') (Some m) x f f' u u')) j'
    (subst (λ (x : Option (List ℕ)). Follows q r status failure (seen_from (Some o) (Some o') x b' f f' u u')) j
    (subst (λ (x : Option (List ℕ)). Follows q r status failure (seen_from (Some o) x b b' f f' u u')) i'
    (subst (λ (x : Option (List ℕ)). Follows q r status failure (seen_from x a' b b' f f' u u')) i h)))))
