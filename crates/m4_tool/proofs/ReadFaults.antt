-- ReadFaults: a line whose run ends by a read fault has a file whose reader fails.
use Rattle.std.proofs.Common.{◌≡◌, Bool, true, false, List, [], ◌∷◌, ◌++◌, ℕ, map, get_or, drop, Option, Some, None}
use Rattle.std.proofs.Common.{inl, inr, refl, sym, ap, ◌∙◌, subst}
use Rattle.std.specs.Prelude.{option_map, unwrap_or}
use Rattle.m4_state.specs.Device.{Script, after_bytes, IsAtFault}
use Rattle.m4_frozen.specs.declared.fault.FrozenKind.{FrozenKind}
use Rattle.m4_frozen.specs.declared.fault.FrozenKind.TheVariants as kinds
use Rattle.m4_engine.specs.declared.ending.Cause.{Cause}
use Rattle.m4_engine.specs.declared.ending.Cause.TheVariants as causes
use Rattle.m4_engine.specs.declared.ending.Ending.{Ending}
use Rattle.m4_engine.specs.declared.source.Source.{Source as RunSource}
use Rattle.m4_engine.specs.declared.source.Source.TheVariants as sources
use Rattle.m4_engine.specs.RunSources.{AllConsumeOnly, AnyFailed, ConsumesOnly, HasFailed, ReadersFailBy}
use Rattle.m4_tool.specs.declared.followed.Failure.{Failure}
use Rattle.m4_tool.specs.declared.followed.Failure.TheVariants as failures
use Rattle.m4_tool.specs.Line.{input_after, script_at, source_name}
use Rattle.m4_tool.specs.Known.{AnyFails, DoesFail}
use Rattle.m4_tool.specs.LineEnd.{Seen, failure_of, frozen_failure}
use Rattle.m4_tool.specs.LineRun.{Closes, NamedSource, failure_after, named_in, named_of}
use Rattle.m4_tool.specs.World.{Files}

-- a reader whose bytes are known failed after them
fails_so : (before after : Option Script) (x : List ℕ) (given : Script) → before ≡ Some given
    → before ≡ after_bytes x after → IsAtFault after → given.fails ≡ true
fails_so before None x given b e f = absurd (let k : None ≡ Some given = sym e ∙ b in cc)
fails_so before (Some s) x given b e f =
    let k : Some given ≡ Some (record { bytes = x ++ s.bytes; fails = s.fails }) = sym b ∙ e in
    ap (λ (o : Option Script). (unwrap_or o given).fails) k ∙ f.1

one_fails : {R : Type 0} (script : R → Option Script) (count : R → ℕ) (name : List ℕ) (given : Option Script) (x y : RunSource R)
    → named_of script x ≡ record { name = name; script = option_map (λ t. Some t) given } → ConsumesOnly script x y
    → HasFailed script count x y → DoesFail given
one_fails script count name None (sources.Opened m r) y e c h =
    absurd (let k : Some (script r) ≡ None = ap (λ (t : NamedSource). t.script) e in cc)
one_fails script count name (Some t) (sources.Opened m r) (sources.Unopened k) e c h = absurd c
one_fails script count name (Some t) (sources.Opened m r) (sources.Opened k q) e c h =
    fails_so (script r) (script q) c.1.0 t (ap (λ (u : NamedSource). unwrap_or u.script None) e) c.1.1 h.1
one_fails script count name given (sources.Unopened m) y e c h = absurd h

any_fails : {R : Type 0} (script : R → Option Script) (count : R → ℕ) (files : Files) (input : Script) (names : List (List ℕ)) (xs ys : List (RunSource R))
    → map (named_of script) xs ≡ named_in files input names → AllConsumeOnly script xs ys → AnyFailed script count xs ys → AnyFails files input names
any_fails script count files input names [] ys e c h = absurd h
any_fails script count files input [] (x ∷ xs) ys e c h = absurd cc
any_fails script count files input (n ∷ ns) (x ∷ xs) [] e c h = absurd h
any_fails script count files input (n ∷ ns) (x ∷ xs) (y ∷ ys) e c (inl h) =
    inl (one_fails script count (source_name n) (script_at files input n) x y (ap (λ (l : List NamedSource). get_or l 0 (named_of script x)) e) c.0 h)
any_fails script count files input (n ∷ ns) (x ∷ xs) (y ∷ ys) e c (inr h) =
    inr (any_fails script count files (input_after input n) ns xs ys (ap (λ (l : List NamedSource). drop 1 l) e) c.1 h)

pub run_fails : {R : Type 0} (script : R → Option Script) (count : R → ℕ) (files : Files) (input : Script)
    (names : List (List ℕ)) (xs ys : List (RunSource R)) (cause : Cause)
    → map (named_of script) xs ≡ named_in files input names → AllConsumeOnly script xs ys
    → ReadersFailBy script count cause xs ys → cause ≡ causes.Read → AnyFails files input names
run_fails script count files input names xs ys cause e c h r =
    any_fails script count files input names xs ys e c (subst (λ (k : Cause). ReadersFailBy script count k xs ys) r h)

-- a run that was not begun read nothing
pub never_read : {P : Type 0} (e : Ending) → e ≡ record { status = 1; cause = causes.OutOfMemory; wrapped = false } → e.cause ≡ causes.Read → P
never_read e is r = absurd (let k : causes.OutOfMemory ≡ causes.Read = sym (ap (λ (x : Ending). x.cause) is) ∙ r in cc)

-- a read fault is that of the run
frozen_read : (k : FrozenKind) (reported : Bool) (c : Cause) → failure_after (frozen_failure k) reported ≡ Some failures.Read → c ≡ causes.Read
frozen_read kinds.OutOfMemory reported c e = absurd cc
frozen_read k true c e = absurd cc
frozen_read k false c e = absurd cc

read_by : (c : Cause) (flushed reported : Bool) → failure_after (failure_of c flushed) reported ≡ Some failures.Read → c ≡ causes.Read
read_by causes.Read flushed reported e = refl
read_by causes.Write true reported e = absurd cc
read_by causes.OutOfMemory true reported e = absurd cc
read_by (causes.Frozen f) true reported e = frozen_read f.kind reported (causes.Frozen f) e
read_by c true true e = absurd cc
read_by c true false e = absurd cc
read_by c false reported e = absurd cc

pub closes_read : (file : List ℕ) (e : Ending) (status : ℕ) (failure : Option Failure) (w : Seen)
    → Closes file e status failure w → failure ≡ Some failures.Read → e.cause ≡ causes.Read
closes_read file e status failure w h r = read_by e.cause h.flushed h.is_reported (sym h.failed ∙ r)
