-- The end of a line, by the end of its run and by what was flushed.
use Rattle.std.proofs.Common.{◌≡◌, ◌≢◌, ℕ, Bool, true, false, List, [], ◌∷◌, ◌++◌, Option, Some, None, refl, sym, ap}
use Rattle.std.proofs.Common.{◌∙◌, subst, append-nil, ◌⊎◌, inl, inr}
use Rattle.std.specs.Prelude.{◌==◌, length, option_map, unwrap_or, Result, Ok, Err}
use Rattle.m4_state.specs.Device.{Script, with_bytes, HasBegun, Puts, count_after}
use Rattle.m4_state.specs.declared.device.DeviceFault.{DeviceFault}
use Rattle.m4_frozen.specs.declared.fault.FrozenFault.{FrozenFault}
use Rattle.m4_state.proofs.CallerLaws.{with_bytes-nil}
use Rattle.m4_frozen.specs.declared.fault.FrozenKind.{FrozenKind}
use Rattle.m4_frozen.specs.declared.fault.FrozenKind.TheVariants as kinds
use Rattle.m4_engine.specs.declared.options.Options.{Options}
use Rattle.m4_engine.specs.declared.ending.Cause.{Cause}
use Rattle.m4_engine.specs.declared.ending.Cause.TheVariants as causes
use Rattle.m4_engine.specs.declared.ending.Ending.{Ending}
use Rattle.m4_engine.specs.Expansion.{EndReason, Ends, RunSoFar}
use Rattle.m4_engine.specs.File.{Source, after_sources, cannot_open}
use Rattle.m4_engine.specs.Start.{begun, start_of}
use Rattle.m4_engine.specs.Wraps.{after_wraps}
use Rattle.m4_engine.specs.Run.{RunResult, status_of, limits_of, run, saved_after}
use Rattle.m4_engine.specs.Writers.{Contents, HasWritten, writers}
use Rattle.m4_engine.specs.WholeRun.{GivesBy, RefusedBy, WroteAll, WrotePrefix}
use Rattle.m4_tool.specs.declared.followed.Failure.{Failure}
use Rattle.m4_tool.specs.declared.followed.Failure.TheVariants as failures
use Rattle.m4_tool.specs.Failure.{failure_line, failure_lines, status_after}
use Rattle.m4_tool.specs.Line.{LineResult, refusals, refusals_by, result_of_run, unreloaded}
use Rattle.m4_tool.specs.ModeFault.{frozen_line}
use Rattle.m4_tool.specs.FailureCounts.{Grew}
use Rattle.m4_tool.specs.LineEnd.{failure_by, failure_of, frozen_failure, AsDefined, BrokeOff, EndsBy, FilesBy}
use Rattle.m4_tool.specs.LineEnd.{HasPrefix, RefusesAs, Reports, Seen, added_lines}
use Rattle.m4_tool.specs.LineRun.{refused_line, Closes, CountedBy, RanBy, RanFiles, failure_after}
use Rattle.m4_tool.specs.World.{Files, made_file}
use Rattle.m4_tool.proofs.Counts.{before_reported, grew_none, grew_one, grew_then, reported_by, reported_grew}
use Rattle.m4_engine.proofs.Cases.{result_by}

-- lines that were added after some failures
pub reports-before : (xs : List (List ℕ)) (a b : Option (List ℕ)) (f g h : ℕ) → Grew f g → Reports xs a b g h → Reports xs a b f h
reports-before [] a b f g h k p = (p.0, grew_then f g h k p.1)
reports-before (x ∷ xs) a b f g h k p = (p.0, p.1, before_reported x a p.0 f g p.1 k p.2, p.3)

-- the messages' count doesn't fall
pub reports-grew : (xs : List (List ℕ)) (a b : Option (List ℕ)) (f h : ℕ) → Reports xs a b f h → Grew f h
reports-grew [] a b f h p = p.1
reports-grew (x ∷ xs) a b f h p = grew_then f p.1 h (reported_grew x a p.0 f p.1 p.2) (reports-grew xs p.0 b p.1 h p.3)

-- lines that were added one list after the other
pub reports-append : (xs ys : List (List ℕ)) (a b c : Option (List ℕ)) (f g h : ℕ) → Reports xs a b f g → Reports ys b c g h → Reports (xs ++ ys) a c f h
reports-append [] ys a b c f g h p q =
    reports-before ys a c f g h p.1 (subst (λ (m : Option (List ℕ)). Reports ys m c g h) p.0 q)
reports-append (x ∷ xs) ys a b c f g h p q = (p.0, p.1, p.2, reports-append xs ys p.0 b c p.1 g h p.3 q)

-- a run ended without a failure, and everything was flushed
frozen_all : (k : FrozenKind) (r : RunResult) (e : Ending) (w : Contents) → frozen_failure k ≡ None → RefusedBy k r e w → WroteAll r e w
frozen_all kinds.OutOfMemory r e w n g = absurd cc
frozen_all kind r e w n g = g

pub wrote_all : (c : Cause) (b : Bool) (r : RunResult) (e : Ending) (w : Contents) → failure_of c b ≡ None → GivesBy c r e w → WroteAll r e w
wrote_all causes.Read true r e w n g = absurd cc
wrote_all causes.Write true r e w n g = absurd cc
wrote_all causes.OutOfMemory true r e w n g = absurd cc
wrote_all (causes.Frozen f) true r e w n g = frozen_all f.kind r e w n g
wrote_all cause true r e w n g = g
wrote_all (causes.Frozen f) false r e w n g = absurd cc
wrote_all c false r e w n g = absurd cc

status_all : (c : Cause) (b : Bool) (s : ℕ) → failure_of c b ≡ None → status_after (failure_of c b) s ≡ s
status_all c b s n = ap (λ (f : Option Failure). status_after f s) n

added_all : (c : Cause) (b : Bool) (file : List ℕ) → failure_of c b ≡ None → added_lines file c b ≡ refusals file c
added_all c b file n = ap (λ (f : Option Failure). refusals file c ++ failure_lines f) n ∙ append-nil (refusals file c)

counted_all : (c : Cause) (b : Bool) (f g : ℕ) → failure_of c b ≡ None → CountedBy c f g → g ≡ f
counted_all causes.Write true f g n h = absurd cc
counted_all causes.Write false f g n h = absurd cc
counted_all c b f g n h = h

-- nothing is frozen unless everything was read
pub record FreezesAtEnd (r : RunResult) : Type 0 where
  pub at_end : (r.reason ≡ Ends causes.Done) ⊎ (r.frozen ≡ None)

by_over : (over : Option EndReason) (freezes : Bool) (saved : List (List ℕ)) (so_far : RunSoFar) (m : Bool)
    → FreezesAtEnd (result_by over freezes saved so_far m)
by_over None freezes saved so_far m = record { at_end = inl refl }
by_over (Some reason) freezes saved so_far m = record { at_end = inr refl }

-- each run does
pub freezes_at_end : (o : Options) (frozen : Option Script) (ss : List Source) → FreezesAtEnd (run o frozen ss)
freezes_at_end o frozen ss =
    let p = after_wraps (limits_of o) (after_sources (limits_of o) ss (begun (start_of o.prefix frozen))) in
    by_over p.over o.freeze (saved_after ss (after_sources (limits_of o) ss (begun (start_of o.prefix frozen)))) p.so_far p.any_missing

pub none_made : (name : List ℕ) (files : Option Files) → option_map (made_file name []) files ≡ files
none_made name None = refl
none_made name (Some f) = refl

kept_made : (name : List ℕ) (frozen : Option (List ℕ)) (old new : Option Files) → frozen ≡ None → new ≡ old
    → new ≡ option_map (made_file name (unwrap_or frozen [])) old
kept_made name frozen old new n e = e ∙ sym (none_made name old) ∙ ap (λ (o : Option (List ℕ)). option_map (made_file name (unwrap_or o [])) old) (sym n)

-- whether everything was read
abbrev is_done : EndReason → Bool
is_done (Ends causes.Done) = true
is_done reason = false

not_done : (c : Cause) (r : RunResult) → is_done (Ends c) ≡ false → r.reason ≡ Ends c → FreezesAtEnd r → r.frozen ≡ None
not_done c r d e f = elim f.at_end [
  | inl k ↦ absurd (let x : true ≡ false = ap is_done (sym k ∙ e) ∙ d in cc)
  | inr k ↦ k
]

files_all : (c : Cause) (name : List ℕ) (r : RunResult) (w : Contents) (old new : Option Files) → r.reason ≡ Ends c
    → FreezesAtEnd r → failure_by c ≡ None → RanFiles c name r w old new
    → new ≡ option_map (made_file name (unwrap_or r.frozen [])) old
files_all causes.Done name r w old new e f n h = h
files_all causes.Write name r w old new e f n h = absurd cc
files_all causes.Read name r w old new e f n h = absurd cc
files_all causes.OutOfMemory name r w old new e f n h = absurd cc
files_all cause name r w old new e f n h = kept_made name r.frozen old new (not_done cause r refl e f) h

unfailed : (c : Cause) (b : Bool) → failure_of c b ≡ None → failure_by c ≡ None
unfailed causes.Read true n = absurd cc
unfailed causes.Write true n = absurd cc
unfailed causes.OutOfMemory true n = absurd cc
unfailed causes.Read false n = absurd cc
unfailed causes.Write false n = absurd cc
unfailed causes.OutOfMemory false n = absurd cc
unfailed c b n = refl

-- a prefix of what a run writes was written
pub record Prefixes (r : RunResult) (w : Contents) : Type 0 where
  pub output : HasBegun w.out_old w.out_new r.output
  pub messages : HasBegun w.messages_old w.messages_new r.messages

all_begun : (old new : Option (List ℕ)) (text : List ℕ) → new ≡ with_bytes old text → HasBegun old new text
all_begun old new text e = ([], record { front = text; parts = sym (append-nil text); holds = e })

of_all : (r : RunResult) (e : Ending) (w : Contents) → WroteAll r e w → Prefixes r w
of_all r e w g = record { output = all_begun w.out_old w.out_new r.output g.output; messages = all_begun w.messages_old w.messages_new r.messages g.messages }

of_prefix : (r : RunResult) (e : Ending) (w : Contents) → WrotePrefix r e w → Prefixes r w
of_prefix r e w g = record { output = g.output; messages = g.messages }

of_refused : (k : FrozenKind) (r : RunResult) (e : Ending) (w : Contents) → RefusedBy k r e w → Prefixes r w
of_refused kinds.OutOfMemory r e w g = of_prefix r e w g
of_refused k r e w g = of_all r e w g

prefixes : (c : Cause) (r : RunResult) (e : Ending) (w : Contents) → GivesBy c r e w → Prefixes r w
prefixes causes.Read r e w g = of_prefix r e w g
prefixes causes.Write r e w g = of_prefix r e w g
prefixes causes.OutOfMemory r e w g = of_prefix r e w g
prefixes (causes.Frozen f) r e w g = of_refused f.kind r e w g
prefixes c r e w g = of_all r e w g

made_prefix : {P : Type 0} → (name text : List ℕ) (old new : Option Files) → P
    → new ≡ option_map (made_file name text) old → (new ≡ old) ⊎ (HasPrefix name text old new × P)
made_prefix name [] old new p e = inl (e ∙ none_made name old)
made_prefix name (t ∷ ts) old new p e = inr (record { front = t ∷ ts; rest = []; parts = sym (append-nil (t ∷ ts)); files = e }, p)

-- the files after a write fault: of a run that read everything, a last flush failed
some_files : (c : Cause) (name : List ℕ) (r : RunResult) (e : Ending) (w : Contents) (old new : Option Files)
    → GivesBy c r e w → RanFiles c name r w old new
    → (new ≡ old) ⊎ (HasPrefix name (unwrap_or r.frozen []) old new × HasWritten r.output r.messages w)
some_files causes.Done name r e w old new g h = made_prefix name (unwrap_or r.frozen []) old new (record { output = g.output; messages = g.messages }) h
some_files causes.Write name r e w old new g h = h
some_files c name r e w old new g h = inl h

-- the files after a failure that is no write fault
kept_files : (c : Cause) (b : Bool) (f : Failure) (name : List ℕ) (r : RunResult) (w : Contents) (old new : Option Files)
    → failure_of c b ≡ Some f → f ≢ failures.Write → RanFiles c name r w old new → new ≡ old
kept_files causes.Done true f name r w old new e d h = absurd cc
kept_files causes.Done false f name r w old new e d h = absurd (d (ap (λ (o : Option Failure). unwrap_or o f) (sym e)))
kept_files causes.Write true f name r w old new e d h = absurd (d (ap (λ (o : Option Failure). unwrap_or o f) (sym e)))
kept_files causes.Write false f name r w old new e d h = absurd (d (ap (λ (o : Option Failure). unwrap_or o f) (sym e)))
kept_files c b f name r w old new e d h = h

-- the files by what failed
abbrev FilesIn : Failure → List ℕ → RunResult → Contents → Option Files → Option Files → Type 0
FilesIn failures.Write name r w old new = (new ≡ old) ⊎ (HasPrefix name (unwrap_or r.frozen []) old new × HasWritten r.output r.messages w)
FilesIn failure name r w old new = new ≡ old

files_fail : (f : Failure) (c : Cause) (b : Bool) (name : List ℕ) (r : RunResult) (e : Ending) (w : Contents) (old new : Option Files)
    → failure_of c b ≡ Some f → GivesBy c r e w → RanFiles c name r w old new → FilesIn f name r w old new
files_fail failures.Write c b name r e w old new n g h = some_files c name r e w old new g h
files_fail failure c b name r e w old new n g h = kept_files c b failure name r w old new n (λ k. cc) h

counted_some : (c : Cause) (f g : ℕ) → CountedBy c f g → Grew f g
counted_some causes.Write f g (inl h) = grew_none f g h
counted_some causes.Write f g (inr h) = grew_one f g h
counted_some c f g h = grew_none f g h

status_fail : (c : Cause) (b : Bool) (f : Failure) (s : ℕ) → failure_of c b ≡ Some f → status_after (failure_of c b) s ≡ 1
status_fail c b f s n = ap (λ (o : Option Failure). status_after o s) n

-- the writers and the files of a line, by those of its run and of its end
abbrev pub seen_from : Option (List ℕ) → Option (List ℕ) → Option (List ℕ) → Option (List ℕ) → ℕ → ℕ → Option Files → Option Files → Seen
seen_from o o' m m' f f' w w' = record {
  out_old = o;
  out_new = o';
  messages_old = m;
  messages_new = m';
  failures_old = f;
  failures_new = f';
  files_old = w;
  files_new = w';
}

-- the same of the line
files_seen : (f : Failure) (name file : List ℕ) (r : RunResult) (o0 o2 m0 m1 m2 : Option (List ℕ)) (f0 f2 : ℕ) (w0 w2 : Option Files)
    → FilesIn f name r (writers o0 o2 m0 m1) w0 w2 → FilesBy f name (result_of_run file r) m1 (seen_from o0 o2 m0 m2 f0 f2 w0 w2)
files_seen failures.Write name file r o0 o2 m0 m1 m2 f0 f2 w0 w2 (inl e) = inl e
files_seen failures.Write name file r o0 o2 m0 m1 m2 f0 f2 w0 w2 (inr p) = inr (record { output = p.1.output; messages = p.1.messages; file = p.0 })
files_seen f name file r o0 o2 m0 m1 m2 f0 f2 w0 w2 h = h

as_defined : (name file : List ℕ) (r : RunResult) (c : Cause) (b : Bool) (s : ℕ) (x : Bool)
    (o0 o1 o2 m0 m1 m2 : Option (List ℕ)) (f0 f1 f2 : ℕ) (w0 w1 w2 : Option Files) (status : ℕ)
    → FreezesAtEnd r → failure_of c b ≡ None
    → WroteAll r (record { status = s; cause = c; wrapped = x }) (writers o0 o1 m0 m1) → CountedBy c f0 f1
    → RanFiles c name r (writers o0 o1 m0 m1) w0 w1
    → status ≡ status_after (failure_of c b) s → o2 ≡ o1 → Reports (added_lines file c b) m1 m2 f1 f2 → w2 ≡ w1
    → AsDefined name (result_of_run file r) status (seen_from o0 o2 m0 m2 f0 f2 w0 w2)
as_defined name file r c b s x o0 o1 o2 m0 m1 m2 f0 f1 f2 w0 w1 w2 status z n g k h l o p q =
    let lines : added_lines file c b ≡ refusals_by file r.reason = added_all c b file n ∙ ap (refusals_by file) (sym g.reason) in
    let p1 = subst (λ (ls : List (List ℕ)). Reports ls m1 m2 f1 f2) lines p in
    let p2 = subst (λ (a : Option (List ℕ)). Reports (refusals_by file r.reason) a m2 f1 f2) g.messages p1 in
    record {
      is_status = l ∙ status_all c b s n ∙ g.status;
      output = o ∙ g.output;
      messages = subst (λ (f : ℕ). Reports (refusals_by file r.reason) (with_bytes m0 r.messages) m2 f f2) (counted_all c b f0 f1 n k) p2;
      files = q ∙ files_all c name r (writers o0 o1 m0 m1) w0 w1 g.reason z (unfailed c b n) h;
    }

refused_as : (file : List ℕ) (f : FrozenFault) (k : FrozenKind) (r : RunResult) (s : ℕ) (x : Bool) (w : Contents)
    → f.kind ≡ k → RefusedBy k r (record { status = s; cause = causes.Frozen f; wrapped = x }) w → RefusesAs file (causes.Frozen f) (result_of_run file r)
refused_as file f kinds.OutOfMemory r s x w h g = inl h
refused_as file f k r s x w h g = inr (sym (ap (refusals_by file) g.reason))

-- the line about a frozen file that a run refused
refuses_as : (file : List ℕ) (c : Cause) (r : RunResult) (s : ℕ) (x : Bool) (w : Contents)
    → GivesBy c r (record { status = s; cause = c; wrapped = x }) w → RefusesAs file c (result_of_run file r)
refuses_as file (causes.Frozen f) r s x w g = refused_as file f f.kind r s x w refl g
refuses_as file c r s x w g = tt

broke_off : (name file : List ℕ) (r : RunResult) (c : Cause) (b : Bool) (f : Failure) (s : ℕ) (x m : Bool)
    (o0 o1 o2 m0 m1 m2 : Option (List ℕ)) (f0 f1 f2 : ℕ) (w0 w1 w2 : Option Files) (status : ℕ)
    → failure_of c b ≡ Some f → RefusesAs file c (result_of_run file r)
    → GivesBy c r (record { status = s; cause = c; wrapped = x }) (writers o0 o1 m0 m1) → CountedBy c f0 f1
    → s ≡ status_of (Ends c) m → RanFiles c name r (writers o0 o1 m0 m1) w0 w1
    → status ≡ status_after (failure_of c b) s → o2 ≡ o1 → Reports (added_lines file c b) m1 m2 f1 f2 → w2 ≡ w1
    → BrokeOff name file (result_of_run file r) status f (seen_from o0 o2 m0 m2 f0 f2 w0 w2)
broke_off name file r c b f s x m o0 o1 o2 m0 m1 m2 f0 f1 f2 w0 w1 w2 status n d g k t h l o p q = record {
  is_status = l ∙ status_fail c b f s n;
  output = subst (λ (v : Option (List ℕ)). HasBegun o0 v r.output) (sym o)
      (prefixes c r (record { status = s; cause = c; wrapped = x }) (writers o0 o1 m0 m1) g).output;
  cause = c;
  flushed = b;
  failed = n;
  refused = d;
  begun = m1;
  messages = (prefixes c r (record { status = s; cause = c; wrapped = x }) (writers o0 o1 m0 m1) g).messages;
  count = f1;
  counted = counted_some c f0 f1 k;
  reports = p;
  files = files_seen f name file r o0 o2 m0 m1 m2 f0 f2 w0 w2
      (subst (λ (v : Option Files). FilesIn f name r (writers o0 o2 m0 m1) w0 v) (sym q)
      (subst (λ (v : Option (List ℕ)). FilesIn f name r (writers o0 v m0 m1) w0 w1) (sym o)
      (files_fail f c b name r (record { status = s; cause = c; wrapped = x }) (writers o0 o1 m0 m1) w0 w1 n g h)));
}

-- a flush and the end of a run don't fail as a report does
no_report_by : (c : Cause) → failure_by c ≡ Some failures.Report → ⊥
no_report_by causes.Read e = absurd cc
no_report_by cause e = absurd cc

no_report_frozen : (k : FrozenKind) → frozen_failure k ≡ Some failures.Report → ⊥
no_report_frozen kinds.OutOfMemory e = absurd cc
no_report_frozen kind e = absurd cc

or_write : (o : Option Failure) → (o ≡ Some failures.Report → ⊥) → Some (unwrap_or o failures.Write) ≡ Some failures.Report → ⊥
or_write None h e = absurd cc
or_write (Some f) h e = h e

pub no_report : (c : Cause) (b : Bool) → failure_of c b ≡ Some failures.Report → ⊥
no_report (causes.Frozen f) true e = no_report_frozen f.kind e
no_report (causes.Frozen f) false e = absurd cc
no_report c true e = no_report_by c e
no_report c false e = or_write (failure_by c) (no_report_by c) e

ends_by : (failure : Option Failure) (name file : List ℕ) (r : RunResult) (c : Cause) (b : Bool) (s : ℕ) (x m : Bool)
    (o0 o1 o2 m0 m1 m2 : Option (List ℕ)) (f0 f1 f2 : ℕ) (w0 w1 w2 : Option Files) (status : ℕ)
    → FreezesAtEnd r → failure ≡ failure_of c b
    → GivesBy c r (record { status = s; cause = c; wrapped = x }) (writers o0 o1 m0 m1) → CountedBy c f0 f1
    → s ≡ status_of (Ends c) m → RanFiles c name r (writers o0 o1 m0 m1) w0 w1
    → status ≡ status_after (failure_of c b) s → o2 ≡ o1 → Reports (added_lines file c b) m1 m2 f1 f2 → w2 ≡ w1
    → EndsBy failure name file (result_of_run file r) status (seen_from o0 o2 m0 m2 f0 f2 w0 w2)
ends_by None name file r c b s x m o0 o1 o2 m0 m1 m2 f0 f1 f2 w0 w1 w2 status z n g k t h l o p q =
    as_defined name file r c b s x o0 o1 o2 m0 m1 m2 f0 f1 f2 w0 w1 w2 status z (sym n)
    (wrote_all c b r (record { status = s; cause = c; wrapped = x }) (writers o0 o1 m0 m1) (sym n) g) k h l o p q
ends_by (Some failures.Report) name file r c b s x m o0 o1 o2 m0 m1 m2 f0 f1 f2 w0 w1 w2 status z n g k t h l o p q =
    absurd (no_report c b (sym n))
ends_by (Some failure) name file r c b s x m o0 o1 o2 m0 m1 m2 f0 f1 f2 w0 w1 w2 status z n g k t h l o p q =
    broke_off name file r c b failure s x m o0 o1 o2 m0 m1 m2 f0 f1 f2 w0 w1 w2 status (sym n)
    (refuses_as file c r s x (writers o0 o1 m0 m1) g) g k t h l o p q

-- the same if a line for a refused file could not be written
after_report : (failure : Option Failure) (is_reported : Bool) (name file : List ℕ) (r : LineResult) (status : ℕ)
    (w : Seen) → EndsBy failure name file r status w
    → (failure ≡ None → is_reported ≡ false → r.lines ≢ []) → EndsBy (failure_after failure is_reported) name file r status w
after_report None true name file r status w h k = h
after_report None false name file r status w h k = (h, k refl refl)
after_report (Some f) b name file r status w h k = h

-- a run that ended and was reported is the line's
pub ended : (failure : Option Failure) (name file : List ℕ) (r : RunResult) (e : Ending)
    (o0 o1 o2 m0 m1 m2 : Option (List ℕ)) (f0 f1 f2 : ℕ) (w0 w1 w2 : Option Files) (status : ℕ)
    → FreezesAtEnd r → RanBy name r e (seen_from o0 o1 m0 m1 f0 f1 w0 w1) → Closes file e status failure (seen_from o1 o2 m1 m2 f1 f2 w1 w2)
    → EndsBy failure name file (result_of_run file r) status (seen_from o0 o2 m0 m2 f0 f2 w0 w2)
ended failure name file r e o0 o1 o2 m0 m1 m2 f0 f1 f2 w0 w1 w2 status z a d =
    let h = ends_by (failure_of e.cause d.flushed) name file r e.cause d.flushed e.status e.wrapped a.any_missing o0 o1
    o2 m0 m1 m2 f0 f1 f2 w0 w1 w2 status z refl a.gives a.counted a.is_status a.files d.is_status d.output d.reports
    d.files in
    subst (λ (x : Option Failure). EndsBy x name file (result_of_run file r) status (seen_from o0 o2 m0 m2 f0 f2 w0 w2)) (sym d.failed)
    (after_report (failure_of e.cause d.flushed) d.is_reported name file (result_of_run file r) status (seen_from o0 o2 m0 m2 f0 f2 w0 w2) h
    (λ n x q. d.refused x (ap (refusals_by file) (sym (wrote_all e.cause d.flushed r e (writers o0 o1 m0 m1) n a.gives).reason) ∙ q)))

-- the line of a frozen file that was refused, and then a flush
pub refusal_reported : (cause : Cause) (fault : FrozenFault) (file : List ℕ) (r : Result (Unit {0}) DeviceFault) (old mid new : Option (List ℕ)) (f g h : ℕ)
    → cause ≡ causes.Frozen fault → Puts r old mid (refused_line file cause) → g ≡ count_after r f → new ≡ mid
    → Grew g h → Reports (refusals file cause) old new f h
refusal_reported cause fault file r old mid new f g h is p n k l =
    subst (λ (c : Cause). Puts r old mid (refused_line file c) → Reports (refusals file c) old new f h) (sym is)
    (λ q. (mid, g, reported_by r (frozen_line file fault) old mid f g q n, (k, l))) p

pub some_refused : (cause : Cause) (fault : FrozenFault) (file : List ℕ) → cause ≡ causes.Frozen fault → refusals file cause ≢ []
some_refused cause fault file is = subst (λ (c : Cause). refusals file c ≢ []) (sym is) (λ q. cc)

-- the line of a failure that has one
pub line_reported : (failure : Failure) (old new : Option (List ℕ)) (f g : ℕ) → (length (failure_line failure) == 0) ≡ false
    → Reports (failure_line failure ∷ []) old new f g → Reports (failure_lines (Some failure)) old new f g
line_reported failures.Load old new f g e p = absurd cc
line_reported failures.Report old new f g e p = absurd cc
line_reported failure old new f g e p = p

-- the same end, by the names of its parts
pub ends_as : (failure : Option Failure) (name file file' : List ℕ) (r r' : LineResult) (status : ℕ) (w : Seen)
    → file ≡ file' → r ≡ r' → EndsBy failure name file r status w → EndsBy failure name file' r' status w
ends_as failure name file file' r r' status w e k h =
    subst (λ (x : LineResult). EndsBy failure name file' x status w) k (subst (λ (x : List ℕ). EndsBy failure name x r status w) e h)

-- lines after a flush
pub reports_after : (xs ys : List (List ℕ)) (a a' b c : Option (List ℕ)) (f f' g h : ℕ) → a' ≡ a → Grew f f'
    → Reports xs a' b f' g → Reports ys b c g h → Reports (xs ++ ys) a c f h
reports_after xs ys a a' b c f f' g h k l p q =
    reports-before (xs ++ ys) a c f f' h l (subst (λ (o : Option (List ℕ)). Reports (xs ++ ys) o c f' h) k (reports-append xs ys a' b c f' g h p q))

-- a line whose frozen file can't be opened, as a run
abbrev missed_run : List ℕ → RunResult
missed_run name = record { output = []; messages = cannot_open name; reason = Ends causes.Done; status = 1; frozen = None; calls = 0; saved = [] }

missed_freezes : (name : List ℕ) → FreezesAtEnd (missed_run name)
missed_freezes name = record { at_end = inl refl }

abbrev pub missed_cause : Result (Unit {0}) DeviceFault → Cause
missed_cause (Ok x) = causes.Done
missed_cause (Err e) = causes.Write

missed_ran : (name given : List ℕ) (r : Result (Unit {0}) DeviceFault) (o m m' : Option (List ℕ)) (f f' : ℕ) (w : Option Files)
    → Puts r m m' (cannot_open given) → f' ≡ count_after r f
    → RanBy name (missed_run given) (record { status = 1; cause = missed_cause r; wrapped = false }) (seen_from o o m m' f f' w w)
missed_ran name given (Ok x) o m m' f f' w p n = record {
  gives = record { reason = refl; status = refl; wrapped = refl; output = with_bytes-nil o; messages = p };
  counted = n;
  any_missing = true;
  is_status = refl;
  files = sym (none_made name w);
}
missed_ran name given (Err e) o m m' f f' w p n = record {
  gives = record { wrapped = refl; output = ([], record { front = []; parts = refl; holds = with_bytes-nil o }); messages = p };
  counted = inr n;
  any_missing = true;
  is_status = refl;
  files = inl refl;
}

pub missed_ends : (failure : Option Failure) (name given file : List ℕ) (r : Result (Unit {0}) DeviceFault)
    (cause : Cause) (status : ℕ) (o o' m m1 m2 : Option (List ℕ)) (f f1 f2 : ℕ) (w w' : Option Files)
    → cause ≡ missed_cause r → Puts r m m1 (cannot_open given) → f1 ≡ count_after r f
    → Closes file (record { status = 1; cause = cause; wrapped = false }) status failure (seen_from o o' m1 m2 f1 f2 w w')
    → EndsBy failure name file (unreloaded given) status (seen_from o o' m m2 f f2 w w')
missed_ends failure name given file r cause status o o' m m1 m2 f f1 f2 w w' c p n k =
    ended failure name file (missed_run given) (record { status = 1; cause = missed_cause r; wrapped = false }) o o o' m
    m1 m2 f f1 f2 w w w' status (missed_freezes given)
    (missed_ran name given r o m m1 f f1 w p n)
    (subst (λ (x : Cause). Closes file (record { status = 1; cause = x; wrapped = false }) status failure (seen_from o o' m1 m2 f1 f2 w w')) c k)
