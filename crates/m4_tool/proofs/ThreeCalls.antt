-- ThreeCalls: three calls of `follow`, by what is promised of each.
use Rattle.std.proofs.Common.{◌≡◌, ◌≢◌, ℕ, Bool, true, false, List, [], ◌∷◌, ◌++◌, Option, Some, None, refl, sym, ap}
use Rattle.std.proofs.Common.{◌∙◌, subst}
use Rattle.m4_state.specs.State.{State}
use Rattle.m4_frozen.specs.Freeze.{freeze}
use Rattle.std.specs.Prelude.{All, codes, unwrap_or, is_some, if◌then◌else◌}
use Rattle.std.specs.Str.{bytes_eq}
use Rattle.std.proofs.lemmas.List.Elements.{All-head, All-tail}
use Rattle.std.proofs.lemmas.Slice.Eq.{bytes_eq-Decides}
use Rattle.m4_state.specs.Device.{Script}
use Rattle.m4_engine.specs.declared.options.Options.{Options}
use Rattle.m4_engine.specs.declared.ending.Cause.{Cause}
use Rattle.m4_engine.specs.declared.ending.Cause.TheVariants as causes
use Rattle.m4_engine.specs.Expansion.{EndReason, Ends, NeedsInput, OutOfBound}
use Rattle.m4_engine.specs.File.{Source, after_sources}
use Rattle.m4_engine.specs.Start.{begun, frozen_file, start_of}
use Rattle.m4_engine.specs.Wraps.{after_wraps}
use Rattle.m4_engine.specs.Run.{RunResult, limits_of, run, saved_after}
use Rattle.m4_engine.specs.WholeRun.{wrapped_by}
use Rattle.m4_engine.specs.Carries.{Carries}
use Rattle.m4_engine.specs.Joined.{Joins, freezing, prefixed}
use Rattle.m4_engine.proofs.Reloads as engine
use Rattle.m4_engine.proofs.Split.{frozen_by}
use Rattle.m4_engine.proofs.TwoRuns.{has_text, none_saved}
use Rattle.m4_engine.proofs.Unrefused.{is_refusal, unrefused}
use Rattle.m4_tool.specs.declared.followed.Failure.{Failure}
use Rattle.m4_tool.specs.World.{Files, made_file, whole_file}
use Rattle.m4_tool.specs.Call.{Call}
use Rattle.m4_tool.specs.FollowPromises.{EndsRun, IsFollowed, seen_by}
use Rattle.m4_tool.specs.Known.{ExtendFiles, ExtendsFile}
use Rattle.m4_tool.specs.Line.{LineResult, Missing, Request, Starts, Thawed, freeze_name, input_after, is_input}
use Rattle.m4_tool.specs.Line.{refusals_by, reload_name, result_by, result_of_run, script_at, source_name, thaw_in}
use Rattle.m4_tool.specs.Line.{unreloaded, words_of}
use Rattle.m4_tool.specs.LineEnd.{AsDefined, EndsBy, Reports}
use Rattle.m4_tool.specs.ThreeLines.{Adds, ThreeLines, request}
use Rattle.m4_tool.proofs.ExtendedFiles.{files_given}
use Rattle.m4_tool.proofs.Cases.{thawed_by}

some_in : {A : Type 0} (a b : A) → Some a ≡ Some b → a ≡ b
some_in a b e = ap (λ (o : Option _). unwrap_or o a) e

-- ---- names and texts

-- no word is standard input, and none is the name s
abbrev AreOthers : List ℕ → List (List ℕ) → Type 0
AreOthers s [] = Unit {0}
AreOthers s (n ∷ ns) = (is_input n ≡ false) × (bytes_eq n s ≡ false) × AreOthers s ns

differs : (b : Bool) (name s : List ℕ) → bytes_eq name s ≡ b → name ≢ s → bytes_eq name s ≡ false
differs true name s e n = absurd (n ((bytes_eq-Decides name s).0 e))
differs false name s e n = e

are_others : (s : List ℕ) (ns : List (List ℕ)) → All (λ name. (name ≢ codes "-") × (name ≢ s)) ns → AreOthers s ns
are_others s [] h = tt
are_others s (n ∷ ns) h =
    let k = All-head (λ name. (name ≢ codes "-") × (name ≢ s)) n ns h in (
      differs (bytes_eq n (codes "-")) n (codes "-") refl k.0,
      differs (bytes_eq n s) n s refl k.1,
      are_others s ns (All-tail (λ name. (name ≢ codes "-") × (name ≢ s)) n ns h),
    )

-- the sources of two lists of words
abbrev inputs_after : Script → List (List ℕ) → Script
inputs_after i [] = i
inputs_after i (n ∷ ns) = inputs_after (input_after i n) ns

-- the words are the same in files that differ in s alone
file_other : (s text : List ℕ) (files : Files) (n : List ℕ) → bytes_eq n s ≡ false → made_file s text files n ≡ files n
file_other s [] files n e = refl
file_other s (b ∷ bs) files n e = rw e refl

-- the file that was made
abbrev is_none : List ℕ → Bool
is_none [] = true
is_none (b ∷ bs) = false

bytes_eq-same : (s : List ℕ) → bytes_eq s s ≡ true
bytes_eq-same s = (bytes_eq-Decides s s).1 refl

made_is : (s text : List ℕ) (files : Files) → is_none text ≡ false → made_file s text files s ≡ whole_file text
made_is s [] files e = absurd cc
made_is s (b ∷ bs) files e = rw (bytes_eq-same s) refl

-- a frozen text has a header
some_text : (text : List ℕ) (s : State) → text ≡ freeze s → is_none text ≡ false
some_text text s e = ap is_none e

words_twice : (as' ns : List (List ℕ)) → words_of (words_of as' ++ ns) ≡ words_of as' ++ ns
words_twice [] ns = refl
words_twice (a ∷ as') ns = refl

-- ---- the sources of two lists of words

extend_append : (files : Files) (i : Script) (ms ns : List (List ℕ)) (xs ys : List Source) → ExtendFiles files i ms xs
    → ExtendFiles files (inputs_after i ms) ns ys → ExtendFiles files i (ms ++ ns) (xs ++ ys)
extend_append files i [] ns [] ys h k = k
extend_append files i [] ns (x ∷ xs) ys h k = absurd h
extend_append files i (m ∷ ms) ns [] ys h k = absurd h
extend_append files i (m ∷ ms) ns (x ∷ xs) ys h k = (h.0, extend_append files (input_after i m) ms ns xs ys h.1 k)

-- they may be the same in files that differ in s alone
script_other : (s text : List ℕ) (files : Files) (i j : Script) (n : List ℕ) → is_input n ≡ false → bytes_eq n s ≡ false
    → script_at (made_file s text files) j n ≡ script_at files i n
script_other s text files i j n e k = rw e (file_other s text files n k)

extend_other : (s text : List ℕ) (files : Files) (i j : Script) (ns : List (List ℕ)) (ss : List Source) → AreOthers s ns
    → ExtendFiles (made_file s text files) j ns ss → ExtendFiles files i ns ss
extend_other s text files i j [] [] o h = tt
extend_other s text files i j [] (x ∷ ss) o h = absurd h
extend_other s text files i j (n ∷ ns) [] o h = absurd h
extend_other s text files i j (n ∷ ns) (x ∷ ss) o h = (
  subst (λ (v : Option Script). ExtendsFile (source_name n) v x) (script_other s text files i j n o.0 o.1) h.0,
  extend_other s text files (input_after i n) (input_after j n) ns ss o.2 h.1,
)

-- ---- a call in which nothing failed

pub record Ran (c : Call) (q : Request) (w : Files) (script : Option Script) (ss : List Source) : Type 0 where
  pub failures_old : ℕ
  pub failures_new : ℕ
  pub ends : EndsRun q.options script ss c.ending
  pub is_status : c.status ≡ (run q.options script ss).status
  pub output : c.out_new ≡ c.out_old ++ (run q.options script ss).output
  pub messages : Reports (refusals_by (reload_name q) (run q.options script ss).reason)
      (Some (c.messages_old ++ (run q.options script ss).messages)) (Some c.messages_new) failures_old failures_new
  pub files : c.files_new ≡ made_file (freeze_name q) (unwrap_or (run q.options script ss).frozen []) w

defined_by : (c : Call) (f : Option Failure) (r : LineResult) (h : IsFollowed c) → f ≡ None
    → EndsBy f (freeze_name c.request) (reload_name c.request) r c.status (seen_by h.failures_old h.failures_new c)
    → AsDefined (freeze_name c.request) r c.status (seen_by h.failures_old h.failures_new c)
defined_by c f r h n e = subst (λ (x : Option Failure). EndsBy x (freeze_name c.request) (reload_name c.request) r
    c.status (seen_by h.failures_old h.failures_new c)) n e

ran : (c : Call) → IsFollowed c → c.failure ≡ None → (script : Option Script) (ss : List Source)
    → thaw_in c.files (c.request).reload ≡ Starts script → ExtendFiles c.files c.input (words_of (c.request).names) ss
    → Ran c c.request c.files script ss
ran c h n script ss t e =
    let r : LineResult = result_of_run (reload_name c.request) (run (c.request).options script ss) in
    let d : AsDefined (freeze_name c.request) r c.status (seen_by h.failures_old h.failures_new c) =
    defined_by c c.failure r h n (h.extends r (ss, e, ap (λ (v : Thawed). result_by v (c.request).options (reload_name c.request) (Some ss)) t)) in
    record {
      failures_old = h.failures_old;
      failures_new = h.failures_new;
      ends = h.ended n script ss t e;
      is_status = d.is_status;
      output = some_in _ _ d.output;
      messages = d.messages;
      files = some_in _ _ d.files;
    }

ran_as : (c : Call) (q : Request) (w : Files) (i : Script) → IsFollowed c → c.failure ≡ None → c.request ≡ q
    → c.files ≡ w → c.input ≡ i → (script : Option Script) (ss : List Source) → thaw_in w q.reload ≡ Starts script
    → ExtendFiles w i (words_of q.names) ss → Ran c q w script ss
ran_as c q w i h n k l m script ss =
    subst (λ (j : Script). thaw_in w q.reload ≡ Starts script → ExtendFiles w j (words_of q.names) ss → Ran c q w script ss) m
    (subst (λ (v : Files). thaw_in v q.reload ≡ Starts script → ExtendFiles v c.input (words_of q.names) ss → Ran c q v script ss) l
    (subst (λ (p : Request). thaw_in c.files p.reload ≡ Starts script → ExtendFiles c.files c.input (words_of p.names) ss → Ran c p c.files script ss) k
    (ran c h n script ss)))

-- with status 0 its frozen file was there
starts : (c : Call) → IsFollowed c → c.failure ≡ None → c.status ≡ 0 → (script : Option Script) × (thaw_in c.files (c.request).reload ≡ Starts script)
starts c h n z = go (thaw_in c.files (c.request).reload) refl
  where
    go : (t : Thawed) → thaw_in c.files (c.request).reload ≡ t → (script : Option Script) × (thaw_in c.files (c.request).reload ≡ Starts script)
    go (Starts file) e = (file, e)
    go (Missing name) e =
        let ss = files_given c.files c.input (words_of (c.request).names) in
        let d : AsDefined (freeze_name c.request) (unreloaded name) c.status (seen_by h.failures_old h.failures_new c) =
        defined_by c c.failure (unreloaded name) h n
        (h.extends (unreloaded name) (
          ss.0,
          ss.1,
          ap (λ (v : Thawed). result_by v (c.request).options (reload_name c.request) (Some ss.0)) e,
        )) in
        absurd (let k : 1 ≡ 0 = sym d.is_status ∙ z in cc)

starts_as : (c : Call) (q : Request) → IsFollowed c → c.failure ≡ None → c.request ≡ q → c.status ≡ 0
    → (script : Option Script) × (thaw_in c.files q.reload ≡ Starts script)
starts_as c q h n k z = subst (λ (p : Request). (script : Option Script) × (thaw_in c.files p.reload ≡ Starts script)) k (starts c h n z)

-- ---- endings

abbrev cause_in : EndReason → Cause
cause_in (Ends cause) = cause
cause_in NeedsInput = causes.Done
cause_in OutOfBound = causes.Done

not_limit : (reason : EndReason) (cause : Cause) → reason ≡ Ends cause → cause ≢ causes.ExpansionLimit → reason ≢ Ends causes.ExpansionLimit
not_limit reason cause e n k = n (ap cause_in (sym e ∙ k))

no_lines : (file : List ℕ) (reason : EndReason) → is_refusal reason ≡ false → refusals_by file reason ≡ []
no_lines file (Ends (causes.Frozen fault)) e = absurd cc
no_lines file (Ends cause) e = refl
no_lines file NeedsInput e = refl
no_lines file OutOfBound e = refl

-- no line is added to its messages
messages_are : (c : Call) (q : Request) (w : Files) (script : Option Script) (ss : List Source) → Ran c q w script ss
    → is_refusal (run q.options script ss).reason ≡ false → c.messages_new ≡ c.messages_old ++ (run q.options script ss).messages
messages_are c q w script ss h e =
    let p = subst (λ (ls : List (List ℕ)). Reports ls (Some (c.messages_old ++ (run q.options script ss).messages))
    (Some c.messages_new) h.failures_old h.failures_new)
    (no_lines (reload_name q) (run q.options script ss).reason e) h.messages in
    some_in _ _ p.0

-- ---- frozen texts

frozen_is : (o : Options) (script : Option Script) (ss : List Source) (text : List ℕ)
    → (run (freezing true o) script ss).frozen ≡ Some text → is_none text ≡ false
frozen_is o script ss text e =
    let q = after_sources (limits_of o) ss (begun (start_of o.prefix script)) in
    let p = after_wraps (limits_of o) q in
    some_text text (p.so_far).state (frozen_by p.over (saved_after ss q) p.so_far p.any_missing text e).1

has_frozen : (freezes : Bool) (o : Options) (script : Option Script) (ss : List Source) → freezes ≡ true
    → (run (freezing freezes o) script ss).reason ≡ Ends causes.Done
    → is_none (unwrap_or (run (freezing freezes o) script ss).frozen []) ≡ false
has_frozen false o script ss f e = absurd cc
has_frozen true o script ss f e =
    let some = has_text o (start_of o.prefix script) ss e in
    ap (λ (x : Option (List ℕ)). is_none (unwrap_or x [])) some.1 ∙ frozen_is o script ss some.0 some.1

-- a file that differs from s is the same in files that differ in s alone
made_same : (name t : List ℕ) (s text other : List ℕ) (files : Files) → bytes_eq name s ≡ false
    → made_file t other files name ≡ made_file t other (made_file s text files) name
made_same name t s text [] files e = sym (file_other s text files name e)
made_same name t s text (b ∷ bs) files e =
    ap (λ (x : Option Script). if bytes_eq name t then whole_file (b ∷ bs) else x) (sym (file_other s text files name e))

adds : (a a' b b' c c' x y z : List ℕ) → a' ≡ a ++ x → b' ≡ b ++ y → c' ≡ c ++ z → z ≡ x ++ y → Adds a a' b b' c c'
adds a a' b b' c c' x y z e f g h = record { x = x; y = y; first = e; second = f; joint = g ∙ ap (λ (v : List ℕ). c ++ v) h }

pub three_lines : ThreeLines
three_lines o prefix reload freeze' s as' bs first second joint hf hs hj nf ns nj qf qs qj ws wj ij done zero saved others limit =
    let f : Bool = is_some freeze' in
    let w : Files = first.files in
    let q1 : Request = request o reload (Some s) as' in
    let q2 : Request = request (record o { prefix = prefix }) (Some s) freeze' bs in
    let q3 : Request = request o reload freeze' (words_of as' ++ words_of bs) in
    let start = starts_as first q1 hf nf qf zero in
    let script : Option Script = start.0 in
    let given = files_given w first.input (words_of as') in
    let xs : List Source = given.0 in
    let one : Ran first q1 w script xs = ran_as first q1 w first.input hf nf qf refl refl script xs start.1 given.1 in
    let r1 : RunResult = run (freezing true o) script xs in
    let is_done : r1.reason ≡ Ends causes.Done = (one.ends).reason ∙ ap Ends done in
    let carries : Carries (freezing true o) (start_of o.prefix script) xs = record {
      done = is_done;
      status = sym one.is_status ∙ zero;
      nothing_saved = none_saved r1.saved (sym saved ∙ (one.ends).wrapped ∙ ap (λ (c : Cause). wrapped_by c r1.saved) done);
      sized = (one.ends).sized done refl;
    } in
    let some = has_text o (start_of o.prefix script) xs is_done in
    let text : List ℕ = some.0 in
    let froze : r1.frozen ≡ Some text = some.1 in
    let left : Files = made_file s text w in
    let is_left : first.files_new ≡ left = one.files ∙ ap (λ (v : Option (List ℕ)). made_file s (unwrap_or v []) w) froze in
    let there : left s ≡ whole_file text = made_is s text w (frozen_is o script xs text froze) in
    let later = files_given left second.input (words_of bs) in
    let ys : List Source = later.0 in
    let two : Ran second q2 left (Some (frozen_file text)) ys =
    ran_as second q2 left second.input hs ns qs (ws ∙ is_left) refl (Some (frozen_file text)) ys (ap (thawed_by s) there) later.1 in
    let sources : ExtendFiles w first.input (words_of (words_of as' ++ words_of bs)) (xs ++ ys) =
    subst (λ (names : List (List ℕ)). ExtendFiles w first.input names (xs ++ ys)) (sym (words_twice as' (words_of bs)))
    (extend_append w first.input (words_of as') (words_of bs) xs ys given.1
    (extend_other s text w (inputs_after first.input (words_of as')) second.input (words_of bs) ys
    (are_others s (words_of bs) others) later.1)) in
    let all : Ran joint q3 w script (xs ++ ys) = ran_as joint q3 w first.input hj nj qj wj ij script (xs ++ ys) start.1 sources in
    let r2 : RunResult = run (prefixed prefix (freezing f o)) (Some (frozen_file text)) ys in
    let r3 : RunResult = run (freezing f o) script (xs ++ ys) in
    let joins : Joins r1 r2 r3 = engine.split o f prefix script xs ys text carries froze (not_limit r3.reason (joint.ending).cause (all.ends).reason limit) in
    let started : is_refusal r3.reason ≡ false = unrefused (freezing true o) (freezing f o) (start_of o.prefix script) xs (xs ++ ys) is_done in
    let same_cause : (joint.ending).cause ≡ (second.ending).cause = ap cause_in (sym (all.ends).reason ∙ joins.reason ∙ (two.ends).reason) in
    record {
      output = adds first.out_old first.out_new second.out_old second.out_new joint.out_old joint.out_new r1.output
          r2.output r3.output one.output two.output all.output joins.output;
      messages = adds first.messages_old first.messages_new second.messages_old second.messages_new joint.messages_old
          joint.messages_new r1.messages r2.messages r3.messages
          (messages_are first q1 w script xs one (ap is_refusal is_done))
          (messages_are second q2 left (Some (frozen_file text)) ys two (ap is_refusal (sym joins.reason) ∙ started))
          (messages_are joint q3 w script (xs ++ ys) all started) joins.messages;
      status = all.is_status ∙ joins.status ∙ sym two.is_status;
      cause = same_cause;
      files = λ name n.
          ap (λ (v : Files). v name) all.files
          ∙ ap (λ (v : Option (List ℕ)). made_file (unwrap_or freeze' []) (unwrap_or v []) w name) joins.frozen
          ∙ made_same name (unwrap_or freeze' []) s text (unwrap_or r2.frozen []) w (differs (bytes_eq name s) name s refl n)
          ∙ ap (λ (v : Files). v name) (sym two.files);
      frozen = λ k d.
          let to : freeze' ≡ Some s = ap (λ (q : Request). q.freeze) (sym qs) ∙ k in
          let named : unwrap_or freeze' [] ≡ s = ap (λ (v : Option (List ℕ)). unwrap_or v []) to in
          let full : is_none (unwrap_or r3.frozen []) ≡ false =
          has_frozen f o script (xs ++ ys) (ap (λ (v : Option (List ℕ)). is_some v) to)
          ((all.ends).reason ∙ ap Ends (same_cause ∙ d)) in
          ap (λ (v : Files). v s) all.files
          ∙ ap (λ (n : List ℕ). made_file n (unwrap_or r3.frozen []) w s) named
          ∙ made_is s (unwrap_or r3.frozen []) w full
          ∙ sym (made_is s (unwrap_or r3.frozen []) left full)
          ∙ ap (λ (v : Option (List ℕ)). made_file s (unwrap_or v []) left s) joins.frozen
          ∙ ap (λ (n : List ℕ). made_file n (unwrap_or r2.frozen []) left s) (sym named)
          ∙ ap (λ (v : Files). v s) (sym two.files);
    }
