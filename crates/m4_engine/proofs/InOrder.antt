-- InOrder: an expansion leaves a state in order, and so does a run.
use Rattle.std.proofs.Common.{◌≡◌, ◌≢◌, inl, inr, Option, ℕ, zero, suc, Bool, true, false, List, [], ◌∷◌, Some, None}
use Rattle.std.proofs.Common.{refl, sym, subst, fold}
use Rattle.std.specs.Prelude.{nat_lt, FitsSigned}
use Rattle.std.specs.Int.{w32}
use Rattle.std.specs.List.{AllByRecursion}
use Rattle.m4_state.specs.declared.definition.Def.{Def}
use Rattle.m4_state.specs.declared.delimiters.Delimiters.{Delimiters}
use Rattle.m4_input.specs.declared.token.Token.{Token}
use Rattle.m4_input.specs.declared.token.Token.TheVariants.{Name, Str, Comment, Byte, Definition, End}
use Rattle.m4_input.specs.declared.front.Scan.{Scan}
use Rattle.m4_input.specs.declared.front.Scan.TheVariants.{Found, Broken, NeedsMore}
use Rattle.m4_input.specs.declared.front.Answer.{Answer}
use Rattle.m4_input.specs.declared.front.Answer.TheVariants.{Yes, No, Unknown}
use Rattle.m4_input.specs.Pending.{Pending, text_of, line_length}
use Rattle.m4_input.specs.Token.{scan, Front, Taken, Refused, More, front_by, front_from, token_at}
use Rattle.m4_input.specs.Paren.{paren_at}
use Rattle.m4_state.specs.State.{State, top_of}
use Rattle.m4_input.specs.declared.pushed.Pushed.{Pushed}
use Rattle.m4_input.specs.declared.pushed.Pushed.TheVariants as pushes
use Rattle.m4_engine.specs.Nesting.{Turn, Halt, Close, GoOn, Bare, Opens, Outcome, Halted, Closed}
use Rattle.m4_engine.specs.Expansion.{RunSoFar, Limits, Call, Mode, Outside, Collecting, Expansion, Kept, EndReason}
use Rattle.m4_engine.specs.Expansion.{Ended, place_at, with_call, reading, put_text}
use Rattle.m4_engine.specs.declared.role.Role.{Role}
use Rattle.m4_engine.specs.declared.role.Role.TheVariants.{Opening, Closing, Separator, Blank, Other}
use Rattle.m4_engine.specs.Args.{end_argument, with_parenthesis, role_of, take_closing, take_byte}
use Rattle.m4_engine.specs.Expand.{with_value, skip_all, skip_line, effected, acted_at, kept_of}
use Rattle.m4_engine.specs.Expand.{after_call, called, join, call_of, bare, collect}
use Rattle.m4_engine.specs.Expand.{is_deep, take_call, take_name, take_other}
use Rattle.m4_engine.specs.Expand.{take_end, take_token, take_front, turn, size_of, calls_left, out_of_bound_at}
use Rattle.m4_engine.specs.Expand.{expand}
use Rattle.m4_state.specs.declared.definition.Def.TheVariants as defs
use Rattle.m4_state.specs.declared.builtin.Builtin.{Builtin}
use Rattle.m4_state.specs.Builtin.{builtin_named}
use Rattle.m4_state.specs.Definition.{IsDefinition}
use Rattle.m4_state.specs.State.{IsState, empty}
use Rattle.m4_state.proofs.Tables.{AllByRecursion-push}
use Rattle.m4_state.proofs.StaysInOrder.{IsState-appended, IsState-pushed, IsState-with_quotes, IsState-with_comments}
use Rattle.m4_state.proofs.StaysInOrder.{IsState-diverted, IsState-empty, IsState-fresh, top_definition}
use Rattle.m4_input.proofs.Consumed.{NoDefinition, scan_plain}
use Rattle.m4_builtins.specs.Args.{IsArg}
use Rattle.m4_builtins.specs.Act.{IsPushed, needs_list}
use Rattle.m4_builtins.proofs.ActKeeps.{act_keeps, act_pushes}
use Rattle.m4_frozen.specs.Directive.{Directive, Quotes, Comments, Text, Builtin as NamedBuiltin, Diversion}
use Rattle.m4_frozen.specs.Spells.{SpellsAll, SpellsOne}
use Rattle.m4_frozen.specs.Denote.{with_directive, definition_named}
use Rattle.m4_frozen.proofs.Cases.{builtin_or_placeholder}
use Rattle.m4_engine.specs.Expansion.{diverted_in}
use Rattle.m4_engine.specs.Args.{argument_of}
use Rattle.m4_engine.specs.Expand.{expansion_of, ended_of, expand_input}
use Rattle.m4_engine.specs.File.{Source, Opened, Unopened, Progress, file_pending, read_source}
use Rattle.m4_engine.specs.File.{after_source, after_sources}
use Rattle.m4_engine.specs.Wraps.{read_saved, next_round, rounds, after_wraps, wrapped_pending, joined_back}
use Rattle.m4_state.specs.Device.{Script}
use Rattle.m4_engine.specs.Start.{Start, IsStart, begun}
use Rattle.m4_engine.proofs.ByRules.{Rules, holds}
use Rattle.m4_engine.proofs.CallsFall.{falls}
use Rattle.m4_engine.proofs.Cases.{skip_or_push, join_by, call_unless_deep, call_if_room, call_without_list, unless_over}
use Rattle.m4_engine.proofs.Cases.{mode_with_text, mode_with_token, mode_after_call}

-- the definitions that a call holds are in order
abbrev ValidCall : Call → Type 0
ValidCall c = IsDefinition c.definition × AllByRecursion IsArg c.done × AllByRecursion IsDefinition c.tokens

ValidMode : Mode → Type 0
ValidMode Outside = Unit {0}
ValidMode (Collecting c) = ValidCall c

ValidToken : Option Def → Type 0
ValidToken None = Unit {0}
ValidToken (Some d) = IsDefinition d

abbrev Valid : Expansion → Type 0
Valid s = IsState (s.so_far).state × ValidToken (s.pending).definition × ValidMode s.mode

ValidTurn : Turn Expansion Kept Ended → Type 0
ValidTurn (Halt d) = IsState (d.so_far).state
ValidTurn (Close t) = Valid t
ValidTurn (GoOn t) = Valid t
ValidTurn (Bare t) = Valid t
ValidTurn (Opens f t) = ValidMode f.mode × Valid t

ValidOut : Outcome Expansion Ended → Type 0
ValidOut (Halted d) = IsState (d.so_far).state
ValidOut (Closed u) = Valid u

-- no definition is the first token
none_valid : ValidToken None
unfolding ValidToken
none_valid = tt

diverted_valid : (m : Mode) (s : State) (x : List ℕ) → IsState s → IsState (diverted_in m s x)
diverted_valid Outside s x h = IsState-appended s x h
diverted_valid (Collecting c) s x h = h

text_valid : (x : List ℕ) (m : Mode) → ValidMode m → ValidMode (mode_with_text x m)
unfolding ValidMode
text_valid x Outside h = tt
text_valid x (Collecting c) h = h

token_valid : (d : Def) (m : Mode) → IsDefinition d → ValidMode m → ValidMode (mode_with_token d m)
unfolding ValidMode
token_valid d Outside i h = tt
token_valid d (Collecting c) i h = (h.0, h.1, AllByRecursion-push IsDefinition c.tokens d h.2 i)

put_valid : (x : List ℕ) (s : Expansion) → Valid s → Valid (put_text x s)
put_valid x s h = (diverted_valid s.mode (s.so_far).state x h.0, h.1, text_valid x s.mode h.2)

pub argument_valid : (x : List ℕ) (ds : List Def) → AllByRecursion IsDefinition ds → IsArg (argument_of x ds)
argument_valid [] [] h = tt
argument_valid [] (d ∷ []) h = h.0
argument_valid [] (d ∷ e ∷ ds) h = tt
argument_valid (b ∷ x) ds h = tt

end_valid : (c : Call) (s : Expansion) → ValidCall c → Valid s → Valid (end_argument c s)
unfolding ValidMode
end_valid c s v h = (h.0, h.1, (v.0, AllByRecursion-push IsArg c.done _ v.1 (argument_valid c.bytes c.tokens v.2), tt))

parenthesis_valid : (n b : ℕ) (c : Call) (s : Expansion) → ValidCall c → Valid s → Valid (with_parenthesis n b c s)
unfolding ValidMode
parenthesis_valid n b c s v h = (h.0, h.1, v)

closing_valid : (n b : ℕ) (c : Call) (s : Expansion) → ValidCall c → Valid s → ValidTurn (take_closing n b c s)
unfolding ValidTurn
closing_valid zero b c s v h = end_valid c s v h
closing_valid (suc n) b c s v h = parenthesis_valid n b c s v h

byte_valid : (r : Role) (b : ℕ) (c : Call) (s : Expansion) → ValidCall c → Valid s → ValidTurn (take_byte r b c s)
unfolding ValidTurn
byte_valid Opening b c s v h = parenthesis_valid (suc c.parentheses) b c s v h
byte_valid Closing b c s v h = closing_valid c.parentheses b c s v h
byte_valid Separator b c s v h = end_valid c s v h
byte_valid Blank b c s v h = h
byte_valid Other b c s v h = put_valid (b ∷ []) s h

other_valid : (m : Mode) (b : ℕ) (s : Expansion) → ValidMode m → Valid s → ValidTurn (take_other m b s)
unfolding ValidTurn ValidMode
other_valid Outside b s v h = put_valid (b ∷ []) s h
other_valid (Collecting c) b s v h = byte_valid (role_of b c) b c s v h

end_turn : (m : Mode) (s : Expansion) → Valid s → ValidTurn (take_end m s)
unfolding ValidTurn
end_turn Outside s h = h.0
end_turn (Collecting c) s h = h.0

-- ---- calls

skip_all_valid : (b : Bool) (s : Expansion) → Valid s → ValidOut (skip_all b s)
unfolding ValidOut
skip_all_valid true s h = h.0
skip_all_valid false s h = (h.0, none_valid, h.2)

skip_line_valid : (n : Option ℕ) (s : Expansion) → Valid s → ValidOut (skip_line n s)
unfolding ValidOut
skip_line_valid None s h = skip_all_valid (s.pending).may_follow s h
skip_line_valid (Some n) s h = (h.0, none_valid, h.2)

pushed_valid : (v : Option Pushed) (p : Pending) → IsPushed v → ValidToken p.definition → ValidToken (with_value v p).definition
unfolding ValidToken
pushed_valid None p i h = h
pushed_valid (Some (pushes.Text x)) p i h = h
pushed_valid (Some (pushes.Definition d)) p i h = i

skip_or_push_valid : (skip : Bool) (v : Option Pushed) (s : Expansion) → IsPushed v → Valid s → ValidOut (skip_or_push skip v s)
unfolding ValidOut
skip_or_push_valid true v s i h = skip_line_valid (line_length (text_of s.pending)) s h
skip_or_push_valid false v s i h = (h.0, pushed_valid v s.pending i h.1, h.2)

effected_valid : (n : Option ℕ) (skip : Bool) (v : Option Pushed) (s : Expansion) → IsPushed v → Valid s → ValidOut (effected n skip v s)
unfolding ValidOut
effected_valid (Some n) skip v s i h = h.0
effected_valid None skip v s i h = skip_or_push_valid skip v s i h

begun_valid : (m : Mode) → ValidMode m → ValidMode (mode_after_call m)
unfolding ValidMode
begun_valid Outside h = tt
begun_valid (Collecting c) h = h

called_valid : (c : Call) (t : Expansion) (k : Kept) → ValidCall c → IsState (t.so_far).state
    → ValidToken (t.pending).definition → ValidMode k.mode → ValidOut (called c t k)
called_valid c t k v h g m =
    effected_valid ((acted_at c t).effect).exit ((acted_at c t).effect).skip ((acted_at c t).effect).push (after_call c t k)
    (act_pushes c.definition c.name c.done c.place (t.so_far).state h v.1)
    (act_keeps c.definition c.name c.done c.place (t.so_far).state h v.1, g, begun_valid k.mode m)

bare_valid : (o : Outcome Expansion Ended) → ValidOut o → ValidTurn (bare o)
unfolding ValidOut ValidTurn
bare_valid (Halted d) h = h
bare_valid (Closed u) h = h

collect_valid : (listed : Bool) (c : Call) (p : Pending) (s : Expansion) → ValidCall c → ValidToken p.definition → Valid s → ValidTurn (collect listed c p s)
unfolding ValidTurn ValidMode
collect_valid true c p s v g h = (h.2, (h.0, none_valid, v))
collect_valid false c p s v g h = bare_valid (called c (reading p s) (kept_of s)) (called_valid c (reading p s) (kept_of s) v h.0 g h.2)

deep_valid : (deep listed : Bool) (c : Call) (p : Pending) (s : Expansion) → ValidCall c → ValidToken p.definition
    → Valid s → ValidTurn (call_unless_deep deep listed c p s)
unfolding ValidTurn
deep_valid true listed c p s v g h = h.0
deep_valid false listed c p s v g h = collect_valid listed c p s v g h

room_valid : (room listed : Bool) (c : Call) (p : Pending) (s : Expansion) → ValidCall c → ValidToken p.definition
    → Valid s → ValidTurn (call_if_room room listed c p s)
unfolding ValidTurn
room_valid true listed c p s v g h = deep_valid (is_deep s) listed c p (with_call s) v g h
room_valid false listed c p s v g h = h.0

without_list_valid : (b : Bool) (c : Call) (p : Pending) (s : Expansion) → ValidCall c → ValidToken p.definition
    → Valid s → ValidTurn (call_without_list b c p s)
unfolding ValidTurn
without_list_valid true c p s v g h = put_valid c.name (reading p s) (h.0, g, h.2)
without_list_valid false c p s v g h = room_valid (nat_lt (s.so_far).calls (s.limits).calls) false c p s v g h

take_call_valid : (a : Answer) (c : Call) (p : Pending) (s : Expansion) → ValidCall c → ValidToken p.definition → Valid s → ValidTurn (take_call a c p s)
unfolding ValidTurn
take_call_valid Unknown c p s v g h = h.0
take_call_valid Yes c p s v g h = room_valid (nat_lt (s.so_far).calls (s.limits).calls) true c p s v g h
take_call_valid No c p s v g h = without_list_valid (needs_list c.definition) c p s v g h

take_name_valid : (o : Option Def) (x : List ℕ) (p : Pending) (s : Expansion)
    → ((d : Def) → o ≡ Some d → IsDefinition d) → ValidToken p.definition → Valid s → ValidTurn (take_name o x p s)
unfolding ValidTurn
take_name_valid None x p s v g h = put_valid x (reading p s) (h.0, g, h.2)
take_name_valid (Some d) x p s v g h = take_call_valid
    (paren_at ((s.so_far).state).quotes ((s.so_far).state).comments p) (call_of d x (place_at s.pending)) p s
    (v d refl, tt, tt) g h

-- ---- a turn

-- the definition that a token is
TokenValid : Token → Type 0
TokenValid (Definition d) = IsDefinition d
TokenValid t = Unit {0}

take_token_valid : (t : Token) (p : Pending) (s : Expansion) → TokenValid t → ValidToken p.definition → Valid s → ValidTurn (take_token t p s)
unfolding ValidTurn TokenValid
take_token_valid (Name x) p s i g h = take_name_valid (top_of (s.so_far).state x) x p s (λ d e. top_definition (s.so_far).state x d h.0 e) g h
take_token_valid (Str x) p s i g h = put_valid x (reading p s) (h.0, g, h.2)
take_token_valid (Comment x) p s i g h = put_valid x (reading p s) (h.0, g, h.2)
take_token_valid (Byte b) p s i g h = other_valid s.mode b (reading p s) h.2 (h.0, g, h.2)
take_token_valid (Definition d) p s i g h = (h.0, g, token_valid d s.mode i h.2)
take_token_valid End p s i g h = end_turn s.mode s h

FrontValid : Front → Type 0
FrontValid (Taken t p) = TokenValid t × ValidToken p.definition
FrontValid (Refused f n) = Unit {0}
FrontValid More = Unit {0}

plain_token : (t : Token) → ((d : Def) → t ≢ Definition d) → TokenValid t
unfolding TokenValid
plain_token (Name x) h = tt
plain_token (Str x) h = tt
plain_token (Comment x) h = tt
plain_token (Byte b) h = tt
plain_token (Definition d) h = absurd (h d refl)
plain_token End h = tt

front_by_valid : (p : Pending) (v : Scan) → NoDefinition v → FrontValid (front_by p v)
unfolding FrontValid NoDefinition
front_by_valid p (Found t n) h = (plain_token t h, none_valid)
front_by_valid p (Broken u) h = tt
front_by_valid p NeedsMore h = tt

token_here : (d : Def) → IsDefinition d → TokenValid (Definition d)
unfolding TokenValid
token_here d h = h

front_valid : (o : Option Def) (q c : Delimiters) (p : Pending) → ValidToken o → FrontValid (front_from o q c p)
unfolding FrontValid ValidToken
front_valid (Some d) q c p h = (token_here d h, tt)
front_valid None q c p h = front_by_valid p (scan q c p.may_follow (text_of p)) (scan_plain q c p.may_follow (text_of p))

take_front_valid : (v : Front) (s : Expansion) → FrontValid v → Valid s → ValidTurn (take_front v s)
unfolding FrontValid ValidTurn
take_front_valid (Taken t p) s f h = take_token_valid t p s f.0 f.1 h
take_front_valid (Refused u n) s f h = h.0
take_front_valid More s f h = h.0

turn_valid : (s : Expansion) (v : Turn Expansion Kept Ended) → turn s ≡ v → Valid s → ValidTurn v
turn_valid s v e h = subst ValidTurn e (take_front_valid
    (token_at ((s.so_far).state).quotes ((s.so_far).state).comments s.pending) s
    (front_valid (s.pending).definition ((s.so_far).state).quotes ((s.so_far).state).comments s.pending h.1) h)

join_valid : (m : Mode) (k : Kept) (t : Expansion) (v : Outcome Expansion Ended) → join_by m k t ≡ v → ValidMode m → ValidMode k.mode → Valid t → ValidOut v
unfolding ValidOut ValidMode
join_valid m k t v e i j h = subst ValidOut e (go m i)
  where
    closed : ValidOut (Closed t)
    closed = h

    go : (m : Mode) → ValidMode m → ValidOut (join_by m k t)
    go Outside i = closed
    go (Collecting c) i = called_valid c t k i h.0 h.1 j

-- ---- the whole

abbrev Post : Expansion → Outcome Expansion Ended → Type 0
Post s o = Valid s → ValidOut o

rules : Rules Expansion Kept Ended turn join Post
unfolding ValidTurn ValidOut
rules = record {
  halt = λ s d e h. turn_valid s (Halt d) e h;
  close = λ s t e h. turn_valid s (Close t) e h;
  go_on = λ s t o e p h. p (turn_valid s (GoOn t) e h);
  bare = λ s t o e p h. p (turn_valid s (Bare t) e h);
  list_halts = λ s t f d e p h. p (turn_valid s (Opens f t) e h).1;
  call_halts = λ s t u f d e p j h. let v = turn_valid s (Opens f t) e h in let k = p v.1 in join_valid u.mode f u (Halted d) j k.2 v.0 k;
  joins = λ s t u w f o e p j q h. let v = turn_valid s (Opens f t) e h in let k = p v.1 in q (join_valid u.mode f u (Closed w) j k.2 v.0 k);
}

input_valid : (limits : Limits) (r : RunSoFar) (p : Pending) → IsState r.state → p.definition ≡ None → IsState ((expand_input limits r p).so_far).state
unfolding ValidOut ValidMode
input_valid limits r p h e = go (expand (expansion_of limits r p))
    (holds Expansion Kept Ended turn join out_of_bound_at size_of calls_left falls Post rules (expansion_of limits r p)
    (h, subst ValidToken (sym e) none_valid, tt))
  where
    go : (o : Outcome Expansion Ended) → ValidOut o → IsState ((ended_of o).so_far).state
    go (Halted d) v = v
    go (Closed u) v = v.0

-- ---- a run

unless_valid : (o : Option EndReason) (old new : Progress) → IsState (old.so_far).state → IsState (new.so_far).state
    → IsState ((unless_over o old new).so_far).state
unless_valid None old new h g = g
unless_valid (Some x) old new h g = h

read_valid : (limits : Limits) (s : Source) (r : RunSoFar) (any_missing : Bool) → IsState r.state → IsState ((read_source limits s r any_missing).so_far).state
read_valid limits (Opened name bytes) r any_missing h = input_valid limits r (file_pending name bytes false) h refl
read_valid limits (Unopened name) r any_missing h = h

pub sources_valid : (limits : Limits) (ss : List Source) (p : Progress) → IsState (p.so_far).state → IsState ((after_sources limits ss p).so_far).state
sources_valid limits [] p h = h
sources_valid limits (s ∷ ss) p h = sources_valid limits ss (after_source limits s p)
    (unless_valid p.over p (read_source limits s p.so_far p.any_missing) h (read_valid limits s p.so_far p.any_missing h))

next_valid : (go : Progress → Progress) (limits : Limits)
    → ((q : Progress) → IsState (q.so_far).state → IsState ((go q).so_far).state)
    → (v : Option EndReason) (saved : List (List ℕ)) (p : Progress) → IsState (p.so_far).state
    → IsState ((next_round go limits v saved p).so_far).state
next_valid go limits g (Some x) saved p h = h
next_valid go limits g None [] p h = h
next_valid go limits g None (x ∷ xs) p h =
    g (read_saved limits (x ∷ xs) p)
    (input_valid limits (record p.so_far { saved = [] }) (wrapped_pending (joined_back (x ∷ xs))) h refl)

rounds_valid : (n : ℕ) (limits : Limits) (p : Progress) → IsState (p.so_far).state → IsState ((rounds n limits p).so_far).state
rounds_valid zero limits p h = h
rounds_valid (suc n) limits p h = next_valid (rounds n limits) limits (rounds_valid n limits) p.over (p.so_far).saved p h

pub wraps_valid : (limits : Limits) (p : Progress) → IsState (p.so_far).state → IsState ((after_wraps limits p).so_far).state
wraps_valid limits p h = rounds_valid (suc limits.calls) limits p h

-- ---- a start

named_valid : (name : List ℕ) → IsDefinition (definition_named name)
named_valid name = go (builtin_named name) refl
  where
    go : (o : Option Builtin) → builtin_named name ≡ o → IsDefinition (builtin_or_placeholder o name)
    go None e = e
    go (Some b) e = tt

-- the number of a diversion is one of 32 bits
FitsIn : Directive → Type 0
FitsIn (Diversion n x) = FitsSigned w32 n
FitsIn (Quotes x y) = Unit {0}
FitsIn (Comments x y) = Unit {0}
FitsIn (Text x y) = Unit {0}
FitsIn (NamedBuiltin x y) = Unit {0}

directive_valid : (s : State) (d : Directive) → IsState s → FitsIn d → IsState (with_directive s d)
unfolding FitsIn
directive_valid s (Quotes x y) h f = IsState-with_quotes s x y h
directive_valid s (Comments x y) h f = IsState-with_comments s x y h
directive_valid s (Text x y) h f = IsState-pushed s x (defs.Text y) h tt
directive_valid s (NamedBuiltin x y) h f = IsState-pushed s x (definition_named y) h (named_valid y)
directive_valid s (Diversion n x) h f = IsState-appended _ x (IsState-diverted s n h f)

one_fits : (d : Directive) (bytes : List ℕ) → SpellsOne d bytes → FitsIn d
unfolding FitsIn
one_fits (Quotes x y) bytes h = tt
one_fits (Comments x y) bytes h = tt
one_fits (Text x y) bytes h = tt
one_fits (NamedBuiltin x y) bytes h = tt
one_fits (Diversion n x) bytes h = (h.fits).0

directives_valid : (ds : List Directive) (may_lack : Bool) (bytes : List ℕ) (s : State) → SpellsAll may_lack ds bytes
    → IsState s → IsState (fold with_directive s ds)
directives_valid [] may_lack bytes s g h = h
directives_valid (d ∷ ds) may_lack bytes s g h = directives_valid ds may_lack g.2 (with_directive s d) g.5 (directive_valid s d h (one_fits d g.1 g.4))

pub start_valid : (prefix : Bool) (frozen : Option Script) (start : Start) → IsStart prefix frozen start → IsState ((begun start).so_far).state
start_valid prefix None start e = subst (λ (x : Start). IsState ((begun x).so_far).state) (sym e) (IsState-fresh prefix)
start_valid prefix (Some file) start (inl h) =
    subst (λ (x : Start). IsState ((begun x).so_far).state) (sym h.3)
    (directives_valid h.0 true (h.2).rest empty (h.2).others IsState-empty)
start_valid prefix (Some file) start (inr h) = subst (λ (x : Start). IsState ((begun x).so_far).state) (sym h.2) IsState-empty
