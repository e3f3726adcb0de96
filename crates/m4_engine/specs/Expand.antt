-- Expand: the result of expanding an input. Its point is `turn`.
-- Believed. Its law: `ExpandRules` (no bound is reached: `expand` is the one function that gives what the turns say).
-- Manual: "Macro invocation", "Macro arguments", "How m4 copies input to output".
-- A turn consumes the first token. A name with a definition is a call: it is counted, its arguments
-- are collected, it is acted on, and its result is read again. All other tokens are text.
-- Words: called, call, turn, expand.
use Rattle.std.specs.Prelude.{ℕ, suc, ◌+◌, ◌-◌, Bool, true, false, ◌&&◌, nat_lt, List, [], ◌∷◌, ◌++◌, Option, Some}
use Rattle.std.specs.Prelude.{None, length, codes, if◌then◌else◌, unwrap_or}
use Rattle.std.specs.Fmt.{decimal}
use Rattle.m4_state.specs.declared.definition.Def.{Def}
use Rattle.m4_state.specs.State.{top_of}
use Rattle.m4_input.specs.declared.token.Token.{Token}
use Rattle.m4_input.specs.declared.token.Token.TheVariants.{Name, Str, Comment, Byte, Definition, End}
use Rattle.m4_input.specs.declared.front.Unended.{Unended}
use Rattle.m4_input.specs.declared.front.Unended.TheVariants.{InString, InComment}
use Rattle.m4_input.specs.declared.front.Answer.{Answer}
use Rattle.m4_input.specs.declared.front.Answer.TheVariants.{Yes, No, Unknown}
use Rattle.m4_input.specs.declared.pushed.Pushed.{Pushed}
use Rattle.m4_input.specs.Pending.{Pending, text_of, consumed, line_length}
use Rattle.m4_input.specs.Token.{Front, Taken, Refused, More, token_at}
use Rattle.m4_input.specs.Paren.{paren_at}
use Rattle.m4_input.specs.Input.{with_pushed}
use Rattle.m4_builtins.specs.declared.place.Place.{Place}
use Rattle.m4_builtins.specs.Act.{Acted, act, needs_list}
use Rattle.m4_engine.specs.declared.ending.Cause.{Cause}
use Rattle.m4_engine.specs.declared.ending.Cause.TheVariants as causes
use Rattle.m4_engine.specs.Nesting.{Turn, Halt, GoOn, Bare, Opens, Outcome, Halted, Closed, expansion}
use Rattle.m4_engine.specs.Expansion.{RunSoFar, Limits, Call, Mode, Outside, Collecting, Expansion, Kept, Ends}
use Rattle.m4_engine.specs.Expansion.{NeedsInput, OutOfBound, Ended, place_at, with_call, reading, stop, fail, put_text}
use Rattle.m4_engine.specs.Expansion.{in_list, put_token}
use Rattle.m4_engine.specs.Args.{take_byte, role_of}

-- a value, if there is one, is inserted before the pending input
abbrev pub with_value : Option Pushed → Pending → Pending
with_value o p = elim o [ None ↦ p | Some v ↦ with_pushed v p ]

-- a text is saved for the end
abbrev pub with_saved : Option (List ℕ) → List (List ℕ) → List (List ℕ)
with_saved o saved = elim o [ None ↦ saved | Some x ↦ saved ++ x ∷ [] ]

-- the effects of a call are added
abbrev pub with_acted : Acted → RunSoFar → RunSoFar
with_acted a r = record r {
  state = a.state;
  output = r.output ++ (a.effect).output;
  messages = r.messages ++ (a.effect).messages;
  saved = with_saved (a.effect).wrap r.saved;
}

-- no newline is pending: everything is skipped, unless more may follow
abbrev pub skip_all : Bool → Expansion → Outcome Expansion Ended
skip_all true s = Halted (record { so_far = s.so_far; reason = NeedsInput })
skip_all false s = Closed (reading (consumed (length (text_of s.pending)) s.pending) s)

-- the rest of the line is skipped: n bytes, if a newline is pending
abbrev pub skip_line : Option ℕ → Expansion → Outcome Expansion Ended
skip_line None s = skip_all (s.pending).may_follow s
skip_line (Some n) s = Closed (reading (consumed n s.pending) s)

-- after a call: it ends the run, or skips the rest of the line, or its value is read before everything else
abbrev pub effected : Option ℕ → Bool → Option Pushed → Expansion → Outcome Expansion Ended
effected (Some code) skip v s = Halted (record { so_far = s.so_far; reason = Ends (causes.Exited code) })
effected None skip v s =
    if skip then skip_line (line_length (text_of s.pending)) s
    else Closed (reading (with_value v s.pending) s)

-- the effect of a call that is acted on at t
abbrev pub acted_at : Call → Expansion → Acted
acted_at c t = act c.definition c.name c.done c.place (t.so_far).state

-- the part to continue with after a call
abbrev pub kept_of : Expansion → Kept
kept_of s = record { open_calls = s.open_calls; mode = s.mode }

-- after a call that was acted on at t, if `kept` is to continue: a call is a token, so it begins the argument around it
abbrev pub after_call : Call → Expansion → Kept → Expansion
after_call c t kept = record {
  limits = t.limits;
  so_far = with_acted (acted_at c t) t.so_far;
  pending = t.pending;
  open_calls = kept.open_calls;
  mode = in_list (λ (c : Call). record c { begun = true }) kept.mode;
}

-- a call is acted on at t, with the definition that its name had before its arguments
abbrev pub called : Call → Expansion → Kept → Outcome Expansion Ended
called c t kept =
    effected ((acted_at c t).effect).exit ((acted_at c t).effect).skip
    ((acted_at c t).effect).push (after_call c t kept)

-- the list that ends at t is complete
abbrev pub join : Kept → Expansion → Outcome Expansion Ended
join kept t = elim t.mode [ Outside ↦ Closed t | Collecting c ↦ called c t kept ]

-- a call before its arguments
abbrev pub call_of : Def → List ℕ → Place → Call
call_of d x p =
    record { definition = d; name = x; place = p; done = []; parentheses = 0; begun = false; bytes = []; tokens = [] }

-- a call without a list, as a turn
abbrev pub bare : Outcome Expansion Ended → Turn Expansion Kept Ended
bare o = elim o [ Halted d ↦ Halt d | Closed s ↦ Bare s ]

-- a call within the limits; `listed` says that an argument list follows
abbrev pub collect : Bool → Call → Pending → Expansion → Turn Expansion Kept Ended
collect true c p s = Opens (kept_of s) (record s {
  pending = consumed 1 p;
  open_calls = suc s.open_calls;
  mode = Collecting c;
})
collect false c p s = bare (called c (reading p s) (kept_of s))

-- whether one more open call exceeds the limit
abbrev pub is_deep : Expansion → Bool
is_deep s = nat_lt 0 (s.limits).nesting && nat_lt (s.limits).nesting (suc s.open_calls)

-- a call above a limit of n
abbrev pub over_limit : ℕ → List ℕ → Cause → Call → Expansion → Turn Expansion Kept Ended
over_limit n what cause c s = fail s c.place (codes "more than " ++ decimal n ++ what) cause

-- a call is counted, unless there were as many as may be, and made, unless too many are open
abbrev pub call : Bool → Call → Pending → Expansion → Turn Expansion Kept Ended
call listed c p s =
    if nat_lt (s.so_far).calls (s.limits).calls then (
    if is_deep s then over_limit (s.limits).nesting (codes " nested calls") causes.NestingLimit c (with_call s)
    else collect listed c p (with_call s))
    else over_limit (s.limits).calls (codes " calls") causes.ExpansionLimit c s

-- a name with a definition, by whether an argument list follows; without one the name is text if the definition
-- is recognised only with one
abbrev pub take_call : Answer → Call → Pending → Expansion → Turn Expansion Kept Ended
take_call Unknown c p s = stop s NeedsInput
take_call Yes c p s = call true c p s
take_call No c p s =
    if needs_list c.definition then GoOn (put_text c.name (reading p s)) else call false c p s

-- a name, by its top definition
abbrev pub take_name : Option Def → List ℕ → Pending → Expansion → Turn Expansion Kept Ended
take_name None name p s = GoOn (put_text name (reading p s))
take_name (Some d) name p s =
    take_call (paren_at ((s.so_far).state).quotes ((s.so_far).state).comments p)
    (call_of d name (place_at s.pending)) p s

-- a byte that belongs to no other token
abbrev pub take_other : Mode → ℕ → Expansion → Turn Expansion Kept Ended
take_other Outside b s = GoOn (put_text (b ∷ []) s)
take_other (Collecting c) b s = take_byte (role_of b c) b c s

-- the end of the input
abbrev pub take_end : Mode → Expansion → Turn Expansion Kept Ended
take_end Outside s = stop s (Ends causes.Done)
take_end (Collecting c) s = fail s c.place (codes "end of input in argument list") causes.EndInArguments

-- a token, after which p is pending
abbrev pub take_token : Token → Pending → Expansion → Turn Expansion Kept Ended
take_token (Name x) p s = take_name (top_of (s.so_far).state x) x p s
take_token (Str x) p s = GoOn (put_text x (reading p s))
take_token (Comment x) p s = GoOn (put_text x (reading p s))
take_token (Byte b) p s = take_other s.mode b (reading p s)
take_token (Definition d) p s = GoOn (put_token d (reading p s))
take_token End p s = take_end s.mode s

-- the message text for a string or comment that has no end, and the cause
abbrev pub unended_text : Unended → List ℕ
unended_text InString = codes "end of input in string"
unended_text InComment = codes "end of input in comment"

abbrev pub unended_cause : Unended → Cause
unended_cause InString = causes.EndInString
unended_cause InComment = causes.EndInComment

-- a turn, by the result of scanning the first token
abbrev pub take_front : Front → Expansion → Turn Expansion Kept Ended
take_front (Taken t p) s = take_token t p s
take_front (Refused what line) s =
    fail s (record { file = unwrap_or (s.pending).file []; line = line }) (unended_text what)
    (unended_cause what)
take_front More s = stop s NeedsInput

-- one turn of an expansion
abbrev pub turn : Expansion → Turn Expansion Kept Ended
turn s = take_front (token_at ((s.so_far).state).quotes ((s.so_far).state).comments s.pending) s

-- the size of the pending input
abbrev pub definition_size : Option Def → ℕ
definition_size None = 0
definition_size (Some d) = 1

abbrev pub pending_size : Pending → ℕ
pending_size p = length (text_of p) + definition_size p.definition

abbrev pub size_of : Expansion → ℕ
size_of s = pending_size s.pending

-- how many more calls the limit allows
abbrev pub calls_left : Expansion → ℕ
calls_left s = (s.limits).calls - (s.so_far).calls

-- the ending if a bound is reached
abbrev pub out_of_bound_at : Expansion → Ended
out_of_bound_at s = record { so_far = s.so_far; reason = OutOfBound }

-- the result of an expansion
abbrev pub expand : Expansion → Outcome Expansion Ended
expand = expansion Expansion Kept Ended turn join out_of_bound_at size_of calls_left

-- an expansion outside of calls: it never closes a list
abbrev pub ended_of : Outcome Expansion Ended → Ended
ended_of o = elim o [ Halted d ↦ d | Closed s ↦ record { so_far = s.so_far; reason = OutOfBound } ]

-- the expansion of the pending input, outside of calls
abbrev pub expansion_of : Limits → RunSoFar → Pending → Expansion
expansion_of limits r p = record { limits = limits; so_far = r; pending = p; open_calls = 0; mode = Outside }

abbrev pub expand_input : Limits → RunSoFar → Pending → Ended
expand_input limits r p = ended_of (expand (expansion_of limits r p))
