-- Engine: a run between two turns, as the machine represents it.
-- Not believed: it connects the code with `Expand`; the turns' lemmas prove that they agree.
use Rattle.std.specs.Fmt.{decimal}
use Rattle.std.specs.Prelude.{◌≡◌, codes, nat_lt, not, ◌&&◌, suc, Option, Some, None, ℕ, Bool, true, false, List, []}
use Rattle.std.specs.Prelude.{◌∷◌, ◌++◌, length}
use Rattle.m4_state.specs.declared.definition.Def.{Def}
use Rattle.m4_state.specs.State.{State, appended}
use Rattle.m4_input.specs.Pending.{Pending}
use Rattle.m4_builtins.specs.declared.place.Place.{Place}
use Rattle.m4_builtins.specs.Messages.{dropped}
use Rattle.m4_engine.specs.Expansion.{Call, Limits, RunSoFar, Mode, Outside, Collecting, Kept, Expansion, issued}
use Rattle.m4_state.specs.Definition.{IsDefinition}
use Rattle.m4_input.specs.Input.{Held}
use Rattle.m4_engine.specs.Args.{dropped_if_any, with_argument}
use Rattle.m4_engine.specs.OpenCalls.{Stacked}
use Rattle.m4_engine.specs.Expand.{with_saved}

-- the warning on dropped definitions, if there were any
abbrev pub warning_if_dropped : Bool → Place → List ℕ
warning_if_dropped true p = dropped p
warning_if_dropped false p = []

-- a run as the machine represents it: the calls whose lists are open, the innermost first; and the output
-- and the messages that were not flushed yet
pub record Engine : Type 0 where
  pub limits : Limits
  pub state : State
  pub saved : List (List ℕ)
  pub calls : ℕ
  pub open_calls : List Call
  pub output : List ℕ
  pub messages : List ℕ

-- a run so far: o and m were flushed, the rest is still buffered
abbrev pub so_far_of : List ℕ → List ℕ → Engine → RunSoFar
so_far_of o m e = record {
  state = e.state;
  output = o ++ e.output;
  messages = m ++ e.messages;
  saved = e.saved;
  calls = e.calls;
}

-- where text goes
abbrev pub mode_of : List Call → Mode
mode_of [] = Outside
mode_of (c ∷ cs) = Collecting c

-- the part to continue with after a call that is nested in these
abbrev pub kept_in : List Call → Kept
kept_in cs = record { open_calls = length cs; mode = mode_of cs }

-- the part to continue with after each of these
abbrev pub outer_of : List Call → List Kept
outer_of [] = []
outer_of (c ∷ cs) = kept_in cs ∷ outer_of cs

-- the state of the expansion
abbrev pub here_of : List ℕ → List ℕ → Engine → Pending → Expansion
here_of o m e p = record {
  limits = e.limits;
  so_far = so_far_of o m e;
  pending = p;
  open_calls = length e.open_calls;
  mode = mode_of e.open_calls;
}

-- the machine as the definitions' stack of open calls
abbrev pub configuration : List ℕ → List ℕ → Engine → Pending → Stacked Expansion Kept
configuration o m e p = record { outer = outer_of e.open_calls; here = here_of o m e p }

-- text added where it goes
abbrev pub put_in : List Call → List ℕ → Engine → Engine
put_in [] x e = record e { state = appended e.state x; output = e.output ++ issued (e.state).current x }
put_in (c ∷ cs) x e = record e { open_calls = record c { begun = true; bytes = c.bytes ++ x } ∷ cs }

abbrev pub with_text : List ℕ → Engine → Engine
with_text x e = put_in e.open_calls x e

-- one more message
abbrev pub with_engine_message : List ℕ → Engine → Engine
with_engine_message x e = record e { messages = e.messages ++ x }

-- one more call counted
abbrev pub with_one_call : Engine → Engine
with_one_call e = record e { calls = suc e.calls }

-- one more list open
abbrev pub with_open_call : Call → Engine → Engine
with_open_call c e = record e { open_calls = c ∷ e.open_calls }

-- an input without a fault; if a definition is its first token, it is valid
abbrev pub IsFront : Option Def → Type 0
IsFront None = Unit {0}
IsFront (Some d) = IsDefinition d

pub record IsReady (i : Held) : Type 0 where
  pub sound : i.fault ≡ None
  pub front : IsFront (i.pending).definition

-- the effects of a call are added where they go; a call is a token of the argument around it
abbrev pub begun_in : List Call → List Call
begun_in [] = []
begun_in (c ∷ cs) = record c { begun = true } ∷ cs

abbrev pub with_made : List ℕ → List ℕ → Option (List ℕ) → Engine → Engine
with_made messages output wrap e = record e {
  output = e.output ++ output;
  messages = e.messages ++ messages;
  saved = with_saved wrap e.saved;
  open_calls = begun_in e.open_calls;
}

-- P of the innermost call, if a list is open
abbrev pub IfHead : List Call → (Call → Type 0) → Type 0
IfHead [] P = Unit {0}
IfHead (c ∷ cs) P = P c

-- the innermost call with its argument complete
abbrev pub ending_in : List Call → Engine → Engine
ending_in [] e = e
ending_in (c ∷ cs) e = record e {
  messages = e.messages ++ dropped_if_any c.place c.bytes c.tokens;
  open_calls = with_argument c ∷ cs;
}

abbrev pub ending_argument : Engine → Engine
ending_argument e = ending_in e.open_calls e

-- whether one more open call exceeds the limit
abbrev pub is_deep_in : Engine → Bool
is_deep_in e = nat_lt 0 (e.limits).nesting && nat_lt (e.limits).nesting (suc (length e.open_calls))

-- the message text for a call that a limit refuses
abbrev pub calls_text : ℕ → List ℕ
calls_text n = codes "more than " ++ decimal n ++ codes " calls"

abbrev pub nested_text : ℕ → List ℕ
nested_text n = codes "more than " ++ decimal n ++ codes " nested calls"

-- all buffers were flushed
abbrev pub after_flush : Engine → Engine
after_flush e = record e { output = []; messages = [] }

-- a new engine
abbrev pub engine_at : State → ℕ → ℕ → Engine
engine_at s calls nesting = record {
  limits = record { calls = calls; nesting = nesting };
  state = s;
  saved = [];
  calls = 0;
  open_calls = [];
  output = [];
  messages = [];
}

-- a text that begins with this one
pub record HasFront (front all : List ℕ) : Type 0 where
  pub more : List ℕ
  pub parts : all ≡ front ++ more

-- the buffered output is still there, perhaps with more after it
abbrev pub KeepsOutput : Engine → Engine → Type 0
KeepsOutput old new = HasFront old.output new.output

-- whether the limits allow a call
abbrev pub allows_call : Engine → Bool
allows_call e = nat_lt e.calls (e.limits).calls && not (is_deep_in e)
