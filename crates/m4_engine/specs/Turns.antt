-- Turns: one turn of the machine and its steps, as a move of the definitions.
-- Not believed: it connects the code with `Expand`; the turns' lemmas prove that they agree.
use Rattle.std.specs.Prelude.{◌≡◌, Option, None, Some, ℕ, Bool, true, false, List, [], ◌∷◌, Result, Ok, IfOk, OnOk}
use Rattle.m4_input.specs.Pending.{Pending, text_of, line_length}
use Rattle.m4_engine.specs.Expansion.{Call, Kept, Expansion, Ended, Ends, NeedsInput}
use Rattle.m4_input.specs.declared.pushed.Pushed.{Pushed}
use Rattle.m4_input.specs.declared.pushed.Pushed.TheVariants as pushes
use Rattle.m4_input.specs.Input.{Held, longer}
use Rattle.m4_engine.specs.declared.ending.Cause.{Cause}
use Rattle.m4_engine.specs.declared.ending.Cause.TheVariants as causes
use Rattle.m4_engine.specs.declared.turned.Turned.{Turned}
use Rattle.m4_builtins.specs.declared.effect.Effect.{Effect}
use Rattle.m4_builtins.specs.declared.fault.BuiltinFault.{BuiltinFault as TurnFault}
use Rattle.m4_engine.specs.declared.turned.TurnEnd.{TurnEnd}
use Rattle.m4_engine.specs.declared.turned.TurnEnd.TheVariants as turn_ends
use Rattle.m4_engine.specs.declared.turned.Turned.TheVariants as turns
use Rattle.m4_engine.specs.Args.{end_argument}
use Rattle.m4_engine.specs.Nesting.{Turn, GoOn, Close, Halted}
use Rattle.m4_engine.specs.OpenCalls.{Move, Stops, Goes, pop, take_turn}
pub use Rattle.m4_engine.specs.Moments.{moved}
use Rattle.m4_engine.specs.Expand.{turn, join, called, with_value, skip_line}
use Rattle.m4_engine.specs.Engine.{Engine, so_far_of, kept_in, outer_of, here_of, configuration, with_open_call}
use Rattle.m4_engine.specs.Engine.{IsReady}

-- a turn's effect on the stack of open calls
abbrev pub step : List Kept → Turn Expansion Kept Ended → Move Expansion Kept Ended
step fs v = take_turn Expansion Kept Ended turn join fs v

-- what may follow the bytes in hand: bytes, and more after these or not; nothing follows an end that is closed
abbrev pub MayFollow : Bool → List ℕ → Bool → Type 0
MayFollow true z more = Unit {0}
MayFollow false z more = (z ≡ []) × (more ≡ false)

-- the definitions' move, by what follows the bytes in hand, and by what was flushed
abbrev pub Moving : Type 0
Moving = List ℕ → Bool → List ℕ → List ℕ → Move Expansion Kept Ended

-- a pending input, by what follows the bytes in hand
abbrev pub Extended : Type 0
Extended = List ℕ → Bool → Pending

-- a call's value, if it has one, is read before everything else, whatever follows
abbrev pub Pushes : Pending → Pending → Option Pushed → Type 0
Pushes p p' value = (z : List ℕ) (more : Bool) → with_value value (longer z more p) ≡ longer z more p'

-- the rest of the line is skipped, inside these open calls
abbrev pub line_move : List Call → Expansion → Move Expansion Kept Ended
line_move cs s = pop Expansion Kept Ended turn join (outer_of cs) (skip_line (line_length (text_of s.pending)) s)

-- the cause by which a turn ends an expansion
abbrev pub cause_of_end : TurnEnd → Cause
cause_of_end turn_ends.Done = causes.Done
cause_of_end (turn_ends.Exited code) = causes.Exited code
cause_of_end turn_ends.EndInString = causes.EndInString
cause_of_end turn_ends.EndInComment = causes.EndInComment
cause_of_end turn_ends.EndInArguments = causes.EndInArguments
cause_of_end turn_ends.ExpansionLimit = causes.ExpansionLimit
cause_of_end turn_ends.NestingLimit = causes.NestingLimit

-- the machine and the result after a turn agree with f, the definitions' move, whatever follows the bytes in
-- hand; `may` says whether anything may
abbrev pub Moves : Bool → Engine → Pending → Turned → Moving → Type 0
Moves may e p turns.GoesOn f =
    (z : List ℕ) (more : Bool) → MayFollow may z more
    → (o m : List ℕ) → f z more o m ≡ Goes (configuration o m e (longer z more p))
Moves may e p turns.SkipsLine f =
    (z : List ℕ) (more : Bool) → MayFollow may z more
    → (o m : List ℕ) → f z more o m ≡ line_move e.open_calls (here_of o m e (longer z more p))
Moves may e p turns.NeedsMore f = Unit {0}
Moves may e p (turns.Ends end) f =
    (z : List ℕ) (more : Bool) → MayFollow may z more
    → (o m : List ℕ) → f z more o m ≡ Stops (Halted (record
    { so_far = so_far_of o m e; reason = Ends (cause_of_end end) }))

-- the outcome of a call, as a move, inside these open calls
abbrev pub called_within : List Call → Call → Expansion → Move Expansion Kept Ended
called_within cs c s = pop Expansion Kept Ended turn join (outer_of cs) (called c s (kept_in cs))

-- a step of a turn leaves the input ready, and asks no reader
pub record Stays (old new : Held) : Type 0 where
  pub ready : IsReady new
  pub follows : (new.pending).may_follow ≡ (old.pending).may_follow
  pub file : (new.pending).file ≡ (old.pending).file

-- the premise of each step of a turn: the first token was consumed
pub record IsTaken (i : Held) : Type 0 where
  pub ready : IsReady i
  pub taken : (i.pending).definition ≡ None

-- a step after the first token needs no more bytes
abbrev pub IsMade : Turned → Type 0
IsMade turns.NeedsMore = ⊥
IsMade t = Unit {0}

-- the outcome of each step of a turn, if no allocation fails: the definitions' move, and the limits
pub record Makes (result : Result Turned TurnFault) (old new : Engine) (to : Turned → Type 0) : Type 0 where
  pub moves : IfOk result to
  pub limits : OnOk result (new.limits ≡ old.limits)
  pub made : IfOk result IsMade

-- the input after a turn that does not end the expansion
abbrev pub StaysBy : Held → Held → Turned → Type 0
StaysBy i j (turns.Ends end) = Unit {0}
StaysBy i j t = Stays i j

-- the same; and if the expansion continues, the input is ready
pub record Steps (result : Result Turned TurnFault) (old new : Engine) (i j : Held)
    (to : Turned → Type 0) : Type 0 where
  pub moves : IfOk result to
  pub ready : IfOk result (StaysBy i j)
  pub limits : OnOk result (new.limits ≡ old.limits)
  pub made : IfOk result IsMade

-- the definitions' move at the place where the machine is, whatever follows the bytes in hand
abbrev pub StepsBy : Result Turned TurnFault → Engine → Engine → Held → Held → (Expansion → Move Expansion Kept Ended)
    → Type 0
StepsBy result old new i j f = Steps result old new i j (λ t. Moves (i.pending).may_follow new j.pending t
    (λ z more o m. f (here_of o m old (longer z more i.pending))))

-- the innermost list is closed
abbrev pub close_in : List Call → Expansion → Turn Expansion Kept Ended
close_in [] s = GoOn s
close_in (c ∷ cs) s = Close (end_argument c s)

-- the effect of a call, if a text that is its own expansion was left to be pushed
abbrev pub with_own : Option (List ℕ) → Effect → Effect
with_own None v = v
with_own (Some text) v = record v { push = Some (pushes.Text text) }

-- what a call left to do was done, and the outcome of its turn is so
abbrev pub IsGiven : Turned → Effect → Held → Held → Type 0
IsGiven turns.GoesOn v i j =
    (v.exit ≡ None) × (v.skip ≡ false) × Pushes i.pending j.pending v.push × Stays i j
IsGiven turns.SkipsLine v i j = (v.exit ≡ None) × (v.skip ≡ true) × (j ≡ i)
IsGiven turns.NeedsMore v i j = ⊥
IsGiven (turns.Ends end) v i j = (code : ℕ) × (end ≡ turn_ends.Exited code) × (v.exit ≡ Some code) × (j ≡ i)

-- a turn that needs more bytes: nothing was done, and the bytes in hand don't decide the definitions' turn
pub record Needs (old new : Engine) (i j : Held) : Type 0 where
  pub engine : new ≡ old
  pub input : j ≡ i
  pub follows : (i.pending).may_follow ≡ true
  pub undecided : (o m : List ℕ) → moved (configuration o m old i.pending)
      ≡ Stops (Halted (record { so_far = so_far_of o m old; reason = NeedsInput }))

abbrev pub IsTurned : Engine → Engine → Held → Held → Turned → Type 0
IsTurned old new i j turns.NeedsMore = Needs old new i j
IsTurned old new i j t = IsMade t

-- the outcome of a turn, if no allocation fails
pub record Turns (result : Result Turned TurnFault) (old new : Engine) (i j : Held) : Type 0 where
  pub moves : IfOk result (λ t. Moves (i.pending).may_follow new j.pending t
      (λ z more o m. moved (configuration o m old (longer z more i.pending))))
  pub ready : IfOk result (StaysBy i j)
  pub limits : OnOk result (new.limits ≡ old.limits)
  pub made : IfOk result (IsTurned old new i j)

-- a turn up to a call whose arguments are complete: that call is the innermost, and to make it completes the turn
pub record Completes (old mid : Engine) (i k : Held) : Type 0 where
  pub call : Call
  pub around : Engine
  pub innermost : mid ≡ with_open_call call around
  pub output : mid.output ≡ old.output
  pub taken : IsTaken k
  pub turns : (result : Result Turned TurnFault) (new : Engine) (j : Held)
      → StepsBy result around new k j (called_within around.open_calls call) → Turns result old new i j

-- a turn was made, or all of it but such a call
abbrev pub Begins : Option Turned → Engine → Engine → Held → Held → Type 0
Begins (Some t) old new i j = Turns (Ok t) old new i j
Begins None old new i j = Completes old new i j
