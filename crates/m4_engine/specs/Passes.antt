-- Passes: tokens that call nothing, taken many at once, as the turns that they stand for.
-- Not believed: it connects the engine's passes with its turns.
use Rattle.std.specs.Prelude.{◌≡◌, Option, None, Some, IfSome, ℕ, ◌+◌, Bool, List, [], ◌∷◌, length, take, drop}
use Rattle.std.specs.Prelude.{◌<◌, ◌≤◌, ◌⊎◌}
use Rattle.m4_input.specs.Pending.{text_of, consumed}
use Rattle.m4_engine.specs.Plain.{IsPut, IsPlainRun}
use Rattle.m4_engine.specs.Collected.{IsListRun}
use Rattle.m4_engine.specs.Expansion.{Call}
use Rattle.m4_input.specs.Input.{Held}
use Rattle.m4_engine.specs.declared.lookahead.Lookahead.{Lookahead}
use Rattle.m4_engine.specs.Lookahead.{IsNext, IsLookaheadOf, IsAfter}
use Rattle.m4_engine.specs.declared.token_sink.Taken.{Taken}
use Rattle.m4_engine.specs.declared.token_sink.Taken.TheVariants as takens
use Rattle.m4_engine.specs.Engine.{Engine, put_in, IsReady}

-- P is so of the end, if a sink took a token
abbrev pub IfUpTo : {L : Type 0} → Taken L → (ℕ → Type 0) → Type 0
IfUpTo (takens.UpTo end) P = P end
IfUpTo (takens.Left token) P = Unit {0}

-- P is so of what a sink left, if it left a token
abbrev pub IfLeft : {L : Type 0} → Taken L → (L → Type 0) → Type 0
IfLeft (takens.UpTo end) P = Unit {0}
IfLeft (takens.Left token) P = P token

-- outside of calls: the first n bytes of a text are plain tokens, and were added where text goes: to the output, to a
-- diversion, or nowhere
pub record PassesPlain (m : Bool) (n : ℕ) (x : List ℕ) (old new : Engine) : Type 0 where
  pub plain : IsPlainRun old.state m n x
  pub outside : old.open_calls ≡ []
  pub engine : new ≡ put_in [] (take n x) old

-- in a list: the first n bytes change the innermost call alone, and were taken into it
pub record PassesInner (m : Bool) (n : ℕ) (x : List ℕ) (old new : Engine) : Type 0 where
  pub innermost : Call
  pub after : Call
  pub around : List Call
  pub collected : IsListRun old.state m n innermost after x
  pub inside : old.open_calls ≡ innermost ∷ around
  pub engine : new ≡ record old { open_calls = after ∷ around }

-- outside of calls: plain tokens, and then one whose text was added there: of a string what is between its quotes
pub record PassesToken (m : Bool) (n : ℕ) (x : List ℕ) (old new : Engine) : Type 0 where
  pub before : ℕ
  pub plain : IsPlainRun old.state m before x
  pub text : List ℕ
  pub len : ℕ
  pub found : IsPut old.state m len text (drop before x)
  pub all : n ≡ before + len
  pub outside : old.open_calls ≡ []
  pub engine : new ≡ put_in [] text (put_in [] (take before x) old)

-- the first n bytes of a text are such tokens, and were added where they go
abbrev pub PassesText : Bool → ℕ → List ℕ → Engine → Engine → Type 0
PassesText m n x old new = PassesPlain m n x old new ⊎ (PassesInner m n x old new ⊎ PassesToken m n x old new)

-- the same of what is pending, with no definition before it
pub record PassesPending (old new : Engine) (i j : Held) : Type 0 where
  pub len : ℕ
  pub first : (i.pending).definition ≡ None
  pub text : PassesText (i.pending).may_follow len (text_of i.pending) old new
  pub input : j ≡ record i { pending = consumed len i.pending }

-- such tokens were passed, or nothing was done
abbrev pub PassesOnce : Engine → Engine → Held → Held → Type 0
PassesOnce old new i j = ((new ≡ old) × (j ≡ i)) ⊎ PassesPending old new i j

-- and so on: after each pass the engine and the input
abbrev pub ArePasses : List (Engine × Held) → Engine → Engine → Held → Held → Type 0
ArePasses [] old new i j = (new ≡ old) × (j ≡ i)
ArePasses (s ∷ ss) old new i j = PassesOnce old s.0 i s.1 × ArePasses ss s.0 new s.1 j

abbrev pub Passes : Engine → Engine → Held → Held → Type 0
Passes old new i j = (ss : List (Engine × Held)) × ArePasses ss old new i j

-- j is the input i after its next token, for which the lookahead is right, with the next call
pub record IsSeen (a : Lookahead) (c : Call) (e : Engine) (i j : Held) : Type 0 where
  pub len : ℕ
  pub ready : IsReady i
  pub token : IsLookaheadOf a len e.open_calls c e.state i.pending
  pub after : IsAfter a len i j

-- a block of output is full
abbrev pub IsFull : Engine → Type 0
IsFull e = 65536 ≤ length e.output

-- a pass over a text, after which more bytes may come, ends at the next token, of which t bytes are consumed; or it
-- found none, since a block of output is full, or some bytes were passed
pub record PassesBy (n t : ℕ) (a : Option Lookahead) (c : Call) (x : List ℕ) (more : Bool) (old new : Engine)
    : Type 0 where
  pub passes : PassesText more n x old new
  pub within : n ≤ length x
  pub end : IfSome a (λ v. IsNext v t new.open_calls c new.state more (drop n x))
  pub none : a ≡ None → (t ≡ 0) × ((0 < n) ⊎ IsFull new)

-- passes end at a full block of output, or after the next token
abbrev pub PassesTo : Option Lookahead → Call → Engine → Engine → Held → Held → Type 0
PassesTo None c old new i j = Passes old new i j × IsFull new
PassesTo (Some a) c old new i j = (k : Held) × Passes old new i k × IsSeen a c new k j
