-- Lookahead: the next token, as it was recognised before a turn consumes it.
-- Not believed: it connects the code with `Expand`; the turns' lemmas prove that they agree.
-- Words: IsExpansion, IsCalled, Recognises, len_with, IsNamed, IsNameTaken, IsAhead, IsRare, IsFirst, IsLeftOutside,
-- IsEndByte, IsEndIn, IsNext, IsLookaheadOf, IsAfter.
use Rattle.std.specs.Prelude.{◌≡◌, ◌≢◌, ◌<◌, ◌≤◌, ◌+◌, Bool, true, false, ℕ, List, [], ◌∷◌, None, Some, length}
use Rattle.std.specs.Prelude.{take, drop}
use Rattle.m4_state.specs.declared.builtin.Builtin.TheVariants.{Dnl}
use Rattle.m4_state.specs.declared.definition.Def.TheVariants.{Text, Builtin}
use Rattle.m4_state.specs.State.{State, top_of}
use Rattle.m4_input.specs.declared.front.Scan.TheVariants.{Found, Broken}
use Rattle.m4_input.specs.declared.token.Token.TheVariants.{Name, Byte, End}
use Rattle.m4_input.specs.declared.front.Unended.TheVariants.{InString, InComment}
use Rattle.m4_input.specs.Pending.{Pending, text_of, consumed}
use Rattle.m4_input.specs.Token.{scan}
use Rattle.m4_input.specs.Paren.{paren_in}
use Rattle.m4_input.specs.Input.{Held, answer_of}
use Rattle.m4_state.specs.declared.definition.Def.{Def}
use Rattle.m4_builtins.specs.Act.{needs_list}
use Rattle.m4_builtins.specs.Subst.{subst}
use Rattle.m4_engine.specs.Collected.{IsText, IsListEnd}
use Rattle.m4_engine.specs.Expansion.{Call}
use Rattle.m4_engine.specs.Plain.{IsPut, IsUndecided}
use Rattle.m4_engine.specs.declared.lookahead.Lookahead.{Lookahead}
use Rattle.m4_engine.specs.declared.lookahead.Lookahead.TheVariants as aheads
use Rattle.m4_engine.specs.declared.lookahead.FirstToken.{FirstToken}
use Rattle.m4_engine.specs.declared.lookahead.FirstToken.TheVariants as firsts
use Rattle.m4_engine.specs.declared.outside.LeftOutside.{LeftOutside}
use Rattle.m4_engine.specs.declared.outside.LeftOutside.TheVariants as lefts
use Rattle.m4_engine.specs.declared.role.ListEnd.{ListEnd}
use Rattle.m4_engine.specs.declared.role.ListEnd.TheVariants as ends

-- c has the definition of a text macro, whose text is its expansion if it is called without a list
abbrev pub IsExpansion : Call → State → List ℕ → Type 0
IsExpansion c s name =
    (text : List ℕ) × (top_of s name ≡ Some (Text text)) × (text ≡ subst text name [] s.quotes)
    × (c.definition ≡ Text text)

-- c has a name and its definition
abbrev pub IsCalled : Call → State → List ℕ → Type 0
IsCalled c s name = (top_of s name ≡ Some c.definition) × (c.name ≡ name)

-- a name is recognised: it has a definition, which needs no list if none follows
abbrev pub Recognises : Bool → State → List ℕ → Type 0
Recognises listed s name =
    (f : Def) × (top_of s name ≡ Some f) × (listed ≡ false → needs_list f ≡ false)

-- how many bytes a name and the parenthesis after it have, if a list follows
abbrev pub len_with : Bool → ℕ → ℕ
len_with true n = n + 1
len_with false n = n

-- the first token of a text is a name of n bytes, after which a list follows or not
pub record IsNamed (n : ℕ) (listed : Bool) (s : State) (m : Bool) (x : List ℕ) : Type 0 where
  pub scanned : scan s.quotes s.comments m x ≡ Found (Name (take n x)) n
  pub within : n ≤ length x
  pub list : paren_in s.quotes s.comments m (drop n x) ≡ answer_of listed

-- j is the input i after a name that P is so of, with the parenthesis after it if a list follows
pub record IsNameTaken (listed : Bool) (P : List ℕ → Type 0) (s : State) (i j : Held) : Type 0 where
  pub len : ℕ
  pub first : (i.pending).definition ≡ None
  pub named : IsNamed len listed s (i.pending).may_follow (text_of i.pending)
  pub called : P (take len (text_of i.pending))
  pub after : j ≡ record i { pending = consumed (len_with listed len) i.pending }

-- the lookahead, with the next call c, is right for the first token of a text, of which a pass consumes n bytes, in any
-- list
abbrev pub IsAhead : Lookahead → ℕ → Call → State → Bool → List ℕ → Type 0
IsAhead aheads.Definition n c s m x = ⊥
IsAhead aheads.EndsArgument n c s m x = ⊥
IsAhead aheads.ClosesList n c s m x = ⊥
IsAhead aheads.Expansion n c s m x = IsNamed n false s m x × IsExpansion c s (take n x)
IsAhead aheads.LineSkip n c s m x = IsNamed n false s m x × (top_of s (take n x) ≡ Some (Builtin Dnl))
IsAhead aheads.Call n c s m x = IsNamed n false s m x × IsCalled c s (take n x)
IsAhead aheads.List n c s m x = (k : ℕ) × (n ≡ len_with true k) × IsNamed k true s m x × IsCalled c s (take k x)
IsAhead aheads.End n c s m x = (n ≡ 0) × (scan s.quotes s.comments m x ≡ Found End 0)
IsAhead aheads.UnendedString n c s m x = (n ≡ 0) × (scan s.quotes s.comments m x ≡ Broken InString)
IsAhead aheads.UnendedComment n c s m x = (n ≡ 0) × (scan s.quotes s.comments m x ≡ Broken InComment)
IsAhead aheads.Undecided n c s m x = (n ≡ 0) × IsUndecided s m x

-- few turns find this token
abbrev pub IsRare : Lookahead → Type 0
IsRare aheads.ClosesList = ⊥
IsRare aheads.Expansion = ⊥
IsRare aheads.LineSkip = ⊥
IsRare aheads.Call = ⊥
IsRare aheads.List = ⊥
IsRare a = Unit {0}

-- the token, with the next call c, is the first one of a text
abbrev pub IsFirst : FirstToken → Call → State → Bool → List ℕ → Type 0
IsFirst (firsts.Text begin len n) c s m x =
    IsText s m n (take len (drop begin x)) x × (begin + len ≤ length x) × (n ≤ length x)
IsFirst (firsts.Byte b) c s m x = (scan s.quotes s.comments m x ≡ Found (Byte b) 1) × (0 < length x)
IsFirst (firsts.Other a n) c s m x = IsAhead a n c s m x

-- outside of calls this is left of the first token of a text: the token, or n bytes of which a part is put
abbrev pub IsLeftOutside : LeftOutside → Call → State → Bool → List ℕ → Type 0
IsLeftOutside (lefts.Other a n) c s m x = IsAhead a n c s m x
IsLeftOutside (lefts.Text begin len n) c s m x =
    IsPut s m n (take len (drop begin x)) x × (begin + len ≤ length x) × (n ≤ length x)

-- the first token of a text is a byte that ends the argument or the list of an open call
pub record IsEndByte (end : ListEnd) (d : Call) (s : State) (m : Bool) (x : List ℕ) : Type 0 where
  pub byte : ℕ
  pub scanned : scan s.quotes s.comments m x ≡ Found (Byte byte) 1
  pub ends : IsListEnd end byte d

-- the same of the innermost of these open calls
abbrev pub IsEndIn : ListEnd → List Call → State → Bool → List ℕ → Type 0
IsEndIn end [] s m x = ⊥
IsEndIn end (d ∷ ds) s m x = IsEndByte end d s m x

-- the same inside of these open calls
abbrev pub IsNext : Lookahead → ℕ → List Call → Call → State → Bool → List ℕ → Type 0
IsNext aheads.EndsArgument n cs c s m x = (n ≡ 1) × IsEndIn ends.Argument cs s m x
IsNext aheads.ClosesList n cs c s m x = (n ≡ 1) × IsEndIn ends.List cs s m x
IsNext a n cs c s m x = IsAhead a n c s m x

-- the lookahead is right for the next token of an input
abbrev pub IsLookaheadOf : Lookahead → ℕ → List Call → Call → State → Pending → Type 0
IsLookaheadOf aheads.Definition n cs c s p = p.definition ≢ None
IsLookaheadOf a n cs c s p = (p.definition ≡ None) × IsNext a n cs c s p.may_follow (text_of p)

-- j is the input i after n bytes of its next token; of a definition nothing is consumed
abbrev pub IsAfter : Lookahead → ℕ → Held → Held → Type 0
IsAfter aheads.Definition n i j = j ≡ i
IsAfter a n i j = j ≡ record i { pending = consumed n i.pending }
