-- How a text is read: byte by byte, after white space and after a token.
use Rattle.std.proofs.Common.{◌≡◌, ℕ, zero, suc, ◌≤◌, ◌<◌, Bool, true, false, List, [], ◌∷◌, ◌++◌, length, Option}
use Rattle.std.proofs.Common.{Some, option_and_then, refl, ap, ◌∙◌, arith, le-leb}
use Rattle.std.specs.Prelude.{⊤}
use Rattle.std.proofs.lemmas.Bool.{and_parts, lt-leb}
use Rattle.std.specs.List.{list_all}
use Rattle.m4_input.specs.Ascii.{is_space}
use Rattle.m4_eval.specs.declared.operator.Operator.{Operator}
use Rattle.m4_eval.specs.declared.operator.Operator.TheVariants.{Multiply}
use Rattle.m4_eval.specs.Expression.{Expression, Number, Group, Signed, Joined, level_of, operand_level}
use Rattle.m4_eval.specs.SpellsExpression.{AreSpaces, SpellsAt}
use Rattle.m4_eval.specs.ReadExpression.{Frame, Opened, Prefixed, Left, Reading, After, read_from, step, completed}
use Rattle.m4_eval.specs.ReadExpression.{joined_above}

-- the bytes after the first of a token
pub skipped : (front : List ℕ) (r : Reading) (rest : List ℕ)
    → read_from (length front) r (front ++ rest) ≡ read_from zero r rest
skipped [] r [] = refl
skipped [] r (b ∷ rest) = refl
skipped (b ∷ front) r rest = skipped front r rest

-- a byte, by whether it is white space
abbrev pub turn : Reading → ℕ → List ℕ → Bool → Option Expression
turn r b x t =
    elim t [
      | true ↦ read_from zero r x
      | false ↦ option_and_then (λ p. read_from p.1 p.0 x) (step r b x)
    ]

-- white space changes nothing
pub spaces : (gap : List ℕ) (r : Reading) (rest : List ℕ) → AreSpaces gap
    → read_from zero r (gap ++ rest) ≡ read_from zero r rest
spaces [] r rest h = refl
spaces (b ∷ gap) r rest h =
    let p = and_parts (is_space b) (list_all is_space gap) h in
    ap (turn r b (gap ++ rest)) p.0 ∙ spaces gap r rest p.1

-- another byte is a step
pub at_byte : (r : Reading) (b : ℕ) (x : List ℕ) → is_space b ≡ false
    → read_from zero r (b ∷ x) ≡ option_and_then (λ p. read_from p.1 p.0 x) (step r b x)
at_byte r b x h = ap (turn r b x) h

-- a token of some bytes is a step from one reading to another
pub at_token : (r after : Reading) (b : ℕ) (more rest : List ℕ) → is_space b ≡ false
    → step r b (more ++ rest) ≡ Some (after, length more)
    → read_from zero r (b ∷ more ++ rest) ≡ read_from zero after rest
at_token r after b more rest h e =
    at_byte r b (more ++ rest) h
    ∙ ap (option_and_then (λ p. read_from p.1 p.0 (more ++ rest))) e ∙ skipped more after rest

pub level_most : (o : Operator) → level_of o < operand_level
level_most Multiply = omega arith
level_most _ = omega arith

pub level_least : (o : Operator) → 1 ≤ level_of o
level_least Multiply = omega arith
level_least _ = omega arith

-- the least level of an operand after the open parts
abbrev pub floor : List Frame → ℕ
floor [] = 1
floor (Opened ∷ w) = 1
floor (Prefixed s ∷ w) = operand_level
floor (Left d o ∷ w) = suc (level_of o)

-- the innermost open part is not a sign
abbrev pub HasNoSign : List Frame → Type 0
HasNoSign [] = ⊤
HasNoSign (Opened ∷ w) = ⊤
HasNoSign (Prefixed s ∷ w) = ⊥
HasNoSign (Left d o ∷ w) = ⊤

pub no_sign : (w : List Frame) (o : Operator) → floor w ≤ level_of o → HasNoSign w
no_sign [] o h = tt
no_sign (Opened ∷ w) o h = tt
no_sign (Prefixed s ∷ w) o h = let m = level_most o in let never : ⊥ = omega arith in never
no_sign (Left d p ∷ w) o h = tt

-- an operand with no open sign before it
pub completed_is : (w : List Frame) (e : Expression) → HasNoSign w → completed w e ≡ After w e
completed_is [] e h = refl
completed_is (Opened ∷ w) e h = refl
completed_is (Prefixed s ∷ w) e h = absurd h
completed_is (Left d o ∷ w) e h = refl

-- by cases on the innermost open part
abbrev joined_case : ℕ → List Frame → Expression → Operator → Expression → Bool → List Frame × Expression
joined_case level w d o e t =
    elim t [
      | true ↦ joined_above level w (Joined o d e)
      | false ↦ (Left d o ∷ w, e)
    ]

-- a looser operator stays open
pub waits : (level : ℕ) (w : List Frame) (e : Expression) → floor w ≤ level
    → joined_above level w e ≡ (w, e)
waits level [] e h = refl
waits level (Opened ∷ w) e h = refl
waits level (Prefixed s ∷ w) e h = refl
waits level (Left d o ∷ w) e h = ap (joined_case level w d o e) (lt-leb level (level_of o) h)

-- one that is not looser is joined
pub joins : (level : ℕ) (w : List Frame) (d : Expression) (o : Operator) (e : Expression) → level ≤ level_of o
    → joined_above level (Left d o ∷ w) e ≡ joined_above level w (Joined o d e)
joins level w d o e h = ap (joined_case level w d o e) (le-leb level (level_of o) h)

-- a spelling at a tighter level is one at a looser level too
pub looser : (e : Expression) (m n : ℕ) (text : List ℕ) → n ≤ m → SpellsAt m e text → SpellsAt n e text
looser (Number v) m n text h s = s
looser (Group e) m n text h s = s
looser (Signed g e) m n text h s = s
looser (Joined o d e) m n text h s =
    let l : n ≤ level_of o = omega (arith, s.3) in (s.0, s.1, s.2, l, s.4, s.5, s.6, s.7)
