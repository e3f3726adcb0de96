-- SpellsExpression: which texts are an expression. Its point is `SpellsExpression`.
-- Believed. Its law: `OneExpression` (a text spells at most one). Manual: "Evaluating integer
-- expressions". Words: AreSpaces, SpellsAt, SpellsExpression.
-- own: operators of one level group to the left; white space may be before each token and after the
-- last one, but not inside a token. That the longest operator is read needs no rule: no operand begins
-- with a byte that could continue an operator.
use Rattle.std.specs.Prelude.{◌≡◌, ℕ, suc, ◌≤◌, List, [], ◌∷◌, ◌++◌, IsTrue}
use Rattle.std.specs.List.{list_all}
use Rattle.m4_input.specs.Ascii.{is_space, open_parenthesis, close_parenthesis}
use Rattle.m4_eval.specs.Literal.{IsLiteral}
use Rattle.m4_eval.specs.Expression.{Expression, Number, Group, Signed, Joined, byte_of, symbol_of, level_of}
use Rattle.m4_eval.specs.Expression.{operand_level}

-- white space, perhaps none
abbrev pub AreSpaces : List ℕ → Type 0
AreSpaces bytes = IsTrue (list_all is_space bytes)

-- The spellings of an expression, if its operators have to bind at least as tightly as a level. The left operand of an
-- operator is at the operator's own level, the right one at the next: so operators of one level group to the left.
abbrev pub SpellsAt : ℕ → Expression → List ℕ → Type 0
SpellsAt level (Number n) text = (gap literal : List ℕ) × AreSpaces gap × IsLiteral n literal × (text ≡ gap ++ literal)
SpellsAt level (Group e) text =
    (gap inner end : List ℕ) × AreSpaces gap × SpellsAt 1 e inner × AreSpaces end
    × (text ≡ gap ++ open_parenthesis ∷ inner ++ end ++ close_parenthesis ∷ [])
SpellsAt level (Signed s e) text =
    (gap operand : List ℕ) × AreSpaces gap × SpellsAt operand_level e operand × (text ≡ gap ++ byte_of s ∷ operand)
SpellsAt level (Joined o d e) text =
    (left gap right : List ℕ) × (level ≤ level_of o) × SpellsAt (level_of o) d left × AreSpaces gap
    × SpellsAt (suc (level_of o)) e right × (text ≡ left ++ gap ++ symbol_of o ++ right)

-- a complete text
abbrev pub SpellsExpression : Expression → List ℕ → Type 0
SpellsExpression e text = (front end : List ℕ) × SpellsAt 1 e front × AreSpaces end × (text ≡ front ++ end)
