-- Expression: the syntax of an expression, one constructor for each production of the grammar.
-- Believed. Manual: "Evaluating integer expressions". Words: Expression, byte_of, operator_row.
-- own: no `**`, no assignments, no `=` and no `?:`; `!=` and `==` bind tighter than `&`.
use Rattle.std.specs.Prelude.{ℕ, List, codes}
use Rattle.m4_eval.specs.declared.operator.Sign.{Sign}
use Rattle.m4_eval.specs.declared.operator.Sign.TheVariants.{Positive, Negative, Complement, Not}
use Rattle.m4_eval.specs.declared.operator.Operator.{Operator}
use Rattle.m4_eval.specs.declared.operator.Operator.TheVariants.{Multiply, Divide, Remainder, Add, Subtract, ShiftLeft}
use Rattle.m4_eval.specs.declared.operator.Operator.TheVariants.{ShiftRight, Less, LessOrEqual, Greater, GreaterOrEqual}
use Rattle.m4_eval.specs.declared.operator.Operator.TheVariants.{Equal, NotEqual, BitAnd, BitXor, BitOr, And, Or}

pub data Expression : Type 0 where
  -- a literal, by its number, however large
  Number : ℕ → Expression
  -- `( e )`
  Group : Expression → Expression
  -- a sign and its operand
  Signed : Sign → Expression → Expression
  -- an operator between its left and its right operand
  Joined : Operator → Expression → Expression → Expression

-- the byte of a sign
abbrev pub byte_of : Sign → ℕ
byte_of Positive = 43
byte_of Negative = 45
byte_of Complement = 126
byte_of Not = 33

-- the text of an operator, and how tightly it binds: 1 is the loosest
abbrev pub operator_row : Operator → List ℕ × ℕ
operator_row Multiply = (codes "*", 10)
operator_row Divide = (codes "/", 10)
operator_row Remainder = (codes "%", 10)
operator_row Add = (codes "+", 9)
operator_row Subtract = (codes "-", 9)
operator_row ShiftLeft = (codes "<<", 8)
operator_row ShiftRight = (codes ">>", 8)
operator_row Less = (codes "<", 7)
operator_row LessOrEqual = (codes "<=", 7)
operator_row Greater = (codes ">", 7)
operator_row GreaterOrEqual = (codes ">=", 7)
operator_row Equal = (codes "==", 6)
operator_row NotEqual = (codes "!=", 6)
operator_row BitAnd = (codes "&", 5)
operator_row BitXor = (codes "^", 4)
operator_row BitOr = (codes "|", 3)
operator_row And = (codes "&&", 2)
operator_row Or = (codes "||", 1)

abbrev pub symbol_of : Operator → List ℕ
symbol_of o = (operator_row o).0

abbrev pub level_of : Operator → ℕ
level_of o = (operator_row o).1

-- tighter than all operators: a literal, a parenthesis, or one of these with signs before it
abbrev pub operand_level : ℕ
operand_level = 11
