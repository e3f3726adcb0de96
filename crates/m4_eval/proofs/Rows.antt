-- Worked rows, computed. The values are those of the manual or of a program that shares nothing with the definitions.
use Prim.Native.String.{String}
use Rattle.std.proofs.Common.{◌≡◌, ℕ, ℤ, List, [], ◌∷◌, map, Some, refl, true, pos, negsuc}
use Rattle.std.specs.Prelude.{codes, None}
use Rattle.std.specs.List.{list_all}
use Rattle.std.specs.Int.{int_wrap}
use Rattle.std.specs.Fmt.{digits}
use Rattle.m4_input.specs.Ascii.{is_space}
use Rattle.m4_eval.specs.declared.operator.Sign.TheVariants.{Positive, Negative, Complement, Not}
use Rattle.m4_eval.specs.declared.operator.Operator.TheVariants.{Multiply, Add, Subtract, Greater, Equal, BitAnd}
use Rattle.m4_eval.specs.declared.evaluate.Evaluated.{Evaluated}
use Rattle.m4_eval.specs.declared.evaluate.Evaluated.TheVariants.{Value, DivideByZero, BadExpression}
use Rattle.m4_eval.specs.Expression.{Expression, Number, Group, Signed, Joined}
use Rattle.m4_eval.specs.SpellsExpression.{SpellsExpression}
use Rattle.m4_eval.specs.ReadExpression.{expression_at}
use Rattle.m4_eval.specs.Evaluated.{evaluated}
use Rattle.m4_eval.specs.InRadix.{radix_at, in_radix}
use Rattle.m4_eval.proofs.Read.{whole_is_spelled}
use Rattle.m4_eval.proofs.Tied.{others_refused}

-- A row says what it shows, what goes in and what comes out: each row's input gives its output.
abbrev Gives : {A B : Type 0} → (A → B) → List (String × A × B) → Type 0
Gives f rows = map (λ row. f row.1) rows ≡ map (λ row. row.2) rows

-- the value of a text
abbrev value_of : String → Evaluated
value_of text = evaluated (codes text)

-- a value in a radix, with a width
abbrev written : ℕ × ℕ × ℤ → List ℕ
written x = in_radix x.0 x.1 x.2

-- Rows of several kinds.
pub first_rows : Gives value_of (
    ("product before sum", "2+3*4", Value (pos 14))
    ∷ ("decided by the left", "1||1/0", Value (pos 1))
    ∷ ("one and one", "1+1", Value (pos 2))
    ∷ ("quotient truncates", "7/-2", Value (negsuc 2))
    ∷ ("least over minus one", "-2147483648/-1", Value (negsuc 2147483647))
    ∷ ("shift by 33", "1<<33", Value (pos 2))
    ∷ ("hexadecimal", "0x1F", Value (pos 31))
    ∷ ("zero divisor", "1/0", DivideByZero)
    ∷ ("radix 36 literal", "0r36:z", Value (pos 35))
    ∷ ("not and complement", "!0+~0", Value (pos 0))
    ∷ ("equality before bits", "2==2&1", Value (pos 1))
    ∷ [])
unfolding int_wrap
first_rows = refl

-- The settled readings.
pub settled_readings : Gives value_of (
    ("no decrement", "1--1", Value (pos 2))
    ∷ ("all signs", "+ - ~ ! 3", Value (pos 1))
    ∷ ("radix with zeros", "0r036:1", Value (pos 1))
    ∷ ("radix without digits", "0r1:", BadExpression)
    ∷ ("radix above 36", "0r37:", BadExpression)
    ∷ ("no power", "2**3", BadExpression)
    ∷ ("no assignment", "1=1", BadExpression)
    ∷ ("eight is not octal", "08", BadExpression)
    ∷ ("letter in decimal", "12a", BadExpression)
    ∷ ("bad operand after or", "1||2+", BadExpression)
    ∷ ("bad operand after and", "0&&(", BadExpression)
    ∷ [])
unfolding int_wrap
settled_readings = refl

-- How tightly operators bind: each against its neighbours.
pub binding : Gives value_of (
    ("or below and", "1||0&&0", Value (pos 1))
    ∷ ("and below bit or", "2&&1|0", Value (pos 1))
    ∷ ("and above or", "0&&0||1", Value (pos 1))
    ∷ ("bit or below xor", "1|1^1", Value (pos 1))
    ∷ ("xor above bit or", "1^1|1", Value (pos 1))
    ∷ ("xor below bit and", "6^3&5", Value (pos 7))
    ∷ ("bit and above xor", "5&3^6", Value (pos 7))
    ∷ ("bit and below equal", "6&2==2", Value (pos 0))
    ∷ ("equal below less", "1==2<1", Value (pos 0))
    ∷ ("less above equal", "2<1==0", Value (pos 1))
    ∷ ("less below shift", "1<1<<1", Value (pos 1))
    ∷ ("shift above less", "4>>1<3", Value (pos 1))
    ∷ ("shift below sum", "1<<2+1", Value (pos 8))
    ∷ ("sum above shift", "2+1<<3", Value (pos 24))
    ∷ ("sum below product", "10-2*3", Value (pos 4))
    ∷ ("product above sum", "2*3-10", Value (negsuc 3))
    ∷ ("sign above product", "-2*3", Value (negsuc 5))
    ∷ ("not above sum", "!1+1", Value (pos 1))
    ∷ ("complement above and", "~1&3", Value (pos 2))
    ∷ ("group first", "(2+3)*4", Value (pos 20))
    ∷ ("not before equal", "!2==0", Value (pos 1))
    ∷ ("bit or with and", "4|2&&0", Value (pos 0))
    ∷ ("or of bits", "1|0||0", Value (pos 1))
    ∷ [])
unfolding int_wrap
binding = refl

-- Operators of one level group to the left.
pub grouping : Gives value_of (
    ("differences", "10-3-2", Value (pos 5))
    ∷ ("quotients", "100/10/5", Value (pos 2))
    ∷ ("remainder of product", "7*3%4", Value (pos 1))
    ∷ ("quotient of remainder", "17%10/2", Value (pos 3))
    ∷ ("shifts", "1<<2<<3", Value (pos 32))
    ∷ ("shift there and back", "256>>4<<2", Value (pos 64))
    ∷ ("comparison chain", "3>2>1", Value (pos 0))
    ∷ ("rising chain", "1<2<3", Value (pos 1))
    ∷ ("equal chain", "2==2==2", Value (pos 0))
    ∷ ("unequal chain", "3!=2==1", Value (pos 1))
    ∷ ("less or equal chain", "5<=5>=1", Value (pos 1))
    ∷ ("xors", "7^5^1", Value (pos 3))
    ∷ ("ors", "0||0||2", Value (pos 1))
    ∷ ("ands", "1&&2&&3", Value (pos 1))
    ∷ [])
unfolding int_wrap
grouping = refl

-- Signs.
pub signs : Gives value_of (
    ("minus of the least", "-(-2147483647-1)", Value (negsuc 2147483647))
    ∷ ("minus minus", "--5", Value (pos 5))
    ∷ ("complement of zero", "~0", Value (negsuc 0))
    ∷ ("complement of the least", "~-2147483648", Value (pos 2147483647))
    ∷ ("not of a sign", "!-1", Value (pos 0))
    ∷ ("not not", "!!7", Value (pos 1))
    ∷ ("sign before group", "-(1+2)", Value (negsuc 2))
    ∷ ("plus alone is a sign", "1+ +1", Value (pos 2))
    ∷ ("signs after an operator", "2*-~!3", Value (pos 2))
    ∷ ("sign with no operand", "1+-", BadExpression)
    ∷ ("no postfix", "1!", BadExpression)
    ∷ [])
unfolding int_wrap
signs = refl

-- Literals.
pub literals : Gives value_of (
    ("zero", "0", Value (pos 0))
    ∷ ("zeros", "00", Value (pos 0))
    ∷ ("octal", "0777", Value (pos 511))
    ∷ ("binary", "0b101", Value (pos 5))
    ∷ ("capital binary", "0B11", Value (pos 3))
    ∷ ("capital hexadecimal", "0XfF", Value (pos 255))
    ∷ ("stated radix 2", "0r2:1010", Value (pos 10))
    ∷ ("capital radix", "0R16:Ff", Value (pos 255))
    ∷ ("radix 36 in both cases", "0r36:Zz", Value (pos 1295))
    ∷ ("greatest", "2147483647", Value (pos 2147483647))
    ∷ ("wraps to the least", "2147483648", Value (negsuc 2147483647))
    ∷ ("wraps to minus one", "4294967295", Value (negsuc 0))
    ∷ ("wraps to zero", "4294967296", Value (pos 0))
    ∷ ("wraps a long one", "123456789012345678901234567890", Value (pos 1312754386))
    ∷ ("wraps hexadecimal", "0x1234567890abcdef", Value (negsuc 1867788816))
    ∷ ("octal wraps", "037777777777", Value (negsuc 0))
    ∷ ("prefix alone", "0x", BadExpression)
    ∷ ("binary prefix alone", "0b", BadExpression)
    ∷ ("radix without colon", "0r36z", BadExpression)
    ∷ ("radix alone", "0r:1", BadExpression)
    ∷ ("radix missing digits", "0r8:", BadExpression)
    ∷ ("radix 0", "0r0:0", BadExpression)
    ∷ ("digit not below radix", "0r8:8", BadExpression)
    ∷ ("digit not binary", "0b2", BadExpression)
    ∷ ("digit not hexadecimal", "0xg", BadExpression)
    ∷ ("space in radix", "0r 8:1", BadExpression)
    ∷ ("radix in hexadecimal", "0r0x10:1", BadExpression)
    ∷ ("underscore", "1_0", BadExpression)
    ∷ ("letter", "a", BadExpression)
    ∷ ("two literals", "1 2", BadExpression)
    ∷ ("dot", "1.5", BadExpression)
    ∷ ("long radix", "0r000000000000000000016:f", Value (pos 15))
    ∷ ("huge radix", "0r99999999999999999999:1", BadExpression)
    ∷ ("octal letter", "0a", BadExpression)
    ∷ [])
unfolding int_wrap
literals = refl

-- White space.
pub white_space : Gives value_of (
    ("between all tokens", " ( 1 + 2 ) * 3 ", Value (pos 9))
    ∷ ("within an operator", "1 < < 2", BadExpression)
    ∷ ("within a literal", "0 x1F", BadExpression)
    ∷ ("within an or", "1 | | 1", BadExpression)
    ∷ [])
unfolding int_wrap
white_space = refl

-- White space and other bytes, by their numbers.
pub bytes : Gives evaluated (
    ("every kind", 9 ∷ 10 ∷ 11 ∷ 12 ∷ 13 ∷ 32 ∷ 55 ∷ 32 ∷ [], Value (pos 7))
    ∷ ("byte zero", 49 ∷ 0 ∷ [], BadExpression)
    ∷ ("high byte", 49 ∷ 160 ∷ [], BadExpression)
    ∷ [])
unfolding int_wrap
bytes = refl

-- Division and remainder.
pub division : Gives value_of (
    ("negative quotient", "-7/2", Value (negsuc 2))
    ∷ ("both negative", "-7/-2", Value (pos 3))
    ∷ ("remainder takes the sign", "-7%3", Value (negsuc 0))
    ∷ ("remainder of negative divisor", "7%-3", Value (pos 1))
    ∷ ("remainder of the least", "-2147483648%-1", Value (pos 0))
    ∷ ("remainder by zero", "5%0", DivideByZero)
    ∷ ("zero by zero", "0/0", DivideByZero)
    ∷ ("divisor computed zero", "1/(2-2)", DivideByZero)
    ∷ ("zero after and", "0&&1/0", Value (pos 0))
    ∷ ("asked after and", "1&&1/0", DivideByZero)
    ∷ ("asked after or", "0||1/0", DivideByZero)
    ∷ ("left of or divides", "1/0||1", DivideByZero)
    ∷ ("left of and divides", "1/0&&0", DivideByZero)
    ∷ ("inner and decides", "(0&&1/0)+1", Value (pos 1))
    ∷ ("zero and bad form", "1/0+", BadExpression)
    ∷ ("sign of a zero divisor", "!(1/0)", DivideByZero)
    ∷ ("or chain decides", "0||1||1/0", Value (pos 1))
    ∷ ("and or", "0&&1/0||1", Value (pos 1))
    ∷ ("least over one", "-2147483648/1", Value (negsuc 2147483647))
    ∷ [])
unfolding int_wrap
division = refl

-- Shifts.
pub shifts : Gives value_of (
    ("by 31", "1<<31", Value (negsuc 2147483647))
    ∷ ("by 32", "1<<32", Value (pos 1))
    ∷ ("by minus one", "1<<-1", Value (negsuc 2147483647))
    ∷ ("right by 33", "8>>33", Value (pos 4))
    ∷ ("right by minus one", "-1>>-1", Value (negsuc 0))
    ∷ ("right keeps the sign", "-16>>2", Value (negsuc 3))
    ∷ ("least right by 31", "-2147483648>>31", Value (negsuc 0))
    ∷ ("least right by 32", "-2147483648>>32", Value (negsuc 2147483647))
    ∷ ("left loses", "3<<31", Value (negsuc 2147483647))
    ∷ ("right rounds down", "-1>>1", Value (negsuc 0))
    ∷ ("by the least", "1<<-2147483648", Value (pos 1))
    ∷ [])
unfolding int_wrap
shifts = refl

-- Sums and products that wrap; bits of negative numbers.
pub wrapping : Gives value_of (
    ("sum wraps", "2147483647+1", Value (negsuc 2147483647))
    ∷ ("difference wraps", "-2147483648-1", Value (pos 2147483647))
    ∷ ("product wraps", "65536*65536", Value (pos 0))
    ∷ ("product of extremes", "-2147483648*-2147483648", Value (pos 0))
    ∷ ("negative product wraps", "2147483647*-2", Value (pos 2))
    ∷ ("minus and bits", "-1&255", Value (pos 255))
    ∷ ("minus or", "-8|3", Value (negsuc 4))
    ∷ ("minus xor", "-1^5", Value (negsuc 5))
    ∷ ("greater", "-1>1", Value (pos 0))
    ∷ ("not equal signs", "-1!=4294967295", Value (pos 0))
    ∷ [])
unfolding int_wrap
wrapping = refl

-- Malformed texts.
pub malformed : Gives value_of (
    ("open alone", "(", BadExpression)
    ∷ ("close alone", ")", BadExpression)
    ∷ ("empty group", "()", BadExpression)
    ∷ ("unclosed", "(1", BadExpression)
    ∷ ("unopened", "1)", BadExpression)
    ∷ ("operator first", "*1", BadExpression)
    ∷ ("operator last", "1+", BadExpression)
    ∷ ("two operators", "1*/2", BadExpression)
    ∷ ("lone equals", "=", BadExpression)
    ∷ ("shift and less", "1<<<2", BadExpression)
    ∷ ("three ands", "1&&&1", BadExpression)
    ∷ ("not between", "1!2", BadExpression)
    ∷ ("question", "1?2:3", BadExpression)
    ∷ ("comma", "(1,2)", BadExpression)
    ∷ ("groups side by side", "(1)(2)", BadExpression)
    ∷ ("sign then close", "(-)", BadExpression)
    ∷ ("less greater", "1<>2", BadExpression)
    ∷ ("equals less", "1=<2", BadExpression)
    ∷ ("three ors", "1|||1", BadExpression)
    ∷ ("and then or", "1&|1", BadExpression)
    ∷ [])
malformed = refl

-- Texts of white space alone.
pub blank_texts : Gives (list_all is_space) (
    ("nothing", [], true)
    ∷ ("white space alone", 32 ∷ 9 ∷ 10 ∷ [], true)
    ∷ [])
blank_texts = refl

-- Radixes: 2 to 36.
pub radixes : Gives radix_at (
    ("radix 1", pos 1, None)
    ∷ ("radix 37", pos 37, None)
    ∷ ("radix of zero", pos 0, None)
    ∷ ("negative radix", negsuc 1, None)
    ∷ ("empty then radix", pos 1, None)
    ∷ [])
radixes = refl

-- Values in a radix, with a width.
pub in_radixes : Gives written (
    ("signed in radix 6", (6, 10, negsuc 665), codes "-0000003030")
    ∷ ("radix 16 width 4", (16, 4, pos 255), codes "00ff")
    ∷ ("radix 2", (2, 0, pos 10), codes "1010")
    ∷ ("radix 36", (36, 0, pos 1295), codes "zz")
    ∷ ("least in radix 2", (2, 0, negsuc 2147483647), codes "-10000000000000000000000000000000")
    ∷ ("least in radix 36", (36, 0, negsuc 2147483647), codes "-zik0zk")
    ∷ ("empty radix", (10, 0, pos 5), codes "5")
    ∷ ("width 0", (10, 0, pos 5), codes "5")
    ∷ ("width 1 of three", (10, 1, pos 123), codes "123")
    ∷ ("width 40", (10, 40, negsuc 0), codes "-0000000000000000000000000000000000000001")
    ∷ ("width not counting the sign", (10, 3, negsuc 4), codes "-005")
    ∷ ("zero in a width", (2, 3, pos 0), codes "000")
    ∷ ("zero in width 0", (10, 0, pos 0), codes "0")
    ∷ ("empty in a width", (16, 4, pos 0), codes "0000")
    ∷ [])
unfolding digits
in_radixes = refl

-- What texts spell: computed by the reading of their bytes, and carried over to the grammar.

-- what a row shows, its text and the expression
abbrev Spelling : Type 0
Spelling = String × String × Expression

abbrev Spelled : List Spelling → Type 0
Spelled [] = Unit
Spelled (row ∷ rows) = SpellsExpression row.2 (codes row.1) × Spelled rows

abbrev Unspelled : String → Type 0
Unspelled text = (e : Expression) → SpellsExpression e (codes text) → ⊥

-- what is read from texts is what they spell
spelled_by_reading : (rows : List Spelling)
    → map (λ row. expression_at (codes row.1)) rows ≡ map (λ row. Some row.2) rows → Spelled rows
spelled_by_reading [] e = tt
spelled_by_reading (row ∷ rows) e = (whole_is_spelled (codes row.1) row.2 cc, spelled_by_reading rows cc)

abbrev spellings : List Spelling
spellings =
    ("one level groups to the left", "10-3-2", Joined Subtract (Joined Subtract (Number 10) (Number 3)) (Number 2))
    ∷ ("tighter first, on the right", "2+3*4", Joined Add (Number 2) (Joined Multiply (Number 3) (Number 4)))
    ∷ ("tighter first, on the left", "2*3-10", Joined Subtract (Joined Multiply (Number 2) (Number 3)) (Number 10))
    ∷ ("a sign takes the operand alone", "-2*3", Joined Multiply (Signed Negative (Number 2)) (Number 3))
    ∷ ("signs in a row", "+ - ~ ! 3", Signed Positive (Signed Negative (Signed Complement (Signed Not (Number 3)))))
    ∷ ("no `--`: the second is a sign", "1--1", Joined Subtract (Number 1) (Signed Negative (Number 1)))
    ∷ ("a comparison of a comparison", "3>2>1", Joined Greater (Joined Greater (Number 3) (Number 2)) (Number 1))
    ∷ ("equality binds tighter than `&`", "2==2&1", Joined BitAnd (Joined Equal (Number 2) (Number 2)) (Number 1))
    ∷ ("a group, spaced out", " ( 1 + 2 ) * 3 ", Joined Multiply (Group (Joined Add (Number 1) (Number 2))) (Number 3))
    ∷ ("a literal is a number of any size until it is evaluated", "0x100000000", Number 4294967296)
    ∷ []

pub spelled : Spelled spellings
spelled = spelled_by_reading spellings refl

-- and some texts spell nothing: a power, a group without its end, white space
pub unspelled : Unspelled "2**3" × Unspelled "(1" × Unspelled " "
unspelled = (
  (others_refused (codes "2**3")).0 refl,
  (others_refused (codes "(1")).0 refl,
  (others_refused (codes " ")).0 refl,
)
