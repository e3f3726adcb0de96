-- EvalRows: worked calls of `eval`: its radix, its width, and the order of its faults. What a row says is
-- in `CallRows`; the rows on expressions alone are m4_eval's.
use Prim.Native.String.{String}
use Rattle.std.proofs.Common.{[], ◌∷◌, refl}
use Rattle.std.specs.Prelude.{codes}
use Rattle.std.specs.Int.{int_wrap}
use Rattle.std.specs.Fmt.{digits}
use Rattle.m4_state.specs.declared.builtin.Builtin.TheVariants.{Len, Eval}
use Rattle.m4_builtins.proofs.CallRows.{answer, Answers, Calls, row, texts, token, still, here, wrapped, bare}

-- the warnings that many rows have
abbrev empty : String
empty = "empty string treated as 0 in builtin `eval'"

abbrev no_number : String
no_number = "non-numeric argument to builtin `eval'"

abbrev out_of_range : String
out_of_range = "radix or width out of range in eval"

abbrev bad : String
bad = "bad expression in eval"

abbrev by_zero : String
by_zero = "divide by zero in eval"

-- Of texts.
eval_rows : Answers Eval bare (
    ("signed in radix 6", "-666" ∷ "6" ∷ "10" ∷ [], "-0000003030", [])
    ∷ ("product before sum", "2+3*4" ∷ [], "14", [])
    ∷ ("decided by the left", "1||1/0" ∷ [], "1", [])
    ∷ ("quotient truncates", "7/-2" ∷ [], "-3", [])
    ∷ ("shift by 33", "1<<33" ∷ [], "2", [])
    ∷ ("radix 16 width 4", "255" ∷ "16" ∷ "4" ∷ [], "00ff", [])
    ∷ ("zero divisor", "1/0" ∷ [], "", by_zero ∷ [])
    ∷ ("nothing", "" ∷ [], "0", empty ∷ [])
    ∷ ("radix 1", "1" ∷ "1" ∷ [], "", out_of_range ∷ [])
    ∷ ("bad operand after or", "1||2+" ∷ [], "", bad ∷ [])
    ∷ ("white space alone", " \t\n" ∷ [], "0", empty ∷ [])
    ∷ ("radix of white space", "1" ∷ " " ∷ [], "", no_number ∷ [])
    ∷ ("left of or divides", "1/0||1" ∷ [], "", by_zero ∷ [])
    ∷ ("zero and bad form", "1/0+" ∷ [], "", bad ∷ [])
    ∷ ("radix 2", "10" ∷ "2" ∷ [], "1010", [])
    ∷ ("radix 36", "1295" ∷ "36" ∷ [], "zz", [])
    ∷ ("least in radix 2", "-2147483648" ∷ "2" ∷ [], "-10000000000000000000000000000000", [])
    ∷ ("least in radix 36", "-2147483648" ∷ "36" ∷ [], "-zik0zk", [])
    ∷ ("radix 37", "1" ∷ "37" ∷ [], "", out_of_range ∷ [])
    ∷ ("radix of zero", "1" ∷ "0" ∷ [], "", out_of_range ∷ [])
    ∷ ("negative radix", "1" ∷ "-2" ∷ [], "", out_of_range ∷ [])
    ∷ ("empty radix", "5" ∷ "" ∷ [], "5", [])
    ∷ ("empty radix and width", "5" ∷ "" ∷ "" ∷ [], "5", empty ∷ [])
    ∷ ("width 0", "5" ∷ "10" ∷ "0" ∷ [], "5", [])
    ∷ ("width 1 of three", "123" ∷ "10" ∷ "1" ∷ [], "123", [])
    ∷ ("negative width", "5" ∷ "10" ∷ "-1" ∷ [], "", out_of_range ∷ [])
    ∷ ("empty width", "5" ∷ "10" ∷ "" ∷ [], "5", empty ∷ [])
    ∷ ("width 40", "-1" ∷ "10" ∷ "40" ∷ [], "-0000000000000000000000000000000000000001", [])
    ∷ ("width not counting the sign", "-5" ∷ "10" ∷ "3" ∷ [], "-005", [])
    ∷ ("zero in a width", "0" ∷ "2" ∷ "3" ∷ [], "000", [])
    ∷ ("zero in width 0", "0" ∷ "10" ∷ "0" ∷ [], "0", [])
    ∷ ("radix not numeric", "1" ∷ "x" ∷ [], "", no_number ∷ [])
    ∷ ("width not numeric", "1" ∷ "10" ∷ "x" ∷ [], "", no_number ∷ [])
    ∷ ("radix with sign", "255" ∷ "+16" ∷ [], "ff", [])
    ∷ ("radix after space", "255" ∷ " 16" ∷ [], "ff", [])
    ∷ ("space after the radix", "255" ∷ "16 " ∷ [], "", no_number ∷ [])
    ∷ ("radix past 32 bits", "1" ∷ "2147483648" ∷ [], "", no_number ∷ [])
    ∷ ("width past 32 bits", "1" ∷ "10" ∷ "2147483648" ∷ [], "", no_number ∷ [])
    ∷ ("radix hexadecimal", "1" ∷ "0x10" ∷ [], "", no_number ∷ [])
    ∷ ("radix octal looking", "255" ∷ "016" ∷ [], "ff", [])
    ∷ ("width after space", "7" ∷ "10" ∷ " \t2" ∷ [], "07", [])
    ∷ ("width minus zero", "7" ∷ "10" ∷ "-0" ∷ [], "7", [])
    ∷ ("radix with zeros before", "255" ∷ "0000000000016" ∷ [], "ff", [])
    ∷ ("radix before expression", "1/0" ∷ "1" ∷ [], "", out_of_range ∷ [])
    ∷ ("radix before width", "1" ∷ "x" ∷ "x" ∷ [], "", no_number ∷ [])
    ∷ ("width before expression", "(" ∷ "10" ∷ "-1" ∷ [], "", out_of_range ∷ [])
    ∷ ("empty width then bad", "(" ∷ "10" ∷ "" ∷ [], "", empty ∷ bad ∷ [])
    ∷ ("empty width then divide", "1/0" ∷ "10" ∷ "" ∷ [], "", empty ∷ by_zero ∷ [])
    ∷ ("both empty", "" ∷ "10" ∷ "" ∷ [], "0", empty ∷ empty ∷ [])
    ∷ ("empty then radix", "" ∷ "1" ∷ [], "", out_of_range ∷ [])
    ∷ ("empty then width", "" ∷ "10" ∷ "x" ∷ [], "", no_number ∷ [])
    ∷ ("empty in a width", "" ∷ "16" ∷ "4" ∷ [], "0000", empty ∷ [])
    ∷ ("radix then empty width", "1" ∷ "37" ∷ "" ∷ [], "", out_of_range ∷ [])
    ∷ ("without arguments", [], "", "too few arguments to builtin `eval'" ∷ [])
    ∷ ("with four", "1" ∷ "2" ∷ "3" ∷ "x" ∷ [], "001", "excess arguments to builtin `eval' ignored" ∷ [])
    ∷ [])
unfolding digits int_wrap
eval_rows = refl

-- Of a definition, and in wrapped text.
other_eval_rows : Calls (
    row "of a definition" Eval (token Len ∷ []) here bare
    (answer bare "0" ("empty string treated as 0 in builtin `eval'" ∷ []))
    ∷ row "in wrapped text" Eval (texts ("1/0" ∷ [])) wrapped bare
    (record (still bare) { messages = codes "m4: Warning: divide by zero in eval\n" })
    ∷ [])
unfolding digits int_wrap
other_eval_rows = refl
