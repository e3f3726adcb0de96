-- TextRows: worked calls of `len`, `index`, `substr` and `translit`.
-- What a row says is in `CallRows`.
use Prim.Native.String.{String}
use Rattle.std.proofs.Common.{[], ◌∷◌, refl}
use Rattle.std.specs.Fmt.{digits}
use Rattle.m4_state.specs.declared.builtin.Builtin.TheVariants.{IndirBuiltin, Len, Index, Substr, Translit}
use Rattle.m4_builtins.proofs.CallRows.{answer, Answers, Calls, row, token, here, bare}

-- `index` by `builtin`
builtin_of_index_rows : Answers IndirBuiltin bare (
    ("builtin of index with one argument", "index" ∷ "x" ∷ [], "0", "too few arguments to builtin `index'" ∷ [])
    ∷ ("builtin of index without arguments", "index" ∷ [], "", "too few arguments to builtin `index'" ∷ [])
    ∷ [])
unfolding digits
builtin_of_index_rows = refl

-- `len`
len_rows : Answers Len bare (
    ("len", "abc" ∷ [], "3", [])
    ∷ ("len of nothing", "" ∷ [], "0", [])
    ∷ ("len without arguments", [], "", "too few arguments to builtin `len'" ∷ [])
    ∷ ("len with two", "ab" ∷ "c" ∷ [], "2", "excess arguments to builtin `len' ignored" ∷ [])
    ∷ [])
unfolding digits
len_rows = refl

len_of_a_definition_rows : Calls (
    row "len of a definition" Len (token Len ∷ []) here bare (answer bare "0" [])
    ∷ [])
unfolding digits
len_of_a_definition_rows = refl

-- `index`
index_rows : Answers Index bare (
    ("index of a part", "abcabc" ∷ "ca" ∷ [], "2", [])
    ∷ ("index of a part that is nowhere", "a" ∷ "z" ∷ [], "-1", [])
    ∷ ("index of nothing", "abc" ∷ "" ∷ [], "0", [])
    ∷ ("index of nothing in nothing", "" ∷ "" ∷ [], "0", [])
    ∷ ("index in nothing", "" ∷ "a" ∷ [], "-1", [])
    ∷ ("index of a part that overlaps itself", "aaab" ∷ "aab" ∷ [], "1", [])
    ∷ ("index with one argument", "abc" ∷ [], "0", "too few arguments to builtin `index'" ∷ [])
    ∷ [])
unfolding digits
index_rows = refl

-- `substr`, and the warnings that many of its rows have
abbrev empty : String
empty = "empty string treated as 0 in builtin `substr'"

abbrev no_number : String
no_number = "non-numeric argument to builtin `substr'"

substr_rows : Answers Substr bare (
    ("substr from and count", "abcdef" ∷ "2" ∷ "3" ∷ [], "cde", [])
    ∷ ("substr after the end", "abc" ∷ "3" ∷ [], "", [])
    ∷ ("substr without a count", "abc" ∷ "1" ∷ [], "bc", [])
    ∷ ("substr from below 0", "abc" ∷ "-1" ∷ "2" ∷ [], "", [])
    ∷ ("substr with a count below 0", "abc" ∷ "1" ∷ "-2" ∷ [], "", [])
    ∷ ("substr with a count of 0", "abc" ∷ "1" ∷ "0" ∷ [], "", [])
    ∷ ("substr with a count that is large", "abc" ∷ "1" ∷ "2147483647" ∷ [], "bc", [])
    ∷ ("substr with a bad count after the end", "abc" ∷ "9" ∷ "x" ∷ [], "", no_number ∷ [])
    ∷ ("substr with a bad start and a bad count", "abc" ∷ "x" ∷ "y" ∷ [], "", no_number ∷ [])
    ∷ ("substr with both empty", "abc" ∷ "" ∷ "" ∷ [], "", empty ∷ empty ∷ [])
    ∷ ("substr with an empty start and a bad count", "abc" ∷ "" ∷ "y" ∷ [], "", empty ∷ no_number ∷ [])
    ∷ ("substr with one argument", "abc" ∷ [], "abc", "too few arguments to builtin `substr'" ∷ [])
    ∷ ("substr with four", "abc" ∷ "1" ∷ "1" ∷ "z" ∷ [], "b", "excess arguments to builtin `substr' ignored" ∷ [])
    ∷ [])
unfolding digits
substr_rows = refl

-- `translit`
translit_rows : Answers Translit bare (
    ("translit of ranges that rise and fall", "abcba" ∷ "a-c" ∷ "C-A" ∷ [], "CBABC", [])
    ∷ ("translit that deletes", "hello" ∷ "l" ∷ [], "heo", [])
    ∷ ("translit of dashes", "+,-12345" ∷ "+--1-5" ∷ "<;>a-c-a" ∷ [], "<;>abcba", [])
    ∷ ("translit with a dash first and last", "a-b" ∷ "-a-" ∷ "xyz" ∷ [], "yxb", [])
    ∷ ("translit with a byte twice", "abc" ∷ "aab" ∷ "xyz" ∷ [], "xzc", [])
    ∷ ("translit with a range of one byte", "aab" ∷ "a-a" ∷ "x-z" ∷ [], "xxb", [])
    ∷ ("translit with dashes alone", "-+" ∷ "--" ∷ "ab" ∷ [], "a+", [])
    ∷ ("translit with three dashes", "-+" ∷ "---" ∷ "ab" ∷ [], "a+", [])
    ∷ ("translit with one argument", "abc" ∷ [], "abc", "too few arguments to builtin `translit'" ∷ [])
    ∷ ("translit with four", "abc" ∷ "b" ∷ "x" ∷ "y" ∷ [], "axc", "excess arguments to builtin `translit' ignored" ∷ [])
    ∷ [])
unfolding digits
translit_rows = refl
