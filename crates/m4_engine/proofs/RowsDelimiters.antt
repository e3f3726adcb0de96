-- RowsDelimiters: worked runs of names, quotes and comments, and of the calls that change their delimiters,
-- computed from the definitions.
use Rattle.std.proofs.Common.{◌≡◌, [], refl}
use Rattle.std.specs.Prelude.{codes}
use Rattle.std.specs.Fmt.{digits}
use Rattle.m4_engine.proofs.Rows.{usual, over_a, done}

-- comment delimiters of two arguments
comments_of_two : over_a usual (codes "define(`f',`x')changecom(<,>)<f>f#f\n") ≡ done (codes "<f>x#x\n") [] 4
comments_of_two = refl

-- of one argument: the end is that of a line
comments_of_one : over_a usual (codes "define(`f',`x')changecom(<)<f>\nf#f\n") ≡ done (codes "<f>\nx#x\n") [] 4
comments_of_one = refl

-- with an empty begin there are no comments
comments_of_an_empty_begin : over_a usual (codes "define(`f',`x')changecom(,>)#f>changecom()#f\n") ≡ done (codes "#x>#x\n") [] 5
comments_of_an_empty_begin = refl

-- without arguments there are none, and the usual begin brings them back
comments_come_back : over_a usual (codes "define(`f',`x')changecom#f changecom(`#')#f\n") ≡ done (codes "#x #f\n") [] 4
comments_come_back = refl

-- an empty begin-quote with an end, and alone, disables quotes
quotes_of_an_empty_begin : over_a usual (codes "changequote(,])`b']changequote()`b'\n") ≡ done (codes "`b']`b'\n") [] 2
quotes_of_an_empty_begin = refl

-- quotes of several bytes nest
long_quotes_nest : over_a usual (codes "changequote(<<,>>)<<a<<b>>c>>|\n") ≡ done (codes "a<<b>>c|\n") [] 1
long_quotes_nest = refl

-- the end of a comment belongs to it, also where it is a name
comment_ends_with_a_name : over_a usual (codes "define(`f',`x')changecom(`<',`f')<a f f\n") ≡ done (codes "<a f x\n") [] 3
comment_ends_with_a_name = refl

-- a begin of comments that is a name comes before the name
comment_before_a_name : over_a usual (codes "define(`rem',`x')changecom(`rem')rem rem\nremark\n") ≡ done (codes "rem rem\nremark\n") [] 2
comment_before_a_name = refl

-- a begin-quote that is a letter is part of a name
name_before_a_quote : over_a usual (codes "changequote(`q',`Q')qaQ q\n") ≡ done (codes "qaQ q\n") [] 1
name_before_a_quote = refl

-- a parenthesis that begins a string or a comment begins no list
parenthesis_that_quotes : over_a usual (codes "define(`f',`<$#>')changequote(`(',`)')f(a)f\n") ≡ done (codes "<0>a<0>\n") [] 4
unfolding digits
parenthesis_that_quotes = refl

parenthesis_that_comments : over_a usual (codes "define(`f',`<$#>')changecom(`(',`)')f(a)f\n") ≡ done (codes "<0>(a)<0>\n") [] 4
unfolding digits
parenthesis_that_comments = refl

-- the first and the last letter and digit belong to names, and so does an underscore; a digit begins none
bytes_of_names : over_a usual (codes "define(`azAZ_09',`x')azAZ_09 zazAZ_09 azAZ_090 define(`_',`y')_ _0 0_\n")
    ≡ done (codes "x zazAZ_09 azAZ_090 y _0 0y\n") [] 5
bytes_of_names = refl
