-- Spelled: what is spelled is read, and so a text spells one expression at most.
use Rattle.std.proofs.Common.{◌≡◌, ℕ, zero, suc, ◌≤◌, Bool, true, false, cond, List, [], ◌∷◌, ◌++◌, length, Option}
use Rattle.std.proofs.Common.{Some, None, option_and_then, refl, sym, ap, ◌∙◌, subst, arith, append_assoc, append-nil}
use Rattle.std.proofs.Common.{le_refl}
use Rattle.std.specs.Prelude.{◌==◌, ⊤}
use Rattle.std.proofs.lemmas.Bool.{and_parts, ne_eqb}
use Rattle.std.specs.List.{list_all}
use Rattle.std.specs.Char.{is_digit}
use Rattle.m4_input.specs.Ascii.{is_space, open_parenthesis, close_parenthesis}
use Rattle.m4_eval.specs.declared.operator.Sign.{Sign}
use Rattle.m4_eval.specs.declared.operator.Sign.TheVariants.{Positive, Negative, Complement, Not}
use Rattle.m4_eval.specs.declared.operator.Operator.{Operator}
use Rattle.m4_eval.specs.Expression.{Expression, Number, Group, Signed, Joined, byte_of, symbol_of, level_of}
use Rattle.m4_eval.specs.Expression.{operand_level}
use Rattle.m4_eval.specs.Literal.{IsLiteral}
use Rattle.m4_eval.specs.SpellsExpression.{AreSpaces, SpellsAt, SpellsExpression}
use Rattle.m4_eval.specs.ReadExpression.{Frame, Opened, Prefixed, Left, Reading, Before, After, literal_at, sign_at}
use Rattle.m4_eval.specs.ReadExpression.{operator_at, operated, closed, whole, step_after, read_from, completed}
use Rattle.m4_eval.specs.ReadExpression.{joined_above, expression_at, is_alphanumeric}
use Rattle.m4_eval.proofs.Steps.{spaces, at_token, level_most, level_least, floor, no_sign, completed_is, waits, joins}
use Rattle.m4_eval.proofs.Symbols.{IsNoSecond, at_symbol, space_below, space_is_no_second, digit_bounds}
use Rattle.m4_eval.proofs.Symbols.{digit_is_no_second, sign_is_no_second}
use Rattle.m4_eval.proofs.Literals.{EndsRun, literal_whole}

-- an operator is not tighter than a level
abbrev pub IsAtMost : ℕ → Option (Operator × ℕ) → Type 0
IsAtMost level None = ⊤
IsAtMost level (Some p) = level_of p.0 ≤ level

-- after white space there is no operator that is tighter than a level
abbrev pub NextAtMost : ℕ → List ℕ → Type 0
NextAtMost level [] = ⊤
NextAtMost level (b ∷ x) =
    elim (is_space b) [ true ↦ NextAtMost level x | false ↦ IsAtMost level (operator_at b x) ]

abbrev next_case : ℕ → ℕ → List ℕ → Bool → Type 0
next_case level b x t =
    elim t [ true ↦ NextAtMost level x | false ↦ IsAtMost level (operator_at b x) ]

-- the bytes after an expression of a level
pub record Follows (level : ℕ) (rest : List ℕ) : Type 0 where
  pub run : EndsRun rest
  pub next : NextAtMost level rest

at_most_more : (m n : ℕ) (o : Option (Operator × ℕ)) → m ≤ n → IsAtMost m o → IsAtMost n o
at_most_more m n None h a = tt
at_most_more m n (Some p) h a = omega (arith, a, h)

next_more : (m n : ℕ) (rest : List ℕ) → m ≤ n → NextAtMost m rest → NextAtMost n rest
next_more m n [] h a = tt
next_more m n (b ∷ x) h a = go (next_more m n x h) (is_space b) a
  where
    go : (NextAtMost m x → NextAtMost n x) → (t : Bool) → next_case m b x t → next_case n b x t
    go again true a = again a
    go again false a = at_most_more m n (operator_at b x) h a

-- no operator is as tight as an operand
at_most_any : (o : Option (Operator × ℕ)) → IsAtMost operand_level o
at_most_any None = tt
at_most_any (Some p) = let l = level_most p.0 in omega (arith, l)

next_any : (rest : List ℕ) → NextAtMost operand_level rest
next_any [] = tt
next_any (b ∷ x) = go (next_any x) (is_space b)
  where
    go : NextAtMost operand_level x → (t : Bool) → next_case operand_level b x t
    go again true = again
    go again false = at_most_any (operator_at b x)

pub follows_more : (m n : ℕ) (rest : List ℕ) → m ≤ n → Follows m rest → Follows n rest
follows_more m n rest h f = record { run = f.run; next = next_more m n rest h f.next }

next_after_spaces : (level : ℕ) (gap rest : List ℕ) → AreSpaces gap → NextAtMost level rest → NextAtMost level (gap ++ rest)
next_after_spaces level [] rest h f = f
next_after_spaces level (b ∷ gap) rest h f =
    let p = and_parts (is_space b) (list_all is_space gap) h in
    subst (next_case level b (gap ++ rest)) (sym p.0) (next_after_spaces level gap rest p.1 f)

-- white space is no digit and no letter
space_ends : (b : ℕ) → is_space b ≡ true → is_alphanumeric b ≡ false
space_ends b h = let l = space_below b h in grind arith

pub follows_spaces : (level : ℕ) (gap rest : List ℕ) → AreSpaces gap → Follows level rest → Follows level (gap ++ rest)
follows_spaces level [] rest h f = f
follows_spaces level (b ∷ gap) rest h f =
    let p = and_parts (is_space b) (list_all is_space gap) h in
    record { run = space_ends b p.0; next = next_after_spaces level (b ∷ gap) rest h f.next }

-- a closing parenthesis
follows_close : (level : ℕ) (rest : List ℕ) → Follows level (close_parenthesis ∷ rest)
follows_close level rest = record { run = refl; next = tt }

-- the end
follows_end : (level : ℕ) → Follows level []
follows_end level = record { run = tt; next = tt }

-- Joining the open operands.

-- a closing parenthesis after what was joined
abbrev closed_case : List Frame × Expression → Option (Reading × ℕ)
closed_case j = option_and_then (λ (r : Reading). Some (r, 0)) (closed j.0 j.1)

-- an operator, or none, after an operand
abbrev operator_case : List Frame → Expression → Option (Operator × ℕ) → Option (Reading × ℕ)
operator_case w e p =
    option_and_then (λ (p : Operator × ℕ). Some (operated p.0 (joined_above (level_of p.0) w e), p.1)) p

operator_joined : (w : List Frame) (d : Expression) (o : Operator) (e : Expression) (p : Option (Operator × ℕ))
    → IsAtMost (level_of o) p → operator_case (Left d o ∷ w) e p ≡ operator_case w (Joined o d e) p
operator_joined w d o e None a = refl
operator_joined w d o e (Some p) a = ap (λ j. Some (operated p.0 j, p.1)) (joins (level_of p.0) w d o e a)

-- after a right operand the open ones are joined first, whatever follows
joined_at : (w : List Frame) (d : Expression) (o : Operator) (e : Expression) (b : ℕ) (x : List ℕ)
    → IsAtMost (level_of o) (operator_at b x)
    → step_after (Left d o ∷ w) e b x ≡ step_after w (Joined o d e) b x
joined_at w d o e b x h =
    ap (λ j. cond (b == close_parenthesis) (closed_case j) (operator_case (Left d o ∷ w) e (operator_at b x)))
    (joins 1 w d o e (level_least o))
    ∙ ap (cond (b == close_parenthesis) (closed_case (joined_above 1 w (Joined o d e))))
    (operator_joined w d o e (operator_at b x) h)

-- a byte after an operand, by whether it is white space
abbrev after_case : List Frame → Expression → ℕ → List ℕ → Bool → Option Expression
after_case w e b x t =
    elim t [
      | true ↦ read_from zero (After w e) x
      | false ↦ option_and_then (λ p. read_from p.1 p.0 x) (step_after w e b x)
    ]

pub joined_before : (w : List Frame) (d : Expression) (o : Operator) (e : Expression) (rest : List ℕ)
    → NextAtMost (level_of o) rest
    → read_from zero (After (Left d o ∷ w) e) rest ≡ read_from zero (After w (Joined o d e)) rest
joined_before w d o e [] h = ap (λ j. whole j.0 j.1) (joins 1 w d o e (level_least o))
joined_before w d o e (b ∷ x) h = go (joined_before w d o e x) (is_space b) h
  where
    go : (NextAtMost (level_of o) x
        → read_from zero (After (Left d o ∷ w) e) x ≡ read_from zero (After w (Joined o d e)) x)
        → (t : Bool) → next_case (level_of o) b x t
        → after_case (Left d o ∷ w) e b x t ≡ after_case w (Joined o d e) b x t
    go again true h = again h
    go again false h = ap (option_and_then (λ p. read_from p.1 p.0 x)) (joined_at w d o e b x h)

-- Tokens.

-- a byte that begins a literal is no white space, no parenthesis and no sign
digit_no_space : (b : ℕ) → is_digit b 10 ≡ true → is_space b ≡ false
digit_no_space b h = let l = digit_bounds b h in grind arith

digit_no_open : (b : ℕ) → is_digit b 10 ≡ true → (b == open_parenthesis) ≡ false
digit_no_open b h = let l = digit_bounds b h in ne_eqb b open_parenthesis (λ f. omega (arith, f, l.0))

digit_no_sign : (b : ℕ) → is_digit b 10 ≡ true → sign_at b ≡ None
digit_no_sign b h =
    let l = digit_bounds b h in
    rw (
      ne_eqb b 43 (λ f. omega (arith, f, l.0)),
      ne_eqb b 45 (λ f. omega (arith, f, l.0)),
      ne_eqb b 126 (λ f. omega (arith, f, l.1)),
      ne_eqb b 33 (λ f. omega (arith, f, l.0)),
    ) refl

abbrev before_case : List Frame → ℕ → List ℕ → Bool → Option Sign → Option (Reading × ℕ)
before_case w b x t s =
    cond t (Some (Before (Opened ∷ w), 0)) (elim s [
      | Some s ↦ Some (Before (Prefixed s ∷ w), 0)
      | None ↦ option_and_then (λ n. Some (completed w (Number n.0), n.1)) (literal_at b x)
    ])

-- a literal is an operand
literal_read : (w : List Frame) (n : ℕ) (literal rest : List ℕ) → IsLiteral n literal → EndsRun rest
    → read_from zero (Before w) (literal ++ rest) ≡ read_from zero (completed w (Number n)) rest
literal_read w n literal rest h e =
    let r = literal_whole n literal rest h e in
    ap (λ y. read_from zero (Before w) (y ++ rest)) r.split
    ∙ at_token (Before w) (completed w (Number n)) r.first r.more rest (digit_no_space r.first r.digit)
    (ap (λ t. before_case w r.first (r.more ++ rest) t (sign_at r.first)) (digit_no_open r.first r.digit)
    ∙ ap (before_case w r.first (r.more ++ rest) false) (digit_no_sign r.first r.digit)
    ∙ ap (option_and_then (λ n. Some (completed w (Number n.0), n.1))) r.read)

open_read : (w : List Frame) (rest : List ℕ)
    → read_from zero (Before w) (open_parenthesis ∷ rest) ≡ read_from zero (Before (Opened ∷ w)) rest
open_read w rest = at_token (Before w) (Before (Opened ∷ w)) open_parenthesis [] rest refl refl

sign_read : (w : List Frame) (s : Sign) (rest : List ℕ)
    → read_from zero (Before w) (byte_of s ∷ rest) ≡ read_from zero (Before (Prefixed s ∷ w)) rest
sign_read w Positive rest = at_token (Before w) (Before (Prefixed Positive ∷ w)) 43 [] rest refl refl
sign_read w Negative rest = at_token (Before w) (Before (Prefixed Negative ∷ w)) 45 [] rest refl refl
sign_read w Complement rest = at_token (Before w) (Before (Prefixed Complement ∷ w)) 126 [] rest refl refl
sign_read w Not rest = at_token (Before w) (Before (Prefixed Not ∷ w)) 33 [] rest refl refl

close_read : (w : List Frame) (e : Expression) (rest : List ℕ)
    → read_from zero (After (Opened ∷ w) e) (close_parenthesis ∷ rest) ≡ read_from zero (completed w (Group e)) rest
close_read w e rest = at_token (After (Opened ∷ w) e) (completed w (Group e)) close_parenthesis [] rest refl refl

-- how an operand begins
pub record Begins (text : List ℕ) : Type 0 where
  pub first : ℕ
  pub more : List ℕ
  pub split : text ≡ first ∷ more
  pub no_second : IsNoSecond first

begins_spaces : (gap text : List ℕ) → AreSpaces gap → Begins text → Begins (gap ++ text)
begins_spaces [] text h b = b
begins_spaces (c ∷ gap) text h b =
    let p = and_parts (is_space c) (list_all is_space gap) h in
    record { first = c; more = gap ++ text; split = refl; no_second = space_is_no_second c p.0 }

begins_more : (text rest : List ℕ) → Begins text → Begins (text ++ rest)
begins_more text rest b =
    record { first = b.first; more = b.more ++ rest; split = ap (λ y. y ++ rest) b.split; no_second = b.no_second }

literal_begins : (n : ℕ) (literal : List ℕ) → IsLiteral n literal → Begins literal
literal_begins n literal h =
    let r = literal_whole n literal [] h tt in
    record { first = r.first; more = r.more; split = r.split; no_second = digit_is_no_second r.first r.digit }

pub begins : (e : Expression) (level : ℕ) (text : List ℕ) → SpellsAt level e text → Begins text
begins (Number n) level text s =
    subst Begins (sym s.4) (begins_spaces s.0 s.1 s.2 (literal_begins n s.1 s.3))
begins (Group e) level text s =
    let b : Begins (open_parenthesis ∷ s.1) =
    record {
      first = open_parenthesis;
      more = s.1;
      split = refl;
      no_second = record { equals = refl; less = refl; greater = refl; and = refl; or = refl };
    } in
    subst Begins (sym s.6) (begins_more (s.0 ++ open_parenthesis ∷ s.1 ++ s.2) (close_parenthesis ∷ [])
    (begins_more (s.0 ++ open_parenthesis ∷ s.1) s.2 (begins_spaces s.0 (open_parenthesis ∷ s.1) s.3 b)))
begins (Signed g e) level text s =
    let b : Begins (byte_of g ∷ s.1) = record { first = byte_of g; more = s.1; split = refl; no_second = sign_is_no_second g } in
    subst Begins (sym s.4) (begins_spaces s.0 (byte_of g ∷ s.1) s.2 b)
begins (Joined o d e) level text s =
    subst Begins (sym s.7) (begins_more (s.0 ++ s.1 ++ symbol_of o) s.2
    (begins_more (s.0 ++ s.1) (symbol_of o) (begins_more s.0 s.1 (begins d (level_of o) s.0 s.4))))

-- an operator before an operand, after one that is not looser than the open ones
operator_read : (w : List Frame) (d : Expression) (o : Operator) (rest : List ℕ) → Begins rest → floor w ≤ level_of o
    → read_from zero (After w d) (symbol_of o ++ rest) ≡ read_from zero (Before (Left d o ∷ w)) rest
operator_read w d o rest b h =
    let a = at_symbol o b.first b.more b.no_second in
    ap (λ y. read_from zero (After w d) (symbol_of o ++ y)) b.split
    ∙ ap (λ y. read_from zero (After w d) (y ++ b.first ∷ b.more)) a.symbol
    ∙ at_token (After w d) (Before (Left d o ∷ w)) a.first a.more (b.first ∷ b.more) a.no_space
    (ap (λ t. cond t (closed_case (joined_above 1 w d)) (operator_case w d (operator_at a.first (a.more ++ b.first ∷ b.more)))) a.no_close
    ∙ ap (operator_case w d) a.read
    ∙ ap (λ j. Some (operated o j, length a.more)) (waits (level_of o) w d h))
    ∙ ap (read_from zero (Before (Left d o ∷ w))) (sym b.split)

-- an operator follows a left operand of its own level
operator_follows : (o : Operator) (rest : List ℕ) → Begins rest → Follows (level_of o) (symbol_of o ++ rest)
operator_follows o rest b =
    let a = at_symbol o b.first b.more b.no_second in
    let f : Follows (level_of o) (a.first ∷ a.more ++ b.first ∷ b.more) = record {
      run = a.no_letter;
      next = subst (next_case (level_of o) a.first (a.more ++ b.first ∷ b.more)) (sym a.no_space)
          (subst (IsAtMost (level_of o)) (sym a.read) (le_refl (level_of o)));
    } in
    subst (λ y. Follows (level_of o) (symbol_of o ++ y)) (sym b.split)
    (subst (λ y. Follows (level_of o) (y ++ b.first ∷ b.more)) (sym a.symbol) f)

-- What is spelled is read: as the operand that it is, before whatever may follow.
pub spelled_is_read : (e : Expression) (level : ℕ) (front rest : List ℕ) (w : List Frame)
    → SpellsAt level e front → floor w ≤ level → Follows level rest
    → read_from zero (Before w) (front ++ rest) ≡ read_from zero (completed w e) rest
spelled_is_read (Number n) level front rest w s h f =
    ap (λ y. read_from zero (Before w) (y ++ rest)) s.4
    ∙ ap (read_from zero (Before w)) (append_assoc s.0 s.1 rest)
    ∙ spaces s.0 (Before w) (s.1 ++ rest) s.2
    ∙ literal_read w n s.1 rest s.3 f.run
spelled_is_read (Group e) level front rest w s h f =
    ap (λ y. read_from zero (Before w) (y ++ rest)) s.6
    ∙ ap (read_from zero (Before w)) (regroup s.0 s.1 s.2)
    ∙ spaces s.0 (Before w) (open_parenthesis ∷ (s.1 ++ (s.2 ++ (close_parenthesis ∷ rest)))) s.3
    ∙ open_read w (s.1 ++ (s.2 ++ (close_parenthesis ∷ rest)))
    ∙ spelled_is_read e 1 s.1 (s.2 ++ (close_parenthesis ∷ rest)) (Opened ∷ w) s.4 (le_refl 1)
    (follows_spaces 1 s.2 (close_parenthesis ∷ rest) s.5 (follows_close 1 rest))
    ∙ spaces s.2 (After (Opened ∷ w) e) (close_parenthesis ∷ rest) s.5
    ∙ close_read w e rest
  where
    regroup : (x y z : List ℕ) → (x ++ open_parenthesis ∷ y ++ z ++ close_parenthesis ∷ []) ++ rest
        ≡ x ++ (open_parenthesis ∷ (y ++ (z ++ (close_parenthesis ∷ rest))))
    regroup x y z = simp append_assoc
spelled_is_read (Signed g e) level front rest w s h f =
    ap (λ y. read_from zero (Before w) (y ++ rest)) s.4
    ∙ ap (read_from zero (Before w)) (append_assoc s.0 (byte_of g ∷ s.1) rest)
    ∙ spaces s.0 (Before w) (byte_of g ∷ s.1 ++ rest) s.2
    ∙ sign_read w g (s.1 ++ rest)
    ∙ spelled_is_read e operand_level s.1 rest (Prefixed g ∷ w) s.3 (le_refl operand_level)
    (record { run = f.run; next = next_any rest })
spelled_is_read (Joined o d e) level front rest w s h f =
    let b = begins_more s.2 rest (begins e (suc (level_of o)) s.2 s.6) in
    let l : floor w ≤ level_of o = omega (arith, h, s.3) in
    ap (λ y. read_from zero (Before w) (y ++ rest)) s.7
    ∙ ap (read_from zero (Before w)) (regroup s.0 s.1 (symbol_of o) s.2)
    ∙ spelled_is_read d (level_of o) s.0 (s.1 ++ (symbol_of o ++ (s.2 ++ rest))) w s.4 l
    (follows_spaces (level_of o) s.1 (symbol_of o ++ (s.2 ++ rest)) s.5 (operator_follows o (s.2 ++ rest) b))
    ∙ ap (λ r. read_from zero r (s.1 ++ (symbol_of o ++ (s.2 ++ rest)))) (completed_is w d (no_sign w o l))
    ∙ spaces s.1 (After w d) (symbol_of o ++ (s.2 ++ rest)) s.5
    ∙ operator_read w d o (s.2 ++ rest) b l
    ∙ spelled_is_read e (suc (level_of o)) s.2 rest (Left d o ∷ w) s.6 (le_refl (suc (level_of o)))
    (follows_more level (suc (level_of o)) rest (omega (arith, s.3)) f)
    ∙ joined_before w d o e rest (next_more level (level_of o) rest s.3 f.next)
    ∙ ap (λ r. read_from zero r rest) (sym (completed_is w (Joined o d e) (no_sign w o l)))
  where
    regroup : (x y z t : List ℕ) → (x ++ y ++ z ++ t) ++ rest ≡ x ++ (y ++ (z ++ (t ++ rest)))
    regroup x y z t = simp append_assoc

-- A whole text.
pub whole_is_read : (e : Expression) (text : List ℕ) → SpellsExpression e text → expression_at text ≡ Some e
whole_is_read e text s =
    ap (read_from zero (Before [])) s.4
    ∙ spelled_is_read e 1 s.0 s.1 [] s.2 (le_refl 1)
    (subst (Follows 1) (append-nil s.1) (follows_spaces 1 s.1 [] s.3 (follows_end 1)))
    ∙ ap (read_from zero (After [] e)) (sym (append-nil s.1))
    ∙ spaces s.1 (After [] e) [] s.3
