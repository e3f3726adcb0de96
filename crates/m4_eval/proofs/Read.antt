-- Read: what is read is spelled. The open parts and the operand spell the bytes that were read.
use Rattle.std.proofs.Common.{◌≡◌, ℕ, zero, suc, ◌≤◌, ◌+◌, Bool, true, false, cond, ◌&&◌, List, [], ◌∷◌, ◌++◌, length}
use Rattle.std.proofs.Common.{take, drop, Option, Some, None, unwrap_or, option_and_then, refl, sym, ap, ◌∙◌, subst}
use Rattle.std.proofs.Common.{arith, append_assoc, append-nil, ◌⊎◌, inl, inr, le_refl, take-append-drop}
use Rattle.std.specs.Prelude.{◌==◌, ⊤, nat_le, codes}
use Rattle.std.proofs.lemmas.Bool.{and_parts, and_from, or_cases, eqb-true, eqb-false, leb-true, leb-false}
use Rattle.std.specs.List.{list_all}
use Rattle.std.specs.Char.{is_digit}
use Rattle.m4_input.specs.Ascii.{is_space, open_parenthesis, close_parenthesis, digit_zero}
use Rattle.m4_eval.specs.ReadExpression.{colon}
use Rattle.m4_eval.specs.declared.operator.Sign.{Sign}
use Rattle.m4_eval.specs.declared.operator.Operator.{Operator}
use Rattle.m4_eval.specs.declared.operator.Operator.TheVariants.{Multiply, Divide, Remainder, Add, Subtract}
use Rattle.m4_eval.specs.declared.operator.Operator.TheVariants.{ShiftLeft, ShiftRight, Less, LessOrEqual, Greater}
use Rattle.m4_eval.specs.declared.operator.Operator.TheVariants.{GreaterOrEqual, Equal, NotEqual, BitAnd, BitXor}
use Rattle.m4_eval.specs.declared.operator.Operator.TheVariants.{BitOr, And, Or}
use Rattle.m4_eval.specs.Expression.{Expression, Number, Group, Signed, Joined, byte_of, symbol_of, level_of}
use Rattle.m4_eval.specs.Expression.{operand_level}
use Rattle.m4_eval.specs.Literal.{AreDigitsOf, IsRadixPrefix, decimal, octal, hexadecimal, binary, stated, IsLiteral}
use Rattle.m4_eval.specs.SpellsExpression.{AreSpaces, SpellsAt, SpellsExpression}
use Rattle.m4_eval.specs.ReadExpression.{Frame, Opened, Prefixed, Left, Reading, Before, After, is_alphanumeric}
use Rattle.m4_eval.specs.ReadExpression.{run_of, number_of, of_length, after_radix, in_stated_radix, in_marked_radix}
use Rattle.m4_eval.specs.ReadExpression.{in_radix_from, is_either, after_zero, literal_at, sign_at, or_two, or_either}
use Rattle.m4_eval.specs.ReadExpression.{operator_at, operated, closed, whole, finished, step, step_before}
use Rattle.m4_eval.specs.ReadExpression.{step_after, read_from, completed, joined_above, expression_at}
use Rattle.m4_eval.proofs.Steps.{level_most, level_least, floor, HasNoSign, no_sign, looser, turn}

-- By cases on a result.

IsSome : {A : Type 0} → Option A → Type 0
IsSome None = ⊥
IsSome (Some x) = ⊤

-- there was no result
never : {A G : Type 0} {x : A} → None ≡ Some x → G
unfolding IsSome
never e = absurd (subst IsSome (sym e) tt)

-- a test of a byte, and its two ways on
byte_case : {A G : Type 0} (b k : ℕ) {y z u : A} → cond (b == k) y z ≡ u
    → (b ≡ k → y ≡ u → G) → ((b ≡ k → ⊥) → z ≡ u → G) → G
byte_case {G = G} b k {y = y} {z = z} {u = u} e f g = go (b == k) refl e
  where
    go : (t : Bool) → (b == k) ≡ t → cond t y z ≡ u → G
    go true p e = f (eqb-true b k p) e
    go false p e = g (eqb-false b k p) e

-- any test, and its two ways on
test_case : {A G : Type 0} (t : Bool) {y z u : A} → cond t y z ≡ u
    → (t ≡ true → y ≡ u → G) → (t ≡ false → z ≡ u → G) → G
test_case true e f g = f refl e
test_case false e f g = g refl e

-- two steps
step_case : {A B G : Type 0} (o : Option A) (f : A → Option B) {u : B} → option_and_then f o ≡ Some u
    → ((x : A) → o ≡ Some x → f x ≡ Some u → G) → G
step_case None f e g = never e
step_case (Some x) f e g = g x refl e

-- the value of a result
same : {A : Type 0} {x y : A} → Some x ≡ Some y → x ≡ y
same {x = x} e = ap (λ o. unwrap_or o x) e

-- Signs and operators.

pub sign_is : (b : ℕ) (s : Sign) → sign_at b ≡ Some s → b ≡ byte_of s
sign_is b s e =
    byte_case b 43 e (λ p q. p ∙ ap byte_of (same q)) (λ _ e.
    byte_case b 45 e (λ p q. p ∙ ap byte_of (same q)) (λ _ e.
    byte_case b 126 e (λ p q. p ∙ ap byte_of (same q)) (λ _ e.
    byte_case b 33 e (λ p q. p ∙ ap byte_of (same q)) (λ _ e. never e))))

-- the bytes of an operator at the front
abbrev IsSymbol : ℕ → List ℕ → Operator × ℕ → Type 0
IsSymbol b x p = b ∷ take p.1 x ≡ symbol_of p.0

found : (b : ℕ) (x : List ℕ) (o : Operator) (k : ℕ) (q : Operator × ℕ) → Some (o, k) ≡ Some q → IsSymbol b x (o, k) → IsSymbol b x q
found b x o k q e h = subst (IsSymbol b x) (same e) h

one_byte : (b k : ℕ) (x : List ℕ) (o : Operator) (q : Operator × ℕ) → b ≡ k → Some (o, 0) ≡ Some q → k ∷ [] ≡ symbol_of o → IsSymbol b x q
one_byte b k x o q p e h = found b x o 0 q e (ap (λ c. c ∷ []) p ∙ h)

two_bytes : (b k c l : ℕ) (x : List ℕ) (o : Operator) (q : Operator × ℕ) → b ≡ k → c ≡ l → Some (o, 1) ≡ Some q
    → k ∷ l ∷ [] ≡ symbol_of o → IsSymbol b (c ∷ x) q
two_bytes b k c l x o q p r e h = found b (c ∷ x) o 1 q e (ap (λ d. d ∷ c ∷ []) p ∙ ap (λ d. k ∷ d ∷ []) r ∙ h)

either_is : (b k l m : ℕ) (o two other : Operator) (x : List ℕ) (q : Operator × ℕ) → b ≡ k
    → k ∷ [] ≡ symbol_of o → k ∷ l ∷ [] ≡ symbol_of two → k ∷ m ∷ [] ≡ symbol_of other
    → or_either o l two m other x ≡ Some q → IsSymbol b x q
either_is b k l m o two other [] q p f g h e = one_byte b k [] o q p e f
either_is b k l m o two other (c ∷ x) q p f g h e =
    byte_case c l e (λ r e. two_bytes b k c l x two q p r e g) (λ _ e.
    byte_case c m e (λ r e. two_bytes b k c m x other q p r e h) (λ _ e. one_byte b k (c ∷ x) o q p e f))

two_is : (b k l : ℕ) (two : Operator) (x : List ℕ) (q : Operator × ℕ) → b ≡ k
    → k ∷ l ∷ [] ≡ symbol_of two → or_two None l two x ≡ Some q → IsSymbol b x q
two_is b k l two [] q p g e = never e
two_is b k l two (c ∷ x) q p g e =
    byte_case c l e (λ r e. two_bytes b k c l x two q p r e g) (λ _ e. never e)

one_or_two_is : (b k l : ℕ) (o two : Operator) (x : List ℕ) (q : Operator × ℕ) → b ≡ k
    → k ∷ [] ≡ symbol_of o → k ∷ l ∷ [] ≡ symbol_of two → or_two (Some o) l two x ≡ Some q → IsSymbol b x q
one_or_two_is b k l o two [] q p f g e = one_byte b k [] o q p e f
one_or_two_is b k l o two (c ∷ x) q p f g e =
    byte_case c l e (λ r e. two_bytes b k c l x two q p r e g) (λ _ e. one_byte b k (c ∷ x) o q p e f)

pub operator_is : (b : ℕ) (x : List ℕ) (q : Operator × ℕ) → operator_at b x ≡ Some q → IsSymbol b x q
operator_is b x q e =
    byte_case b 42 e (λ p e. one_byte b 42 x Multiply q p e refl) (λ _ e.
    byte_case b 47 e (λ p e. one_byte b 47 x Divide q p e refl) (λ _ e.
    byte_case b 37 e (λ p e. one_byte b 37 x Remainder q p e refl) (λ _ e.
    byte_case b 43 e (λ p e. one_byte b 43 x Add q p e refl) (λ _ e.
    byte_case b 45 e (λ p e. one_byte b 45 x Subtract q p e refl) (λ _ e.
    byte_case b 60 e (λ p e. either_is b 60 60 61 Less ShiftLeft LessOrEqual x q p refl refl refl e) (λ _ e.
    byte_case b 62 e (λ p e. either_is b 62 62 61 Greater ShiftRight GreaterOrEqual x q p refl refl refl e) (λ _ e.
    byte_case b 61 e (λ p e. two_is b 61 61 Equal x q p refl e) (λ _ e.
    byte_case b 33 e (λ p e. two_is b 33 61 NotEqual x q p refl e) (λ _ e.
    byte_case b 38 e (λ p e. one_or_two_is b 38 38 BitAnd And x q p refl refl e) (λ _ e.
    byte_case b 94 e (λ p e. one_byte b 94 x BitXor q p e refl) (λ _ e.
    byte_case b 124 e (λ p e. one_or_two_is b 124 124 BitOr Or x q p refl refl e) (λ _ e. never e))))))))))))

-- Literals.

abbrev run_case : ℕ → List ℕ → Bool → List ℕ
run_case b x t = cond t (b ∷ run_of x) []

-- the run is at the start
pub run_front : (x : List ℕ) → take (length (run_of x)) x ≡ run_of x
run_front [] = refl
run_front (b ∷ x) = go (run_front x) (is_alphanumeric b)
  where
    go : take (length (run_of x)) x ≡ run_of x
        → (t : Bool) → take (length (run_case b x t)) (b ∷ x) ≡ run_case b x t
    go again true = ap (λ y. b ∷ y) again
    go again false = refl

number_found : (radix n : ℕ) (digits : List ℕ) → number_of radix digits ≡ Some n → AreDigitsOf radix n digits
number_found radix n [] e = never e
number_found radix n (b ∷ digits) e =
    test_case (list_all (λ d. is_digit d radix) (b ∷ digits)) e
    (λ t e. record { some = λ f. cc; below = t; value = same e })
    (λ t e. never e)

-- a number with its length
length_case : {G : Type 0} (len : ℕ) (o : Option ℕ) (p : ℕ × ℕ) → of_length len o ≡ Some p
    → (o ≡ Some p.0 → p.1 ≡ len → G) → G
length_case len None p e g = never e
length_case len (Some n) p e g = g (ap (λ q. Some q.0) (same e)) (sym (ap (λ q. q.1) (same e)))

-- a literal at the front
abbrev IsLiteralAt : ℕ → List ℕ → ℕ × ℕ → Type 0
IsLiteralAt b x p = IsLiteral p.0 (b ∷ take p.1 x)

marked_is : (radix c : ℕ) (x : List ℕ) (p : ℕ × ℕ) → in_marked_radix radix x ≡ Some p
    → ((digits : List ℕ) → IsRadixPrefix radix (digit_zero ∷ c ∷ []) digits)
    → IsLiteralAt digit_zero (c ∷ x) p
marked_is radix c x p e f =
    length_case (suc (length (run_of x))) (number_of radix (run_of x)) p e (λ q l. record {
      radix = radix;
      prefix = digit_zero ∷ c ∷ [];
      digits = run_of x;
      is_prefix = f (run_of x);
      are_digits = number_found radix p.0 (run_of x) q;
      spelled = ap (λ k. digit_zero ∷ take k (c ∷ x)) l ∙ ap (λ y. digit_zero ∷ c ∷ y) (run_front x);
    })

digit_is : (radix b : ℕ) (x : List ℕ) (p : ℕ × ℕ) → in_radix_from radix b x ≡ Some p
    → ((digits : List ℕ) → IsRadixPrefix radix [] (b ∷ digits))
    → IsLiteralAt b x p
digit_is radix b x p e f =
    length_case (length (run_of x)) (number_of radix (b ∷ run_of x)) p e (λ q l. record {
      radix = radix;
      prefix = [];
      digits = b ∷ run_of x;
      is_prefix = f (run_of x);
      are_digits = number_found radix p.0 (b ∷ run_of x) q;
      spelled = ap (λ k. b ∷ take k x) l ∙ ap (λ y. b ∷ y) (run_front x);
    })

take_past : (c n : ℕ) (x z : List ℕ) → take (suc (length x + n)) (x ++ c ∷ z) ≡ x ++ c ∷ take n z
take_past c n [] z = let e : 0 + n ≡ n = omega arith in ap (λ k. c ∷ take k z) e
take_past c n (b ∷ x) z =
    let e : suc (length x) + n ≡ suc (length x + n) = omega arith in
    ap (λ k. b ∷ take k (x ++ c ∷ z)) e ∙ ap (λ y. b ∷ y) (take_past c n x z)

-- after the digits of a radix
after_is : (radix r : ℕ) (mark said rest : List ℕ) (p : ℕ × ℕ)
    → mark ≡ digit_zero ∷ r ∷ [] → (mark ≡ codes "0r") ⊎ (mark ≡ codes "0R")
    → AreDigitsOf 10 radix said → after_radix radix said rest ≡ Some p
    → IsLiteralAt digit_zero (r ∷ (said ++ rest)) p
after_is radix r mark said [] p m im a e = never e
after_is radix r mark said (c ∷ z) p m im a e =
    byte_case c colon e (λ f e.
    test_case (nat_le 2 radix && nat_le radix 36) e (λ t e.
    length_case (suc (suc (length said + length (run_of z)))) (number_of radix (run_of z)) p e (λ q l.
    let b = and_parts (nat_le 2 radix) (nat_le radix 36) t in
    record {
      radix = radix;
      prefix = mark ++ said ++ colon ∷ [];
      digits = run_of z;
      is_prefix = stated (record {
        mark = mark;
        digits = said;
        is_mark = im;
        are_digits = a;
        least = leb-true 2 radix b.0;
        most = leb-true radix 36 b.1;
        spelled = refl;
      });
      are_digits = number_found radix p.0 (run_of z) q;
      spelled = ap (λ k. digit_zero ∷ take k (r ∷ (said ++ c ∷ z))) l
          ∙ ap (λ y. digit_zero ∷ r ∷ y) (take_past c (length (run_of z)) said z)
          ∙ ap (λ y. digit_zero ∷ r ∷ (said ++ c ∷ y)) (run_front z)
          ∙ ap (λ d. digit_zero ∷ r ∷ (said ++ d ∷ run_of z)) f
          ∙ ap (λ y. digit_zero ∷ r ∷ y) (sym (append_assoc said (colon ∷ []) (run_of z)))
          ∙ ap (λ y. y ++ said ++ colon ∷ [] ++ run_of z) (sym m);
    }))
    (λ _ e. never e))
    (λ _ e. never e)

stated_is : (r : ℕ) (x : List ℕ) (p : ℕ × ℕ) → (digit_zero ∷ r ∷ [] ≡ codes "0r") ⊎ (digit_zero ∷ r ∷ [] ≡ codes "0R")
    → in_stated_radix x ≡ Some p → IsLiteralAt digit_zero (r ∷ x) p
stated_is r x p m e =
    step_case (number_of 10 (run_of x)) (λ radix. after_radix radix (run_of x) (drop (length (run_of x)) x)) e (λ radix n e.
    subst (λ y. IsLiteralAt digit_zero (r ∷ y) p)
    (ap (λ y. y ++ drop (length (run_of x)) x) (sym (run_front x)) ∙ take-append-drop (length (run_of x)) x)
    (after_is radix r (digit_zero ∷ r ∷ []) (run_of x) (drop (length (run_of x)) x) p refl m (number_found 10 radix (run_of x) n) e))

-- one of two letters
letter_is : (c m n : ℕ) (small capital : List ℕ) → is_either c m n ≡ true → digit_zero ∷ m ∷ [] ≡ small → digit_zero ∷ n ∷ [] ≡ capital
    → (digit_zero ∷ c ∷ [] ≡ small) ⊎ (digit_zero ∷ c ∷ [] ≡ capital)
letter_is c m n small capital h e f = go (or_cases (c == m) (c == n) h)
  where
    go : ((c == m) ≡ true) ⊎ ((c == n) ≡ true) → (digit_zero ∷ c ∷ [] ≡ small) ⊎ (digit_zero ∷ c ∷ [] ≡ capital)
    go (inl t) = inl (ap (λ d. digit_zero ∷ d ∷ []) (eqb-true c m t) ∙ e)
    go (inr t) = inr (ap (λ d. digit_zero ∷ d ∷ []) (eqb-true c n t) ∙ f)

zero_is : (x : List ℕ) (p : ℕ × ℕ) → after_zero x ≡ Some p → IsLiteralAt digit_zero x p
zero_is [] p e = digit_is 8 digit_zero [] p e (λ digits. octal refl refl refl)
zero_is (c ∷ x) p e =
    test_case (is_either c 120 88) e (λ t e. marked_is 16 c x p e
    (λ digits. hexadecimal refl (letter_is c 120 88 (codes "0x") (codes "0X") t refl refl))) (λ _ e.
    test_case (is_either c 98 66) e (λ t e. marked_is 2 c x p e (λ digits. binary refl (letter_is c 98 66 (codes "0b") (codes "0B") t refl refl))) (λ _ e.
    test_case (is_either c 114 82) e (λ t e. stated_is c x p (letter_is c 114 82 (codes "0r") (codes "0R") t refl refl) e) (λ _ e.
    digit_is 8 digit_zero (c ∷ x) p e (λ digits. octal refl refl refl))))

pub literal_is : (b : ℕ) (x : List ℕ) (p : ℕ × ℕ) → literal_at b x ≡ Some p → IsLiteralAt b x p
literal_is b x p e =
    byte_case b digit_zero e (λ f e. subst (λ c. IsLiteralAt c x p) (sym f) (zero_is x p e)) (λ f e.
    test_case (is_digit b 10) e (λ _ e. digit_is 10 b x p e (λ digits. decimal refl refl f)) (λ _ e. never e))

-- The bytes that were read.

-- the open parts spell this
abbrev pub Waits : List Frame → List ℕ → Type 0
Waits [] c = c ≡ []
Waits (Opened ∷ w) c =
    (before : List ℕ) × (gap : List ℕ) × Waits w before × AreSpaces gap
    × (c ≡ before ++ gap ++ open_parenthesis ∷ [])
Waits (Prefixed s ∷ w) c =
    (before : List ℕ) × (gap : List ℕ) × Waits w before × AreSpaces gap
    × (c ≡ before ++ gap ++ byte_of s ∷ [])
Waits (Left d o ∷ w) c =
    (before : List ℕ) × (left : List ℕ) × (gap : List ℕ) × Waits w before × (floor w ≤ level_of o)
    × SpellsAt (level_of o) d left × AreSpaces gap × (c ≡ before ++ left ++ gap ++ symbol_of o)

-- the open parts and the operand spell this
abbrev pub Holds : Reading → List ℕ → Type 0
Holds (Before w) c = Waits w c
Holds (After w e) c =
    (before : List ℕ) × (front : List ℕ) × Waits w before × HasNoSign w
    × SpellsAt operand_level e front × (c ≡ before ++ front)

-- and white space after it
pub record Consumed (r : Reading) (c : List ℕ) : Type 0 where
  pub base : List ℕ
  pub gap : List ℕ
  pub holds : Holds r base
  pub are_spaces : AreSpaces gap
  pub split : c ≡ base ++ gap

completed_holds : (w : List Frame) (e : Expression) (before front : List ℕ) → Waits w before → SpellsAt operand_level e front
    → Holds (completed w e) (before ++ front)
completed_holds [] e before front h s = (before, front, h, tt, s, refl)
completed_holds (Opened ∷ w) e before front h s = (before, front, h, tt, s, refl)
completed_holds (Left d o ∷ w) e before front h s = (before, front, h, tt, s, refl)
completed_holds (Prefixed g ∷ w) e before front h s =
    subst (Holds (completed w (Signed g e))) (regroup h.0 h.1 ∙ ap (λ y. y ++ front) (sym h.4))
    (completed_holds w (Signed g e) h.0 (h.1 ++ byte_of g ∷ front) h.2 (h.1, front, h.3, s, refl))
  where
    regroup : (x y : List ℕ) → x ++ (y ++ byte_of g ∷ front) ≡ (x ++ y ++ byte_of g ∷ []) ++ front
    regroup x y = simp append_assoc

-- what is joined spells the same
record JoinedHolds (n : ℕ) (j : List Frame × Expression) (c : List ℕ) : Type 0 where
  before : List ℕ
  front : List ℕ
  waits : Waits j.0 before
  loose : floor j.0 ≤ n
  spelled : SpellsAt n j.1 front
  split : c ≡ before ++ front

joined_holds : (n : ℕ) (w : List Frame) (e : Expression) (m : ℕ) (before front : List ℕ) → 1 ≤ n → Waits w before
    → HasNoSign w → floor w ≤ m → n ≤ m → SpellsAt m e front
    → JoinedHolds n (joined_above n w e) (before ++ front)
joined_holds n [] e m before front l h g f k s =
    record { before = before; front = front; waits = h; loose = l; spelled = looser e m n front k s; split = refl }
joined_holds n (Opened ∷ w) e m before front l h g f k s =
    record { before = before; front = front; waits = h; loose = l; spelled = looser e m n front k s; split = refl }
joined_holds n (Prefixed q ∷ w) e m before front l h g f k s = absurd g
joined_holds n (Left d o ∷ w) e m before front l h g f k s =
    go (λ k'. joined_holds n w (Joined o d e) (level_of o) h.0 (h.1 ++ h.2 ++ symbol_of o ++ front) l h.3 (no_sign w o h.4) h.4 k'
    (h.1, h.2, front, le_refl (level_of o), h.5, h.6, looser e m (suc (level_of o)) front f s, refl))
    (nat_le n (level_of o)) refl
  where
    regroup : (x y z t : List ℕ) → x ++ (y ++ z ++ t ++ front) ≡ (x ++ y ++ z ++ t) ++ front
    regroup x y z t = simp append_assoc

    joined_case : Bool → List Frame × Expression
    joined_case t =
        elim t [
          | true ↦ joined_above n w (Joined o d e)
          | false ↦ (Left d o ∷ w, e)
        ]

    go : (n ≤ level_of o → JoinedHolds n (joined_above n w (Joined o d e)) (h.0 ++ (h.1 ++ h.2 ++ symbol_of o ++ front)))
        → (t : Bool) → nat_le n (level_of o) ≡ t
        → JoinedHolds n (elim t [ true ↦ joined_above n w (Joined o d e) | false ↦ (Left d o ∷ w, e) ]) (before ++ front)
    go again true p =
        subst (JoinedHolds n (joined_above n w (Joined o d e)))
        (regroup h.0 h.1 h.2 (symbol_of o) ∙ ap (λ y. y ++ front) (sym h.7))
        (again (leb-true n (level_of o) p))
    go again false p = record {
      before = before;
      front = front;
      waits = h;
      loose = leb-false n (level_of o) p;
      spelled = looser e m n front k s;
      split = refl;
    }

-- the operand, joined
joined_after : (n : ℕ) (w : List Frame) (e : Expression) (c : List ℕ) → 1 ≤ n → n ≤ operand_level → Holds (After w e) c
    → JoinedHolds n (joined_above n w e) c
joined_after n w e c l k h =
    subst (JoinedHolds n (joined_above n w e)) (sym h.5)
    (joined_holds n w e operand_level h.0 h.1 l h.2 h.3 (floor_most w h.3) k h.4)
  where
    floor_most : (w : List Frame) → HasNoSign w → floor w ≤ operand_level
    floor_most [] h = omega arith
    floor_most (Opened ∷ w) h = omega arith
    floor_most (Prefixed s ∷ w) h = omega arith
    floor_most (Left d o ∷ w) h = level_most o

-- A step.

abbrev before_case : List Frame → ℕ → List ℕ → Option Sign → Option (Reading × ℕ)
before_case w b x s =
    elim s [
      | Some s ↦ Some (Before (Prefixed s ∷ w), 0)
      | None ↦ option_and_then (λ n. Some (completed w (Number n.0), n.1)) (literal_at b x)
    ]

-- the result of a step spells the bytes with those that it reads
abbrev Took : List ℕ → ℕ → List ℕ → Reading × ℕ → Type 0
Took c b x q = Holds q.0 (c ++ b ∷ take q.1 x)

before_takes : (w : List Frame) (b : ℕ) (x c : List ℕ) (q : Reading × ℕ) → Consumed (Before w) c
    → step_before w b x ≡ Some q → Took c b x q
before_takes w b x c q h e =
    byte_case b open_parenthesis e
    (λ p e. subst (Took c b x) (same e) (h.base, h.gap, h.holds, h.are_spaces, ap (λ y. y ++ b ∷ []) h.split ∙ ap (λ d. h.base ++ h.gap ++ d ∷ []) p))
    (λ _ e. by_sign (sign_at b) refl e)
  where
    by_sign : (s : Option Sign) → sign_at b ≡ s → before_case w b x s ≡ Some q → Took c b x q
    by_sign (Some s) f e =
        subst (Took c b x) (same e)
        (h.base, h.gap, h.holds, h.are_spaces, ap (λ y. y ++ b ∷ []) h.split ∙ ap (λ d. h.base ++ h.gap ++ d ∷ []) (sign_is b s f))
    by_sign None f e =
        step_case (literal_at b x) (λ n. Some (completed w (Number n.0), n.1)) e (λ n l e.
        subst (Took c b x) (same e)
        (subst (Holds (completed w (Number n.0))) (sym (append_assoc h.base h.gap (b ∷ take n.1 x)) ∙ ap (λ y. y ++ b ∷ take n.1 x) (sym h.split))
        (completed_holds w (Number n.0) h.base (h.gap ++ b ∷ take n.1 x) h.holds (h.gap, b ∷ take n.1 x, h.are_spaces, literal_is b x n l, refl))))

closed_takes : (w : List Frame) (e : Expression) (base gap : List ℕ) (r : Reading) → JoinedHolds 1 (w, e) base → AreSpaces gap
    → closed w e ≡ Some r → Holds r (base ++ gap ++ close_parenthesis ∷ [])
closed_takes [] e base gap r j g f = never f
closed_takes (Prefixed s ∷ w) e base gap r j g f = never f
closed_takes (Left d o ∷ w) e base gap r j g f = never f
closed_takes (Opened ∷ w) e base gap r j g f =
    let v : Waits (Opened ∷ w) j.before = j.waits in
    subst (λ q. Holds q (base ++ gap ++ close_parenthesis ∷ [])) (same f)
    (subst (Holds (completed w (Group e)))
    (regroup v.0 v.1 j.front ∙ ap (λ y. y ++ j.front ++ gap ++ close_parenthesis ∷ []) (sym v.4) ∙ ap (λ y. y ++ gap ++ close_parenthesis ∷ []) (sym j.split))
    (completed_holds w (Group e) v.0 (v.1 ++ open_parenthesis ∷ j.front ++ gap ++ close_parenthesis ∷ []) v.2
    (v.1, j.front, gap, v.3, j.spelled, g, refl)))
  where
    regroup : (x y z : List ℕ) → x ++ (y ++ open_parenthesis ∷ z ++ gap ++ close_parenthesis ∷ [])
        ≡ (x ++ y ++ open_parenthesis ∷ []) ++ z ++ gap ++ close_parenthesis ∷ []
    regroup x y z = simp append_assoc

after_takes : (w : List Frame) (v : Expression) (b : ℕ) (x c : List ℕ) (q : Reading × ℕ) → Consumed (After w v) c
    → step_after w v b x ≡ Some q → Took c b x q
after_takes w v b x c q h e =
    byte_case b close_parenthesis e
    (λ p e. step_case (closed (joined_above 1 w v).0 (joined_above 1 w v).1) (λ r. Some (r, 0)) e (λ r f e.
    subst (Took c b x) (same e)
    (subst (Holds r) (ap (λ d. h.base ++ h.gap ++ d ∷ []) (sym p) ∙ ap (λ y. y ++ b ∷ []) (sym h.split))
    (closed_takes (joined_above 1 w v).0 (joined_above 1 w v).1 h.base h.gap r (joined_after 1 w v h.base (le_refl 1) (omega arith) h.holds) h.are_spaces f))))
    (λ _ e. step_case (operator_at b x) (λ o. Some (operated o.0 (joined_above (level_of o.0) w v), o.1)) e (λ o f e.
    subst (Took c b x) (same e) (by_operator o f)))
  where
    regroup : (x y z t : List ℕ) → x ++ y ++ z ++ t ≡ x ++ (y ++ (z ++ t))
    regroup x y z t = simp append_assoc

    by_operator : (o : Operator × ℕ) → operator_at b x ≡ Some o → Holds (operated o.0 (joined_above (level_of o.0) w v)) (c ++ b ∷ take o.1 x)
    by_operator o f =
        let l = level_most o.0 in
        let j = joined_after (level_of o.0) w v h.base (level_least o.0) (omega (arith, l)) h.holds in (
          j.before,
          j.front,
          h.gap,
          j.waits,
          j.loose,
          j.spelled,
          h.are_spaces,
          ap (λ y. y ++ b ∷ take o.1 x) h.split ∙ ap (λ y. h.base ++ h.gap ++ y) (operator_is b x o f) ∙ ap (λ y. y ++ h.gap ++ symbol_of o.0) j.split,
        )

step_takes : (r : Reading) (b : ℕ) (x c : List ℕ) (q : Reading × ℕ) → Consumed r c → step r b x ≡ Some q → Took c b x q
step_takes (Before w) b x c q h e = before_takes w b x c q h e
step_takes (After w v) b x c q h e = after_takes w v b x c q h e

-- The end.

whole_spelled : (w : List Frame) (v e : Expression) (base gap : List ℕ) → JoinedHolds 1 (w, v) base → AreSpaces gap
    → whole w v ≡ Some e → SpellsExpression e (base ++ gap)
whole_spelled [] v e base gap j g f =
    subst (λ u. SpellsExpression u (base ++ gap)) (same f)
    (j.front, gap, j.spelled, g, ap (λ y. y ++ gap) (j.split ∙ ap (λ y. y ++ j.front) j.waits))
whole_spelled (q ∷ w) v e base gap j g f = never f

finished_spelled : (r : Reading) (c : List ℕ) (e : Expression) → Consumed r c → finished r ≡ Some e → SpellsExpression e c
finished_spelled (Before w) c e h f = never f
finished_spelled (After w v) c e h f =
    subst (SpellsExpression e) (sym h.split)
    (whole_spelled (joined_above 1 w v).0 (joined_above 1 w v).1 e h.base h.gap (joined_after 1 w v h.base (le_refl 1) (omega arith) h.holds) h.are_spaces f)

-- The whole text.

consumed_space : (r : Reading) (b : ℕ) (c : List ℕ) → is_space b ≡ true → Consumed r c → Consumed r (c ++ b ∷ [])
consumed_space r b c e h = record {
  base = h.base;
  gap = h.gap ++ b ∷ [];
  holds = h.holds;
  are_spaces = all_more h.gap h.are_spaces;
  split = ap (λ y. y ++ b ∷ []) h.split ∙ append_assoc h.base h.gap (b ∷ []);
}
  where
    all_more : (x : List ℕ) → AreSpaces x → AreSpaces (x ++ b ∷ [])
    all_more [] a = and_from (is_space b) true e refl
    all_more (d ∷ x) a =
        let p = and_parts (is_space d) (list_all is_space x) a in
        and_from (is_space d) (list_all is_space (x ++ b ∷ [])) p.0 (all_more x p.1)

consumed_now : (r : Reading) (c : List ℕ) → Holds r c → Consumed r c
consumed_now r c h = record { base = c; gap = []; holds = h; are_spaces = refl; split = sym (append-nil c) }

pub read_spelled : (x : List ℕ) (skip : ℕ) (r : Reading) (c : List ℕ) (e : Expression) → Consumed r (c ++ take skip x)
    → read_from skip r x ≡ Some e → SpellsExpression e (c ++ x)
read_spelled [] zero r c e h f = finished_spelled r (c ++ []) e h f
read_spelled [] (suc skip) r c e h f = finished_spelled r (c ++ []) e h f
read_spelled (b ∷ x) (suc skip) r c e h f =
    subst (SpellsExpression e) (append_assoc c (b ∷ []) x)
    (read_spelled x skip r (c ++ b ∷ []) e (subst (Consumed r) (sym (append_assoc c (b ∷ []) (take skip x))) h) f)
read_spelled (b ∷ x) zero r c e h f =
    subst (SpellsExpression e) (append_assoc c (b ∷ []) x)
    (go (read_spelled x zero r (c ++ b ∷ []) e) (λ q. read_spelled x q.1 q.0 (c ++ b ∷ []) e) (is_space b) refl f)
  where
    now : Consumed r c
    now = subst (Consumed r) (append-nil c) h

    go : (Consumed r ((c ++ b ∷ []) ++ []) → read_from zero r x ≡ Some e → SpellsExpression e ((c ++ b ∷ []) ++ x))
        → ((q : Reading × ℕ) → Consumed q.0 ((c ++ b ∷ []) ++ take q.1 x) → read_from q.1 q.0 x ≡ Some e → SpellsExpression e ((c ++ b ∷ []) ++ x))
        → (t : Bool) → is_space b ≡ t → turn r b x t ≡ Some e → SpellsExpression e ((c ++ b ∷ []) ++ x)
    go on after true s f = on (subst (Consumed r) (sym (append-nil (c ++ b ∷ []))) (consumed_space r b c s now)) f
    go on after false s f =
        step_case (step r b x) (λ p. read_from p.1 p.0 x) f (λ q k f.
        after q (consumed_now q.0 ((c ++ b ∷ []) ++ take q.1 x)
        (subst (Holds q.0) (sym (append_assoc c (b ∷ []) (take q.1 x))) (step_takes r b x c q now k))) f)

pub whole_is_spelled : (text : List ℕ) (e : Expression) → expression_at text ≡ Some e → SpellsExpression e text
whole_is_spelled text e f =
    read_spelled text zero (Before []) [] e (consumed_now (Before []) [] refl) f
