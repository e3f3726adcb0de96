-- Valued: values that are computed while a text is read are those of the expression that is read.
use Rattle.std.proofs.Common.{◌≡◌, ℕ, zero, suc, ℤ, Bool, true, false, cond, List, [], ◌∷◌, Option, Some, None}
use Rattle.std.proofs.Common.{option_map, option_and_then, refl, ap, ◌∙◌}
use Rattle.std.specs.Prelude.{◌==◌, nat_le, pos}
use Rattle.m4_input.specs.Ascii.{is_space, open_parenthesis, close_parenthesis}
use Rattle.m4_eval.specs.declared.operator.Sign.{Sign}
use Rattle.m4_eval.specs.declared.operator.Operator.{Operator}
use Rattle.m4_eval.specs.declared.value.Value.{Value}
use Rattle.m4_eval.specs.declared.value.Value.TheVariants as v
use Rattle.m4_eval.specs.declared.frame.Frame.{Frame}
use Rattle.m4_eval.specs.declared.frame.Frame.TheVariants as f
use Rattle.m4_eval.specs.Expression.{Expression, Number, Group, Signed, Joined, level_of}
use Rattle.m4_eval.specs.Value.{value, wrapped, sign_value, joined_from}
use Rattle.m4_eval.specs.ReadExpression as r
use Rattle.m4_eval.specs.ReadExpression.{Reading, Before, After, completed, joined_above, closed, whole, finished}
use Rattle.m4_eval.specs.ReadExpression.{step, read_from, expression_at, literal_at, sign_at, operator_at, operated}
use Rattle.m4_eval.specs.EvaluateSteps.{as_value, number, Place, joined_values, with_signs, joined_while, closed_place, before_step}
use Rattle.m4_eval.specs.EvaluateSteps.{operated_place, after_step, step_from, alone, ended, values_from, value_at}

-- the code's value of an expression
abbrev value_of : Expression → Value
value_of e = as_value (value e)

number-as : (o : Option ℤ) → number (as_value o) ≡ o
number-as None = refl
number-as (Some z) = refl

-- the open parts by their values
abbrev frames : List r.Frame → List Frame
frames [] = []
frames (r.Opened ∷ w) = f.Opened ∷ frames w
frames (r.Prefixed s ∷ w) = f.Prefixed s ∷ frames w
frames (r.Left d o ∷ w) = f.Left (value_of d) o ∷ frames w

-- a reading, by its values
abbrev place_of : Reading → Place
place_of (Before w) = record { waiting = frames w; current = None }
place_of (After w e) = record { waiting = frames w; current = Some (value_of e) }

-- a reading and how many bytes it took, by its values
abbrev taken : Reading × ℕ → Place × ℕ
taken q = (place_of q.0, q.1)

-- what is joined, by its values
abbrev pair : List r.Frame × Expression → List Frame × Value
pair j = (frames j.0, value_of j.1)

signs : (w : List r.Frame) (e : Expression) → with_signs (frames w) (value_of e) ≡ place_of (completed w e)
signs [] e = refl
signs (r.Opened ∷ w) e = refl
signs (r.Prefixed s ∷ w) e =
    ap (λ o. with_signs (frames w) (as_value (option_map (sign_value s) o))) (number-as (value e)) ∙ signs w (Signed s e)
signs (r.Left d o ∷ w) e = refl

joins : (n : ℕ) (w : List r.Frame) (e : Expression) → joined_while n (frames w) (value_of e) ≡ pair (joined_above n w e)
joins n [] e = refl
joins n (r.Opened ∷ w) e = refl
joins n (r.Prefixed s ∷ w) e = refl
joins n (r.Left d o ∷ w) e =
    go (ap (joined_while n (frames w)) same ∙ joins n w (Joined o d e)) (nat_le n (level_of o))
  where
    same : joined_values o (value_of d) (value_of e) ≡ value_of (Joined o d e)
    same =
        ap (λ b. as_value (option_and_then (joined_from o b) (number (value_of d)))) (number-as (value e))
        ∙ ap (λ a. as_value (option_and_then (joined_from o (value e)) a)) (number-as (value d))

    go : joined_while n (frames w) (joined_values o (value_of d) (value_of e)) ≡ pair (joined_above n w (Joined o d e))
        → (t : Bool)
        → (elim t [ true ↦ joined_while n (frames w) (joined_values o (value_of d) (value_of e)) | false ↦ (f.Left (value_of d) o ∷ frames w, value_of e) ])
        ≡ pair (elim t [ true ↦ joined_above n w (Joined o d e) | false ↦ (r.Left d o ∷ w, e) ])
    go again true = again
    go again false = refl

closes : (w : List r.Frame) (e : Expression) → closed_place (frames w, value_of e) ≡ option_map place_of (closed w e)
closes [] e = refl
closes (r.Opened ∷ w) e = ap Some (signs w (Group e))
closes (r.Prefixed s ∷ w) e = refl
closes (r.Left d o ∷ w) e = refl

alone_is : (w : List r.Frame) (e : Expression) → alone (frames w, value_of e) ≡ option_map value_of (whole w e)
alone_is [] e = refl
alone_is (r.Opened ∷ w) e = refl
alone_is (r.Prefixed s ∷ w) e = refl
alone_is (r.Left d o ∷ w) e = refl

-- two ways round a step
around : {A B D : Type 0} (o : Option A) (g : A → Option B) (h : B → D) (k : A → Option D)
    → ((a : A) → k a ≡ option_map h (g a)) → option_and_then k o ≡ option_map h (option_and_then g o)
around None g h k e = refl
around (Some a) g h k e = e a

before_is : (w : List r.Frame) (b : ℕ) (x : List ℕ) → before_step (frames w) b x ≡ option_map taken (step (Before w) b x)
before_is w b x = by_open (b == open_parenthesis)
  where
    by_sign : (s : Option Sign)
        → (elim s [
          | Some s ↦ Some (record { waiting = f.Prefixed s ∷ frames w; current = None }, 0)
          | None ↦ option_and_then (λ n. Some (with_signs (frames w) (v.Number (wrapped (pos n.0))), n.1)) (literal_at b x)
        ])
        ≡ option_map taken (elim s [
          | Some s ↦ Some (Before (r.Prefixed s ∷ w), 0)
          | None ↦ option_and_then (λ n. Some (completed w (Number n.0), n.1)) (literal_at b x)
        ])
    by_sign (Some s) = refl
    by_sign None =
        around (literal_at b x) (λ n. Some (completed w (Number n.0), n.1)) taken
        (λ n. Some (with_signs (frames w) (v.Number (wrapped (pos n.0))), n.1))
        (λ n. ap (λ p. Some (p, n.1)) (signs w (Number n.0)))

    by_open : (t : Bool)
        → cond t (Some (record { waiting = f.Opened ∷ frames w; current = None }, 0))
        (elim (sign_at b) [
          | Some s ↦ Some (record { waiting = f.Prefixed s ∷ frames w; current = None }, 0)
          | None ↦ option_and_then (λ n. Some (with_signs (frames w) (v.Number (wrapped (pos n.0))), n.1)) (literal_at b x)
        ])
        ≡ option_map taken (cond t (Some (Before (r.Opened ∷ w), 0))
        (elim (sign_at b) [
          | Some s ↦ Some (Before (r.Prefixed s ∷ w), 0)
          | None ↦ option_and_then (λ n. Some (completed w (Number n.0), n.1)) (literal_at b x)
        ]))
    by_open true = refl
    by_open false = by_sign (sign_at b)

closed_step : (w : List r.Frame) (e : Expression)
    → option_and_then (λ (p : Place). Some (p, 0)) (closed_place (joined_while 1 (frames w) (value_of e)))
    ≡ option_map taken (option_and_then (λ (q : Reading). Some (q, 0)) (closed (joined_above 1 w e).0 (joined_above 1 w e).1))
closed_step w e =
    ap (λ j. option_and_then (λ (p : Place). Some (p, 0)) (closed_place j)) (joins 1 w e)
    ∙ ap (option_and_then (λ (p : Place). Some (p, 0))) (closes (joined_above 1 w e).0 (joined_above 1 w e).1)
    ∙ go (closed (joined_above 1 w e).0 (joined_above 1 w e).1)
  where
    go : (o : Option Reading) → option_and_then (λ (p : Place). Some (p, 0)) (option_map place_of o)
        ≡ option_map taken (option_and_then (λ (q : Reading). Some (q, 0)) o)
    go None = refl
    go (Some q) = refl

operator_step : (w : List r.Frame) (e : Expression) (o : Option (Operator × ℕ))
    → option_and_then (λ (p : Operator × ℕ). Some (operated_place p.0 (joined_while (level_of p.0) (frames w) (value_of e)), p.1)) o
    ≡ option_map taken (option_and_then (λ (p : Operator × ℕ). Some (operated p.0 (joined_above (level_of p.0) w e), p.1)) o)
operator_step w e None = refl
operator_step w e (Some p) = ap (λ j. Some (operated_place p.0 j, p.1)) (joins (level_of p.0) w e)

after_is : (w : List r.Frame) (e : Expression) (b : ℕ) (x : List ℕ)
    → after_step (frames w) (value_of e) b x ≡ option_map taken (step (After w e) b x)
after_is w e b x = go (b == close_parenthesis)
  where
    go : (t : Bool)
        → cond t (option_and_then (λ (p : Place). Some (p, 0)) (closed_place (joined_while 1 (frames w) (value_of e))))
        (option_and_then (λ (p : Operator × ℕ). Some (operated_place p.0 (joined_while (level_of p.0) (frames w) (value_of e)), p.1)) (operator_at b x))
        ≡ option_map taken (cond t (option_and_then (λ (q : Reading). Some (q, 0)) (closed (joined_above 1 w e).0 (joined_above 1 w e).1))
        (option_and_then (λ (p : Operator × ℕ). Some (operated p.0 (joined_above (level_of p.0) w e), p.1)) (operator_at b x)))
    go true = closed_step w e
    go false = operator_step w e (operator_at b x)

step_is : (q : Reading) (b : ℕ) (x : List ℕ)
    → step_from (place_of q).current (place_of q).waiting b x ≡ option_map taken (step q b x)
step_is (Before w) b x = before_is w b x
step_is (After w e) b x = after_is w e b x

end_is : (q : Reading) → ended (place_of q).current (place_of q).waiting ≡ option_map value_of (finished q)
end_is (Before w) = refl
end_is (After w e) = ap alone (joins 1 w e) ∙ alone_is (joined_above 1 w e).0 (joined_above 1 w e).1

values_are : (skip : ℕ) (q : Reading) (x : List ℕ) → values_from skip (place_of q) x ≡ option_map value_of (read_from skip q x)
values_are zero q [] = end_is q
values_are (suc skip) q [] = end_is q
values_are (suc skip) q (b ∷ x) = values_are skip q x
values_are zero q (b ∷ x) = go (values_are zero q x) (λ p. values_are p.1 p.0 x) (is_space b)
  where
    after : ((p : Reading × ℕ) → values_from p.1 (place_of p.0) x ≡ option_map value_of (read_from p.1 p.0 x))
        → (o : Option (Reading × ℕ))
        → option_and_then (λ (p : Place × ℕ). values_from p.1 p.0 x) (option_map taken o)
        ≡ option_map value_of (option_and_then (λ (p : Reading × ℕ). read_from p.1 p.0 x) o)
    after again None = refl
    after again (Some p) = again p

    go : values_from zero (place_of q) x ≡ option_map value_of (read_from zero q x)
        → ((p : Reading × ℕ) → values_from p.1 (place_of p.0) x ≡ option_map value_of (read_from p.1 p.0 x))
        → (t : Bool)
        → (elim t [
          | true ↦ values_from zero (place_of q) x
          | false ↦ option_and_then (λ (p : Place × ℕ). values_from p.1 p.0 x) (step_from (place_of q).current (place_of q).waiting b x)
        ])
        ≡ option_map value_of (elim t [
          | true ↦ read_from zero q x
          | false ↦ option_and_then (λ (p : Reading × ℕ). read_from p.1 p.0 x) (step q b x)
        ])
    go here again true = here
    go here again false =
        ap (option_and_then (λ (p : Place × ℕ). values_from p.1 p.0 x)) (step_is q b x) ∙ after again (step q b x)

pub values_are_read : (text : List ℕ) → option_map number (value_at text) ≡ option_map value (expression_at text)
values_are_read text = ap (option_map number) (values_are zero (Before []) text) ∙ go (expression_at text)
  where
    go : (o : Option Expression) → option_map number (option_map value_of o) ≡ option_map value o
    go None = refl
    go (Some e) = ap Some (number-as (value e))
