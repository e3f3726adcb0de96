-- Looks: a token that begins with a letter is a name of at least one byte.
use Rattle.std.proofs.Common.{◌≡◌, ◌<◌, ℕ, Bool, true, false, List, ◌∷◌, drop, sym, ◌∙◌, subst}
use Rattle.std.proofs.Common.{refl}
use Rattle.std.specs.Prelude.{◌||◌}
use Rattle.m4_state.specs.declared.delimiters.Delimiters.{Delimiters}
use Rattle.m4_input.specs.declared.front.Kind.{Kind}
use Rattle.m4_input.specs.declared.front.Kind.TheVariants.{NameHere}
use Rattle.m4_input.specs.Ascii.{is_name_byte}
use Rattle.m4_input.specs.Token.{run_length, kind_of}
use Rattle.m4_input.proofs.Cases.{kind_by}
use Rattle.m4_input.proofs.Consumed.{run_starts}

letter_of : (v w l x y : Bool) → kind_by v w l x y ≡ NameHere → l ≡ true
letter_of true w l x y e = cc
letter_of false true l x y e = cc
letter_of false false true x y e = refl
letter_of false false false true y e = cc
letter_of false false false false true e = cc
letter_of false false false false false e = cc

-- a name has a byte
pub name_begins : (q c : Delimiters) (m : Bool) (b : ℕ) (x : List ℕ) (k : Kind) → x ≡ b ∷ drop 1 x
    → k ≡ kind_of q c m b (drop 1 x) → k ≡ NameHere → 0 < run_length is_name_byte x
name_begins q c m b x k e g h =
    subst (λ (z : List ℕ). 0 < run_length is_name_byte z) (sym e)
    (run_starts b (drop 1 x) (letter_of _ _ _ _ _ (sym g ∙ h)))
