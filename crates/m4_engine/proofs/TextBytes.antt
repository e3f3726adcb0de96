-- TextBytes: bytes that are text in an argument.
use Rattle.std.proofs.Common.{◌≡◌, ◌<◌, ℕ, Bool, true, false, ◌&&◌, not, List, ◌∷◌, get_or, refl, ap, ◌∙◌}
use Rattle.std.specs.Prelude.{◌||◌, ◌==◌}
use Rattle.m4_state.specs.declared.delimiters.Delimiters.{Delimiters}
use Rattle.m4_input.specs.Ascii.{is_letter, is_space}
use Rattle.m4_input.proofs.ByteTables.{all_below, at_each}
use Rattle.m4_input.specs.Token.{starts_with, may_start, scan_kind}
use Rattle.m4_input.proofs.Cases.{kind_by}
use Rattle.m4_engine.specs.Args.{role_of}
use Rattle.m4_engine.specs.Expansion.{Call}
use Rattle.m4_engine.specs.declared.role.Role.TheVariants.{Other}
use Rattle.m4_engine.specs.Collected.{IsLone}
use Rattle.m4_engine.specs.declared.collect.TheConstants.{TEXT_BYTES}
use Rattle.m4_engine.proofs.Cases.{role_by}

-- a byte at whose place a full stop is is no letter, no parenthesis and no comma
abbrev is_text_class : List ℕ → ℕ → Bool
is_text_class t b = not (get_or t b 0 == 46) || (not (is_letter b) && (not (b == 40) && (not (b == 41) && not (b == 44))))

by_class : (v l p r k : Bool) → v ≡ true → (not v || (not l && (not p && (not r && not k)))) ≡ true → (l ≡ false) × (p ≡ false) × (r ≡ false) × (k ≡ false)
by_class false l p r k e h = cc
by_class true true p r k e h = cc
by_class true false true r k e h = cc
by_class true false false true k e h = cc
by_class true false false false true e h = cc
by_class true false false false false e h = (refl, refl, refl, refl)

is_stop : (n : ℕ) → n ≡ 46 → (n == 46) ≡ true
is_stop n h = ap (λ (k : ℕ). k == 46) h

pub text_class : (b : ℕ) → b < 256 → get_or TEXT_BYTES b 0 ≡ 46 → (is_letter b ≡ false) × ((b == 40) ≡ false) × ((b == 41) ≡ false) × ((b == 44) ≡ false)
unfolding all_below
text_class b lt h = by_class _ _ _ _ _ (is_stop (get_or TEXT_BYTES b 0) h) (at_each (is_text_class TEXT_BYTES) 256 refl b lt)

no_space : (v : Bool) → (v && false) ≡ false
no_space true = refl
no_space false = refl

-- such a byte is text in an argument that has begun, if no delimiter begins with it
pub text_byte : (q k : Delimiters) (b : ℕ) → b < 256 → get_or TEXT_BYTES b 0 ≡ 46
    → ((y : List ℕ) → starts_with k (b ∷ y) ≡ false) → ((m : Bool) (y : List ℕ) → may_start k m (b ∷ y) ≡ false)
    → ((y : List ℕ) → starts_with q (b ∷ y) ≡ false) → ((m : Bool) (y : List ℕ) → may_start q m (b ∷ y) ≡ false)
    → (c : Call) → c.begun ≡ true → IsLone q k b × (role_of b c ≡ Other)
text_byte q k b lt h sk mk sq mq c g =
    let t = text_class b lt h in (
      (λ m y. (λ j. scan_kind (kind_by (sk y j) (mk m y j) (t.0 j) (sq y j) (mq m y j)) q k m b y)),
      (λ j. role_by (t.1 j) (t.2 j) ((t.3 j) && (c.parentheses == 0)) (is_space b && not (g j))) ∙ ap (role_by false false false) (no_space (is_space b)),
    )

-- a space is a token, if no delimiter begins with it
pub lone_space : (q k : Delimiters) (b : ℕ) → b ≡ 32
    → ((y : List ℕ) → starts_with k (b ∷ y) ≡ false) → ((m : Bool) (y : List ℕ) → may_start k m (b ∷ y) ≡ false)
    → ((y : List ℕ) → starts_with q (b ∷ y) ≡ false) → ((m : Bool) (y : List ℕ) → may_start q m (b ∷ y) ≡ false)
    → IsLone q k b
lone_space q k b h sk mk sq mq = λ m y. (λ j. scan_kind (kind_by (sk y j) (mk m y j) (ap is_letter h j) (sq y j) (mq m y j)) q k m b y)
