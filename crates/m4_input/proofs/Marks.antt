-- Marks: a bit for each of sixteen bytes, as a definition says of it. The definition of a name is compared at each of the
-- 256 bytes, by computing.
use Rattle.std.proofs.Common.{◌≡◌, ℕ, zero, suc, ◌+◌, ◌-◌, ◌%◌, ◌^◌, Bool, true, false, ◌||◌, not, cond, eqb, leb, List, [], ◌∷◌, map, length}
use Rattle.std.proofs.Common.{replicate, take, refl, ap, ap₂, ◌∙◌, arith, w8, Fits}
use Rattle.std.specs.Bool.{beq}
use Rattle.std.proofs.Math.ListN.{get_or}
use Rattle.std.proofs.lemmas.Simd.{zip2_splat, zip2_splat_left, map-map, mask_l-mod}
use Rattle.std.proofs.lemmas.List.{length-map}
use Rattle.std.specs.Simd.Lanes.{zip2, mask_l, top}
use Rattle.memchr.specs.Find.{is_byte2}
use lib.Bits.{bit_or, bit_and}
use Rattle.m4_input.specs.Ascii.{is_name_byte}
use Rattle.m4_input.proofs.ByteTables.{all_below, at_each, same}

abbrev hit : ℕ → ℕ → ℕ
hit a b = cond (eqb a b) 255 0

top_of : (v w : Bool) → top 7 (bit_or (cond v 255 0) (cond w 255 0)) ≡ (v || w)
top_of true true = refl
top_of true false = refl
top_of false true = refl
top_of false false = refl

hits : (a b : ℕ) (v : List ℕ) → map (top 7) (zip2 bit_or (map (λ x. hit x a) v) (map (λ x. hit x b) v)) ≡ map (is_byte2 a b) v
hits a b [] = refl
hits a b (x ∷ v) = ap₂ (λ t r. t ∷ r) (top_of (eqb x a) (eqb x b)) (hits a b v)

pub either_marks : (a b : ℕ) (v : List ℕ) → length v ≡ 16
    → mask_l (map (top 7) (zip2 bit_or (zip2 hit v (replicate 16 a)) (zip2 hit v (replicate 16 b)))) % 2 ^ 64
    ≡ mask_l (map (is_byte2 a b) v)
either_marks a b v long =
    ap (λ l. mask_l (map (top 7) l) % 2 ^ 64) (ap₂ (zip2 bit_or) (zip2_splat hit v 16 a long) (zip2_splat hit v 16 b long))
    ∙ ap (λ l. mask_l l % 2 ^ 64) (hits a b v) ∙ mask_l-mod (map (is_byte2 a b) v) 64 (omega (arith, length-map v (is_byte2 a b), long))

abbrev minus : ℕ → ℕ → ℕ
minus a b = (a + (256 - b)) % 256

abbrev at_most : ℕ → ℕ → ℕ
at_most a b = cond (leb a b) 255 0

abbrev differ : ℕ → ℕ → ℕ
differ a b = cond (not (eqb a b)) 255 0

-- a lane of the marks
abbrev lane : ℕ → ℕ
lane x = bit_and (bit_and (at_most 26 (minus (bit_or x 32) 97)) (at_most 10 (minus x 48))) (differ x 95)

module _ (v : List ℕ) (long : length v ≡ 16) where
  on_right : (h : ℕ → ℕ → ℕ) (g : ℕ → ℕ) (y : ℕ) → zip2 h (map g v) (replicate 16 y) ≡ map (λ x. h (g x) y) v
  on_right h g y = zip2_splat h (map g v) 16 y (length-map v g ∙ long) ∙ map-map (λ x. h x y) g v

  on_left : (h : ℕ → ℕ → ℕ) (g : ℕ → ℕ) (y : ℕ) → zip2 h (replicate 16 y) (map g v) ≡ map (λ x. h y (g x)) v
  on_left h g y = zip2_splat_left h y 16 (map g v) (length-map v g ∙ long) ∙ map-map (λ x. h y x) g v

both : (h : ℕ → ℕ → ℕ) (f g : ℕ → ℕ) (v : List ℕ) → zip2 h (map f v) (map g v) ≡ map (λ x. h (f x) (g x)) v
both h f g [] = refl
both h f g (x ∷ v) = ap (λ r. h (f x) (g x) ∷ r) (both h f g v)

letters : (v : List ℕ) → length v ≡ 16 → zip2 at_most (replicate 16 26)
    (zip2 minus (zip2 bit_or v (replicate 16 32)) (replicate 16 97)) ≡ map (λ x. at_most 26 (minus (bit_or x 32) 97)) v
letters v long =
    ap (λ l. zip2 at_most (replicate 16 26) (zip2 minus l (replicate 16 97))) (zip2_splat bit_or v 16 32 long)
    ∙ ap (zip2 at_most (replicate 16 26)) (on_right v long minus (λ x. bit_or x 32) 97)
    ∙ on_left v long at_most (λ x. minus (bit_or x 32) 97) 26

digits : (v : List ℕ) → length v ≡ 16 → zip2 at_most (replicate 16 10) (zip2 minus v (replicate 16 48)) ≡ map (λ x. at_most 10 (minus x 48)) v
digits v long =
    ap (zip2 at_most (replicate 16 10)) (zip2_splat minus v 16 48 long)
    ∙ on_left v long at_most (λ x. minus x 48) 10

lanes : (v : List ℕ) → length v ≡ 16 → zip2 bit_and
    (zip2 bit_and (zip2 at_most (replicate 16 26) (zip2 minus (zip2 bit_or v (replicate 16 32)) (replicate 16 97)))
    (zip2 at_most (replicate 16 10) (zip2 minus v (replicate 16 48)))) (zip2 differ v (replicate 16 95)) ≡ map lane v
lanes v long =
    ap₂ (zip2 bit_and)
    (ap₂ (zip2 bit_and) (letters v long) (digits v long) ∙ both bit_and (λ x. at_most 26 (minus (bit_or x 32) 97)) (λ x. at_most 10 (minus x 48)) v)
    (zip2_splat differ v 16 95 long)
    ∙ both bit_and (λ x. bit_and (at_most 26 (minus (bit_or x 32) 97)) (at_most 10 (minus x 48))) (λ x. differ x 95) v

abbrev agrees : ℕ → Bool
agrees x = beq (top 7 (lane x)) (not (is_name_byte x))

each : (n : ℕ) (x : List ℕ) → ((i : ℕ) → Fits w8 (get_or x i 0)) → all_below agrees 256 ≡ true
    → map (top 7) (map lane (take n x)) ≡ map (λ (b : ℕ). not (is_name_byte b)) (take n x)
each zero x fits all = refl
each (suc n) [] fits all = refl
each (suc n) (b ∷ x) fits all = ap₂ (λ t r. t ∷ r) (same _ _ (at_each agrees 256 all b ((fits 0).fits))) (each n x (λ i. fits (suc i)) all)

pub other_marks : (x : List ℕ) → length (take 16 x) ≡ 16 → ((i : ℕ) → Fits w8 (get_or x i 0))
    → mask_l (map (top 7) (zip2 bit_and
    (zip2 bit_and (zip2 at_most (replicate 16 26)
    (zip2 minus (zip2 bit_or (take 16 x) (replicate 16 32)) (replicate 16 97)))
    (zip2 at_most (replicate 16 10) (zip2 minus (take 16 x) (replicate 16 48))))
    (zip2 differ (take 16 x) (replicate 16 95)))) % 2 ^ 64 ≡ mask_l (map (λ (b : ℕ). not (is_name_byte b)) (take 16 x))
unfolding all_below
other_marks x long fits =
    let v : List ℕ = take 16 x in
    ap (λ l. mask_l (map (top 7) l) % 2 ^ 64) (lanes v long)
    ∙ ap (λ l. mask_l l % 2 ^ 64) (each 16 x fits refl)
    ∙ mask_l-mod (map (λ (b : ℕ). not (is_name_byte b)) v) 64 (omega (arith, length-map v (λ (b : ℕ). not (is_name_byte b)), long))
