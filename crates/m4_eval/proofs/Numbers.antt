-- Numbers: the code reads digit by digit the number of the digits.
use Rattle.std.proofs.Common.{◌≡◌, ℕ, suc, ◌+◌, ◌*◌, ◌<◌, ◌≤◌, min, ℤ, pos, Bool, true, false, cond, ◌&&◌, List, []}
use Rattle.std.proofs.Common.{◌∷◌, length, map, take, Option, Some, None, option_map, option_and_then, refl, sym, ap}
use Rattle.std.proofs.Common.{◌∙◌, subst, arith, w32, le-leb, ◌⊎◌, inl, inr, true≢false, drop, unwrap_or, to_z, of_z}
use Rattle.std.proofs.Math.ListN.{drop_of_length-le}
use Rattle.m4_eval.specs.ReadExpression.{in_radix_from, in_marked_radix, in_stated_radix, after_radix}
use Rattle.m4_eval.proofs.Read.{run_front}
use Rattle.m4_eval.specs.ReadExpression.{colon}
use Rattle.std.specs.Prelude.{nat_le, ◌==◌}
use Rattle.std.proofs.lemmas.Bool.{lt-leb, cases_lt}
use Rattle.std.proofs.lemmas.Int.{int_wrap-mul_left, int_wrap-add_same, int_wrap_fits, to_z_pos}
use Rattle.std.specs.Int.Digits.{number_from_digits_after}
use Rattle.std.specs.List.{list_all}
use Rattle.std.specs.Char.{digit_value, is_digit}
use Rattle.m4_eval.specs.ReadExpression.{run_of, number_of, of_length}
use Rattle.m4_eval.specs.LexerView.{number_after, bits_of, in_bits, radix_within, radix_said, next_bits, bits_after}
use Rattle.m4_eval.specs.LexerView.{capped_after}

abbrev after_case : ℕ → ℕ → ℕ → List ℕ → Bool → Option ℕ
after_case radix n b x t =
    elim t [ true ↦ number_after radix (n * radix + digit_value b) x | false ↦ None ]

pub after_is : (radix n : ℕ) (x : List ℕ)
    → number_after radix n x ≡ cond (list_all (λ d. is_digit d radix) x) (Some (number_from_digits_after radix n (map digit_value x))) None
after_is radix n [] = refl
after_is radix n (b ∷ x) = go (after_is radix (n * radix + digit_value b) x) (is_digit b radix)
  where
    go : number_after radix (n * radix + digit_value b) x
        ≡ cond (list_all (λ d. is_digit d radix) x) (Some (number_from_digits_after radix (n * radix + digit_value b) (map digit_value x))) None
        → (t : Bool) → after_case radix n b x t
        ≡ cond (t && list_all (λ d. is_digit d radix) x) (Some (number_from_digits_after radix (n * radix + digit_value b) (map digit_value x))) None
    go again true = again
    go again false = refl

pub number_is : (radix b : ℕ) (x : List ℕ) → number_of radix (b ∷ x) ≡ number_after radix 0 (b ∷ x)
number_is radix b x = sym (after_is radix 0 (b ∷ x))

next_is : (radix n d : ℕ) → next_bits radix (bits_of n) d ≡ bits_of (n * radix + d)
next_is radix n d = int_wrap-add_same w32 _ _ (pos d) (int_wrap-mul_left w32 (pos n) (pos radix))

pub bits_are : (radix n : ℕ) (x : List ℕ) → bits_after radix (bits_of n) x ≡ option_map bits_of (number_after radix n x)
bits_are radix n [] = refl
bits_are radix n (b ∷ x) =
    go (ap (λ v. bits_after radix v x) (next_is radix n (digit_value b)) ∙ bits_are radix (n * radix + digit_value b) x) (is_digit b radix)
  where
    go : bits_after radix (next_bits radix (bits_of n) (digit_value b)) x ≡ option_map bits_of (number_after radix (n * radix + digit_value b) x)
        → (t : Bool)
        → (elim t [ true ↦ bits_after radix (next_bits radix (bits_of n) (digit_value b)) x | false ↦ None ])
        ≡ option_map bits_of (after_case radix n b x t)
    go again true = again
    go again false = refl

pub small : (n : ℕ) → n < 37 → pos n ≡ bits_of n
small n h = sym (int_wrap_fits w32 (pos n) (record { sfits = omega (arith, h) }))

-- all digits
pub whole_is : (radix : ℕ) (x : List ℕ) → (length x == 0) ≡ false → bits_after radix (pos 0) x ≡ option_map bits_of (number_of radix x)
whole_is radix [] h = absurd (true≢false h)
whole_is radix (b ∷ x) h =
    ap (λ v. bits_after radix v (b ∷ x)) (small 0 (omega arith)) ∙ bits_are radix 0 (b ∷ x)
    ∙ ap (option_map bits_of) (sym (number_is radix b x))

-- the digits after a first one
pub first_is : (radix b : ℕ) (x : List ℕ) → radix ≤ 36 → is_digit b radix ≡ true → digit_value b < 37
    → bits_after radix (pos (digit_value b)) x ≡ option_map bits_of (number_of radix (b ∷ x))
first_is radix b x l h k =
    let e : digit_value b ≡ 0 * radix + digit_value b = omega arith in
    ap (λ v. bits_after radix v x) (small (digit_value b) k) ∙ bits_are radix (digit_value b) x
    ∙ ap (λ n. option_map bits_of (number_after radix n x)) e
    ∙ ap (λ t. option_map bits_of (after_case radix 0 b x t)) (sym h)
    ∙ ap (option_map bits_of) (sym (number_is radix b x))

-- with its length
pub with_length : (len : ℕ) (o : Option ℕ) → option_map in_bits (of_length len o) ≡ option_map (λ v. (v, len)) (option_map bits_of o)
with_length len None = refl
with_length len (Some n) = refl

-- The radix.

cap_next : (n d : ℕ) → min (min n 37 * 10 + d) 37 ≡ min (n * 10 + d) 37
cap_next n d = omega arith

within_cap : (n : ℕ) → radix_within (min n 37) ≡ radix_within n
within_cap n = go (cases_lt n 37)
  where
    both : (a b : Bool) → b ≡ false → None ≡ cond (a && b) (Some n) None
    both true b e = ap (λ t. cond t (Some n) None) (sym e)
    both false b e = refl

    go : (n < 37) ⊎ (37 ≤ n) → radix_within (min n 37) ≡ radix_within n
    go (inl h) = let e : min n 37 ≡ n = omega (arith, h) in ap radix_within e
    go (inr h) =
        let e : min n 37 ≡ 37 = omega (arith, h) in
        ap radix_within e ∙ both (nat_le 2 n) (nat_le n 36) (lt-leb n 36 (omega (arith, h)))

abbrev capped_case : ℕ → ℕ → List ℕ → Bool → Option ℕ
capped_case n b x t =
    elim t [ true ↦ capped_after (min (n * 10 + digit_value b) 37) x | false ↦ None ]

capped_is : (n : ℕ) (x : List ℕ)
    → option_and_then radix_within (capped_after (min n 37) x) ≡ option_and_then radix_within (number_after 10 n x)
capped_is n [] = within_cap n
capped_is n (b ∷ x) =
    go (ap (λ m. option_and_then radix_within (capped_after m x)) (cap_next n (digit_value b)) ∙ capped_is (n * 10 + digit_value b) x) (is_digit b 10)
  where
    go : option_and_then radix_within (capped_after (min (min n 37 * 10 + digit_value b) 37) x)
        ≡ option_and_then radix_within (number_after 10 (n * 10 + digit_value b) x)
        → (t : Bool) → option_and_then radix_within (capped_case (min n 37) b x t) ≡ option_and_then radix_within (after_case 10 n b x t)
    go again true = again
    go again false = refl

-- the radix that digits spell, as the code reads it
pub radix_is : (x : List ℕ) → option_and_then radix_within (capped_after 0 x) ≡ radix_said x
radix_is [] = refl
radix_is (b ∷ x) = capped_is 0 (b ∷ x) ∙ ap (option_and_then radix_within) (sym (number_is 10 b x))

-- after all digits
pub radix_found : (said : List ℕ) (index r : ℕ) → length said ≤ index → capped_after r (drop index said) ≡ capped_after 0 said
    → radix_within r ≡ radix_said said
radix_found said index r h e =
    ap (λ y. option_and_then radix_within (capped_after r y)) (sym (drop_of_length-le said h))
    ∙ ap (option_and_then radix_within) e ∙ radix_is said

pub too_low : (r : ℕ) → r < 2 → radix_within r ≡ None
too_low r h = ap (λ t. cond (t && nat_le r 36) (Some r) None) (lt-leb 2 r h)

pub too_high : (r : ℕ) → 36 < r → radix_within r ≡ None
too_high r h = go (nat_le 2 r) (lt-leb r 36 h)
  where
    go : (t : Bool) → nat_le r 36 ≡ false → cond (t && nat_le r 36) (Some r) None ≡ None
    go true e = ap (λ t. cond t (Some r) None) e
    go false e = refl

pub is_radix : (r : ℕ) → 2 ≤ r → r ≤ 36 → radix_within r ≡ Some r
is_radix r h k =
    ap (λ t. cond (t && nat_le r 36) (Some r) None) (le-leb 2 r h) ∙ ap (λ t. cond t (Some r) None) (le-leb r 36 k)

-- the run, as it is split off
pub run_is : (x run : List ℕ) (n : ℕ) → n ≡ length (run_of x) → run ≡ take n x → run ≡ run_of x
run_is x run n h e = e ∙ ap (λ k. take k x) h ∙ run_front x

-- after a first digit
pub from_digit_is : (radix b : ℕ) (x run : List ℕ) (o : Option ℤ) → radix ≤ 36 → is_digit b radix ≡ true → digit_value b < 37
    → run ≡ run_of x → o ≡ bits_after radix (pos (digit_value b)) run
    → option_map (λ v. (v, length run)) o ≡ option_map in_bits (in_radix_from radix b x)
from_digit_is radix b x run o l h k r e =
    ap (option_map (λ v. (v, length run))) (e ∙ first_is radix b run l h k)
    ∙ ap (λ y. option_map (λ v. (v, length y)) (option_map bits_of (number_of radix (b ∷ y)))) r
    ∙ sym (with_length (length (run_of x)) (number_of radix (b ∷ run_of x)))

-- after a mark
pub marked_is : (radix : ℕ) (x run : List ℕ) (o : Option ℤ) → run ≡ run_of x → o ≡ option_map bits_of (number_of radix run)
    → option_map (λ v. (v, suc (length run))) o ≡ option_map in_bits (in_marked_radix radix x)
marked_is radix x run o r e =
    ap (option_map (λ v. (v, suc (length run)))) e
    ∙ ap (λ y. option_map (λ v. (v, suc (length y))) (option_map bits_of (number_of radix y))) r
    ∙ sym (with_length (suc (length (run_of x))) (number_of radix (run_of x)))

-- A stated radix.

IsNoNumber : Option ℕ → Type 0
IsNoNumber None = Unit {0}
IsNoNumber (Some n) = ⊥

some_is_not_none : {G : Type 0} {n : ℕ} → Some n ≡ None → G
unfolding IsNoNumber
some_is_not_none e = absurd (subst IsNoNumber (sym e) tt)

-- after digits that are no radix
none_after : (r : ℕ) (said rest : List ℕ) → radix_within r ≡ None → after_radix r said rest ≡ None
none_after r said [] h = refl
none_after r said (c ∷ z) h = go (c == colon) (nat_le 2 r && nat_le r 36) h
  where
    go : (s t : Bool) → cond t (Some r) None ≡ None
        → cond s (cond t (of_length (suc (suc (length said + length (run_of z)))) (number_of r (run_of z))) None) None ≡ None
    go false t h = refl
    go true false h = refl
    go true true h = some_is_not_none h

-- after digits that are one, and a colon
some_after : (r radix : ℕ) (said z : List ℕ) → radix_within r ≡ Some radix
    → after_radix r said (colon ∷ z) ≡ of_length (suc (suc (length said + length (run_of z)))) (number_of radix (run_of z))
some_after r radix said z h = go (nat_le 2 r && nat_le r 36) h
  where
    go : (t : Bool) → cond t (Some r) None ≡ Some radix
        → cond t (of_length (suc (suc (length said + length (run_of z)))) (number_of r (run_of z))) None
        ≡ of_length (suc (suc (length said + length (run_of z)))) (number_of radix (run_of z))
    go true h =
        let e : r ≡ radix = ap (λ o. unwrap_or o r) h in
        ap (λ k. of_length (suc (suc (length said + length (run_of z)))) (number_of k (run_of z))) e
    go false h = some_is_not_none (sym h)

no_radix_of : (o : Option ℕ) (said rest : List ℕ) → option_and_then radix_within o ≡ None
    → option_and_then (λ r. after_radix r said rest) o ≡ None
no_radix_of None said rest h = refl
no_radix_of (Some r) said rest h = none_after r said rest h

pub no_radix : (x run : List ℕ) → run ≡ run_of x → radix_said run ≡ None → in_stated_radix x ≡ None
no_radix x run e h =
    no_radix_of (number_of 10 (run_of x)) (run_of x) (drop (length (run_of x)) x) (ap radix_said (sym e) ∙ h)

one_radix_of : (o : Option ℕ) (radix : ℕ) (said z : List ℕ) → option_and_then radix_within o ≡ Some radix
    → option_and_then (λ r. after_radix r said (colon ∷ z)) o
    ≡ of_length (suc (suc (length said + length (run_of z)))) (number_of radix (run_of z))
one_radix_of None radix said z h = some_is_not_none (sym h)
one_radix_of (Some r) radix said z h = some_after r radix said z h

pub stated_is : (x said rest z run : List ℕ) (radix : ℕ) (o : Option ℤ) → said ≡ run_of x → rest ≡ drop (length said) x
    → radix_said said ≡ Some radix → rest ≡ colon ∷ z → run ≡ run_of z → o ≡ option_map bits_of (number_of radix run)
    → option_map (λ v. (v, length said + length run + 2)) o ≡ option_map in_bits (in_stated_radix x)
stated_is x said rest z run radix o a b r d e h =
    ap (option_map (λ v. (v, length said + length run + 2))) h
    ∙ ap (λ y. option_map (λ v. (v, length said + length y + 2)) (option_map bits_of (number_of radix y))) e
    ∙ ap (λ k. option_map (λ v. (v, k)) (option_map bits_of (number_of radix (run_of z)))) two
    ∙ sym (with_length (suc (suc (length said + length (run_of z)))) (number_of radix (run_of z)))
    ∙ ap (option_map in_bits) (sym (one_radix_of (number_of 10 said) radix said z r))
    ∙ ap (λ y. option_map in_bits (option_and_then (λ r. after_radix r said y) (number_of 10 said))) (sym d ∙ b)
    ∙ ap (λ y. option_map in_bits (option_and_then (λ r. after_radix r y (drop (length y) x)) (number_of 10 y))) a
  where
    two : length said + length (run_of z) + 2 ≡ suc (suc (length said + length (run_of z)))
    two = omega arith

-- a value that the code passed on
pub digit_passed : (z : ℤ) (n m : ℕ) → z ≡ pos n → n ≡ m → n < 37 → to_z w32 (of_z w32 z) ≡ pos m
digit_passed z n m e f h = ap (λ y. to_z w32 (of_z w32 y)) e ∙ to_z_pos w32 n (omega (arith, h)) ∙ ap pos f
