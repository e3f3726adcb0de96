-- Byte strings that are compared by words or byte by byte.
use Rattle.std.proofs.Common.{◌≡◌, ℕ, ◌+◌, ◌≤◌, Bool, true, false, List, length, take, drop, nat_eq}
use Rattle.std.proofs.Common.{◌++◌, inl, inr, refl, sym, ap, ◌∙◌, arith}
use Rattle.std.specs.Cmp.Lexicographic.{pointwise, bytes_decides}
use Rattle.std.proofs.lemmas.Bool.Decides.{eqb_tells}
use Rattle.std.proofs.Math.Seq.{take-add}
use Rattle.std.proofs.lemmas.List.{take_all, take-take}
use Rattle.m4_state.specs.ByteWords.{word, AreBytes}
use Rattle.m4_state.proofs.ByteWords.{words_at}

-- what a comparison answers of equal lists, and of others
pub equal_is : (a b : List ℕ) → a ≡ b → true ≡ pointwise nat_eq a b
equal_is a b e = sym ((bytes_decides a b).1 e)

pub other_is : (a b : List ℕ) → (a ≡ b → ⊥) → false ≡ pointwise nat_eq a b
other_is a b f = by (pointwise nat_eq a b) refl
  where
    by : (r : Bool) → pointwise nat_eq a b ≡ r → false ≡ r
    by true e = absurd (f ((bytes_decides a b).0 e))
    by false e = refl

-- what two numbers tell of them, which differ if and only if the lists do
pub by_numbers : (a b : List ℕ) (x y : ℕ) → (x ≡ y → a ≡ b) → (a ≡ b → x ≡ y) → nat_eq x y ≡ pointwise nat_eq a b
by_numbers a b x y f g =
    elim (eqb_tells x y) [
      | inl t ↦ t.0 ∙ equal_is a b (f t.1)
      | inr t ↦ t.0 ∙ other_is a b (λ e. t.1 (g e))
    ]

-- lists whose first i elements are alike, and whose next n are
alike_more : (a b : List ℕ) (i n : ℕ) → take i a ≡ take i b → take n (drop i a) ≡ take n (drop i b) → take (i + n) a ≡ take (i + n) b
alike_more a b i n h k = take-add i n a ∙ (λ j. h j ++ k j) ∙ sym (take-add i n b)

-- fewer elements are alike too
pub alike_less : (a b : List ℕ) (i k : ℕ) → i ≤ k → take k a ≡ take k b → take i a ≡ take i b
alike_less a b i k le h = sym (take-take i k a le) ∙ ap (take i) h ∙ sym (sym (take-take i k b le))

module _ (a b : List ℕ) (ba : AreBytes a) (bb : AreBytes b) where
  -- one more word
  pub word_more : (i x y : ℕ) → i + 8 ≤ length a → i + 8 ≤ length b → take i a ≡ take i b
      → x ≡ word 0 (take 8 (drop i a)) → y ≡ word 0 (take 8 (drop i b)) → x ≡ y → take (i + 8) a ≡ take (i + 8) b
  word_more i x y p q h ex ey e = alike_more a b i 8 h ((words_at a b ba bb i p q h).alike (sym ex ∙ e ∙ ey))

  -- the last word
  pub last_word : (i k x y : ℕ) → i + 8 ≡ length a → length a ≡ length b → i ≤ k → take k a ≡ take k b
      → x ≡ word 0 (take 8 (drop i a)) → y ≡ word 0 (take 8 (drop i b)) → x ≡ y → a ≡ b
  last_word i k x y p q le h ex ey e =
      sym (take_all (i + 8) a (omega arith))
      ∙ word_more i x y (omega arith) (omega arith) (alike_less a b i k le h) ex ey e
      ∙ take_all (i + 8) b (omega arith)

-- equal lists have equal words
pub words_alike : (a b : List ℕ) (i x y : ℕ) → x ≡ word 0 (take 8 (drop i a)) → y ≡ word 0 (take 8 (drop i b)) → a ≡ b → x ≡ y
words_alike a b i x y ex ey e = ex ∙ ap (λ (l : List ℕ). word 0 (take 8 (drop i l))) e ∙ sym ey

-- all of them are alike
pub all_alike : (a b : List ℕ) (k : ℕ) → length a ≤ k → length a ≡ length b → take k a ≡ take k b → a ≡ b
all_alike a b k p q h = sym (take_all k a p) ∙ h ∙ take_all k b (omega arith)
