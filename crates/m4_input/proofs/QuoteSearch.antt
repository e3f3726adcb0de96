-- QuoteSearch: a byte that is the first one of neither quote is plain, and a string goes on through such bytes.
use Rattle.std.proofs.Common.{◌≡◌, ◌+◌, ◌-◌, ◌<◌, ◌≤◌, ◌∷◌, ◌&&◌, ◌||◌, List, [], ℕ, zero, suc, Bool, true, false, Some, None}
use Rattle.std.proofs.Common.{Option, length, take, drop, refl, sym, ap, subst, ◌∙◌, arith, eqb, eq-eqb, get_or}
use Rattle.std.proofs.Math.Bool.{or-true, or-false}
use Rattle.std.proofs.lemmas.Bool.{eqb-true, ne_eqb}
use Rattle.std.proofs.lemmas.Bool.Decides.{nat_tests}
use Rattle.std.proofs.lemmas.List.{length-drop, drop-drop, drop_more, take_all, get_or-drop}
use Rattle.std.specs.Prelude.{IfSome, IfNone, nat_lt}
use Rattle.m4_state.specs.declared.delimiters.Delimiters.{Delimiters}
use Rattle.m4_input.specs.declared.front.Mark.TheVariants.{EndQuote, BeginQuote, PlainByte}
use Rattle.m4_input.specs.declared.strings.StringSoFar.TheVariants as string_so_far
use Rattle.m4_input.specs.OpenToken.{HasPassed, ArePlain, IsStringSoFar}
use Rattle.m4_input.specs.Token.{begins, is_cut, mark_at}
use Rattle.m4_input.proofs.Cases.{mark_by}
use Rattle.m4_input.proofs.OpenTokens.{reached_down, reached_up, reached_past, reached_end, all_reached, passed_so}
use Rattle.memchr.specs.Find.{Passes, is_byte2, Nowhere, IsFirstByte}

not_begun : (b a : ℕ) (d y : List ℕ) → (a ≡ b → ⊥) → begins (b ∷ d) (a ∷ y) ≡ false
not_begun b a d y ne = ap (λ (v : Bool). v && begins d y) (ne_eqb b a (λ e. ne (sym e)))

not_cut : (b a : ℕ) (d y : List ℕ) → (a ≡ b → ⊥) → is_cut (a ∷ y) (b ∷ d) ≡ false
not_cut b a d y ne = ap (λ (v : Bool). (v && begins y d) && nat_lt (length (a ∷ y)) (length (b ∷ d))) (ne_eqb a b ne)

-- by the last test, if the others fail
mark_last : (m u v w x : Bool) → u ≡ false → v ≡ false → w ≡ false → mark_by u (m && (v || w)) x ≡ mark_by false false x
mark_last m u v w x f g h = rw (f, g, h) (none m)
  where
    none : (m : Bool) → mark_by false (m && (false || false)) x ≡ mark_by false false x
    none true = refl
    none false = refl

-- quotes with these first bytes
module _ (q : Delimiters) (b e : ℕ) (d f : List ℕ) (begin : q.begin ≡ b ∷ d) (end : q.end ≡ e ∷ f) where
  plain_mark : (m : Bool) (a : ℕ) (y : List ℕ) → (a ≡ b → ⊥) → (a ≡ e → ⊥) → mark_at q m (a ∷ y) ≡ PlainByte
  plain_mark m a y nb ne =
      mark_last m (begins q.end (a ∷ y)) (is_cut (a ∷ y) q.end) (is_cut (a ∷ y) q.begin) (begins q.begin (a ∷ y))
      (ap (λ (x : List ℕ). begins x (a ∷ y)) end ∙ not_begun e a f y ne)
      (ap (is_cut (a ∷ y)) end ∙ not_cut e a f y ne)
      (ap (is_cut (a ∷ y)) begin ∙ not_cut b a d y nb)
      ∙ ap (mark_by false false) (ap (λ (x : List ℕ). begins x (a ∷ y)) begin ∙ not_begun b a d y nb)

  -- neither byte is among the first n
  plain_to : (m : Bool) (x : List ℕ) (n : ℕ) → n ≤ length x → Nowhere (Passes (is_byte2 b e) x) 0 n → ArePlain q m n x
  plain_to m x n h none = (h, λ i less. plain_at i less)
    where
      plain_at : (i : ℕ) → i < n → mark_at q m (drop i x) ≡ PlainByte
      plain_at i less =
          let a : ℕ = get_or x i 0 in
          let no : is_byte2 b e a ≡ true → ⊥ = none i (omega arith) less in
          ap (mark_at q m) (drop_more x i 0 (omega arith))
          ∙ plain_mark m a (drop (i + 1) x)
          (λ h. no (ap (λ (v : Bool). v || eqb a e) (eq-eqb a b h)))
          (λ h. no (ap (λ (v : Bool). eqb a b || v) (eq-eqb a e h) ∙ or-true (eqb a b)))

  pub plain_before : (x : List ℕ) (r : Option ℕ) → IsFirstByte (is_byte2 b e) x r → IfSome r (λ n. (n < length x) × ((m : Bool) → ArePlain q m n x))
  plain_before x None h = tt
  plain_before x (Some n) h = let high : n < length x = h.0.high in (high, λ m. plain_to m x n (omega arith) h.0.before)

  pub plain_all : (x : List ℕ) (r : Option ℕ) → IsFirstByte (is_byte2 b e) x r → IfNone r ((m : Bool) → ArePlain q m (length x) x)
  plain_all x None h = λ m. plain_to m x (length x) (omega arith) h
  plain_all x (Some n) h = tt

-- the rest, as a slice from k on
rest_is : (x : List ℕ) (k : ℕ) → take (length x - k) (drop k x) ≡ drop k x
rest_is x k = let len : length (drop k x) ≡ length x - k = length-drop k x in take_all (length x - k) (drop k x) (omega arith)

-- a place in the rest is one in the text
pub passed_inside : (x : List ℕ) (k j : ℕ) → j < length (drop k x) → k + j < length x
passed_inside x k j h = let len : length (drop k x) ≡ length x - k = length-drop k x in omega arith

-- a string goes on through plain bytes
module _ (q : Delimiters) (o : Bool) (n : ℕ) (x : List ℕ) (m k : ℕ) (s : HasPassed q o n x m k) where
  pub passed_plain : (j : ℕ) → ArePlain q o j (drop k x) → HasPassed q o n x m (k + j)
  passed_plain zero h = let none : k ≡ k + 0 = omega arith in subst (HasPassed q o n x m) none s
  passed_plain (suc j) h =
      let within : suc j ≤ length (drop k x) = h.0 in
      let r : HasPassed q o n x m (k + j) = passed_plain j (omega arith, λ i less. h.1 i (omega arith)) in
      let len : length (drop k x) ≡ length x - k = length-drop k x in
      let inside : k + j < length x = omega arith in
      let on : k + j + 1 ≡ k + suc j = omega arith in
      let here : mark_at q o (drop j (drop k x)) ≡ PlainByte = h.1 j (omega arith) in
      subst (HasPassed q o n x m) on
      (reached_past q o n x m (k + j) r inside (sym here ∙ ap (mark_at q o) (drop-drop j k x)))

  pub followed : ArePlain q o (length (drop k x)) (drop k x) → IsStringSoFar q o n x (string_so_far.Open (length x) m)
  followed h =
      let len : length (drop k x) ≡ length x - k = length-drop k x in
      let w : k ≤ length x = s.within in
      let all : k + length (drop k x) ≡ length x = omega arith in
      all_reached q o n x m (length x) (subst (HasPassed q o n x m) all (passed_plain (length (drop k x)) h)) (omega arith)

-- quotes of one byte each, which are never cut
module _ (b e : ℕ) where
  abbrev short : Delimiters
  short = record { begin = b ∷ []; end = e ∷ [] }

  one_not_cut : (a c : ℕ) (y : List ℕ) → is_cut (a ∷ y) (c ∷ []) ≡ false
  one_not_cut a c y =
      let long : nat_lt (suc (length y)) 1 ≡ false = grind (arith, nat_tests) in
      ap (λ (v : Bool). begins (a ∷ y) (c ∷ []) && v) long ∙ none (begins (a ∷ y) (c ∷ []))
    where
      none : (v : Bool) → (v && false) ≡ false
      none true = refl
      none false = refl

  short_end : (m : Bool) (a : ℕ) (y : List ℕ) → a ≡ e → EndQuote ≡ mark_at short m (a ∷ y)
  short_end m a y h =
      sym (ap (λ (v : Bool). mark_by (v && true) (m && (is_cut (a ∷ y) (e ∷ []) || is_cut (a ∷ y) (b ∷ []))) (begins (b ∷ []) (a ∷ y))) (eq-eqb e a (sym h)))

  short_begin : (m : Bool) (a : ℕ) (y : List ℕ) → is_byte2 b e a ≡ true → (a ≡ e → ⊥) → BeginQuote ≡ mark_at short m (a ∷ y)
  short_begin m a y one ne =
      let h : a ≡ b = eqb-true a b (sym (or-false (eqb a b)) ∙ ap (λ (v : Bool). eqb a b || v) (sym (ne_eqb a e ne)) ∙ one) in
      sym (mark_last m (begins (e ∷ []) (a ∷ y)) (is_cut (a ∷ y) (e ∷ [])) (is_cut (a ∷ y) (b ∷ [])) (begins (b ∷ []) (a ∷ y))
      (not_begun e a [] y ne) (one_not_cut a e y) (one_not_cut a b y)
      ∙ ap (λ (v : Bool). mark_by false false (v && true)) (eq-eqb b a (sym h)))

  -- a string that was followed through k bytes, and the rest as a slice
  module _ (n : ℕ) (x : List ℕ) (o k : ℕ) (s : HasPassed short true n x o k) where
    pub none_found : Nowhere (Passes (is_byte2 b e) (take (length x - k) (drop k x))) 0
        (length (take (length x - k) (drop k x))) → (m : Bool) → IsStringSoFar short m n x (string_so_far.Open (length x) o)
    none_found h m =
        followed short m n x o k (passed_so short m n x o k s)
        (subst (λ (y : List ℕ). ArePlain short m (length y) y) (rest_is x k) (plain_all short b e [] [] refl refl (take (length x - k) (drop k x)) None h m))

    module _ (j : ℕ) (found : IsFirstByte (is_byte2 b e) (take (length x - k) (drop k x)) (Some j)) where
      here : IsFirstByte (is_byte2 b e) (drop k x) (Some j)
      here = subst (λ (y : List ℕ). IsFirstByte (is_byte2 b e) y (Some j)) (rest_is x k) found

      abbrev byte : ℕ
      byte = get_or x (k + j) 0

      before_it : HasPassed short true n x o (k + j)
      before_it = passed_plain short true n x o k s j ((plain_before short b e [] [] refl refl (drop k x) (Some j) here).1 true)

      inside : k + j < length x
      inside = passed_inside x k j here.0.high

      there : drop (k + j) x ≡ byte ∷ drop (k + j + 1) x
      there = drop_more x (k + j) 0 inside

      at_end : byte ≡ e → (m : Bool) → EndQuote ≡ mark_at short m (drop (k + j) x)
      at_end h m = short_end m byte (drop (k + j + 1) x) h ∙ ap (mark_at short m) (sym there)

      pub found_begin : (byte ≡ e → ⊥) → HasPassed short true n x (o + 1) (k + j + 1)
      found_begin ne =
          let one : is_byte2 b e byte ≡ true = subst (λ (v : ℕ). is_byte2 b e v ≡ true) (get_or-drop k x j 0) here.1 in
          reached_up short true n x o (k + j) before_it inside (omega arith)
          (short_begin true byte (drop (k + j + 1) x) one ne ∙ ap (mark_at short true) (sym there))

      pub found_end : byte ≡ e → (o ≡ 0 → ⊥) → HasPassed short true n x (o - 1) (k + j + 1)
      found_end h ne = reached_down short true n x o (k + j) before_it inside 1 refl (at_end h true) ne

      pub found_close : byte ≡ e → o ≡ 0 → (m : Bool) → IsStringSoFar short m n x (string_so_far.Ends (k + j))
      found_close h none m = reached_end short m n x o (k + j) (passed_so short m n x o (k + j) before_it) inside (at_end h m) none
