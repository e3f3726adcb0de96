-- Begins: writers that hold a beginning of what is to be written.
use Rattle.std.proofs.Common.{◌≡◌, ℕ, zero, suc, ◌+◌, ◌≤◌, List, [], ◌∷◌, ◌++◌, ◌⊎◌, inl, inr, length, take, drop, Option, refl, sym}
use Rattle.std.proofs.Common.{ap, subst, ◌∙◌, append-nil, append_assoc, arith}
use Rattle.std.proofs.lemmas.List.{length-append, nil_from_length, take-append-drop, take-take}
use Rattle.m4_state.proofs.CallerLaws.{with_bytes-append, with_bytes-nil}
use Rattle.m4_state.specs.Device.{with_bytes, HasBegun}
use Rattle.m4_engine.specs.Engine.{Engine, after_flush}
use Rattle.m4_engine.specs.Expands.{FlushesDue, IsInOrder}
use Rattle.m4_engine.specs.Order.{IsBeginning}
use Rattle.m4_engine.specs.Writers.{writers}

-- a writer that was not asked has taken a beginning
pub nothing_begun : (o : Option (List ℕ)) (x : List ℕ) → HasBegun o o x
nothing_begun o x = (x, record { front = []; parts = refl; holds = with_bytes-nil o })

-- a writer that has taken all has taken a beginning
pub all_begun : (o a : Option (List ℕ)) (x : List ℕ) → a ≡ with_bytes o x → HasBegun o a x
all_begun o a x e = ([], record { front = x; parts = sym (append-nil x); holds = e })

-- the bytes written before, and a prefix of the bytes that follow them
pub begun_after : (o a b : Option (List ℕ)) (x y more all : List ℕ) → a ≡ with_bytes o x → HasBegun a b y → all ≡ (x ++ y) ++ more → HasBegun o b all
begun_after o a b x y more all e h f = (
  h.0 ++ more,
  record {
    front = x ++ (h.1).front;
    parts = f ∙ ap (λ z. (x ++ z) ++ more) (h.1).parts
        ∙ ap (λ z. z ++ more) (sym (append_assoc x (h.1).front h.0))
        ∙ append_assoc (x ++ (h.1).front) h.0 more;
    holds = (h.1).holds ∙ ap (λ z. with_bytes z (h.1).front) e ∙ with_bytes-append o x (h.1).front;
  },
)

-- nothing was flushed
pub due_none : (e : Engine) (out reported : Option (List ℕ)) → FlushesDue e e (writers out out reported reported)
due_none e out reported = inl (refl, record { output = with_bytes-nil out; messages = with_bytes-nil reported })

-- all was
pub due_all : (e e' : Engine) (out out' reported reported' : Option (List ℕ)) → e' ≡ after_flush e
    → out' ≡ with_bytes out e.output → reported' ≡ with_bytes reported e.messages
    → FlushesDue e e' (writers out out' reported reported')
due_all e e' out out' reported reported' h f g = inr (h, record { output = f; messages = g })

-- a beginning of the first part was written
pub begun_front : (o a : Option (List ℕ)) (k : ℕ) (all : List ℕ) → HasBegun o a (take k all) → HasBegun o a all
begun_front o a k all h = (
  h.0 ++ drop k all,
  record {
    front = (h.1).front;
    parts = sym (take-append-drop k all) ∙ ap (λ x. x ++ drop k all) (h.1).parts ∙ append_assoc (h.1).front h.0 (drop k all);
    holds = (h.1).holds;
  },
)

-- all of the first part was, and a beginning of the second
pub begun_parts : (o a b : Option (List ℕ)) (k : ℕ) (all : List ℕ) → a ≡ with_bytes o (take k all) → HasBegun a b (drop k all) → HasBegun o b all
begun_parts o a b k all e h =
    begun_after o a b (take k all) (drop k all) [] all e h
    (sym (take-append-drop k all) ∙ sym (append-nil (take k all ++ drop k all)))

-- the beginning of no text is all of it
none_begun : (o a : Option (List ℕ)) (x : List ℕ) → x ≡ [] → HasBegun o a x → a ≡ with_bytes o x
none_begun o a x e h =
    let sum : length (h.1).front + length h.0 ≡ 0 = sym (length-append (h.1).front h.0) ∙ ap length (sym (h.1).parts ∙ e) in
    let none : length (h.1).front ≡ 0 = omega arith in
    (h.1).holds ∙ ap (λ y. with_bytes o y) (nil_from_length (h.1).front none ∙ sym e)

-- of two beginnings of one text the one begins with the other
pub which_front : (f x e y : List ℕ) → f ++ x ≡ e ++ y
    → IsBeginning f e ⊎ ((k : List ℕ) × (f ≡ e ++ k) × (y ≡ k ++ x))
which_front [] x e y h = inl (e, refl)
which_front (a ∷ f) x [] y h = inr (a ∷ f, refl, sym h)
which_front (a ∷ f) x (b ∷ e) y h = by (which_front f x e y (ap (drop 1) h))
  where
    by : IsBeginning f e ⊎ ((k : List ℕ) × (f ≡ e ++ k) × (y ≡ k ++ x))
        → IsBeginning (a ∷ f) (b ∷ e) ⊎ ((k : List ℕ) × (a ∷ f ≡ (b ∷ e) ++ k) × (y ≡ k ++ x))
    by (inl g) = inl (g.0, ap (λ v. b ∷ v) g.1 ∙ ap (λ v. take 1 v ++ (f ++ g.0)) (sym h))
    by (inr g) = inr (g.0, ap (λ v. a ∷ v) g.1 ∙ ap (λ v. take 1 v ++ (e ++ g.0)) h, g.2)

-- what follows the first n bytes, by way of the first k
drop_past : (n k : ℕ) (x : List ℕ) → n ≤ k → drop n x ≡ drop n (take k x) ++ drop k x
drop_past zero k x l = sym (take-append-drop k x)
drop_past (suc n) zero x l = absurd (not_less n l)
  where
    not_less : (n : ℕ) → suc n ≤ 0 → ⊥
    not_less n l = omega arith
drop_past (suc n) (suc k) [] l = refl
drop_past (suc n) (suc k) (a ∷ x) l = drop_past n k x (omega arith)

take_past : (n k : ℕ) (x : List ℕ) → n ≤ k → take k x ≡ take n x ++ drop n (take k x)
take_past n k x l = sym (take-append-drop n (take k x)) ∙ ap (λ v. v ++ drop n (take k x)) (take-take n k x l)

-- the first n bytes and some of those after them, where a beginning f of all was written
fronted : (o a m b : Option (List ℕ)) (n : ℕ) (all f z reported : List ℕ) → a ≡ with_bytes o f → all ≡ f ++ z
    → b ≡ m → b ≡ with_bytes m reported → IsInOrder (take n all) (drop n all) reported (writers o a m b)
fronted o a m b n all f z reported e p q g = by (which_front f z (take n all) (drop n all) (sym p ∙ sym (take-append-drop n all)))
  where
    by : IsBeginning f (take n all) ⊎ ((k : List ℕ) × (f ≡ take n all ++ k) × (drop n all ≡ k ++ z))
        → IsInOrder (take n all) (drop n all) reported (writers o a m b)
    by (inl h) = inl ((h.0, record { front = f; parts = h.1; holds = e }), q)
    by (inr h) = inr (inr (h.0, (z, h.2), e ∙ ap (with_bytes o) h.1, g))

-- the first k bytes could not all be written; where there are messages, k is n
pub first_breaks : (o a m : Option (List ℕ)) (n k : ℕ) (all reported : List ℕ) → (reported ≡ []) ⊎ (n ≡ k)
    → HasBegun o a (take k all) → IsInOrder (take n all) (drop n all) reported (writers o a m m)
first_breaks o a m n k all reported (inl z) h =
    let b = begun_front o a k all h in
    fronted o a m m n all (b.1).front b.0 reported (b.1).holds (b.1).parts refl (with_bytes-nil m ∙ ap (with_bytes m) (sym z))
first_breaks o a m n k all reported (inr s) h = inl (subst (λ j. HasBegun o a (take j all)) (sym s) h, refl)

-- the messages could not be written
pub messages_break : (o a m b : Option (List ℕ)) (n k : ℕ) (all reported : List ℕ) → (reported ≡ []) ⊎ (n ≡ k)
    → a ≡ with_bytes o (take k all) → HasBegun m b reported
    → IsInOrder (take n all) (drop n all) reported (writers o a m b)
messages_break o a m b n k all reported (inl z) e h =
    let g = none_begun m b reported z h in
    fronted o a m b n all (take k all) (drop k all) reported e (sym (take-append-drop k all)) (g ∙ ap (with_bytes m) z ∙ sym (with_bytes-nil m)) g
messages_break o a m b n k all reported (inr s) e h = inr (inl (e ∙ ap (λ j. with_bytes o (take j all)) (sym s), h))

-- the output after them could not be written
pub own_breaks : (o a c m b : Option (List ℕ)) (n k : ℕ) (all reported : List ℕ) → n ≤ k
    → a ≡ with_bytes o (take k all) → HasBegun a c (drop k all) → b ≡ with_bytes m reported
    → IsInOrder (take n all) (drop n all) reported (writers o c m b)
own_breaks o a c m b n k all reported l e h f =
    let x : List ℕ = drop n (take k all) in
    inr (inr (
      x ++ (h.1).front,
      (
        h.0,
        drop_past n k all l ∙ ap (λ v. x ++ v) (h.1).parts ∙ sym (append_assoc x (h.1).front h.0),
      ),
      (h.1).holds ∙ ap (λ v. with_bytes v (h.1).front) e ∙ with_bytes-append o (take k all) (h.1).front
          ∙ ap (λ v. with_bytes o (v ++ (h.1).front)) (take_past n k all l)
          ∙ ap (with_bytes o) (append_assoc (take n all) x (h.1).front),
      f,
    ))
