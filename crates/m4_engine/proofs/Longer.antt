-- Longer: what the bytes in hand decide is so whatever follows them.
use Rattle.std.proofs.Common.{◌≡◌, ⊎_elim, ℕ, Bool, true, false, List, [], ◌++◌, None, append-nil, refl, sym, ap, ◌∙◌}
use Rattle.m4_state.specs.declared.delimiters.Delimiters.{Delimiters}
use Rattle.m4_input.specs.declared.token.Token.{Token}
use Rattle.m4_input.specs.declared.front.Scan.{Scan}
use Rattle.m4_input.specs.declared.front.Scan.TheVariants.{Found, Broken, NeedsMore}
use Rattle.m4_input.specs.declared.front.Unended.{Unended}
use Rattle.m4_input.specs.declared.front.Answer.TheVariants.{Unknown}
use Rattle.m4_input.specs.Pending.{Pending, text_of, line_of, consumed}
use Rattle.m4_input.specs.Token.{scan, Taken, Refused, front_by, front_from, token_at}
use Rattle.m4_input.specs.Paren.{paren_in, paren_at}
use Rattle.m4_input.proofs.Cases.{paren_from}
use Rattle.m4_input.specs.Input.{longer, answer_of}
use Rattle.m4_input.proofs.Consumed.{text_longer, consumed_longer}
use Rattle.m4_input.proofs.OpenEnd.{scan_stays, scan_fits, paren_in_stays}
use Rattle.m4_engine.specs.Turns.{MayFollow}

-- the bytes in hand, with nothing after them
pub nothing_more : (p : Pending) → longer [] p.may_follow p ≡ p
nothing_more p = ap (λ (x : List ℕ). let q : Pending = record p { unread = x } in q) (append-nil p.unread)

pub nothing_follows : (may : Bool) → MayFollow may [] may
nothing_follows true = tt
nothing_follows false = (refl, refl)

scan_more : (may more : Bool) (q c : Delimiters) (x z : List ℕ) (v : Scan) → (v ≡ NeedsMore → ⊥) → scan q c may x ≡ v
    → MayFollow may z more → scan q c more (x ++ z) ≡ v
scan_more true more q c x z v n e m =
    ⊎_elim (λ (h : scan q c true x ≡ NeedsMore). absurd (n (sym e ∙ h))) (λ h. h ∙ e) (scan_stays q c more x z)
scan_more false more q c x z v n e m =
    ap (λ b. scan q c b (x ++ z)) m.1 ∙ ap (λ (y : List ℕ). scan q c false (x ++ y)) m.0 ∙ ap (scan q c false) (append-nil x) ∙ e

front_longer : (q c : Delimiters) (p : Pending) (v : Scan) (z : List ℕ) (more : Bool) → p.definition ≡ None
    → (v ≡ NeedsMore → ⊥) → scan q c p.may_follow (text_of p) ≡ v → MayFollow p.may_follow z more
    → token_at q c (longer z more p) ≡ front_by (longer z more p) v
front_longer q c p v z more d n e m =
    ap (λ o. front_from o q c (longer z more p)) d
    ∙ ap (λ (x : List ℕ). front_by (longer z more p) (scan q c more x)) (text_longer z more p)
    ∙ ap (front_by (longer z more p)) (scan_more p.may_follow more q c (text_of p) z v n e m)

pub closed_same : (p : Pending) → p.may_follow ≡ false → longer [] false p ≡ p
closed_same p h = ap (λ (b : Bool). longer [] b p) (sym h) ∙ nothing_more p

consumed_so : (may : Bool) (q c : Delimiters) (p : Pending) (t : Token) (n : ℕ) (z : List ℕ) (more : Bool)
    → p.may_follow ≡ may → scan q c may (text_of p) ≡ Found t n → MayFollow may z more
    → consumed n (longer z more p) ≡ longer z more (consumed n p)
consumed_so true q c p t n z more h e m = consumed_longer z more n p (scan_fits q c (text_of p) t n e)
consumed_so false q c p t n z more h e m =
    ap (λ (b : Bool). consumed n (longer z b p)) m.1
    ∙ ap (λ (x : List ℕ). consumed n (longer x false p)) m.0
    ∙ ap (consumed n) (closed_same p h)
    ∙ sym (closed_same (consumed n p) h)
    ∙ sym (ap (λ (x : List ℕ). longer x false (consumed n p)) m.0)
    ∙ sym (ap (λ (b : Bool). longer z b (consumed n p)) m.1)

-- a token that is decided
pub found_longer : (q c : Delimiters) (p : Pending) (t : Token) (n : ℕ) (z : List ℕ) (more : Bool) → p.definition ≡ None
    → scan q c p.may_follow (text_of p) ≡ Found t n → MayFollow p.may_follow z more
    → token_at q c (longer z more p) ≡ Taken t (longer z more (consumed n p))
found_longer q c p t n z more d e m =
    front_longer q c p (Found t n) z more d (λ h. cc) e m ∙ ap (Taken t) (consumed_so p.may_follow q c p t n z more refl e m)

-- a string or a comment without an end
pub broken_longer : (q c : Delimiters) (p : Pending) (what : Unended) (z : List ℕ) (more : Bool) → p.definition ≡ None
    → scan q c p.may_follow (text_of p) ≡ Broken what → MayFollow p.may_follow z more
    → token_at q c (longer z more p) ≡ Refused what (line_of p)
broken_longer q c p what z more d e m = front_longer q c p (Broken what) z more d (λ h. cc) e m

paren_more : (may more : Bool) (q c : Delimiters) (x z : List ℕ) (l : Bool) → paren_in q c may x ≡ answer_of l
    → MayFollow may z more → paren_in q c more (x ++ z) ≡ answer_of l
paren_more true more q c x z l e m =
    ⊎_elim (λ (h : paren_in q c true x ≡ Unknown). known l (sym e ∙ h)) (λ h. h ∙ e) (paren_in_stays q c more x z)
  where
    known : (l : Bool) → answer_of l ≡ Unknown → paren_in q c more (x ++ z) ≡ answer_of l
    known true h = cc
    known false h = cc
paren_more false more q c x z l e m =
    ap (λ b. paren_in q c b (x ++ z)) m.1 ∙ ap (λ (y : List ℕ). paren_in q c false (x ++ y)) m.0 ∙ ap (paren_in q c false) (append-nil x) ∙ e

-- whether a list follows
pub paren_longer : (q c : Delimiters) (p : Pending) (l : Bool) (z : List ℕ) (more : Bool) → p.definition ≡ None
    → paren_at q c p ≡ answer_of l → MayFollow p.may_follow z more → paren_at q c (longer z more p) ≡ answer_of l
paren_longer q c p l z more d e m =
    ap (λ o. paren_from o q c (longer z more p)) d
    ∙ ap (paren_in q c more) (text_longer z more p)
    ∙ paren_more p.may_follow more q c (text_of p) z l (sym (ap (λ o. paren_from o q c p) d) ∙ e) m
