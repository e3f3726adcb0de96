-- SkippedLines: a line that is discarded in parts, as its bytes come.
use Rattle.std.proofs.Common.{◌≡◌, ℕ, suc, ◌+◌, ◌-◌, Bool, true, false, List, [], ◌∷◌, ◌++◌, length, Option, Some}
use Rattle.std.proofs.Common.{None, refl, sym, ap, ◌∙◌, subst, arith, length-append}
use Rattle.std.specs.Prelude.{◌==◌}
use Rattle.m4_input.specs.Pending.{Pending, text_of, consumed, line_length, one_longer}
use Rattle.m4_input.specs.Input.{longer, all_read, all_read_if_ended, after_line_of, after_line}
use Rattle.m4_input.proofs.Consumed.{text-consumed, text_longer, consumed_longer, consumed_twice}
use Rattle.m4_engine.specs.Nesting.{Closed}
use Rattle.m4_engine.specs.Expansion.{Expansion, reading}
use Rattle.m4_engine.specs.Expand.{skip_all, skip_line}
use Rattle.m4_engine.specs.Turns.{MayFollow}
use Rattle.m4_engine.proofs.Continues.{line_stays}
use Rattle.m4_engine.proofs.Longer.{closed_same}

-- a line that ends so many bytes further on
abbrev further : ℕ → Option ℕ → Option ℕ
further n None = None
further n (Some k) = Some (n + k)

one_further : (n : ℕ) (o : Option ℕ) → one_longer (further n o) ≡ further (suc n) o
one_further n None = refl
one_further n (Some k) = let e : suc (n + k) ≡ suc n + k = omega arith in ap Some e

not_one_more : (o : Option ℕ) → one_longer o ≡ None → o ≡ None
not_one_more None e = refl
not_one_more (Some n) e = cc

some_none : (n : ℕ) → Some n ≡ None → ⊥
some_none n e = cc

no_further : (o : Option ℕ) → o ≡ further 0 o
no_further None = refl
no_further (Some k) = let e : k ≡ 0 + k = omega arith in ap Some e

line_beyond : (x z : List ℕ) → line_length x ≡ None → line_length (x ++ z) ≡ further (length x) (line_length z)
line_beyond [] z e = no_further (line_length z)
line_beyond (c ∷ x) z e =
    let P : Bool → Type 0 = λ v. ◌≡◌ {A = Option ℕ} (elim v [ true ↦ Some 1 | false ↦ one_longer (line_length x) ]) None
    → ◌≡◌ {A = Option ℕ} (elim v [ true ↦ Some 1 | false ↦ one_longer (line_length (x ++ z)) ])
    (further (suc (length x)) (line_length z)) in
    (elim (c == 10) as P [
      | true ↦ λ f. absurd (some_none 1 f)
      | false ↦ λ f. ap one_longer (line_beyond x z (not_one_more (line_length x) f)) ∙ one_further (length x) (line_length z)
    ]) e

nothing_left : (x : List ℕ) → length x ≡ 0 → x ≡ []
nothing_left [] e = refl
nothing_left (b ∷ x) e = cc

pub all_gone : (p : Pending) → text_of (all_read p) ≡ []
all_gone p =
    let h : length (text_of (all_read p)) ≡ length (text_of p) - length (text_of p) = text-consumed (length (text_of p)) p in
    nothing_left (text_of (all_read p)) (omega arith)

-- the bytes in hand have no newline: they may be dropped before the others come
module _ (s : Expansion) (p : Pending) (z : List ℕ) (b : Bool) where
  after_all : (k : ℕ) → consumed (length (text_of p) + k) (longer z b p) ≡ consumed k (longer z b (all_read p))
  after_all k =
      sym (consumed_twice (length (text_of p)) k (longer z b p))
      ∙ ap (consumed k) (consumed_longer z b (length (text_of p)) p (omega arith))

  text_then : text_of (longer z b (all_read p)) ≡ z
  text_then = text_longer z b (all_read p) ∙ ap (λ (x : List ℕ). x ++ z) (all_gone p)

  all_after : consumed (length (text_of (longer z b p))) (longer z b p) ≡ consumed (length (text_of (longer z b (all_read p)))) (longer z b (all_read p))
  all_after =
      ap (λ (k : ℕ). consumed k (longer z b p)) (ap length (text_longer z b p) ∙ length-append (text_of p) z)
      ∙ after_all (length z)
      ∙ ap (λ (x : List ℕ). consumed (length x) (longer z b (all_read p))) (sym text_then)

  skip_by : (v : Option ℕ) → skip_line (further (length (text_of p)) v) (reading (longer z b p) s) ≡ skip_line v (reading (longer z b (all_read p)) s)
  skip_by (Some k) = ap (λ (q : Pending). Closed (reading q s)) (after_all k)
  skip_by None =
      let P : Bool → Type 0 = λ v. b ≡ v → skip_all v (reading (longer z b p) s) ≡ skip_all v (reading (longer z b (all_read p)) s) in
      (elim b as P [ true ↦ λ h. refl | false ↦ λ h. ap (λ (q : Pending). Closed (reading q s)) all_after ]) refl

  pub skip_cut : line_length (text_of p) ≡ None
      → skip_line (line_length (text_of (longer z b p))) (reading (longer z b p) s)
      ≡ skip_line (line_length (text_of (longer z b (all_read p)))) (reading (longer z b (all_read p)) s)
  skip_cut h =
      ap (λ v. skip_line v (reading (longer z b p) s)) (ap line_length (text_longer z b p) ∙ line_beyond (text_of p) z h)
      ∙ skip_by (line_length z)
      ∙ ap (λ (x : List ℕ). skip_line (line_length x) (reading (longer z b (all_read p)) s)) (sym text_then)

  skip_found : (k : ℕ) → line_length (text_of p) ≡ Some k
      → skip_line (line_length (text_of (longer z b p))) (reading (longer z b p) s)
      ≡ Closed (reading (longer z b (consumed k p)) s)
  skip_found k h =
      let l = line_stays z b (text_of p) k h in
      ap (λ v. skip_line v (reading (longer z b p) s)) (ap line_length (text_longer z b p) ∙ l.0)
      ∙ ap (λ (q : Pending). Closed (reading q s)) (consumed_longer z b k p l.1)

-- the rest of the line is in hand
found_by : (o : Option ℕ) (s : Expansion) (p q : Pending) (z : List ℕ) (more : Bool) → line_length (text_of p) ≡ o
    → p.may_follow ≡ true → after_line_of o p ≡ Some q
    → skip_line (line_length (text_of (longer z more p))) (reading (longer z more p) s) ≡ Closed (reading (longer z more q) s)
found_by (Some n) s p q z more l m h =
    let g : consumed n p ≡ q = cc in
    skip_found s p z more n l ∙ ap (λ (r : Pending). Closed (reading (longer z more r) s)) g
found_by None s p q z more l m h =
    let no : all_read_if_ended true p ≡ Some q = sym (ap (λ (b : Bool). all_read_if_ended b p) m) ∙ h in
    cc

-- all of the line is in hand, since nothing follows
ended_by : (o : Option ℕ) (s : Expansion) (p q : Pending) → p.may_follow ≡ false → after_line_of o p ≡ Some q
    → (skip_line o (reading p s) ≡ Closed (reading q s)) × (q.may_follow ≡ false)
ended_by (Some n) s p q f h =
    let g : consumed n p ≡ q = cc in
    (ap (λ (r : Pending). Closed (reading r s)) g, ap (λ (r : Pending). r.may_follow) (sym g) ∙ f)
ended_by None s p q f h =
    let g : Some (all_read p) ≡ Some q = sym (ap (λ (b : Bool). all_read_if_ended b p) f) ∙ h in
    let i : all_read p ≡ q = cc in
    (ap (λ (b : Bool). skip_all b (reading p s)) f ∙ ap (λ (r : Pending). Closed (reading r s)) i, ap (λ (r : Pending). r.may_follow) (sym i) ∙ f)

by_flag : (may : Bool) (s : Expansion) (p q : Pending) (z : List ℕ) (more : Bool) → p.may_follow ≡ may
    → MayFollow may z more → after_line p ≡ Some q
    → skip_line (line_length (text_of (longer z more p))) (reading (longer z more p) s) ≡ Closed (reading (longer z more q) s)
by_flag true s p q z more f c h = found_by (line_length (text_of p)) s p q z more refl f h
by_flag false s p q z more f c h =
    let k = ended_by (line_length (text_of p)) s p q f h in
    let at : Pending → Type 0 = λ r. skip_line (line_length (text_of r)) (reading r s) ≡ Closed (reading (longer z more q) s) in
    let same : (r : Pending) → r.may_follow ≡ false → longer z more r ≡ r = λ r g. ap (λ (b : Bool). longer z b r) c.1
    ∙ ap (λ (x : List ℕ). longer x false r) c.0 ∙ closed_same r g in
    subst at (sym (same p f)) (k.0 ∙ ap (λ (r : Pending). Closed (reading r s)) (sym (same q k.1)))

pub line_done : (s : Expansion) (p q : Pending) (z : List ℕ) (more : Bool) → MayFollow p.may_follow z more
    → after_line p ≡ Some q → skip_line (line_length (text_of (longer z more p))) (reading (longer z more p) s)
    ≡ Closed (reading (longer z more q) s)
line_done s p q z more c h = by_flag p.may_follow s p q z more refl c h

-- the flag after a line
kept_by : (o : Option ℕ) (p q : Pending) → after_line_of o p ≡ Some q → q.may_follow ≡ p.may_follow
kept_by (Some n) p q h = let g : consumed n p ≡ q = cc in ap (λ (r : Pending). r.may_follow) (sym g)
kept_by None p q h = by_end p.may_follow refl
  where
    by_end : (b : Bool) → p.may_follow ≡ b → q.may_follow ≡ p.may_follow
    by_end true f = let no : all_read_if_ended true p ≡ Some q = sym (ap (λ (b : Bool). all_read_if_ended b p) f) ∙ h in cc
    by_end false f =
        let g : Some (all_read p) ≡ Some q = sym (ap (λ (b : Bool). all_read_if_ended b p) f) ∙ h in
        let i : all_read p ≡ q = cc in
        ap (λ (r : Pending). r.may_follow) (sym i)

pub line_keeps : (p q : Pending) → after_line p ≡ Some q → q.may_follow ≡ p.may_follow
line_keeps p q h = kept_by (line_length (text_of p)) p q h

gone_by : (o : Option ℕ) (p q : Pending) → after_line_of o p ≡ Some q → q.definition ≡ None
gone_by (Some n) p q h = let g : consumed n p ≡ q = cc in ap (λ (r : Pending). r.definition) (sym g)
gone_by None p q h = by_end p.may_follow h
  where
    by_end : (b : Bool) → all_read_if_ended b p ≡ Some q → q.definition ≡ None
    by_end true e = cc
    by_end false e = let i : all_read p ≡ q = cc in ap (λ (r : Pending). r.definition) (sym i)

pub line_drops : (p q : Pending) → after_line p ≡ Some q → q.definition ≡ None
line_drops p q h = gone_by (line_length (text_of p)) p q h
