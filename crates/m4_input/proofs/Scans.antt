-- Scans: scanning a text from its front, byte by byte.
use Rattle.std.proofs.Common.{◌≡◌, ℕ, zero, suc, ◌+◌, ◌-◌, ◌<◌, ◌≤◌, Bool, true, false, ◌&&◌, List, [], ◌∷◌, length}
use Rattle.std.proofs.Common.{drop, Option, Some, None, refl, ap, ◌∙◌, arith, nat_eq, get_or}
use Rattle.std.proofs.lemmas.Grind.{common_steps}
use Rattle.m4_state.specs.declared.delimiters.Delimiters.{Delimiters}
use Rattle.std.specs.Prelude.{◌==◌, nat_lt}
use Rattle.std.specs.List.{starts_with}
use Rattle.m4_input.specs.declared.front.Mark.{Mark}
use Rattle.m4_input.specs.declared.front.Mark.TheVariants.{EndQuote, BeginQuote, PlainByte, CutQuote}
use Rattle.m4_input.specs.Pending.{one_longer}
use Rattle.m4_input.specs.OpenToken.{further}
use Rattle.m4_input.specs.Token.{begins, is_cut, before, level, mark_at}
use Rattle.m4_input.proofs.Cases.{mark_by}

pub before_step : (e x : List ℕ) (b : ℕ) → begins e (b ∷ x) ≡ false → before e (b ∷ x) ≡ one_longer (before e x)
before_step e x b h = rw (h, before) refl

-- std's word for a delimiter at the start
pub starts_begins : (d x : List ℕ) → starts_with nat_eq x d ≡ begins d x
starts_begins [] x = refl
starts_begins (b ∷ d) [] = refl
starts_begins (b ∷ d) (c ∷ x) = ap (λ v. (b == c) && v) (starts_begins d x)

-- a delimiter that does not begin with the first byte of a text is not at its start, and is not cut by its end
pub none_begun : (d : List ℕ) (b : ℕ) → nat_eq b (get_or d 0 256) ≡ false → (y : List ℕ) → nat_lt 0 (length d) && begins d (b ∷ y) ≡ false
none_begun [] b e y = refl
none_begun (a ∷ d) b e y = grind (arith, common_steps, e)

pub none_cut : (d : List ℕ) (b : ℕ) → nat_eq b (get_or d 0 256) ≡ false → (m : Bool) (y : List ℕ) → m && (nat_lt 0 (length d) && is_cut (b ∷ y) d) ≡ false
none_cut d b e false y = refl
none_cut [] b e true y = refl
none_cut (a ∷ d) b e true y = grind (arith, common_steps, e)

pub level_skip : (q : Delimiters) (p : Bool) (n skip : ℕ) (y : List ℕ) → skip ≤ length y → level q p n skip y ≡ further skip (level q p n 0 (drop skip y))
level_skip q p n zero y h = go (level q p n 0 y)
  where
    go : (o : Option ℕ) → o ≡ further 0 o
    go None = refl
    go (Some m) = ap Some (omega arith)
level_skip q p n (suc skip) [] h = absurd (omega arith)
level_skip q p n (suc skip) (b ∷ y) h = ap one_longer (level_skip q p n skip y (omega arith)) ∙ go (level q p n 0 (drop skip y))
  where
    go : (o : Option ℕ) → one_longer (further skip o) ≡ further (suc skip) o
    go None = refl
    go (Some m) = ap Some (omega arith)

second : (v : Bool) {w : Bool} → (v && w) ≡ true → w ≡ true
second true h = h
second false h = cc

pub begins_length : (e y : List ℕ) → begins e y ≡ true → length e ≤ length y
begins_length [] y h = omega arith
begins_length (b ∷ e) [] h = cc
begins_length (b ∷ e) (c ∷ y) h = let l : length e ≤ length y = begins_length e y (second (b == c) h) in omega arith

abbrev pub on_mark : Delimiters → Bool → ℕ → List ℕ → Mark → Option ℕ
on_mark q p n y EndQuote = elim n [ zero ↦ Some 0 | suc j ↦ one_longer (level q p j (length q.end - 1) y) ]
on_mark q p n y BeginQuote = one_longer (level q p (suc n) (length q.begin - 1) y)
on_mark q p n y PlainByte = one_longer (level q p n zero y)
on_mark q p n y CutQuote = None

pub level_at : (q : Delimiters) (p : Bool) (n b : ℕ) (y : List ℕ) (m : Mark) → mark_at q p (b ∷ y) ≡ m → level q p n 0 (b ∷ y) ≡ on_mark q p n y m
level_at q p n b y m e = ap (on_mark q p n y) e

pub one_further : (n m : ℕ) (o : Option ℕ) → m ≡ suc n → one_longer (further n o) ≡ further m o
one_further n m None e = refl
one_further n m (Some i) e = ap Some (omega arith)

pub further_further : (n m k : ℕ) (o : Option ℕ) → k ≡ n + m → further n (further m o) ≡ further k o
further_further n m k None e = refl
further_further n m k (Some i) e = ap Some (omega arith)

-- a delimiter of length d is passed
pub passed_mark : (q : Delimiters) (p : Bool) (n d : ℕ) (b : ℕ) (y : List ℕ) → 0 < d → d ≤ length (b ∷ y)
    → one_longer (level q p n (d - 1) y) ≡ further d (level q p n 0 (drop d (b ∷ y)))
passed_mark q p n zero b y h g = absurd (omega arith)
passed_mark q p n (suc d) b y h g = let e : suc d - 1 ≡ d = omega arith in ap (λ i. one_longer (level q p n i y)) e
    ∙ (ap one_longer (level_skip q p n d y (omega arith)) ∙ one_further d (suc d) (level q p n 0 (drop d y)) refl)

pub mark_down : (u v w : Bool) → EndQuote ≡ mark_by u v w → u ≡ true
mark_down true v w e = refl
mark_down false true w e = cc
mark_down false false true e = cc
mark_down false false false e = cc

pub mark_up : (u v w : Bool) → BeginQuote ≡ mark_by u v w → w ≡ true
mark_up true v w e = cc
mark_up false true w e = cc
mark_up false false true e = refl
mark_up false false false e = cc
