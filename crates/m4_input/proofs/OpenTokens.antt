-- OpenTokens: a string is followed from mark to mark, and a token that goes on over blocks is looked at once.
use Rattle.std.proofs.Common.{◌≡◌, ◌⊎◌, inl, inr, ⊎_elim, ℕ, zero, suc, ◌+◌, ◌-◌, ◌<◌, ◌≤◌, Bool, true, false, eqb}
use Rattle.std.proofs.Common.{eq-eqb, List, [], ◌∷◌, ◌++◌, length, drop, Option, Some, None, refl, sym, ap, ◌∙◌}
use Rattle.std.proofs.Common.{subst, arith, append_assoc, length-append, length-drop, max, get_or}
use Rattle.std.specs.Prelude.{nat_lt}
use Rattle.std.proofs.lemmas.List.{append-nil, drop-append-le, drop-drop, drop_all, drop_more}
use Rattle.std.proofs.lemmas.Bool.Decides.{nat_tests}
use Rattle.m4_state.specs.declared.delimiters.Delimiters.{Delimiters}
use Rattle.m4_input.specs.declared.front.Kind.{Kind}
use Rattle.m4_input.specs.declared.front.Kind.TheVariants.{CommentHere, NameHere, StringHere, Undecided}
use Rattle.m4_input.specs.declared.front.Mark.{Mark}
use Rattle.m4_input.specs.declared.front.Mark.TheVariants.{EndQuote, BeginQuote, PlainByte, CutQuote}
use Rattle.m4_input.specs.declared.front.Scan.TheVariants.{NeedsMore}
use Rattle.m4_input.specs.declared.open_token.OpenToken.{OpenToken}
use Rattle.m4_input.specs.declared.open_token.OpenToken.TheVariants as opens
use Rattle.m4_input.specs.declared.strings.StringSoFar.{StringSoFar}
use Rattle.m4_input.specs.declared.strings.StringSoFar.TheVariants as string_so_far
use Rattle.m4_input.specs.Ascii.{is_name_byte}
use Rattle.m4_input.specs.Pending.{one_longer}
use Rattle.m4_input.specs.Token.{begins, run_length, before, mark_at, level, comment_at}
use Rattle.m4_input.specs.Token.{name_at, string_at, scan_kind, scan}
use Rattle.m4_input.proofs.Cases.{name_unless, comment_found, string_found}
use Rattle.m4_input.specs.OpenToken.{further, kind_in, MayCome, HasPassed, IsStringSoFar, NameIsOpen, CommentIsOpen}
use Rattle.m4_input.specs.OpenToken.{StringIsOpen, IsOpenAt, StaysOpen, CommentGoesOn}
use Rattle.m4_input.proofs.Scans.{on_mark, level_at, passed_mark, further_further, one_further, before_step}
use Rattle.m4_input.proofs.Scans.{begins_length, mark_down, mark_up}
use Rattle.m4_input.proofs.OpenEnd.{mark_stays, front_stays, begins_none, long_not_cut}

further_none : (k : ℕ) (o : Option ℕ) → o ≡ None → further k o ≡ None
further_none k o e = ap (further k) e

no_further : (o : Option ℕ) → further 0 o ≡ o
no_further None = refl
no_further (Some m) = ap Some (omega arith)

-- ---- strings

-- whatever comes after a text, none may
come : (o : Bool) → MayCome o o []
come true = tt
come false = (refl, refl)

-- a mark of d bytes is passed
passed_on : (q : Delimiters) (o : Bool) (n : ℕ) (x : List ℕ) (m k b i d : ℕ) → HasPassed q o n x m k
    → drop k x ≡ b ∷ drop (k + 1) x → 0 < d → d ≤ length (drop k x) → i ≤ suc m
    → ((p : Bool) (z : List ℕ) → MayCome o p z → level q p m 0 (b ∷ (drop (k + 1) x ++ z))
    ≡ one_longer (level q p i (d - 1) (drop (k + 1) x ++ z))) → HasPassed q o n x i (k + d)
passed_on q o n x m k b i d s e pos fits low is =
    let len : length (drop k x) ≡ length x - k = length-drop k x in
    let w : k ≤ length x = s.within in
    let l : m ≤ n + k = s.low in
    record {
      within = omega arith;
      low = omega arith;
      same = λ p z c.
          let rest : List ℕ = drop (k + 1) x ++ z in
          let whole : drop k x ++ z ≡ b ∷ rest = ap (λ (y : List ℕ). y ++ z) e in
          let long : length (drop k x ++ z) ≡ length (drop k x) + length z = length-append (drop k x) z in
          let same_long : length (drop k x ++ z) ≡ length (b ∷ rest) = ap length whole in
          let fits_all : d ≤ length (b ∷ rest) = omega arith in
          let after : drop d (b ∷ rest) ≡ drop (k + d) x ++ z =
          ap (drop d) (sym whole) ∙ drop-append-le d (drop k x) z fits ∙ ap (λ (y : List ℕ). y ++ z) (drop-drop d k x) in
          s.same p z c
          ∙ ap (further k) (ap (level q p m 0) whole ∙ is p z c ∙ passed_mark q p i d b rest pos fits_all
          ∙ ap (λ (y : List ℕ). further d (level q p i 0 y)) after)
          ∙ further_further k d (k + d) (level q p i 0 (drop (k + d) x ++ z)) refl;
    }

-- the mark at a place, whatever may come
abbrev Marked : Delimiters → Bool → ℕ → List ℕ → Mark → Type 0
Marked q o b y v = (p : Bool) (z : List ℕ) → MayCome o p z → mark_at q p (b ∷ (y ++ z)) ≡ v

passed_past : (q : Delimiters) (o : Bool) (n : ℕ) (x : List ℕ) (m k b : ℕ) → HasPassed q o n x m k
    → drop k x ≡ b ∷ drop (k + 1) x → Marked q o b (drop (k + 1) x) PlainByte → HasPassed q o n x m (k + 1)
passed_past q o n x m k b s e h =
    let fits : 1 ≤ length (drop k x) = subst (λ (y : List ℕ). 1 ≤ length y) (sym e) (omega arith) in
    passed_on q o n x m k b m 1 s e (omega arith) fits (omega arith) (λ p z c. level_at q p m b (drop (k + 1) x ++ z) PlainByte (h p z c))

passed_up : (q : Delimiters) (o : Bool) (n : ℕ) (x : List ℕ) (m k b : ℕ) → HasPassed q o n x m k
    → drop k x ≡ b ∷ drop (k + 1) x → 0 < length q.begin → length q.begin ≤ length (drop k x)
    → Marked q o b (drop (k + 1) x) BeginQuote → HasPassed q o n x (m + 1) (k + length q.begin)
passed_up q o n x m k b s e pos fits h =
    let one : m + 1 ≡ suc m = omega arith in
    subst (λ i. HasPassed q o n x i (k + length q.begin)) (sym one)
    (passed_on q o n x m k b (suc m) (length q.begin) s e pos fits (omega arith) (λ p z c. level_at q p m b (drop (k + 1) x ++ z) BeginQuote (h p z c)))

-- an end-quote takes at least a byte
passed_down : (q : Delimiters) (o : Bool) (n : ℕ) (x : List ℕ) (m k b d : ℕ) → HasPassed q o n x m k
    → drop k x ≡ b ∷ drop (k + 1) x → 0 < d → length q.end - 1 ≡ d - 1 → d ≤ length (drop k x)
    → Marked q o b (drop (k + 1) x) EndQuote → (m ≡ 0 → ⊥) → HasPassed q o n x (m - 1) (k + d)
passed_down q o n x zero k b d s e pos as_long fits h ne = absurd (ne refl)
passed_down q o n x (suc m) k b d s e pos as_long fits h ne =
    let one : suc m - 1 ≡ m = omega arith in
    subst (λ i. HasPassed q o n x i (k + d)) (sym one)
    (passed_on q o n x (suc m) k b m d s e pos fits (omega arith)
    (λ p z c. level_at q p (suc m) b (drop (k + 1) x ++ z) EndQuote (h p z c) ∙ ap (λ (i : ℕ). one_longer (level q p m i (drop (k + 1) x ++ z))) as_long))

-- a mark that is not cut stays, whatever may come
marked : (q : Delimiters) (o : Bool) (b : ℕ) (y : List ℕ) (v : Mark) → mark_at q o (b ∷ y) ≡ v → (v ≡ CutQuote → ⊥) → Marked q o b y v
marked q true b y v here n p z c = ⊎_elim (λ e. absurd (n (sym here ∙ e))) (λ g. g ∙ here) (mark_stays q p (b ∷ y) z)
marked q false b y v here n p z c =
    ap (λ (r : Bool). mark_at q r (b ∷ (y ++ z))) c.0 ∙ ap (λ (t : List ℕ). mark_at q false (b ∷ (y ++ t))) c.1
    ∙ ap (λ (t : List ℕ). mark_at q false (b ∷ t)) (append-nil y) ∙ here

all_dropped : (x : List ℕ) (k : ℕ) → length x ≤ k → drop k x ≡ []
all_dropped x k h = drop_all k x h

-- the level before a text by the level at a place of it
passed_level : (q : Delimiters) (o : Bool) (n : ℕ) (x : List ℕ) (m k : ℕ) → HasPassed q o n x m k → level q o n 0 x ≡ further k (level q o m 0 (drop k x))
passed_level q o n x m k s =
    ap (level q o n 0) (sym (append-nil x)) ∙ s.same o [] (come o)
    ∙ ap (λ (y : List ℕ). further k (level q o m 0 y)) (append-nil (drop k x))

-- what is so whatever comes is so where nothing may come
pub passed_so : (q : Delimiters) (o : Bool) (n : ℕ) (x : List ℕ) (m k : ℕ) → HasPassed q true n x m k → HasPassed q o n x m k
passed_so q o n x m k s = record { within = s.within; low = s.low; same = λ p z c. s.same p z tt }

-- the string goes on: nothing is left, or a quote is cut
pub all_reached : (q : Delimiters) (o : Bool) (n : ℕ) (x : List ℕ) (m k : ℕ) → HasPassed q o n x m k → length x ≤ k
    → IsStringSoFar q o n x (string_so_far.Open k m)
all_reached q o n x m k s h = (s, passed_level q o n x m k s ∙ ap (λ (y : List ℕ). further k (level q o m 0 y)) (all_dropped x k h))

-- a mark of any length at a place
module _ (q : Delimiters) (o : Bool) (n : ℕ) (x : List ℕ) (m k : ℕ) (s : HasPassed q o n x m k) (inside : k < length x) where
  abbrev byte : ℕ
  byte = get_or x k 0

  there : drop k x ≡ byte ∷ drop (k + 1) x
  there = drop_more x k 0 inside

  seen : (v : Mark) → v ≡ mark_at q o (drop k x) → mark_at q o (byte ∷ drop (k + 1) x) ≡ v
  seen v h = ap (mark_at q o) (sym there) ∙ sym h

  some_left : 1 ≤ length (drop k x)
  some_left = let len : length (drop k x) ≡ length x - k = length-drop k x in omega arith

  pub reached_down : (d : ℕ) → d ≡ max (length q.end) 1 → EndQuote ≡ mark_at q o (drop k x) → (m ≡ 0 → ⊥) → HasPassed q o n x (m - 1) (k + d)
  reached_down d is h ne =
      let fits : length q.end ≤ length (drop k x) = begins_length q.end (drop k x) (mark_down _ _ _ h) in
      let some : 1 ≤ length (drop k x) = some_left in
      passed_down q o n x m k byte d s there (omega arith) (omega arith) (omega arith)
      (marked q o byte (drop (k + 1) x) EndQuote (seen EndQuote h) (λ f. cc)) ne

  pub reached_up : 0 < length q.begin → BeginQuote ≡ mark_at q o (drop k x) → HasPassed q o n x (m + 1) (k + length q.begin)
  reached_up pos h =
      passed_up q o n x m k byte s there pos (begins_length q.begin (drop k x) (mark_up _ _ _ h))
      (marked q o byte (drop (k + 1) x) BeginQuote (seen BeginQuote h) (λ f. cc))

  pub reached_past : PlainByte ≡ mark_at q o (drop k x) → HasPassed q o n x m (k + 1)
  reached_past h = passed_past q o n x m k byte s there (marked q o byte (drop (k + 1) x) PlainByte (seen PlainByte h) (λ f. cc))

  level_there : (v : Mark) → v ≡ mark_at q o (drop k x) → level q o n 0 x ≡ further k (on_mark q o m (drop (k + 1) x) v)
  level_there v h = passed_level q o n x m k s ∙ ap (further k) (ap (level q o m 0) there ∙ level_at q o m byte (drop (k + 1) x) v (seen v h))

  pub reached_cut : CutQuote ≡ mark_at q o (drop k x) → IsStringSoFar q o n x (string_so_far.Open k m)
  reached_cut h = (s, level_there CutQuote h)

  pub reached_end : EndQuote ≡ mark_at q o (drop k x) → m ≡ 0 → IsStringSoFar q o n x (string_so_far.Ends k)
  reached_end h none =
      let len : length (drop k x) ≡ length x - k = length-drop k x in
      let fits : length q.end ≤ length (drop k x) = begins_length q.end (drop k x) (mark_down _ _ _ h) in
      let far : k + 0 ≡ k = omega arith in
      (level_there EndQuote h ∙ ap (λ (i : ℕ). further k (on_mark q o i (drop (k + 1) x) EndQuote)) none ∙ ap Some far, omega arith)

-- the rest of a text is passed too
passed_both : (q : Delimiters) (d : ℕ) (x y : List ℕ) (n m k j : ℕ) → HasPassed q true d x n k → y ≡ drop k x
    → HasPassed q true n y m j → HasPassed q true d x m (k + j)
passed_both q d x y n m k j s e r =
    let len : length (drop k x) ≡ length x - k = length-drop k x in
    let same_len : length y ≡ length (drop k x) = ap length e in
    let w : k ≤ length x = s.within in
    let v : j ≤ length y = r.within in
    let l : n ≤ d + k = s.low in
    let l' : m ≤ n + j = r.low in
    record {
      within = omega arith;
      low = omega arith;
      same = λ p z c.
          s.same p z c
          ∙ ap (λ (t : List ℕ). further k (level q p n 0 (t ++ z))) (sym e)
          ∙ ap (further k) (r.same p z c)
          ∙ further_further k j (k + j) (level q p m 0 (drop j y ++ z)) refl
          ∙ ap (λ (t : List ℕ). further (k + j) (level q p m 0 (t ++ z))) (ap (drop j) e ∙ drop-drop j k x);
    }

-- a string by its quotes of one byte each
pub short_so_far : (q : Delimiters) (b e : ℕ) (o : Bool) (n : ℕ) (x : List ℕ) (r : StringSoFar) → q.begin ≡ b ∷ []
    → q.end ≡ e ∷ [] → IsStringSoFar (record { begin = b ∷ []; end = e ∷ [] }) o n x r → IsStringSoFar q o n x r
short_so_far q b e o n x r h g s =
    subst (λ (y : List ℕ). IsStringSoFar (record { begin = q.begin; end = y }) o n x r) (sym g)
    (subst (λ (y : List ℕ). IsStringSoFar (record { begin = y; end = e ∷ [] }) o n x r) (sym h) s)

-- ---- comments

not_begun : (e : List ℕ) (b : ℕ) (w : List ℕ) → before e (b ∷ w) ≡ None → (begins e (b ∷ w) ≡ false) × (before e w ≡ None)
not_begun e b w h = go (begins e (b ∷ w)) refl h
  where
    none_more : (o : Option ℕ) → one_longer o ≡ None → o ≡ None
    none_more None e = refl
    none_more (Some n) e = cc

    go : (v : Bool) → begins e (b ∷ w) ≡ v
        → ◌≡◌ {A = Option ℕ} (elim v [ true ↦ Some 0 | false ↦ one_longer (before e w) ]) None
        → (begins e (b ∷ w) ≡ false) × (before e w ≡ None)
    go true f g = cc
    go false f g = (f, none_more (before e w) g)

-- the first j bytes begin no end, whatever follows
before_on : (e w : List ℕ) (j : ℕ) → before e w ≡ None → (j ≡ 0) ⊎ (j + (length e - 1) ≤ length w) → (z : List ℕ)
    → before e (w ++ z) ≡ further j (before e (drop j w ++ z))
before_on e w zero h f z = sym (no_further (before e (w ++ z)))
before_on e [] (suc j) h f z = absurd (⊎_elim (λ i. (let no : suc j ≡ 0 = i in cc))
    (λ l. (let k : suc j + (length e - 1) ≤ length {A = ℕ} [] = l in omega arith)) f)
before_on e (b ∷ w) (suc j) h f z =
    let k = not_begun e b w h in
    ⊎_elim (λ i. cc) (λ l.
    let m : suc j + (length e - 1) ≤ length (b ∷ w) = l in
    let long : length e ≤ length (b ∷ w) = omega arith in
    let rest : j + (length e - 1) ≤ length w = omega arith in
    before_step e (w ++ z) b (begins_none e (b ∷ w) z k.0 (long_not_cut (b ∷ w) e long))
    ∙ ap one_longer (before_on e w j k.1 (inr rest) z)
    ∙ one_further j (suc j) (before e (drop j w ++ z)) refl) f

pub comment_on : (e x : List ℕ) (n : ℕ) → None ≡ before e x → n ≡ length x - (length e - 1) → CommentGoesOn e n x
comment_on e x n h is = record {
  within = omega arith;
  none = sym h;
  same = before_on e x n (sym h) (room (nat_lt (length x) (length e - 1)) refl);
}
  where
    room : (v : Bool) → nat_lt (length x) (length e - 1) ≡ v → (n ≡ 0) ⊎ (n + (length e - 1) ≤ length x)
    room true f = let l : length x < length e - 1 = grind (arith, nat_tests) in inl (omega arith)
    room false f = let l : length e - 1 ≤ length x = grind (arith, nat_tests) in inr (omega arith)

-- ---- names

run_step : (v : Bool) (m n l i : ℕ) → (elim v [ true ↦ suc m | false ↦ 0 ]) ≡ suc l → (m ≡ l → n ≡ l + i) → (elim v [ true ↦ suc n | false ↦ 0 ]) ≡ suc l + i
run_step true m n l i e h = let j : n ≡ l + i = h cc in omega arith
run_step false m n l i e h = cc

run_all : (f : ℕ → Bool) (w z : List ℕ) → run_length f w ≡ length w → run_length f (w ++ z) ≡ length w + run_length f z
run_all f [] z e = let n : ℕ = run_length f z in let i : n ≡ 0 + n = omega arith in i
run_all f (b ∷ w) z e = run_step (f b) (run_length f w) (run_length f (w ++ z)) (length w) (run_length f z) e (λ h. run_all f w z h)

-- ---- a token

kind_known : (q c : Delimiters) (x y : List ℕ) (k : Kind) → kind_in q c x ≡ k → (k ≡ Undecided → ⊥) → kind_in q c (x ++ y) ≡ k
kind_known q c [] y k e n = absurd (n (sym e))
kind_known q c (b ∷ x) y k e n = ⊎_elim (λ u. absurd (n (sym e ∙ u))) (λ s. s ∙ e) (front_stays q c true b x y)

-- a text that has grown at its end
grown : (k : ℕ) (x y z : List ℕ) → k ≤ length x → drop k (x ++ y) ++ z ≡ drop k x ++ (y ++ z)
grown k x y z w = ap (λ (t : List ℕ). t ++ z) (drop-append-le k x y w) ∙ append_assoc (drop k x) y z

longer_passed : (q : Delimiters) (n : ℕ) (x y : List ℕ) (m k : ℕ) → HasPassed q true n x m k → HasPassed q true n (x ++ y) m k
longer_passed q n x y m k s =
    let w : k ≤ length x = s.within in
    let len : length (x ++ y) ≡ length x + length y = length-append x y in
    record {
      within = omega arith;
      low = s.low;
      same = λ p z c.
          ap (level q p n 0) (append_assoc x y z) ∙ s.same p (y ++ z) c
          ∙ ap (λ (t : List ℕ). further k (level q p m 0 t)) (sym (grown k x y z w));
    }

pub longer_open : (q c : Delimiters) (o : OpenToken) (x y : List ℕ) → IsOpenAt q c o x → IsOpenAt q c o (x ++ y)
longer_open q c (opens.Name k) x y h =
    let w : k ≤ length x = h.within in
    let len : length (x ++ y) ≡ length x + length y = length-append x y in
    record {
      kind = kind_known q c x y NameHere h.kind (λ e. cc);
      within = omega arith;
      same = λ z.
          ap (run_length is_name_byte) (append_assoc x y z) ∙ h.same (y ++ z)
          ∙ ap (λ (t : List ℕ). k + run_length is_name_byte t) (sym (grown k x y z w));
    }
longer_open q c (opens.Comment k) x y h =
    let n : ℕ = length c.begin in
    let l : length c.begin ≤ length x = h.long in
    let w : k ≤ length (drop (length c.begin) x) = h.within in
    let len : length (x ++ y) ≡ length x + length y = length-append x y in
    let d : drop (length c.begin) (x ++ y) ≡ drop (length c.begin) x ++ y = drop-append-le (length c.begin) x y l in
    let len_d : length (drop (length c.begin) x ++ y) ≡ length (drop (length c.begin) x) + length y = length-append (drop (length c.begin) x) y in
    record {
      kind = kind_known q c x y CommentHere h.kind (λ e. cc);
      long = omega arith;
      within = subst (λ (t : List ℕ). k ≤ length t) (sym d) (omega arith);
      same = λ z.
          ap (λ (t : List ℕ). before c.end (t ++ z)) d
          ∙ ap (before c.end) (append_assoc (drop (length c.begin) x) y z) ∙ h.same (y ++ z)
          ∙ ap (λ (t : List ℕ). further k (before c.end t)) (sym (grown k (drop (length c.begin) x) y z w))
          ∙ ap (λ (t : List ℕ). further k (before c.end (drop k t ++ z))) (sym d);
    }
longer_open q c (opens.Quoted k m) x y h =
    let l : length q.begin ≤ length x = h.long in
    let len : length (x ++ y) ≡ length x + length y = length-append x y in
    record {
      kind = kind_known q c x y StringHere h.kind (λ e. cc);
      long = omega arith;
      passed = subst (λ (t : List ℕ). HasPassed q true 0 t m k) (sym (drop-append-le (length q.begin) x y l))
          (longer_passed q 0 (drop (length q.begin) x) y m k h.passed);
    }

-- the token of a text whose kind is known
scan_so : (q c : Delimiters) (x : List ℕ) (k : Kind) → kind_in q c x ≡ k → (k ≡ Undecided → ⊥)
    → (b : ℕ) × (y : List ℕ) × (x ≡ b ∷ y) × (scan q c true x ≡ scan_kind k q c true b y)
scan_so q c [] k e n = absurd (n (sym e))
scan_so q c (b ∷ y) k e n = (b, y, refl, ap (λ i. scan_kind i q c true b y) e)

-- a name that was not looked at, and so on
pub name_begins : (q c : Delimiters) (x : List ℕ) → kind_in q c x ≡ NameHere → NameIsOpen q c 0 x
name_begins q c x e = record {
  kind = e;
  within = omega arith;
  same = λ z. (let n : ℕ = run_length is_name_byte (x ++ z) in let i : n ≡ 0 + n = omega arith in i);
}

-- ---- what is open stays so

name_more : (n : ℕ) (x : List ℕ) → n ≡ length x → name_unless (eqb n (length x)) n x ≡ NeedsMore
name_more n x e = ap (λ v. name_unless v n x) (eq-eqb n (length x) e)

pub name_stays_open : (q c : Delimiters) (at : ℕ) (x y : List ℕ) → NameIsOpen q c at x → y ≡ drop at x
    → run_length is_name_byte y ≡ length y → StaysOpen q c (opens.Name (at + length y)) x
name_stays_open q c at x y h e r =
    let len : length (drop at x) ≡ length x - at = length-drop at x in
    let same_len : length y ≡ length (drop at x) = ap length e in
    let w : at ≤ length x = h.within in
    let rest : run_length is_name_byte (drop at x) ≡ length (drop at x) = subst (λ (t : List ℕ). run_length is_name_byte t ≡ length t) e r in
    let end : at + length y ≡ length x = omega arith in
    let gone : drop (at + length y) x ≡ [] = all_dropped x (at + length y) (omega arith) in
    let run_is : (z : List ℕ) → run_length is_name_byte (x ++ z) ≡ (at + length y) + run_length is_name_byte z = λ z.
    (let m : ℕ = run_length is_name_byte z in
    let i : at + (length (drop at x) + m) ≡ (at + length y) + m = omega arith in
    h.same z ∙ ap (λ (j : ℕ). at + j) (run_all is_name_byte (drop at x) z rest) ∙ i) in
    let whole : run_length is_name_byte x ≡ length x =
    (let i : (at + length y) + 0 ≡ length x = omega arith in ap (run_length is_name_byte) (sym (append-nil x)) ∙ run_is [] ∙ i) in
    let k = scan_so q c x NameHere h.kind (λ e. cc) in (
      record {
        kind = h.kind;
        within = omega arith;
        same = λ z. run_is z ∙ ap (λ (t : List ℕ). (at + length y) + run_length is_name_byte (t ++ z)) (sym gone);
      },
      k.3 ∙ ap (λ (t : List ℕ). name_at true t) (sym k.2) ∙ name_more (run_length is_name_byte x) x whole,
    )

pub comment_stays_open : (q c : Delimiters) (at n : ℕ) (x y : List ℕ) → CommentIsOpen q c at x
    → y ≡ drop (length c.begin + at) x → CommentGoesOn c.end n y → StaysOpen q c (opens.Comment (at + n)) x
comment_stays_open q c at n x y h e g =
    let w : List ℕ = drop (length c.begin) x in
    let k = scan_so q c x CommentHere h.kind (λ e. cc) in
    let rest : y ≡ drop at w = e ∙ sym (drop-drop at (length c.begin) x) in
    let len : length (drop at w) ≡ length w - at = length-drop at w in
    let same_len : length y ≡ length (drop at w) = ap length rest in
    let inside : at ≤ length w = h.within in
    let further_in : n ≤ length y = g.within in
    let same : (z : List ℕ) → before c.end (w ++ z) ≡ further (at + n) (before c.end (drop (at + n) w ++ z)) = λ z.
    h.same z ∙ ap (λ (t : List ℕ). further at (before c.end (t ++ z))) (sym rest) ∙ ap (further at) (g.same z)
    ∙ further_further at n (at + n) (before c.end (drop n y ++ z)) refl
    ∙ ap (λ (t : List ℕ). further (at + n) (before c.end (t ++ z))) (ap (drop n) rest ∙ drop-drop n at w) in
    let none : before c.end w ≡ None =
    ap (before c.end) (sym (append-nil w)) ∙ h.same []
    ∙ ap (λ (t : List ℕ). further at (before c.end t)) (append-nil (drop at w) ∙ sym rest)
    ∙ further_none at (before c.end y) g.none in (
      record { kind = h.kind; long = h.long; within = omega arith; same = same },
      k.3 ∙ ap (λ (t : List ℕ). comment_at c true t) (sym k.2) ∙ ap (comment_found c true x) none,
    )

pub string_stays_open : (q c : Delimiters) (at depth n m : ℕ) (x y : List ℕ) → StringIsOpen q c at depth x
    → y ≡ drop (length q.begin + at) x → IsStringSoFar q true depth y (string_so_far.Open n m)
    → StaysOpen q c (opens.Quoted (at + n) m) x
string_stays_open q c at depth n m x y h e g =
    let w : List ℕ = drop (length q.begin) x in
    let rest : y ≡ drop at w = e ∙ sym (drop-drop at (length q.begin) x) in
    let k = scan_so q c x StringHere h.kind (λ e. cc) in
    let none : level q true 0 0 w ≡ None = passed_level q true 0 w depth at h.passed
    ∙ further_none at (level q true depth 0 (drop at w)) (ap (level q true depth 0) (sym rest) ∙ g.1) in (
      record { kind = h.kind; long = h.long; passed = passed_both q 0 w y depth m at n h.passed rest g.0 },
      k.3 ∙ ap (λ (t : List ℕ). string_at q true t) (sym k.2) ∙ ap (string_found q true w) none,
    )
