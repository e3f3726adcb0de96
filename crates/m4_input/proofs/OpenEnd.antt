-- OpenEnd: what an open end decides, more bytes don't change.
use Rattle.std.proofs.Common.{◌≡◌, ◌≢◌, ◌⊎◌, inl, inr, ⊎_elim, Option, ℕ, zero, suc, ◌+◌, ◌-◌, ◌<◌, ◌≤◌, Bool, true}
use Rattle.std.proofs.Common.{false, ◌&&◌, ◌||◌, eqb, eq-eqb, List, [], ◌∷◌, ◌++◌, length, take, drop, Some, None}
use Rattle.std.proofs.Common.{refl, sym, ap, ◌∙◌, subst, arith, length-append, length-drop}
use Rattle.std.specs.Prelude.{nat_lt}
use Rattle.std.proofs.lemmas.Bool.Decides.{nat_tests}
use Rattle.std.proofs.lemmas.Bool.{eqb-true, and_parts, and_from}
use Rattle.std.proofs.lemmas.List.{take-append-le, drop-append-le}
use Rattle.m4_state.specs.declared.delimiters.Delimiters.{Delimiters}
use Rattle.m4_input.specs.declared.token.Token.{Token}
use Rattle.m4_input.specs.declared.token.Token.TheVariants.{Name, Str, Comment, End}
use Rattle.m4_input.specs.declared.front.Scan.{Scan}
use Rattle.m4_input.specs.declared.front.Scan.TheVariants.{Found, Broken, NeedsMore}
use Rattle.m4_input.specs.declared.front.Mark.{Mark}
use Rattle.m4_input.specs.declared.front.Mark.TheVariants.{EndQuote, BeginQuote, PlainByte, CutQuote}
use Rattle.m4_input.specs.declared.front.Kind.{Kind}
use Rattle.m4_input.specs.declared.front.Kind.TheVariants.{CommentHere, NameHere, StringHere, ByteHere, Undecided}
use Rattle.m4_input.specs.declared.front.Answer.TheVariants.{Unknown}
use Rattle.m4_input.specs.Ascii.{is_letter, is_name_byte}
use Rattle.m4_input.specs.Pending.{one_longer}
use Rattle.m4_input.specs.Token.{begins, is_cut, is_enabled, starts_with, may_start, run_length, before}
use Rattle.m4_input.specs.Token.{mark_at, level, name_at, string_at}
use Rattle.m4_input.specs.Token.{kind_of, scan_kind, scan}
use Rattle.m4_input.specs.Paren.{paren_in}
use Rattle.m4_input.proofs.Scans.{begins_length}
use Rattle.m4_input.proofs.Cases.{mark_by, name_unless, kind_by, answer_by, comment_found, string_found}

eqb_sym : (a b : ℕ) → eqb a b ≡ eqb b a
eqb_sym a b = grind (arith, nat_tests)

pub begins_more : (p x z : List ℕ) → begins p x ≡ true → begins p (x ++ z) ≡ true
begins_more [] x z e = refl
begins_more (b ∷ p) [] z e = cc
begins_more (b ∷ p) (c ∷ x) z e = let h = and_parts (eqb b c) (begins p x) e in and_from _ _ h.0 (begins_more p x z h.1)

begins_front : (x z p : List ℕ) → begins (x ++ z) p ≡ true → begins x p ≡ true
begins_front [] z p e = refl
begins_front (b ∷ x) z [] e = cc
begins_front (b ∷ x) z (c ∷ p) e = let h = and_parts (eqb b c) (begins (x ++ z) p) e in and_from _ _ h.0 (begins_front x z p h.1)

lt_true : (a b : ℕ) → a < b → nat_lt a b ≡ true
lt_true a b h = grind (arith, nat_tests)

true_lt : (a b : ℕ) → nat_lt a b ≡ true → a < b
true_lt a b h = grind (arith, nat_tests)

cut_less : (x z p : List ℕ) → is_cut (x ++ z) p ≡ true → is_cut x p ≡ true
cut_less x z p e =
    let h = and_parts (begins (x ++ z) p) _ e in
    let l : length (x ++ z) < length p = true_lt _ _ h.1 in
    let a : length (x ++ z) ≡ length x + length z = length-append x z in
    and_from _ _ (begins_front x z p h.0) (lt_true _ _ (omega arith))

false_from : (b : Bool) → (b ≡ true → ⊥) → b ≡ false
false_from true f = absurd (f refl)
false_from false f = refl

not_both : {b : Bool} → b ≡ true → b ≡ false → ⊥
not_both e f = cc

pub not_cut_more : (x z p : List ℕ) → is_cut x p ≡ false → is_cut (x ++ z) p ≡ false
not_cut_more x z p e = false_from _ (λ h. not_both (cut_less x z p h) e)

pub begins_none : (p x z : List ℕ) → begins p x ≡ false → is_cut x p ≡ false → begins p (x ++ z) ≡ false
begins_none [] x z e f = cc
begins_none (b ∷ p) [] z e f = absurd (not_both (and_from (begins [] (b ∷ p)) _ refl (lt_true 0 (length (b ∷ p)) (omega arith))) f)
begins_none (b ∷ p) (c ∷ x) z e f =
    (elim (eqb b c) as (λ v. eqb b c ≡ v → (v && begins p x) ≡ false → (v && begins p (x ++ z)) ≡ false) [
      | true ↦ λ g e'. begins_none p x z e' (false_from _ (λ h.
          let i = and_parts (begins x p) _ h in
          let l : length x < length p = true_lt _ _ i.1 in
          not_both (and_from _ _ (and_from _ _ (eqb_sym c b ∙ g) i.0) (lt_true (length (c ∷ x)) (length (b ∷ p)) (omega arith))) f))
      | false ↦ λ g e'. refl
    ]) refl e

pub long_not_cut : (x p : List ℕ) → length p ≤ length x → is_cut x p ≡ false
long_not_cut x p h = false_from _ (λ e. let l : length x < length p = true_lt _ _ ((and_parts (begins x p) _ e).1) in omega arith)

pub run_fits : (f : ℕ → Bool) (x : List ℕ) → run_length f x ≤ length x
run_fits f [] = omega arith
run_fits f (b ∷ x) =
    elim (f b) as (λ v. (elim v [ true ↦ suc (run_length f x) | false ↦ 0 ]) ≤ length (b ∷ x))
    [ true ↦ let l : run_length f x ≤ length x = run_fits f x in omega arith | false ↦ omega arith ]

abbrev run_on : Bool → ℕ → ℕ
run_on true n = suc n
run_on false n = 0

run_is : (f : ℕ → Bool) (b : ℕ) (x : List ℕ) → run_length f (b ∷ x) ≡ run_on (f b) (run_length f x)
run_is f b x = elim (f b) as (λ v. (elim v [ true ↦ suc (run_length f x) | false ↦ 0 ]) ≡ run_on v (run_length f x)) [ true ↦ refl | false ↦ refl ]

run_on_stable : (v : Bool) (m n l : ℕ) → (run_on v n ≡ suc l → ⊥) → ((n ≡ l → ⊥) → m ≡ n) → run_on v m ≡ run_on v n
run_on_stable true m n l h ih = ap suc (ih (λ e. h (ap suc e)))
run_on_stable false m n l h ih = refl

pub run_stable : (f : ℕ → Bool) (x z : List ℕ) → (run_length f x ≡ length x → ⊥) → run_length f (x ++ z) ≡ run_length f x
run_stable f [] z h = let e : run_length f [] ≡ length {A = ℕ} [] = refl in absurd (h e)
run_stable f (b ∷ x) z h =
    run_is f b (x ++ z) ∙ run_on_stable (f b) (run_length f (x ++ z)) (run_length f x) (length x)
    (λ e. h (run_is f b x ∙ e)) (run_stable f x z) ∙ sym (run_is f b x)

pub one_more_is : (o : Option ℕ) (n : ℕ) → one_longer o ≡ Some n → (m : ℕ) × (o ≡ Some m) × (n ≡ suc m)
one_more_is None n e = cc
one_more_is (Some m) n e = (m, refl, cc)

pub before_fits : (e x : List ℕ) (n : ℕ) → before e x ≡ Some n → n + length e ≤ length x
before_fits e [] n h = cc
before_fits e (b ∷ x) n h =
    (elim (begins e (b ∷ x)) as (λ v. begins e (b ∷ x) ≡ v
    → (elim v [ true ↦ Some 0 | false ↦ one_longer (before e x) ]) ≡ Some n → n + length e ≤ length (b ∷ x)) [
      | true ↦ λ g i. let l : length e ≤ length (b ∷ x) = begins_length e (b ∷ x) g in let m : 0 ≡ n = cc in omega arith
      | false ↦ λ g i. let k = one_more_is _ n i in let l : k.0 + length e ≤ length x = before_fits e x k.0 k.1 in let m : n ≡ suc k.0 = k.2 in omega arith
    ]) refl h

pub before_stable : (e x z : List ℕ) (n : ℕ) → before e x ≡ Some n → before e (x ++ z) ≡ Some n
before_stable e [] z n h = cc
before_stable e (b ∷ x) z n h =
    (elim (begins e (b ∷ x)) as (λ v. begins e (b ∷ x) ≡ v
    → (elim v [ true ↦ Some 0 | false ↦ one_longer (before e x) ]) ≡ Some n → before e (b ∷ (x ++ z)) ≡ Some n) [
      | true ↦ λ g i. ap (λ v. elim v [ true ↦ Some 0 | false ↦ one_longer (before e (x ++ z)) ]) (begins_more e (b ∷ x) z g) ∙ i
      | false ↦ λ g i.
          let k = one_more_is _ n i in
          let l : k.0 + length e ≤ length x = before_fits e x k.0 k.1 in
          ap (λ v. elim v [ true ↦ Some 0 | false ↦ one_longer (before e (x ++ z)) ]) (begins_none e (b ∷ x) z g (long_not_cut (b ∷ x) e (omega arith)))
          ∙ ap one_longer (before_stable e x z k.0 k.1) ∙ sym (ap Some k.2)
    ]) refl h

or_false : (a b : Bool) → (a || b) ≡ false → (a ≡ false) × (b ≡ false)
or_false true b e = cc
or_false false b e = (refl, e)

both_false : (p a b : Bool) → a ≡ false → b ≡ false → (p && (a || b)) ≡ false
both_false true a b e f = rw (e, f) refl
both_false false a b e f = refl

-- a mark that an open end decides
pub mark_stays : (q : Delimiters) (p : Bool) (y z : List ℕ) → (mark_at q true y ≡ CutQuote) ⊎ (mark_at q p (y ++ z) ≡ mark_at q true y)
mark_stays q p y z = go (begins q.end y) (is_cut y q.end || is_cut y q.begin) (begins q.begin y) refl refl refl
  where
    go : (u v w : Bool) → begins q.end y ≡ u → (is_cut y q.end || is_cut y q.begin) ≡ v → begins q.begin y ≡ w
        → (mark_by u v w ≡ CutQuote) ⊎ (mark_at q p (y ++ z) ≡ mark_by u v w)
    go true v w e f g = inr (ap (λ t. mark_by t (p && (is_cut (y ++ z) q.end || is_cut (y ++ z) q.begin)) (begins q.begin (y ++ z))) (begins_more q.end y z e))
    go false true w e f g = inl refl
    go false false w e f g =
        let h = or_false (is_cut y q.end) (is_cut y q.begin) f in
        inr (ap (λ t. mark_by t (p && (is_cut (y ++ z) q.end || is_cut (y ++ z) q.begin)) (begins q.begin (y ++ z))) (begins_none q.end y z e h.0)
        ∙ ap (λ t. mark_by false t (begins q.begin (y ++ z))) (both_false p _ _ (not_cut_more y z q.end h.0) (not_cut_more y z q.begin h.1))
        ∙ ap (mark_by false false) (begin_stays w g h.1))
      where
        begin_stays : (w : Bool) → begins q.begin y ≡ w → is_cut y q.begin ≡ false → begins q.begin (y ++ z) ≡ w
        begin_stays true g i = begins_more q.begin y z g
        begin_stays false g i = begins_none q.begin y z g i

on_mark : Delimiters → Bool → ℕ → List ℕ → Mark → Option ℕ
on_mark q p k y EndQuote = elim k [ zero ↦ Some 0 | suc j ↦ one_longer (level q p j (length q.end - 1) y) ]
on_mark q p k y BeginQuote = one_longer (level q p (suc k) (length q.begin - 1) y)
on_mark q p k y PlainByte = one_longer (level q p k zero y)
on_mark q p k y CutQuote = None

inside_is : (q : Delimiters) (p : Bool) (k b : ℕ) (y : List ℕ) → level q p k 0 (b ∷ y) ≡ on_mark q p k y (mark_at q p (b ∷ y))
unfolding on_mark
inside_is q p k b y = refl

down_long : (q : Delimiters) (p : Bool) (y : List ℕ) → mark_at q p y ≡ EndQuote → length q.end ≤ length y
down_long q p y e = go (begins q.end y) (p && (is_cut y q.end || is_cut y q.begin)) (begins q.begin y) refl e
  where
    go : (u v w : Bool) → begins q.end y ≡ u → mark_by u v w ≡ EndQuote → length q.end ≤ length y
    go true v w f g = begins_length q.end y f
    go false true w f g = cc
    go false false true f g = cc
    go false false false f g = cc

mark_fits : (q : Delimiters) (k b : ℕ) (y : List ℕ)
    → ((j skip m : ℕ) → level q true j skip y ≡ Some m → m + length q.end ≤ length y) → (n : ℕ) (m : Mark)
    → mark_at q true (b ∷ y) ≡ m → on_mark q true k y m ≡ Some n → n + length q.end ≤ length (b ∷ y)
unfolding on_mark
mark_fits q zero b y ih n EndQuote f e = let l : length q.end ≤ length (b ∷ y) = down_long q true (b ∷ y) f in let m : 0 ≡ n = cc in omega arith
mark_fits q (suc k) b y ih n EndQuote f e = let h = one_more_is _ n e in let l : h.0 + length q.end ≤ length y =
    ih _ _ h.0 h.1 in let m : n ≡ suc h.0 = h.2 in omega arith
mark_fits q k b y ih n BeginQuote f e = let h = one_more_is _ n e in let l : h.0 + length q.end ≤ length y =
    ih _ _ h.0 h.1 in let m : n ≡ suc h.0 = h.2 in omega arith
mark_fits q k b y ih n PlainByte f e = let h = one_more_is _ n e in let l : h.0 + length q.end ≤ length y =
    ih _ _ h.0 h.1 in let m : n ≡ suc h.0 = h.2 in omega arith
mark_fits q k b y ih n CutQuote f e = cc

pub inside_fits : (q : Delimiters) (k skip : ℕ) (x : List ℕ) (n : ℕ) → level q true k skip x ≡ Some n → n + length q.end ≤ length x
inside_fits q k skip [] n e = cc
inside_fits q k (suc skip) (b ∷ y) n e = let h = one_more_is _ n e in let l : h.0 + length q.end ≤ length y =
    inside_fits q k skip y h.0 h.1 in let m : n ≡ suc h.0 = h.2 in omega arith
inside_fits q k zero (b ∷ y) n e = mark_fits q k b y (λ j skip m g. inside_fits q j skip y m g) n
    (mark_at q true (b ∷ y)) refl (sym (inside_is q true k b y) ∙ e)

on_mark_stable : (q : Delimiters) (p : Bool) (k : ℕ) (y z : List ℕ)
    → ((j skip m : ℕ) → level q true j skip y ≡ Some m → level q p j skip (y ++ z) ≡ Some m) → (n : ℕ) (m : Mark)
    → on_mark q true k y m ≡ Some n → on_mark q p k (y ++ z) m ≡ Some n
unfolding on_mark
on_mark_stable q p zero y z ih n EndQuote e = e
on_mark_stable q p (suc k) y z ih n EndQuote e = let h = one_more_is _ n e in ap one_longer (ih _ _ h.0 h.1) ∙ sym (ap Some h.2)
on_mark_stable q p k y z ih n BeginQuote e = let h = one_more_is _ n e in ap one_longer (ih _ _ h.0 h.1) ∙ sym (ap Some h.2)
on_mark_stable q p k y z ih n PlainByte e = let h = one_more_is _ n e in ap one_longer (ih _ _ h.0 h.1) ∙ sym (ap Some h.2)
on_mark_stable q p k y z ih n CutQuote e = cc

not_cut_mark : (q : Delimiters) (k : ℕ) (y : List ℕ) (n : ℕ) (m : Mark) → m ≡ CutQuote → on_mark q true k y m ≡ Some n → ⊥
unfolding on_mark
not_cut_mark q k y n EndQuote e f = cc
not_cut_mark q k y n BeginQuote e f = cc
not_cut_mark q k y n PlainByte e f = cc
not_cut_mark q k y n CutQuote e f = cc

pub inside_stable : (q : Delimiters) (p : Bool) (k skip : ℕ) (x z : List ℕ) (n : ℕ) → level q true k skip x ≡ Some n → level q p k skip (x ++ z) ≡ Some n
inside_stable q p k skip [] z n e = cc
inside_stable q p k (suc skip) (b ∷ y) z n e = let h = one_more_is _ n e in ap one_longer (inside_stable q p k skip y z h.0 h.1) ∙ sym (ap Some h.2)
inside_stable q p k zero (b ∷ y) z n e =
    let f : on_mark q true k y (mark_at q true (b ∷ y)) ≡ Some n = sym (inside_is q true k b y) ∙ e in
    ⊎_elim (λ c. absurd (not_cut_mark q k y n _ c f))
    (λ g. inside_is q p k b (y ++ z) ∙ ap (on_mark q p k (y ++ z)) g ∙ on_mark_stable q p k y z (λ j skip m i. inside_stable q p j skip y z m i) n _ f)
    (mark_stays q p (b ∷ y) z)

-- a scan that needs more, or stays
abbrev pub Stays : Scan → Scan → Type 0
Stays v w = (v ≡ NeedsMore) ⊎ (w ≡ v)

comment_stays : (c : Delimiters) (p : Bool) (x z : List ℕ) (o o' : Option ℕ)
    → ((n : ℕ) → o ≡ Some n → (o' ≡ Some n) × (length c.begin + (n + length c.end) ≤ length x))
    → Stays (comment_found c true x o) (comment_found c p (x ++ z) o')
comment_stays c p x z None o' h = inl refl
comment_stays c p x z (Some n) o' h =
    let k = h n refl in
    inr (ap (comment_found c p (x ++ z)) k.0 ∙ ap (λ y. Found (Comment y) (length c.begin + (n + length c.end))) (take-append-le _ x z k.1))

string_stays : (q : Delimiters) (p : Bool) (y z : List ℕ) (o o' : Option ℕ)
    → ((n : ℕ) → o ≡ Some n → (o' ≡ Some n) × (n ≤ length y)) → Stays (string_found q true y o) (string_found q p (y ++ z) o')
string_stays q p y z None o' h = inl refl
string_stays q p y z (Some n) o' h =
    let k = h n refl in
    inr (ap (string_found q p (y ++ z)) k.0 ∙ ap (λ x. Found (Str x) (length q.begin + (n + length q.end))) (take-append-le n y z k.1))

name_stays : (p : Bool) (x z : List ℕ) → Stays (name_at true x) (name_at p (x ++ z))
name_stays p x z = go (eqb (run_length is_name_byte x) (length x)) refl
  where
    go : (v : Bool) → eqb (run_length is_name_byte x) (length x) ≡ v → Stays (name_unless v (run_length is_name_byte x) x) (name_at p (x ++ z))
    go true e = inl refl
    go false e =
        let apart : run_length is_name_byte x ≡ length x → ⊥ = λ g. not_both (eq-eqb _ _ g) e in
        let same : run_length is_name_byte (x ++ z) ≡ run_length is_name_byte x = run_stable is_name_byte x z apart in
        let fits : run_length is_name_byte x ≤ length x = run_fits is_name_byte x in
        let longer : length (x ++ z) ≡ length x + length z = length-append x z in
        let short : (p && eqb (run_length is_name_byte (x ++ z)) (length (x ++ z))) ≡ false =
        off p (false_from _ (λ g. let i : run_length is_name_byte (x ++ z) ≡ length (x ++ z) =
        eqb-true _ _ g in apart (omega arith))) in
        inr (ap (λ v. name_unless v (run_length is_name_byte (x ++ z)) (x ++ z)) short
        ∙ ap (λ n. Found (Name (take n (x ++ z))) n) same
        ∙ ap (λ y. Found (Name y) (run_length is_name_byte x)) (take-append-le _ x z fits))
      where
        off : (p : Bool) {b : Bool} → b ≡ false → (p && b) ≡ false
        off true e = e
        off false e = refl

pub front_stays : (q c : Delimiters) (p : Bool) (b : ℕ) (y z : List ℕ) → (kind_of q c true b y ≡ Undecided) ⊎ (kind_of q c p b (y ++ z) ≡ kind_of q c true b y)
front_stays q c p b y z = go (starts_with c (b ∷ y)) (may_start c true (b ∷ y)) (is_letter b) (starts_with q (b ∷ y))
    (may_start q true (b ∷ y)) (starts c) (starts q) (may c) (may q)
  where
    starts : (d : Delimiters) → (starts_with d (b ∷ y) ≡ true → starts_with d (b ∷ (y ++ z)) ≡ true)
        × (starts_with d (b ∷ y) ≡ false → may_start d true (b ∷ y) ≡ false → starts_with d (b ∷ (y ++ z)) ≡ false)
    starts d = ((λ e. let h = and_parts (is_enabled d) _ e in and_from _ _ h.0 (begins_more d.begin (b ∷ y) z h.1)), off (is_enabled d))
      where
        off : (v : Bool) → (v && begins d.begin (b ∷ y)) ≡ false → (v && is_cut (b ∷ y) d.begin) ≡ false → (v && begins d.begin (b ∷ (y ++ z))) ≡ false
        off true e f = begins_none d.begin (b ∷ y) z e f
        off false e f = refl

    may : (d : Delimiters) → may_start d true (b ∷ y) ≡ false → may_start d p (b ∷ (y ++ z)) ≡ false
    may d = go' p (is_enabled d)
      where
        go' : (p v : Bool) → (v && is_cut (b ∷ y) d.begin) ≡ false → (p && (v && is_cut (b ∷ (y ++ z)) d.begin)) ≡ false
        go' true true e = not_cut_more (b ∷ y) z d.begin e
        go' true false e = refl
        go' false v e = refl

    go : (t u v w x : Bool) {t' u' w' x' : Bool} → ((t ≡ true → t' ≡ true) × (t ≡ false → u ≡ false → t' ≡ false))
        → ((w ≡ true → w' ≡ true) × (w ≡ false → x ≡ false → w' ≡ false)) → (u ≡ false → u' ≡ false)
        → (x ≡ false → x' ≡ false) → (kind_by t u v w x ≡ Undecided) ⊎ (kind_by t' u' v w' x' ≡ kind_by t u v w x)
    go true u v w x f g h i = inr (rw (f.0 refl) refl)
    go false true v w x f g h i = inl refl
    go false false true w x f g h i = inr (rw (f.1 refl refl, h refl) refl)
    go false false false true x f g h i = inr (rw (f.1 refl refl, h refl, g.0 refl) refl)
    go false false false false true f g h i = inl refl
    go false false false false false f g h i = inr (rw (f.1 refl refl, h refl, g.1 refl refl, i refl) refl)

scan_front_stays : (f : Kind) (q c : Delimiters) (p : Bool) (b : ℕ) (y z : List ℕ)
    → (f ≡ CommentHere → length c.begin ≤ length (b ∷ y)) → (f ≡ StringHere → length q.begin ≤ length (b ∷ y))
    → Stays (scan_kind f q c true b y) (scan_kind f q c p b (y ++ z))
scan_front_stays CommentHere q c p b y z h g =
    let l : length c.begin ≤ length (b ∷ y) = h refl in
    let d : drop (length c.begin) (b ∷ (y ++ z)) ≡ drop (length c.begin) (b ∷ y) ++ z = drop-append-le (length c.begin) (b ∷ y) z l in
    let len : length (drop (length c.begin) (b ∷ y)) ≡ length (b ∷ y) - length c.begin = length-drop (length c.begin) (b ∷ y) in
    comment_stays c p (b ∷ y) z _ _ (λ n e.
    let f : n + length c.end ≤ length (drop (length c.begin) (b ∷ y)) = before_fits c.end (drop (length c.begin) (b ∷ y)) n e in
    (ap (before c.end) d ∙ before_stable c.end (drop (length c.begin) (b ∷ y)) z n e, omega arith))
scan_front_stays NameHere q c p b y z h g = name_stays p (b ∷ y) z
scan_front_stays StringHere q c p b y z h g =
    let l : length q.begin ≤ length (b ∷ y) = g refl in
    let d : drop (length q.begin) (b ∷ (y ++ z)) ≡ drop (length q.begin) (b ∷ y) ++ z = drop-append-le (length q.begin) (b ∷ y) z l in
    subst (λ x. Stays (string_at q true (b ∷ y)) (string_found q p x (level q p 0 0 x))) (sym d)
    (string_stays q p (drop (length q.begin) (b ∷ y)) z (level q true 0 0 (drop (length q.begin) (b ∷ y)))
    (level q p 0 0 (drop (length q.begin) (b ∷ y) ++ z)) (λ n e.
    let f : n + length q.end ≤ length (drop (length q.begin) (b ∷ y)) = inside_fits q 0 0 (drop (length q.begin) (b ∷ y)) n e in
    (inside_stable q p 0 0 (drop (length q.begin) (b ∷ y)) z n e, omega arith)))
scan_front_stays ByteHere q c p b y z h g = inr refl
scan_front_stays Undecided q c p b y z h g = inl refl

front_long : (q c : Delimiters) (b : ℕ) (y : List ℕ) (t u v w x : Bool) → (t ≡ true → length c.begin ≤ length (b ∷ y))
    → (w ≡ true → length q.begin ≤ length (b ∷ y))
    → (kind_by t u v w x ≡ CommentHere → length c.begin ≤ length (b ∷ y))
    × (kind_by t u v w x ≡ StringHere → length q.begin ≤ length (b ∷ y))
front_long q c b y true u v w x f g = ((λ _. f refl), (λ e. cc))
front_long q c b y false true v w x f g = ((λ e. cc), (λ e. cc))
front_long q c b y false false true w x f g = ((λ e. cc), (λ e. cc))
front_long q c b y false false false true x f g = ((λ e. cc), (λ _. g refl))
front_long q c b y false false false false true f g = ((λ e. cc), (λ e. cc))
front_long q c b y false false false false false f g = ((λ e. cc), (λ e. cc))

-- what an open end decides, more bytes don't change
pub scan_stays : (q c : Delimiters) (p : Bool) (x z : List ℕ) → Stays (scan q c true x) (scan q c p (x ++ z))
scan_stays q c p [] z = inl refl
scan_stays q c p (b ∷ y) z =
    let long = front_long q c b y (starts_with c (b ∷ y)) (may_start c true (b ∷ y)) (is_letter b)
    (starts_with q (b ∷ y)) (may_start q true (b ∷ y))
    (λ e. begins_length c.begin (b ∷ y) ((and_parts (is_enabled c) _ e).1))
    (λ e. begins_length q.begin (b ∷ y) ((and_parts (is_enabled q) _ e).1)) in
    ⊎_elim (λ e. inl (ap (λ f. scan_kind f q c true b y) e))
    (λ e. subst (λ f. Stays (scan q c true (b ∷ y)) (scan_kind f q c p b (y ++ z))) (sym e) (scan_front_stays (kind_of q c true b y) q c p b y z long.0 long.1))
    (front_stays q c p b y z)

-- a token lies within the text
FitsIn : ℕ → Scan → Type 0
FitsIn n (Found t k) = k ≤ n
FitsIn n (Broken f) = Unit {0}
FitsIn n NeedsMore = Unit {0}

comment_in : (c : Delimiters) (x : List ℕ) (o : Option ℕ)
    → ((n : ℕ) → o ≡ Some n → length c.begin + (n + length c.end) ≤ length x) → FitsIn (length x) (comment_found c true x o)
unfolding FitsIn
comment_in c x None h = tt
comment_in c x (Some n) h = h n refl

string_in : (q : Delimiters) (x y : List ℕ) (o : Option ℕ)
    → ((n : ℕ) → o ≡ Some n → length q.begin + (n + length q.end) ≤ length x) → FitsIn (length x) (string_found q true y o)
unfolding FitsIn
string_in q x y None h = tt
string_in q x y (Some n) h = h n refl

name_in : (v : Bool) (x : List ℕ) → FitsIn (length x) (name_unless v (run_length is_name_byte x) x)
unfolding FitsIn
name_in true x = tt
name_in false x = run_fits is_name_byte x

scan_front_in : (f : Kind) (q c : Delimiters) (b : ℕ) (y : List ℕ) → (f ≡ CommentHere → length c.begin ≤ length (b ∷ y))
    → (f ≡ StringHere → length q.begin ≤ length (b ∷ y)) → FitsIn (length (b ∷ y)) (scan_kind f q c true b y)
unfolding FitsIn
scan_front_in CommentHere q c b y h g =
    let l : length c.begin ≤ length (b ∷ y) = h refl in
    let len : length (drop (length c.begin) (b ∷ y)) ≡ length (b ∷ y) - length c.begin = length-drop (length c.begin) (b ∷ y) in
    comment_in c (b ∷ y) _ (λ n e. let f : n + length c.end ≤ length (drop (length c.begin) (b ∷ y)) = before_fits c.end _ n e in omega arith)
scan_front_in NameHere q c b y h g = name_in _ (b ∷ y)
scan_front_in StringHere q c b y h g =
    let l : length q.begin ≤ length (b ∷ y) = g refl in
    let len : length (drop (length q.begin) (b ∷ y)) ≡ length (b ∷ y) - length q.begin = length-drop (length q.begin) (b ∷ y) in
    string_in q (b ∷ y) _ _ (λ n e. let f : n + length q.end ≤ length (drop (length q.begin) (b ∷ y)) = inside_fits q 0 0 _ n e in omega arith)
scan_front_in ByteHere q c b y h g = omega arith
scan_front_in Undecided q c b y h g = tt

scan_in : (q c : Delimiters) (x : List ℕ) → FitsIn (length x) (scan q c true x)
unfolding FitsIn
scan_in q c [] = tt
scan_in q c (b ∷ y) =
    let long = front_long q c b y (starts_with c (b ∷ y)) (may_start c true (b ∷ y)) (is_letter b)
    (starts_with q (b ∷ y)) (may_start q true (b ∷ y))
    (λ e. begins_length c.begin (b ∷ y) ((and_parts (is_enabled c) _ e).1))
    (λ e. begins_length q.begin (b ∷ y) ((and_parts (is_enabled q) _ e).1)) in
    scan_front_in (kind_of q c true b y) q c b y long.0 long.1

pub scan_fits : (q c : Delimiters) (x : List ℕ) (t : Token) (n : ℕ) → scan q c true x ≡ Found t n → n ≤ length x
unfolding FitsIn
scan_fits q c x t n e = subst (FitsIn (length x)) e (scan_in q c x)

starts_stays : (d : Delimiters) (x z : List ℕ) → starts_with d x ≡ true → starts_with d (x ++ z) ≡ true
starts_stays d x z e = let h = and_parts (is_enabled d) _ e in and_from _ _ h.0 (begins_more d.begin x z h.1)

no_start_stays : (v : Bool) (d x z : List ℕ) → (v && begins d x) ≡ false → (v && is_cut x d) ≡ false → (v && begins d (x ++ z)) ≡ false
no_start_stays true d x z e f = begins_none d x z e f
no_start_stays false d x z e f = refl

no_cut_stays : (p v : Bool) (d x z : List ℕ) → (v && is_cut x d) ≡ false → (p && (v && is_cut (x ++ z) d)) ≡ false
no_cut_stays true true d x z e = not_cut_more x z d e
no_cut_stays true false d x z e = refl
no_cut_stays false v d x z e = refl

either_false : (a b : Bool) → a ≡ false → b ≡ false → (a || b) ≡ false
either_false a b e f = rw (e, f) refl

either_true : (a b a' b' : Bool) → (a ≡ true → a' ≡ true) → (b ≡ true → b' ≡ true) → (a || b) ≡ true → (a' || b') ≡ true
either_true true b a' b' f g e = rw (f refl) refl
either_true false true true b' f g e = refl
either_true false true false b' f g e = g refl
either_true false false a' b' f g e = cc

answer_stays : (v u w u' w' : Bool) → (u ≡ true → u' ≡ true) → (u ≡ false → w ≡ false → (u' ≡ false) × (w' ≡ false))
    → (answer_by v u w ≡ Unknown) ⊎ (answer_by v u' w' ≡ answer_by v u w)
answer_stays false u w u' w' f g = inr refl
answer_stays true true w u' w' f g = inr (rw (f refl) refl)
answer_stays true false true u' w' f g = inl refl
answer_stays true false false u' w' f g = let h = g refl refl in inr (rw (h.0, h.1) refl)

pub paren_in_stays : (q c : Delimiters) (p : Bool) (x z : List ℕ) → (paren_in q c true x ≡ Unknown) ⊎ (paren_in q c p (x ++ z) ≡ paren_in q c true x)
paren_in_stays q c p [] z = inl refl
paren_in_stays q c p (b ∷ y) z =
    answer_stays _ _ _ _ _
    (either_true _ _ _ _ (starts_stays c (b ∷ y) z) (starts_stays q (b ∷ y) z))
    (λ e f.
    let g = or_false (starts_with c (b ∷ y)) (starts_with q (b ∷ y)) e in
    let h = or_false (may_start c true (b ∷ y)) (may_start q true (b ∷ y)) f in (
      either_false _ _ (no_start_stays (is_enabled c) c.begin (b ∷ y) z g.0 h.0) (no_start_stays (is_enabled q) q.begin (b ∷ y) z g.1 h.1),
      either_false _ _ (no_cut_stays p (is_enabled c) c.begin (b ∷ y) z h.0) (no_cut_stays p (is_enabled q) q.begin (b ∷ y) z h.1),
    ))

-- a scan that doesn't find the end of the input
unfoldable pub NoEnd : Scan → Type 0
NoEnd (Found t n) = t ≢ End
NoEnd (Broken what) = Unit {0}
NoEnd NeedsMore = Unit {0}

comment_no_end : (c : Delimiters) (x : List ℕ) (o : Option ℕ) → NoEnd (comment_found c true x o)
unfolding NoEnd
comment_no_end c x None = tt
comment_no_end c x (Some n) = λ e. cc

name_no_end : (v : Bool) (n : ℕ) (x : List ℕ) → NoEnd (name_unless v n x)
unfolding NoEnd
name_no_end true n x = tt
name_no_end false n x = λ e. cc

string_no_end : (q : Delimiters) (y : List ℕ) (o : Option ℕ) → NoEnd (string_found q true y o)
unfolding NoEnd
string_no_end q y None = tt
string_no_end q y (Some n) = λ e. cc

kind_no_end : (k : Kind) (q c : Delimiters) (b : ℕ) (y : List ℕ) → NoEnd (scan_kind k q c true b y)
unfolding NoEnd
kind_no_end CommentHere q c b y = comment_no_end c (b ∷ y) (before c.end (drop (length c.begin) (b ∷ y)))
kind_no_end NameHere q c b y = name_no_end _ (run_length is_name_byte (b ∷ y)) (b ∷ y)
kind_no_end StringHere q c b y = string_no_end q (drop (length q.begin) (b ∷ y)) (level q true 0 0 (drop (length q.begin) (b ∷ y)))
kind_no_end ByteHere q c b y = λ e. cc
kind_no_end Undecided q c b y = tt

-- an open end is never the end of the input
pub scan_no_end : (q c : Delimiters) (x : List ℕ) → NoEnd (scan q c true x)
unfolding NoEnd
scan_no_end q c [] = tt
scan_no_end q c (b ∷ y) = kind_no_end (kind_of q c true b y) q c b y
