-- Decided: all bytes of a closed input decide its token, whether a list follows, and the rest of its line.
use Rattle.std.proofs.Common.{◌≡◌, ◌<◌, ◌≤◌, ◌&&◌, ◌||◌, ℕ, Bool, true, false, List, [], ◌∷◌, Option, Some, None}
use Rattle.std.proofs.Common.{refl, sym, ap, ◌∙◌, subst, arith, length}
use Rattle.m4_state.specs.declared.delimiters.Delimiters.{Delimiters}
use Rattle.m4_input.specs.declared.front.Answer.TheVariants.{Unknown}
use Rattle.m4_input.specs.declared.front.Kind.{Kind}
use Rattle.m4_input.specs.declared.front.Kind.TheVariants.{CommentHere, NameHere, StringHere, ByteHere, Undecided}
use Rattle.m4_input.specs.declared.front.Scan.{Scan}
use Rattle.m4_input.specs.declared.front.Scan.TheVariants.{Found, Broken, NeedsMore}
use Rattle.m4_input.specs.Pending.{Pending, text_of, line_length}
use Rattle.m4_input.specs.Token.{is_enabled, may_start, run_length}
use Rattle.m4_input.specs.Token.{kind_of, scan_kind, scan}
use Rattle.m4_input.specs.Ascii.{is_name_byte}
use Rattle.m4_input.specs.Paren.{paren_in}
use Rattle.m4_input.proofs.Cases.{name_unless, kind_by, answer_by, comment_found, string_found}
use Rattle.m4_input.proofs.OpenEnd.{long_not_cut}
use Rattle.m4_input.specs.Input.{all_read_if_ended, after_line_of, after_line}

unfoldable IsDecided : Scan → Type 0
IsDecided (Found t n) = Unit {0}
IsDecided (Broken what) = Unit {0}
IsDecided NeedsMore = ⊥

comment_decided : (c : Delimiters) (x : List ℕ) (o : Option ℕ) → IsDecided (comment_found c false x o)
unfolding IsDecided
comment_decided c x None = tt
comment_decided c x (Some n) = tt

string_decided : (q : Delimiters) (y : List ℕ) (o : Option ℕ) → IsDecided (string_found q false y o)
unfolding IsDecided
string_decided q y None = tt
string_decided q y (Some n) = tt

name_decided : (n : ℕ) (x : List ℕ) → IsDecided (name_unless false n x)
unfolding IsDecided
name_decided n x = tt

kind_decided : (k : Kind) (q c : Delimiters) (b : ℕ) (y : List ℕ) → (k ≡ Undecided → ⊥) → IsDecided (scan_kind k q c false b y)
unfolding IsDecided
kind_decided CommentHere q c b y h = comment_decided c (b ∷ y) _
kind_decided NameHere q c b y h = name_decided (run_length is_name_byte (b ∷ y)) (b ∷ y)
kind_decided StringHere q c b y h = string_decided q _ _
kind_decided ByteHere q c b y h = tt
kind_decided Undecided q c b y h = h refl

kind_known : (v w x : Bool) → kind_by v false w x false ≡ Undecided → ⊥
kind_known true w x e = cc
kind_known false true x e = cc
kind_known false false true e = cc
kind_known false false false e = cc

scan_decided : (q c : Delimiters) (x : List ℕ) → IsDecided (scan q c false x)
unfolding IsDecided
scan_decided q c [] = tt
scan_decided q c (b ∷ y) = kind_decided (kind_of q c false b y) q c b y (kind_known _ _ _)

pub scan_open : (q c : Delimiters) (m : Bool) (x : List ℕ) → scan q c m x ≡ NeedsMore → m ≡ true
unfolding IsDecided
scan_open q c true x e = refl
scan_open q c false x e = absurd (subst IsDecided e (scan_decided q c x))

answer_known : (v w : Bool) → answer_by v w false ≡ Unknown → ⊥
answer_known false w e = cc
answer_known true true e = cc
answer_known true false e = cc

pub paren_open : (q c : Delimiters) (m : Bool) (x : List ℕ) → paren_in q c m x ≡ Unknown → m ≡ true
paren_open q c true x e = refl
paren_open q c false [] e = cc
paren_open q c false (b ∷ y) e = absurd (answer_known _ _ e)

-- nor do bytes that are as long as each delimiter leave it open
pub paren_known : (q c : Delimiters) (x : List ℕ) → 0 < length x → length q.begin ≤ length x → length c.begin ≤ length x → paren_in q c true x ≡ Unknown → ⊥
paren_known q c [] l a b e = absurd (omega (arith, l))
paren_known q c (d ∷ y) l a b e =
    let whole : (may_start c true (d ∷ y) || may_start q true (d ∷ y)) ≡ false =
    ap (λ v. v || may_start q true (d ∷ y)) (ap (λ v. is_enabled c && v) (long_not_cut (d ∷ y) c.begin b) ∙ none (is_enabled c))
    ∙ ap (λ v. is_enabled q && v) (long_not_cut (d ∷ y) q.begin a) ∙ none (is_enabled q) in
    answer_known _ _ (ap (answer_by _ _) (sym whole) ∙ e)
  where
    none : (v : Bool) → (v && false) ≡ false
    none true = refl
    none false = refl

line_open_by : (o : Option ℕ) (p : Pending) (v : Bool) → p.may_follow ≡ v → after_line_of o p ≡ None → v ≡ true
line_open_by (Some n) p v m e = cc
line_open_by None p true m e = refl
line_open_by None p false m e = absurd (no_end (subst (λ (b : Bool). all_read_if_ended b p ≡ None) m e))
  where
    no_end : all_read_if_ended false p ≡ None → ⊥
    no_end f = cc

pub line_open : (p : Pending) → after_line p ≡ None → p.may_follow ≡ true
line_open p e = line_open_by (line_length (text_of p)) p p.may_follow refl e

no_newline_by : (o : Option ℕ) (p : Pending) → after_line_of o p ≡ None → o ≡ None
no_newline_by (Some n) p e = cc
no_newline_by None p e = refl

pub no_newline : (p : Pending) → after_line p ≡ None → line_length (text_of p) ≡ None
no_newline p e = no_newline_by (line_length (text_of p)) p e
