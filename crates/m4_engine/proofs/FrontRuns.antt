-- FrontRuns: tokens that are found in the bytes at the front are found in all bytes in hand.
use Rattle.std.proofs.Common.{◌≡◌, ⊎_elim, inl, inr, ℕ, ◌+◌, ◌-◌, ◌≤◌, Bool, true, false, List, [], ◌∷◌, ◌++◌, Some, None}
use Rattle.std.proofs.Common.{append-nil, refl, sym, ap, ◌∙◌, subst, take, drop, length, length-append, arith}
use Rattle.std.proofs.lemmas.List.{take-append-le, drop-append-le, length-drop}
use Rattle.m4_state.specs.State.{State, top_of}
use Rattle.m4_state.specs.declared.delimiters.Delimiters.{Delimiters}
use Rattle.m4_input.specs.declared.token.Token.{Token}
use Rattle.m4_input.specs.declared.token.Token.TheVariants.{Name, Str, Comment, Byte, End}
use Rattle.m4_input.specs.declared.front.Scan.{Scan}
use Rattle.m4_input.specs.declared.front.Scan.TheVariants.{Found, Broken, NeedsMore}
use Rattle.m4_state.specs.declared.builtin.Builtin.TheVariants.{Dnl}
use Rattle.m4_state.specs.declared.definition.Def.TheVariants.{Builtin}
use Rattle.m4_input.specs.declared.front.Answer.TheVariants.{Unknown}
use Rattle.m4_input.specs.Token.{scan}
use Rattle.m4_input.specs.Paren.{paren_in}
use Rattle.m4_input.specs.Input.{Held, answer_of}
use Rattle.m4_input.specs.declared.front.Unended.TheVariants.{InString, InComment}
use Rattle.m4_input.proofs.OpenEnd.{scan_stays, scan_fits, paren_in_stays}
use Rattle.m4_engine.specs.Expansion.{Call}
use Rattle.m4_engine.specs.Plain.{IsPut, IsPlain, ArePlain, IsPlainRun}
use Rattle.m4_engine.specs.Lookahead.{IsExpansion, IsCalled, IsNamed, IsAhead, IsEndIn, IsNext, IsLookaheadOf, IsAfter}
use Rattle.m4_engine.specs.declared.role.ListEnd.{ListEnd}
use Rattle.m4_engine.specs.declared.role.ListEnd.TheVariants as ends
use Rattle.m4_engine.specs.declared.lookahead.Lookahead.{Lookahead}
use Rattle.m4_engine.specs.declared.lookahead.Lookahead.TheVariants as aheads
use Rattle.m4_input.proofs.Parts.{drop_parts}
use Rattle.std.specs.Prelude.{◌<◌, ◌||◌}
use Rattle.m4_engine.specs.Collected.{IsText, IsListToken, AreListTokens, IsListRun}
use Rattle.std.proofs.lemmas.List.{take-append-drop}
use Rattle.m4_input.specs.Pending.{Pending, text_of, consumed}
use Rattle.m4_input.specs.Blocks.{IsInFront}
use Rattle.m4_engine.specs.Turns.{MayFollow}

-- what is decided, with more bytes after it
decided_on : (q c : Delimiters) (more : Bool) (x z : List ℕ) (v : Scan) → (v ≡ NeedsMore → ⊥) → scan q c true x ≡ v → scan q c more (x ++ z) ≡ v
decided_on q c more x z v n e =
    ⊎_elim (λ (h : scan q c true x ≡ NeedsMore). absurd (n (sym e ∙ h))) (λ h. h ∙ e) (scan_stays q c more x z)

found_on : (q c : Delimiters) (more : Bool) (x z : List ℕ) (t : Token) (n : ℕ) → scan q c true x ≡ Found t n → scan q c more (x ++ z) ≡ Found t n
found_on q c more x z t n e = decided_on q c more x z (Found t n) (λ h. cc) e

paren_on : (q c : Delimiters) (more : Bool) (x z : List ℕ) (l : Bool) → paren_in q c true x ≡ answer_of l → paren_in q c more (x ++ z) ≡ answer_of l
paren_on q c more x z l e =
    ⊎_elim (λ (h : paren_in q c true x ≡ Unknown). known l (sym e ∙ h)) (λ h. h ∙ e) (paren_in_stays q c more x z)
  where
    known : (l : Bool) → answer_of l ≡ Unknown → paren_in q c more (x ++ z) ≡ answer_of l
    known true h = cc
    known false h = cc

-- nothing is after it
closed_on : (P : Bool → List ℕ → Type 0) (x z : List ℕ) (more : Bool) → MayFollow false z more → P false x → P more (x ++ z)
closed_on P x z more f h =
    subst (λ b. P b (x ++ z)) (sym f.1) (subst (λ (y : List ℕ). P false (x ++ y)) (sym f.0) (subst (P false) (sym (append-nil x)) h))

text_fits : (s : State) (n : ℕ) (t x : List ℕ) → IsText s true n t x → n ≤ length x
text_fits s n t x (inl g) = scan_fits s.quotes s.comments x (Str t) n g
text_fits s n t x (inr (inl g)) = scan_fits s.quotes s.comments x (Name t) n g.0
text_fits s n t x (inr (inr g)) = scan_fits s.quotes s.comments x (Comment t) n g

text_on : (s : State) (more : Bool) (n : ℕ) (t x z : List ℕ) → IsText s true n t x → IsText s more n t (x ++ z)
text_on s more n t x z (inl g) = inl (found_on s.quotes s.comments more x z (Str t) n g)
text_on s more n t x z (inr (inl g)) = inr (inl (found_on s.quotes s.comments more x z (Name t) n g.0, g.1))
text_on s more n t x z (inr (inr g)) = inr (inr (found_on s.quotes s.comments more x z (Comment t) n g))

plain_fits : (s : State) (n : ℕ) (x : List ℕ) → IsPlain s true n x → n ≤ length x
plain_fits s n x (inl g) = text_fits s n (take n x) x g
plain_fits s n x (inr g) = scan_fits s.quotes s.comments x (Byte g.0) n g.1

put_on : (s : State) (more : Bool) (n : ℕ) (t x z : List ℕ) → IsPut s true n t x → IsPut s more n t (x ++ z)
put_on s more n t x z (inl g) = inl (text_on s more n t x z g)
put_on s more n t x z (inr g) = inr (g.0, found_on s.quotes s.comments more x z (Byte g.0) n g.1, g.2)

one_plain_on : (s : State) (more : Bool) (n : ℕ) (x z : List ℕ) → IsPlain s true n x → IsPlain s more n (x ++ z)
one_plain_on s more n x z (inl g) =
    inl (subst (λ (y : List ℕ). IsText s more n y (x ++ z)) (sym (take-append-le n x z (text_fits s n (take n x) x g))) (text_on s more n (take n x) x z g))
one_plain_on s more n x z (inr g) =
    inr (g.0, found_on s.quotes s.comments more x z (Byte g.0) n g.1, take-append-le n x z (scan_fits s.quotes s.comments x (Byte g.0) n g.1) ∙ g.2)

are_plain_on : (s : State) (more : Bool) (lens : List ℕ) (x z : List ℕ) → ArePlain s true lens x → ArePlain s more lens (x ++ z)
are_plain_on s more [] x z h = tt
are_plain_on s more (n ∷ lens) x z h = (
  one_plain_on s more n x z h.0,
  subst (ArePlain s more lens) (sym (drop-append-le n x z (plain_fits s n x h.0)))
      (are_plain_on s more lens (drop n x) z h.1),
)

pub plain_run_on : (s : State) (m more : Bool) (n : ℕ) (x z : List ℕ) → MayFollow m z more → IsPlainRun s m n x → IsPlainRun s more n (x ++ z)
plain_run_on s true more n x z f h = (h.0, are_plain_on s more h.0 x z h.1, h.2)
plain_run_on s false more n x z f h = closed_on (λ b (y : List ℕ). IsPlainRun s b n y) x z more f h

token_fits : (s : State) (n : ℕ) (c d : Call) (x : List ℕ) → IsListToken s true n c d x → n ≤ length x
token_fits s n c d x (inl g) = text_fits s n g.0 x g.1
token_fits s n c d x (inr g) = scan_fits s.quotes s.comments x (Byte g.0) n g.1

token_on : (s : State) (more : Bool) (n : ℕ) (c d : Call) (x z : List ℕ) → IsListToken s true n c d x → IsListToken s more n c d (x ++ z)
token_on s more n c d x z (inl g) = inl (g.0, text_on s more n g.0 x z g.1, g.2)
token_on s more n c d x z (inr g) = inr (g.0, found_on s.quotes s.comments more x z (Byte g.0) n g.1, g.2)

tokens_on : (s : State) (more : Bool) (ts : List (ℕ × Call)) (c d : Call) (x z : List ℕ) → AreListTokens s true ts c d x → AreListTokens s more ts c d (x ++ z)
tokens_on s more [] c d x z h = h
tokens_on s more (t ∷ ts) c d x z h = (
  token_on s more t.0 c t.1 x z h.0,
  subst (AreListTokens s more ts t.1 d) (sym (drop-append-le t.0 x z (token_fits s t.0 c t.1 x h.0)))
      (tokens_on s more ts t.1 d (drop t.0 x) z h.1),
)

pub list_run_on : (s : State) (m more : Bool) (n : ℕ) (c d : Call) (x z : List ℕ) → MayFollow m z more → IsListRun s m n c d x → IsListRun s more n c d (x ++ z)
list_run_on s true more n c d x z f h = (h.0, tokens_on s more h.0 c d x z h.1, h.2)
list_run_on s false more n c d x z f h = closed_on (λ b (y : List ℕ). IsListRun s b n c d y) x z more f h

named_on : (s : State) (more : Bool) (n : ℕ) (listed : Bool) (x z : List ℕ) → IsNamed n listed s true x → IsNamed n listed s more (x ++ z)
named_on s more n listed x z h =
    let same : take n (x ++ z) ≡ take n x = take-append-le n x z h.within in
    let all : length (x ++ z) ≡ length x + length z = length-append x z in
    record {
      scanned = found_on s.quotes s.comments more x z (Name (take n x)) n h.scanned ∙ ap (λ (y : List ℕ). Found (Name y) n) (sym same);
      within = omega (arith, all, h.within);
      list = ap (paren_in s.quotes s.comments more) (drop-append-le n x z h.within) ∙ paren_on s.quotes s.comments more (drop n x) z listed h.list;
    }

-- the name has the same bytes
same_name : (P : List ℕ → Type 0) (n : ℕ) (x z : List ℕ) → n ≤ length x → P (take n x) → P (take n (x ++ z))
same_name P n x z k h = subst P (sym (take-append-le n x z k)) h

ahead_on : (s : State) (more : Bool) (a : Lookahead) (n : ℕ) (c : Call) (x z : List ℕ) → (a ≡ aheads.Undecided → ⊥)
    → IsAhead a n c s true x → IsAhead a n c s more (x ++ z)
ahead_on s more aheads.Definition n c x z u h = absurd h
ahead_on s more aheads.EndsArgument n c x z u h = absurd h
ahead_on s more aheads.ClosesList n c x z u h = absurd h
ahead_on s more aheads.Expansion n c x z u h =
    (named_on s more n false x z h.0, same_name (IsExpansion c s) n x z (h.0).within h.1)
ahead_on s more aheads.LineSkip n c x z u h =
    (named_on s more n false x z h.0, same_name (λ (y : List ℕ). top_of s y ≡ Some (Builtin Dnl)) n x z (h.0).within h.1)
ahead_on s more aheads.Call n c x z u h =
    (named_on s more n false x z h.0, same_name (IsCalled c s) n x z (h.0).within h.1)
ahead_on s more aheads.List n c x z u h =
    (h.0, h.1, named_on s more h.0 true x z h.2, same_name (IsCalled c s) h.0 x z (h.2).within h.3)
ahead_on s more aheads.End n c x z u h = (h.0, found_on s.quotes s.comments more x z End 0 h.1)
ahead_on s more aheads.UnendedString n c x z u h = (h.0, decided_on s.quotes s.comments more x z (Broken InString) (λ e. cc) h.1)
ahead_on s more aheads.UnendedComment n c x z u h = (h.0, decided_on s.quotes s.comments more x z (Broken InComment) (λ e. cc) h.1)
ahead_on s more aheads.Undecided n c x z u h = absurd (u refl)

end_on : (s : State) (more : Bool) (end : ListEnd) (cs : List Call) (x z : List ℕ) → IsEndIn end cs s true x → IsEndIn end cs s more (x ++ z)
end_on s more end [] x z h = absurd h
end_on s more end (d ∷ ds) x z h =
    record { byte = h.byte; scanned = found_on s.quotes s.comments more x z (Byte h.byte) 1 h.scanned; ends = h.ends }

next_on : (s : State) (more : Bool) (a : Lookahead) (n : ℕ) (cs : List Call) (c : Call) (x z : List ℕ)
    → (a ≡ aheads.Undecided → ⊥) → IsNext a n cs c s true x → IsNext a n cs c s more (x ++ z)
next_on s more aheads.Definition n cs c x z u h = absurd h
next_on s more aheads.EndsArgument n cs c x z u h = (h.0, end_on s more ends.Argument cs x z h.1)
next_on s more aheads.ClosesList n cs c x z u h = (h.0, end_on s more ends.List cs x z h.1)
next_on s more aheads.Undecided n cs c x z u h = absurd (u refl)
next_on s more a n cs c x z u h = ahead_on s more a n c x z u h

-- what is right in any list is so in these
pub ahead_next : (a : Lookahead) (n : ℕ) (cs : List Call) (c : Call) (s : State) (m : Bool) (x : List ℕ)
    → IsAhead a n c s m x → IsNext a n cs c s m x
ahead_next aheads.Definition n cs c s m x h = absurd h
ahead_next aheads.EndsArgument n cs c s m x h = absurd h
ahead_next aheads.ClosesList n cs c s m x h = absurd h
ahead_next a n cs c s m x h = h

-- the bytes after those at the front
pub record After (p : Pending) (x : List ℕ) (m : Bool) : Type 0 where
  pub rest : List ℕ
  pub all : text_of p ≡ x ++ rest
  pub follows : MayFollow m rest p.may_follow

pub after : (p : Pending) (x : List ℕ) (m : Bool) → IsInFront p x m → After p x m
after p x true h = record {
  rest = drop (length x) (text_of p);
  all = sym (take-append-drop (length x) (text_of p)) ∙ ap (λ (y : List ℕ). y ++ drop (length x) (text_of p)) (sym h);
  follows = tt;
}
after p x false h = record { rest = []; all = h.0 ∙ sym (append-nil x); follows = (refl, h.1) }

pub plain_front : (s : State) (p : Pending) (m : Bool) (n : ℕ) (x : List ℕ) → IsInFront p x m → IsPlainRun s m n x → IsPlainRun s p.may_follow n (text_of p)
plain_front s p m n x h r =
    let a = after p x m h in
    subst (λ (y : List ℕ). IsPlainRun s p.may_follow n y) (sym a.all) (plain_run_on s m p.may_follow n x a.rest a.follows r)

pub list_front : (s : State) (p : Pending) (m : Bool) (n : ℕ) (c d : Call) (x : List ℕ) → IsInFront p x m
    → IsListRun s m n c d x → IsListRun s p.may_follow n c d (text_of p)
list_front s p m n c d x h r =
    let a = after p x m h in
    subst (λ (y : List ℕ). IsListRun s p.may_follow n c d y) (sym a.all) (list_run_on s m p.may_follow n c d x a.rest a.follows r)

-- a token that is found after the first bytes of the front
pub put_after : (s : State) (p : Pending) (m : Bool) (n : ℕ) (x t : List ℕ) (l : ℕ) → IsInFront p x m → n ≤ length x
    → IsPut s m l t (drop n x) → IsPut s p.may_follow l t (drop n (text_of p))
put_after s p m n x t l h k g =
    let a = after p x m h in
    let rest : drop n (text_of p) ≡ drop n x ++ a.rest = ap (drop n) a.all ∙ drop-append-le n x a.rest k in
    subst (λ (y : List ℕ). IsPut s p.may_follow l t y) (sym rest) (by m a.rest a.follows g)
  where
    by : (m : Bool) (z : List ℕ) → MayFollow m z p.may_follow → IsPut s m l t (drop n x) → IsPut s p.may_follow l t (drop n x ++ z)
    by true z f g = put_on s p.may_follow l t (drop n x) z g
    by false z f g = closed_on (λ b (y : List ℕ). IsPut s b l t y) (drop n x) z p.may_follow f g

-- what was seen after n bytes is seen at the front once these were consumed
next_there : (a : Lookahead) (n : ℕ) (cs : List Call) (c : Call) (s : State) (p : Pending) → p.definition ≡ None
    → IsNext a n cs c s p.may_follow (text_of p) → IsLookaheadOf a n cs c s p
next_there aheads.Definition n cs c s p f h = absurd h
next_there a n cs c s p f h = (f, h)

-- and so are its bytes after it
pub after_next : (a : Lookahead) (n : ℕ) (cs : List Call) (c : Call) (s : State) (m : Bool) (x : List ℕ) (i j : Held)
    → IsNext a n cs c s m x → j ≡ record i { pending = consumed n i.pending } → IsAfter a n i j
after_next aheads.Definition n cs c s m x i j h g = absurd h
after_next a n cs c s m x i j h g = g

-- the bytes that are left of those at the front come first once the others were consumed
pub front_left : (p : Pending) (m : Bool) (n : ℕ) (x : List ℕ) → IsInFront p x m → n ≤ length x → (rest : List ℕ) × (text_of (consumed n p) ≡ drop n x ++ rest)
front_left p m n x h k =
    let r = after p x m h in
    (r.rest, sym (drop_parts n p.pushed p.unread) ∙ ap (drop n) r.all ∙ drop-append-le n x r.rest k)

pub next_front : (a : Lookahead) (t : ℕ) (cs : List Call) (c : Call) (s : State) (p : Pending) (others : Bool) (n : ℕ)
    (x : List ℕ) → IsInFront p x (others || p.may_follow) → (others ≡ false → x ≡ text_of p) → n ≤ length x
    → (a ≡ aheads.Undecided → others ≡ false)
    → IsNext a t cs c s (others || p.may_follow) (drop n x)
    → IsLookaheadOf a t cs c s (consumed n p)
next_front a t cs c s p false n x h all k u g =
    next_there a t cs c s (consumed n p) refl
    (subst (λ (y : List ℕ). IsNext a t cs c s p.may_follow y) (ap (drop n) (all refl) ∙ drop_parts n p.pushed p.unread) g)
next_front a t cs c s p true n x h all k u g =
    let l = front_left p true n x h k in
    next_there a t cs c s (consumed n p) refl
    (subst (λ (y : List ℕ). IsNext a t cs c s p.may_follow y) (sym l.1)
    (next_on s p.may_follow a t cs c (drop n x) l.0 (λ e. absurd (no (u e))) g))
  where
    no : true ≡ false → ⊥
    no e = cc

-- what is left is less, if some bytes were passed
pub front_less : (p : Pending) (m : Bool) (n : ℕ) (x : List ℕ) → IsInFront p x m → 0 < n → n ≤ length x → length (text_of (consumed n p)) < length (text_of p)
front_less p m n x h some k =
    let r = after p x m h in
    let rest : length (text_of (consumed n p)) ≡ length (text_of p) - n = ap length (sym (drop_parts n p.pushed p.unread)) ∙ length-drop n (text_of p) in
    let all : length (text_of p) ≡ length x + length r.rest = ap length r.all ∙ length-append x r.rest in
    omega (arith, rest, all)

pub front_fits : (p : Pending) (m : Bool) (x : List ℕ) → IsInFront p x m → length x ≤ length (text_of p)
front_fits p m x h =
    let r = after p x m h in
    let all : length (text_of p) ≡ length x + length r.rest = ap length r.all ∙ length-append x r.rest in
    omega (arith, all)

pub take_in_front : (p : Pending) (m : Bool) (n : ℕ) (x : List ℕ) → IsInFront p x m → n ≤ length x → take n (text_of p) ≡ take n x
take_in_front p m n x h k =
    let a = after p x m h in
    ap (take n) a.all ∙ take-append-le n x a.rest k
