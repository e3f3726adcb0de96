-- ListRuns: tokens of a list in order.
use Rattle.std.proofs.Common.{◌≡◌, inr, Bool, ℕ, suc, ◌+◌, ◌≤◌, true, List, [], ◌∷◌, ◌++◌, take, drop, length}
use Rattle.std.proofs.Common.{refl, sym, ap, ◌∙◌, subst, arith, append-nil, append_assoc}
use Rattle.std.proofs.lemmas.List.{drop-drop, length-take-le, take-append-drop}
use Rattle.m4_state.specs.declared.delimiters.Delimiters.{Delimiters}
use Rattle.m4_state.specs.State.{State}
use Rattle.m4_input.specs.Token.{scan}
use Rattle.m4_input.specs.declared.front.Scan.TheVariants.{Found}
use Rattle.m4_input.specs.declared.token.Token.TheVariants.{Byte}
use Rattle.m4_engine.specs.declared.role.Role.{Role}
use Rattle.m4_engine.specs.declared.role.Role.TheVariants.{Other}
use Rattle.m4_engine.specs.Nesting.{Turn, GoOn}
use Rattle.m4_engine.specs.Expansion.{Call, Mode, Collecting, Expansion, Kept, Ended, issued_in, diverted_in}
use Rattle.m4_engine.specs.Expansion.{put_text}
use Rattle.m4_engine.specs.Args.{role_of, take_byte}
use Rattle.m4_input.proofs.Scanned.{byte_first}
use Rattle.m4_engine.specs.Collected.{TakesByte, IsLone, HaveRole, IsListToken}
use Rattle.m4_engine.specs.Collected.{AreListTokens, bytes_in, IsListRun}
use Rattle.m4_engine.proofs.Cases.{mode_with_text}

-- no token
pub list_none : (s : State) (m : Bool) (c : Call) (x : List ℕ) → IsListRun s m 0 c c x
list_none s m c x = ([], refl, refl)

-- a token
pub list_one : (s : State) (m : Bool) (n : ℕ) (c d : Call) (x : List ℕ) → IsListToken s m n c d x → IsListRun s m n c d x
list_one s m n c d x h = let k : n + 0 ≡ n = omega arith in ((n, d) ∷ [], (h, refl), k)

-- further tokens
joined : (s : State) (m : Bool) (ts us : List (ℕ × Call)) (c d e : Call) (x : List ℕ) → AreListTokens s m ts c d x
    → AreListTokens s m us d e (drop (bytes_in ts) x)
    → AreListTokens s m (ts ++ us) c e x × (bytes_in (ts ++ us) ≡ bytes_in ts + bytes_in us)
joined s m [] us c d e x a b = let k : bytes_in us ≡ 0 + bytes_in us = omega arith in (subst (λ (k : Call). AreListTokens s m us k e x) a b, k)
joined s m (t ∷ ts) us c d e x a b =
    let r = joined s m ts us t.1 d e (drop t.0 x) a.1 (subst (AreListTokens s m us d e) (sym (drop-drop (bytes_in ts) t.0 x)) b) in
    let k : bytes_in (ts ++ us) ≡ bytes_in ts + bytes_in us = r.1 in
    ((a.0, r.0), omega arith)

pub list_on : (s : State) (m : Bool) (k n : ℕ) (c d e : Call) (x y : List ℕ) → IsListRun s m k c d x → y ≡ drop k x
    → IsListRun s m n d e y → IsListRun s m (k + n) c e x
list_on s m k n c d e x y r g h =
    let q = joined s m r.0 h.0 c d e x r.1 (subst (λ (b : ℕ). AreListTokens s m h.0 d e (drop b x)) (sym r.2) (subst (AreListTokens s m h.0 d e) g h.1)) in
    (r.0 ++ h.0, q.0, q.1 ∙ ap (λ (b : ℕ). b + bytes_in h.0) r.2 ∙ ap (λ (b : ℕ). k + b) h.2)

-- ---- bytes that are text

-- the call with a text in its argument
abbrev with_bytes : List ℕ → Call → Call
with_bytes x c = record c { begun = true; bytes = c.bytes ++ x }

-- a text is added to the argument
text_added : (x : List ℕ) (c : Call) (s : Expansion) → s.mode ≡ Collecting c → put_text x s ≡ record s { mode = Collecting (with_bytes x c) }
text_added x c s h =
    ap (λ (v : Mode). let e : Expansion =
    record s {
      so_far = record s.so_far {
        state = diverted_in v (s.so_far).state x;
        output = (s.so_far).output ++ issued_in v ((s.so_far).state).current x;
      };
      mode = mode_with_text x v;
    } in e) h
    ∙ ap (λ (o : List ℕ). let e : Expansion =
    record s { so_far = record s.so_far { output = o }; mode = Collecting (with_bytes x c) } in e) (append-nil (s.so_far).output)

text_taken : (b : ℕ) (c : Call) → role_of b c ≡ Other → TakesByte b c (with_bytes (b ∷ []) c)
text_taken b c r s h =
    ap (λ (v : Role). take_byte v b c s) r
    ∙ ap (λ (e : Expansion). let t : Turn Expansion Kept Ended = GoOn e in t) (text_added (b ∷ []) c s h)

twice_added : (b : ℕ) (x : List ℕ) (c : Call) → with_bytes x (with_bytes (b ∷ []) c) ≡ with_bytes (b ∷ x) c
twice_added b x c = ap (λ (y : List ℕ). let d : Call = record c { begun = true; bytes = y } in d) (append_assoc c.bytes (b ∷ []) x)

-- in an argument that has begun, more text changes no byte's role
role_kept : (b : ℕ) (z : List ℕ) (c : Call) → c.begun ≡ true → role_of b (with_bytes z c) ≡ role_of b c
role_kept b z c g = ap (λ (v : Bool). let d : Call = record c { begun = v; bytes = c.bytes ++ z } in role_of b d) (sym g)

roles_kept : (r : Role) (q k : Delimiters) (z x : List ℕ) (c : Call) → c.begun ≡ true → HaveRole r c q k x → HaveRole r (with_bytes z c) q k x
roles_kept r q k z [] c g h = tt
roles_kept r q k z (b ∷ x) c g h = (((h.0).0, role_kept b z c g ∙ (h.0).1), roles_kept r q k z x c g h.1)

bytes_taken : (s : State) (m : Bool) (b : ℕ) (x y : List ℕ) (c : Call) → c.begun ≡ true
    → HaveRole Other c s.quotes s.comments (b ∷ x) → IsListRun s m (length (b ∷ x)) c (with_bytes (b ∷ x) c) ((b ∷ x) ++ y)
bytes_taken s m b [] y c g h = list_one s m 1 c (with_bytes (b ∷ []) c) (b ∷ y) (inr (b, (h.0).0 m y, text_taken b c (h.0).1))
bytes_taken s m b (a ∷ x) y c g h =
    let d : Call = with_bytes (b ∷ []) c in
    let one = list_one s m 1 c d (b ∷ ((a ∷ x) ++ y)) (inr (b, (h.0).0 m ((a ∷ x) ++ y), text_taken b c (h.0).1)) in
    let rest = bytes_taken s m a x y d refl (roles_kept Other s.quotes s.comments (b ∷ []) (a ∷ x) c g h.1) in
    let n : 1 + length (a ∷ x) ≡ length (b ∷ (a ∷ x)) = omega arith in
    subst (λ (k : ℕ). IsListRun s m k c (with_bytes (b ∷ (a ∷ x)) c) ((b ∷ (a ∷ x)) ++ y)) n
    (subst (λ (e : Call). IsListRun s m (1 + length (a ∷ x)) c e ((b ∷ (a ∷ x)) ++ y)) (twice_added b (a ∷ x) c)
    (list_on s m 1 (length (a ∷ x)) c d (with_bytes (a ∷ x) d) (b ∷ ((a ∷ x) ++ y)) ((a ∷ x) ++ y) one refl rest))

-- no text changes nothing in an argument that has begun
none_added : (c : Call) → c.begun ≡ true → with_bytes [] c ≡ c
none_added c g =
    ap (λ (y : List ℕ). let d : Call = record c { begun = true; bytes = y } in d) (append-nil c.bytes)
    ∙ ap (λ (v : Bool). let d : Call = record c { begun = v } in d) (sym g)

-- the first n bytes of a text are added at once
bytes_at_once : (s : State) (m : Bool) (n : ℕ) (x : List ℕ) (c d : Call) → c.begun ≡ true → n ≤ length x
    → HaveRole Other c s.quotes s.comments (take n x) → d ≡ with_bytes (take n x) c → IsListRun s m n c d x
bytes_at_once s m n x c d f w h g =
    let k : n ≡ length (take n x) = sym (length-take-le n x w) in
    let e : x ≡ take n x ++ drop n x = sym (take-append-drop n x) in
    subst (λ (a : Call). IsListRun s m n c a x) (sym g)
    (subst (λ (y : List ℕ). IsListRun s m n c (with_bytes (take n x) c) y) (sym e)
    (subst (λ (j : ℕ). IsListRun s m j c (with_bytes (take n x) c) (take n x ++ drop n x)) (sym k)
    (by_front (take n x) h)))
  where
    by_front : (y : List ℕ) → HaveRole Other c s.quotes s.comments y → IsListRun s m (length y) c (with_bytes y c) (y ++ drop n x)
    by_front [] h = subst (λ (a : Call). IsListRun s m 0 c a (drop n x)) (sym (none_added c f)) (list_none s m c (drop n x))
    by_front (b ∷ y) h = bytes_taken s m b y (drop n x) c f h

-- the call with its argument begun
abbrev pub begun : Call → Call
begun c = record c { begun = true }

-- a byte that is text, and the bytes after it that are
pub byte_and_texts : (s : State) (m : Bool) (b n : ℕ) (c d : Call) (x y : List ℕ)
    → scan s.quotes s.comments m x ≡ Found (Byte b) 1 → role_of b c ≡ Other → y ≡ drop 1 x → n ≤ length y
    → HaveRole Other (begun c) s.quotes s.comments (take n y) → d ≡ with_bytes (take (1 + n) x) c → IsListRun s m (1 + n) c d x
byte_and_texts s m b n c d x y h r g w t e =
    let e1 : Call = with_bytes (b ∷ []) c in
    let next : suc n ≡ 1 + n = omega arith in
    let all : b ∷ take n y ≡ take (1 + n) x = ap (λ (z : List ℕ). b ∷ take n z) g
    ∙ ap (take (suc n)) (sym (byte_first s.quotes s.comments m x b 1 h)) ∙ ap (λ k. take k x) next in
    let after : d ≡ with_bytes (take n y) e1 = e ∙ ap (λ (z : List ℕ). with_bytes z c) (sym all) ∙ sym (twice_added b (take n y) c) in
    list_on s m 1 n c e1 d x y (list_one s m 1 c e1 x (inr (b, h, text_taken b c r))) g
    (bytes_at_once s m n y e1 d refl w (roles_kept Other s.quotes s.comments (b ∷ []) (take n y) (begun c) refl t) after)

-- a byte more
roles_on : (r : Role) (c : Call) (q k : Delimiters) (x : List ℕ) (b : ℕ) → HaveRole r c q k x → IsLone q k b → role_of b c ≡ r → HaveRole r c q k (x ++ b ∷ [])
roles_on r c q k [] b h l g = ((l, g), tt)
roles_on r c q k (a ∷ x) b h l g = (h.0, roles_on r c q k x b h.1 l g)

pub roles_more : (r : Role) (c : Call) (q k : Delimiters) (n : ℕ) (x : List ℕ) (b : ℕ) → HaveRole r c q k (take n x)
    → IsLone q k b → role_of b c ≡ r → take (n + 1) x ≡ take n x ++ b ∷ [] → HaveRole r c q k (take (n + 1) x)
roles_more r c q k n x b h l g e = subst (HaveRole r c q k) (sym e) (roles_on r c q k (take n x) b h l g)

-- a byte alone
pub byte_taken : (s : State) (m : Bool) (b : ℕ) (c d : Call) (x : List ℕ)
    → scan s.quotes s.comments m x ≡ Found (Byte b) 1 → TakesByte b c d → IsListRun s m 1 c d x
byte_taken s m b c d x h t = list_one s m 1 c d x (inr (b, h, t))
