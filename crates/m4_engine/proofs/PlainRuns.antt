-- PlainRuns: plain tokens in order.
use Rattle.std.proofs.Common.{◌≡◌, ◌<◌, inl, inr, Bool, ℕ, ◌+◌, ◌-◌, List, [], ◌∷◌, ◌++◌, take, drop, sym, ap, ◌∙◌, subst, arith}
use Rattle.std.proofs.lemmas.List.{drop-drop}
use Rattle.m4_state.specs.State.{State}
use Rattle.m4_state.specs.declared.delimiters.Delimiters.{Delimiters}
use Rattle.m4_input.specs.declared.token.Token.TheVariants.{Name, Str, Comment, Byte}
use Rattle.m4_input.specs.declared.front.Scan.{Scan}
use Rattle.m4_input.specs.declared.front.Scan.TheVariants.{Found}
use Rattle.m4_input.specs.Token.{scan}
use Rattle.m4_input.proofs.Consumed.{HasBytes, scan_bytes}
use Rattle.m4_input.proofs.Scanned.{byte_first}
use Rattle.m4_engine.specs.Collected.{IsText}
use Rattle.m4_engine.specs.Plain.{IsPut, IsPlain, total, ArePlain, IsPlainRun}

-- tokens, and those after them
joined : (s : State) (o : Bool) (lens more x : List ℕ) → ArePlain s o lens x → ArePlain s o more (drop (total lens) x)
    → ArePlain s o (lens ++ more) x × (total (lens ++ more) ≡ total lens + total more)
joined s o [] more x a b = let none : total more ≡ 0 + total more = omega arith in (b, none)
joined s o (n ∷ lens) more x a b =
    let r = joined s o lens more (drop n x) a.1 (subst (ArePlain s o more) (sym (drop-drop (total lens) n x)) b) in
    let t : total (lens ++ more) ≡ total lens + total more = r.1 in
    ((a.0, r.0), omega arith)

pub plain_on : (s : State) (o : Bool) (k n : ℕ) (x y : List ℕ) → IsPlainRun s o k x → y ≡ drop k x → IsPlainRun s o n y → IsPlainRun s o (k + n) x
plain_on s o k n x y r e h =
    let q = joined s o r.0 h.0 x r.1 (subst (λ (m : ℕ). ArePlain s o h.0 (drop m x)) (sym r.2) (subst (ArePlain s o h.0) e h.1)) in
    (r.0 ++ h.0, q.0, q.1 ∙ ap (λ (m : ℕ). m + total h.0) r.2 ∙ ap (λ (m : ℕ). k + m) h.2)

-- a token
pub plain_one : (s : State) (o : Bool) (n : ℕ) (x : List ℕ) → IsPlain s o n x → IsPlainRun s o n x
plain_one s o n x h = let all : n + 0 ≡ n = omega arith in (n ∷ [], (h, tt), all)

-- a token that is text, all of it
pub plain_text : (s : State) (o : Bool) (n : ℕ) (x t : List ℕ) → IsText s o n t x → t ≡ take n x → IsPlainRun s o n x
plain_text s o n x t h g = plain_one s o n x (inl (subst (λ (z : List ℕ). IsText s o n z x) g h))

-- a byte
pub plain_byte : (s : State) (o : Bool) (b : ℕ) (x : List ℕ) → scan s.quotes s.comments o x ≡ Found (Byte b) 1 → IsPlainRun s o 1 x
plain_byte s o b x h = plain_one s o 1 x (inr (b, h, ap (take 1) (byte_first s.quotes s.comments o x b 1 h)))

-- each token that is text has a byte
found_some : (q c : Delimiters) (m : Bool) (x : List ℕ) (v : Scan) → scan q c m x ≡ v → HasBytes v
found_some q c m x v e = subst HasBytes e (scan_bytes q c m x)

pub text_some : (s : State) (m : Bool) (n : ℕ) (t x : List ℕ) → IsText s m n t x → 0 < n
unfolding HasBytes
text_some s m n t x (inl e) = found_some s.quotes s.comments m x (Found (Str t) n) e
text_some s m n t x (inr (inl e)) = found_some s.quotes s.comments m x (Found (Name t) n) e.0
text_some s m n t x (inr (inr e)) = found_some s.quotes s.comments m x (Found (Comment t) n) e

-- and so has each token that is put
pub put_some : (s : State) (m : Bool) (n : ℕ) (t x : List ℕ) → IsPut s m n t x → 0 < n
unfolding HasBytes
put_some s m n t x (inl e) = text_some s m n t x e
put_some s m n t x (inr e) = found_some s.quotes s.comments m x (Found (Byte e.0) n) e.1

-- a byte is all of its token
pub byte_part : (s : State) (o : Bool) (b : ℕ) (x : List ℕ) → scan s.quotes s.comments o x ≡ Found (Byte b) 1 → take (1 - 0) (drop 0 x) ≡ b ∷ []
byte_part s o b x h = ap (take 1) (byte_first s.quotes s.comments o x b 1 h)
