-- Taken: the bytes of a token that a pass consumes: none of them is a newline.
use Rattle.std.proofs.Common.{◌≡◌, ◌≤◌, ◌<◌, ◌+◌, ◌-◌, ℕ, suc, Bool, true, false, List, [], ◌∷◌, None, length, take, drop, refl, sym, ap, ◌∙◌}
use Rattle.std.proofs.Common.{subst, arith}
use Rattle.std.proofs.lemmas.List.{length-drop}
use Rattle.m4_state.specs.State.{State}
use Rattle.m4_input.specs.Ascii.{newline, open_parenthesis}
use Rattle.m4_input.specs.Input.{Held}
use Rattle.m4_input.specs.Pending.{Pending, text_of, counted, consumed, newlines_in}
use Rattle.m4_input.proofs.Names.{name_has_none}
use Rattle.m4_input.proofs.Parts.{newlines_further, take_parts, counted_none}
use Rattle.std.proofs.lemmas.List.Sums.{sum_by-append}
use Rattle.std.specs.Prelude.{cond, ◌==◌}
use Rattle.m4_input.proofs.Scanned.{byte_first}
use Rattle.m4_engine.specs.declared.lookahead.Lookahead.{Lookahead}
use Rattle.m4_engine.specs.declared.lookahead.Lookahead.TheVariants as aheads
use Rattle.m4_engine.specs.declared.role.ListEnd.{ListEnd}
use Rattle.m4_engine.specs.declared.role.ListEnd.TheVariants as ends
use Rattle.m4_engine.specs.Expansion.{Call, place_at}
use Rattle.m4_engine.specs.Lookahead.{len_with, IsNamed, IsNameTaken, IsEndIn, IsNext}
use Rattle.m4_engine.proofs.ListEnds.{end_has_none}
use Rattle.m4_engine.proofs.Seen.{list_text, list_first, byte_has_none}

-- the first n bytes are there, and have no newlines
abbrev pub IsInline : ℕ → List ℕ → Type 0
IsInline n x = (n ≤ length x) × (newlines_in (take n x) ≡ 0)

-- a name, and a parenthesis after it
pub named_inline : (listed : Bool) (n : ℕ) (s : State) (m : Bool) (x : List ℕ) → IsNamed n listed s m x → IsInline (len_with listed n) x
named_inline false n s m x h = (h.within, name_has_none s.quotes s.comments m x (take n x) n h.scanned)
named_inline true n s m x h =
    let y : List ℕ = drop n x in
    let p : Pending = record { definition = None; pushed = []; unread = y; may_follow = m; file = None; newlines = 0 } in
    let some : 0 < length y = list_text s.quotes s.comments p h.list in
    let long : length y ≡ length x - n = length-drop n x in
    let name : newlines_in (take n x) ≡ 0 = name_has_none s.quotes s.comments m x (take n x) n h.scanned in
    let last : newlines_in (take 1 y) ≡ 0 = byte_has_none open_parenthesis y (list_first s.quotes s.comments p h.list) refl in
    (omega (arith, some, long), newlines_further x n 1 ∙ omega (arith, name, last))

-- no bytes
pub none_inline : (n : ℕ) (x : List ℕ) → n ≡ 0 → IsInline n x
none_inline n x e = subst (λ (k : ℕ). IsInline k x) (sym e) (omega arith, refl)

-- a byte that ends an argument or a list
end_inline : (end : ListEnd) (n : ℕ) (cs : List Call) (s : State) (m : Bool) (x : List ℕ) → n ≡ 1 → IsEndIn end cs s m x → IsInline n x
end_inline end n [] s m x e h = absurd h
end_inline end n (d ∷ ds) s m x e h =
    let long : length x ≡ suc (length (drop 1 x)) = ap length (byte_first s.quotes s.comments m x h.byte 1 h.scanned) in
    subst (λ (k : ℕ). IsInline k x) (sym e) (omega (arith, long), end_has_none end (d ∷ ds) s m x h)

pub next_inline : (a : Lookahead) (n : ℕ) (cs : List Call) (c : Call) (s : State) (m : Bool) (x : List ℕ) → IsNext a n cs c s m x → IsInline n x
next_inline aheads.Definition n cs c s m x h = absurd h
next_inline aheads.EndsArgument n cs c s m x h = end_inline ends.Argument n cs s m x h.0 h.1
next_inline aheads.ClosesList n cs c s m x h = end_inline ends.List n cs s m x h.0 h.1
next_inline aheads.Expansion n cs c s m x h = named_inline false n s m x h.0
next_inline aheads.LineSkip n cs c s m x h = named_inline false n s m x h.0
next_inline aheads.Call n cs c s m x h = named_inline false n s m x h.0
next_inline aheads.List n cs c s m x h = subst (λ (k : ℕ). IsInline k x) (sym h.1) (named_inline true h.0 s m x h.2)
next_inline a n cs c s m x h = none_inline n x h.0

-- bytes without a newline stay on their line
pub place_after : (n : ℕ) (p : Pending) → newlines_in (take n (text_of p)) ≡ 0 → place_at (consumed n p) ≡ place_at p
place_after n p h =
    let a : ℕ = n - length p.pushed in
    let all : newlines_in (take n p.pushed) + newlines_in (take a p.unread) ≡ 0 =
    sym (ap newlines_in (take_parts n p.pushed p.unread) ∙ sum_by-append (λ b. cond (b == newline) 1 0) (take n p.pushed) (take a p.unread)) ∙ h in
    let none : newlines_in (take a p.unread) ≡ 0 = omega (arith, all) in
    ap (λ m. let q : Pending = record p { newlines = m } in place_at q) (ap (counted p.newlines) none ∙ counted_none p.newlines)

-- the place of a name that was consumed
pub place_of_name : (listed : Bool) (P : List ℕ → Type 0) (s : State) (i j : Held) → IsNameTaken listed P s i j → place_at j.pending ≡ place_at i.pending
place_of_name listed P s i j w =
    ap (λ (k : Held). place_at k.pending) w.after
    ∙ place_after (len_with listed w.len) i.pending (named_inline listed w.len s (i.pending).may_follow (text_of i.pending) w.named).1
