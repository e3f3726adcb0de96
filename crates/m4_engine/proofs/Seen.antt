-- Seen: what was seen of the first token of a text, as a turn takes it.
use Rattle.std.proofs.Common.{◌≡◌, Some, None, ℕ, Bool, true, false, List, [], ◌∷◌, ◌++◌, append-nil, append_assoc, refl}
use Rattle.std.proofs.Common.{sym, ap, ◌∙◌, drop, Option, ◌<◌, arith, subst, cond, take, ◌+◌}
use Rattle.m4_state.specs.declared.definition.Def.{Def}
use Rattle.m4_input.specs.declared.front.Answer.TheVariants.{Yes}
use Rattle.std.specs.Prelude.{nat_lt, not, ◌&&◌, ◌==◌, length, Result, Ok, Err, IfOk}
use Rattle.std.proofs.lemmas.Bool.{eqb-true}
use Rattle.std.proofs.lemmas.List.Sums.{sum_by-cons}
use Rattle.m4_state.specs.State.{State}
use Rattle.m4_input.specs.Ascii.{newline, open_parenthesis}
use Rattle.m4_input.specs.Pending.{Pending, text_of, consumed, newlines_in}
use Rattle.m4_input.specs.Paren.{paren_in, paren_at}
use Rattle.m4_input.proofs.Cases.{answer_by, paren_from}
use Rattle.m4_input.specs.declared.front.Answer.{Answer}
use Rattle.m4_input.specs.Input.{answer_of, longer}
use Rattle.m4_input.proofs.Parts.{drop_parts}
use Rattle.m4_builtins.specs.declared.place.Place.{Place}
use Rattle.m4_builtins.specs.Act.{needs_list}
use Rattle.m4_engine.specs.declared.turned.Turned.{Turned}
use Rattle.m4_builtins.specs.declared.fault.BuiltinFault.{BuiltinFault as TurnFault}
use Rattle.m4_engine.specs.Expansion.{Call, place_at, issued, reading, put_text}
use Rattle.m4_engine.specs.Expand.{call, call_of, take_call, take_name}
use Rattle.m4_engine.specs.Lookahead.{Recognises, IsExpansion, IsCalled, IsNamed}
use Rattle.m4_engine.specs.Engine.{Engine, outer_of, here_of, allows_call, configuration, put_in, with_text}
use Rattle.m4_engine.specs.Engine.{with_one_call, with_made, is_deep_in}
use Rattle.m4_engine.specs.Turns.{step, Extended, Moves}
use Rattle.m4_state.specs.State.{top_of}
use Rattle.m4_builtins.specs.Subst.{subst as substituted}
use Rattle.m4_state.specs.declared.builtin.Builtin.TheVariants.{Dnl}
use Rattle.m4_state.specs.declared.definition.Def.TheVariants.{Text, Builtin}
use Rattle.m4_builtins.specs.Acted.{Acted, nothing}
use Rattle.m4_engine.specs.declared.turned.Turned.TheVariants as turns
use Rattle.m4_engine.specs.Nesting.{GoOn}
use Rattle.m4_engine.specs.OpenCalls.{Goes}
use Rattle.m4_state.specs.declared.delimiters.Delimiters.{Delimiters}
use Rattle.m4_engine.proofs.Acts.{moves_by, called_skips}
use Rattle.m4_engine.proofs.Bare.{bare_goes}
use Rattle.m4_engine.proofs.Longer.{paren_longer}
use Rattle.m4_engine.proofs.Named.{named}
use Rattle.m4_engine.proofs.Cases.{call_without_list}

-- the limits allow a call
pub room_allows : (e : Engine) → allows_call e ≡ true → (nat_lt e.calls (e.limits).calls ≡ true) × (is_deep_in e ≡ false)
room_allows e h = by_parts (nat_lt e.calls (e.limits).calls) (is_deep_in e) h
  where
    by_parts : (r d : Bool) → r && not d ≡ true → (r ≡ true) × (d ≡ false)
    by_parts false d e = cc
    by_parts true true e = cc
    by_parts true false e = (refl, refl)

-- they allow none, though the count of calls does
pub room_refused : (e : Engine) → allows_call e ≡ false → nat_lt e.calls (e.limits).calls ≡ true → is_deep_in e ≡ true
room_refused e h f = by_parts (nat_lt e.calls (e.limits).calls) (is_deep_in e) h f
  where
    by_parts : (r d : Bool) → r && not d ≡ false → r ≡ true → d ≡ true
    by_parts r true h f = refl
    by_parts true false h f = cc
    by_parts false false h f = cc

-- a name that is recognised is called, at any place
abbrev pub recognised_call : (listed : Bool) (s : State) (name : List ℕ) (at : Place) → Recognises listed s name
    → (c : Call) × (top_of s name ≡ Some c.definition) × (c ≡ call_of c.definition name at)
    × (listed ≡ false → needs_list c.definition ≡ false)
recognised_call listed s name at h = (call_of h.0 name at, h.1, refl, h.2)

-- whether a list follows so many bytes, once these were consumed
pub list_there : (q c : Delimiters) (p r : Pending) (n : ℕ) (v : Answer) → r ≡ consumed n p
    → paren_in q c p.may_follow (drop n (text_of p)) ≡ v → paren_at q c r ≡ v
list_there q c p r n v g k =
    ap (paren_at q c) g
    ∙ ap (paren_in q c p.may_follow) (sym (drop_parts n p.pushed p.unread))
    ∙ k

-- whether one follows a name, once that was consumed
pub name_there : (n : ℕ) (listed : Bool) (s : State) (p : Pending) → IsNamed n listed s p.may_follow (text_of p)
    → paren_at s.quotes s.comments (consumed n p) ≡ answer_of listed
name_there n listed s p h = list_there s.quotes s.comments p (consumed n p) n (answer_of listed) refl h.list

-- a list follows, so a byte does
pub list_text : (q c : Delimiters) (p : Pending) → paren_at q c p ≡ answer_of true → 0 < length (text_of p)
list_text q c p e = by p.definition e
  where
    some : (v : Bool) (x : List ℕ) → paren_in q c v x ≡ Yes → 0 < length x
    some true [] e = cc
    some false [] e = cc
    some v (b ∷ x) e = omega arith

    by : (o : Option Def) → paren_from o q c p ≡ Yes → 0 < length (text_of p)
    by (Some d) e = cc
    by None e = some p.may_follow (text_of p) e

abbrev one_if : Bool → ℕ
one_if v = cond v 1 0

one_more : (b : ℕ) (x : List ℕ) → newlines_in (b ∷ x) ≡ one_if (b == newline) + newlines_in x
one_more b x = sum_by-cons (λ (a : ℕ). one_if (a == newline)) b x

-- a byte that is no newline
pub byte_has_none : (b : ℕ) (x : List ℕ) → x ≡ b ∷ drop 1 x → (b == newline) ≡ false → newlines_in (take 1 x) ≡ 0
byte_has_none b x e h =
    subst (λ (y : List ℕ). newlines_in (take 1 y) ≡ 0) (sym e)
    (one_more b [] ∙ ap (λ (v : Bool). one_if v + newlines_in []) h)

-- a list follows, so a parenthesis does
pub list_first : (q c : Delimiters) (p : Pending) → paren_at q c p ≡ answer_of true → text_of p ≡ open_parenthesis ∷ drop 1 (text_of p)
list_first q c p e = by p.definition e
  where
    first : (b : ℕ) (y : List ℕ) (v s t : Bool) → (b == open_parenthesis) ≡ v → answer_by v s t ≡ Yes → b ∷ y ≡ open_parenthesis ∷ drop 1 (b ∷ y)
    first b y true s t h e = ap (λ (a : ℕ). a ∷ y) (eqb-true b open_parenthesis h)
    first b y false s t h e = cc

    some : (v : Bool) (x : List ℕ) → paren_in q c v x ≡ Yes → x ≡ open_parenthesis ∷ drop 1 x
    some true [] e = cc
    some false [] e = cc
    some v (b ∷ y) e = first b y _ _ _ refl e

    by : (o : Option Def) → paren_from o q c p ≡ Yes → text_of p ≡ open_parenthesis ∷ drop 1 (text_of p)
    by (Some d) e = cc
    by None e = some p.may_follow (text_of p) e

-- a name that was consumed, as a turn takes it; q is pending after it
module _ (may : Bool) (e e1 : Engine) (p q p' : Pending) (r : Result Turned TurnFault) (name : List ℕ) where
  abbrev pub NameMoves : Type 0
  NameMoves = IfOk r (λ u. Moves may e1 p' u
      (λ z more o l. step (outer_of e.open_calls)
      (take_name (top_of e.state name) name (longer z more q) (here_of o l e (longer z more p)))))

-- a text that is called with no list
pub expansion_moves : (e e1 : Engine) (d : Call) (name : List ℕ) (p q p' : Pending) (r : Result Turned TurnFault)
    → q.definition ≡ None → paren_at (e.state).quotes (e.state).comments q ≡ answer_of false
    → (v : IsExpansion d e.state name)
    → IfOk r (λ u. (c : Call) (t : List ℕ) → c.definition ≡ Text t → v.0 ≡ substituted t c.name c.done (e.state).quotes
    → (before : Extended)
    → Moves q.may_follow e1 p' u
    (λ z more o l. step (outer_of e.open_calls) (call false c (longer z more q) (here_of o l e (before z more)))))
    → NameMoves q.may_follow e e1 p q p' r name
expansion_moves e e1 f name p q p' (Ok u) d i v k =
    let at : Place = place_at p in
    let c : Call = call_of (Text v.0) name at in
    moves_by q.may_follow e1 p' u _ _ (λ z more t o l. named e (Text v.0) name false (longer z more q) (longer z more p)
    at o l (sym v.1) (paren_longer (e.state).quotes (e.state).comments q false z more d i t) (λ y. refl) refl)
    (k c v.0 refl v.2 (λ z more. longer z more p))
expansion_moves e e1 f name p q p' (Err y) d i v k = tt

-- a builtin that skips the line, called with no list
pub line_skips : (e e1 : Engine) (name : List ℕ) (p q : Pending) → q.definition ≡ None
    → paren_at (e.state).quotes (e.state).comments q ≡ answer_of false
    → nat_lt e.calls (e.limits).calls ≡ true → is_deep_in e ≡ false → e1 ≡ with_made [] [] None (with_one_call e)
    → top_of e.state name ≡ Some (Builtin Dnl) → NameMoves q.may_follow e e1 p q q (Ok turns.SkipsLine) name
line_skips e e1 name p q d i room shallow g v =
    let at : Place = place_at p in
    let c : Call = call_of (Builtin Dnl) name at in
    let a : Acted = record { state = e.state; effect = record nothing { skip = true } } in
    moves_by q.may_follow e1 q turns.SkipsLine _ _
    (λ z more t o l. named e (Builtin Dnl) name false (longer z more q) (longer z more p) at o l (sym v)
    (paren_longer (e.state).quotes (e.state).comments q false z more d i t) (λ y. refl) refl)
    (bare_goes q.may_follow e (with_one_call e) e1 c (λ z more. longer z more q) q (Ok turns.SkipsLine) room shallow refl
    (λ z more t o l. called_skips (with_one_call e) e1 c a (longer z more q) refl refl refl g o l) (λ z more. longer z more p))

-- a call that is made
pub made_moves : (e e1 : Engine) (c : Call) (listed : Bool) (name : List ℕ) (p q p' : Pending)
    (r : Result Turned TurnFault) → q.definition ≡ None
    → paren_at (e.state).quotes (e.state).comments q ≡ answer_of listed
    → (listed ≡ false → needs_list c.definition ≡ false) → top_of e.state name ≡ Some c.definition
    → c ≡ call_of c.definition name (place_at p)
    → IfOk r (λ u. (before : Extended)
    → Moves q.may_follow e1 p' u
    (λ z more o l. step (outer_of e.open_calls)
    (call listed c (longer z more q) (here_of o l e (before z more)))))
    → NameMoves q.may_follow e e1 p q p' r name
made_moves e e1 c listed name p q p' (Ok u) d i j v same k =
    let f = c.definition in
    moves_by q.may_follow e1 p' u _ _ (λ z more t o l. named e f name listed (longer z more q) (longer z more p)
    (place_at p) o l (sym v) (paren_longer (e.state).quotes (e.state).comments q listed z more d i t) j refl
    ∙ ap (λ (c : Call). step (outer_of e.open_calls)
    (call listed c (longer z more q) (here_of o l e (longer z more p)))) (sym same)) (k (λ z more. longer z more p))
made_moves e e1 c listed name p q p' (Err y) d i j v same k = tt

-- text goes where it goes
text_goes : (cs : List Call) (x : List ℕ) (e : Engine) (p before : Pending) (o m : List ℕ) → e.open_calls ≡ cs
    → step (outer_of cs) (GoOn (put_text x (reading p (here_of o m (record e { open_calls = cs }) before))))
    ≡ Goes (configuration o m (put_in cs x (record e { open_calls = cs })) p)
text_goes [] x e p before o m h = rw (append_assoc o e.output (issued (e.state).current x)) refl
text_goes (c ∷ cs) x e p before o m h = rw (append-nil (o ++ e.output)) refl

-- a name that needs a list and has none is text
pub bare_moves : (e e1 : Engine) (h : Call) (name : List ℕ) (p q : Pending) → q.definition ≡ None
    → paren_at (e.state).quotes (e.state).comments q ≡ answer_of false
    → needs_list h.definition ≡ true → e1 ≡ with_text h.name e → IsCalled h e.state name
    → NameMoves q.may_follow e e1 p q q (Ok turns.GoesOn) name
bare_moves e e1 h name p q d i n g v = λ z more t o l.
    let s = here_of o l e (longer z more p) in
    let f = h.definition in
    let c : Call = call_of f name (place_at (longer z more p)) in
    ap (λ t. step (outer_of e.open_calls) (take_name t name (longer z more q) s)) v.0
    ∙ ap (λ t. step (outer_of e.open_calls) (take_call t c (longer z more q) s)) (paren_longer (e.state).quotes (e.state).comments q false z more d i t)
    ∙ ap (λ t. step (outer_of e.open_calls) (call_without_list t c (longer z more q) s)) n
    ∙ text_goes e.open_calls name e (longer z more q) (longer z more p) o l refl
    ∙ ap (λ (x : List ℕ). Goes (configuration o l (with_text x e) (longer z more q))) (sym v.1)
    ∙ ap (λ (x : Engine). Goes (configuration o l x (longer z more q))) (sym g)
