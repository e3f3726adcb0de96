-- CallsFall: a turn consumes text, or one of the calls that are left.
use Rattle.std.proofs.Common.{◌≡◌, ◌⊎◌, ⊎_elim, inl, inr, le_refl, Option, ℕ, zero, suc, ◌-◌, ◌<◌, ◌≤◌, Bool, true}
use Rattle.std.proofs.Common.{false, List, [], ◌∷◌, length, Some, None, refl, ap, subst, arith}
use Rattle.std.specs.Prelude.{nat_lt}
use Rattle.std.proofs.lemmas.Bool.Decides.{nat_tests}
use Rattle.m4_state.specs.declared.definition.Def.{Def}
use Rattle.m4_state.specs.declared.delimiters.Delimiters.{Delimiters}
use Rattle.m4_input.specs.declared.token.Token.{Token}
use Rattle.m4_input.specs.declared.token.Token.TheVariants.{Name, Str, Comment, Byte, Definition, End}
use Rattle.m4_input.specs.declared.front.Scan.{Scan}
use Rattle.m4_input.specs.declared.front.Scan.TheVariants.{Found, Broken, NeedsMore}
use Rattle.m4_input.specs.declared.front.Answer.{Answer}
use Rattle.m4_input.specs.declared.front.Answer.TheVariants.{Yes, No, Unknown}
use Rattle.m4_input.specs.Pending.{Pending, text_of, consumed, line_length}
use Rattle.m4_input.specs.Token.{scan, Front, Taken, Refused, More, front_by, front_from, token_at}
use Rattle.m4_state.specs.State.{top_of}
use Rattle.m4_input.specs.declared.pushed.Pushed.{Pushed}
use Rattle.m4_builtins.specs.Act.{needs_list}
use Rattle.m4_engine.specs.Nesting.{Turn, Halt, Close, GoOn, Bare, Opens, Outcome, Halted, Closed, after, Falls}
use Rattle.m4_engine.specs.Expansion.{Call, Mode, Outside, Collecting, Expansion, Kept, Ended, place_at, with_call}
use Rattle.m4_engine.specs.Expansion.{reading}
use Rattle.m4_engine.specs.declared.role.Role.{Role}
use Rattle.m4_engine.specs.declared.role.Role.TheVariants.{Opening, Closing, Separator, Blank, Other}
use Rattle.m4_engine.specs.Args.{role_of, take_closing, take_byte}
use Rattle.m4_engine.specs.Expand.{skip_all, skip_line, effected, kept_of, after_call, called}
use Rattle.m4_engine.specs.Expand.{join, call_of, bare, collect, is_deep, call}
use Rattle.m4_engine.specs.Expand.{take_call, take_name, take_other, take_end, take_token}
use Rattle.m4_engine.specs.Expand.{take_front, turn, definition_size, pending_size, out_of_bound_at, size_of}
use Rattle.m4_engine.specs.Expand.{calls_left, expand}
use Rattle.m4_engine.proofs.Bounds.{expansion_is}
use Rattle.m4_input.proofs.Consumed.{HasBytes, scan_bytes, text-consumed}
use Rattle.m4_engine.proofs.Cases.{skip_or_push, join_by, call_unless_deep, call_if_room, call_without_list}

-- what a turn from s keeps: the calls left don't rise, and a token has text
pub Good : Expansion → Turn Expansion Kept Ended → Type 0
Good s (Halt d) = Unit {0}
Good s (Close t) = calls_left t ≤ calls_left s
Good s (GoOn t) = (size_of t < size_of s) × (calls_left t ≤ calls_left s)
Good s (Bare t) = calls_left t < calls_left s
Good s (Opens f t) = calls_left t < calls_left s

-- an outcome with reading most n calls left
HasLeft : ℕ → Outcome Expansion Ended → Type 0
HasLeft n (Halted d) = Unit {0}
HasLeft n (Closed t) = calls_left t ≤ n

good_bare : (s : Expansion) (n : ℕ) → n < calls_left s → (o : Outcome Expansion Ended) → HasLeft n o → Good s (bare o)
unfolding Good HasLeft
good_bare s n h (Halted d) g = tt
good_bare s n h (Closed t) g = omega arith

skipped_all_left : (s : Expansion) (b : Bool) → HasLeft (calls_left s) (skip_all b s)
unfolding HasLeft
skipped_all_left s true = tt
skipped_all_left s false = le_refl _

skipped_left : (s : Expansion) (o : Option ℕ) → HasLeft (calls_left s) (skip_line o s)
unfolding HasLeft
skipped_left s None = skipped_all_left s (s.pending).may_follow
skipped_left s (Some n) = le_refl _

pushed_left : (skip : Bool) (v : Option Pushed) (s : Expansion) → HasLeft (calls_left s) (skip_or_push skip v s)
unfolding HasLeft
pushed_left true v s = skipped_left s (line_length (text_of s.pending))
pushed_left false v s = le_refl _

effected_left : (n : Option ℕ) (skip : Bool) (v : Option Pushed) (s : Expansion) → HasLeft (calls_left s) (effected n skip v s)
unfolding HasLeft
effected_left (Some n) skip v s = tt
effected_left None skip v s = pushed_left skip v s

called_left : (c : Call) (t : Expansion) (k : Kept) → HasLeft (calls_left t) (called c t k)
called_left c t k = effected_left _ _ _ (after_call c t k)

enter_list_good : (listed : Bool) (c : Call) (p : Pending) (s : Expansion) → (s.so_far).calls < (s.limits).calls → Good s (collect listed c p (with_call s))
unfolding Good
enter_list_good true c p s h = omega arith
enter_list_good false c p s h = good_bare s (calls_left (with_call s)) (omega arith)
    (called c (reading p (with_call s)) (kept_of s)) (called_left c (reading p (with_call s)) (kept_of s))

enter_good : (deep listed : Bool) (c : Call) (p : Pending) (s : Expansion) → (s.so_far).calls < (s.limits).calls
    → Good s (call_unless_deep deep listed c p (with_call s))
unfolding Good
enter_good true listed c p s h = tt
enter_good false listed c p s h = enter_list_good listed c p s h

call_if_good : (room listed : Bool) (c : Call) (p : Pending) (s : Expansion)
    → (room ≡ true → (s.so_far).calls < (s.limits).calls) → Good s (call_if_room room listed c p s)
unfolding Good
call_if_good true listed c p s h = enter_good (is_deep s) listed c p s (h refl)
call_if_good false listed c p s h = tt

lt_from_test : (a b : ℕ) → nat_lt a b ≡ true → a < b
lt_from_test a b e = grind (arith, nat_tests)

call_good : (listed : Bool) (c : Call) (p : Pending) (s : Expansion) → Good s (call listed c p s)
call_good listed c p s = call_if_good (nat_lt (s.so_far).calls (s.limits).calls) listed c p s (lt_from_test _ _)

unlisted_good : (b : Bool) (c : Call) (p : Pending) (s : Expansion) → pending_size p < size_of s → Good s (call_without_list b c p s)
unfolding Good
unlisted_good true c p s h = (h, le_refl _)
unlisted_good false c p s h = call_good false c p s

on_answer_good : (a : Answer) (c : Call) (p : Pending) (s : Expansion) → pending_size p < size_of s → Good s (take_call a c p s)
unfolding Good
on_answer_good Unknown c p s h = tt
on_answer_good Yes c p s h = call_good true c p s
on_answer_good No c p s h = unlisted_good (needs_list c.definition) c p s h

on_name_good : (o : Option Def) (x : List ℕ) (p : Pending) (s : Expansion) → pending_size p < size_of s → Good s (take_name o x p s)
unfolding Good
on_name_good None x p s h = (h, le_refl _)
on_name_good (Some d) x p s h = on_answer_good _ (call_of d x (place_at s.pending)) p s h

on_closing_good : (n b : ℕ) (c : Call) (p : Pending) (s : Expansion) → pending_size p < size_of s → Good s (take_closing n b c (reading p s))
unfolding Good
on_closing_good zero b c p s h = le_refl _
on_closing_good (suc n) b c p s h = (h, le_refl _)

take_byte_good : (r : Role) (b : ℕ) (c : Call) (p : Pending) (s : Expansion) → pending_size p < size_of s → Good s (take_byte r b c (reading p s))
unfolding Good
take_byte_good Opening b c p s h = (h, le_refl _)
take_byte_good Closing b c p s h = on_closing_good c.parentheses b c p s h
take_byte_good Separator b c p s h = (h, le_refl _)
take_byte_good Blank b c p s h = (h, le_refl _)
take_byte_good Other b c p s h = (h, le_refl _)

on_byte_good : (m : Mode) (b : ℕ) (p : Pending) (s : Expansion) → pending_size p < size_of s → Good s (take_other m b (reading p s))
unfolding Good
on_byte_good Outside b p s h = (h, le_refl _)
on_byte_good (Collecting c) b p s h = take_byte_good (role_of b c) b c p s h

on_end_good : (m : Mode) (s : Expansion) → Good s (take_end m s)
unfolding Good
on_end_good Outside s = tt
on_end_good (Collecting c) s = tt

on_token_good : (t : Token) (p : Pending) (s : Expansion) → ((t ≡ End) ⊎ (pending_size p < size_of s)) → Good s (take_token t p s)
unfolding Good
on_token_good End p s h = on_end_good s.mode s
on_token_good (Name x) p s (inl e) = cc
on_token_good (Name x) p s (inr h) = on_name_good (top_of (s.so_far).state x) x p s h
on_token_good (Str x) p s (inl e) = cc
on_token_good (Str x) p s (inr h) = (h, le_refl _)
on_token_good (Comment x) p s (inl e) = cc
on_token_good (Comment x) p s (inr h) = (h, le_refl _)
on_token_good (Byte b) p s (inl e) = cc
on_token_good (Byte b) p s (inr h) = on_byte_good s.mode b p s h
on_token_good (Definition d) p s (inl e) = cc
on_token_good (Definition d) p s (inr h) = (h, le_refl _)

-- what is left consumed a token is less
LeavesLess : Pending → Front → Type 0
LeavesLess p (Taken t r) = (t ≡ End) ⊎ (pending_size r < pending_size p)
LeavesLess p (Refused f n) = Unit {0}
LeavesLess p More = Unit {0}

found_less : (p : Pending) (t : Token) (n : ℕ) → p.definition ≡ None → 0 < length (text_of p) → 0 < n → pending_size (consumed n p) < pending_size p
found_less p t n e h g =
    let a : length (text_of (consumed n p)) ≡ length (text_of p) - n = text-consumed n p in
    let b : definition_size p.definition ≡ 0 = ap definition_size e in
    omega arith

seen_less : (p : Pending) → p.definition ≡ None → (v : Scan) → HasBytes v
    → ((t : Token) (n : ℕ) → v ≡ Found t n → (t ≡ End) ⊎ (0 < length (text_of p))) → LeavesLess p (front_by p v)
unfolding HasBytes LeavesLess
seen_less p e (Found End n) h g = inl refl
seen_less p e (Found (Name x) n) h g = ⊎_elim (λ i. inl i) (λ l. inr (found_less p (Name x) n e l h)) (g (Name x) n refl)
seen_less p e (Found (Str x) n) h g = ⊎_elim (λ i. inl i) (λ l. inr (found_less p (Str x) n e l h)) (g (Str x) n refl)
seen_less p e (Found (Comment x) n) h g = ⊎_elim (λ i. inl i) (λ l. inr (found_less p (Comment x) n e l h)) (g (Comment x) n refl)
seen_less p e (Found (Byte x) n) h g = ⊎_elim (λ i. inl i) (λ l. inr (found_less p (Byte x) n e l h)) (g (Byte x) n refl)
seen_less p e (Found (Definition x) n) h g = ⊎_elim (λ i. inl i) (λ l. inr (found_less p (Definition x) n e l h)) (g (Definition x) n refl)
seen_less p e (Broken f) h g = tt
seen_less p e NeedsMore h g = tt

-- a text without bytes gives the end
empty_ends : (q c : Delimiters) (may_follow : Bool) (x : List ℕ) (t : Token) (n : ℕ) → scan q c may_follow x ≡ Found t n → (t ≡ End) ⊎ (0 < length x)
empty_ends q c true [] t n e = cc
empty_ends q c false [] t n e = inl (cc)
empty_ends q c may_follow (b ∷ y) t n e = inr (omega arith)

from_less : (o : Option Def) (q c : Delimiters) (p : Pending) → p.definition ≡ o → LeavesLess p (front_from o q c p)
unfolding LeavesLess
from_less None q c p e = seen_less p e (scan q c p.may_follow (text_of p)) (scan_bytes q c p.may_follow (text_of p)) (empty_ends q c p.may_follow (text_of p))
from_less (Some d) q c p e = inr (let b : definition_size p.definition ≡ 1 = ap definition_size e in omega arith)

on_seen_good : (v : Front) (s : Expansion) → LeavesLess s.pending v → Good s (take_front v s)
unfolding Good LeavesLess
on_seen_good (Taken t p) s h = on_token_good t p s h
on_seen_good (Refused f n) s h = tt
on_seen_good More s h = tt

pub turn_good : (s : Expansion) → Good s (turn s)
turn_good s = on_seen_good (token_at ((s.so_far).state).quotes ((s.so_far).state).comments s.pending) s
    (from_less (s.pending).definition ((s.so_far).state).quotes ((s.so_far).state).comments s.pending refl)

join_left : (m : Mode) (s : Kept) (t u : Expansion) → join_by m s t ≡ Closed u → calls_left u ≤ calls_left t
unfolding HasLeft
join_left Outside s t u e = let f : t ≡ u = cc in subst (λ (x : Expansion). calls_left x ≤ calls_left t) f (le_refl _)
join_left (Collecting c) s t u e = let P : Outcome Expansion Ended → Type 0 = HasLeft (calls_left t) in subst P e (called_left c t s)

pub falls : Falls Expansion Kept Ended turn join size_of calls_left
unfolding Good
falls = record {
  shorter = λ s t e. (subst (Good s) e (turn_good s)).0;
  go_on = λ s t e. (subst (Good s) e (turn_good s)).1;
  close = λ s t e. subst (Good s) e (turn_good s);
  bare = λ s t e. subst (Good s) e (turn_good s);
  opens = λ s t f e. subst (Good s) e (turn_good s);
  joins = λ s t u e. join_left t.mode s t u e;
}

-- an expansion is what its turns say
pub expand_is : (s : Expansion) → expand s ≡ after Expansion Kept Ended join expand expand (turn s)
expand_is s = expansion_is Expansion Kept Ended turn join out_of_bound_at size_of calls_left falls s
