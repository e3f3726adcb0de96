-- SavesCount: an expansion that saves text for the end makes a call.
use Rattle.std.proofs.Common.{◌≡◌, ◌⊎◌, inl, inr, ⊎_elim, le_refl, Option, ℕ, zero, suc, ◌-◌, ◌<◌, ◌≤◌, Bool, true}
use Rattle.std.proofs.Common.{false, List, Some, None, refl, ap, ◌∙◌, subst, arith}
use Rattle.std.specs.Prelude.{nat_lt}
use Rattle.std.proofs.lemmas.Bool.Decides.{nat_tests}
use Rattle.m4_state.specs.declared.definition.Def.{Def}
use Rattle.m4_input.specs.declared.token.Token.{Token}
use Rattle.m4_input.specs.declared.token.Token.TheVariants.{Name, Str, Comment, Byte, Definition, End}
use Rattle.m4_input.specs.declared.front.Answer.{Answer}
use Rattle.m4_input.specs.declared.front.Answer.TheVariants.{Yes, No, Unknown}
use Rattle.m4_input.specs.Pending.{Pending, text_of, line_length}
use Rattle.m4_input.specs.Token.{Front, Taken, Refused, More, token_at}
use Rattle.m4_state.specs.State.{top_of}
use Rattle.m4_input.specs.declared.pushed.Pushed.{Pushed}
use Rattle.m4_builtins.specs.Act.{needs_list}
use Rattle.m4_engine.specs.Nesting.{Turn, Halt, Close, GoOn, Bare, Opens, Outcome, Halted, Closed}
use Rattle.m4_engine.specs.Expansion.{RunSoFar, Limits, Call, Mode, Outside, Collecting, Expansion, Kept, Ended}
use Rattle.m4_engine.specs.Expansion.{place_at, with_call, reading}
use Rattle.m4_engine.specs.declared.role.Role.{Role}
use Rattle.m4_engine.specs.declared.role.Role.TheVariants.{Opening, Closing, Separator, Blank, Other}
use Rattle.m4_engine.specs.Args.{role_of, take_closing, take_byte}
use Rattle.m4_engine.specs.Expand.{skip_all, skip_line, effected, kept_of, after_call, called}
use Rattle.m4_engine.specs.Expand.{join, call_of, bare, collect, is_deep, call}
use Rattle.m4_engine.specs.Expand.{take_call, take_name, take_other, take_end, take_token}
use Rattle.m4_engine.specs.Expand.{take_front, turn, size_of, calls_left, out_of_bound_at, expand}
use Rattle.m4_engine.specs.Expand.{expansion_of, ended_of, expand_input}
use Rattle.m4_engine.proofs.ByRules.{Rules, holds}
use Rattle.m4_engine.proofs.CallsFall.{falls}
use Rattle.m4_engine.proofs.Cases.{skip_or_push, join_by, call_unless_deep, call_if_room, call_without_list}

-- the calls left don't rise; and the saved texts stay, or the calls left fall
abbrev pub Saves : ℕ → RunSoFar → RunSoFar → Type 0
Saves n a b = (n - b.calls ≤ n - a.calls) × ((b.saved ≡ a.saved) ⊎ (n - b.calls < n - a.calls))

abbrev limit_of : Expansion → ℕ
limit_of s = (s.limits).calls

saves_more : (n : ℕ) (a b : RunSoFar) → n - b.calls < n - a.calls → Saves n a b
saves_more n a b h = (let g : n - b.calls ≤ n - a.calls = omega arith in g, inr h)

saves_then : (n : ℕ) (a b c : RunSoFar) → Saves n a b → Saves n b c → Saves n a c
saves_then n a b c f g =
    let x : n - b.calls ≤ n - a.calls = f.0 in
    let y : n - c.calls ≤ n - b.calls = g.0 in (
      let z : n - c.calls ≤ n - a.calls = omega arith in z,
      ⊎_elim
          (λ e. ⊎_elim
          (λ h. inl (e ∙ h))
          (λ (h : n - b.calls < n - a.calls). inr (let z : n - c.calls < n - a.calls = omega arith in z)) f.1)
          (λ (e : n - c.calls < n - b.calls). inr (let z : n - c.calls < n - a.calls = omega arith in z)) g.1,
    )

-- what a call leaves of the limits and the count
OutSaves : Expansion → Outcome Expansion Ended → Type 0
OutSaves s (Halted d) = (d.so_far).calls ≡ (s.so_far).calls
OutSaves s (Closed u) = (u.limits ≡ s.limits) × ((u.so_far).calls ≡ (s.so_far).calls)

skip_all_saves : (b : Bool) (s : Expansion) → OutSaves s (skip_all b s)
unfolding OutSaves
skip_all_saves true s = refl
skip_all_saves false s = (refl, refl)

skip_line_saves : (n : Option ℕ) (s : Expansion) → OutSaves s (skip_line n s)
unfolding OutSaves
skip_line_saves None s = skip_all_saves (s.pending).may_follow s
skip_line_saves (Some n) s = (refl, refl)

skip_or_push_saves : (skip : Bool) (v : Option Pushed) (s : Expansion) → OutSaves s (skip_or_push skip v s)
unfolding OutSaves
skip_or_push_saves true v s = skip_line_saves (line_length (text_of s.pending)) s
skip_or_push_saves false v s = (refl, refl)

effected_saves : (n : Option ℕ) (skip : Bool) (v : Option Pushed) (s : Expansion) → OutSaves s (effected n skip v s)
unfolding OutSaves
effected_saves (Some n) skip v s = refl
effected_saves None skip v s = skip_or_push_saves skip v s

called_saves : (c : Call) (t : Expansion) (k : Kept) → OutSaves (after_call c t k) (called c t k)
called_saves c t k = effected_saves _ _ _ (after_call c t k)

-- what a turn leaves
TurnSaves : Expansion → Turn Expansion Kept Ended → Type 0
TurnSaves s (Halt d) = Saves (limit_of s) s.so_far d.so_far
TurnSaves s (Close t) = (t.limits ≡ s.limits) × ((t.so_far).saved ≡ (s.so_far).saved)
TurnSaves s (GoOn t) = (t.limits ≡ s.limits) × ((t.so_far).saved ≡ (s.so_far).saved)
TurnSaves s (Bare t) = t.limits ≡ s.limits
TurnSaves s (Opens f t) = t.limits ≡ s.limits

bare_saves : (s t : Expansion) (o : Outcome Expansion Ended) → t.limits ≡ s.limits
    → (t.so_far).calls ≡ suc (s.so_far).calls → (s.so_far).calls < limit_of s → OutSaves t o → TurnSaves s (bare o)
unfolding OutSaves TurnSaves
bare_saves s t (Halted d) e f h g = saves_more (limit_of s) s.so_far d.so_far (omega arith)
bare_saves s t (Closed u) e f h g = g.0 ∙ e

collect_saves : (listed : Bool) (c : Call) (p : Pending) (s : Expansion) → (s.so_far).calls < limit_of s → TurnSaves s (collect listed c p (with_call s))
unfolding TurnSaves
collect_saves true c p s h = refl
collect_saves false c p s h = bare_saves s (after_call c (reading p (with_call s)) (kept_of s))
    (called c (reading p (with_call s)) (kept_of s)) refl refl h (called_saves c (reading p (with_call s)) (kept_of s))

deep_saves : (deep listed : Bool) (c : Call) (p : Pending) (s : Expansion) → (s.so_far).calls < limit_of s
    → TurnSaves s (call_unless_deep deep listed c p (with_call s))
unfolding TurnSaves
deep_saves true listed c p s h = (let g : limit_of s - suc (s.so_far).calls ≤ limit_of s - (s.so_far).calls = omega arith in g, inl refl)
deep_saves false listed c p s h = collect_saves listed c p s h

room_saves : (room listed : Bool) (c : Call) (p : Pending) (s : Expansion)
    → (room ≡ true → (s.so_far).calls < limit_of s) → TurnSaves s (call_if_room room listed c p s)
unfolding TurnSaves
room_saves true listed c p s h = deep_saves (is_deep s) listed c p s (h refl)
room_saves false listed c p s h = (le_refl _, inl refl)

lt_from_test : (a b : ℕ) → nat_lt a b ≡ true → a < b
lt_from_test a b e = grind (arith, nat_tests)

call_saves : (listed : Bool) (c : Call) (p : Pending) (s : Expansion) → TurnSaves s (call listed c p s)
call_saves listed c p s = room_saves (nat_lt (s.so_far).calls (s.limits).calls) listed c p s (lt_from_test _ _)

without_list_saves : (b : Bool) (c : Call) (p : Pending) (s : Expansion) → TurnSaves s (call_without_list b c p s)
unfolding TurnSaves
without_list_saves true c p s = (refl, refl)
without_list_saves false c p s = call_saves false c p s

take_call_saves : (a : Answer) (c : Call) (p : Pending) (s : Expansion) → TurnSaves s (take_call a c p s)
unfolding TurnSaves
take_call_saves Unknown c p s = (le_refl _, inl refl)
take_call_saves Yes c p s = call_saves true c p s
take_call_saves No c p s = without_list_saves (needs_list c.definition) c p s

take_name_saves : (o : Option Def) (x : List ℕ) (p : Pending) (s : Expansion) → TurnSaves s (take_name o x p s)
unfolding TurnSaves
take_name_saves None x p s = (refl, refl)
take_name_saves (Some d) x p s = take_call_saves _ (call_of d x (place_at s.pending)) p s

closing_saves : (n b : ℕ) (c : Call) (s : Expansion) → TurnSaves s (take_closing n b c s)
unfolding TurnSaves
closing_saves zero b c s = (refl, refl)
closing_saves (suc n) b c s = (refl, refl)

byte_saves : (r : Role) (b : ℕ) (c : Call) (s : Expansion) → TurnSaves s (take_byte r b c s)
unfolding TurnSaves
byte_saves Opening b c s = (refl, refl)
byte_saves Closing b c s = closing_saves c.parentheses b c s
byte_saves Separator b c s = (refl, refl)
byte_saves Blank b c s = (refl, refl)
byte_saves Other b c s = (refl, refl)

other_saves : (m : Mode) (b : ℕ) (p : Pending) (s : Expansion) → TurnSaves s (take_other m b (reading p s))
unfolding TurnSaves
other_saves Outside b p s = (refl, refl)
other_saves (Collecting c) b p s = byte_saves (role_of b c) b c (reading p s)

end_saves : (m : Mode) (s : Expansion) → TurnSaves s (take_end m s)
unfolding TurnSaves
end_saves Outside s = (le_refl _, inl refl)
end_saves (Collecting c) s = (le_refl _, inl refl)

token_saves : (t : Token) (p : Pending) (s : Expansion) → TurnSaves s (take_token t p s)
unfolding TurnSaves
token_saves (Name x) p s = take_name_saves (top_of (s.so_far).state x) x p s
token_saves (Str x) p s = (refl, refl)
token_saves (Comment x) p s = (refl, refl)
token_saves (Byte b) p s = other_saves s.mode b p s
token_saves (Definition d) p s = (refl, refl)
token_saves End p s = end_saves s.mode s

front_saves : (v : Front) (s : Expansion) → TurnSaves s (take_front v s)
unfolding TurnSaves
front_saves (Taken t p) s = token_saves t p s
front_saves (Refused f n) s = (le_refl _, inl refl)
front_saves More s = (le_refl _, inl refl)

turn_saves : (s : Expansion) (v : Turn Expansion Kept Ended) → turn s ≡ v → TurnSaves s v
turn_saves s v e = subst (TurnSaves s) e (front_saves (token_at ((s.so_far).state).quotes ((s.so_far).state).comments s.pending) s)

-- what a list's end leaves of the limits and the count
join_saves : (m : Mode) (k : Kept) (t : Expansion) (v : Outcome Expansion Ended) → join_by m k t ≡ v → OutSaves t v
unfolding OutSaves
join_saves Outside k t v e = subst (OutSaves t) e (same t)
  where
    same : (t : Expansion) → OutSaves t (Closed t)
    same t = (refl, refl)
join_saves (Collecting c) k t v e = subst (OutSaves t) e (weaken (called c t k) (called_saves c t k))
  where
    weaken : (o : Outcome Expansion Ended) → OutSaves (after_call c t k) o → OutSaves t o
    weaken (Halted d) h = h
    weaken (Closed u) h = h

-- the whole expansion
Post : Expansion → Outcome Expansion Ended → Type 0
Post s (Halted d) = Saves (limit_of s) s.so_far d.so_far
Post s (Closed u) = (u.limits ≡ s.limits) × Saves (limit_of s) s.so_far u.so_far

-- the calls left at a step
steps : (s t : Expansion) → t.limits ≡ s.limits → calls_left t ≡ limit_of s - (t.so_far).calls
steps s t e = ap (λ (l : Limits). l.calls - (t.so_far).calls) e

-- a step after which there is an outcome
after_step : (s t : Expansion) (o : Outcome Expansion Ended) → t.limits ≡ s.limits → Saves (limit_of s) s.so_far t.so_far → Post t o → Post s o
unfolding Post
after_step s t (Halted d) e f g =
    let P : Limits → Type 0 = λ l. Saves l.calls t.so_far d.so_far in
    saves_then (limit_of s) s.so_far t.so_far d.so_far f (subst P e g)
after_step s t (Closed u) e f g =
    let P : Limits → Type 0 = λ l. Saves l.calls t.so_far u.so_far in
    (g.0 ∙ e, saves_then (limit_of s) s.so_far t.so_far u.so_far f (subst P e g.1))

go_on_step : (s t : Expansion) → turn s ≡ GoOn t → TurnSaves s (GoOn t) → Saves (limit_of s) s.so_far t.so_far
unfolding TurnSaves
go_on_step s t e h =
    let l : calls_left t ≤ calls_left s = falls.go_on s t e in
    let m : calls_left t ≡ limit_of s - (t.so_far).calls = steps s t h.0 in
    (let g : limit_of s - (t.so_far).calls ≤ limit_of s - (s.so_far).calls = omega arith in g, inl h.1)

close_step : (s t : Expansion) → turn s ≡ Close t → TurnSaves s (Close t) → Saves (limit_of s) s.so_far t.so_far
unfolding TurnSaves
close_step s t e h =
    let l : calls_left t ≤ calls_left s = falls.close s t e in
    let m : calls_left t ≡ limit_of s - (t.so_far).calls = steps s t h.0 in
    (let g : limit_of s - (t.so_far).calls ≤ limit_of s - (s.so_far).calls = omega arith in g, inl h.1)

call_step : (s t : Expansion) → t.limits ≡ s.limits → calls_left t < calls_left s → limit_of s - (t.so_far).calls < limit_of s - (s.so_far).calls
call_step s t e l = let m : calls_left t ≡ limit_of s - (t.so_far).calls = steps s t e in omega arith

-- after a list the count has risen
list_step : (s t u : Expansion) → t.limits ≡ s.limits → limit_of s - (t.so_far).calls < limit_of s - (s.so_far).calls
    → Post t (Closed u) → (u.limits ≡ s.limits) × (limit_of s - (u.so_far).calls < limit_of s - (s.so_far).calls)
unfolding Post
list_step s t u e h p =
    let P : Limits → Type 0 = λ l. l.calls - (u.so_far).calls ≤ l.calls - (t.so_far).calls in
    let g : limit_of s - (u.so_far).calls ≤ limit_of s - (t.so_far).calls = subst P e p.1.0 in
    (p.0 ∙ e, let x : limit_of s - (u.so_far).calls < limit_of s - (s.so_far).calls = omega arith in x)

saves_count : (s : Expansion) (a : RunSoFar) (b : RunSoFar) → b.calls ≡ a.calls
    → limit_of s - a.calls < limit_of s - (s.so_far).calls → Saves (limit_of s) s.so_far b
saves_count s a b e h = saves_more (limit_of s) s.so_far b (let x : limit_of s - b.calls < limit_of s - (s.so_far).calls = omega arith in x)

rules : Rules Expansion Kept Ended turn join Post
unfolding Post TurnSaves OutSaves
rules = record {
  halt = λ s d e. turn_saves s (Halt d) e;
  close = λ s t e. let h = turn_saves s (Close t) e in (h.0, close_step s t e h);
  go_on = λ s t o e p. let h = turn_saves s (GoOn t) e in after_step s t o h.0 (go_on_step s t e h) p;
  bare = λ s t o e p. let h = turn_saves s (Bare t) e in after_step s t o h (saves_more (limit_of s) s.so_far t.so_far (call_step s t h (falls.bare s t e))) p;
  list_halts = λ s t f d e p. let h = turn_saves s (Opens f t) e in after_step s t (Halted d) h
      (saves_more (limit_of s) s.so_far t.so_far (call_step s t h (falls.opens s t f e))) p;
  call_halts = λ s t u f d e p j.
      let h = turn_saves s (Opens f t) e in
      let k = list_step s t u h (call_step s t h (falls.opens s t f e)) p in
      saves_count s u.so_far d.so_far (join_saves u.mode f u (Halted d) j) k.1;
  joins = λ s t u w f o e p j q.
      let h = turn_saves s (Opens f t) e in
      let k = list_step s t u h (call_step s t h (falls.opens s t f e)) p in
      let v = join_saves u.mode f u (Closed w) j in
      after_step s w o (v.0 ∙ k.0) (saves_count s u.so_far w.so_far v.1 k.1) q;
}

-- the expansion of an input
pub input_saves : (limits : Limits) (r : RunSoFar) (p : Pending) → Saves limits.calls r (expand_input limits r p).so_far
unfolding Post
input_saves limits r p = go (expand (expansion_of limits r p))
    (holds Expansion Kept Ended turn join out_of_bound_at size_of calls_left falls Post rules (expansion_of limits r p))
  where
    go : (o : Outcome Expansion Ended) → Post (expansion_of limits r p) o → Saves limits.calls r (ended_of o).so_far
    go (Halted d) h = h
    go (Closed s) h = h.1
