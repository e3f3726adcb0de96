-- OnlyGrows: what an expansion has written stays.
use Rattle.std.proofs.Common.{◌≡◌, Option, ℕ, ◌+◌, ◌≤◌, zero, suc, Bool, true, false, List, [], ◌∷◌, ◌++◌, length}
use Rattle.std.proofs.Common.{Some, None, refl, sym, ap, ◌∙◌, subst, append_assoc, append-nil, arith}
use Rattle.std.proofs.lemmas.List.{length-append}
use Rattle.std.specs.Prelude.{nat_lt}
use Rattle.m4_state.specs.declared.definition.Def.{Def}
use Rattle.m4_input.specs.declared.token.Token.{Token}
use Rattle.m4_input.specs.declared.token.Token.TheVariants.{Name, Str, Comment, Byte, Definition, End}
use Rattle.m4_input.specs.declared.front.Answer.{Answer}
use Rattle.m4_input.specs.declared.front.Answer.TheVariants.{Yes, No, Unknown}
use Rattle.m4_input.specs.Pending.{Pending, text_of, line_length}
use Rattle.m4_input.specs.Token.{Front, Taken, Refused, More, token_at}
use Rattle.m4_input.specs.Paren.{paren_at}
use Rattle.m4_state.specs.State.{top_of}
use Rattle.m4_input.specs.declared.pushed.Pushed.{Pushed}
use Rattle.m4_builtins.specs.Act.{needs_list}
use Rattle.m4_engine.specs.Nesting.{Turn, Halt, Close, GoOn, Bare, Opens, Outcome, Halted, Closed, then_on, after}
use Rattle.m4_engine.specs.OpenCalls.{pop, close, take_turn}
use Rattle.m4_engine.specs.Moments.{Moment, moved, made_by, so_far_in}
use Rattle.m4_engine.specs.Engine.{Engine, so_far_of, outer_of, here_of, configuration}
use Rattle.m4_engine.specs.Turns.{Moves, IsTurned}
use Rattle.m4_input.specs.Input.{Held, longer}
use Rattle.m4_engine.proofs.Longer.{nothing_follows}
use Rattle.m4_engine.specs.declared.turned.Turned.{Turned}
use Rattle.m4_engine.specs.declared.turned.Turned.TheVariants as turns
use Rattle.m4_engine.specs.Expansion.{RunSoFar, Limits, Call, Mode, Outside, Collecting, Expansion, Kept, Ended}
use Rattle.m4_engine.specs.Expansion.{place_at, with_call, reading}
use Rattle.m4_engine.specs.declared.role.Role.{Role}
use Rattle.m4_engine.specs.declared.role.Role.TheVariants.{Opening, Closing, Separator, Blank, Other}
use Rattle.m4_engine.specs.Args.{role_of, take_closing, take_byte}
use Rattle.m4_engine.specs.Expand.{skip_all, skip_line, effected, acted_at, kept_of, after_call, called}
use Rattle.m4_engine.specs.Expand.{join, call_of, bare, collect, is_deep}
use Rattle.m4_engine.specs.Expand.{call, take_call, take_name, take_other, take_end, take_token}
use Rattle.m4_engine.specs.Expand.{take_front, turn, size_of, calls_left, out_of_bound_at, expand}
use Rattle.m4_engine.specs.Expand.{expansion_of, ended_of, expand_input}
use Rattle.m4_engine.proofs.Growth.{Extends}
use Rattle.m4_engine.proofs.ByRules.{Rules, holds}
use Rattle.m4_engine.proofs.CallsFall.{falls}
use Rattle.m4_engine.proofs.Cases.{skip_or_push, join_by, call_unless_deep, call_if_room, call_without_list}

pub extends_same : (r : RunSoFar) → Extends r r
extends_same r = record { more = []; output = sym (append-nil r.output); reported = []; messages = sym (append-nil r.messages) }

pub extends_more : (a b c : RunSoFar) → Extends a b → Extends b c → Extends a c
extends_more a b c f g = record {
  more = f.more ++ g.more;
  output = g.output ∙ ap (λ x. x ++ g.more) f.output ∙ append_assoc a.output f.more g.more;
  reported = f.reported ++ g.reported;
  messages = g.messages ∙ ap (λ x. x ++ g.reported) f.messages ∙ append_assoc a.messages f.reported g.reported;
}

writes : (a b : RunSoFar) (x y : List ℕ) → b.output ≡ a.output ++ x → b.messages ≡ a.messages ++ y → Extends a b
writes a b x y e f = record { more = x; output = e; reported = y; messages = f }

pub says_more : (a b : RunSoFar) (y : List ℕ) → b.output ≡ a.output → b.messages ≡ a.messages ++ y → Extends a b
says_more a b y e f = writes a b [] y (e ∙ sym (append-nil a.output)) f

puts : (a b : RunSoFar) (x : List ℕ) → b.output ≡ a.output ++ x → b.messages ≡ a.messages → Extends a b
puts a b x e f = writes a b x [] e (f ∙ sym (append-nil a.messages))

quiet : (a b : RunSoFar) → b.output ≡ a.output → b.messages ≡ a.messages → Extends a b
quiet a b e f = says_more a b [] e (f ∙ sym (append-nil a.messages))

-- what a turn has made
abbrev pub made : Turn Expansion Kept Ended → RunSoFar
made (Halt d) = d.so_far
made (Close t) = t.so_far
made (GoOn t) = t.so_far
made (Bare t) = t.so_far
made (Opens f t) = t.so_far

skipped_all_keeps : (b : Bool) (s : Expansion) → Extends s.so_far (so_far_in (skip_all b s))
skipped_all_keeps true s = extends_same _
skipped_all_keeps false s = extends_same _

pub skipped_keeps : (o : Option ℕ) (s : Expansion) → Extends s.so_far (so_far_in (skip_line o s))
skipped_keeps None s = skipped_all_keeps (s.pending).may_follow s
skipped_keeps (Some n) s = extends_same _

pushed_keeps : (skip : Bool) (v : Option Pushed) (s : Expansion) → Extends s.so_far (so_far_in (skip_or_push skip v s))
pushed_keeps true v s = skipped_keeps (line_length (text_of s.pending)) s
pushed_keeps false v s = extends_same _

effected_keeps : (n : Option ℕ) (skip : Bool) (v : Option Pushed) (s : Expansion) → Extends s.so_far (so_far_in (effected n skip v s))
effected_keeps (Some n) skip v s = extends_same _
effected_keeps None skip v s = pushed_keeps skip v s

pub called_keeps : (c : Call) (t : Expansion) (s : Kept) → Extends t.so_far (so_far_in (called c t s))
called_keeps c t s = extends_more _ _ _
    (writes t.so_far (after_call c t s).so_far ((acted_at c t).effect).output ((acted_at c t).effect).messages refl
    refl) (effected_keeps _ _ _ (after_call c t s))

pub bare_made : (o : Outcome Expansion Ended) → made (bare o) ≡ so_far_in o
bare_made (Halted d) = refl
bare_made (Closed t) = refl

enter_list_keeps : (listed : Bool) (c : Call) (p : Pending) (s : Expansion) → Extends s.so_far (made (collect listed c p s))
enter_list_keeps true c p s = extends_same _
enter_list_keeps false c p s = subst (Extends s.so_far) (sym (bare_made (called c (reading p s) (kept_of s)))) (called_keeps c (reading p s) (kept_of s))

enter_keeps : (deep listed : Bool) (c : Call) (p : Pending) (s : Expansion) → Extends s.so_far (made (call_unless_deep deep listed c p s))
enter_keeps true listed c p s = says_more _ _ _ refl refl
enter_keeps false listed c p s = enter_list_keeps listed c p s

call_if_keeps : (room listed : Bool) (c : Call) (p : Pending) (s : Expansion) → Extends s.so_far (made (call_if_room room listed c p s))
call_if_keeps true listed c p s = extends_more s.so_far (with_call s).so_far _ (quiet _ _ refl refl) (enter_keeps (is_deep s) listed c p (with_call s))
call_if_keeps false listed c p s = says_more _ _ _ refl refl

call_keeps : (listed : Bool) (c : Call) (p : Pending) (s : Expansion) → Extends s.so_far (made (call listed c p s))
call_keeps listed c p s = call_if_keeps (nat_lt (s.so_far).calls (s.limits).calls) listed c p s

unlisted_keeps : (b : Bool) (c : Call) (p : Pending) (s : Expansion) → Extends s.so_far (made (call_without_list b c p s))
unlisted_keeps true c p s = puts _ _ _ refl refl
unlisted_keeps false c p s = call_keeps false c p s

pub on_answer_keeps : (a : Answer) (c : Call) (p : Pending) (s : Expansion) → Extends s.so_far (made (take_call a c p s))
on_answer_keeps Unknown c p s = extends_same _
on_answer_keeps Yes c p s = call_keeps true c p s
on_answer_keeps No c p s = unlisted_keeps (needs_list c.definition) c p s

on_name_keeps : (o : Option Def) (x : List ℕ) (p : Pending) (s : Expansion) → Extends s.so_far (made (take_name o x p s))
on_name_keeps None x p s = puts _ _ _ refl refl
on_name_keeps (Some d) x p s = on_answer_keeps (paren_at ((s.so_far).state).quotes ((s.so_far).state).comments p) (call_of d x (place_at s.pending)) p s

on_closing_keeps : (n b : ℕ) (c : Call) (s : Expansion) → Extends s.so_far (made (take_closing n b c s))
on_closing_keeps zero b c s = says_more _ _ _ refl refl
on_closing_keeps (suc n) b c s = extends_same _

take_byte_keeps : (r : Role) (b : ℕ) (c : Call) (s : Expansion) → Extends s.so_far (made (take_byte r b c s))
take_byte_keeps Opening b c s = extends_same _
take_byte_keeps Closing b c s = on_closing_keeps c.parentheses b c s
take_byte_keeps Separator b c s = says_more _ _ _ refl refl
take_byte_keeps Blank b c s = extends_same _
take_byte_keeps Other b c s = puts _ _ _ refl refl

on_byte_keeps : (m : Mode) (b : ℕ) (s : Expansion) → Extends s.so_far (made (take_other m b s))
on_byte_keeps Outside b s = puts _ _ _ refl refl
on_byte_keeps (Collecting c) b s = take_byte_keeps (role_of b c) b c s

on_end_keeps : (m : Mode) (s : Expansion) → Extends s.so_far (made (take_end m s))
on_end_keeps Outside s = extends_same _
on_end_keeps (Collecting c) s = says_more _ _ _ refl refl

on_token_keeps : (t : Token) (p : Pending) (s : Expansion) → Extends s.so_far (made (take_token t p s))
on_token_keeps (Name x) p s = on_name_keeps (top_of (s.so_far).state x) x p s
on_token_keeps (Str x) p s = puts _ _ _ refl refl
on_token_keeps (Comment x) p s = puts _ _ _ refl refl
on_token_keeps (Byte b) p s = on_byte_keeps s.mode b (reading p s)
on_token_keeps (Definition d) p s = extends_same _
on_token_keeps End p s = on_end_keeps s.mode s

pub on_seen_keeps : (v : Front) (s : Expansion) → Extends s.so_far (made (take_front v s))
on_seen_keeps (Taken t p) s = on_token_keeps t p s
on_seen_keeps (Refused f n) s = says_more _ _ _ refl refl
on_seen_keeps More s = extends_same _

pub turn_keeps : (s : Expansion) → Extends s.so_far (made (turn s))
turn_keeps s = on_seen_keeps (token_at ((s.so_far).state).quotes ((s.so_far).state).comments s.pending) s

pub join_keeps : (m : Mode) (s : Kept) (t : Expansion) → Extends t.so_far (so_far_in (join_by m s t))
join_keeps Outside s t = extends_same _
join_keeps (Collecting c) s t = called_keeps c t s

turned : (s : Expansion) (v : Turn Expansion Kept Ended) → turn s ≡ v → Extends s.so_far (made v)
turned s v e = subst (λ w. Extends s.so_far (made w)) e (turn_keeps s)

joined : (k : Kept) (t : Expansion) (v : Outcome Expansion Ended) → join k t ≡ v → Extends t.so_far (so_far_in v)
joined k t v e = subst (λ w. Extends t.so_far (so_far_in w)) e (join_keeps t.mode k t)

abbrev Post : Expansion → Outcome Expansion Ended → Type 0
Post s o = Extends s.so_far (so_far_in o)

rules : Rules Expansion Kept Ended turn join Post
rules = record {
  halt = λ s d e. turned s (Halt d) e;
  close = λ s t e. turned s (Close t) e;
  go_on = λ s t o e p. extends_more s.so_far t.so_far (so_far_in o) (turned s (GoOn t) e) p;
  bare = λ s t o e p. extends_more s.so_far t.so_far (so_far_in o) (turned s (Bare t) e) p;
  list_halts = λ s t f d e p. extends_more s.so_far t.so_far d.so_far (turned s (Opens f t) e) p;
  call_halts = λ s t u f d e p j. extends_more s.so_far t.so_far d.so_far (turned s (Opens f t) e)
      (extends_more t.so_far u.so_far d.so_far p (joined f u (Halted d) j));
  joins = λ s t u w f o e p j q. extends_more s.so_far t.so_far (so_far_in o) (turned s (Opens f t) e)
      (extends_more t.so_far u.so_far (so_far_in o) p (extends_more u.so_far w.so_far (so_far_in o) (joined f u (Closed w) j) q));
}

pub whole_keeps : (s : Expansion) → Extends s.so_far (so_far_in (expand s))
whole_keeps = holds Expansion Kept Ended turn join out_of_bound_at size_of calls_left falls Post rules

pub then_keeps : (o : Outcome Expansion Ended) (f : Expansion → Outcome Expansion Ended)
    → ((u : Expansion) → Extends u.so_far (so_far_in (f u))) → Extends (so_far_in o) (so_far_in (then_on o f))
then_keeps (Halted d) f g = extends_same d.so_far
then_keeps (Closed u) f g = g u

pub list_keeps : (k : Kept) (o : Outcome Expansion Ended) → Extends (so_far_in o) (so_far_in (then_on (then_on o (join k)) expand))
list_keeps k o = extends_more _ _ _ (then_keeps o (join k) (λ u. join_keeps u.mode k u)) (then_keeps (then_on o (join k)) expand whole_keeps)

pub turn_goes : (v : Turn Expansion Kept Ended) → Extends (made v) (so_far_in (after Expansion Kept Ended join expand expand v))
turn_goes (Halt d) = extends_same d.so_far
turn_goes (Close u) = extends_same u.so_far
turn_goes (GoOn u) = whole_keeps u
turn_goes (Bare u) = whole_keeps u
turn_goes (Opens f u) = extends_more _ _ _ (whole_keeps u) (list_keeps f (expand u))

popped_keeps : (fs : List Kept) (o : Outcome Expansion Ended) → Extends (so_far_in o) (made_by (pop Expansion Kept Ended turn join fs o))
popped_keeps fs (Halted d) = extends_same d.so_far
popped_keeps fs (Closed u) = extends_same u.so_far

closed_keeps : (fs : List Kept) (u : Expansion) → Extends u.so_far (made_by (close Expansion Kept Ended turn join fs u))
closed_keeps [] u = extends_same u.so_far
closed_keeps (f ∷ fs) u = extends_more _ _ _ (join_keeps u.mode f u) (popped_keeps fs (join f u))

taken_keeps : (fs : List Kept) (v : Turn Expansion Kept Ended) → Extends (made v) (made_by (take_turn Expansion Kept Ended turn join fs v))
taken_keeps fs (Halt d) = extends_same d.so_far
taken_keeps fs (Close u) = closed_keeps fs u
taken_keeps fs (GoOn u) = extends_same u.so_far
taken_keeps fs (Bare u) = extends_same u.so_far
taken_keeps fs (Opens f u) = extends_same u.so_far

pub moment_keeps : (c : Moment) → Extends (c.here).so_far (made_by (moved c))
moment_keeps c = extends_more _ _ _ (turn_keeps c.here) (taken_keeps c.outer (turn c.here))

longer_by : (e e' : Engine) → Extends (so_far_of [] [] e) (so_far_of [] [] e') → length e.output ≤ length e'.output
longer_by e e' x =
    let sum : length e'.output ≡ length e.output + length x.more = ap length x.output ∙ length-append e.output x.more in
    omega arith

-- skipping a line makes nothing
pub skipping_makes : (fs : List Kept) (o : Option ℕ) (s : Expansion) → made_by (pop Expansion Kept Ended turn join fs (skip_line o s)) ≡ s.so_far
skipping_makes fs (Some n) s = refl
skipping_makes fs None s = by_end (s.pending).may_follow
  where
    by_end : (b : Bool) → made_by (pop Expansion Kept Ended turn join fs (skip_all b s)) ≡ s.so_far
    by_end true = refl
    by_end false = refl

-- what a turn leaves holds the output of before it
pub output_stays : (e e' : Engine) (i j : Held) (t : Turned)
    → Moves (i.pending).may_follow e' j.pending t (λ z more o m. moved (configuration o m e (longer z more i.pending)))
    → IsTurned e e' i j t → length e.output ≤ length e'.output
output_stays e e' i j turns.GoesOn h k =
    let may : Bool = (i.pending).may_follow in
    longer_by e e' (subst (λ v. Extends (so_far_of [] [] e) (made_by v)) (h [] may (nothing_follows may) [] [])
    (moment_keeps (configuration [] [] e (longer [] may i.pending))))
output_stays e e' i j turns.SkipsLine h k =
    let may : Bool = (i.pending).may_follow in
    longer_by e e' (subst (λ r. Extends (so_far_of [] [] e) r)
    (ap made_by (h [] may (nothing_follows may) [] [])
    ∙ skipping_makes (outer_of e'.open_calls) (line_length (text_of (longer [] may j.pending)))
    (here_of [] [] e' (longer [] may j.pending)))
    (moment_keeps (configuration [] [] e (longer [] may i.pending))))
output_stays e e' i j turns.NeedsMore h k =
    let same : length e'.output ≡ length e.output = ap (λ (d : Engine). length d.output) k.engine in
    omega arith
output_stays e e' i j (turns.Ends cause) h k =
    let may : Bool = (i.pending).may_follow in
    longer_by e e' (subst (λ v. Extends (so_far_of [] [] e) (made_by v)) (h [] may (nothing_follows may) [] [])
    (moment_keeps (configuration [] [] e (longer [] may i.pending))))

front_by : (e e' : Engine) → Extends (so_far_of [] [] e) (so_far_of [] [] e') → (x : List ℕ) × (e'.output ≡ e.output ++ x)
front_by e e' x = (x.more, x.output)

-- and begins with what was there
pub output_front : (e e' : Engine) (i j : Held) (t : Turned)
    → Moves (i.pending).may_follow e' j.pending t (λ z more o m. moved (configuration o m e (longer z more i.pending)))
    → IsTurned e e' i j t → (x : List ℕ) × (e'.output ≡ e.output ++ x)
output_front e e' i j turns.GoesOn h k =
    let may : Bool = (i.pending).may_follow in
    front_by e e' (subst (λ v. Extends (so_far_of [] [] e) (made_by v)) (h [] may (nothing_follows may) [] [])
    (moment_keeps (configuration [] [] e (longer [] may i.pending))))
output_front e e' i j turns.SkipsLine h k =
    let may : Bool = (i.pending).may_follow in
    front_by e e' (subst (λ r. Extends (so_far_of [] [] e) r)
    (ap made_by (h [] may (nothing_follows may) [] [])
    ∙ skipping_makes (outer_of e'.open_calls) (line_length (text_of (longer [] may j.pending)))
    (here_of [] [] e' (longer [] may j.pending)))
    (moment_keeps (configuration [] [] e (longer [] may i.pending))))
output_front e e' i j turns.NeedsMore h k = ([], ap (λ (d : Engine). d.output) k.engine ∙ sym (append-nil e.output))
output_front e e' i j (turns.Ends cause) h k =
    let may : Bool = (i.pending).may_follow in
    front_by e e' (subst (λ v. Extends (so_far_of [] [] e) (made_by v)) (h [] may (nothing_follows may) [] [])
    (moment_keeps (configuration [] [] e (longer [] may i.pending))))

-- the expansion of an input
pub input_keeps : (limits : Limits) (r : RunSoFar) (p : Pending) → Extends r (expand_input limits r p).so_far
input_keeps limits r p = go (expand (expansion_of limits r p)) (whole_keeps (expansion_of limits r p))
  where
    go : (o : Outcome Expansion Ended) → Extends r (so_far_in o) → Extends r (ended_of o).so_far
    go (Halted d) h = h
    go (Closed s) h = h
