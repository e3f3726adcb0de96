-- RunsEnd: an expansion outside of calls ends by a cause, and never for want of a bound.
use Rattle.std.proofs.Common.{◌≡◌, ◌≢◌, Option, ℕ, zero, suc, Bool, true, false, List, [], ◌∷◌, Some, None, refl, sym}
use Rattle.std.proofs.Common.{ap, ◌∙◌, subst}
use Rattle.std.specs.Prelude.{nat_lt}
use Rattle.m4_state.specs.declared.definition.Def.{Def}
use Rattle.m4_state.specs.declared.delimiters.Delimiters.{Delimiters}
use Rattle.m4_input.specs.declared.token.Token.{Token}
use Rattle.m4_input.specs.declared.token.Token.TheVariants.{Name, Str, Comment, Byte, Definition, End}
use Rattle.m4_input.specs.declared.front.Scan.{Scan}
use Rattle.m4_input.specs.declared.front.Scan.TheVariants.{Found, Broken, NeedsMore}
use Rattle.m4_input.specs.declared.front.Answer.{Answer}
use Rattle.m4_input.specs.declared.front.Answer.TheVariants.{Yes, No, Unknown}
use Rattle.m4_input.specs.Ascii.{is_letter}
use Rattle.m4_input.specs.Pending.{Pending, text_of, line_length}
use Rattle.m4_input.specs.Token.{starts_with, scan_kind, scan, Front, Taken}
use Rattle.m4_input.specs.Token.{Refused, More, front_by, front_from, token_at}
use Rattle.m4_input.specs.Paren.{paren_in, paren_at}
use Rattle.m4_input.proofs.Cases.{kind_by, answer_by, paren_from, comment_found, string_found}
use Rattle.m4_state.specs.State.{top_of}
use Rattle.m4_input.specs.declared.pushed.Pushed.{Pushed}
use Rattle.m4_input.specs.declared.pushed.Pushed.TheVariants as pushes
use Rattle.m4_builtins.specs.Act.{needs_list}
use Rattle.m4_engine.specs.declared.ending.Cause.{Cause}
use Rattle.m4_engine.specs.declared.ending.Cause.TheVariants as causes
use Rattle.m4_engine.specs.Nesting.{Turn, Halt, Close, GoOn, Bare, Opens, Outcome, Halted, Closed}
use Rattle.m4_engine.specs.Expansion.{RunSoFar, Limits, Call, Mode, Outside, Collecting, Expansion, Kept, EndReason}
use Rattle.m4_engine.specs.Expansion.{Ends, Ended, place_at, with_call, reading}
use Rattle.m4_engine.specs.declared.role.Role.{Role}
use Rattle.m4_engine.specs.declared.role.Role.TheVariants.{Opening, Closing, Separator, Blank, Other}
use Rattle.m4_engine.specs.Args.{role_of, take_closing, take_byte}
use Rattle.m4_engine.specs.Expand.{with_value, skip_all, skip_line, effected, kept_of, after_call}
use Rattle.m4_engine.specs.Expand.{called, join, call_of, bare, collect, is_deep}
use Rattle.m4_engine.specs.Expand.{take_call, take_name, take_other, take_end}
use Rattle.m4_engine.specs.Expand.{take_token, take_front, unended_cause, turn, size_of, calls_left, out_of_bound_at}
use Rattle.m4_engine.specs.Expand.{expand}
use Rattle.m4_engine.specs.Expand.{expansion_of, ended_of, expand_input}
use Rattle.m4_engine.specs.declared.options.Options.{Options}
use Rattle.m4_engine.specs.File.{Source, Opened, Unopened, Progress, file_pending, over_by, over_of}
use Rattle.m4_engine.specs.File.{read_source, after_source, after_sources}
use Rattle.m4_engine.specs.Wraps.{read_saved, next_round, rounds, after_wraps, wrapped_pending, joined_back}
use Rattle.m4_engine.specs.Start.{Start, From, Faulty, begun}
use Rattle.m4_engine.specs.Run.{limits_of, saved_after, run_from}
use Rattle.m4_engine.proofs.ByRules.{Rules, holds}
use Rattle.m4_engine.proofs.CallsFall.{falls}
use Rattle.m4_engine.proofs.Cases.{skip_or_push, join_by, call_unless_deep, call_if_room, call_without_list, unless_over, result_by, mode_after_call}

-- an end that a cause makes
abbrev IsCaused : EndReason → Type 0
IsCaused reason = (cause : Cause) × (reason ≡ Ends cause)

-- whether an expansion is outside of calls
abbrev is_outside : Mode → Bool
is_outside Outside = true
is_outside (Collecting c) = false

-- where no byte may follow, a turn ends by a cause, and a level outside of calls never closes
Turns : Expansion → Turn Expansion Kept Ended → Type 0
Turns s (Halt d) = IsCaused d.reason
Turns s (Close t) = (is_outside s.mode ≡ false) × ((t.pending).may_follow ≡ false) × (is_outside t.mode ≡ false)
Turns s (GoOn t) = (is_outside t.mode ≡ is_outside s.mode) × ((t.pending).may_follow ≡ false)
Turns s (Bare t) = (is_outside t.mode ≡ is_outside s.mode) × ((t.pending).may_follow ≡ false)
Turns s (Opens f t) = (is_outside f.mode ≡ is_outside s.mode) × ((t.pending).may_follow ≡ false) × (is_outside t.mode ≡ false)

Outs : Mode → Outcome Expansion Ended → Type 0
Outs m (Halted d) = IsCaused d.reason
Outs m (Closed u) = (is_outside u.mode ≡ is_outside m) × ((u.pending).may_follow ≡ false)

text_outside : (x : List ℕ) (m : Mode) → is_outside (Rattle.m4_engine.proofs.Cases.mode_with_text x m) ≡ is_outside m
text_outside x Outside = refl
text_outside x (Collecting c) = refl

token_outside : (d : Def) (m : Mode) → is_outside (Rattle.m4_engine.proofs.Cases.mode_with_token d m) ≡ is_outside m
token_outside d Outside = refl
token_outside d (Collecting c) = refl

begun_outside : (m : Mode) → is_outside (mode_after_call m) ≡ is_outside m
begun_outside Outside = refl
begun_outside (Collecting c) = refl

skip_all_outs : (b : Bool) (s : Expansion) → b ≡ false → (s.pending).may_follow ≡ false → Outs s.mode (skip_all b s)
unfolding Outs
skip_all_outs true s e h = cc
skip_all_outs false s e h = (refl, h)

skip_line_outs : (n : Option ℕ) (s : Expansion) → (s.pending).may_follow ≡ false → Outs s.mode (skip_line n s)
unfolding Outs
skip_line_outs None s h = skip_all_outs (s.pending).may_follow s h h
skip_line_outs (Some n) s h = (refl, h)

pushed_closed : (v : Option Pushed) (p : Pending) → p.may_follow ≡ false → (with_value v p).may_follow ≡ false
pushed_closed None p h = h
pushed_closed (Some (pushes.Text x)) p h = h
pushed_closed (Some (pushes.Definition d)) p h = h

skip_or_push_outs : (skip : Bool) (v : Option Pushed) (s : Expansion) → (s.pending).may_follow ≡ false → Outs s.mode (skip_or_push skip v s)
unfolding Outs
skip_or_push_outs true v s h = skip_line_outs (line_length (text_of s.pending)) s h
skip_or_push_outs false v s h = (refl, pushed_closed v s.pending h)

effected_outs : (n : Option ℕ) (skip : Bool) (v : Option Pushed) (s : Expansion) → (s.pending).may_follow ≡ false → Outs s.mode (effected n skip v s)
unfolding Outs
effected_outs (Some n) skip v s h = (causes.Exited n, refl)
effected_outs None skip v s h = skip_or_push_outs skip v s h

outs_as : (m k : Mode) (o : Outcome Expansion Ended) → is_outside m ≡ is_outside k → Outs m o → Outs k o
unfolding Outs
outs_as m k (Halted d) e h = h
outs_as m k (Closed u) e h = (h.0 ∙ e, h.1)

called_outs : (c : Call) (t : Expansion) (k : Kept) → (t.pending).may_follow ≡ false → Outs k.mode (called c t k)
called_outs c t k h = outs_as (mode_after_call k.mode) k.mode _ (begun_outside k.mode) (effected_outs _ _ _ (after_call c t k) h)

bare_turns : (s : Expansion) (o : Outcome Expansion Ended) → Outs s.mode o → Turns s (bare o)
unfolding Outs Turns
bare_turns s (Halted d) h = h
bare_turns s (Closed u) h = h

collect_turns : (listed : Bool) (c : Call) (p : Pending) (s : Expansion) → p.may_follow ≡ false → Turns s (collect listed c p s)
unfolding Turns
collect_turns true c p s h = (refl, h, refl)
collect_turns false c p s h = bare_turns s (called c (reading p s) (kept_of s)) (called_outs c (reading p s) (kept_of s) h)

deep_turns : (deep listed : Bool) (c : Call) (p : Pending) (s : Expansion) → p.may_follow ≡ false → Turns s (call_unless_deep deep listed c p s)
unfolding Turns
deep_turns true listed c p s h = (causes.NestingLimit, refl)
deep_turns false listed c p s h = collect_turns listed c p s h

counted_turns : (s : Expansion) (v : Turn Expansion Kept Ended) → Turns (with_call s) v → Turns s v
unfolding Turns
counted_turns s (Halt d) h = h
counted_turns s (Close t) h = h
counted_turns s (GoOn t) h = h
counted_turns s (Bare t) h = h
counted_turns s (Opens f t) h = h

room_turns : (room listed : Bool) (c : Call) (p : Pending) (s : Expansion) → p.may_follow ≡ false → Turns s (call_if_room room listed c p s)
unfolding Turns
room_turns true listed c p s h = counted_turns s _ (deep_turns (is_deep s) listed c p (with_call s) h)
room_turns false listed c p s h = (causes.ExpansionLimit, refl)

without_list_turns : (b : Bool) (c : Call) (p : Pending) (s : Expansion) → p.may_follow ≡ false → Turns s (call_without_list b c p s)
unfolding Turns
without_list_turns true c p s h = (text_outside c.name s.mode, h)
without_list_turns false c p s h = room_turns (nat_lt (s.so_far).calls (s.limits).calls) false c p s h

take_call_turns : (a : Answer) (c : Call) (p : Pending) (s : Expansion) → a ≢ Unknown → p.may_follow ≡ false → Turns s (take_call a c p s)
unfolding Turns
take_call_turns Unknown c p s n h = absurd (n refl)
take_call_turns Yes c p s n h = room_turns (nat_lt (s.so_far).calls (s.limits).calls) true c p s h
take_call_turns No c p s n h = without_list_turns (needs_list c.definition) c p s h

-- with a closed end whether a list follows is known
answer_known : (a b : Bool) → answer_by a b false ≢ Unknown
answer_known false b e = cc
answer_known true true e = cc
answer_known true false e = cc

paren_known : (q c : Delimiters) (x : List ℕ) → paren_in q c false x ≢ Unknown
paren_known q c [] e = cc
paren_known q c (b ∷ y) e = answer_known _ _ e

paren_from_known : (o : Option Def) (q c : Delimiters) (p : Pending) → p.may_follow ≡ false → paren_from o q c p ≢ Unknown
paren_from_known (Some d) q c p h e = cc
paren_from_known None q c p h e = paren_known q c (text_of p) (ap (λ v. paren_in q c v (text_of p)) (sym h) ∙ e)

take_name_turns : (o : Option Def) (x : List ℕ) (p : Pending) (s : Expansion) → p.may_follow ≡ false → Turns s (take_name o x p s)
unfolding Turns
take_name_turns None x p s h = (text_outside x s.mode, h)
take_name_turns (Some d) x p s h =
    take_call_turns (paren_at ((s.so_far).state).quotes ((s.so_far).state).comments p) (call_of d x (place_at s.pending)) p s
    (paren_from_known p.definition ((s.so_far).state).quotes ((s.so_far).state).comments p h) h

closing_turns : (n b : ℕ) (c : Call) (s : Expansion) → is_outside s.mode ≡ false → (s.pending).may_follow ≡ false → Turns s (take_closing n b c s)
unfolding Turns
closing_turns zero b c s o h = (o, h, refl)
closing_turns (suc n) b c s o h = (sym o, h)

byte_turns : (r : Role) (b : ℕ) (c : Call) (s : Expansion) → is_outside s.mode ≡ false → (s.pending).may_follow ≡ false → Turns s (take_byte r b c s)
unfolding Turns
byte_turns Opening b c s o h = (sym o, h)
byte_turns Closing b c s o h = closing_turns c.parentheses b c s o h
byte_turns Separator b c s o h = (sym o, h)
byte_turns Blank b c s o h = (refl, h)
byte_turns Other b c s o h = (text_outside (b ∷ []) s.mode, h)

other_turns : (m : Mode) (b : ℕ) (s : Expansion) → s.mode ≡ m → (s.pending).may_follow ≡ false → Turns s (take_other m b s)
unfolding Turns
other_turns Outside b s e h = (text_outside (b ∷ []) s.mode, h)
other_turns (Collecting c) b s e h = byte_turns (role_of b c) b c s (ap is_outside e) h

end_turns : (m : Mode) (s : Expansion) → Turns s (take_end m s)
unfolding Turns
end_turns Outside s = (causes.Done, refl)
end_turns (Collecting c) s = (causes.EndInArguments, refl)

moved_turns : (p : Pending) (s : Expansion) (v : Turn Expansion Kept Ended) → Turns (reading p s) v → Turns s v
unfolding Turns
moved_turns p s (Halt d) h = h
moved_turns p s (Close t) h = h
moved_turns p s (GoOn t) h = h
moved_turns p s (Bare t) h = h
moved_turns p s (Opens f t) h = h

take_token_turns : (t : Token) (p : Pending) (s : Expansion) → p.may_follow ≡ false → Turns s (take_token t p s)
unfolding Turns
take_token_turns (Name x) p s h = take_name_turns (top_of (s.so_far).state x) x p s h
take_token_turns (Str x) p s h = (text_outside x s.mode, h)
take_token_turns (Comment x) p s h = (text_outside x s.mode, h)
take_token_turns (Byte b) p s h = moved_turns p s _ (other_turns s.mode b (reading p s) refl h)
take_token_turns (Definition d) p s h = (token_outside d s.mode, h)
take_token_turns End p s h = end_turns s.mode s

-- ---- the front, with a closed end

Decided : Scan → Type 0
Decided (Found t n) = Unit {0}
Decided (Broken u) = Unit {0}
Decided NeedsMore = ⊥

comment_decided : (c : Delimiters) (x : List ℕ) (o : Option ℕ) → Decided (comment_found c false x o)
unfolding Decided
comment_decided c x None = tt
comment_decided c x (Some n) = tt

string_decided : (q : Delimiters) (y : List ℕ) (o : Option ℕ) → Decided (string_found q false y o)
unfolding Decided
string_decided q y None = tt
string_decided q y (Some n) = tt

kind_decided : (t v w : Bool) (q c : Delimiters) (b : ℕ) (y : List ℕ) → Decided (scan_kind (kind_by t false v w false) q c false b y)
unfolding Decided
kind_decided true v w q c b y = comment_decided c (b ∷ y) _
kind_decided false true w q c b y = tt
kind_decided false false true q c b y = string_decided q _ _
kind_decided false false false q c b y = tt

scan_decided : (q c : Delimiters) (x : List ℕ) → Decided (scan q c false x)
unfolding Decided
scan_decided q c [] = tt
scan_decided q c (b ∷ y) = kind_decided (starts_with c (b ∷ y)) (is_letter b) (starts_with q (b ∷ y)) q c b y

Known : Front → Type 0
Known (Taken t p) = p.may_follow ≡ false
Known (Refused u n) = Unit {0}
Known More = ⊥

front_by_known : (p : Pending) (v : Scan) → p.may_follow ≡ false → Decided v → Known (front_by p v)
unfolding Decided Known
front_by_known p (Found t n) h d = h
front_by_known p (Broken u) h d = tt
front_by_known p NeedsMore h d = d

front_known : (o : Option Def) (q c : Delimiters) (p : Pending) → p.may_follow ≡ false → Known (front_from o q c p)
unfolding Known
front_known (Some d) q c p h = h
front_known None q c p h =
    let P : Bool → Type 0 = λ v. Known (front_by p (scan q c v (text_of p))) in
    subst P (sym h) (front_by_known p (scan q c false (text_of p)) h (scan_decided q c (text_of p)))

take_front_turns : (v : Front) (s : Expansion) → Known v → Turns s (take_front v s)
unfolding Known Turns
take_front_turns (Taken t p) s h = take_token_turns t p s h
take_front_turns (Refused u n) s h = (unended_cause u, refl)
take_front_turns More s h = absurd h

turn_turns : (s : Expansion) (v : Turn Expansion Kept Ended) → turn s ≡ v → (s.pending).may_follow ≡ false → Turns s v
turn_turns s v e h = subst (Turns s) e (take_front_turns
    (token_at ((s.so_far).state).quotes ((s.so_far).state).comments s.pending) s
    (front_known (s.pending).definition ((s.so_far).state).quotes ((s.so_far).state).comments s.pending h))

join_outs : (m : Mode) (k : Kept) (t : Expansion) (v : Outcome Expansion Ended) → join_by m k t ≡ v
    → is_outside m ≡ false → (t.pending).may_follow ≡ false → Outs k.mode v
join_outs Outside k t v e o h = cc
join_outs (Collecting c) k t v e o h = subst (Outs k.mode) e (called_outs c t k h)

Post : Expansion → Outcome Expansion Ended → Type 0
Post s (Halted d) = (s.pending).may_follow ≡ false → IsCaused d.reason
Post s (Closed u) = (s.pending).may_follow ≡ false → (is_outside s.mode ≡ false) × (is_outside u.mode ≡ false) × ((u.pending).may_follow ≡ false)

after_step : (s t : Expansion) (o : Outcome Expansion Ended)
    → (((s.pending).may_follow ≡ false) → (is_outside t.mode ≡ is_outside s.mode) × ((t.pending).may_follow ≡ false))
    → Post t o → Post s o
unfolding Post
after_step s t (Halted d) f p = λ h. p (f h).1
after_step s t (Closed u) f p = λ h. let k = p (f h).1 in (sym (f h).0 ∙ k.0, k.1, k.2)

rules : Rules Expansion Kept Ended turn join Post
unfolding Post Turns Outs
rules = record {
  halt = λ s d e h. turn_turns s (Halt d) e h;
  close = λ s t e h. let v = turn_turns s (Close t) e h in (v.0, v.2, v.1);
  go_on = λ s t o e p. after_step s t o (λ h. turn_turns s (GoOn t) e h) p;
  bare = λ s t o e p. after_step s t o (λ h. turn_turns s (Bare t) e h) p;
  list_halts = λ s t f d e p h. p (turn_turns s (Opens f t) e h).1;
  call_halts = λ s t u f d e p j h. let v = turn_turns s (Opens f t) e h in let k = p v.1 in join_outs u.mode f u (Halted d) j k.1 k.2;
  joins = λ s t u w f o e p j q. after_step s w o
      (λ h. let v = turn_turns s (Opens f t) e h in let k = p v.1 in let x =
      join_outs u.mode f u (Closed w) j k.1 k.2 in (x.0 ∙ v.0, x.1)) q;
}

input_caused : (limits : Limits) (r : RunSoFar) (p : Pending) → p.may_follow ≡ false → IsCaused (expand_input limits r p).reason
unfolding Post
input_caused limits r p h = go (expand (expansion_of limits r p))
    (holds Expansion Kept Ended turn join out_of_bound_at size_of calls_left falls Post rules (expansion_of limits r p))
  where
    go : (o : Outcome Expansion Ended) → Post (expansion_of limits r p) o → IsCaused (ended_of o).reason
    go (Halted d) v = v h
    go (Closed u) v = let e : true ≡ false = (v h).0 in cc

-- ---- a run

CausedOver : Option EndReason → Type 0
CausedOver None = Unit {0}
CausedOver (Some reason) = IsCaused reason

by_caused : (c : Cause) → CausedOver (over_by c)
unfolding CausedOver
by_caused causes.Done = tt
by_caused cause = (cause, refl)

over_caused : (h : EndReason) → IsCaused h → CausedOver (over_of h)
over_caused h c = subst (λ x. CausedOver (over_of x)) (sym c.1) (by_caused c.0)

unless_caused : (o : Option EndReason) (old new : Progress) → CausedOver old.over → CausedOver new.over → CausedOver (unless_over o old new).over
unless_caused None old new h g = g
unless_caused (Some x) old new h g = h

read_caused : (limits : Limits) (s : Source) (r : RunSoFar) (any_missing : Bool) → CausedOver (read_source limits s r any_missing).over
unfolding CausedOver
read_caused limits (Opened name bytes) r any_missing = over_caused _ (input_caused limits r (file_pending name bytes false) refl)
read_caused limits (Unopened name) r any_missing = tt

sources_caused : (limits : Limits) (ss : List Source) (p : Progress) → CausedOver p.over → CausedOver (after_sources limits ss p).over
sources_caused limits [] p h = h
sources_caused limits (s ∷ ss) p h = sources_caused limits ss (after_source limits s p)
    (unless_caused p.over p (read_source limits s p.so_far p.any_missing) h (read_caused limits s p.so_far p.any_missing))

next_caused : (go : Progress → Progress) (limits : Limits)
    → ((q : Progress) → CausedOver q.over → CausedOver (go q).over)
    → (v : Option EndReason) (saved : List (List ℕ)) (p : Progress) → CausedOver p.over
    → CausedOver (next_round go limits v saved p).over
next_caused go limits g (Some x) saved p h = h
next_caused go limits g None [] p h = h
next_caused go limits g None (x ∷ xs) p h =
    g (read_saved limits (x ∷ xs) p)
    (over_caused _ (input_caused limits (record p.so_far { saved = [] }) (wrapped_pending (joined_back (x ∷ xs))) refl))

rounds_caused : (n : ℕ) (limits : Limits) (p : Progress) → CausedOver p.over → CausedOver (rounds n limits p).over
rounds_caused zero limits p h = h
rounds_caused (suc n) limits p h = next_caused (rounds n limits) limits (rounds_caused n limits) p.over (p.so_far).saved p h

start_caused : (start : Start) → CausedOver (begun start).over
unfolding CausedOver
start_caused (From s issued) = tt
start_caused (Faulty fault) = (causes.Frozen fault, refl)

result_caused : (v : Option EndReason) (freezes : Bool) (saved : List (List ℕ)) (r : RunSoFar) (any_missing : Bool)
    → CausedOver v → IsCaused (result_by v freezes saved r any_missing).reason
unfolding CausedOver
result_caused None freezes saved r any_missing h = (causes.Done, refl)
result_caused (Some x) freezes saved r any_missing h = h

pub run_ends : (o : Options) (start : Start) (sources : List Source) → (cause : Cause) × ((run_from o start sources).reason ≡ Ends cause)
run_ends o start sources =
    let limits : Limits = limits_of o in
    let p : Progress = after_sources limits sources (begun start) in
    let e : Progress = after_wraps limits p in
    result_caused e.over o.freeze (saved_after sources p) e.so_far e.any_missing
    (rounds_caused (suc limits.calls) limits p (sources_caused limits sources (begun start) (start_caused start)))
