-- Unrefused: a run that starts does not end by its frozen file.
use Rattle.std.proofs.Common.{◌≡◌, Option, ℕ, zero, suc, Bool, true, false, List, [], ◌∷◌, Some, None, refl, sym, ap, ◌∙◌}
use Rattle.std.proofs.Common.{subst}
use Rattle.std.specs.Prelude.{nat_lt}
use Rattle.m4_state.specs.declared.definition.Def.{Def}
use Rattle.m4_state.specs.State.{State, top_of}
use Rattle.m4_input.specs.declared.token.Token.{Token}
use Rattle.m4_input.specs.declared.token.Token.TheVariants.{Name, Str, Comment, Byte, Definition, End}
use Rattle.m4_input.specs.declared.front.Answer.{Answer}
use Rattle.m4_input.specs.declared.front.Answer.TheVariants.{Yes, No, Unknown}
use Rattle.m4_input.specs.declared.front.Unended.{Unended}
use Rattle.m4_input.specs.declared.front.Unended.TheVariants.{InString, InComment}
use Rattle.m4_input.specs.Pending.{Pending, text_of, line_length}
use Rattle.m4_input.specs.Token.{Front, Taken, Refused, More, token_at}
use Rattle.m4_input.specs.Paren.{paren_at}
use Rattle.m4_input.specs.declared.pushed.Pushed.{Pushed}
use Rattle.m4_builtins.specs.Act.{needs_list}
use Rattle.m4_frozen.specs.declared.fault.FrozenFault.{FrozenFault}
use Rattle.m4_engine.specs.declared.ending.Cause.TheVariants as causes
use Rattle.m4_engine.specs.declared.options.Options.{Options}
use Rattle.m4_engine.specs.declared.role.Role.{Role}
use Rattle.m4_engine.specs.declared.role.Role.TheVariants.{Opening, Closing, Separator, Blank, Other}
use Rattle.m4_engine.specs.Nesting.{Turn, Halt, Close, GoOn, Bare, Opens, Outcome, Halted, Closed}
use Rattle.m4_engine.specs.Expansion.{RunSoFar, Limits, Call, Mode, Outside, Collecting, Expansion, Kept, EndReason}
use Rattle.m4_engine.specs.Expansion.{Ends, Ended, NeedsInput, OutOfBound, place_at, with_call, reading}
use Rattle.m4_engine.specs.Args.{role_of, take_closing, take_byte}
use Rattle.m4_engine.specs.Expand.{skip_all, skip_line, effected, kept_of, after_call, called}
use Rattle.m4_engine.specs.Expand.{join, call_of, bare, collect, is_deep}
use Rattle.m4_engine.specs.Expand.{take_call, take_name, take_other, take_end, take_token}
use Rattle.m4_engine.specs.Expand.{take_front, unended_cause, turn, size_of, calls_left, out_of_bound_at, expand}
use Rattle.m4_engine.specs.Expand.{expansion_of, ended_of, expand_input}
use Rattle.m4_engine.specs.File.{Source, Opened, Unopened, Progress, file_pending, over_of, read_source}
use Rattle.m4_engine.specs.File.{after_source, after_sources}
use Rattle.m4_engine.specs.Wraps.{read_saved, next_round, rounds, after_wraps, wrapped_pending, joined_back}
use Rattle.m4_engine.specs.Start.{Start, From, Faulty, begun}
use Rattle.m4_engine.specs.Run.{limits_of, saved_after, run_from}
use Rattle.m4_engine.proofs.ByRules.{Rules, holds}
use Rattle.m4_engine.proofs.CallsFall.{falls}
use Rattle.m4_engine.proofs.Cases.{skip_or_push, join_by, call_unless_deep, call_if_room, call_without_list, unless_over, result_by}

-- an end by a frozen file
abbrev pub is_refusal : EndReason → Bool
is_refusal (Ends (causes.Frozen fault)) = true
is_refusal reason = false

Turned : Turn Expansion Kept Ended → Type 0
Turned (Halt d) = is_refusal d.reason ≡ false
Turned (Close t) = Unit {0}
Turned (GoOn t) = Unit {0}
Turned (Bare t) = Unit {0}
Turned (Opens f t) = Unit {0}

Outs : Outcome Expansion Ended → Type 0
Outs (Halted d) = is_refusal d.reason ≡ false
Outs (Closed u) = Unit {0}

skip_all_outs : (b : Bool) (s : Expansion) → Outs (skip_all b s)
unfolding Outs
skip_all_outs true s = refl
skip_all_outs false s = tt

skip_line_outs : (n : Option ℕ) (s : Expansion) → Outs (skip_line n s)
unfolding Outs
skip_line_outs None s = skip_all_outs (s.pending).may_follow s
skip_line_outs (Some n) s = tt

skip_or_push_outs : (skip : Bool) (v : Option Pushed) (s : Expansion) → Outs (skip_or_push skip v s)
unfolding Outs
skip_or_push_outs true v s = skip_line_outs (line_length (text_of s.pending)) s
skip_or_push_outs false v s = tt

effected_outs : (n : Option ℕ) (skip : Bool) (v : Option Pushed) (s : Expansion) → Outs (effected n skip v s)
unfolding Outs
effected_outs (Some n) skip v s = refl
effected_outs None skip v s = skip_or_push_outs skip v s

called_outs : (c : Call) (t : Expansion) (k : Kept) → Outs (called c t k)
called_outs c t k = effected_outs _ _ _ (after_call c t k)

bare_turned : (o : Outcome Expansion Ended) → Outs o → Turned (bare o)
unfolding Outs Turned
bare_turned (Halted d) h = h
bare_turned (Closed u) h = tt

collect_turned : (listed : Bool) (c : Call) (p : Pending) (s : Expansion) → Turned (collect listed c p s)
unfolding Turned
collect_turned true c p s = tt
collect_turned false c p s = bare_turned (called c (reading p s) (kept_of s)) (called_outs c (reading p s) (kept_of s))

deep_turned : (deep listed : Bool) (c : Call) (p : Pending) (s : Expansion) → Turned (call_unless_deep deep listed c p s)
unfolding Turned
deep_turned true listed c p s = refl
deep_turned false listed c p s = collect_turned listed c p s

room_turned : (room listed : Bool) (c : Call) (p : Pending) (s : Expansion) → Turned (call_if_room room listed c p s)
unfolding Turned
room_turned true listed c p s = deep_turned (is_deep s) listed c p (with_call s)
room_turned false listed c p s = refl

without_list_turned : (b : Bool) (c : Call) (p : Pending) (s : Expansion) → Turned (call_without_list b c p s)
unfolding Turned
without_list_turned true c p s = tt
without_list_turned false c p s = room_turned (nat_lt (s.so_far).calls (s.limits).calls) false c p s

take_call_turned : (a : Answer) (c : Call) (p : Pending) (s : Expansion) → Turned (take_call a c p s)
unfolding Turned
take_call_turned Unknown c p s = refl
take_call_turned Yes c p s = room_turned (nat_lt (s.so_far).calls (s.limits).calls) true c p s
take_call_turned No c p s = without_list_turned (needs_list c.definition) c p s

take_name_turned : (o : Option Def) (x : List ℕ) (p : Pending) (s : Expansion) → Turned (take_name o x p s)
unfolding Turned
take_name_turned None x p s = tt
take_name_turned (Some d) x p s =
    take_call_turned (paren_at ((s.so_far).state).quotes ((s.so_far).state).comments p) (call_of d x (place_at s.pending)) p s

closing_turned : (n b : ℕ) (c : Call) (s : Expansion) → Turned (take_closing n b c s)
unfolding Turned
closing_turned zero b c s = tt
closing_turned (suc n) b c s = tt

byte_turned : (r : Role) (b : ℕ) (c : Call) (s : Expansion) → Turned (take_byte r b c s)
unfolding Turned
byte_turned Opening b c s = tt
byte_turned Closing b c s = closing_turned c.parentheses b c s
byte_turned Separator b c s = tt
byte_turned Blank b c s = tt
byte_turned Other b c s = tt

other_turned : (m : Mode) (b : ℕ) (s : Expansion) → Turned (take_other m b s)
unfolding Turned
other_turned Outside b s = tt
other_turned (Collecting c) b s = byte_turned (role_of b c) b c s

end_turned : (m : Mode) (s : Expansion) → Turned (take_end m s)
unfolding Turned
end_turned Outside s = refl
end_turned (Collecting c) s = refl

take_token_turned : (t : Token) (p : Pending) (s : Expansion) → Turned (take_token t p s)
unfolding Turned
take_token_turned (Name x) p s = take_name_turned (top_of (s.so_far).state x) x p s
take_token_turned (Str x) p s = tt
take_token_turned (Comment x) p s = tt
take_token_turned (Byte b) p s = other_turned s.mode b (reading p s)
take_token_turned (Definition d) p s = tt
take_token_turned End p s = end_turned s.mode s

unended_is : (u : Unended) → is_refusal (Ends (unended_cause u)) ≡ false
unended_is InString = refl
unended_is InComment = refl

take_front_turned : (v : Front) (s : Expansion) → Turned (take_front v s)
unfolding Turned
take_front_turned (Taken t p) s = take_token_turned t p s
take_front_turned (Refused u n) s = unended_is u
take_front_turned More s = refl

turn_turned : (s : Expansion) (v : Turn Expansion Kept Ended) → turn s ≡ v → Turned v
turn_turned s v e = subst Turned e (take_front_turned (token_at ((s.so_far).state).quotes ((s.so_far).state).comments s.pending) s)

join_outs : (m : Mode) (k : Kept) (t : Expansion) → Outs (join_by m k t)
unfolding Outs
join_outs Outside k t = tt
join_outs (Collecting c) k t = called_outs c t k

Post : Expansion → Outcome Expansion Ended → Type 0
Post s o = Outs o

rules : Rules Expansion Kept Ended turn join Post
unfolding Post Turned Outs
rules = record {
  halt = λ s d e. turn_turned s (Halt d) e;
  close = λ s t e. tt;
  go_on = λ s t o e p. p;
  bare = λ s t o e p. p;
  list_halts = λ s t f d e p. p;
  call_halts = λ s t u f d e p j. subst Outs j (join_outs u.mode f u);
  joins = λ s t u w f o e p j q. q;
}

input_unrefused : (limits : Limits) (r : RunSoFar) (p : Pending) → is_refusal (expand_input limits r p).reason ≡ false
unfolding Post Outs
input_unrefused limits r p = go (expand (expansion_of limits r p))
    (holds Expansion Kept Ended turn join out_of_bound_at size_of calls_left falls Post rules (expansion_of limits r p))
  where
    go : (o : Outcome Expansion Ended) → Post (expansion_of limits r p) o → is_refusal (ended_of o).reason ≡ false
    go (Halted d) v = v
    go (Closed u) v = refl

-- ---- a run

abbrev is_refused : Option EndReason → Bool
is_refused None = false
is_refused (Some reason) = is_refusal reason

over_unrefused : (h : EndReason) → is_refusal h ≡ false → is_refused (over_of h) ≡ false
over_unrefused (Ends (causes.Frozen f)) e = e
over_unrefused (Ends cause) e = refl
over_unrefused NeedsInput e = refl
over_unrefused OutOfBound e = refl

unless_unrefused : (o : Option EndReason) (old new : Progress) → is_refused old.over ≡ false
    → is_refused new.over ≡ false → is_refused (unless_over o old new).over ≡ false
unless_unrefused None old new h g = g
unless_unrefused (Some x) old new h g = h

read_unrefused : (limits : Limits) (s : Source) (r : RunSoFar) (any_missing : Bool) → is_refused (read_source limits s r any_missing).over ≡ false
read_unrefused limits (Opened name bytes) r any_missing = over_unrefused _ (input_unrefused limits r (file_pending name bytes false))
read_unrefused limits (Unopened name) r any_missing = refl

sources_unrefused : (limits : Limits) (ss : List Source) (p : Progress) → is_refused p.over ≡ false → is_refused (after_sources limits ss p).over ≡ false
sources_unrefused limits [] p h = h
sources_unrefused limits (s ∷ ss) p h =
    sources_unrefused limits ss (after_source limits s p)
    (unless_unrefused p.over p (read_source limits s p.so_far p.any_missing) h (read_unrefused limits s p.so_far p.any_missing))

next_unrefused : (go : Progress → Progress) (limits : Limits)
    → ((q : Progress) → is_refused q.over ≡ false → is_refused (go q).over ≡ false)
    → (v : Option EndReason) (saved : List (List ℕ)) (p : Progress) → is_refused p.over ≡ false
    → is_refused (next_round go limits v saved p).over ≡ false
next_unrefused go limits g (Some x) saved p h = h
next_unrefused go limits g None [] p h = h
next_unrefused go limits g None (x ∷ xs) p h =
    g (read_saved limits (x ∷ xs) p)
    (over_unrefused _ (input_unrefused limits (record p.so_far { saved = [] }) (wrapped_pending (joined_back (x ∷ xs)))))

rounds_unrefused : (n : ℕ) (limits : Limits) (p : Progress) → is_refused p.over ≡ false → is_refused (rounds n limits p).over ≡ false
rounds_unrefused zero limits p h = h
rounds_unrefused (suc n) limits p h = next_unrefused (rounds n limits) limits (rounds_unrefused n limits) p.over (p.so_far).saved p h

result_unrefused : (v : Option EndReason) (freezes : Bool) (saved : List (List ℕ)) (r : RunSoFar) (any_missing : Bool)
    → is_refused v ≡ false → is_refusal (result_by v freezes saved r any_missing).reason ≡ false
result_unrefused None freezes saved r any_missing h = refl
result_unrefused (Some x) freezes saved r any_missing h = h

-- a run that starts from a state
pub from_unrefused : (o : Options) (s : State) (issued : List ℕ) (sources : List Source) → is_refusal (run_from o (From s issued) sources).reason ≡ false
from_unrefused o s issued sources =
    let limits : Limits = limits_of o in
    let p : Progress = after_sources limits sources (begun (From s issued)) in
    let e : Progress = after_wraps limits p in
    result_unrefused e.over o.freeze (saved_after sources p) e.so_far e.any_missing
    (rounds_unrefused (suc limits.calls) limits p (sources_unrefused limits sources (begun (From s issued)) refl))

-- ---- a run that was refused stays so

unless_stays : (v : Option EndReason) (old new : Progress) (x : EndReason) → v ≡ Some x → old.over ≡ Some x → (unless_over v old new).over ≡ Some x
unless_stays None old new x e h = absurd cc
unless_stays (Some y) old new x e h = h

sources_stay : (limits : Limits) (ss : List Source) (p : Progress) (x : EndReason) → p.over ≡ Some x → (after_sources limits ss p).over ≡ Some x
sources_stay limits [] p x e = e
sources_stay limits (s ∷ ss) p x e = sources_stay limits ss (after_source limits s p) x
    (unless_stays p.over p (read_source limits s p.so_far p.any_missing) x e e)

next_stays : (go : Progress → Progress) (limits : Limits) (v : Option EndReason) (saved : List (List ℕ)) (p : Progress)
    (x : EndReason) → v ≡ Some x → p.over ≡ Some x → (next_round go limits v saved p).over ≡ Some x
next_stays go limits None saved p x e h = absurd cc
next_stays go limits (Some y) saved p x e h = h

result_stays : (v : Option EndReason) (freezes : Bool) (saved : List (List ℕ)) (r : RunSoFar) (any_missing : Bool)
    (x : EndReason) → v ≡ Some x → (result_by v freezes saved r any_missing).reason ≡ x
result_stays None freezes saved r any_missing x e = absurd cc
result_stays (Some y) freezes saved r any_missing x e = ap (λ (o : Option EndReason). go o) e
  where
    go : Option EndReason → EndReason
    go None = NeedsInput
    go (Some z) = z

faulty_refused : (o : Options) (fault : FrozenFault) (sources : List Source) → (run_from o (Faulty fault) sources).reason ≡ Ends (causes.Frozen fault)
faulty_refused o fault sources =
    let limits : Limits = limits_of o in
    let p : Progress = after_sources limits sources (begun (Faulty fault)) in
    let e : Progress = after_wraps limits p in
    let h : p.over ≡ Some (Ends (causes.Frozen fault)) = sources_stay limits sources (begun (Faulty fault)) (Ends (causes.Frozen fault)) refl in
    result_stays e.over o.freeze (saved_after sources p) e.so_far e.any_missing (Ends (causes.Frozen fault))
    (next_stays (rounds limits.calls limits) limits p.over (p.so_far).saved p (Ends (causes.Frozen fault)) h h)

-- if one run from a start read everything, no run from it is refused
pub unrefused : (o o' : Options) (start : Start) (xs ys : List Source) → (run_from o start xs).reason ≡ Ends causes.Done
    → is_refusal (run_from o' start ys).reason ≡ false
unrefused o o' (From s issued) xs ys e = from_unrefused o' s issued ys
unrefused o o' (Faulty fault) xs ys e =
    absurd (let k : Ends (causes.Frozen fault) ≡ Ends causes.Done = sym (faulty_refused o fault xs) ∙ e in cc)
