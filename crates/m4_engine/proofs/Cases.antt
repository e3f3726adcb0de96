-- Cases: names for the cases within the definitions of expansions and runs.
use Rattle.std.proofs.Common.{◌≡◌, ◌⊎◌, ◌++◌, ◌∷◌, ℕ, Bool, true, false, List, [], Option, Some, None}
use Rattle.std.specs.Prelude.{codes, if◌then◌else◌, unwrap_or}
use Rattle.m4_state.specs.declared.definition.Def.{Def}
use Rattle.m4_state.specs.State.{State}
use Rattle.m4_input.specs.declared.pushed.Pushed.{Pushed}
use Rattle.m4_input.specs.Pending.{Pending, text_of, line_length}
use Rattle.m4_frozen.specs.Freeze.{freeze}
use Rattle.m4_engine.specs.declared.ending.Cause.TheVariants as causes
use Rattle.m4_engine.specs.declared.role.Role.{Role}
use Rattle.m4_engine.specs.declared.role.Role.TheVariants.{Opening, Closing, Separator, Blank, Other}
use Rattle.m4_engine.specs.Nesting.{Turn, GoOn, Outcome, Closed}
use Rattle.m4_engine.specs.Expansion.{RunSoFar, Call, Mode, Outside, Collecting, Expansion, EndReason, Kept, Ends, Ended}
use Rattle.m4_engine.specs.Expansion.{in_list, with_call, reading, put_text}
use Rattle.m4_engine.specs.Expand.{called, call, collect, is_deep, over_limit, skip_line, with_value}
use Rattle.m4_engine.specs.File.{Progress, Source, Opened}
use Rattle.m4_state.specs.Device.{Script}
use Rattle.m4_engine.specs.declared.source.Source.{Source as RunSource}
use Rattle.m4_engine.specs.RunSources.{source_of, ExtendsSource}
use Rattle.m4_engine.specs.Run.{RunResult, closed_output, status_of}

-- within `role_of`
abbrev pub role_by : Bool → Bool → Bool → Bool → Role
role_by v x y z = if v then Opening else (if x then Closing else (if y then Separator else (if z then Blank else Other)))

-- within `put_text`, `put_token` and `after_call`
abbrev pub mode_with_text : List ℕ → Mode → Mode
mode_with_text x mode = in_list (λ (c : Call). record c { begun = true; bytes = c.bytes ++ x }) mode

abbrev pub mode_with_token : Def → Mode → Mode
mode_with_token d mode = in_list (λ (c : Call). record c { begun = true; tokens = c.tokens ++ d ∷ [] }) mode

abbrev pub mode_after_call : Mode → Mode
mode_after_call mode = in_list (λ (c : Call). record c { begun = true }) mode

-- within `effected`
abbrev pub skip_or_push : Bool → Option Pushed → Expansion → Outcome Expansion Ended
skip_or_push skip v s =
    if skip then skip_line (line_length (text_of s.pending)) s
    else Closed (reading (with_value v s.pending) s)

-- within `join`
abbrev pub join_by : Mode → Kept → Expansion → Outcome Expansion Ended
join_by mode kept t = elim mode [ Outside ↦ Closed t | Collecting c ↦ called c t kept ]

-- within `call`
abbrev pub call_unless_deep : Bool → Bool → Call → Pending → Expansion → Turn Expansion Kept Ended
call_unless_deep deep listed c p s =
    if deep then over_limit (s.limits).nesting (codes " nested calls") causes.NestingLimit c s
    else collect listed c p s

abbrev pub call_if_room : Bool → Bool → Call → Pending → Expansion → Turn Expansion Kept Ended
call_if_room room listed c p s =
    if room then call_unless_deep (is_deep s) listed c p (with_call s)
    else over_limit (s.limits).calls (codes " calls") causes.ExpansionLimit c s

-- within `take_call`
abbrev pub call_without_list : Bool → Call → Pending → Expansion → Turn Expansion Kept Ended
call_without_list needs_list c p s = if needs_list then GoOn (put_text c.name (reading p s)) else call false c p s

-- within `opened_source`
abbrev pub whole : List ℕ → List ℕ → Bool → Option Source
whole name bytes fails = if fails then None else Some (Opened name bytes)

-- within `after_source`
abbrev pub unless_over : Option EndReason → Progress → Progress → Progress
unless_over over old new = elim over [ None ↦ new | Some reason ↦ old ]

-- within `status_of`
abbrev pub status_by : Bool → ℕ
status_by any_missing = if any_missing then 1 else 0

-- within `saved_after`
abbrev pub saved_unless_over : Option EndReason → RunSoFar → List (List ℕ)
saved_unless_over over r = elim over [ None ↦ r.saved | Some reason ↦ [] ]

-- within `result_of`
abbrev pub frozen_text : Bool → State → Option (List ℕ)
frozen_text freezes s = if freezes then Some (freeze s) else None

abbrev pub result_by : Option EndReason → Bool → List (List ℕ) → RunSoFar → Bool → RunResult
result_by over freezes saved r any_missing = record {
  output = elim over [ None ↦ closed_output freezes r | Some reason ↦ r.output ];
  messages = r.messages;
  reason = unwrap_or over (Ends causes.Done);
  status = status_of (unwrap_or over (Ends causes.Done)) any_missing;
  frozen = elim over [ None ↦ frozen_text freezes r.state | Some reason ↦ None ];
  calls = r.calls;
  saved = saved;
}

-- a source of a run, as `DescribeSources` has all of them
abbrev pub DescribesSource : {R : Type 0} → (R → Option Script) → RunSource R → RunSource R → Source → Type 0
DescribesSource script before after s = (source_of script before ≡ Some s) ⊎ ExtendsSource script before after s
