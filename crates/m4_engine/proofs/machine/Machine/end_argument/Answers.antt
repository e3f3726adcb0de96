-- The innermost call has its argument complete, and the others are as they were.
use Rattle.std.proofs.Common.{◌≡◌, ◌<◌, ◌≤◌, ◌-◌, ◌∷◌, ◌++◌, List, ℕ, length, ap, ap₂, refl, sym, ◌∙◌, arith, rules}
use Rattle.std.specs.Prelude.{slice_set, slice_index_or}
use Rattle.m4_engine.specs.Args.{dropped_if_any, with_argument}
use Rattle.m4_engine.specs.Engine.{Engine, ending_in, ending_argument}
use Rattle.m4_engine.specs.Expansion.{Call}
use Rattle.m4_engine.specs.MachineView.{engine_view, open_of}
use Rattle.m4_engine.proofs.Stack.{innermost_is, innermost_set}
use Rattle.m4_engine.proofs.machine.Machine.end_argument.Goals as goal

ended : (e : Engine) (xs : List Call) (n : ℕ) (c c' : Call) (ms : List ℕ) → 0 < n → n ≤ length xs
    → e.open_calls ≡ open_of n xs → c ≡ slice_index_or xs (n - 1) c → c' ≡ with_argument c
    → ms ≡ e.messages ++ dropped_if_any c.place c.bytes c.tokens
    → record e { open_calls = open_of n (slice_set xs (n - 1) c'); messages = ms } ≡ ending_argument e
ended e xs n c c' ms some within opens is complete told =
    ap₂ (λ (cs : List Call) (x : List ℕ). record e { open_calls = cs; messages = x })
    (innermost_set xs n c' some within ∙ ap (λ (d : Call). d ∷ open_of (n - 1) xs) complete) told
    ∙ sym (ap (λ (cs : List Call). ending_in cs e) (opens ∙ innermost_is xs n c some within is))

pub returns-in_ok-add_dropped-clause-engine : goal.returns-in_ok-add_dropped-clause-engine
returns-in_ok-add_dropped-clause-engine c =
    ended (engine_view c.self.inside) c.self.inside.stack.items c.self.inside.depth c.index_mut-call.result.now
    c.end_argument.new.self c.add_dropped.new.messages.items (omega (arith, c.if-self-eq0.false)) c.self.invariant refl
    c.index_mut-call.ensures.value (search rules) (search rules)
    ∙ ap ending_argument c.self.view_is

pub returns-else-branch-clause-engine : goal.returns-else-branch-clause-engine
returns-else-branch-clause-engine c =
    ended (engine_view c.self.inside) c.self.inside.stack.items c.self.inside.depth c.index_mut-call.result.now
    c.end_argument.new.self c.self.inside.messages.items (omega (arith, c.if-self-eq0.false)) c.self.invariant refl
    c.index_mut-call.ensures.value (search rules) (search rules)
    ∙ ap ending_argument c.self.view_is
