use Rattle.std.proofs.Common.{◌≡◌, ◌+◌, ◌++◌, ◌∷◌, ℕ, ℤ, List, Option, drop, sym, ap, ◌∙◌, arith, rules, append-nil}
use Rattle.std.specs.Prelude.{filter_map, option_to_list}
use Rattle.std.specs.List.{cons_option}
use Rattle.std.proofs.lemmas.Grind.{common_steps}
use Rattle.std.proofs.lemmas.List.{drop_more}
use Rattle.m4_builtins.specs.declared.args.Arg.{Arg}
use Rattle.m4_builtins.specs.Args.{text_of_arg}
use Rattle.m4_builtins.specs.Diverting.{brought_back, issued_by_all, readings_of}
use Rattle.m4_builtins.specs.Numeric.{number_of_reading, reading_of}
use Rattle.m4_builtins.proofs.Brought.{each-next}
use Rattle.m4_builtins.proofs.diverting.bring_back_each.Goals as goal
use Rattle.m4_builtins.proofs.diverting.bring_back_each.Goals.{in-Some+in_ok-bring_back, in_default}

-- one argument less is left
pub loop-arg-preserved : goal.loop-arg-preserved
loop-arg-preserved c =
    let list = c.args.list.now in
    let i = c.loop-arg.arg-index in
    let arg : Arg = c.arg-item.result in
    let o = c.in_ok-number.field-0 in
    let others = filter_map number_of_reading (readings_of (drop (i + 1) list)) in
    let s = c.loop-arg.state in
    let t = c.match-branch-2.state in
    let line : drop i list ≡ arg ∷ drop (i + 1) list = drop_more list i arg (omega arith) ∙ ap (λ (a : Arg). a ∷ drop (i + 1) list) (sym c.arg-item.is) in
    let is : o ≡ number_of_reading (reading_of (text_of_arg arg)) = c.in_ok-number.ensures.number
    ∙ ap (λ (x : List ℕ). number_of_reading (reading_of x)) c.text_of.ensures in
    let left : filter_map number_of_reading (readings_of (drop i list)) ≡ cons_option o others =
    ap (λ (xs : List Arg). filter_map number_of_reading (readings_of xs)) line ∙ ap (λ (v : Option ℤ). cons_option v others) (sym is) in
    let step : t ≡ brought_back (option_to_list o) s = elim c.match-branch-2.branch [
      | in-Some+in_ok-bring_back w ↦ search (rules, w.in-Some.is)
      | in_default w ↦ search (rules, w.in_default.is)
    ] in
    let written : c.match-branch-2.output.items ≡ c.loop-arg.output.items ++ issued_by_all (option_to_list o) s = elim c.match-branch-2.branch [
      | in-Some+in_ok-bring_back w ↦ search (rules, w.in-Some.is)
      | in_default w ↦ search (rules, w.in_default.is, append-nil)
    ] in
    let next = each-next o others s t c.loop-arg.output.items c.match-branch-2.output.items step written in
    record {
      state = next.0 ∙ ap (λ (ns : List ℤ). brought_back ns s) (sym left) ∙ c.loop-arg.invariant.state;
      output = next.1 ∙ ap (λ (ns : List ℤ). c.loop-arg.output.items ++ issued_by_all ns s) (sym left) ∙ c.loop-arg.invariant.output;
      warned = grind (arith, common_steps);
    }

pub returns-clause-state : goal.returns-clause-state
returns-clause-state c = grind (arith, common_steps)

pub returns-clause-output : goal.returns-clause-output
returns-clause-output c = grind (arith, common_steps)

pub returns-clause-warns : goal.returns-clause-warns
returns-clause-warns c = grind (arith, common_steps)
