use Rattle.std.proofs.Common.{◌++◌, pos, refl, append-nil, rules, arith, get_or, ◌≡◌}
use Rattle.std.specs.Prelude.{FitsSigned, option_map}
use Rattle.std.specs.Int.{w32}
use Rattle.std.proofs.lemmas.Int.{to_z-of_z}
use Rattle.m4_state.specs.State.{undiverted, issued_from, unless_empty}
use Rattle.m4_builtins.proofs.Brought.{handed_out, state-next, output-next}
use Rattle.m4_builtins.proofs.diverting.bring_back.Goals as goal
use Rattle.m4_builtins.proofs.diverting.bring_back.Goals.{in-Some+in_ok-extend_from_slice, in_default}

-- one number less is left
pub loop-number-preserved : goal.loop-number-preserved
loop-number-preserved c =
    let numbers = c.args.numbers.now in
    let i = c.loop-number.number-index in
    let n = get_or numbers i (pos 0) in
    let s = c.loop-number.state in
    let t = c.undivert.new.self in
    let fits : FitsSigned w32 n = search rules in
    let step : t ≡ undiverted s n = rw (to_z-of_z w32 n fits) at c.in_ok-text.ensures.ok in
    let r = c.in_ok-text.field-0 in
    let given : option_map (λ x. x.items) r ≡ unless_empty (issued_from s n) = rw (to_z-of_z w32 n fits) at c.in_ok-text.ensures.issued in
    let written : c.match-branch-2.output.items ≡ c.loop-number.output.items ++ handed_out r = elim c.match-branch-2.branch [
      | in-Some+in_ok-extend_from_slice w ↦ search (rules, w.in-Some.is)
      | in_default w ↦ search (rules, w.in_default.is, append-nil)
    ] in
    record {
      state = state-next numbers i n s t (omega arith) refl step _ c.loop-number.invariant.state;
      output = output-next numbers i n s t (omega arith) refl step r c.loop-number.output.items
          c.match-branch-2.output.items _ given written c.loop-number.invariant.output;
    }
