use Rattle.std.proofs.Common.{◌≡◌, List, None, true, false, sym, ap, subst, ◌∙◌, to_z, of_z}
use Rattle.std.specs.Prelude.{pos, int_lt}
use Rattle.std.specs.Int.{w32}
use Rattle.std.specs.Ordering.{int_eq}
use Rattle.std.proofs.lemmas.Int.{to_z-of_z}
use Rattle.m4_state.specs.State.{State, NumberedText, unless_empty, issued_from, undiverted}
use Rattle.m4_state.specs.StateView.{view_of}
use Rattle.m4_state.proofs.Undiverted.{issued_from-current, issued_from-zero, is_zero, undiverted-positive, differs}
use Rattle.m4_state.proofs.state.State.undivert.Goals as goal

-- the current diversion issues nothing
pub returns-then-number-self-clause-issued : goal.returns-then-number-self-clause-issued
returns-then-number-self-clause-issued c =
    let n = c.args.number in
    let current = c.self.inside.current in
    let same : n ≡ current = sym (to_z-of_z w32 n c.ranges.number) ∙ ap (to_z w32) c.if-number-self.true ∙ to_z-of_z w32 current c.self.invariant.0.current in
    subst (λ (s : State). None ≡ unless_empty (issued_from s n)) c.self.view_is (issued_from-current (view_of c.self.inside) n c.self.invariant.0 same)

-- where it is positive, the text is moved
pub returns-then-self-gt0-clause-ok : goal.returns-then-self-gt0-clause-ok
returns-then-self-gt0-clause-ok c =
    let n = c.args.number in
    let s : State = view_of c.self.inside in
    let positive : int_lt (pos 0) s.current ≡ true = rw (to_z-of_z w32 s.current c.self.invariant.0.current) at c.if-self-gt0.true in
    let apart : int_eq n s.current ≡ false = differs n s.current (λ same. c.if-number-self.false (ap (of_z w32) same)) in
    let moved = rw (to_z-of_z w32 n c.ranges.number) at (rw (to_z-of_z w32 s.current c.self.invariant.0.current) at c.in_ok-move_text.ensures.ok) in
    ap (λ (ds : List NumberedText). let t : State = record s { diversions = ds } in t) moved
    ∙ undiverted-positive s n c.self.invariant.0 apart positive
    ∙ ap (λ (t : State). undiverted t n) c.self.view_is

-- where the current number is 0, the text is handed out
pub returns-clause-issued : goal.returns-clause-issued
returns-clause-issued c =
    let n = c.args.number in
    let s : State = view_of c.self.inside in
    let below : int_lt s.current (pos 0) ≡ false = rw (to_z-of_z w32 s.current c.self.invariant.0.current) at c.if-self-lt0.false in
    let above : int_lt (pos 0) s.current ≡ false = rw (to_z-of_z w32 s.current c.self.invariant.0.current) at c.if-self-gt0.false in
    let text = rw (to_z-of_z w32 n c.ranges.number) at c.take-taken.ensures.text in
    text ∙ issued_from-zero s n c.self.invariant.0 (is_zero s.current below above)
    ∙ ap (λ (t : State). unless_empty (issued_from t n)) c.self.view_is
