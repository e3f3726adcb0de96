use Rattle.std.proofs.Common.{◌≡◌, List, ℕ, ℤ, Vec, Some, None, ◌&&◌, not, false, ap, sym, ◌∙◌}
use Rattle.std.specs.Int.{w32}
use Rattle.std.specs.List.{filter}
use Rattle.std.specs.Ordering.{int_cmp, is_lt}
use Rattle.std.proofs.lemmas.Int.{to_z-of_z}
use Rattle.std.specs.declared.alloc.Global.{Global}
use Rattle.m4_state.specs.State.{next_after, NumberedText}
use Rattle.m4_state.specs.DiversionEntries.{texts_of}
use Rattle.m4_state.proofs.TextsByNumber.{next_after-range, first_number, first_fits}
use Rattle.m4_state.proofs.diversions.Diversions.next.Goals as goal

-- the first entry after the number has the next one
pub returns-in-Some : goal.returns-in-Some
returns-in-Some c =
    let es : List (ℤ × Vec ℕ Global) = c.self.inside.texts.entries in
    let between : c.range-after.result ≡ filter (λ e. is_lt (int_cmp c.args.number e.0) && not false) es =
    rw (to_z-of_z w32 c.args.number c.ranges.number) at (c.range-after.ensures.between tt) in
    let first = sym between ∙ c.in-Some.ensures.steps in
    let next : next_after (texts_of es) c.args.number ≡ Some c.in-Some.next.now = next_after-range c.args.number es ∙ ap first_number first in
    rw (to_z-of_z w32 c.in-Some.next.now (first_fits c.args.number es _ _ c.self.invariant.0.each first))
    (sym next ∙ ap (λ (ds : List NumberedText). next_after ds c.args.number) c.self.view_is)

-- no entry follows the number
pub returns-in-None : goal.returns-in-None
returns-in-None c =
    let es : List (ℤ × Vec ℕ Global) = c.self.inside.texts.entries in
    let between : c.range-after.result ≡ filter (λ e. is_lt (int_cmp c.args.number e.0) && not false) es =
    rw (to_z-of_z w32 c.args.number c.ranges.number) at (c.range-after.ensures.between tt) in
    let next : next_after (texts_of es) c.args.number ≡ None = next_after-range c.args.number es ∙ ap first_number (sym between ∙ c.in-None.ensures.steps.0) in
    sym next ∙ ap (λ (ds : List NumberedText). next_after ds c.args.number) c.self.view_is
