use Rattle.std.proofs.Common.{◌++◌, ◌<◌, length, arith, sym, ap, ◌∙◌, ℤ, List, ◌∷◌, [], subst}
use Rattle.std.proofs.Common.{append_assoc, append-nil}
use Rattle.std.specs.Int.{w32}
use Rattle.std.proofs.lemmas.Int.{to_z-of_z}
use mir.Val.{to_z}
use Rattle.m4_state.specs.State.{NumberedText}
use Rattle.m4_state.specs.NumbersAbove.{above, numbers_above}
use Rattle.m4_state.proofs.NumbersAbove.{above-next, above-last, above-all, next_fits}
use Rattle.m4_builtins.proofs.diverting.held_numbers.Goals as goal

-- all diversions lie above 0
pub loop-number-init : goal.loop-number-init
loop-number-init c valid =
    let ds = c.args.state.now.diversions in
    let all = above-all ds valid.each in
    rw c.new-numbers.ensures.items (ap (λ (es : List NumberedText). Rattle.std.proofs.Common.map (λ e. e.0) es) all)

-- one diversion less is left
pub loop-number-smaller : goal.loop-number-smaller
loop-number-smaller c =
    let n = to_z w32 c.loop-number.last-bits in
    let ds = c.args.state.now.diversions in
    let valid = c.in-Some.ensures.valid in
    let next = above-next n c.in-Some.number ds valid.sorted (sym c.in-Some.ensures.next) in
    let fits = next_fits n c.in-Some.number ds valid.each (sym c.in-Some.ensures.next) in
    let smaller : length (above c.in-Some.number ds) < length (above n ds) = rw next.above_is (omega arith) in
    subst (λ (z : ℤ). length (above z ds) < length (above n ds)) (sym (to_z-of_z w32 c.in-Some.number fits)) smaller

-- its number was taken down
pub loop-number-preserved : goal.loop-number-preserved
loop-number-preserved c _ =
    let n = to_z w32 c.loop-number.last-bits in
    let m = c.in-Some.number in
    let ds = c.args.state.now.diversions in
    let valid = c.in-Some.ensures.valid in
    let next = above-next n m ds valid.sorted (sym c.in-Some.ensures.next) in
    let fits = next_fits n m ds valid.each (sym c.in-Some.ensures.next) in
    let inv = rw next.above_is at c.loop-number.invariant valid in
    let pushed = rw (to_z-of_z w32 m fits) at c.in_ok-push.ensures.items in
    rw (to_z-of_z w32 m fits)
    (ap (λ (x : List ℤ). x ++ numbers_above m ds) pushed ∙ append_assoc c.loop-number.numbers.items (m ∷ []) (numbers_above m ds) ∙ inv)

-- none is left
pub returns : goal.returns
returns c =
    let none = above-last (to_z w32 c.loop-number.last-bits) c.args.state.now.diversions (sym c.in_default.ensures.next) in
    let inv = rw none at c.loop-number.invariant c.in_default.ensures.valid in
    sym (append-nil c.loop-number.numbers.items) ∙ inv
