use Rattle.std.proofs.Common.{◌<◌, length, arith, sym, ◌∙◌, ℤ, refl, subst}
use Rattle.std.specs.Int.{w32}
use Rattle.std.proofs.lemmas.Int.{to_z-of_z}
use mir.Val.{to_z}
use Rattle.m4_state.proofs.CallerLaws.{HasPut-start, HasPut-put, HasPut-cut, HasPut-all, Puts-refused}
use Rattle.m4_state.specs.NumbersAbove.{above}
use Rattle.m4_state.proofs.NumbersAbove.{above-next, above-last, above-all, next_fits}
use Rattle.m4_frozen.proofs.items.put_texts.Goals as goal

-- all diversions lie above 0
pub loop-number-init : goal.loop-number-init
loop-number-init g c = (λ valid. rw (above-all c.args.state.now.diversions valid.each) (HasPut-start _ _, refl), refl)

-- a diversion failed
pub returns-in_err-put_diversion-clause-puts : goal.returns-in_err-put_diversion-clause-puts
returns-in_err-put_diversion-clause-puts g c =
    let next = above-next (to_z w32 c.loop-number.last-bits) c.in-Some.number c.args.state.now.diversions
    c.in-Some.ensures.valid.sorted (sym c.in-Some.ensures.next) in
    let fits = next_fits (to_z w32 c.loop-number.last-bits) c.in-Some.number c.args.state.now.diversions
    c.in-Some.ensures.valid.each (sym c.in-Some.ensures.next) in
    let left = rw next.above_is at (c.loop-number.invariant.0 c.in-Some.ensures.valid).0 in
    let put = rw (c.diversion.ensures, to_z-of_z w32 c.in-Some.number fits) at c.in_err-put_diversion.ensures.puts in
    Puts-refused c.from_residual.result _ _ _ c.from_residual.ensures.0 (HasPut-cut _ _ _ left put.0 put.1)

-- one diversion less is left
pub loop-number-smaller : goal.loop-number-smaller
loop-number-smaller g c =
    let n = to_z w32 c.loop-number.last-bits in
    let ds = c.args.state.now.diversions in
    let next = above-next n c.in-Some.number ds c.in-Some.ensures.valid.sorted (sym c.in-Some.ensures.next) in
    let fits = next_fits n c.in-Some.number ds c.in-Some.ensures.valid.each (sym c.in-Some.ensures.next) in
    let smaller : length (above c.in-Some.number ds) < length (above n ds) = rw next.above_is (omega arith) in
    subst (λ (z : ℤ). length (above z ds) < length (above n ds)) (sym (to_z-of_z w32 c.in-Some.number fits)) smaller

-- a diversion was put
pub loop-number-preserved : goal.loop-number-preserved
loop-number-preserved g c =
    let n = to_z w32 c.loop-number.last-bits in
    let ds = c.args.state.now.diversions in
    let next = above-next n c.in-Some.number ds c.in-Some.ensures.valid.sorted (sym c.in-Some.ensures.next) in
    let fits = next_fits n c.in-Some.number ds c.in-Some.ensures.valid.each (sym c.in-Some.ensures.next) in
    let inv = rw next.above_is at c.loop-number.invariant.0 c.in-Some.ensures.valid in
    let put = rw (c.diversion.ensures, to_z-of_z w32 c.in-Some.number fits) at c.in_ok-put_diversion.ensures.puts in
    rw (to_z-of_z w32 c.in-Some.number fits) ((λ valid. (HasPut-put _ _ _ inv.0 put, inv.1)), c.in_ok-put_diversion.ensures.counted ∙ c.loop-number.invariant.1)

-- none is left
pub returns-clause-puts : goal.returns-clause-puts
returns-clause-puts g c =
    HasPut-all _ (rw (above-last (to_z w32 c.loop-number.last-bits) c.args.state.now.diversions
    (sym c.in_default.ensures.next)) at (c.loop-number.invariant.0 c.in_default.ensures.valid).0)

pub returns-clause-last : goal.returns-clause-last
returns-clause-last g c =
    rw (above-last (to_z w32 c.loop-number.last-bits) c.args.state.now.diversions (sym c.in_default.ensures.next)) at
    (c.loop-number.invariant.0 c.in_default.ensures.valid).1
