use Rattle.std.proofs.Common.{◌≡◌, ◌-◌, ◌+◌, ap, ◌∙◌, List, ℕ, take, drop, length, arith}
use Rattle.std.specs.Rc.{rc_slice_items}
use Rattle.std.proofs.lemmas.List.{length-take}
use Rattle.m4_state.proofs.Parts.{part_of}
use Rattle.m4_state.proofs.bytes.Part.part.Goals as goal

pub returns : goal.returns
returns c =
    let p = c.self.inside in
    let x : List ℕ = rc_slice_items p.slice in
    let all : length (take (p.to - p.from) (drop p.from x)) ≡ length c.args.self.now = ap length c.self.view_is in
    ap (λ (y : List ℕ). take ((p.from + c.args.from + c.args.len) - (p.from + c.args.from)) (drop (p.from + c.args.from) y)) c.in_ok-clone.ensures.cases
    ∙ part_of p.from p.to c.args.from c.args.len x (omega (arith, all, length-take (p.to - p.from) (drop p.from x)))
    ∙ ap (λ (y : List ℕ). take c.args.len (drop c.args.from y)) c.self.view_is
