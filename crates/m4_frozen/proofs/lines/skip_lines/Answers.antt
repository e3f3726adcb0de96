-- The lines go up to the first letter, or to the end.
use Rattle.std.proofs.Common.{◌≡◌, take, sym, refl, inl, arith}
use Rattle.std.proofs.lemmas.Grind.{common_steps}
use Rattle.std.proofs.lemmas.List.{append-nil, take_all}
use Rattle.m4_frozen.proofs.lines.skip_lines.Goals as goal

pub returns : goal.returns
returns c =
    let all : take c.loop-i.i c.args.bytes.now ≡ c.args.bytes.now =
    take_all c.loop-i.i c.args.bytes.now (omega arith) in record {
      skipped = c.args.bytes.now;
      spelled = sym (append-nil c.args.bytes.now);
      same = λ more. rw all at (c.loop-i.invariant more);
      begins = inl refl;
    }

pub returns-then-b-ne10 : goal.returns-then-b-ne10
returns-then-b-ne10 c = grind (arith, common_steps)

pub loop-i-preserved : goal.loop-i-preserved
loop-i-preserved c = grind (arith, common_steps)
