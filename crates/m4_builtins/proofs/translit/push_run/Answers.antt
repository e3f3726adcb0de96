use Rattle.std.proofs.Common.{◌≡◌, ◌+◌, ◌-◌, ◌++◌, ℕ, List, ap, sym, ◌∙◌, arith, append-nil}
use Rattle.m4_builtins.proofs.Replaced.{between-next, between-rises, between-falls, between-none}
use Rattle.m4_builtins.proofs.translit.push_run.Goals as goal

pub loop-byte-preserved : goal.loop-byte-preserved
loop-byte-preserved c =
    let byte : ℕ = c.loop-byte.byte in
    between-next c.loop-byte.out.items c.push.new.self.items _ byte (byte + 1) c.args.to
    (between-rises byte c.args.to c.loop-byte-test.true) c.in_ok-push.ensures.items c.loop-byte.invariant

pub loop-byte-2-preserved : goal.loop-byte-2-preserved
loop-byte-2-preserved c =
    let byte : ℕ = c.loop-byte-2.byte in
    record {
      written = between-next c.loop-byte-2.out.items c.push-in-loop-byte-2.new.self.items _ byte (byte - 1) c.args.to
          (between-falls byte c.args.to c.loop-byte-2-test.true) c.in_ok-push-2.ensures.items c.loop-byte-2.invariant.written;
      falls = omega arith;
    }

-- the end is where the bytes were to go
pub returns : goal.returns
returns c =
    let out : List ℕ = c.loop-byte-2.out.items in
    let there : c.loop-byte-2.byte ≡ c.args.to = omega arith in
    sym (append-nil out) ∙ ap (λ (x : List ℕ). out ++ x) (sym (between-none c.loop-byte-2.byte c.args.to there)) ∙ c.loop-byte-2.invariant.written
