-- The counts of failures after the end of a line.
use Rattle.std.proofs.Common.{◌≡◌, ◌≢◌, ℕ, Bool, true, false, Option, Some, None, ◌⊎◌, inl, inr, refl, sym, ap, ◌∙◌, subst}
use Rattle.m4_frozen.specs.declared.fault.FrozenKind.{FrozenKind}
use Rattle.m4_frozen.specs.declared.fault.FrozenKind.TheVariants as kinds
use Rattle.m4_engine.specs.declared.ending.Cause.{Cause}
use Rattle.m4_engine.specs.declared.ending.Cause.TheVariants as causes
use Rattle.m4_tool.specs.declared.followed.Failure.{Failure}
use Rattle.m4_tool.specs.declared.followed.Failure.TheVariants as failures
use Rattle.m4_tool.specs.FailureCounts.{AnyRose, Grew, NoneRose, Rose, counts}
use Rattle.m4_tool.specs.LineEnd.{failure_of, frozen_failure}
use Rattle.m4_tool.specs.LineRun.{AllGrew, ClosedAs, FlushedAs, RefusedAs, failure_after}
use Rattle.m4_tool.proofs.Counts.{grew_none, grew_then, rose_grew, rose_then, then_rose}
use Rattle.m4_tool.proofs.LineEnds.{no_report}

flushed_all : (c : Cause) (b : Bool) → failure_of c b ≡ None → b ≡ true
flushed_all c true e = refl
flushed_all (causes.Frozen f) false e = absurd cc
flushed_all c false e = absurd cc

frozen_is_no_write : (k : FrozenKind) → frozen_failure k ≡ Some failures.Write → ⊥
frozen_is_no_write kinds.OutOfMemory e = cc
frozen_is_no_write k e = cc

write_caused : (c : Cause) → failure_of c true ≡ Some failures.Write → c ≡ causes.Write
write_caused causes.Write e = refl
write_caused (causes.Frozen f) e = absurd (frozen_is_no_write f.kind e)
write_caused c e = absurd cc

not_written : (c : Cause) → failure_of c true ≡ None → c ≢ causes.Write
not_written causes.Write e k = cc
not_written c e k = cc

refused_grew : (reported : Bool) (f g : ℕ) → RefusedAs reported f g → Grew f g
refused_grew true f g h = grew_none f g h
refused_grew false f g h = rose_grew f g h

module _ (cause : Cause) (o0 o1 m0 m1 m2 m3 w0 w1 : ℕ) where
  -- nothing failed, or no more than the report of a refused file
  none_closed : (reported : Bool) → failure_of cause true ≡ None → NoneRose (counts o0 o1 m0 m1 w0 w1)
      → RefusedAs reported m1 m2 → m3 ≡ m2 → ClosedAs cause (failure_after None reported) (counts o0 o1 m0 m3 w0 w1)
  none_closed true e n r u = (not_written cause e, (n.0, u ∙ r ∙ n.1, n.2))
  none_closed false e n r u = subst (λ (k : ℕ). Rose m0 k) (sym u) (then_rose m0 m1 m2 (grew_none m0 m1 n.1) r)

  any_closed : Grew m1 m3 → AnyRose (counts o0 o1 m0 m1 w0 w1) → AnyRose (counts o0 o1 m0 m3 w0 w1)
  any_closed g (inl h) = inl h
  any_closed g (inr (inl h)) = inr (inl (rose_then m0 m1 m3 h g))
  any_closed g (inr (inr h)) = inr (inr h)

  write_closed : (flushed : Bool) → failure_of cause flushed ≡ Some failures.Write → FlushedAs flushed (counts o0 o1 m0 m1 w0 w1)
      → Grew m1 m3 → AllGrew (counts o0 o1 m0 m3 w0 w1) × ((cause ≡ causes.Write) ⊎ AnyRose (counts o0 o1 m0 m3 w0 w1))
  write_closed true e n g =
      ((grew_none o0 o1 n.0, grew_then m0 m1 m3 (grew_none m0 m1 n.1) g, grew_none w0 w1 n.2), inl (write_caused cause e))
  write_closed false e n g = (((n.0).0, grew_then m0 m1 m3 (n.0).1 g, (n.0).2), inr (any_closed g n.1))

  pub closed_as : (flushed reported : Bool) → FlushedAs flushed (counts o0 o1 m0 m1 w0 w1) → RefusedAs reported m1 m2
      → Grew m2 m3 → (failure_of cause flushed ≡ None → m3 ≡ m2)
      → ClosedAs cause (failure_after (failure_of cause flushed) reported) (counts o0 o1 m0 m3 w0 w1)
  closed_as flushed reported h r g u = go (failure_of cause flushed) refl
    where
      go : (f : Option Failure) → failure_of cause flushed ≡ f → ClosedAs cause (failure_after f reported) (counts o0 o1 m0 m3 w0 w1)
      go None e =
          let t : flushed ≡ true = flushed_all cause flushed e in
          none_closed reported (ap (failure_of cause) (sym t) ∙ e)
          (subst (λ (b : Bool). FlushedAs b (counts o0 o1 m0 m1 w0 w1)) t h) r (u e)
      go (Some failures.Write) e = write_closed flushed e h (grew_then m1 m2 m3 (refused_grew reported m1 m2 r) g)
      go (Some failures.Report) e = absurd (no_report cause flushed e)
      go (Some f) e = tt
