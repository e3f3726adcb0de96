-- Counts of failures, over several calls.
use Rattle.std.proofs.Common.{◌≡◌, ℕ, Bool, true, false, List, Option}
use Rattle.std.proofs.Common.{inl, inr, arith}
use Rattle.std.specs.Prelude.{Result, Ok, Err}
use Rattle.m4_state.specs.Device.{Puts, count_after, one_more}
use Rattle.m4_tool.specs.FailureCounts.{AnyRose, Counts, Grew, NoneRose, Rose, counts}
use Rattle.m4_tool.specs.LineEnd.{Reported}
use Rattle.m4_tool.specs.LineRun.{AllGrew, FlushedAs}

pub grew_none : (f g : ℕ) → g ≡ f → Grew f g
grew_none f g e = omega (arith, e)

pub rose_one : (f g : ℕ) → g ≡ one_more f → Rose f g
rose_one f g e = omega (arith, e)

pub grew_one : (f g : ℕ) → g ≡ one_more f → Grew f g
grew_one f g e = omega (arith, e)

pub rose_grew : (f g : ℕ) → Rose f g → Grew f g
rose_grew f g h = omega (arith, h)

pub grew_then : (f g h : ℕ) → Grew f g → Grew g h → Grew f h
grew_then f g h a b = omega (arith, a, b)

pub rose_then : (f g h : ℕ) → Rose f g → Grew g h → Rose f h
rose_then f g h a b = omega (arith, a, b)

pub then_rose : (f g h : ℕ) → Grew f g → Rose g h → Rose f h
then_rose f g h a b = omega (arith, a, b)

-- by the result of one call
pub reported_by : {A E : Type 0} (r : Result A E) (line : List ℕ) (old new : Option (List ℕ)) (f g : ℕ)
    → Puts r old new line → g ≡ count_after r f → Reported line old new f g
reported_by (Ok x) line old new f g p e = inl (p, grew_none f g e)
reported_by (Err x) line old new f g p e = inr (p, rose_one f g e)

pub grew_after : {A E : Type 0} (r : Result A E) (f g : ℕ) → g ≡ count_after r f → Grew f g
grew_after (Ok x) f g e = grew_none f g e
grew_after (Err x) f g e = grew_one f g e

pub reported_grew : (line : List ℕ) (old new : Option (List ℕ)) (f g : ℕ) → Reported line old new f g → Grew f g
reported_grew line old new f g (inl r) = r.1
reported_grew line old new f g (inr r) = rose_grew f g r.1

pub before_reported : (line : List ℕ) (old new : Option (List ℕ)) (f g h : ℕ) → Grew f g → Reported line old new g h
    → Reported line old new f h
before_reported line old new f g h a (inl r) = inl (r.0, grew_then f g h a r.1)
before_reported line old new f g h a (inr r) = inr (r.0, then_rose f g h a r.1)

pub unrisen_grew : (c : Counts) → NoneRose c → AllGrew c
unrisen_grew c n = (grew_none c.out_old c.out_new n.0, grew_none c.messages_old c.messages_new n.1, grew_none c.world_old c.world_new n.2)

pub flushed_grew : (r : Bool) (c : Counts) → FlushedAs r c → AllGrew c
flushed_grew true c h = unrisen_grew c h
flushed_grew false c h = h.0

pub then_any : (o o1 o2 m m1 m2 w w1 w2 : ℕ) → AllGrew (counts o o1 m m1 w w1) → AnyRose (counts o1 o2 m1 m2 w1 w2) → AnyRose (counts o o2 m m2 w w2)
then_any o o1 o2 m m1 m2 w w1 w2 g (inl h) = inl (then_rose o o1 o2 g.0 h)
then_any o o1 o2 m m1 m2 w w1 w2 g (inr (inl h)) = inr (inl (then_rose m m1 m2 g.1 h))
then_any o o1 o2 m m1 m2 w w1 w2 g (inr (inr h)) = inr (inr (then_rose w w1 w2 g.2 h))
