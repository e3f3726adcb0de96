-- Closing: the end of a run, which freezes its state or undiverts its diversions.
use Rattle.std.proofs.Common.{◌≡◌, inl, ℕ, Bool, true, false, List, Option, refl, sym, subst}
use Rattle.std.specs.Prelude.{Result, Ok, Err}
use Rattle.m4_engine.specs.declared.ending.Cause.TheVariants as causes
use Rattle.m4_engine.specs.declared.stop.Stop.{Stop}
use Rattle.m4_engine.specs.declared.stop.Stop.TheVariants as stops
use Rattle.m4_engine.specs.Order.{InEnd, Breaks, BreaksBy}
use Rattle.m4_engine.specs.RunSteps.{UsesWriters}
use Rattle.m4_engine.specs.Session.{SessionState, FinishGives, FreezeGives, FreezeUses, FrozenGives}
use Rattle.m4_engine.specs.Session.{progress_of}
use Rattle.m4_engine.specs.SessionFailures.{ThreeFail, WriteFails}
use Rattle.m4_engine.specs.Writers.{Contents, Failures, Three, three, both, writers, IsSpared}
use Rattle.m4_engine.proofs.Starts.{spares_any, spared_answer}
use Rattle.m4_engine.proofs.Wrapping.{uses_none}
use Rattle.m4_engine.specs.SessionSteps.{CloseGives, SparesBy}

-- the frozen text's writer after a run that froze
freeze_spares : (old : SessionState) (w : Three (Option (List ℕ))) (r : Result Unit Stop) → FrozenGives old w r → SparesBy r w
freeze_spares old w (Ok done) h = tt
freeze_spares old w (Err stops.Finished) h = h
freeze_spares old w (Err (stops.Ended causes.Done)) h = tt
freeze_spares old w (Err (stops.Ended causes.Write)) h = tt
freeze_spares old w (Err (stops.Ended cause)) h = h

-- the same after one that did not
finish_spares : (w : Three (Option (List ℕ))) (r : Result Unit Stop) → IsSpared w → SparesBy r w
finish_spares w (Ok done) s = tt
finish_spares w (Err stops.Finished) s = s
finish_spares w (Err (stops.Ended cause)) s = spares_any cause w s

finish_fails : (f : Failures) (k : ℕ) (w : Three (Option (List ℕ))) (r : Result Unit Stop) → IsSpared w → WriteFails r f
    → ThreeFail r (record { two = f; frozen_old = k; frozen_new = k }) w
finish_fails f k w (Ok done) s h = (h, refl)
finish_fails f k w (Err stops.Finished) s h = (h, refl)
finish_fails f k w (Err (stops.Ended causes.Write)) s h = inl (h, refl, s)
finish_fails f k w (Err (stops.Ended cause)) s h = (h, refl)

module _ {O M Z : Type 0} (co : O → Option (List ℕ)) (cm : M → Option (List ℕ)) (cz : Z → Option (List ℕ)) (fo : O → ℕ) (fm : M → ℕ) (fz : Z → ℕ) where
  -- what the end of a run writes, and what it leaves of its session and its writers
  pub record Closes (freezes : Bool) (old : SessionState) (o : O) (m : M) (z : Z) (new : SessionState) (o' : O) (m' : M)
      (z' : Z) (r : Result Unit Stop) : Type 0 where
    pub gives : CloseGives freezes old new (three cz (both co cm o o' m m') z z') r
    pub order : BreaksBy r (Breaks (InEnd old.limits) (progress_of old) (both co cm o o' m m'))
    pub any_missing : new.any_missing ≡ old.any_missing
    pub writers : UsesWriters freezes z z' (three fz (both fo fm o o' m m') z z') (three cz (both co cm o o' m m') z z') r
    pub last : FreezeUses old z z' (three cz (both co cm o o' m m') z z') r

  pub freeze_closes : (freezes : Bool) (old : SessionState) (o : O) (m : M) (z : Z) (new : SessionState) (o' : O)
      (m' : M) (z' : Z) (r : Result Unit Stop) → freezes ≡ true
      → FreezeGives old new (three cz (both co cm o o' m m') z z') r
      → BreaksBy r (Breaks (InEnd old.limits) (progress_of old) (both co cm o o' m m'))
      → new.any_missing ≡ old.any_missing
      → ThreeFail r (three fz (both fo fm o o' m m') z z') (three cz (both co cm o o' m m') z z')
      → FreezeUses old z z' (three cz (both co cm o o' m m') z z') r
      → Closes freezes old o m z new o' m' z' r
  freeze_closes freezes old o m z new o' m' z' r e h b a f u = subst (λ (x : Bool). Closes x old o m z new o' m' z' r) (sym e) (record {
    gives = h;
    order = b;
    any_missing = a;
    writers = record { failed = f; spared = λ k. cc; spared_by = freeze_spares old (three cz (both co cm o o' m m') z z') r h.1 };
    last = u;
  })

  pub finish_closes : (freezes : Bool) (old : SessionState) (o : O) (m : M) (z : Z) (new : SessionState) (o' : O)
      (m' : M) (r : Result Unit Stop) → freezes ≡ false → FinishGives old new (both co cm o o' m m') r
      → BreaksBy r (Breaks (InEnd old.limits) (progress_of old) (both co cm o o' m m'))
      → new.any_missing ≡ old.any_missing → WriteFails r (both fo fm o o' m m')
      → Closes freezes old o m z new o' m' z r
  finish_closes freezes old o m z new o' m' r e h b a f = subst (λ (x : Bool). Closes x old o m z new o' m' z r) (sym e) (record {
    gives = (h, refl);
    order = b;
    any_missing = a;
    writers = record {
      failed = finish_fails (both fo fm o o' m m') (fz z) (three cz (both co cm o o' m m') z z) r refl f;
      spared = λ k. refl;
      spared_by = finish_spares (three cz (both co cm o o' m m') z z) r refl;
    };
    last = uses_none old z z (three cz (both co cm o o' m m') z z) r refl;
  })

  -- the same where the two ways join
  pub closes_so : (freezes : Bool) (old : SessionState) (o : O) (m : M) (z : Z) (new new' : SessionState) (o' o'' : O)
      (m' m'' : M) (z' z'' : Z) (r r' : Result Unit Stop) → new' ≡ new → o'' ≡ o' → m'' ≡ m' → z'' ≡ z' → r' ≡ r
      → Closes freezes old o m z new o' m' z' r → Closes freezes old o m z new' o'' m'' z'' r'
  closes_so freezes old o m z new new' o' o'' m' m'' z' z'' r r' e1 e2 e3 e4 e5 h =
      subst (λ (v : SessionState). Closes freezes old o m z v o'' m'' z'' r') (sym e1)
      (subst (λ (v : O). Closes freezes old o m z new v m'' z'' r') (sym e2)
      (subst (λ (v : M). Closes freezes old o m z new o' v z'' r') (sym e3)
      (subst (λ (v : Z). Closes freezes old o m z new o' m' v r') (sym e4)
      (subst (λ (v : Result Unit Stop). Closes freezes old o m z new o' m' z' v) (sym e5) h))))

-- the writers of a run that its end breaks off, by its answer: none failed before
spares_same : (A B : Type 0) (e : Stop) (two two' : Contents) (frozen frozen' : Option (List ℕ))
    → SparesBy {A = A} (Err e) (record { two = two; frozen_old = frozen; frozen_new = frozen' })
    → SparesBy {A = B} (Err e) (record { two = two'; frozen_old = frozen; frozen_new = frozen' })
spares_same A B stops.Finished two two' frozen frozen' h = h
spares_same A B (stops.Ended cause) two two' frozen frozen' h = spared_answer cause two two' frozen frozen' h

pub uses_so : {A B Z : Type 0} (freezes : Bool) (z z' : Z) (out0 out1 out2 reported0 reported1 reported2 k k' : ℕ)
    (two two' : Contents) (frozen frozen' : Option (List ℕ)) (e : Stop) (q : Result A Stop) (r : Result B Stop)
    → out1 ≡ out0 → reported1 ≡ reported0 → q ≡ Err e → r ≡ Err e
    → UsesWriters freezes z z' (record { two = writers out1 out2 reported1 reported2; frozen_old = k; frozen_new = k' })
    (record { two = two; frozen_old = frozen; frozen_new = frozen' }) q
    → UsesWriters freezes z z' (record { two = writers out0 out2 reported0 reported2; frozen_old = k; frozen_new = k' })
    (record { two = two'; frozen_old = frozen; frozen_new = frozen' }) r
uses_so {A = A} {B = B} freezes z z' out0 out1 out2 reported0 reported1 reported2 k k' two two' frozen frozen' e q r o m i j h =
    let w : Three (Option (List ℕ)) = record { two = two; frozen_old = frozen; frozen_new = frozen' } in
    let w' : Three (Option (List ℕ)) = record { two = two'; frozen_old = frozen; frozen_new = frozen' } in
    let g = subst (λ (x : ℕ). UsesWriters freezes z z' (record { two = writers x out2 reported0 reported2; frozen_old = k; frozen_new = k' }) w q) o
    (subst (λ (x : ℕ). UsesWriters freezes z z' (record { two = writers out1 out2 x reported2; frozen_old = k; frozen_new = k' }) w q) m h) in
    let f : Three ℕ = record { two = writers out0 out2 reported0 reported2; frozen_old = k; frozen_new = k' } in
    let l = subst (λ (x : Result A Stop). UsesWriters freezes z z' f w x) i g in
    subst (λ (x : Result B Stop). UsesWriters freezes z z' f w' x) (sym j) (record {
      failed = l.failed;
      spared = l.spared;
      spared_by = spares_same A B e two two' frozen frozen' l.spared_by;
    })
