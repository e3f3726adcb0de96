-- A file that is read window by window: what goes on, and what is answered.
use Rattle.std.proofs.Common.{◌≡◌, ◌≢◌, ℕ, ◌+◌, ◌-◌, ◌≤◌, subst, true, false, List, [], ◌++◌, length, drop, Option}
use Rattle.std.proofs.Common.{Some, None, Result, Ok, Err, refl, sym, ap, ◌∙◌, append_assoc, arith, inl, inr}
use Rattle.std.specs.Prelude.{IfSome, IfOk, IfErr}
use Rattle.std.proofs.lemmas.List.{length-append, drop_at}
use Rattle.m4_state.specs.Device.{Script, after_bytes, IsAtEnd, IsAtFault}
use Rattle.m4_state.proofs.CallerLaws.{after_bytes-append}
use Rattle.m4_frozen.specs.declared.fault.FrozenFault.{FrozenFault}
use Rattle.m4_frozen.specs.declared.fault.FrozenKind.TheVariants as kinds
use Rattle.m4_frozen.specs.declared.fault.Refusal.{Refusal}
use Rattle.m4_frozen.specs.declared.loading.Loaded.{Loaded}
use Rattle.m4_frozen.specs.declared.loading.Loading.{Loading}
use Rattle.m4_frozen.specs.declared.loading.Pause.{Pause}
use Rattle.m4_frozen.specs.declared.window.Window.{Window}
use Rattle.m4_frozen.specs.Blocks.{HasCome, IsUnderway, ReadsWindow, EndsAs}
use Rattle.m4_frozen.specs.Directive.{Directive}
use Rattle.m4_frozen.specs.FaultAt.{ExactFault, reported, FaultAt, IsSettledBy, IsFaultOfFailed, read_fault}
use Rattle.m4_frozen.specs.Blocks.{as_offset}
use Rattle.m4_frozen.specs.Outcome.{IfFault, HasFault, IsFaultOf, Loads}
use Rattle.m4_frozen.specs.Spells.{Spells}
use Rattle.m4_frozen.specs.Underway.{EndsSo}
use Rattle.m4_frozen.proofs.Answered.{read_is_spelled, not_read, fault_has_memory, failed_unless_stays, failed_if_read}
use Rattle.m4_frozen.proofs.Remaining.{settled_of_reader, ended_of_reader, loaded_of_reader, failed_of_reader}
use Rattle.m4_frozen.proofs.Remaining.{refused_reported}

-- ---- offsets that stay at their greatest value

-- counted on from one
pub counted_on : (n k dropped : ℕ) → dropped ≡ as_offset n → as_offset (dropped + k) ≡ as_offset (n + k)
counted_on n k dropped e = rw e (omega arith)

-- the place of a refusal whose bytes are among the last ones
pub place_of : (read bytes : List ℕ) (left dropped : ℕ) → dropped ≡ as_offset (length read) → left ≤ length bytes
    → as_offset (dropped + (length bytes - left)) ≡ as_offset (length (read ++ bytes) - left)
place_of read bytes left dropped e le =
    counted_on (length read) (length bytes - left) dropped e
    ∙ ap as_offset (let k : length read + (length bytes - left) ≡ length (read ++ bytes) - left =
    omega (arith, length-append read bytes) in k)

-- a fault as it is reported
as_reported : (at_first : Option Script) (f : ExactFault) → IfSome at_first (λ s. HasFault s.fails s.bytes f)
    → IfSome at_first (λ s. IsFaultOf s.fails s.bytes (reported f))
as_reported None f h = tt
as_reported (Some s) f h = (f, h, refl)

-- bytes came
pub filled : (at_first remaining later : Option Script) (w v : Window) (l : Loading)
    → IsUnderway at_first remaining w l → HasCome w v remaining later → IsUnderway at_first later v l
filled at_first remaining later w v l u c =
    let all : u.read ++ v.bytes ≡ (u.read ++ w.bytes) ++ c.block =
    ap (λ (xs : List ℕ). u.read ++ xs) c.bytes ∙ sym (append_assoc u.read w.bytes c.block) in record {
      read = u.read;
      gives = u.gives ∙ ap (after_bytes (u.read ++ w.bytes)) c.gives
          ∙ after_bytes-append (u.read ++ w.bytes) c.block later
          ∙ ap (λ (xs : List ℕ). after_bytes xs later) (sym all);
      dropped = c.dropped ∙ u.dropped;
      has_read = u.has_read;
    }

-- what is left is among the bytes
pub left_within : (at_first remaining : Option Script) (w : Window) (old new : Loading) (pause : Pause)
    → IsUnderway at_first remaining w old → ReadsWindow w old new (Ok pause)
    → pause.left ≤ length w.bytes
left_within at_first remaining w old new pause u r =
    let p = r u.read u.has_read in
    omega (arith, p.left, ap length p.spelled, length-append p.front p.rest)

-- what was read is dropped
pub dropped : (at_first remaining : Option Script) (w v : Window) (old new : Loading) (pause : Pause)
    → IsUnderway at_first remaining w old → ReadsWindow w old new (Ok pause)
    → v.bytes ≡ drop (length w.bytes - pause.left) w.bytes
    → v.dropped ≡ as_offset (w.dropped + (length w.bytes - pause.left))
    → IsUnderway at_first remaining v new
dropped at_first remaining w v old new pause u r kept count =
    let p = r u.read u.has_read in
    let rest : v.bytes ≡ p.rest =
    kept ∙ ap (drop (length w.bytes - pause.left)) p.spelled
    ∙ drop_at p.front p.rest (length w.bytes - pause.left)
    (omega (arith, p.left, ap length p.spelled, length-append p.front p.rest)) in
    let all : (u.read ++ p.front) ++ v.bytes ≡ u.read ++ w.bytes =
    append_assoc u.read p.front v.bytes
    ∙ ap (λ (xs : List ℕ). u.read ++ xs) (ap (λ (xs : List ℕ). p.front ++ xs) rest ∙ sym p.spelled) in record {
      read = u.read ++ p.front;
      gives = u.gives ∙ ap (λ (xs : List ℕ). after_bytes xs remaining) (sym all);
      dropped = count ∙ counted_on (length u.read) (length w.bytes - pause.left) w.dropped u.dropped
          ∙ ap as_offset (let k : length u.read + (length w.bytes - pause.left) ≡ length (u.read ++ p.front) =
          omega (arith, p.left, ap length p.spelled, length-append p.front p.rest, length-append u.read p.front) in k);
      has_read = p.has_read;
    }

-- what the clauses of `read_frozen` say of an answer, but for failures
pub record Answers (at_first : Option Script) (r : Result Loaded FrozenFault) : Type 0 where
  pub loaded : IfOk r (λ l. IfSome at_first (λ s. (s.fails ≡ false) × Loads s.bytes l))
  pub accepts : IfFault r (λ f. IfSome at_first (λ s. (ds : List Directive) → Spells ds s.bytes → s.fails ≡ true))
  pub fault : IfFault r (λ f. IfSome at_first (λ s. IsFaultOf s.fails s.bytes f))
  pub no_memory : IfErr r (λ f. f.kind ≡ kinds.OutOfMemory → f.offset ≡ 0)
  pub not_read : IfErr r (λ f. f.kind ≡ kinds.Read → ⊥)

-- a fault of the bytes
refuses : (at_first : Option Script) (f : ExactFault)
    → IfSome at_first (λ s. HasFault s.fails s.bytes f) → f.kind ≢ kinds.OutOfMemory
    → (f.kind ≡ kinds.Read → ⊥) → Answers at_first (Err (reported f))
refuses at_first f h room unread = record {
  loaded = tt;
  accepts = λ other. refused_reported at_first f h;
  fault = λ other. as_reported at_first f h;
  no_memory = λ e. absurd (room e);
  not_read = unread;
}

-- want of memory
lacks_memory : (at_first : Option Script) → Answers at_first (Err (record { kind = kinds.OutOfMemory; offset = 0 }))
lacks_memory at_first = record {
  loaded = tt;
  accepts = λ room. absurd (room refl);
  fault = λ room. absurd (room refl);
  no_memory = λ e. refl;
  not_read = λ e. cc;
}

-- a fault of a window
pub window_refused : (at_first remaining : Option Script) (w : Window) (old new : Loading) (f : FrozenFault)
    → IsUnderway at_first remaining w old → ReadsWindow w old new (Err f) → Answers at_first (Err f)
window_refused at_first remaining w old new f u (inl e) = rw e (lacks_memory at_first)
window_refused at_first remaining w old new f u (inr h) =
    let given : List ℕ = u.read ++ w.bytes in
    let k = h u.read u.has_read u.dropped in
    let settled : IsSettledBy given k.0 = k.1 in
    let now : FaultAt (given ++ []) k.0 = settled [] in
    subst (λ (x : FrozenFault). Answers at_first (Err x)) (sym k.2)
    (refuses at_first k.0 (settled_of_reader at_first remaining given k.0 u.gives settled)
    (fault_has_memory false (given ++ []) k.0 now) (not_read (given ++ []) k.0 now.is))

-- the end of the file
pub window_ended : (at_first remaining : Option Script) (w : Window) (old new : Loading) (pause : Pause)
    (r : Result Loaded FrozenFault)
    → IsUnderway at_first remaining w old → ReadsWindow w old new (Ok pause) → IsAtEnd remaining
    → EndsAs w new pause r → Answers at_first r
window_ended at_first remaining w old new pause (Ok l) u p end h =
    let given : List ℕ = u.read ++ w.bytes in
    let ends = (p u.read u.has_read).ends in record {
      loaded = loaded_of_reader at_first remaining given l u.gives end (h given ends);
      accepts = tt;
      fault = tt;
      no_memory = tt;
      not_read = tt;
    }
window_ended at_first remaining w old new pause (Err f) u p end h =
    let given : List ℕ = u.read ++ w.bytes in
    let q = p u.read u.has_read in
    let k = h u.read q.ends q.within u.dropped in
    let now : FaultAt given k.0 = k.1 in
    subst (λ (x : FrozenFault). Answers at_first (Err x)) (sym k.2)
    (refuses at_first k.0 (ended_of_reader at_first remaining given k.0 u.gives end now)
    (fault_has_memory false given k.0 now) (not_read given k.0 now.is))

-- what a pause says of a reader that failed
failed_pause : (given : List ℕ) (l : Loading) (refusal : Option Refusal) → EndsSo given l refusal
    → IsFaultOfFailed given (read_fault given)
failed_pause given l None h = failed_if_read given h.directives ((read_is_spelled h.directives given).1 h.spelled)
failed_pause given l (Some e) h = failed_unless_stays given e h.0 h.1

-- the reader failed
pub window_failed : (at_first remaining : Option Script) (w : Window) (old new : Loading) (pause : Pause)
    (f : FrozenFault)
    → IsUnderway at_first remaining w old → ReadsWindow w old new (Ok pause) → IsAtFault remaining
    → f ≡ record { kind = kinds.Read; offset = as_offset (w.dropped + length w.bytes) }
    → IfSome at_first (λ s. IsFaultOf s.fails s.bytes f)
window_failed at_first remaining w old new pause f u p end e =
    let given : List ℕ = u.read ++ w.bytes in
    let place : f ≡ reported (read_fault given) =
    e ∙ ap (λ (n : ℕ). let g : FrozenFault = record { kind = kinds.Read; offset = n } in g)
    (counted_on (length u.read) (length w.bytes) w.dropped u.dropped
    ∙ ap as_offset (sym (length-append u.read w.bytes))) in
    subst (λ (x : FrozenFault). IfSome at_first (λ s. IsFaultOf s.fails s.bytes x)) (sym place)
    (as_reported at_first (read_fault given) (failed_of_reader at_first remaining given (read_fault given) u.gives end
    (failed_pause given new pause.refusal (p u.read u.has_read).ends)))

-- what is never answered
pub never_read : (P : Type 0) (r : Result Loaded FrozenFault) → IfErr r (λ f. f.kind ≡ kinds.Read → ⊥)
    → IfErr r (λ f. f.kind ≡ kinds.Read → P)
never_read P (Ok l) h = tt
never_read P (Err f) h = λ e. absurd (h e)
