-- The reader's answers, in the words of the definitions.
use Rattle.std.proofs.Common.{subst, ◌≡◌, ◌≢◌, ℕ, ◌-◌, Bool, true, false, List, [], ◌∷◌, ◌++◌, length, drop, Result}
use Rattle.std.proofs.Common.{Ok, Err, refl, sym, ap, ◌∙◌, inl, inr, ◌⊎◌}
use Rattle.std.specs.Prelude.{◌↔◌}
use Rattle.std.specs.List.{list_all}
use Rattle.std.specs.Char.{is_ascii_digit}
use Rattle.std.proofs.lemmas.Bool.{not-true}
use Rattle.std.proofs.lemmas.List.{append-nil, drop_at}
use Rattle.m4_frozen.specs.declared.fault.Refusal.{Refusal}
use Rattle.m4_frozen.specs.declared.fault.FrozenKind.{FrozenKind}
use Rattle.m4_frozen.specs.declared.fault.FrozenKind.TheVariants as kinds
use Rattle.m4_frozen.specs.Directive.{Directive}
use Rattle.m4_frozen.specs.Spells.{Spells}
use Rattle.m4_frozen.specs.ReaderSteps.{file_at}
use Rattle.m4_frozen.specs.FaultAt.{ExactFault, IsFault, FaultAt, IsSettledBy, IsFaultOfFailed, read_fault}
use Rattle.m4_frozen.specs.ReaderSteps.{is_settled, failed_answer}
use Rattle.m4_frozen.specs.ReaderSteps.{fault_of}
use Rattle.m4_frozen.specs.Outcome.{HasFault}
use Rattle.m4_frozen.specs.Laws.{OneReading, OneAnswer, OneAnswerOfFailed, TiesReaderSteps, IsOnlyRead, IsOnlyRefused}
use Rattle.m4_frozen.proofs.ByteTests.{by_test}
use Rattle.m4_frozen.proofs.ReadBack.{file_at-spelled, one_spelling}
use Rattle.m4_frozen.proofs.Spelled.{by_result, FileSays, file_says}
use Rattle.m4_frozen.proofs.FirstFault.{fault_read, one_fault, spelled_no_fault}
use Rattle.m4_frozen.proofs.Settled.{IsFirm}
use Rattle.m4_frozen.proofs.LongestFront.{fault_at}
use Rattle.m4_frozen.proofs.Unsettled.{settled_is_firm}

-- what is said of an answer without a fault
says_ok : (ds : List Directive) (bytes : List ℕ) (r : Result (List Directive) Refusal)
    → FileSays bytes r → r ≡ Ok ds → Spells ds bytes
says_ok ds bytes r h e = rw e at h

-- what is said of an answer with one
says_err : (x : Refusal) (bytes : List ℕ) (r : Result (List Directive) Refusal) → FileSays bytes r
    → r ≡ Err x → IsFault bytes (fault_of bytes x)
says_err x bytes r h e = rw e at h

-- The reader gives directives just where the bytes spell them.
pub read_is_spelled : (ds : List Directive) (bytes : List ℕ)
    → (file_at bytes ≡ Ok ds) ↔ Spells ds bytes
read_is_spelled ds bytes =
    (λ e. says_ok ds bytes (file_at bytes) (file_says bytes) e, λ p. file_at-spelled ds bytes p)

-- The reader's fault is the fault of the bytes, and they have no other.
pub refusal_is_fault : (e : Refusal) (bytes : List ℕ) → file_at bytes ≡ Err e
    → FaultAt bytes (fault_of bytes e)
refusal_is_fault e bytes h =
    fault_at bytes (fault_of bytes e) (says_err e bytes (file_at bytes) (file_says bytes) h)

-- no row is a failure of the reader
pub not_read : (bytes : List ℕ) (fault : ExactFault) → IsFault bytes fault → fault.kind ≡ kinds.Read
    → ⊥
not_read bytes fault h e = rw e at h.fits

-- the fault of the bytes is what the reader answers
pub fault_is_refusal : (bytes : List ℕ) (fault : ExactFault) → FaultAt bytes fault → (e : Refusal)
    × (file_at bytes ≡ Err e) × (fault ≡ fault_of bytes e)
fault_is_refusal bytes fault h = fault_read bytes fault h.is

-- the test for a settled fault says that it is firm
firm_from_settled : (kind : FrozenKind) (here : List ℕ) → is_settled kind here ≡ true
    → IsFirm kind here
firm_from_settled kind [] h = absurd cc
firm_from_settled kinds.VersionZero (b ∷ bs) h =
    ((λ e. cc), λ e. not-true (list_all is_ascii_digit (b ∷ bs)) h)
firm_from_settled kind (b ∷ bs) h = ((λ e. cc), λ e. absurd cc)

-- and it finds each firm fault
is_settled-true : (kind : FrozenKind) (here : List ℕ) → IsFirm kind here
    → is_settled kind here ≡ true
is_settled-true kind [] h = absurd (h.0 refl)
is_settled-true kinds.VersionZero (b ∷ bs) h = rw (h.1 refl) refl
is_settled-true kind (b ∷ bs) h = refl

-- a settled fault is the fault of the bytes
settled_now : (given : List ℕ) (fault : ExactFault) → IsSettledBy given fault → IsFault given fault
settled_now given fault s = rw append-nil at ((s []).is)

-- a test doesn't come out both ways
firm_or_not : (b : Bool) → b ≡ true → b ≡ false → ⊥
firm_or_not b e f = cc

-- A reader that failed has the fault that its bytes settle, otherwise its failure, after them.
pub failed_answer_is_fault : (given : List ℕ)
    → IsFaultOfFailed given (failed_answer given (file_at given))
failed_answer_is_fault given =
    by_result (FileSays given) (λ r. IsFaultOfFailed given (failed_answer given r)) (file_at given)
    (file_says given)
    (λ ds h. inr ((λ other s. spelled_no_fault ds given other h (settled_now given other s)), refl))
    (λ e h.
    let here : drop (length given - e.bytes_left) given ≡ h.here =
    ap (drop (length given - e.bytes_left)) h.spelled
    ∙ drop_at (h.front ++ h.before) h.here (length given - e.bytes_left) (sym h.place) in
    by_test (IsFaultOfFailed given) (is_settled e.kind (drop (length given - e.bytes_left) given))
    (fault_of given e) (read_fault given)
    (λ f. inl
    ((settled_is_firm given (fault_of given e) h).1
    (firm_from_settled e.kind h.here (rw here at f))))
    (λ f. inr (
      (λ other s.
          let same : other ≡ fault_of given e = one_fault given other (fault_of given e)
          (settled_now given other s) h in
          let firm = (settled_is_firm given (fault_of given e) h).0 (rw same at s) in
          firm_or_not (is_settled e.kind h.here) (is_settled-true e.kind h.here firm)
          (rw here at f)),
      refl,
    )))

-- A refusal that passes the test is settled by the bytes.
pub settled_if_stays : (given : List ℕ) (e : Refusal) → file_at given ≡ Err e
    → is_settled e.kind (drop (length given - e.bytes_left) given) ≡ true
    → IsSettledBy given (fault_of given e)
settled_if_stays given e refused f =
    let h : IsFault given (fault_of given e) =
    says_err e given (file_at given) (file_says given) refused in
    let here : drop (length given - e.bytes_left) given ≡ h.here =
    ap (drop (length given - e.bytes_left)) h.spelled
    ∙ drop_at (h.front ++ h.before) h.here (length given - e.bytes_left) (sym h.place) in
    (settled_is_firm given (fault_of given e) h).1 (firm_from_settled e.kind h.here (rw here at f))

-- One that doesn't is a failure where the reader failed.
pub failed_unless_stays : (given : List ℕ) (e : Refusal) → file_at given ≡ Err e
    → is_settled e.kind (drop (length given - e.bytes_left) given) ≡ false
    → IsFaultOfFailed given (read_fault given)
failed_unless_stays given e refused f =
    rw (refused, f) at (failed_answer_is_fault given)

-- So it is where nothing is refused.
pub failed_if_read : (given : List ℕ) (ds : List Directive) → file_at given ≡ Ok ds
    → IsFaultOfFailed given (read_fault given)
failed_if_read given ds e = rw e at (failed_answer_is_fault given)

-- the bytes that a reader gave before it failed have one fault
failed_one : (given : List ℕ) (a b : ExactFault) → IsFaultOfFailed given a
    → IsFaultOfFailed given b → a ≡ b
failed_one given a b (inl s) (inl t) = one_fault given a b (settled_now given a s)
    (settled_now given b t)
failed_one given a b (inl s) (inr t) = absurd (t.0 a s)
failed_one given a b (inr s) (inl t) = absurd (s.0 b t)
failed_one given a b (inr s) (inr t) = s.1 ∙ sym t.1

-- no row is want of memory
no_memory_row : (bytes : List ℕ) (fault : ExactFault) → IsFault bytes fault
    → fault.kind ≡ kinds.OutOfMemory → ⊥
no_memory_row bytes fault h e = rw e at h.fits

-- no bytes are at fault for want of memory
pub fault_has_memory : (failed : Bool) (bytes : List ℕ) (fault : ExactFault)
    → HasFault failed bytes fault → fault.kind ≢ kinds.OutOfMemory
fault_has_memory false bytes fault h = no_memory_row bytes fault h.is
fault_has_memory true bytes fault (inl s) = no_memory_row bytes fault (settled_now bytes fault s)
fault_has_memory true bytes fault (inr s) = λ e. let k : kinds.Read ≡ kinds.OutOfMemory =
    ap (λ (f : ExactFault). f.kind) (sym s.1) ∙ e in cc

-- the law that bytes spell one list of directives
pub one_reading : OneReading
one_reading = λ bytes ds es p q. one_spelling ds es bytes p q

-- the law that bytes are read or refused in one way
pub one_answer : OneAnswer
one_answer = λ bytes. by_result (FileSays bytes)
    (λ (r : Result (List Directive) Refusal). IsOnlyRead bytes ⊎ IsOnlyRefused bytes)
    (file_at bytes) (file_says bytes)
    (λ ds h. inl (record {
      directives = ds;
      spelled = h;
      only = λ es q. one_spelling es ds bytes q h;
      no_fault = λ f q. spelled_no_fault ds bytes f h q.is;
    }))
    (λ e h. inr (record {
      fault = fault_of bytes e;
      is_fault = fault_at bytes (fault_of bytes e) h;
      only = λ f q. one_fault bytes f (fault_of bytes e) q.is h;
      not_spelled = λ ds p. spelled_no_fault ds bytes (fault_of bytes e) p h;
    }))

-- the law that a failed reader has one fault
pub one_answer_of_failed : OneAnswerOfFailed
one_answer_of_failed = λ given.
    let fault : ExactFault = failed_answer given (file_at given) in (
      fault,
      failed_answer_is_fault given,
      λ other h. failed_one given other fault h
          (failed_answer_is_fault given),
    )

-- the law that ties the reader's steps
pub reader_steps_tied : TiesReaderSteps
reader_steps_tied = λ bytes. record {
  directives = λ ds. read_is_spelled ds bytes;
  fault = λ f. (
    (λ h. subst (FaultAt bytes) (sym h.2) (refusal_is_fault h.0 bytes h.1)),
    λ h. fault_is_refusal bytes f h,
  );
  failed = λ f. (
    (λ e. subst (IsFaultOfFailed bytes) (sym e) (failed_answer_is_fault bytes)),
    λ h. failed_one bytes f (failed_answer bytes (file_at bytes)) h (failed_answer_is_fault bytes),
  );
}
