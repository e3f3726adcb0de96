-- Writers: a call's writers before and after it: the bytes of each, and how often it failed.
-- Believed: each clause on written bytes cites it. Manual: "Invoking m4".
-- Words: Change, change, Writing, writes, Both, writers, both, Three, three, contents_of, failures_of, Contents,
-- Failures, NoneFailed, OneFailed, NoneOfThree, IsSpared, OneOfThree, ThreeFailBy, Spares, ByCause, IfBroken, FailsBy,
-- Broken, HasWritten, WroteAtLeast.
use Rattle.std.specs.Prelude.{◌≡◌, ℕ, List, ◌++◌, Option, ◌⊎◌}
use Rattle.m4_state.specs.Device.{with_bytes, HasBegun, one_more}
use Rattle.m4_engine.specs.declared.ending.Cause.{Cause}
use Rattle.m4_engine.specs.declared.ending.Cause.TheVariants as causes
use Rattle.m4_engine.specs.Expansion.{Ended}

-- a value of a device before a call and after it: its contents, say, or its count of failures
pub record Change (A : Type 0) : Type 0 where
  pub old : A
  pub new : A

-- the same, computed for a device that is first `before` and then `after`
abbrev pub change : {D A : Type 0} → (D → A) → D → D → Change A
change of before after = record { old = of before; new = of after }

-- a writer over a call: its contents, if the proofs know them, and its count of failures, before and after
pub record Writing : Type 0 where
  pub old : Option (List ℕ)
  pub new : Option (List ℕ)
  pub failures_old : ℕ
  pub failures_new : ℕ

-- the writer that is first `before` and then `after`, by the functions of its trait
abbrev pub writes : {D : Type 0} → (D → Option (List ℕ)) → (D → ℕ) → D → D → Writing
writes contents failures before after =
    record { old = contents before; new = contents after; failures_old = failures before; failures_new = failures after }

-- a value for the writer of output and one for the writer of messages, before a call and after it
pub record Both (A : Type 0) : Type 0 where
  pub out_old : A
  pub out_new : A
  pub messages_old : A
  pub messages_new : A

abbrev pub writers : {A : Type 0} → A → A → A → A → Both A
writers out_old out_new messages_old messages_new = record {
  out_old = out_old;
  out_new = out_new;
  messages_old = messages_old;
  messages_new = messages_new;
}

-- the same, computed for each writer: its contents, or its count of failures
abbrev pub both : {O M A : Type 0} → (O → A) → (M → A) → O → O → M → M → Both A
both of_out of_messages out_old out_new messages_old messages_new =
    writers (of_out out_old) (of_out out_new) (of_messages messages_old) (of_messages messages_new)

-- the bytes of the writers, if they are known
abbrev pub Contents : Type 0
Contents = Both (Option (List ℕ))

-- how often the writers failed
abbrev pub Failures : Type 0
Failures = Both ℕ

-- no writer failed in the call
abbrev pub NoneFailed : Failures → Type 0
NoneFailed f = (f.out_new ≡ f.out_old) × (f.messages_new ≡ f.messages_old)

-- one writer failed in the call, once
abbrev pub OneFailed : Failures → Type 0
OneFailed f =
    ((f.out_new ≡ one_more f.out_old) × (f.messages_new ≡ f.messages_old))
    ⊎ ((f.out_new ≡ f.out_old) × (f.messages_new ≡ one_more f.messages_old))

-- by a cause: one writer failed if it is a write fault, and otherwise none did
abbrev pub ByCause : Cause → Type 0 → Type 0 → Type 0
ByCause causes.Write none one = one
ByCause cause none one = none

-- of a run that a writer or an allocation broke off this is so; of another nothing is said
abbrev pub IfBroken : Cause → Type 0 → Type 0
IfBroken causes.Write P = P
IfBroken causes.OutOfMemory P = P
IfBroken cause P = Unit {0}

-- an expansion ends by a write fault if a writer failed in it
abbrev pub FailsBy : Cause → Failures → Type 0
FailsBy cause f = ByCause cause (NoneFailed f) (OneFailed f)

-- the same values, and those for the writer of the frozen text
pub record Three (A : Type 0) : Type 0 where
  pub two : Both A
  pub frozen_old : A
  pub frozen_new : A

abbrev pub three : {Z A : Type 0} → (Z → A) → Both A → Z → Z → Three A
three of_frozen two frozen_old frozen_new = record {
  two = two;
  frozen_old = of_frozen frozen_old;
  frozen_new = of_frozen frozen_new;
}

-- the contents of the writers of output, of messages and of the frozen text
abbrev pub contents_of : Writing → Writing → Writing → Three (Option (List ℕ))
contents_of out messages frozen = record {
  two = writers out.old out.new messages.old messages.new;
  frozen_old = frozen.old;
  frozen_new = frozen.new;
}

-- how often each of them failed
abbrev pub failures_of : Writing → Writing → Writing → Three ℕ
failures_of out messages frozen = record {
  two = writers out.failures_old out.failures_new messages.failures_old messages.failures_new;
  frozen_old = frozen.failures_old;
  frozen_new = frozen.failures_new;
}

-- none of three writers failed in the call
abbrev pub NoneOfThree : Three ℕ → Type 0
NoneOfThree f = NoneFailed f.two × (f.frozen_new ≡ f.frozen_old)

-- the writer of the frozen text is unchanged
abbrev pub IsSpared : {A : Type 0} → Three A → Type 0
IsSpared w = w.frozen_new ≡ w.frozen_old

-- one of three writers failed in the call, once; if it is another, the frozen text's writer got nothing
abbrev pub OneOfThree : Three ℕ → Three (Option (List ℕ)) → Type 0
OneOfThree f w =
    (OneFailed f.two × IsSpared f × IsSpared w)
    ⊎ (NoneFailed f.two × (f.frozen_new ≡ one_more f.frozen_old))

-- by a cause: one of three writers failed, once, if it is a write fault, and otherwise none did
abbrev pub ThreeFailBy : Cause → Three ℕ → Three (Option (List ℕ)) → Type 0
ThreeFailBy cause f w = ByCause cause (NoneOfThree f) (OneOfThree f w)

-- the writer of the frozen text gets bytes only if the run reaches its end, or ends by a write fault
abbrev pub Spares : Cause → Three (Option (List ℕ)) → Type 0
Spares causes.Done w = Unit {0}
Spares causes.Write w = Unit {0}
Spares cause w = IsSpared w

-- the expansion was interrupted, and prefixes of its output and messages were written
pub record Broken (d : Ended) (w : Contents) : Type 0 where
  pub output : HasBegun w.out_old w.out_new (d.so_far).output
  pub messages : HasBegun w.messages_old w.messages_new (d.so_far).messages

-- this output and these messages were written, and nothing else
pub record HasWritten (made reported : List ℕ) (w : Contents) : Type 0 where
  pub output : w.out_new ≡ with_bytes w.out_old made
  pub messages : w.messages_new ≡ with_bytes w.messages_old reported

-- this output and these messages were written, and perhaps more
pub record WroteAtLeast (made reported : List ℕ) (w : Contents) : Type 0 where
  pub more : List ℕ
  pub output : w.out_new ≡ with_bytes w.out_old (made ++ more)
  pub more_messages : List ℕ
  pub messages : w.messages_new ≡ with_bytes w.messages_old (reported ++ more_messages)
