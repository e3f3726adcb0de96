-- ReadsOn: arguments that are read one after the other, and what their warnings come to together.
use Rattle.std.proofs.Common.{◌≡◌, ℕ, List, [], ◌++◌, Option, Some, None, refl, sym, ap, ◌∙◌, append-nil, append_assoc}
use Rattle.std.specs.Prelude.{ℤ}
use Rattle.m4_state.specs.declared.builtin.Builtin.{Builtin}
use Rattle.m4_builtins.specs.declared.effect.Effect.{Effect}
use Rattle.m4_builtins.specs.declared.number.Reading.{Reading}
use Rattle.m4_builtins.specs.declared.place.Place.{Place}
use Rattle.m4_builtins.specs.Acted.{only_warning, warning_first}
use Rattle.m4_builtins.specs.Numeric.{number_of_reading, reading_warning, with_number}
use Rattle.m4_builtins.specs.ReadsAs.{after, ReadsAs}
use Rattle.m4_builtins.specs.Warned.{with_messages}
use Rattle.m4_builtins.proofs.WithNumber.{with_number-some, with_number-none}

-- warnings one after the other
both : {A : Type 0} (v w : List ℕ) (does : A → Effect) (o : Option A) → warning_first v (after w does o) ≡ after (v ++ w) does o
both v w does None = refl
both v w does (Some x) = ap (λ (m : List ℕ). record (does x) { messages = m }) (sym (append_assoc v w (does x).messages))

-- no more messages, and more of them after others
pub no_messages : (e : Effect) → with_messages e [] ≡ e
no_messages e = ap (λ (m : List ℕ). record e { messages = m }) (append-nil e.messages)

pub messages_on : (before between now : Effect) (v w : List ℕ) → between ≡ with_messages before v → now ≡ with_messages between w
    → now ≡ with_messages before (v ++ w)
messages_on before between now v w first next =
    next ∙ ap (λ (e : Effect). with_messages e w) first
    ∙ ap (λ (m : List ℕ). record before { messages = m }) (append_assoc before.messages v w)

-- nothing is read, and there is no warning
pub reads_at_once : {A : Type 0} (x : A) (before : Effect) → ReadsAs (λ does. does x) (Some x) before before
reads_at_once x before = ([], sym (no_messages before), (λ does. refl))

-- a fault, and its warning
pub reads_wrong : {A : Type 0} (warning : List ℕ) (before now : Effect)
    → now ≡ with_messages before warning → ReadsAs {A = A} (λ does. only_warning warning) None before now
reads_wrong warning before now grown = (warning, grown, (λ does. refl))

-- what comes first is wrong, and nothing is read after it
pub reads_no_more : {A B : Type 0} (first : (A → Effect) → Effect) (next : A → (B → Effect) → Effect) (before now : Effect)
    → ReadsAs first None before now → ReadsAs (λ does. first (λ x. next x does)) None before now
reads_no_more first next before now (w, grown, same) = (w, grown, (λ does. same (λ x. next x does)))

-- what comes first is read, and then the next
pub reads_on : {A B : Type 0} (first : (A → Effect) → Effect) (next : A → (B → Effect) → Effect) (x : A) (o : Option B) (before between now : Effect)
    → ReadsAs first (Some x) before between → ReadsAs (next x) o between now → ReadsAs (λ does. first (λ y. next y does)) o before now
reads_on first next x o before between now (v, grown, same) (w, grown_2, same_2) = (
  v ++ w,
  messages_on before between now v w grown grown_2,
  (λ does. same (λ y. next y does) ∙ ap (warning_first v) (same_2 does) ∙ both v w does o),
)

-- a number, as it was read
pub reads_number : (p : Place) (b : Builtin) (r : Reading) (o : Option ℤ) (before now : Effect)
    → o ≡ number_of_reading r → now ≡ with_messages before (reading_warning p b r)
    → ReadsAs (with_number p b r) o before now
reads_number p b r None before now e grown = (reading_warning p b r, grown, (λ does. with_number-none p b does r e))
reads_number p b r (Some n) before now e grown = (reading_warning p b r, grown, (λ does. with_number-some p b does r n e))
