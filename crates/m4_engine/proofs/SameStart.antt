-- SameStart: the start of a run is what the grammar of frozen files and the table of faults say.
use Rattle.std.proofs.Common.{◌≡◌, inl, inr, ⊎_elim, ◌↔◌, ℕ, Bool, true, false, List, Option, Some, None, refl, sym}
use Rattle.std.proofs.Common.{ap, ◌∙◌, subst}
use Rattle.m4_state.specs.Device.{Script}
use Rattle.m4_state.specs.State.{State}
use Rattle.m4_frozen.specs.declared.loading.Loaded.{Loaded}
use Rattle.m4_frozen.specs.Directive.{Directive}
use Rattle.m4_frozen.specs.Spells.{Spells}
use Rattle.m4_frozen.specs.Denote.{denote}
use Rattle.m4_frozen.specs.FaultAt.{ExactFault, reported}
use Rattle.m4_frozen.specs.Outcome.{HasFault}
use Rattle.m4_frozen.specs.ReaderSteps.{fault_of}
use Rattle.m4_frozen.proofs.Answered as frozen
use Rattle.m4_engine.specs.declared.options.Options.{Options}
use Rattle.m4_engine.specs.File.{Source}
use Rattle.m4_engine.specs.Start.{Start, From, Faulty, StartsFrom, frozen_file, IsStart, reloaded, start_by, start_from, start_of}
use Rattle.m4_engine.specs.Run.{run, run_from}

-- bytes that directives spell start from what these denote
pub start-spelled : (bytes : List ℕ) (ds : List Directive) → Spells ds bytes → start_from false bytes ≡ reloaded ds
start-spelled bytes ds s = ap (start_by (λ e. reported (fault_of bytes e))) (((frozen.reader_steps_tied bytes).directives ds).1 s)

start-faulty : (fails : Bool) (bytes : List ℕ) (exact : ExactFault) → HasFault fails bytes exact → start_from fails bytes ≡ Faulty (reported exact)
start-faulty false bytes exact h =
    let k = ((frozen.reader_steps_tied bytes).fault exact).1 h in
    ap (start_by (λ e. reported (fault_of bytes e))) k.1 ∙ ap (λ (x : ExactFault). Faulty (reported x)) (sym k.2)
start-faulty true bytes exact h = ap (λ (x : ExactFault). Faulty (reported x)) (sym (((frozen.reader_steps_tied bytes).failed exact).1 h))

pub is_start : (prefix : Bool) (frozen : Option Script) (start : Start) → IsStart prefix frozen start → start ≡ start_of prefix frozen
is_start prefix None start e = e
is_start prefix (Some file) start (inl h) =
    h.3 ∙ sym (ap (λ (b : Bool). start_from b file.bytes) h.1 ∙ start-spelled file.bytes h.0 h.2)
is_start prefix (Some file) start (inr h) =
    h.2 ∙ ap Faulty (h.1).2 ∙ sym (start-faulty file.fails file.bytes (h.1).0 (h.1).1)

starts_from : (prefix fails : Bool) (bytes : List ℕ) → IsStart prefix (Some (record { bytes = bytes; fails = fails })) (start_from fails bytes)
starts_from prefix false bytes =
    ⊎_elim
    (λ r. inl (r.directives, refl, r.spelled, start-spelled bytes r.directives r.spelled))
    (λ r. inr (reported r.fault, (r.fault, r.is_fault, refl), start-faulty false bytes r.fault r.is_fault))
    (frozen.one_answer bytes)
starts_from prefix true bytes =
    let k = frozen.one_answer_of_failed bytes in
    inr (reported k.0, (k.0, k.1, refl), start-faulty true bytes k.0 k.1)

pub starts_so : (prefix : Bool) (frozen : Option Script) → IsStart prefix frozen (start_of prefix frozen)
starts_so prefix None = refl
starts_so prefix (Some file) = starts_from prefix file.fails file.bytes

pub one_start : (prefix : Bool) (frozen : Option Script) (start : Start) → IsStart prefix frozen start ↔ (start ≡ start_of prefix frozen)
one_start prefix frozen start = (is_start prefix frozen start, λ e. subst (IsStart prefix frozen) (sym e) (starts_so prefix frozen))

pub one_state : (prefix : Bool) (frozen : Option Script) (s : State) (issued : List ℕ)
    → StartsFrom prefix frozen (From s issued) ↔ (start_of prefix frozen ≡ From s issued)
one_state prefix None s issued = (λ e. sym e, λ e. sym e)
one_state prefix (Some file) s issued = (
  λ h. sym (is_start prefix (Some file) (From s issued) (inl h)),
  λ e. ⊎_elim (λ h. h) (λ h. let other : From s issued ≡ Faulty h.0 = h.2 in cc)
      (subst (IsStart prefix (Some file)) e (starts_so prefix (Some file))),
)

pub same_denotation : (o : Options) (a b : List ℕ) (ds es : List Directive) (sources : List Source) → Spells ds a
    → Spells es b → denote ds ≡ denote es → run o (Some (frozen_file a)) sources ≡ run o (Some (frozen_file b)) sources
same_denotation o a b ds es sources s t e =
    ap (λ (x : Start). run_from o x sources)
    (start-spelled a ds s
    ∙ ap (λ (l : Loaded). From l.state l.issued) e
    ∙ sym (start-spelled b es t))
