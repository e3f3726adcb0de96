-- An error of clap, distinguished from running out of memory, is a refusal that the words call for.
use Rattle.std.proofs.Common.{◌≢◌, List, inl, inr, subst, sym}
use Rattle.clap.specs.Words.{HasKind, IsAmong, Text}
use Rattle.clap.specs.Values.{kind_of}
use Rattle.clap.specs.declared.error.Error.{Error}
use Rattle.m4_tool.specs.CommandLine.{IsRefusal, refusals_of}
use Rattle.m4_tool.specs.LineSteps.{ClassifiesError}
use Rattle.m4_tool.specs.declared.line.LineFault.{LineFault}
use Rattle.m4_tool.specs.declared.line.LineFault.TheVariants.{ModeNotAlone, Parse, OutOfMemory}

-- a fault that is no want of memory has one of the kinds of the words
pub classified_refusal : (words : List Text) (error : Error) (fault : LineFault)
    → ClassifiesError error fault → HasKind (refusals_of words) error → IsRefusal words fault
classified_refusal words error ModeNotAlone classified kind = tt
classified_refusal words error (Parse refusal) classified (inl memory) = absurd (classified.1 memory)
classified_refusal words error (Parse refusal) classified (inr among) =
    subst (λ e. IsAmong (kind_of e) (refusals_of words)) (sym classified.0) among
classified_refusal words error OutOfMemory classified kind = tt

-- clap has no fault of two modes
pub classified_mode : (error : Error) (fault : LineFault) → ClassifiesError error fault
    → fault ≢ ModeNotAlone
classified_mode error ModeNotAlone classified same = absurd classified
classified_mode error (Parse refusal) classified same = cc
classified_mode error OutOfMemory classified same = cc
