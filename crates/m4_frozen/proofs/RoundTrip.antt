-- The canonical text of a state loads as that state and spells nothing else, so it comes back byte
-- for byte.
use Rattle.std.proofs.Common.{List, ap, ◌∙◌}
use Rattle.m4_frozen.specs.declared.loading.Loaded.{Loaded}
use Rattle.m4_frozen.specs.Denote.{denote}
use Rattle.m4_frozen.specs.Directive.{Directive}
use Rattle.m4_frozen.specs.Freeze.{canonical, freeze}
use Rattle.m4_frozen.specs.Laws.{LoadsBack, FreezeLoads, CanonAgain}
use Rattle.m4_frozen.specs.Spells.{Spells}
use Rattle.m4_frozen.proofs.Answered.{one_reading}
use Rattle.m4_frozen.proofs.CanonicalDenoted.{canonical_denoted}
use Rattle.m4_frozen.proofs.CanonicalSpelled.{freeze_spelled}

pub freeze_loads : FreezeLoads
freeze_loads s valid sized =
    let spelled : Spells (canonical s) (freeze s) = freeze_spelled s valid sized in record {
      directives = canonical s;
      spelled = spelled;
      denoted = canonical_denoted s valid;
      only = λ others spells. one_reading (freeze s) others (canonical s) spells spelled;
    }

pub canon_again : CanonAgain
canon_again s ds valid sized spells =
    let loads : LoadsBack s = freeze_loads s valid sized in
    ap (λ (others : List Directive). freeze (denote others).state) (loads.only ds spells)
    ∙ ap (λ (loaded : Loaded). freeze loaded.state) loads.denoted
