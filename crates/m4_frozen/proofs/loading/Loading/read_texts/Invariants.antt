-- All but the rest was read, and no line has begun.
use Rattle.std.proofs.Common.{◌≡◌, true, length}
use Rattle.m4_frozen.specs.Underway.{HasAdvanced}
use Rattle.m4_frozen.proofs.loading.Loading.read_texts.Given as goal

abbrev pub invariant-texts : goal.invariant-texts
invariant-texts l = record {
  advanced : HasAdvanced l.bytes l.initial.self l.self l.rest;
  inside : l.self.inside ≡ l.initial.self.inside;
  versioned : l.self.versioned ≡ true;
}

abbrev pub decreases-texts : goal.decreases-texts
decreases-texts l = length l.rest
