-- The next text is where its block has it, and is read as its directive says.
use Rattle.m4_frozen.proofs.ReadOn.{advanced_text, place_in}
use Rattle.std.proofs.Common.{ap, sym, subst, List, ℕ}
use Rattle.m4_frozen.specs.Underway.{HasAdvanced}
use Rattle.m4_frozen.proofs.loading.Loading.read_texts.Goals as goal

pub push_from_block-requires-clause-place : goal.push_from_block-requires-clause-place
push_from_block-requires-clause-place c =
    place_in c.args.block.now c.as_slice-all.result.now c.args.bytes.now c.texts.rest.now c.in-Some.strings.now
    c.in-Some.middle c.in-Some.len c.args.self.now c.texts.self
    c.as_slice-all.ensures.value c.requires.end c.texts.invariant.advanced c.in-Some.ensures

pub texts-preserved : goal.texts-preserved
texts-preserved c = record {
  advanced = subst (λ (x : List ℕ). HasAdvanced c.args.bytes.now c.args.self.now
      (record c.texts.self { state = c.push_from_block.new.self }) x) (sym c.split_at.ensures.back)
      (advanced_text c.args.bytes.now c.texts.rest.now c.in-Some.strings.now c.in-Some.middle c.in-Some.len
      c.args.self.now c.texts.self (record c.texts.self { state = c.push_from_block.new.self })
      c.requires.at_directive c.texts.invariant.inside c.texts.invariant.versioned c.texts.invariant.advanced c.in-Some.ensures
      (ap (λ s. record c.texts.self { state = s }) c.in_ok-push_from_block.ensures.ok));
  inside = c.texts.invariant.inside;
  versioned = c.texts.invariant.versioned;
}
