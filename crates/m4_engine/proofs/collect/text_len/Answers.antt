use Rattle.std.proofs.Common.{rules, refl}
use Rattle.std.proofs.lemmas.List.{take_more}
use Rattle.m4_engine.specs.declared.role.Role.TheVariants.{Other}
use Rattle.m4_engine.proofs.ListRuns.{roles_more}
use Rattle.m4_engine.proofs.TextBytes.{text_byte}
use Rattle.m4_engine.proofs.collect.text_len.Goals as goal

pub loop-k-preserved : goal.loop-k-preserved
loop-k-preserved c = record {
  within = search rules;
  bytes = λ call begun.
      let q = c.args.delims.now.quotes.now in
      let k = c.args.delims.now.comments.now in
      let byte = text_byte q k _ (search rules) c.if-text-k-eq46.true (c.if-not-may_comment.ensures.starts refl)
      (c.if-not-may_comment.ensures.may refl) (c.if-not-may_quote.ensures.starts refl)
      (c.if-not-may_quote.ensures.may refl) call begun in
      roles_more Other call q k c.loop-k.k c.args.text.now _ (c.loop-k.invariant.bytes call begun) byte.0 byte.1
      (take_more c.args.text.now c.loop-k.k 0 c.loop-k-test.true);
}
