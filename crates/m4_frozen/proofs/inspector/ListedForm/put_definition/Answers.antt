use Rattle.std.proofs.Common.{List, ℕ, subst}
use Rattle.std.specs.Prelude.{codes}
use Rattle.m4_state.specs.Device.{Puts}
use Rattle.m4_frozen.proofs.ListingParts.{two_words_line-flat, counted_line-flat}
use Rattle.m4_frozen.proofs.inspector.ListedForm.put_definition.Goals as goal

-- a placeholder's two names
pub returns-in-Placeholder-clause-puts : goal.returns-in-Placeholder-clause-puts
returns-in-Placeholder-clause-puts g c =
    let put = rw c.as_slice-in-Placeholder.ensures.value at c.put_two_words-in-Placeholder.ensures.puts in
    rw c.in-Placeholder.is
    (subst (λ (t : List ℕ). Puts c.put_two_words-in-Placeholder.result (g.W.ByteSink.contents c.args.writer.now)
    (g.W.ByteSink.contents c.put_two_words-in-Placeholder.new.writer) t)
    (two_words_line-flat (codes "placeholder ") c.args.name.now c.in-Placeholder.builtin) put)

-- a text's length
pub returns-in-Text-clause-puts : goal.returns-in-Text-clause-puts
returns-in-Text-clause-puts g c =
    let put = rw c.as_slice.ensures.value at c.put_counted.ensures.puts in
    rw c.in-Text.is
    (subst (λ (t : List ℕ). Puts c.put_counted.result (g.W.ByteSink.contents c.args.writer.now) (g.W.ByteSink.contents c.put_counted.new.writer) t)
    (counted_line-flat c.args.name.now c.in-Text.text) put)
