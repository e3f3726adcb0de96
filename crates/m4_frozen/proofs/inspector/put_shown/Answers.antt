use Rattle.std.proofs.Common.{ℕ, List, sym, subst, ◌∙◌}
use Rattle.m4_state.specs.Device.{Puts}
use Rattle.m4_frozen.proofs.Plain.{shown_as_they_are}
use Rattle.m4_frozen.proofs.inspector.put_shown.Goals as goal

-- each byte is shown as it is
pub returns-then-are_plain-clause-puts : goal.returns-then-are_plain-clause-puts
returns-then-are_plain-clause-puts g c =
    subst (λ (t : List ℕ). Puts c.write_all.result (g.W.ByteSink.contents c.args.writer.now) (g.W.ByteSink.contents c.write_all.new.writer) t)
    (sym (shown_as_they_are c.args.bytes.now (sym c.are_plain.ensures ∙ c.if-are_plain.true))) c.write_all.ensures.puts
