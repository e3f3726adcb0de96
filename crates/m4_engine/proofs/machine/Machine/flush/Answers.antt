use Rattle.std.proofs.Common.{◌≡◌, ◌≤◌, ◌⊎◌, inl, inr, [], rules, arith, subst}
use Rattle.std.proofs.lemmas.List.{nil_from_length}
use Rattle.std.proofs.lemmas.Grind.{common_steps}
use Rattle.std.specs.Prelude.{Result, Ok, Err, OnErr}
use Rattle.m4_state.specs.Device.{HasBegun}
use Rattle.m4_engine.proofs.Begins.{begun_front, begun_parts, first_breaks, messages_break, own_breaks, nothing_begun}
use Rattle.m4_engine.proofs.Begins.{all_begun}
use Rattle.m4_engine.proofs.machine.Machine.flush.Goals as goal
use Rattle.m4_engine.proofs.machine.Machine.flush.Goals.{then-is_empty, else-is_empty}

in_any : {A E : Type 0} (r : Result A E) {P : Type 0} → P → OnErr r P
in_any (Ok x) h = tt
in_any (Err e) h = h

pub returns-in_err-write_all-clause-order : goal.returns-in_err-write_all-clause-order
returns-in_err-write_all-clause-order g c =
    let reported : (c.args.self.now.messages ≡ []) ⊎ (c.args.earlier ≡ c.if-is_empty.first) =
    elim c.if-is_empty.branch [
      | then-is_empty w ↦ inl (nil_from_length c.args.self.now.messages (search rules))
      | else-is_empty w ↦ inr (search rules)
    ] in
    in_any c.from_residual.result (first_breaks _ _ _ c.args.earlier c.if-is_empty.first c.args.self.now.output
    c.args.self.now.messages reported (search rules))

pub returns-in_err-write_all-clause-begun : goal.returns-in_err-write_all-clause-begun
returns-in_err-write_all-clause-begun g c =
    in_any c.from_residual.result (begun_front _ _ c.if-is_empty.first c.args.self.now.output (search rules), nothing_begun _ _)

pub returns-in_err-write_all-2-clause-order : goal.returns-in_err-write_all-2-clause-order
returns-in_err-write_all-2-clause-order g c =
    let reported : (c.args.self.now.messages ≡ []) ⊎ (c.args.earlier ≡ c.if-is_empty.first) =
    elim c.if-is_empty.branch [
      | then-is_empty w ↦ inl (nil_from_length c.args.self.now.messages (search rules))
      | else-is_empty w ↦ inr (search rules)
    ] in
    let all : c.deref-2.result.now ≡ c.args.self.now.messages = search rules in
    in_any c.from_residual-in_err-write_all-2.result
    (messages_break _ _ _ _ c.args.earlier c.if-is_empty.first c.args.self.now.output c.args.self.now.messages
    reported (search rules)
    (subst (HasBegun (g.M.ByteSink.contents c.args.messages.now) (g.M.ByteSink.contents c.write_all-2.new.writer))
    all c.in_err-write_all-2.ensures.puts))

pub returns-in_err-write_all-2-clause-begun : goal.returns-in_err-write_all-2-clause-begun
returns-in_err-write_all-2-clause-begun g c =
    let all : c.deref-2.result.now ≡ c.args.self.now.messages = search rules in
    in_any c.from_residual-in_err-write_all-2.result (
      begun_front _ _ c.if-is_empty.first c.args.self.now.output (all_begun _ _ _ (search rules)),
      subst (HasBegun (g.M.ByteSink.contents c.args.messages.now) (g.M.ByteSink.contents c.write_all-2.new.writer))
          all c.in_err-write_all-2.ensures.puts,
    )

pub returns-in_err-write_all-3-clause-order : goal.returns-in_err-write_all-3-clause-order
returns-in_err-write_all-3-clause-order g c =
    let no_less : c.args.earlier ≤ c.if-is_empty.first = elim c.if-is_empty.branch [ then-is_empty w ↦ search rules | else-is_empty w ↦ search rules ] in
    in_any c.from_residual-in_err-write_all-3.result
    (own_breaks _ (g.O.ByteSink.contents c.write_all.new.writer) _ _ _ c.args.earlier c.if-is_empty.first
    c.args.self.now.output c.args.self.now.messages no_less (search rules) (search rules) (search rules))

pub returns-in_err-write_all-3-clause-begun : goal.returns-in_err-write_all-3-clause-begun
returns-in_err-write_all-3-clause-begun g c =
    in_any c.from_residual-in_err-write_all-3.result (
      begun_parts _ (g.O.ByteSink.contents c.write_all.new.writer) _ c.if-is_empty.first c.args.self.now.output
          (search rules) (search rules),
      all_begun _ _ c.args.self.now.messages (search rules),
    )

pub returns-clause-output : goal.returns-clause-output
returns-clause-output g c = grind (arith, common_steps)
