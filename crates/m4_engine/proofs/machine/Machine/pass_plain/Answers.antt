use Rattle.std.proofs.Common.{◌≡◌, ◌∙◌, refl, sym, subst, rules, length, ◌-◌}
use Rattle.m4_input.specs.Input.{Held}
use Rattle.m4_engine.proofs.Fronts.{at_error, front_then, passes_keep}
use Rattle.m4_engine.proofs.Passing.{IsFurther, past, past_none, passes_front, passed_front, measure_less}
use Rattle.m4_engine.proofs.machine.Machine.pass_plain.Goals.{then-left-gt0, else-left-gt0}
use Rattle.m4_engine.proofs.machine.Machine.pass_plain.Goals as goal

-- the token has no newlines
pub consume-requires-clause-within : goal.consume-requires-clause-within
consume-requires-clause-within c =
    let f = passes_front c.in_ok-len.lookahead c.in_ok-len.token c.pass_text.new.next c.fronts.self c.pass_text.new.self c.fronts.input
    c.fronts.looked c.in_ok-len.len c.in-Some.text c.in-Some.others _ _ c.in-Some.is (search rules)
    c.in_ok-text.ensures.text c.in_ok-text.ensures.all c.in_ok-text.ensures.longer c.in_ok-text.ensures.first c.in_ok-len.ensures.passes in
    f.within

pub consume-requires-clause-inline : goal.consume-requires-clause-inline
consume-requires-clause-inline c =
    let f = passes_front c.in_ok-len.lookahead c.in_ok-len.token c.pass_text.new.next c.fronts.self c.pass_text.new.self c.fronts.input
    c.fronts.looked c.in_ok-len.len c.in-Some.text c.in-Some.others _ _ c.in-Some.is (search rules)
    c.in_ok-text.ensures.text c.in_ok-text.ensures.all c.in_ok-text.ensures.longer c.in_ok-text.ensures.first c.in_ok-len.ensures.passes in
    f.inline

pub fronts-smaller-in_default-lookahead : goal.fronts-smaller-in_default-lookahead
fronts-smaller-in_default-lookahead c =
    let f = passes_front c.in_ok-len.lookahead c.in_ok-len.token c.pass_text.new.next c.fronts.self c.pass_text.new.self c.fronts.input
    c.fronts.looked c.in_ok-len.len c.in-Some.text c.in-Some.others _ _ c.in-Some.is (search rules)
    c.in_ok-text.ensures.text c.in_ok-text.ensures.all c.in_ok-text.ensures.longer c.in_ok-text.ensures.first c.in_ok-len.ensures.passes in
    let at : Held = past c.in_ok-len.len c.fronts.input in
    let same : c.consume.new.self ≡ at = past_none c.in_ok-len.len c.in_ok-len.token c.fronts.input c.consume.new.self
    (f.none (search rules)) c.consume.ensures in
    let more = subst (λ (v : Held). IsFurther 0 c.fronts.looked (c.fronts.input).pending v.pending) (sym same) (f.further (search rules) (search rules)) in
    measure_less c.fronts.looked 0 (c.fronts.input).pending (c.consume.new.self).pending c.fronts.invariant.looked more

pub fronts-preserved-in_default-lookahead : goal.fronts-preserved-in_default-lookahead
fronts-preserved-in_default-lookahead c =
    let f = passes_front c.in_ok-len.lookahead c.in_ok-len.token c.pass_text.new.next c.fronts.self c.pass_text.new.self c.fronts.input
    c.fronts.looked c.in_ok-len.len c.in-Some.text c.in-Some.others _ _ c.in-Some.is (search rules)
    c.in_ok-text.ensures.text c.in_ok-text.ensures.all c.in_ok-text.ensures.longer c.in_ok-text.ensures.first c.in_ok-len.ensures.passes in
    let at : Held = past c.in_ok-len.len c.fronts.input in
    let same : c.consume.new.self ≡ at = past_none c.in_ok-len.len c.in_ok-len.token c.fronts.input c.consume.new.self
    (f.none (search rules)) c.consume.ensures in
    let h = c.fronts.invariant in
    let r = passed_front c.args.self.now c.fronts.self c.pass_text.new.self c.args.input.now c.fronts.input
    at c.consume.new.self h.passes h.ready f.once same in
    record {
      passes = r.0;
      ready = r.1;
      looked = (subst (λ (v : Held). IsFurther 0 c.fronts.looked (c.fronts.input).pending
          v.pending) (sym same) (f.further (search rules) (search rules))).0;
    }

pub fronts-smaller : goal.fronts-smaller
fronts-smaller c =
    let f = passes_front c.in_ok-len.lookahead c.in_ok-len.token c.pass_text.new.next c.fronts.self c.pass_text.new.self c.fronts.input
    c.fronts.looked c.in_ok-len.len c.in-Some.text c.in-Some.others _ _ c.in-Some.is (search rules)
    c.in_ok-text.ensures.text c.in_ok-text.ensures.all c.in_ok-text.ensures.longer c.in_ok-text.ensures.first c.in_ok-len.ensures.passes in
    let at : Held = past c.in_ok-len.len c.fronts.input in
    let joined : c.if-left-gt0.input ≡ c.consume.new.self =
    elim c.if-left-gt0.branch [ then-left-gt0 w ↦ search rules | else-left-gt0 w ↦ search rules ] in
    let same : c.if-left-gt0.input ≡ at = joined ∙ past_none c.in_ok-len.len c.in_ok-len.token c.fronts.input
    c.consume.new.self (f.still_open (search rules)) c.consume.ensures in
    let more = subst (λ (v : Held). IsFurther (length c.in-Some.text.now - c.in_ok-len.len) c.fronts.looked
    (c.fronts.input).pending v.pending) (sym same) (f.undecided c.if-not-others.false) in
    measure_less c.fronts.looked _ (c.fronts.input).pending (c.if-left-gt0.input).pending c.fronts.invariant.looked more

pub fronts-preserved : goal.fronts-preserved
fronts-preserved c =
    let f = passes_front c.in_ok-len.lookahead c.in_ok-len.token c.pass_text.new.next c.fronts.self c.pass_text.new.self c.fronts.input
    c.fronts.looked c.in_ok-len.len c.in-Some.text c.in-Some.others _ _ c.in-Some.is (search rules)
    c.in_ok-text.ensures.text c.in_ok-text.ensures.all c.in_ok-text.ensures.longer c.in_ok-text.ensures.first c.in_ok-len.ensures.passes in
    let at : Held = past c.in_ok-len.len c.fronts.input in
    let joined : c.if-left-gt0.input ≡ c.consume.new.self =
    elim c.if-left-gt0.branch [ then-left-gt0 w ↦ search rules | else-left-gt0 w ↦ search rules ] in
    let same : c.if-left-gt0.input ≡ at = joined ∙ past_none c.in_ok-len.len c.in_ok-len.token c.fronts.input
    c.consume.new.self (f.still_open (search rules)) c.consume.ensures in
    let more = subst (λ (v : Held). IsFurther (length c.in-Some.text.now - c.in_ok-len.len) c.fronts.looked
    (c.fronts.input).pending v.pending) (sym same) (f.undecided c.if-not-others.false) in
    let h = c.fronts.invariant in
    let r = passed_front c.args.self.now c.fronts.self c.pass_text.new.self c.args.input.now c.fronts.input
    at c.if-left-gt0.input h.passes h.ready f.once same in
    record { passes = r.0; ready = r.1; looked = more.0 }

pub returns-then-len-ge-OUTPUT_BLOCK : goal.returns-then-len-ge-OUTPUT_BLOCK
returns-then-len-ge-OUTPUT_BLOCK c =
    let f = passes_front c.in_ok-len.lookahead c.in_ok-len.token c.pass_text.new.next c.fronts.self c.pass_text.new.self c.fronts.input
    c.fronts.looked c.in_ok-len.len c.in-Some.text c.in-Some.others _ _ c.in-Some.is (search rules)
    c.in_ok-text.ensures.text c.in_ok-text.ensures.all c.in_ok-text.ensures.longer c.in_ok-text.ensures.first c.in_ok-len.ensures.passes in
    let at : Held = past c.in_ok-len.len c.fronts.input in
    let same : c.consume.new.self ≡ at = past_none c.in_ok-len.len c.in_ok-len.token c.fronts.input c.consume.new.self
    (f.none (search rules)) c.consume.ensures in
    let h = c.fronts.invariant in
    record {
      passes = (
        (passed_front c.args.self.now c.fronts.self c.pass_text.new.self c.args.input.now c.fronts.input
            at c.consume.new.self h.passes h.ready f.once same).0,
        search rules,
      );
      kept = tt;
    }

pub returns-then-not-others : goal.returns-then-not-others
returns-then-not-others c =
    let f = passes_front c.in_ok-len.lookahead c.in_ok-len.token c.pass_text.new.next c.fronts.self c.pass_text.new.self c.fronts.input
    c.fronts.looked c.in_ok-len.len c.in-Some.text c.in-Some.others _ _ c.in-Some.is (search rules)
    c.in_ok-text.ensures.text c.in_ok-text.ensures.all c.in_ok-text.ensures.longer c.in_ok-text.ensures.first c.in_ok-len.ensures.passes in
    let at : Held = past c.in_ok-len.len c.fronts.input in
    let h = c.fronts.invariant in
    record {
      passes = (
        at,
        (passed_front c.args.self.now c.fronts.self c.pass_text.new.self c.args.input.now c.fronts.input
            at at h.passes h.ready f.once refl).0,
        f.found _ (search rules) (λ u. c.if-not-others.true) h.ready c.consume.new.self c.consume.ensures,
      );
      kept = tt;
    }

pub returns-in_default-found : goal.returns-in_default-found
returns-in_default-found c =
    let f = passes_front c.in_ok-len.lookahead c.in_ok-len.token c.pass_text.new.next c.fronts.self c.pass_text.new.self c.fronts.input
    c.fronts.looked c.in_ok-len.len c.in-Some.text c.in-Some.others _ _ c.in-Some.is (search rules)
    c.in_ok-text.ensures.text c.in_ok-text.ensures.all c.in_ok-text.ensures.longer c.in_ok-text.ensures.first c.in_ok-len.ensures.passes in
    let at : Held = past c.in_ok-len.len c.fronts.input in
    let h = c.fronts.invariant in
    record {
      passes = (
        at,
        (passed_front c.args.self.now c.fronts.self c.pass_text.new.self c.args.input.now c.fronts.input
            at at h.passes h.ready f.once refl).0,
        f.found _ (search rules) (λ u. absurd (c.in_default-found.not-Undecided u)) h.ready c.consume.new.self c.consume.ensures,
      );
      kept = tt;
    }

-- an allocation failed: what was passed before it is still there
pub returns-in_err-text-clause-kept : goal.returns-in_err-text-clause-kept
returns-in_err-text-clause-kept c = at_error c.from_residual.result
    (passes_keep c.args.self.now c.fronts.self c.args.input.now c.fronts.input c.fronts.invariant.passes)

pub returns-in_err-len-clause-kept : goal.returns-in_err-len-clause-kept
returns-in_err-len-clause-kept c = at_error c.from_residual-in_err-len.result
    (front_then _ _ _ (passes_keep c.args.self.now c.fronts.self c.args.input.now c.fronts.input c.fronts.invariant.passes) c.in_err-len.ensures.kept)
