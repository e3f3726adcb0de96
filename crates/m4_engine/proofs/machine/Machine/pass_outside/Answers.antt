use Rattle.std.proofs.Common.{◌≡◌, ◌≤◌, ◌<◌, ◌-◌, inl, inr, [], List, ℕ, Bool, take, drop, length, refl, ap, ◌∙◌, subst, sym, arith, rules}
use Rattle.std.proofs.lemmas.List.{length-drop}
use Rattle.m4_state.specs.State.{State, appended}
use Rattle.m4_engine.specs.Expansion.{Call}
use Rattle.m4_engine.specs.Engine.{Engine, put_in}
use Rattle.m4_engine.specs.Lookahead.{IsAhead, IsLeftOutside, IsNamed, IsNext}
use Rattle.m4_engine.specs.Plain.{IsPlainRun}
use Rattle.m4_engine.specs.declared.lookahead.Lookahead.{Lookahead}
use Rattle.m4_engine.specs.declared.lookahead.Lookahead.TheVariants as aheads
use Rattle.m4_engine.specs.declared.outside.LeftOutside.{LeftOutside}
use Rattle.m4_engine.specs.declared.outside.LeftOutside.TheVariants as lefts
use Rattle.m4_engine.proofs.FrontRuns.{ahead_next}
use Rattle.m4_engine.proofs.PlainRuns.{put_some}
use Rattle.m4_engine.proofs.machine.Machine.pass_outside.Goals as goal

-- a text that was put leaves the names and the delimiters, so the next token is the same
named_after : (s : State) (y : List ℕ) (n : ℕ) (listed m : Bool) (x : List ℕ) → IsNamed n listed s m x
    → IsNamed n listed (appended s y) m x
named_after s y n listed m x h = record { scanned = h.scanned; within = h.within; list = h.list }

ahead_after : (s : State) (y : List ℕ) (a : Lookahead) (n : ℕ) (c : Call) (m : Bool) (x : List ℕ)
    → IsAhead a n c s m x → IsAhead a n c (appended s y) m x
ahead_after s y aheads.Definition n c m x h = absurd h
ahead_after s y aheads.EndsArgument n c m x h = absurd h
ahead_after s y aheads.ClosesList n c m x h = absurd h
ahead_after s y aheads.Expansion n c m x h = (named_after s y n _ m x h.0, h.1)
ahead_after s y aheads.LineSkip n c m x h = (named_after s y n _ m x h.0, h.1)
ahead_after s y aheads.Call n c m x h = (named_after s y n _ m x h.0, h.1)
ahead_after s y aheads.List n c m x h = (h.0, h.1, named_after s y h.0 _ m x h.2, h.3)
ahead_after s y a n c m x h = h

-- the token after them is left to a turn
pub returns-in-Other-clause-passes : goal.returns-in-Other-clause-passes
returns-in-Other-clause-passes c =
    let old = c.args.self.now in
    let next = c.pass_tokens.new.next in
    let k = c.in_ok-len.len in
    let a = c.in-Other.lookahead in
    let t = c.in-Other.token in
    let x = c.args.text.now in
    let more : Bool = c.args.more in
    let mid = c.put_outside.new.self in
    let same : c.self.inside.state ≡ old.state = ap (λ (e : Engine). e.state) c.self.view_is in
    let put : mid ≡ put_in [] (take k x) old = c.in_ok-put_outside.ensures.engine ∙ ap (λ (y : List ℕ). put_in [] y old) c.split_at.ensures.front in
    let ahead : IsAhead a t next old.state more (drop k x) =
    subst (λ (s : State). IsAhead a t next s more (drop k x)) same (rw c.in-Other.is at c.in_ok-len.ensures.after) in
    record {
      passes = inl (record {
        plain = subst (λ (s : State). IsPlainRun s more k x) same c.in_ok-len.ensures.takes;
        outside = c.requires.outside;
        engine = put;
      });
      within = c.in_ok-len.ensures.within;
      end = subst (λ (e : Engine). IsNext a t e.open_calls next e.state more (drop k x)) (sym put)
          (ahead_next a t old.open_calls next (appended old.state (take k x)) more (drop k x)
          (ahead_after old.state (take k x) a t next more (drop k x) ahead));
      none = λ e. cc;
    }

-- a block of output is full
pub returns-in-Text-clause-passes : goal.returns-in-Text-clause-passes
returns-in-Text-clause-passes c =
    let old = c.args.self.now in
    let k = c.in_ok-len.len in
    let x = c.args.text.now in
    let same : c.self.inside.state ≡ old.state = ap (λ (e : Engine). e.state) c.self.view_is in
    record {
      passes = inl (record {
        plain = subst (λ (s : State). IsPlainRun s c.args.more k x) same c.in_ok-len.ensures.takes;
        outside = c.requires.outside;
        engine = c.in_ok-put_outside.ensures.engine ∙ ap (λ (y : List ℕ). put_in [] y old) c.split_at.ensures.front;
      });
      within = c.in_ok-len.ensures.within;
      end = tt;
      none = λ e. (refl, inr (search rules));
    }

-- a token whose text was put after them
pub returns-in_ok-put_text-in-Text-2-clause-passes : goal.returns-in_ok-put_text-in-Text-2-clause-passes
returns-in_ok-put_text-in-Text-2-clause-passes c =
    let old = c.args.self.now in
    let next = c.pass_tokens.new.next in
    let k = c.in_ok-len.len in
    let t = c.in-Text-2 in
    let a : LeftOutside = lefts.Text t.begin t.part t.all in
    let x = c.args.text.now in
    let more : Bool = c.args.more in
    let mid = c.put_outside.new.self in
    let part : List ℕ = take t.part (drop t.begin (drop k x)) in
    let same : c.self.inside.state ≡ old.state = ap (λ (e : Engine). e.state) c.self.view_is in
    let put : mid ≡ put_in [] (take k x) old = c.in_ok-put_outside.ensures.engine ∙ ap (λ (y : List ℕ). put_in [] y old) c.split_at.ensures.front in
    let h : IsLeftOutside a next old.state more (drop k x) =
    subst (λ (s : State). IsLeftOutside a next s more (drop k x)) same
    (subst (λ (v : LeftOutside). IsLeftOutside v next c.self.inside.state more (drop k x)) t.is c.in_ok-len.ensures.after) in
    let takes : IsPlainRun old.state more k x = subst (λ (s : State). IsPlainRun s more k x) same c.in_ok-len.ensures.takes in
    let after : mid.open_calls ≡ [] = ap (λ (e : Engine). e.open_calls) put ∙ c.requires.outside in
    let text : c.split_at-in-Text-2-2.result.0.now ≡ part = search rules in
    let new : c.put_text.new.self ≡ put_in [] part (put_in [] (take k x) old) =
    c.in_ok-put_text-in-Text-2.ensures.engine
    ∙ ap (λ (cs : List Call). put_in cs c.split_at-in-Text-2-2.result.0.now mid) after
    ∙ ap (λ (y : List ℕ). put_in [] y mid) text
    ∙ ap (put_in [] part) put in
    let some : 0 < t.all = put_some old.state more t.all part (drop k x) h.0 in
    let fits : t.all ≤ length (drop k x) = h.2 in
    let rest : length (drop k x) ≡ length x - k = length-drop k x in
    let within : k ≤ length x = c.in_ok-len.ensures.within in
    record {
      passes = inr (inr (record {
        before = k;
        plain = takes;
        text = part;
        len = t.all;
        found = h.0;
        all = refl;
        outside = c.requires.outside;
        engine = new;
      }));
      within = omega (arith, fits, rest, within);
      end = tt;
      none = λ u. (refl, inl (omega (arith, some)));
    }
