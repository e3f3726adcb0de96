-- Chains: a chain of runs is one run, from the last run to the first, by the law `split`.
use Rattle.std.proofs.Common.{◌≡◌, ◌≢◌, ℕ, ◌+◌, Bool, true, List, [], ◌∷◌, ◌++◌, Option, Some, refl, sym, ap, ◌∙◌}
use Rattle.std.proofs.Common.{subst, arith, append-nil}
use Rattle.std.specs.Prelude.{option_map}
use Rattle.m4_state.specs.Device.{Script}
use Rattle.m4_engine.specs.declared.options.Options.{Options}
use Rattle.m4_engine.specs.declared.ending.Cause.TheVariants as causes
use Rattle.m4_engine.specs.Expansion.{Ends}
use Rattle.m4_engine.specs.File.{Source}
use Rattle.m4_engine.specs.Start.{frozen_file}
use Rattle.m4_engine.specs.Run.{RunResult, run}
use Rattle.m4_engine.specs.Joined.{freezing, prefixed, Joins, Link, reloads, chain as the_chain, AllCarry}
use Rattle.m4_engine.specs.Joined.{all_sources, JoinsAll, EndsAs}
use Rattle.m4_engine.proofs.Reloads.{split}

-- one run is a chain
alone : (r : RunResult) → JoinsAll (r ∷ []) r
alone r = record {
  output = sym (append-nil r.output);
  messages = sym (append-nil r.messages);
  ending = (r, ([], refl), record { reason = refl; status = refl; frozen = refl; saved = refl });
  calls = let h : r.calls ≡ r.calls + 0 = omega arith in h;
}

-- a run and a chain
one_more : (first second joint : RunResult) (rest : List RunResult) → Joins first second joint → JoinsAll rest second → JoinsAll (first ∷ rest) joint
one_more first second joint rest two all =
    let last : RunResult = (all.ending).0 in
    let before : List RunResult = ((all.ending).1).0 in
    let ends : EndsAs second last = (all.ending).2 in
    record {
      output = two.output ∙ ap (λ x. first.output ++ x) all.output;
      messages = two.messages ∙ ap (λ x. first.messages ++ x) all.messages;
      ending = (
        last,
        (first ∷ before, ap (λ x. first ∷ x) ((all.ending).1).1),
        record {
          reason = two.reason ∙ ends.reason;
          status = two.status ∙ ends.status;
          frozen = two.frozen ∙ ends.frozen;
          saved = two.saved ∙ ends.saved;
        },
      );
      calls = two.calls ∙ ap (λ n. first.calls + n) all.calls;
    }

pub chain : (o : Options) (freezes : Bool) (frozen : Option Script) (sources : List Source) (links : List Link)
    → AllCarry o frozen sources links
    → (run (freezing freezes o) frozen (all_sources sources links)).reason ≢ Ends causes.ExpansionLimit
    → JoinsAll (the_chain o freezes frozen sources links)
    (run (freezing freezes o) frozen (all_sources sources links))
chain o freezes frozen sources [] carry limit =
    subst (λ (x : List Source). JoinsAll (run (freezing freezes o) frozen sources ∷ []) (run (freezing freezes o) frozen x)) (sym (append-nil sources))
    (alone (run (freezing freezes o) frozen sources))
chain o freezes frozen sources (l ∷ ls) carry limit =
    let text : List ℕ = (carry.1).0 in
    let first : RunResult = run (freezing true o) frozen sources in
    let joint : RunResult = run (freezing freezes o) frozen (all_sources sources (l ∷ ls)) in
    let froze : first.frozen ≡ Some text = (carry.1).1 in
    let file : reloads first ≡ Some (frozen_file text) = ap (option_map frozen_file) froze in
    let second : RunResult = run (freezing freezes (prefixed l.prefix o)) (Some (frozen_file text)) (all_sources l.sources ls) in
    let two : Joins first second joint = split o freezes l.prefix frozen sources (all_sources l.sources ls) text carry.0 froze limit in
    let on : AllCarry (prefixed l.prefix o) (Some (frozen_file text)) l.sources ls = subst (λ f. AllCarry (prefixed l.prefix o) f l.sources ls) file carry.2 in
    let rest : JoinsAll (the_chain (prefixed l.prefix o) freezes (Some (frozen_file text)) l.sources ls) second =
    chain (prefixed l.prefix o) freezes (Some (frozen_file text)) l.sources ls on (λ e. limit (two.reason ∙ e)) in
    subst (λ f. JoinsAll (first ∷ the_chain (prefixed l.prefix o) freezes f l.sources ls) joint) (sym file)
    (one_more first second joint _ two rest)
