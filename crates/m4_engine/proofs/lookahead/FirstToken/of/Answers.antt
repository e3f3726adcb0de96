use Rattle.std.proofs.Common.{◌≡◌, ◌∙◌, List, ℕ, [], Some, take, true, false, ap, refl, subst, sym, rules}
use Rattle.m4_state.specs.declared.definition.Def.TheVariants.{Text}
use Rattle.m4_state.specs.State.{top_of}
use Rattle.m4_builtins.specs.Subst.{subst as substituted}
use Rattle.m4_engine.specs.Expansion.{Call}
use Rattle.m4_engine.specs.Lookahead.{IsNamed}
use Rattle.m4_engine.proofs.lookahead.FirstToken.of.Goals as goal

-- a text without a dollar is its own expansion
pub returns-in_ok-set_definition-in-Text : goal.returns-in_ok-set_definition-in-Text
returns-in_ok-set_definition-in-Text c =
    let s = c.args.state.now in
    let name = take c.in-Name.len c.args.text.now in
    let named : IsNamed c.in-Name.len false s c.args.more c.args.text.now = search rules in
    let top : top_of s name ≡ Some (Text c.in-Text.body) = search rules in
    let same = subst (λ (y : List ℕ). substituted y name [] s.quotes ≡ y) c.as_slice.ensures.value (c.is_plain.ensures c.if-is_plain.true name [] s.quotes) in
    (named, (c.in-Text.body, top, sym same, search rules))

-- a name with a list
pub returns-in_ok-renew-in-Yes : goal.returns-in_ok-renew-in-Yes
returns-in_ok-renew-in-Yes c =
    let named : IsNamed c.in-Name.len true c.args.state.now c.args.more c.args.text.now = record {
      scanned = rw c.in-Name.is at c.requires.value;
      within = (rw c.in-Name.is at c.requires.lies).1;
      list = rw c.requires.quotes at (rw c.requires.comments at (rw c.split_at.ensures.back at
          (c.list_follows.ensures ∙ c.in-Yes.is)));
    } in
    let top : top_of c.args.state.now (take c.in-Name.len c.args.text.now) ≡ Some c.in-Some.definition.now = search rules in
    let next = c.in_ok-renew-in-Yes.ensures in
    (c.in-Name.len, refl, named, (top ∙ ap (λ (d : Call). Some d.definition) (sym next), ap (λ (d : Call). d.name) next))

-- a name without one
pub returns-in-Builtin-Dnl : goal.returns-in-Builtin-Dnl
returns-in-Builtin-Dnl c =
    let named : IsNamed c.in-Name.len false c.args.state.now c.args.more c.args.text.now = record {
      scanned = rw c.in-Name.is at c.requires.value;
      within = (rw c.in-Name.is at c.requires.lies).1;
      list = rw c.requires.quotes at (rw c.requires.comments at (rw c.split_at.ensures.back at
          (c.list_follows.ensures ∙ c.in-No.is)));
    } in
    (named, search rules)

pub returns-in_ok-renew-in_default-definition : goal.returns-in_ok-renew-in_default-definition
returns-in_ok-renew-in_default-definition c =
    let named : IsNamed c.in-Name.len false c.args.state.now c.args.more c.args.text.now = record {
      scanned = rw c.in-Name.is at c.requires.value;
      within = (rw c.in-Name.is at c.requires.lies).1;
      list = rw c.requires.quotes at (rw c.requires.comments at (rw c.split_at.ensures.back at
          (c.list_follows.ensures ∙ c.in-No.is)));
    } in
    let top : top_of c.args.state.now (take c.in-Name.len c.args.text.now) ≡ Some c.in-Some.definition.now = search rules in
    let next = c.in_ok-renew-in_default-definition.ensures in
    (named, (top ∙ ap (λ (d : Call). Some d.definition) (sym next), ap (λ (d : Call). d.name) next))
