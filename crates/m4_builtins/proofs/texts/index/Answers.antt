use Rattle.std.proofs.Common.{◌≡◌, ℕ, Option, Some, None, sym, subst, ◌∙◌, rules}
use Rattle.std.specs.Prelude.{OnOk, codes}
use Rattle.std.specs.Fmt.{decimal}
use Rattle.m4_builtins.specs.Acted.{expands}
use Rattle.m4_builtins.specs.Texts.{place_in}
use Rattle.m4_builtins.proofs.FirstPlace.{found_first}
use Rattle.m4_builtins.proofs.texts.index.Goals as goal

pub returns-in-Some : goal.returns-in-Some
returns-in-Some c =
    let found = found_first c.text_at.result.now c.text_at-2.result.now c.find.result c.find.ensures in
    subst (λ (o : Option ℕ). OnOk c.give_number.result (c.give_number.new.self ≡ expands (elim o [ None ↦ codes "-1" | Some n ↦ decimal n ])))
    (sym c.in-Some.is ∙ found ∙ (λ i. place_in (c.text_at.ensures i) (c.text_at-2.ensures i))) (search rules)

pub returns-in-None : goal.returns-in-None
returns-in-None c =
    let found = found_first c.text_at.result.now c.text_at-2.result.now c.find.result c.find.ensures in
    subst (λ (o : Option ℕ). OnOk c.give_copy.result (c.give_copy.new.self ≡ expands (elim o [ None ↦ codes "-1" | Some n ↦ decimal n ])))
    (sym c.in-None.is ∙ found ∙ (λ i. place_in (c.text_at.ensures i) (c.text_at-2.ensures i))) (search rules)
