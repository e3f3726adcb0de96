-- The name is shown as it is.
use Rattle.std.proofs.Common.{◌≡◌, ◌∙◌, ◌++◌, List, ℕ, length, sym, ap, refl, append_assoc}
use Rattle.std.specs.Prelude.{codes, decimal}
use Rattle.std.proofs.lemmas.Result.{on_ok_weaker}
use Rattle.m4_frozen.specs.Listing.{show}
use Rattle.m4_frozen.specs.InspectorSteps.{counted_line}
use Rattle.m4_frozen.proofs.ListingParts.{show-some}
use Rattle.m4_frozen.proofs.Plain.{shown_as_they_are}
use Rattle.m4_frozen.proofs.inspector.gather_counted.Goals as goal

-- the parts, one after another
parts : (name text a b c d : List ℕ) → a ≡ codes "text " → b ≡ a ++ name → c ≡ b ++ codes " " → d ≡ c ++ decimal (length text) → show name ≡ name
    → d ++ codes "\n" ≡ counted_line name text
parts name text a b c d p q r s e = rw (s, r, q, p, e) (simp append_assoc refl)

pub returns : goal.returns
returns c =
    let plain : show c.args.name.now ≡ c.args.name.now =
    show-some c.args.name.now c.is_empty.result c.is_empty.ensures c.if-is_empty.false
    ∙ shown_as_they_are c.args.name.now (sym c.are_plain.ensures ∙ c.if-not-are_plain.false) in
    on_ok_weaker c.add-4.result
    (λ last. last ∙ parts c.args.name.now c.args.text.now _ _ _ _
    (c.in_ok-add.ensures.ok ∙ ap (λ (x : List ℕ). x ++ codes "text ") c.requires)
    c.in_ok-add-2.ensures.ok c.in_ok-add-3.ensures.ok c.in_ok-gather_length.ensures plain)
    c.add-4.ensures.ok
