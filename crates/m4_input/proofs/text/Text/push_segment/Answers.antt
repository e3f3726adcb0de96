use Rattle.std.proofs.Common.{◌≡◌, ◌+◌, ◌++◌, ◌∷◌, [], List, ℕ, length, ap, ◌∙◌, sym, arith, append_assoc}
use Rattle.std.proofs.lemmas.Grind.{common_steps}
use Rattle.m4_input.specs.Text.{HeldText, joined, with_text}
use Rattle.m4_input.proofs.Joins.{joined_push, joined_length, some_bytes}
use Rattle.m4_input.proofs.text.Text.push_segment.Goals as goal

pub invariant_of-self-in-Ok : goal.invariant_of-self-in-Ok
invariant_of-self-in-Ok c =
    let below : List (List ℕ) = c.self.inside.below.items in
    let top : List ℕ = c.self.inside.top in
    let items : c.push.new.self.items ≡ below ++ top ∷ [] = c.in-Ok.ensures.items ∙ ap (λ (x : List ℕ). below ++ x ∷ []) c.replace-top.ensures.value in
    let long : length (joined c.push.new.self.items) ≡ length top + length (joined below) =
    ap (λ (x : List (List ℕ)). length (joined x)) items ∙ joined_length below top in (
      (omega (arith, long, c.len.ensures.len, c.self.invariant), omega (arith, c.if-held-gt-LONGEST.false)),
      λ h. absurd (some_bytes c.args.segment (grind (arith, common_steps)) (sym c.replace-top.ensures.after ∙ h)),
    )

pub returns-in-Ok-clause-ok : goal.returns-in-Ok-clause-ok
returns-in-Ok-clause-ok c =
    let below : List (List ℕ) = c.self.inside.below.items in
    let top : List ℕ = c.self.inside.top in
    let f = c.self.inside.file in
    let items : c.push.new.self.items ≡ below ++ top ∷ [] = c.in-Ok.ensures.items ∙ ap (λ (x : List ℕ). below ++ x ∷ []) c.replace-top.ensures.value in
    let rests : joined c.push.new.self.items ≡ top ++ joined below = ap joined items ∙ joined_push below top in
    ap (λ (x : List ℕ). with_text (x ++ joined c.push.new.self.items) f) c.replace-top.ensures.after
    ∙ ap (λ (x : List ℕ). with_text (c.args.segment ++ x) f) rests
    ∙ ap (λ (x : List ℕ). let t : HeldText = record f { pushed = x } in t) (append_assoc c.args.segment (top ++ joined below) f.pushed)
    ∙ ap (with_text c.args.segment) c.self.view_is
