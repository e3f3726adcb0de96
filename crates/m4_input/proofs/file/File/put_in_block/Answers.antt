use Rattle.std.proofs.Common.{◌≡◌, ◌-◌, ◌++◌, List, ℕ, length, drop, ap, ◌∙◌}
use Rattle.std.specs.Vec.{with_items}
use Rattle.std.proofs.lemmas.List.{with_items_is}
use Rattle.m4_input.specs.FileView.{left_in}
use Rattle.m4_input.specs.Text.{with_text}
use Rattle.m4_input.proofs.Files.{put_first}
use Rattle.m4_input.proofs.file.File.put_in_block.Goals as goal

pub returns-clause-put : goal.returns-clause-put
returns-clause-put c h =
    let f = c.self.inside in
    let x : List ℕ = c.args.text.now in
    let put : drop (f.at - length x) (with_items f.bytes c.copy_before.new.all).items ≡ x ++ left_in f =
    ap (drop (f.at - length x)) (with_items_is f.bytes c.copy_before.new.all (c.copy_before.ensures.len ∙ c.deref_mut.ensures.len))
    ∙ c.copy_before.ensures.put ∙ ap (λ (y : List ℕ). x ++ drop f.at y) c.deref_mut.ensures.value in
    put_first f.pushed f.newlines x (left_in f) _ put ∙ ap (with_text x) c.self.view_is
