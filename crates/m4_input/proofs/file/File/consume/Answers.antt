use Rattle.std.proofs.Common.{rules, ◌≡◌, ◌+◌, ◌-◌, List, ℕ, take, drop, ap, sym, ◌∙◌, arith}
use Rattle.std.proofs.lemmas.List.{drop-drop, take-append-drop}
use Rattle.m4_input.specs.declared.file.File.TheInside.{Inside}
use Rattle.m4_input.specs.Pending.{counted, newlines_in}
use Rattle.m4_input.specs.FileView.{left_in, split_at}
use Rattle.m4_input.specs.Text.{HeldText, text_in, text_after}
use Rattle.m4_input.proofs.Parts.{counted_is, counted_none}
use Rattle.m4_input.proofs.Files.{between, taken, no_newlines_after}
use Rattle.m4_input.proofs.file.File.consume.Goals as goal
use Rattle.m4_input.proofs.file.File.consume.Goals.{then-others-self, else-others-self}

-- the text of these fields after n bytes
abbrev after : ℕ → Inside → HeldText
after n i = split_at (i.pushed - n) (drop (i.at + n) i.bytes.items) i.newlines

-- the bytes before the last ones are the file's and are counted, or none of them is the file's
pub returns : goal.returns
returns c =
    let f = c.self.inside in
    let k = c.if-others-self.self-inside in
    let n = c.args.n in
    let others = n - c.args.inline in
    let left : List ℕ = left_in f in
    let all : text_in (c.args.self.now) ≡ left = ap text_in (sym c.self.view_is) ∙ take-append-drop f.pushed left in
    let same : newlines_in (take (n - f.pushed) (drop f.pushed left)) ≡ newlines_in (take (others - f.pushed) (drop f.pushed left)) =
    no_newlines_after c.args.inline n f.pushed left c.requires.within.0
    (ap (λ (x : List ℕ). newlines_in (take c.args.inline (drop others x))) (sym all) ∙ c.requires.inline) in
    let rest : after n k ≡ text_after n (split_at f.pushed left f.newlines) = elim c.if-others-self.branch [
      | then-others-self w ↦
          let rest : w.rest.result.now ≡ left = w.rest.ensures ∙ all in
          let passed : w.split_at-then-others-self.result.1.now ≡ take (others - f.pushed) (drop f.pushed left) =
          w.split_at-then-others-self.ensures.back ∙ ap (drop f.pushed) (w.split_at.ensures.front ∙ ap (take others) rest) ∙ between f.pushed others left in
          let count : w.saturating_add-self-inside.result ≡ counted f.newlines (newlines_in (take (n - f.pushed) (drop f.pushed left))) =
          w.saturating_add-self-inside.ensures ∙ counted_is f.newlines w.count_newlines.result (search rules)
          ∙ ap (counted f.newlines) (w.count_newlines.ensures ∙ ap newlines_in passed ∙ sym same) in
          ap (after n) w.self-inside-is
          ∙ ap (λ (x : List ℕ). split_at (f.pushed - n) x w.saturating_add-self-inside.result) (sym (drop-drop n f.at f.bytes.items))
          ∙ taken f.pushed n f.newlines w.saturating_add-self-inside.result left c.self.invariant.1 count
      | else-others-self w ↦
          let none : others - f.pushed ≡ 0 = omega (arith, w.if-others-self.false) in
          let count : f.newlines ≡ counted f.newlines (newlines_in (take (n - f.pushed) (drop f.pushed left))) =
          sym (counted_none f.newlines)
          ∙ ap (counted f.newlines) (sym (same ∙ ap (λ j. newlines_in (take j (drop f.pushed left))) none)) in
          ap (after n) w.self-inside-is
          ∙ ap (λ (x : List ℕ). split_at (f.pushed - n) x f.newlines) (sym (drop-drop n f.at f.bytes.items))
          ∙ taken f.pushed n f.newlines f.newlines left c.self.invariant.1 count
    ] in
    ap (λ j. split_at j (drop (k.at + n) k.bytes.items) k.newlines) c.saturating_sub-self-inside.ensures ∙ rest ∙ ap (text_after n) c.self.view_is
