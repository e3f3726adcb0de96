-- Each file is opened in its turn.
use Rattle.std.proofs.Common.{rules, ap, ◌∙◌, subst, List, ℕ, ◌≡◌, Some}
use Rattle.std.specs.Prelude.{string_bytes}
use Rattle.m4_tool.specs.Line.{input_after}
use Rattle.m4_tool.specs.LineRun.{named_at, named_of}
use Rattle.m4_tool.proofs.OpenedFiles.{one_opened, all_opened}
use Rattle.m4_tool.proofs.follow.opening.opened_files.Goals as goal

pub loop-file-preserved : goal.loop-file-preserved
loop-file-preserved g c = (
  c.opened.ensures.files ∙ c.loop-file.invariant.0,
  c.opened.ensures.making ∙ c.loop-file.invariant.1,
  c.opened.ensures.failures ∙ c.loop-file.invariant.2,
  c.opened.ensures.kept ∙ c.loop-file.invariant.3,
  λ fs input m f i.
      let o = c.loop-file.invariant.4 fs input m f i in
      let is = c.as_str.ensures.value ∙ ap string_bytes c.file-item.is in
      let t = c.in_ok-source.ensures.source fs o.left ((c.loop-file.invariant.1 ∙ m, c.loop-file.invariant.0 ∙ f), o.is) in
      let e = c.in_ok-source.ensures.input o.left o.is in
      rw c.in_ok-push.ensures.items
      (one_opened g.W.Reader.ByteSource.script string_bytes fs input c.args.files.now c.loop-file.file-index
      c.loop-file.sources.items _ _ c.in_ok-source.source c.file-item.result (search rules) o
      (subst (λ (n : List ℕ). named_of g.W.Reader.ByteSource.script c.in_ok-source.source ≡ named_at fs o.left
      n) is t)
      (subst (λ (n : List ℕ). g.W.World.input c.opened.new.world ≡ Some (input_after o.left n)) is e)),
)

pub returns-clause-sources : goal.returns-clause-sources
returns-clause-sources g c = λ fs input k.
    all_opened g.W.Reader.ByteSource.script string_bytes fs input c.args.files.now c.loop-file.file-index
    c.loop-file.sources.items _ (search rules) (c.loop-file.invariant.4 fs input k.0.0 k.0.1 k.1)
