-- More of a diversion's text was read, or it ends, or it is refused.
use Rattle.std.proofs.Common.{◌≡◌, ◌≢◌, ◌-◌, [], length, Some, ap, arith, sym, ◌∙◌, List, ℕ, ◌++◌, Err}
use Rattle.std.proofs.lemmas.Result.{err_from_is_err_and}
use Rattle.std.proofs.lemmas.List.{nil_from_length}
use Rattle.m4_frozen.specs.declared.begun.Begun.TheVariants as begun
use Rattle.m4_frozen.specs.declared.loading.Loading.{Loading}
use Rattle.m4_frozen.specs.Directive.{Diversion}
use Rattle.m4_frozen.specs.ReaderSteps.{file_at}
use Rattle.m4_frozen.specs.Underway.{IsRead, short}
use Rattle.m4_frozen.proofs.ByteTests.{eq_of}
use Rattle.m4_frozen.proofs.TextRead.{has_read_more, all_bytes, has_read_text, text_refused, some_if, two_parts}
use Rattle.m4_frozen.proofs.TextRead.{all_came}
use Rattle.m4_frozen.proofs.loading.Loading.read_diverted.Goals as goal

pub returns-then-is_empty : goal.returns-then-is_empty
returns-then-is_empty c =
    let none : c.split_at.result.1.now ≡ [] =
    nil_from_length c.split_at.result.1.now
    (eq_of _ 0 (sym c.is_empty.ensures ∙ c.if-is_empty.true)) in
    let new : Loading = record c.add.new.self { begun = Some (begun.Diversion (c.args.missing - length c.split_at.result.0.now)) } in
    λ read h. all_bytes (λ (bytes : List ℕ). IsRead (read ++ bytes) new × (file_at (read ++ bytes) ≡ Err short))
    c.args.bytes.now c.split_at.result.0.now c.split_at.result.1.now
    (two_parts c.args.bytes.now c.split_at.result.0.now c.split_at.result.1.now c.min.result
    c.split_at.ensures.front c.split_at.ensures.back) none
    (has_read_more read c.split_at.result.0.now c.args.self.now new c.args.missing
    (omega (arith, c.split_at.ensures.front_len, c.min.ensures))
    (ap (λ (x : Loading). record x { begun = Some (begun.Diversion (c.args.missing - length c.split_at.result.0.now)) })
    c.in_ok-add.ensures.added)
    c.in_ok-add.ensures.issued h)

pub returns-in_err-after : goal.returns-in_err-after
returns-in_err-after c =
    let p = err_from_is_err_and c.from_residual-in_err-after.result c.from_residual-in_err-after.ensures.1 in
    let some : c.split_at.result.1.now ≢ [] =
    some_if c.split_at.result.1.now (sym c.is_empty.ensures ∙ c.if-is_empty.false) in
    rw (p.1, p.2) (λ read h. text_refused read c.args.bytes.now c.split_at.result.0.now
    c.split_at.result.1.now c.args.self.now h.directives (Diversion h.number) h.came c.args.missing
    c.in_err-after.field-0.0 (two_parts c.args.bytes.now c.split_at.result.0.now c.split_at.result.1.now c.min.result
    c.split_at.ensures.front c.split_at.ensures.back) (all_came c.args.bytes.now c.split_at.result.0.now c.split_at.result.1.now c.args.missing
    c.min.result c.split_at.ensures.front c.split_at.ensures.back c.split_at.ensures.front_len
    c.min.ensures (sym c.is_empty.ensures ∙ c.if-is_empty.false)) some
    c.in_err-after.ensures h.within)

pub returns : goal.returns
returns c = has_read_text c.args.bytes.now c.split_at.result.0.now c.split_at.result.1.now
    c.in_ok-after.after.now c.args.self.now c.add.new.self
    c.args.missing (two_parts c.args.bytes.now c.split_at.result.0.now c.split_at.result.1.now c.min.result
    c.split_at.ensures.front c.split_at.ensures.back) (all_came c.args.bytes.now c.split_at.result.0.now c.split_at.result.1.now c.args.missing
    c.min.result c.split_at.ensures.front c.split_at.ensures.back c.split_at.ensures.front_len
    c.min.ensures (sym c.is_empty.ensures ∙ c.if-is_empty.false)) c.in_ok-after.ensures
    c.requires c.in_ok-add.ensures.added
    c.in_ok-add.ensures.issued
