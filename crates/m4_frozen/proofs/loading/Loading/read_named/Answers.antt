-- More of a name's text was read, or it ends, or it is refused.
use Rattle.std.proofs.Common.{◌≡◌, ◌≢◌, ◌-◌, ◌++◌, [], length, Some, refl, ap, arith, sym, ◌∙◌, List, ℕ, Err}
use Rattle.std.proofs.lemmas.Result.{err_from_is_err_and}
use Rattle.std.proofs.lemmas.List.{nil_from_length}
use Rattle.m4_state.specs.State.{State}
use Rattle.m4_frozen.specs.declared.begun.Begun.TheVariants as begun
use Rattle.m4_frozen.specs.declared.begun.NamedText.{NamedText}
use Rattle.m4_frozen.specs.declared.loading.Loading.{Loading}
use Rattle.m4_frozen.specs.Directive.{Text}
use Rattle.m4_frozen.specs.ReaderSteps.{file_at}
use Rattle.m4_frozen.specs.Underway.{IsRead, short}
use Rattle.m4_frozen.proofs.ByteTests.{eq_of}
use Rattle.m4_frozen.proofs.TextRead.{all_bytes, text_refused, some_if, two_parts, all_came}
use Rattle.m4_frozen.proofs.NamedRead.{named_more, named_text}
use Rattle.m4_frozen.proofs.loading.Loading.read_named.Goals as goal

pub returns-then-is_empty : goal.returns-then-is_empty
returns-then-is_empty c =
    let none : c.split_at.result.1.now ≡ [] =
    nil_from_length c.split_at.result.1.now
    (eq_of _ 0 (sym c.is_empty.ensures ∙ c.if-is_empty.true)) in
    let u : NamedText = record {
      name = c.args.begun.name;
      text = c.extend_from_slice.new.self;
      missing = c.args.begun.missing - length c.split_at.result.0.now;
    } in
    let new : Loading = record c.args.self.now { begun = Some (begun.Name u) } in
    λ read h. all_bytes (λ (bytes : List ℕ). IsRead (read ++ bytes) new × (file_at (read ++ bytes) ≡ Err short))
    c.args.bytes.now c.split_at.result.0.now c.split_at.result.1.now
    (two_parts c.args.bytes.now c.split_at.result.0.now c.split_at.result.1.now c.min.result
    c.split_at.ensures.front c.split_at.ensures.back) none
    (named_more read c.split_at.result.0.now c.args.self.now new c.args.begun u
    (omega (arith, c.split_at.ensures.front_len, c.min.ensures)) refl c.in_ok-extend_from_slice.ensures.items refl refl h)

pub returns-in_err-after : goal.returns-in_err-after
returns-in_err-after c =
    let p = err_from_is_err_and c.from_residual-in_err-after.result c.from_residual-in_err-after.ensures.1 in
    let some : c.split_at.result.1.now ≢ [] =
    some_if c.split_at.result.1.now (sym c.is_empty.ensures ∙ c.if-is_empty.false) in
    rw (p.1, p.2) (λ read h. text_refused read c.args.bytes.now c.split_at.result.0.now
    c.split_at.result.1.now c.args.self.now h.directives (Text c.args.begun.name) c.args.begun.text.items
    c.args.begun.missing c.in_err-after.field-0.0
    (two_parts c.args.bytes.now c.split_at.result.0.now c.split_at.result.1.now c.min.result
    c.split_at.ensures.front c.split_at.ensures.back) (all_came c.args.bytes.now c.split_at.result.0.now c.split_at.result.1.now c.args.begun.missing
    c.min.result c.split_at.ensures.front c.split_at.ensures.back c.split_at.ensures.front_len
    c.min.ensures (sym c.is_empty.ensures ∙ c.if-is_empty.false)) some
    c.in_err-after.ensures h.within)

pub returns : goal.returns
returns c = named_text c.args.bytes.now c.split_at.result.0.now c.split_at.result.1.now
    c.in_ok-after.after.now c.in_ok-text.text c.args.self.now (record c.args.self.now { state = c.push_borrowed.new.self }) c.args.begun
    (two_parts c.args.bytes.now c.split_at.result.0.now c.split_at.result.1.now c.min.result
    c.split_at.ensures.front c.split_at.ensures.back) (all_came c.args.bytes.now c.split_at.result.0.now c.split_at.result.1.now c.args.begun.missing
    c.min.result c.split_at.ensures.front c.split_at.ensures.back c.split_at.ensures.front_len
    c.min.ensures (sym c.is_empty.ensures ∙ c.if-is_empty.false)) c.in_ok-after.ensures c.requires
    (c.in_ok-text.ensures ∙ c.shrink_to_fit.ensures.items ∙ c.in_ok-extend_from_slice.ensures.items)
    (ap (λ (x : State). record c.args.self.now { state = x }) (rw (c.as_slice.ensures.value) at c.in_ok-push_borrowed.ensures.ok))
