-- A name's text that is not whole is begun.
use Rattle.std.proofs.Common.{◌≡◌, ◌∷◌, ◌-◌, true, length, Some, Ok, refl, rules}
use Rattle.m4_frozen.specs.declared.begun.Begun.TheVariants as begun
use Rattle.m4_frozen.specs.declared.begun.NamedText.{NamedText}
use Rattle.m4_frozen.specs.ReaderSteps.{layout_at}
use Rattle.m4_frozen.specs.Underway.{IsAtDirective}
use Rattle.m4_frozen.proofs.NamedRead.{pair_line, named_opened}
use Rattle.m4_frozen.proofs.loading.Loading.open_named.Goals as goal

pub returns : goal.returns
returns c = λ read h.
    let versioned : c.args.self.now.versioned ≡ true = search rules in
    let at : IsAtDirective c.args.self.now.inside (84 ∷ c.in-Some.line.now) = rw c.in-Some.ensures.some at c.requires in
    let t : NamedText = record {
      name = c.in_ok-from_slice.field-0;
      text = c.in_ok-from_slice-2.field-0;
      missing = c.in-Ok.len - length c.in-Ok.text.now;
    } in
    let head : layout_at pair_line c.in-Some.line.now ≡ Ok ((t.name, c.in-Ok.len), c.in-Ok.text.now) =
    rw c.in_ok-from_slice.ensures c.in-Ok.ensures in
    rw c.in-Some.ensures.some
    (named_opened read c.in-Some.line.now c.in-Ok.text.now t c.in-Ok.len
    c.args.self.now (record c.args.self.now { begun = Some (begun.Name t) })
    at versioned head c.if-len-text.false c.in_ok-from_slice-2.ensures.items refl refl h)
