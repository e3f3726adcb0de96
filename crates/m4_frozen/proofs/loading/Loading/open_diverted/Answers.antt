-- A diversion whose text is not whole is begun.
use Rattle.std.proofs.Common.{◌≡◌, ◌∷◌, ◌-◌, true, length, Some, ap, rules}
use Rattle.std.specs.Int.{w32}
use Rattle.std.proofs.lemmas.Int.{to_z-of_z}
use Rattle.m4_frozen.specs.declared.begun.Begun.TheVariants as begun
use Rattle.m4_frozen.specs.declared.loading.Loading.{Loading}
use Rattle.m4_frozen.specs.Underway.{IsAtDirective}
use Rattle.m4_frozen.proofs.TextRead.{has_read_opened, head_fits}
use Rattle.m4_frozen.proofs.loading.Loading.open_diverted.Goals as goal

pub returns : goal.returns
returns c = λ read h.
    let versioned : c.args.self.now.versioned ≡ true = search rules in
    let at : IsAtDirective c.args.self.now.inside (68 ∷ c.in-Some.line.now) = rw c.in-Some.ensures.some at c.requires in
    let fits = head_fits c.in-Some.line.now c.in-Ok.number c.in-Ok.len c.in-Ok.text.now c.in-Ok.ensures in
    let divert = rw (to_z-of_z w32 c.in-Ok.number fits) at c.divert.ensures in
    let added = rw divert at c.in_ok-add.ensures.added in
    let issued = rw divert at c.in_ok-add.ensures.issued in
    rw c.in-Some.ensures.some
    (has_read_opened read c.in-Some.line.now c.in-Ok.text.now c.in-Ok.number c.in-Ok.len
    c.args.self.now (record c.add.new.self { begun = Some (begun.Diversion (c.in-Ok.len - length c.in-Ok.text.now)) })
    at versioned c.in-Ok.ensures c.if-len-text.false
    (ap (λ (x : Loading). record x { begun = Some (begun.Diversion (c.in-Ok.len - length c.in-Ok.text.now)) }) added)
    issued h)
