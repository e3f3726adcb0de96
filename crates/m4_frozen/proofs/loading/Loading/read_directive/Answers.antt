-- A directive is read, or refused, whatever was read before it.
use Rattle.std.proofs.Common.{refl}
use Rattle.std.proofs.lemmas.Result.{err_from_is_err_and}
use Rattle.m4_frozen.specs.DirectiveView.{directive_of}
use Rattle.m4_frozen.proofs.ReadOn.{has_read_directive, directive_left, directive_refused}
use Rattle.m4_frozen.proofs.ReadOn.{nothing_left}
use Rattle.m4_frozen.proofs.loading.Loading.read_directive.Goals as goal

pub returns-in_err-next_directive : goal.returns-in_err-next_directive
returns-in_err-next_directive c =
    let p = err_from_is_err_and c.from_residual.result c.from_residual.ensures.1 in
    rw (p.1, p.2) (
      refl,
      directive_left c.args.bytes.now c.in_err-next_directive.field-0.0 c.args.self.now.inside
          c.requires.at_directive c.in_err-next_directive.ensures.gives,
      λ read h. directive_refused read c.args.bytes.now c.in_err-next_directive.field-0.0
          c.args.self.now c.requires.at_directive c.requires.versioned c.in_err-next_directive.ensures.gives h,
    )

pub returns-in-None : goal.returns-in-None
returns-in-None c = (
  nothing_left c.args.bytes.now (rw c.in-None.is at c.in_ok-next_directive.ensures.gives),
  c.requires.versioned,
  refl,
)

pub returns-in_ok-apply-in-Some : goal.returns-in_ok-apply-in-Some
returns-in_ok-apply-in-Some c =
    has_read_directive c.args.bytes.now c.in-Some.after.now (directive_of c.in-Some.directive)
    c.args.self.now c.apply.new.self c.requires.at_directive c.requires.versioned
    (rw c.in-Some.is at c.in_ok-next_directive.ensures.gives)
    c.in_ok-apply-in-Some.ensures.applied c.in_ok-apply-in-Some.ensures.issued
