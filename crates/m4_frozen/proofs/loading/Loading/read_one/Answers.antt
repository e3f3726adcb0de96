-- The version is read, or refused, whatever was read before it.
use Rattle.std.proofs.Common.{refl}
use Rattle.std.proofs.lemmas.Result.{err_from_is_err_and}
use Rattle.m4_frozen.proofs.ReadOn.{has_read_version, version_left, version_refused}
use Rattle.m4_frozen.proofs.loading.Loading.read_one.Goals as goal

pub returns-in_err-after : goal.returns-in_err-after
returns-in_err-after c =
    let p = err_from_is_err_and c.from_residual.result c.from_residual.ensures.1 in
    rw (p.1, p.2) (
      refl,
      version_left c.args.bytes.now c.in_err-after.field-0.0 c.args.self.now.inside c.requires.at_directive
          c.in_err-after.ensures,
      λ read h. version_refused read c.args.bytes.now c.in_err-after.field-0.0 c.args.self.now
          c.requires.at_directive c.if-self.false c.in_err-after.ensures h,
    )

pub returns : goal.returns
returns c = has_read_version c.args.bytes.now c.in_ok-after.after.now c.args.self.now c.requires.at_directive
    c.if-self.false c.in_ok-after.ensures
