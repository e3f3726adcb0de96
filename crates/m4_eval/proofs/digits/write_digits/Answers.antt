-- At the start nothing is written yet.
use Rattle.std.proofs.Common.{ap, ◌∙◌, drop_of_length-le, arith, false}
use Rattle.std.specs.Fmt.{digits_onto}
use Rattle.m4_eval.proofs.WrittenDigits.{digits_onto-nil}
use Rattle.m4_eval.proofs.digits.write_digits.Goals as goal

pub loop-i-init : goal.loop-i-init
loop-i-init c =
    let base = c.value-base.result in
    let nothing = drop_of_length-le c.args.room.now {i = 64} (omega (arith, c.told-room)) in
    (omega arith, c.told-room, ap (digits_onto 64 base false c.args.number) nothing ∙ digits_onto-nil base c.args.number)
