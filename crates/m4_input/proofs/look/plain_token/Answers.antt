use Rattle.std.proofs.Common.{rules}
use Rattle.m4_input.proofs.look.plain_token.Goals as goal

pub returns-then-is_letter_byte-clause-value : goal.returns-then-is_letter_byte-clause-value
returns-then-is_letter_byte-clause-value c = search rules

pub returns-else-is_letter_byte-clause-value : goal.returns-else-is_letter_byte-clause-value
returns-else-is_letter_byte-clause-value c = search rules
