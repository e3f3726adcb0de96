-- The name is the builtin's own.
use Rattle.std.proofs.Common.{ℕ, List, ◌++◌, ap}
use Rattle.std.specs.Prelude.{codes}
use Rattle.m4_builtins.specs.Messages.{warning}
use Rattle.m4_builtins.proofs.messages.parts_of.Goals as goal

pub returns-in-TooFew : goal.returns-in-TooFew
returns-in-TooFew c = rw c.in-TooFew.is
    (λ p. ap (λ (name : List ℕ). warning p (codes "too few arguments to builtin `" ++ name ++ codes "'")) c.name.ensures)

pub returns-in-Excess : goal.returns-in-Excess
returns-in-Excess c = rw c.in-Excess.is
    (λ p. ap (λ (name : List ℕ). warning p (codes "excess arguments to builtin `" ++ name ++ codes "' ignored")) c.name-in-Excess.ensures)

pub returns-in-EmptyNumber : goal.returns-in-EmptyNumber
returns-in-EmptyNumber c = rw c.in-EmptyNumber.is
    (λ p. ap (λ (name : List ℕ). warning p (codes "empty string treated as 0 in builtin `" ++ name ++ codes "'")) c.name-in-EmptyNumber.ensures)

pub returns-in-NotNumeric : goal.returns-in-NotNumeric
returns-in-NotNumeric c = rw c.in-NotNumeric.is
    (λ p. ap (λ (name : List ℕ). warning p (codes "non-numeric argument to builtin `" ++ name ++ codes "'")) c.name-in-NotNumeric.ensures)

pub returns-in-BadName : goal.returns-in-BadName
returns-in-BadName c = rw c.in-BadName.is
    (λ p. ap (λ (name : List ℕ). warning p (codes "invalid macro name ignored in builtin `" ++ name ++ codes "'")) c.name-in-BadName.ensures)
