-- A digit or two are what std spells.
use Rattle.std.proofs.Common.{◌≡◌, ◌<◌, ◌≤◌, ◌∙◌, ◌++◌, ◌∷◌, [], ◌+◌, ◌/◌, ◌%◌, List, ℕ, sym, ap, arith}
use Rattle.std.specs.Prelude.{decimal}
use Rattle.std.proofs.lemmas.Fmt.{decimal_digit, decimal_step}
use Rattle.m4_frozen.proofs.gathered.gather_length.Goals as goal

one : (n : ℕ) → n < 10 → (48 + n) ∷ [] ≡ decimal n
one n l = sym (decimal_digit n l)

two : (n : ℕ) → 10 ≤ n → n < 100 → (48 + n / 10) ∷ (48 + n % 10) ∷ [] ≡ decimal n
two n h l = sym (decimal_step n h (omega arith) ∙ ap (λ (ds : List ℕ). ds ++ (48 + n % 10) ∷ []) (decimal_digit (n / 10) (omega arith)))

pub returns-then-length-lt10 : goal.returns-then-length-lt10
returns-then-length-lt10 c =
    let spelled = one c.args.length c.if-length-lt10.true in
    search (arith, spelled)

pub returns-then-length-lt100 : goal.returns-then-length-lt100
returns-then-length-lt100 c =
    let spelled = two c.args.length (omega (arith, c.if-length-lt10.false)) c.if-length-lt100.true in
    search (arith, spelled)
