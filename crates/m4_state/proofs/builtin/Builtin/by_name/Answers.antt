-- The first builtin of those that are left bears the name, or those after it do.
use Rattle.std.proofs.Common.{◌≡◌, ℕ, suc, ◌+◌, ◌<◌, ◌≤◌, length, get_or, drop, drop-cons, drop_of_length-le, add-one}
use Rattle.std.proofs.Common.{refl, sym, ap, ◌∙◌, Bool, true, false, cond, List, [], ◌∷◌, Option, Some, None, arith}
use Rattle.std.specs.Prelude.{find, filter, ◌==◌}
use Rattle.std.specs.Str.{bytes_eq}
use Rattle.std.specs.Cmp.Lexicographic.{bytes_decides}
use Rattle.std.proofs.lemmas.Bool.Decides.{nat_tests}
use Rattle.m4_state.specs.declared.builtin.Builtin.{Builtin}
use Rattle.m4_state.specs.declared.builtin.Builtin.TheVariants.{Define}
use Rattle.m4_state.specs.Builtin.{table, builtin_named, name_of}
use Rattle.m4_state.proofs.builtin.Builtin.by_name.Goals as goal

-- whether a builtin bears a name
abbrev bears : List ℕ → Builtin → Bool
bears name b = bytes_eq (name_of b) name

-- one that does has a name as long
as_long : (name : List ℕ) (n : ℕ) → length name ≡ n → (b : Builtin) → bears name b ≡ true → (length (name_of b) == n) ≡ true
as_long name n e b is =
    let same : length (name_of b) ≡ n = ap (λ (x : List ℕ). length x) ((bytes_decides (name_of b) name).0 is) ∙ e in
    grind (arith, nat_tests, same)

-- a search leaves out those at which the test fails
find-filter : (p q : Builtin → Bool) → ((b : Builtin) → p b ≡ true → q b ≡ true) → (bs : List Builtin) → find p (filter q bs) ≡ find p bs
find-filter p q all [] = refl
find-filter p q all (b ∷ bs) = by (find-filter p q all bs) (q b) (p b) refl refl
  where
    by : find p (filter q bs) ≡ find p bs → (r s : Bool) → q b ≡ r → p b ≡ s → find p (filter q (b ∷ bs)) ≡ find p (b ∷ bs)
    by rest true true e f = rw (e, f) refl
    by rest true false e f = rw (e, f) rest
    by rest false false e f = rw (e, f) rest
    by rest false true e f = let no : false ≡ true = sym e ∙ all b f in absurd cc

-- the first of those that are left decides, or those after it
found_here : (bs : List Builtin) (name : List ℕ) (i : ℕ) (r : Bool) → i < length bs → r ≡ bears name (get_or bs i Define)
    → find (bears name) (drop i bs) ≡ cond r (Some (get_or bs i Define)) (find (bears name) (drop (i + 1) bs))
found_here bs name i r h e =
    ap (find (bears name)) (drop-cons bs i Define h)
    ∙ ap (λ (t : Bool). cond t (Some (get_or bs i Define)) (find (bears name) (drop (suc i) bs))) (sym e)
    ∙ ap (λ (j : ℕ). cond r (Some (get_or bs i Define)) (find (bears name) (drop j bs))) (sym (add-one i))

module _ (bs : List Builtin) (name : List ℕ) (i : ℕ) (answer : Option Builtin) (rest : find (bears name) (drop i bs) ≡ answer) where
  here : i < length bs → true ≡ bears name (get_or bs i Define) → Some (get_or bs i Define) ≡ answer
  here h e = sym (found_here bs name i true h e) ∙ rest

  after : i < length bs → false ≡ bears name (get_or bs i Define) → find (bears name) (drop (i + 1) bs) ≡ answer
  after h e = sym (found_here bs name i false h e) ∙ rest

  nowhere : length bs ≤ i → None ≡ answer
  nowhere h = sym (ap (find (bears name)) (drop_of_length-le bs h)) ∙ rest

pub loop-builtin-init : goal.loop-builtin-init
loop-builtin-init c =
    ap (find (bears c.args.name.now)) c.of_length-builtin-items.ensures
    ∙ find-filter (bears c.args.name.now) (λ b. length (name_of b) == length c.args.name.now) (as_long c.args.name.now (length c.args.name.now) refl) table

pub returns-then-eq : goal.returns-then-eq
returns-then-eq c =
    here c.of_length-builtin-items.result.now c.args.name.now c.loop-builtin.builtin-index
    (builtin_named c.args.name.now) c.loop-builtin.invariant c.loop-builtin-test.true
    (c.if-eq.ensures ∙ ap (λ (x : List ℕ). bytes_eq x c.args.name.now) c.name.ensures)

pub loop-builtin-preserved : goal.loop-builtin-preserved
loop-builtin-preserved c =
    after c.of_length-builtin-items.result.now c.args.name.now c.loop-builtin.builtin-index
    (builtin_named c.args.name.now) c.loop-builtin.invariant c.loop-builtin-test.true
    (c.if-eq.ensures ∙ ap (λ (x : List ℕ). bytes_eq x c.args.name.now) c.name.ensures)

pub returns : goal.returns
returns c = nowhere c.of_length-builtin-items.result.now c.args.name.now c.loop-builtin.builtin-index
    (builtin_named c.args.name.now) c.loop-builtin.invariant c.loop-builtin-test.false
