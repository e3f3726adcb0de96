-- Chosen: what `ifelse` chooses after the first three arguments.
use Rattle.std.proofs.Common.{◌≡◌, ◌-◌, ◌<◌, ◌≤◌, Bool, false, List, [], ◌∷◌, length, length-drop, take, drop, get_or}
use Rattle.std.proofs.Common.{refl, sym, ap, ◌∙◌, arith}
use Rattle.std.specs.Prelude.{if◌then◌else◌}
use Rattle.std.specs.Str.{bytes_eq}
use Rattle.std.proofs.lemmas.List.{take_all}
use Rattle.m4_builtins.specs.declared.args.Arg.{Arg}
use Rattle.m4_builtins.specs.Args.{text_of_arg, texts_of}
use Rattle.m4_builtins.specs.Branching.{chosen_text}

-- fewer than three choose nothing
pub chosen_short : (list : List Arg) → length list < 3 → chosen_text (texts_of list) ≡ []
chosen_short [] lt = refl
chosen_short (x ∷ []) lt = refl
chosen_short (x ∷ y ∷ []) lt = refl
chosen_short (x ∷ y ∷ z ∷ list) lt = absurd (omega arith)

-- all that comes after the third
after_third : (list : List Arg) → take (length list - 3) (drop 3 list) ≡ drop 3 list
after_third list = take_all (length list - 3) (drop 3 list) (omega (arith, length-drop 3 list))

-- where the first two differ, and three or more come after the third, these choose
chosen_on : (list others : List Arg) (x y : Arg) → others ≡ drop 3 list → 3 ≤ length others → x ≡ get_or list 0 x
    → y ≡ get_or list 1 y → bytes_eq (text_of_arg x) (text_of_arg y) ≡ false
    → chosen_text (texts_of others) ≡ chosen_text (texts_of list)
chosen_on [] [] x y is le e f differ = refl
chosen_on [] (o ∷ others) x y is le e f differ = absurd cc
chosen_on (a ∷ []) others x y is le e f differ = let none = ap (λ (xs : List Arg). length xs) is in absurd (omega (arith, none))
chosen_on (a ∷ b ∷ []) others x y is le e f differ = let none = ap (λ (xs : List Arg). length xs) is in absurd (omega (arith, none))
chosen_on (a ∷ b ∷ c ∷ []) others x y is le e f differ = let none = ap (λ (xs : List Arg). length xs) is in absurd (omega (arith, none))
chosen_on (a ∷ b ∷ c ∷ u ∷ []) others x y is le e f differ = let one = ap (λ (xs : List Arg). length xs) is in absurd (omega (arith, one))
chosen_on (a ∷ b ∷ c ∷ u ∷ v ∷ []) others x y is le e f differ = let two = ap (λ (xs : List Arg). length xs) is in absurd (omega (arith, two))
chosen_on (a ∷ b ∷ c ∷ u ∷ v ∷ w ∷ rest) others x y is le e f differ =
    let apart : bytes_eq (text_of_arg a) (text_of_arg b) ≡ false = (λ i. bytes_eq (text_of_arg (sym e i)) (text_of_arg (sym f i))) ∙ differ in
    ap (λ (xs : List Arg). chosen_text (texts_of xs)) is
    ∙ ap (λ (t : Bool). if t then text_of_arg c else chosen_text (texts_of (u ∷ v ∷ w ∷ rest))) (sym apart)

pub chosen_later : (list : List Arg) (x y : Arg) → 3 ≤ length (take (length list - 3) (drop 3 list))
    → x ≡ get_or list 0 x → y ≡ get_or list 1 y → bytes_eq (text_of_arg x) (text_of_arg y) ≡ false
    → chosen_text (texts_of (take (length list - 3) (drop 3 list))) ≡ chosen_text (texts_of list)
chosen_later list x y le e f differ = chosen_on list (take (length list - 3) (drop 3 list)) x y (after_third list) le e f differ
