-- Bytes that are shown as they are.
use Rattle.std.proofs.Common.{◌≡◌, ℕ, Bool, true, cond, ◌/◌, ◌%◌, List, [], ◌∷◌, ◌++◌, refl, ap, ◌∙◌}
use Rattle.std.specs.List.{flat_map, list_all}
use Rattle.m4_frozen.specs.Listing.{is_plain, show_byte, backslash, hex_digit}
use Rattle.m4_frozen.proofs.ByteTests.{both_true}

-- a plain byte is shown as it is
shown_plain : (b : ℕ) → is_plain b ≡ true → show_byte b ≡ b ∷ []
shown_plain b h = ap (λ (c : Bool). cond c (b ∷ []) (backslash ∷ hex_digit (b / 16) ∷ hex_digit (b % 16) ∷ [])) h

-- where all are plain, showing them changes nothing
pub shown_as_they_are : (xs : List ℕ) → list_all is_plain xs ≡ true → flat_map show_byte xs ≡ xs
shown_as_they_are [] h = refl
shown_as_they_are (x ∷ xs) h =
    let both = both_true (is_plain x) (list_all is_plain xs) h in
    ap (λ (shown : List ℕ). shown ++ flat_map show_byte xs) (shown_plain x both.0) ∙ ap (λ (rest : List ℕ). x ∷ rest) (shown_as_they_are xs both.1)
