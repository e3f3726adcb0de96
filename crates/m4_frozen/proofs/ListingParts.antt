-- What the parts of the inspector put, joined, is the listing.
use Rattle.std.proofs.Common.{◌≡◌, ℕ, Bool, true, false, List, [], ◌∷◌, ◌++◌, length, refl, sym, ◌∙◌, append_assoc}
use Rattle.std.proofs.Common.{add-one, ◌+◌, arith}
use Rattle.std.proofs.lemmas.Bool.{eqb-true}
use Rattle.std.specs.Prelude.{codes, decimal, nat_eq}
use Rattle.std.specs.List.{flat_map}
use Rattle.m4_frozen.specs.declared.loading.Loaded.{Loaded}
use Rattle.m4_frozen.specs.Listing.{show, pair_line, listing, show_byte}
use Rattle.m4_frozen.specs.InspectorSteps.{two_words_line, begin_end_line, counted_line, listing_text}

-- two strings after a word, grouped as the listing groups them
pub two_words_line-flat : (word first second : List ℕ) → two_words_line word first second ≡ word ++ show first ++ codes " " ++ show second ++ codes "\n"
two_words_line-flat word first second = by word (show first) (codes " ") (show second) (codes "\n")
  where
    by : (w f b s n : List ℕ) → (w ++ f) ++ ((b ++ s) ++ n) ≡ w ++ f ++ b ++ s ++ n
    by w f b s n = simp append_assoc refl

pub counted_line-flat : (name text : List ℕ) → counted_line name text ≡ codes "text " ++ show name ++ codes " " ++ decimal (length text) ++ codes "\n"
counted_line-flat name text = by (codes "text ") (show name) (codes " ") (decimal (length text)) (codes "\n")
  where
    by : (w f b s n : List ℕ) → (w ++ f) ++ (b ++ (s ++ n)) ≡ w ++ f ++ b ++ s ++ n
    by w f b s n = simp append_assoc refl

quotes_line : (begin end : List ℕ) → begin_end_line (codes "quotes ") begin end ≡ pair_line (codes "quotes") begin end
quotes_line [] end = refl
quotes_line (b ∷ begin) end = two_words_line-flat (codes "quotes ") (b ∷ begin) end

comments_line : (begin end : List ℕ) → begin_end_line (codes "comments ") begin end ≡ pair_line (codes "comments") begin end
comments_line [] end = refl
comments_line (b ∷ begin) end = two_words_line-flat (codes "comments ") (b ∷ begin) end

-- what the parts of the inspector put is the listing
pub listing_text-listing : (l : Loaded) → listing_text l l.state.table ≡ listing l
listing_text-listing l =
    rw (quotes_line l.state.quotes.begin l.state.quotes.end, comments_line l.state.comments.begin l.state.comments.end) (simp append_assoc refl)

-- a string that is not empty is shown byte by byte
pub show-some : (bytes : List ℕ) (b : Bool) → b ≡ nat_eq (length bytes) 0 → b ≡ false → show bytes ≡ flat_map show_byte bytes
show-some [] b is f = let bad : true ≡ false = sym is ∙ f in absurd cc
show-some (x ∷ bytes) b is f = refl

-- and the empty one by its sign
pub show-none : (bytes : List ℕ) (b : Bool) → b ≡ nat_eq (length bytes) 0 → b ≡ true → show bytes ≡ codes "\\."
show-none [] b is t = refl
show-none (x ∷ bytes) b is t = let none : length bytes + 1 ≡ 0 = eqb-true (length bytes + 1) 0 (rw add-one (sym is ∙ t)) in absurd (omega arith)
