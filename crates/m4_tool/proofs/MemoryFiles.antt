-- The files of a world in memory.
use Rattle.std.proofs.Common.{◌≡◌, ◌<◌, ℕ, true, List, ◌++◌, length, get_or, drop, Option, Some}
use Rattle.std.proofs.Common.{refl, sym, ap, ◌∙◌}
use Rattle.std.specs.Str.{bytes_eq}
use Rattle.m4_tool.specs.declared.given.Given.{Given}
use Rattle.m4_tool.specs.World.{with_file, with_more}
use Rattle.m4_tool.specs.Memory.{given_files, memory_files}
use Rattle.m4_tool.proofs.MadeFiles.{with_more_file}
use Rattle.m4_tool.proofs.Places.{at_place}

pub memory_longer : (name given old new more : List ℕ) (made : Option (List ℕ)) (gs : List Given) → name ≡ given → made ≡ Some old → new ≡ old ++ more
    → with_file name new (given_files gs) ≡ with_more given more (memory_files name made gs)
memory_longer name given old new more made gs n m e =
    ap (λ (b : List ℕ). with_file name b (given_files gs)) e
    ∙ sym (with_more_file name old more (given_files gs))
    ∙ ap (λ (o : Option (List ℕ)). with_more name more (memory_files name o gs)) (sym m)
    ∙ ap (λ (g : List ℕ). with_more g more (memory_files name made gs)) n

pub given_here : (gs : List Given) (i : ℕ) (x : Given) (n : List ℕ) → i < length gs
    → bytes_eq n (get_or gs i x).name.now ≡ true → given_files gs n ≡ given_files (drop i gs) n
    → given_files gs n ≡ Some (record { bytes = (get_or gs i x).bytes.now; fails = (get_or gs i x).fails })
given_here gs i x n lt t e = e ∙ ap (λ (xs : List Given). given_files xs n) (at_place gs i x lt) ∙ rw t refl
