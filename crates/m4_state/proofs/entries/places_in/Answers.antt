use Rattle.std.proofs.Common.{◌≡◌, ◌∙◌, ◌+◌, ℕ, List, [], ◌∷◌, ◌++◌, map, refl, sym, ap, arith}
use Rattle.std.specs.List.{range_with_len}
use Rattle.std.proofs.lemmas.List.{map-append, map-id}
use Rattle.std.proofs.lemmas.List.FromFn.{map-range_with_len_more}
use Rattle.std.proofs.lemmas.Slice.{pushed}
use Rattle.m4_state.specs.declared.ranked.Ranked.{Ranked}
use Rattle.m4_state.proofs.entries.places_in.Goals as goal

range_more : (n : ℕ) → range_with_len 0 n ++ n ∷ [] ≡ range_with_len 0 (n + 1)
range_more n = ap (λ (l : List ℕ). l ++ n ∷ []) (sym (map-id _)) ∙ sym (map-range_with_len_more (λ (i : ℕ). i) 0 n n (omega arith)) ∙ map-id _

-- one more place
pub loop-place-preserved : goal.loop-place-preserved
loop-place-preserved c =
    let items = c.loop-place.places.items in
    let now = pushed (c.new.result ∷ []) refl c.in_ok-push.was c.push.ensures.items in
    record {
      within = omega (arith, c.loop-place-test.true);
      places =
          ap (λ (l : List Ranked). map (λ (r : Ranked). r.place) l) now ∙ map-append (λ (r : Ranked). r.place) items _
          ∙ (λ j. c.loop-place.invariant.places j ++ c.new.ensures j ∷ []) ∙ range_more c.loop-place.place;
    }
