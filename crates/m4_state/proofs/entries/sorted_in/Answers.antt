use Rattle.std.proofs.Common.{◌≡◌, ◌∙◌, ◌<◌, ℕ, map, take, drop, ◌++◌, length, sym, ap, subst, rules, arith}
use Rattle.std.specs.List.{All, range_with_len}
use Rattle.std.specs.List.Sorted.{IsPermutation}
use Rattle.std.proofs.lemmas.List.{take_at, length-map}
use Rattle.std.proofs.lemmas.List.Sorted.{length_permutation}
use Rattle.m4_state.specs.Entries.{pair_at}
use Rattle.m4_state.specs.declared.ranked.Ranked.{Ranked}
use Rattle.m4_state.proofs.SortedPairs.{within_places, sorted_by_places}
use Rattle.m4_state.proofs.entries.sorted_in.Goals as goal

pub returns-clause-within : goal.returns-clause-within
returns-clause-within c =
    let es = c.args.entries.now.entries in
    let p : Ranked → ℕ = λ r. r.place in
    let run = c.sort_by_names.new.run in
    let long : length run ≡ length c.deref_mut.result.now = sym (length-map run p)
    ∙ length_permutation _ _ c.sort_by_names.ensures.permutation ∙ length-map _ p in
    let is : take c.in_ok-sorted.sorted.len (run ++ drop (length run) c.in_ok-sorted.sorted.items) ≡ run =
    take_at run _ c.in_ok-sorted.sorted.len (omega (arith, long, c.deref_mut.ensures.len)) in
    let moves : IsPermutation (range_with_len 0 (length es)) (map p run) = search rules in
    subst (All (λ (r : Ranked). r.place < length es)) (sym is) (within_places p es run moves)

pub returns-clause-pairs : goal.returns-clause-pairs
returns-clause-pairs c =
    let es = c.args.entries.now.entries in
    let p : Ranked → ℕ = λ r. r.place in
    let run = c.sort_by_names.new.run in
    let long : length run ≡ length c.deref_mut.result.now = sym (length-map run p)
    ∙ length_permutation _ _ c.sort_by_names.ensures.permutation ∙ length-map _ p in
    let is : take c.in_ok-sorted.sorted.len (run ++ drop (length run) c.in_ok-sorted.sorted.items) ≡ run =
    take_at run _ c.in_ok-sorted.sorted.len (omega (arith, long, c.deref_mut.ensures.len)) in
    let moves : IsPermutation (range_with_len 0 (length es)) (map p run) = search rules in
    ap (map (λ (r : Ranked). pair_at es r.place)) is ∙ sorted_by_places p es run moves c.in_ok-sorted.ensures.distinct c.sort_by_names.ensures.sorted
