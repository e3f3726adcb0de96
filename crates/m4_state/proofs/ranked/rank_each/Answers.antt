use Rattle.std.proofs.Common.{◌∙◌, ℕ, List, map, drop, slice_index_or, sym, ap, subst, arith}
use Rattle.std.proofs.lemmas.List.{length-set, map-set, set-get_or}
use Rattle.std.proofs.lemmas.List.Elements.{AllWithin-more_set}
use Rattle.m4_state.specs.ByteWords.{IsRank}
use Rattle.m4_state.specs.Entries.{name_at}
use Rattle.m4_state.specs.declared.ranked.Ranked.{Ranked}
use Rattle.m4_state.proofs.ranked.rank_each.Goals as goal

-- one more element is ranked, and its place stays
pub loop-k-preserved : goal.loop-k-preserved
loop-k-preserved c =
    let es = c.args.entries.now.entries in
    let run = c.loop-k.run in
    let k = c.loop-k.k in
    let was : Ranked = slice_index_or run k record { rank = 0; place = 0 } in
    let new : Ranked = record { rank = c.rank_of-rank.result; place = was.place } in
    let place : Ranked → ℕ = λ r. r.place in
    record {
      within = omega (arith, length-set run k new, c.loop-k-test.true);
      long = length-set run k new ∙ c.loop-k.invariant.long;
      places = map-set place run k new ∙ sym (map-set place run k was) ∙ ap (map place) (set-get_or run k _) ∙ c.loop-k.invariant.places;
      ranks = AllWithin-more_set run k new (omega (arith, c.loop-k-test.true))
          (λ (r : Ranked). IsRank (drop c.args.from (name_at es r.place)) r.rank) c.loop-k.invariant.ranks
          (subst (λ (name : List ℕ). IsRank (drop c.args.from name) c.rank_of-rank.result) c.name_of.ensures c.rank_of-rank.ensures);
    }
