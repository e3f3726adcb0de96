use Rattle.std.proofs.Common.{◌≡◌, ◌+◌, ◌-◌, ℕ, inl, inr, false, [], drop, slice_index_or, refl, sym, ap, subst, ◌∙◌, rules, arith}
use Rattle.std.proofs.lemmas.Bool.{cases_lt}
use Rattle.std.proofs.lemmas.List.{get_or_default}
use Rattle.m4_state.specs.ByteWords.{BeginsAlike, IsRank}
use Rattle.m4_state.specs.Entries.{name_at}
use Rattle.m4_state.specs.declared.ranked.Ranked.{Ranked}
use Rattle.m4_state.proofs.RankOrder.{before, greater_after}
use Rattle.m4_state.proofs.ranked.are_sorted.Goals.{then-rank-last-2, else-rank-last-2}
use Rattle.m4_state.proofs.ranked.are_sorted.Goals as goal

-- one more name is in order
pub loop-k-preserved : goal.loop-k-preserved
loop-k-preserved c =
    let es = c.args.entries.now.entries in
    let run = c.args.run.now in
    let k = c.loop-k.k in
    let none : Ranked = record { rank = 0; place = 0 } in
    let place : ℕ → Ranked → ℕ = λ i d. (slice_index_or run i d).place in
    let all : (i : ℕ) → BeginsAlike 0 [] (name_at es i) = λ i. record { within = omega arith; alike = refl } in
    let rank : IsRank (drop 0 (name_at es (place k none))) c.rank_of-rank.result =
    subst (λ n. IsRank (drop 0 n) c.rank_of-rank.result) c.name_of-in-loop-k.ensures c.rank_of-rank.ensures in
    let next : before es (place k none) (place (k - 1) none) ≡ false = elim c.if-rank-last-2.branch [
      | then-rank-last-2 w ↦ search (rules, w.value-is)
      | else-rank-last-2 w ↦
          greater_after es 0 [] (place k none) (place (k - 1) none) c.rank_of-rank.result c.loop-k.last
          (all (place k none)) (all (place (k - 1) none)) rank (c.loop-k.invariant.ranked none)
          (omega (arith, c.if-rank-last.false, w.if-rank-last-2.false))
    ] in
    let here : (d : Ranked) → slice_index_or run k d ≡ slice_index_or run k none = λ d. get_or_default run k d none (omega (arith, c.loop-k-test.true)) in
    let last : (d : Ranked) → slice_index_or run (k - 1) d ≡ slice_index_or run (k - 1) none =
    λ d. get_or_default run (k - 1) d none (omega (arith, c.loop-k-test.true)) in
    record {
      begun = omega arith;
      within = omega (arith, c.loop-k-test.true);
      sorted = λ i d low lt. elim (cases_lt (i + 1) k) [
        | inl a ↦ c.loop-k.invariant.sorted i d low a
        | inr a ↦
            let e : i + 1 ≡ k = omega (arith, lt, a) in
            let f : i ≡ k - 1 = omega (arith, e) in
            ap (λ (j : ℕ). before es (place j d) (place i d)) e ∙ ap (λ (j : ℕ). before es (place k d) (place j d)) f
            ∙ (λ j. before es (here d j).place (last d j).place) ∙ next
      ];
      ranked = λ d.
          let same : k ≡ k + 1 - 1 = omega arith in
          subst (λ (i : ℕ). IsRank (name_at es (slice_index_or run i d).place) c.rank_of-rank.result) same
          (subst (λ (x : Ranked). IsRank (name_at es x.place) c.rank_of-rank.result) (sym (here d)) rank);
    }
