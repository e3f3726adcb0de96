use Rattle.std.proofs.Common.{◌<◌, ℕ, List, map, drop, slice_index_or, ap, subst, rules, arith}
use Rattle.std.specs.List.Sorted.{IsPermutation}
use Rattle.std.specs.Ordering.{is_lt, nat_cmp}
use Rattle.std.specs.Cmp.{nat_cmp_total}
use Rattle.std.specs.Cmp.Lexicographic.{nat_list_cmp_total}
use Rattle.std.proofs.lemmas.List.{get_or_default}
use Rattle.std.proofs.lemmas.List.Sorted.{ranks_by, answers_always, IsPermutation-map, IsPermutation-trans}
use Rattle.std.proofs.lemmas.List.Sorted.{IsPermutation-refl}
use Rattle.std.proofs.lemmas.Fn.{always_returns_same}
use Rattle.m4_state.specs.ByteWords.{BeginsAlike, IsRank}
use Rattle.m4_state.specs.Entries.{name_at}
use Rattle.m4_state.specs.declared.ranked.Ranked.{Ranked}
use Rattle.m4_state.proofs.Runs.{more_runs, one_run, apart_by_ranks}
use Rattle.m4_state.proofs.RankOrder.{before, greater_after, facts_sorted}
use Rattle.m4_state.proofs.ranked.+sort_by_names.Goals as goal

-- few names were compared as they are
pub returns-then-run-lt-FEW-clause-permutation : goal.returns-then-run-lt-FEW-clause-permutation
returns-then-run-lt-FEW-clause-permutation t c =
    IsPermutation-map (λ (r : Ranked). r.place) c.args.run.now c.sort_unstable_by.new.self c.sort_unstable_by.ensures.permutation

pub returns-then-run-lt-FEW-clause-sorted : goal.returns-then-run-lt-FEW-clause-sorted
returns-then-run-lt-FEW-clause-sorted t c =
    let es = c.args.entries.now.entries in
    c.sort_unstable_by.ensures.sorted (λ x y. before es x.place y.place)
    (ranks_by nat_list_cmp_total (λ (x : Ranked). name_at es x.place)) (always_returns_same _ _ _ (λ a r f k. search rules))

-- they were sorted
pub returns-then-are_sorted-clause-permutation : goal.returns-then-are_sorted-clause-permutation
returns-then-are_sorted-clause-permutation t c = IsPermutation-refl (map (λ (r : Ranked). r.place) c.args.run.now)

-- the run of one rank was sorted
pub loop-at-preserved-then-end-at-gt1 : goal.loop-at-preserved-then-end-at-gt1
loop-at-preserved-then-end-at-gt1 t c =
    let es = c.args.entries.now.entries in
    let first = c.name_of-first.result.now in
    let front = c.common_front-front.result in
    let facts = facts_sorted (λ (r : Ranked). r.place) (λ (i : ℕ). BeginsAlike front first (name_at es i))
    (λ (r : Ranked). IsRank (drop front (name_at es r.place)) r.rank)
    c.args.run.now c.rank_each.new.run c.sort_unstable_by-2.new.self c.common_front-front.ensures
    c.rank_each.ensures.places c.rank_each.ensures.ranks c.sort_unstable_by-2.ensures.permutation in
    let up = c.sort_unstable_by-2.ensures.sorted (λ x y. is_lt (nat_cmp x.rank y.rank))
    (ranks_by nat_cmp_total (λ (x : Ranked). x.rank)) (answers_always _ _ _ (λ f a r g h. search rules)) in
    let more : c.loop-at.at < c.run_end-end.result = omega (arith, c.run_end-end.ensures.after) in
    more_runs (λ (r : Ranked). r.place) (before es) c.sort_unstable_by-2.new.self c.loop-at.run c.sort_by_names.new.run c.loop-at.at c.run_end-end.result
    c.loop-at.invariant more c.run_end-end.ensures.within c.sort_by_names.ensures.permutation c.sort_by_names.ensures.sorted
    (apart_by_ranks (λ (r : Ranked). r.place) (before es) (λ (r : Ranked). r.rank)
    (λ (r : Ranked). BeginsAlike front first (name_at es r.place) × IsRank (drop front (name_at es r.place)) r.rank)
    (λ x y p q l. greater_after es front first x.place y.place x.rank y.rank p.0 q.0 p.1 q.1 l)
    c.sort_unstable_by-2.new.self c.loop-at.run c.loop-at.at c.run_end-end.result
    (slice_index_or c.loop-at.run c.loop-at.at record { rank = 0; place = 0 }).rank c.loop-at.invariant more facts up
    (λ d. ap (λ (r : Ranked). r.rank) (get_or_default c.loop-at.run c.loop-at.at d _ (omega (arith, c.loop-at-test.true))))
    c.run_end-end.ensures.same c.run_end-end.ensures.next)

-- it has one element
pub loop-at-preserved : goal.loop-at-preserved
loop-at-preserved t c =
    let es = c.args.entries.now.entries in
    let first = c.name_of-first.result.now in
    let front = c.common_front-front.result in
    let facts = facts_sorted (λ (r : Ranked). r.place) (λ (i : ℕ). BeginsAlike front first (name_at es i))
    (λ (r : Ranked). IsRank (drop front (name_at es r.place)) r.rank)
    c.args.run.now c.rank_each.new.run c.sort_unstable_by-2.new.self c.common_front-front.ensures
    c.rank_each.ensures.places c.rank_each.ensures.ranks c.sort_unstable_by-2.ensures.permutation in
    let up = c.sort_unstable_by-2.ensures.sorted (λ x y. is_lt (nat_cmp x.rank y.rank))
    (ranks_by nat_cmp_total (λ (x : Ranked). x.rank)) (answers_always _ _ _ (λ f a r g h. search rules)) in
    let more : c.loop-at.at < c.run_end-end.result = omega (arith, c.run_end-end.ensures.after) in
    one_run (λ (r : Ranked). r.place) (before es) c.sort_unstable_by-2.new.self c.loop-at.run c.loop-at.at c.run_end-end.result
    c.loop-at.invariant more c.run_end-end.ensures.within (omega (arith, c.if-end-at-gt1.false))
    (apart_by_ranks (λ (r : Ranked). r.place) (before es) (λ (r : Ranked). r.rank)
    (λ (r : Ranked). BeginsAlike front first (name_at es r.place) × IsRank (drop front (name_at es r.place)) r.rank)
    (λ x y p q l. greater_after es front first x.place y.place x.rank y.rank p.0 q.0 p.1 q.1 l)
    c.sort_unstable_by-2.new.self c.loop-at.run c.loop-at.at c.run_end-end.result
    (slice_index_or c.loop-at.run c.loop-at.at record { rank = 0; place = 0 }).rank c.loop-at.invariant more facts up
    (λ d. ap (λ (r : Ranked). r.rank) (get_or_default c.loop-at.run c.loop-at.at d _ (omega (arith, c.loop-at-test.true))))
    c.run_end-end.ensures.same c.run_end-end.ensures.next)

pub returns-clause-permutation : goal.returns-clause-permutation
returns-clause-permutation t c =
    let p : Ranked → ℕ = λ r. r.place in
    subst (λ (l : List ℕ). IsPermutation l (map p c.loop-at.run)) c.rank_each.ensures.places
    (IsPermutation-trans _ _ _ (IsPermutation-map p c.rank_each.new.run c.sort_unstable_by-2.new.self
    c.sort_unstable_by-2.ensures.permutation) c.loop-at.invariant.moves)
