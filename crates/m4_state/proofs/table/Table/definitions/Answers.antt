use Rattle.std.proofs.Common.{◌≡◌, ◌∙◌, ◌<◌, ℕ, List, [], ◌∷◌, ◌++◌, Some, IsSome, true, false, length, slice_get, slice_index_or, refl, sym, ap, subst, arith}
use Rattle.std.proofs.lemmas.Slice.{pushed}
use Rattle.m4_state.specs.Entries.{Entry}
use Rattle.m4_state.specs.Table.{Pair}
use Rattle.m4_state.specs.declared.ranked.Ranked.{Ranked}
use Rattle.m4_state.proofs.SortedPairs.{pair_more}
use Rattle.m4_state.proofs.table.Table.definitions.Goals.{in-Some+in_ok-push, in_default}
use Rattle.m4_state.proofs.table.Table.definitions.Goals as goal

-- the place is one of an entry, whose pair is next
pub loop-entry-preserved : goal.loop-entry-preserved
loop-entry-preserved c =
    let es = c.self.inside.entries.entries in
    let items = c.deref-entry-items.result.now in
    let i : ℕ = c.loop-entry.entry-index in
    let none : Ranked = record { rank = 0; place = 0 } in
    let place : ℕ = (slice_index_or items i none).place in
    let low : i < length items = omega (arith, c.loop-entry-test.true) in
    let within : place < length es = c.loop-entry.invariant.within i none low in
    record {
      within = c.loop-entry.invariant.within;
      pairs = elim c.match-get_index.branch [
        | in-Some+in_ok-push w ↦
            let e : Entry = (w.in-Some.name.now, w.in-Some.stack.now) in
            let here : slice_get es place ≡ Some e = sym (w.in-Some.ensures.entry ∙ ap (λ (l : List Entry). slice_get l place) c.as_slice.ensures.entries) in
            let done = c.loop-entry.named.items in
            pair_more (λ (r : Ranked). r.place) es items i none done c.match-get_index.named.items e low here
            ((λ j. (w.named-is j).items) ∙ pushed (w.new.result ∷ []) refl w.in_ok-push.was w.push.ensures.items
            ∙ ap (λ (q : Pair). done ++ q ∷ []) w.new.ensures)
            c.loop-entry.invariant.pairs
        | in_default w ↦
            let found : false ≡ true = subst IsSome w.in_default.is
            (c.get_index.ensures.found.1 (subst (λ (l : List Entry). place < length l)
            (sym c.as_slice.ensures.entries) within)) in
            absurd cc
      ];
    }
