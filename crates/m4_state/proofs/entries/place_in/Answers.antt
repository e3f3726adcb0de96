use Rattle.std.proofs.Common.{◌≡◌, ◌+◌, ◌%◌, ℕ, List, Some, slice_get, sym, ap, ◌∙◌}
use Rattle.std.specs.Cmp.Lexicographic.{bytes_decides}
use Rattle.std.proofs.lemmas.Option.{slice_get_within}
use Rattle.m4_state.specs.Entries.{Entry}
use Rattle.m4_state.proofs.InOrder.{place_of_key}
use Rattle.m4_state.proofs.entries.place_in.Goals as goal

-- the name is where the hint says
pub returns : goal.returns
returns c =
    let es = c.args.entries.now.entries in
    let name = c.args.name.now in
    let i : ℕ = (c.args.hint + 18446744073709551615) % 18446744073709551616 in
    let key : c.in-Some.key.now ≡ name = sym c.as_slice-2.ensures.value ∙ (bytes_decides _ name).0 (sym c.are_equal.ensures ∙ c.if-are_equal.true) in
    let here : slice_get es i ≡ Some (name, c.in-Some.field-0-1.now) =
    sym (c.in-Some.ensures.entry ∙ ap (λ (l : List Entry). slice_get l i) c.as_slice.ensures.entries)
    ∙ ap (λ (k : List ℕ). Some (k, c.in-Some.field-0-1.now)) key in
    record {
      index = sym (place_of_key c.args.entries.now name i c.in-Some.field-0-1.now c.as_slice.ensures.unique here);
      within = slice_get_within es i _ here;
      unique = c.as_slice.ensures.unique;
    }
