use Rattle.std.proofs.Common.{◌≡◌, List, Some, None, ap, sym, ◌∙◌}
use Rattle.std.specs.Int.{w32}
use Rattle.std.specs.BTreeMap.{is_at}
use Rattle.std.specs.Map.{lookup}
use Rattle.std.specs.Ordering.{int_cmp}
use Rattle.std.proofs.lemmas.Int.{to_z-of_z}
use Rattle.m4_state.specs.State.{diverted_text, NumberedText}
use Rattle.m4_state.proofs.TextsByNumber.{find-texts_of, bytes_of}
use Rattle.m4_state.proofs.diversions.Diversions.text.Goals as goal

-- the map has the text
pub returns-in-Some : goal.returns-in-Some
returns-in-Some c =
    let found : Some c.in-Some.text.now ≡ lookup (is_at (int_cmp c.args.number)) c.self.inside.texts.entries =
    rw (to_z-of_z w32 c.args.number c.ranges.number) at c.in-Some.ensures.value in
    c.deref.ensures.value ∙ ap bytes_of found ∙ sym (find-texts_of c.args.number c.self.inside.texts.entries)
    ∙ ap (λ (ds : List NumberedText). diverted_text ds c.args.number) c.self.view_is

-- the map has none
pub returns-in-None : goal.returns-in-None
returns-in-None c =
    let found : ◌≡◌ {A = _} None (lookup (is_at (int_cmp c.args.number)) c.self.inside.texts.entries) =
    rw (to_z-of_z w32 c.args.number c.ranges.number) at c.in-None.ensures.value in
    ap bytes_of found ∙ sym (find-texts_of c.args.number c.self.inside.texts.entries)
    ∙ ap (λ (ds : List NumberedText). diverted_text ds c.args.number) c.self.view_is
