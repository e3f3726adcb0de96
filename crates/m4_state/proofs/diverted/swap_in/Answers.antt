use Rattle.std.proofs.Common.{◌≡◌, ℕ, Vec, Option, Some, None, ap, sym, ◌∙◌}
use Rattle.std.specs.Prelude.{option_map}
use Rattle.std.specs.Int.{w32}
use Rattle.std.specs.BTreeMap.{is_at}
use Rattle.std.specs.FinMap.{find, put}
use Rattle.std.specs.Map.{lookup, set_value}
use Rattle.std.specs.Ordering.{int_cmp}
use Rattle.std.specs.declared.alloc.Global.{Global}
use Rattle.std.proofs.lemmas.Int.{to_z-of_z}
use Rattle.m4_state.specs.DiversionEntries.{texts_of}
use Rattle.m4_state.proofs.TextsByNumber.{text_found, set_value-texts_of}
use Rattle.m4_state.proofs.Undiverted.{find-of_texts}
use Rattle.m4_state.proofs.diverted.swap_in.Goals as goal

-- the text that was found
pub returns-in-Some-clause-text : goal.returns-in-Some-clause-text
returns-in-Some-clause-text c =
    let n = c.args.number in
    let es = c.args.texts.now.entries in
    let found : Some c.in-Some.held.now ≡ lookup (is_at (int_cmp n)) es = rw (to_z-of_z w32 n c.ranges.number) at c.in-Some.ensures.value in
    ap (λ (t : Vec ℕ Global). t.items) c.swap.ensures.y_after ∙ sym (text_found n c.args.text.now.items es es c.in-Some.held.now found)

pub returns-in-Some-clause-texts : goal.returns-in-Some-clause-texts
returns-in-Some-clause-texts c =
    let n = c.args.number in
    let es = c.args.texts.now.entries in
    let fs = (c.get_mut.follows.lender c.swap.new.x).entries in
    let found : Some c.in-Some.held.now ≡ lookup (is_at (int_cmp n)) es = rw (to_z-of_z w32 n c.ranges.number) at c.in-Some.ensures.value in
    let written : fs ≡ set_value (is_at (int_cmp n)) es c.swap.new.x = rw (to_z-of_z w32 n c.ranges.number) at (c.get_mut.follows.holds c.swap.new.x).0 in
    ap texts_of written
    ∙ set_value-texts_of es n c.in-Some.held.now c.swap.new.x c.requires.sorted (sym found)
    ∙ ap (λ (t : Vec ℕ Global). put int_cmp n t.items (texts_of es)) c.swap.ensures.x_after

-- there is one
missing : (c : goal.After-texts-in_default-2-1) → find int_cmp c.args.number (texts_of c.args.texts.now.entries) ≡ None
missing c =
    let n = c.args.number in
    let es = c.args.texts.now.entries in
    let none : ◌≡◌ {A = Option (Vec ℕ Global)} None (lookup (is_at (int_cmp n)) es) = rw (to_z-of_z w32 n c.ranges.number) at c.in_default.ensures.value in
    find-of_texts n es ∙ ap (λ (o : Option (Vec ℕ Global)). option_map (λ text. text.items) o) (sym none)

pub returns-in_default-clause-text : goal.returns-in_default-clause-text
returns-in_default-clause-text c = absurd (c.requires.there (missing c))

pub returns-in_default-clause-texts : goal.returns-in_default-clause-texts
returns-in_default-clause-texts c = absurd (c.requires.there (missing c))
