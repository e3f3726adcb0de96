-- AtPlace: what an operation leaves that writes a name's stack at its place, takes it out, or inserts a new name.
use Rattle.std.proofs.Common.{◌≡◌, ◌<◌, ◌≤◌, ℕ, List, [], ◌∷◌, ◌++◌, Option, Some, None, IfSome, length, position, slice_get, sym, ap, subst, ◌∙◌, arith}
use Rattle.std.specs.Prelude.{Result, Ok, Err, OnOk, OnErr}
use Rattle.std.specs.FinMap.{put}
use Rattle.std.specs.Map.{keys_of, values_of}
use Rattle.indexmap.specs.IndexMap.{IndexMap, Updates, set_value_at}
use Rattle.indexmap.proofs.MapLemmas.{OnOk-map}
use Rattle.m4_state.specs.declared.definition.Def.{Def}
use Rattle.m4_state.specs.Entries.{Entry, in_order, IsPlace}
use Rattle.m4_state.specs.Table.{Pairs, byte_order, stack_at, with_push, with_top, without, without_top, but_last}
use Rattle.m4_state.proofs.Cases.{with_stack}
use Rattle.m4_state.proofs.InOrder.{has_bytes, same_key, stack_at_place, stack_at_no_place, write_in_order, same_in_order}
use Rattle.m4_state.proofs.InOrder.{entry_at, key_at_place, without_in_order, without_no_place}
use Rattle.m4_state.proofs.Tables.{without_top-last, without_top-more}

pub OnErr-map : {X E : Type 0} (r : Result X E) (P Q : Type 0) → (P → Q) → OnErr r P → OnErr r Q
OnErr-map (Ok x) P Q f h = tt
OnErr-map (Err e) P Q f h = f h

-- of a table whose pairs are t
module _ {S X E : Type 0} (r : Result X E) (m : IndexMap (List ℕ) (List Def) S) (t : Pairs) (pairs : in_order m.entries ≡ t)
    (name : List ℕ) (place : Option ℕ) (at : IsPlace place name m) where
  -- the name was there, and its stack is written
  module _ (i : ℕ) (here : place ≡ Some i) (v w : List Def) (is : slice_get (values_of m.entries) i ≡ Some v) where
    found : position (has_bytes name) (keys_of m.entries) ≡ Some i
    found = sym at.index ∙ here

    written : (f : List Def → List Def) → OnOk r (w ≡ f v) → OnOk r (in_order (set_value_at m.entries i w) ≡ put byte_order name (f (stack_at t name)) t)
    written f ok =
        OnOk-map r _ _ (λ e. write_in_order m name i v found is at.unique w
        ∙ ap (λ (ds : List Def). put byte_order name ds (in_order m.entries)) (e ∙ ap f (sym (stack_at_place m name i v found is)))
        ∙ ap (λ (ps : Pairs). put byte_order name (f (stack_at ps name)) ps) pairs) ok

    pub push_there : (d : Def) → OnOk r (w ≡ v ++ d ∷ []) → OnOk r (in_order (set_value_at m.entries i w) ≡ with_push t name d)
    push_there d ok = written (λ ds. ds ++ d ∷ []) ok

    pub top_there : (d : Def) → OnOk r (w ≡ but_last v ++ d ∷ []) → OnOk r (in_order (set_value_at m.entries i w) ≡ with_top t name d)
    top_there d ok = written (λ ds. but_last ds ++ d ∷ []) ok

    -- what was refused left the same definitions
    pub same_there : OnErr r (w ≡ v) → OnErr r (in_order (set_value_at m.entries i w) ≡ t)
    same_there err = OnErr-map r _ _ (λ e. same_in_order m.entries i v w is e ∙ pairs) err

  -- the name is new, and has one definition
  module _ (none : place ≡ None) (d : Def) (new : Pairs) (ok : OnOk r (new ≡ put byte_order name (d ∷ []) (in_order m.entries))) where
    alone : (f : List Def → List Def) → f [] ≡ d ∷ [] → OnOk r (new ≡ put byte_order name (f (stack_at t name)) t)
    alone f one =
        OnOk-map r _ _ (λ e. e ∙ ap (λ (ds : List Def). put byte_order name ds (in_order m.entries))
        (sym (ap f (stack_at_no_place m name (sym at.index ∙ none)) ∙ one))
        ∙ ap (λ (ps : Pairs). put byte_order name (f (stack_at ps name)) ps) pairs) ok

    pub push_alone : OnOk r (new ≡ with_push t name d)
    push_alone = alone (λ ds. ds ++ d ∷ []) (λ _. d ∷ [])

    pub top_alone : OnOk r (new ≡ with_top t name d)
    top_alone = alone (λ ds. but_last ds ++ d ∷ []) (λ _. d ∷ [])

module _ {S : Type 0} (m : IndexMap (List ℕ) (List Def) S) (name : List ℕ) (place : Option ℕ) (at : IsPlace place name m) where
  module _ (i : ℕ) (here : place ≡ Some i) (v : List Def) (is : slice_get (values_of m.entries) i ≡ Some v) where
    stack : stack_at (in_order m.entries) name ≡ v
    stack = stack_at_place m name i v (sym at.index ∙ here) is

    -- the name goes with its only definition
    pub last_leaves : length v < 2 → (o : Option Entry) (n : IndexMap (List ℕ) (List Def) S) → o ≡ slice_get m.entries i
        → IfSome o (λ p. Updates same_key m n p.0 None) → in_order n.entries ≡ without_top (in_order m.entries) name
    last_leaves few o n taken updates =
        let e = entry_at m.entries i v is in
        let key : e.0 ≡ name = key_at_place m name i (e.0, v) (sym at.index ∙ here) e.1 in
        let changes = subst (λ (o : Option Entry). IfSome o (λ p. Updates same_key m n p.0 None)) (taken ∙ e.1) updates in
        without_in_order e.0 m.entries n.entries changes.3 changes.1
        ∙ ap (λ (q : List ℕ). without (in_order m.entries) q) key
        ∙ sym (without_top-last (in_order m.entries) name (omega (arith, ap (λ (ds : List Def). length ds) stack, few)))

    -- all but the last definition stay
    pub top_leaves : 2 ≤ length v → (w : List Def) → w ≡ but_last v → in_order (set_value_at m.entries i w) ≡ without_top (in_order m.entries) name
    top_leaves many w rest =
        write_in_order m name i v (sym at.index ∙ here) is at.unique w
        ∙ sym (without_top-more (in_order m.entries) name w (omega (arith, ap (λ (ds : List Def). length ds) stack, many))
        (rest ∙ ap (λ (ds : List Def). but_last ds) (sym stack)))

  -- a name without definitions
  pub nothing_leaves : place ≡ None → in_order m.entries ≡ without_top (in_order m.entries) name
  nothing_leaves none =
      without_no_place m name (sym at.index ∙ none)
      ∙ ap (λ (ds : List Def). with_stack (in_order m.entries) name (but_last ds)) (sym (stack_at_no_place m name (sym at.index ∙ none)))
