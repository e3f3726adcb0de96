-- Marked: what a table keeps under each of its changes, its marks too.
use Rattle.std.proofs.Common.{◌≡◌, ◌<◌, ◌^◌, List, ℕ, [], ◌∷◌, ◌++◌, length, true, false, not, refl, sym, subst, ◌∙◌, T}
use Rattle.std.specs.Prelude.{Option, Some, None, Result, Ok, Err, OnOk, OnErr, unwrap_or}
use Rattle.std.specs.FinMap.{find, put}
use Rattle.std.specs.Str.{bytes_eq}
use Rattle.m4_state.specs.declared.definition.Def.{Def}
use Rattle.m4_state.specs.Definition.{IsDefinition, IsSizedDefinition}
use Rattle.m4_state.specs.Table.{Pairs, byte_order, stack_at, with_push, with_top, without, without_top, but_last}
use Rattle.m4_state.proofs.Cases.{with_stack}
use Rattle.m4_state.specs.Marks.{is_marked, IsMarkedBy, AreMarked, IsKept}
use Rattle.std.specs.Cmp.Lexicographic.{nat_list_cmp_total}
use Rattle.m4_state.proofs.Pairs.{where_key_holds, AllByRecursion-put, AllByRecursion-find}
use Rattle.m4_state.proofs.Tables.{byte_order-IsAntisymmetric, IsTable-push, IsTable-top, IsTable-without, IsTable-without_top}
use Rattle.m4_state.proofs.Tables.{IsSizedTable-push, IsSizedTable-top, IsSizedTable-without, IsSizedTable-without_top}

-- marks that are added take none away
more_marked : (m n : List ℕ) → ((x : List ℕ) → is_marked m x ≡ true → is_marked n x ≡ true) → (t : Pairs) → AreMarked m t → AreMarked n t
more_marked m n stay [] h = tt
more_marked m n stay (e ∷ t) h = (stay e.0 h.0, more_marked m n stay t h.1)

more_kept : (m n : List ℕ) → ((x : List ℕ) → is_marked m x ≡ true → is_marked n x ≡ true) → (t : Pairs) → IsKept m t → IsKept n t
more_kept m n stay t h = record { table = h.table; sized = h.sized; marked = more_marked m n stay t h.marked }

put_marked : (m : List ℕ) (t : Pairs) (name : List ℕ) (stack : List Def) → is_marked m name ≡ true → AreMarked m t
    → AreMarked m (put byte_order name stack t)
put_marked m t name stack is h = AllByRecursion-put byte_order nat_list_cmp_total byte_order-IsAntisymmetric (IsMarkedBy m) name stack t is h

without_marked : (m : List ℕ) (t : Pairs) (name : List ℕ) → AreMarked m t → AreMarked m (without t name)
without_marked m t name h = where_key_holds byte_order (IsMarkedBy m) (λ other. not (bytes_eq name other)) t h

without_top_marked : (m : List ℕ) (t : Pairs) (name : List ℕ) → AreMarked m t → AreMarked m (without_top t name)
without_top_marked m t name h = by (find byte_order name t) refl
  where
    with : (stack : List Def) → is_marked m name ≡ true → AreMarked m (with_stack t name stack)
    with [] is = without_marked m t name h
    with (d ∷ ds) is = put_marked m t name (d ∷ ds) is h

    by : (r : Option (List Def)) → find byte_order name t ≡ r → AreMarked m (with_stack t name (but_last (unwrap_or r [])))
    by None e = without_marked m t name h
    by (Some stack) e = with (but_last stack) (AllByRecursion-find byte_order nat_list_cmp_total byte_order-IsAntisymmetric (IsMarkedBy m) name stack t h e)

-- a name without a mark is not in the table
pub unmarked_absent : (m : List ℕ) (t : Pairs) (name : List ℕ) → AreMarked m t → is_marked m name ≡ false → stack_at t name ≡ []
unmarked_absent m t name h none = by (find byte_order name t) refl
  where
    by : (r : Option (List Def)) → find byte_order name t ≡ r → unwrap_or r [] ≡ []
    by None e = refl
    by (Some stack) e =
        let no : true ≡ false = sym (AllByRecursion-find byte_order nat_list_cmp_total byte_order-IsAntisymmetric (IsMarkedBy m) name stack t h e) ∙ none in
        absurd (subst T no tt)

-- what an operation leaves that adds marks, and then changes the table or fails
pub kept_either : {X E : Type 0} (r : Result X E) (m n : List ℕ) (old new changed : Pairs)
    → ((x : List ℕ) → is_marked m x ≡ true → is_marked n x ≡ true) → IsKept m old
    → (IsKept n old → IsKept n changed) → OnOk r (new ≡ changed) → OnErr r (new ≡ old) → IsKept n new
kept_either (Ok x) m n old new changed stay h change ok err = subst (IsKept n) (sym ok) (change (more_kept m n stay old h))
kept_either (Err x) m n old new changed stay h change ok err = subst (IsKept n) (sym err) (more_kept m n stay old h)

module _ (m : List ℕ) (t : Pairs) (name : List ℕ) where
  -- a push keeps the table, if its name has a mark and has not too many bytes
  pub push_kept : (d : Def) → is_marked m name ≡ true → length name < 2 ^ 64 → IsDefinition d → IsSizedDefinition d
      → IsKept m t → IsKept m (with_push t name d)
  push_kept d is few valid sized h = record {
    table = IsTable-push t name d h.table valid;
    sized = IsSizedTable-push t name d h.sized few sized;
    marked = put_marked m t name (stack_at t name ++ d ∷ []) is h.marked;
  }

  -- so does a definition
  pub top_kept : (d : Def) → is_marked m name ≡ true → length name < 2 ^ 64 → IsDefinition d → IsSizedDefinition d
      → IsKept m t → IsKept m (with_top t name d)
  top_kept d is few valid sized h = record {
    table = IsTable-top t name d h.table valid;
    sized = IsSizedTable-top t name d h.sized few sized;
    marked = put_marked m t name (but_last (stack_at t name) ++ d ∷ []) is h.marked;
  }

  -- and a name that leaves
  pub without_kept : IsKept m t → IsKept m (without t name)
  without_kept h = record {
    table = IsTable-without t name h.table;
    sized = IsSizedTable-without t name h.sized;
    marked = without_marked m t name h.marked;
  }

  -- or a definition that does
  pub without_top_kept : IsKept m t → IsKept m (without_top t name)
  without_top_kept h = record {
    table = IsTable-without_top t name h.table;
    sized = IsSizedTable-without_top t name h.sized;
    marked = without_top_marked m t name h.marked;
  }
