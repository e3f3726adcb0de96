-- A text that is moved to another number: if that has none, its place is taken first, with an empty text.
use Rattle.std.proofs.Common.{◌≡◌, ◌≢◌, ◌<◌, ◌^◌, ℕ, ℤ, Bool, false, cond, not, List, [], ◌++◌, length, Option}
use Rattle.std.proofs.Common.{Some, None, unwrap_or, Ordering, Less, Equal, Greater, refl, sym, ap, subst, ◌∙◌}
use Rattle.std.specs.Prelude.{IsTrue, Vec, FitsSigned, Result, Ok, Err, OnOk, OnErr, option_map}
use Rattle.std.specs.Int.{w32}
use Rattle.std.specs.Ordering.{int_cmp, int_eq, is_eq}
use Rattle.std.specs.Cmp.{int_cmp_total, tied_itself}
use Rattle.std.specs.Map.{lookup}
use Rattle.std.specs.Option.{is_some}
use Rattle.std.specs.BTreeMap.{is_at, insert_entry}
use Rattle.std.specs.FinMap.{find, put, is_sorted, int_cmp-IsAntisymmetric}
use Rattle.std.specs.FinMap.Entries.{find-put, is_sorted-put, is_sorted-where_key, same_entries}
use Rattle.std.specs.declared.alloc.Global.{Global}
use Rattle.m4_state.specs.DiversionEntries.{texts_of}
use Rattle.m4_state.specs.State.{NumberedText, AreDiversions, AreSizedDiversions, holds_text, diverted_text, with_text, without_text}
use Rattle.m4_state.proofs.Pairs.{holds_T, sorted_put}
use Rattle.m4_state.proofs.TextsByNumber.{insert-texts_of, with_text-some, AreDiversions-put, AreSizedDiversions-put}
use Rattle.m4_state.proofs.StaysInOrder.{AreDiversions-without}
use Rattle.m4_state.proofs.Undiverted.{diverted_text-without, without-put, find-without, find-of_texts, AreSizedDiversions-without}
use Rattle.m4_state.proofs.CallerLaws.{put-put}

abbrev Text : Type 0
Text = Vec ℕ Global

abbrev Entry : Type 0
Entry = ℤ × Text

-- a text that is found is the number's
text_is : (n : ℤ) (ds : List NumberedText) (o : Option (List ℕ)) → o ≡ find int_cmp n ds → unwrap_or o [] ≡ diverted_text ds n
text_is n ds o found = ap (λ (p : Option (List ℕ)). unwrap_or p []) found

-- the numbers n and c differ, and c gets an empty text
module _ (n c : ℤ) (es fs : List Entry) (v : Text) (sorted : IsTrue (is_sorted int_cmp (texts_of es)))
    (apart : int_eq n c ≡ false) (written : fs ≡ insert_entry int_cmp es c v) (empty : v.items ≡ []) where
  pub placed : texts_of fs ≡ put int_cmp c [] (texts_of es)
  placed = ap texts_of written ∙ insert-texts_of es c v ∙ ap (λ (x : List ℕ). put int_cmp c x (texts_of es)) empty

  pub placed_sorted : IsTrue (is_sorted int_cmp (texts_of fs))
  placed_sorted = subst (λ (ds : List NumberedText). IsTrue (is_sorted int_cmp ds)) (sym placed) (sorted_put int_cmp int_cmp_total c [] (texts_of es) sorted)

  -- the other text is found as before
  found_before : find int_cmp n (texts_of fs) ≡ find int_cmp n (texts_of es)
  found_before =
      ap (λ (ds : List NumberedText). find int_cmp n ds) placed
      ∙ find-put int_cmp int_cmp_total n c [] (texts_of es)
      ∙ ap (λ (b : Bool). cond b (Some []) (find int_cmp n (texts_of es))) apart

  -- so it is found, as it is not empty
  pub is_found : None ≡ find int_cmp n (texts_of fs) → diverted_text (texts_of es) n ≢ [] → ⊥
  is_found none some = some (sym (text_is n (texts_of es) None (none ∙ found_before)))

  module _ (gs : List Entry) (left : texts_of gs ≡ without_text (texts_of fs) n) where
    others : texts_of gs ≡ put int_cmp c [] (without_text (texts_of es) n)
    others = left ∙ ap (λ (ds : List NumberedText). without_text ds n) placed ∙ without-put n c [] (texts_of es) sorted apart

    -- the place is still there
    pub place_stays : None ≡ lookup (is_at (int_cmp c)) gs → ⊥
    place_stays none =
        let there : find int_cmp c (texts_of gs) ≡ Some [] =
        ap (λ (ds : List NumberedText). find int_cmp c ds) others
        ∙ find-put int_cmp int_cmp_total c c [] (without_text (texts_of es) n)
        ∙ ap (λ (r : Ordering). cond (is_eq r) (Some []) (find int_cmp c (without_text (texts_of es) n))) (tied_itself int_cmp_total c) in
        let missing : find int_cmp c (texts_of gs) ≡ None = find-of_texts c gs ∙ ap (λ (o : Option Text). option_map (λ text. text.items) o) (sym none) in
        let bad : ◌≡◌ {A = Option (List ℕ)} None (Some []) = sym missing ∙ there in
        absurd cc

    module _ (hs : List Entry) (w : Text) (moved : hs ≡ insert_entry int_cmp gs c w) (taken : Some w.items ≡ find int_cmp n (texts_of fs)) where
      -- what was taken is the number's text
      pub taken_text : w.items ≡ diverted_text (texts_of es) n
      taken_text = text_is n (texts_of es) (Some w.items) (taken ∙ found_before)

      pub is_moved : texts_of hs ≡ put int_cmp c (diverted_text (texts_of es) n) (without_text (texts_of es) n)
      is_moved =
          ap texts_of moved ∙ insert-texts_of gs c w
          ∙ ap (λ (ds : List NumberedText). put int_cmp c w.items ds) others
          ∙ put-put c [] w.items (without_text (texts_of es) n)
          ∙ ap (λ (x : List ℕ). put int_cmp c x (without_text (texts_of es) n)) taken_text

-- a move keeps diversions in order, whether it was refused or not
pub valid_after_move : {A E : Type 0} (r : Result A E) (n c : ℤ) (before : List ℕ) (ds new : List NumberedText)
    → IsTrue (holds_text c) → FitsSigned w32 c → diverted_text ds n ≢ []
    → OnOk r (new ≡ put int_cmp c (before ++ diverted_text ds n) (without_text ds n)) → OnErr r (new ≡ ds)
    → OnOk r (length (before ++ diverted_text ds n) < 2 ^ 64)
    → AreDiversions ds × AreSizedDiversions ds → AreDiversions new × AreSizedDiversions new
valid_after_move (Ok x) n c before ds new positive fits some ok err sized h = (
  subst AreDiversions (sym ok) (AreDiversions-put c before (diverted_text ds n) (without_text ds n) positive fits some (AreDiversions-without n ds h.0)),
  subst AreSizedDiversions (sym ok) (AreSizedDiversions-put c (before ++ diverted_text ds n) (without_text ds n) sized (AreSizedDiversions-without n ds h.1)),
)
valid_after_move (Err e) n c before ds new positive fits some ok err sized h = (subst AreDiversions (sym err) h.0, subst AreSizedDiversions (sym err) h.1)

-- a text that leaves its number and is added to another one
pub moved_text : (n c : ℤ) (ds : List NumberedText) → IsTrue (is_sorted int_cmp ds) → int_eq n c ≡ false → diverted_text ds n ≢ []
    → without_text (with_text ds c (diverted_text ds n)) n ≡ put int_cmp c (diverted_text ds c ++ diverted_text ds n) (without_text ds n)
moved_text n c ds sorted apart some =
    ap (λ (x : List NumberedText). without_text x n) (with_text-some c (diverted_text ds n) ds some)
    ∙ without-put n c (diverted_text ds c ++ diverted_text ds n) ds sorted apart

-- ---- a text is swapped out, added to another one, and its number leaves

-- a number that gets another text and leaves then has left
without-put_itself : (n : ℤ) (x : List ℕ) (ds : List NumberedText) → IsTrue (is_sorted int_cmp ds) → without_text (put int_cmp n x ds) n ≡ without_text ds n
without-put_itself n x ds h =
    same_entries int_cmp int_cmp_total int_cmp-IsAntisymmetric (without_text (put int_cmp n x ds) n) (without_text ds n)
    (is_sorted-where_key int_cmp (λ q. not (int_eq n q)) (put int_cmp n x ds) (is_sorted-put int_cmp int_cmp_total n x ds (holds_T _ h)))
    (is_sorted-where_key int_cmp (λ q. not (int_eq n q)) ds (holds_T _ h))
    found
  where
    by : (q : ℤ) (r : Ordering) → int_cmp q n ≡ r
        → cond (not (int_eq n q)) (cond (is_eq r) (Some x) (find int_cmp q ds)) None
        ≡ cond (not (int_eq n q)) (find int_cmp q ds) None
    by q Less e = refl
    by q Greater e = refl
    by q Equal e =
        let same : n ≡ q = sym (int_cmp-IsAntisymmetric q n e) in
        let gone : not (int_eq n q) ≡ false = ap (λ (z : ℤ). not (is_eq (int_cmp n z))) (sym same)
        ∙ ap (λ (r : Ordering). not (is_eq r)) (tied_itself int_cmp_total n) in
        ap (λ (b : Bool). cond b (Some x) None) gone ∙ sym (ap (λ (b : Bool). cond b (find int_cmp q ds) None) gone)

    found : (q : ℤ) → find int_cmp q (without_text (put int_cmp n x ds) n) ≡ find int_cmp q (without_text ds n)
    found q =
        find-without n q (put int_cmp n x ds)
        ∙ ap (λ (o : Option (List ℕ)). cond (not (int_eq n q)) o None) (find-put int_cmp int_cmp_total q n x ds)
        ∙ by q (int_cmp q n) refl
        ∙ sym (find-without n q ds)

-- a text that is put where it is changes nothing
put_itself : (n : ℤ) (x : List ℕ) (ds : List NumberedText) → IsTrue (is_sorted int_cmp ds) → find int_cmp n ds ≡ Some x → put int_cmp n x ds ≡ ds
put_itself n x ds h is =
    same_entries int_cmp int_cmp_total int_cmp-IsAntisymmetric (put int_cmp n x ds) ds
    (is_sorted-put int_cmp int_cmp_total n x ds (holds_T _ h)) (holds_T _ h) found
  where
    by : (q : ℤ) (r : Ordering) → int_cmp q n ≡ r → cond (is_eq r) (Some x) (find int_cmp q ds) ≡ find int_cmp q ds
    by q Less e = refl
    by q Greater e = refl
    by q Equal e = sym (ap (λ (z : ℤ). find int_cmp z ds) (int_cmp-IsAntisymmetric q n e) ∙ is)

    found : (q : ℤ) → find int_cmp q (put int_cmp n x ds) ≡ find int_cmp q ds
    found q = find-put int_cmp int_cmp_total q n x ds ∙ by q (int_cmp q n) refl

-- a text that is not empty is found
some_found : (n : ℤ) (o : Option (List ℕ)) → unwrap_or o [] ≢ [] → o ≡ Some (unwrap_or o [])
some_found n None some = absurd (some refl)
some_found n (Some x) some = refl

module _ (n c : ℤ) (ds : List NumberedText) (sorted : IsTrue (is_sorted int_cmp ds)) (apart : int_eq n c ≡ false) (some : diverted_text ds n ≢ []) where
  is_there : find int_cmp n ds ≡ Some (diverted_text ds n)
  is_there = some_found n (find int_cmp n ds) some

  module _ (es : List NumberedText) (empty : List ℕ) (is_empty : empty ≡ []) (written : es ≡ put int_cmp n empty ds) where
    out : es ≡ put int_cmp n [] ds
    out = written ∙ ap (λ (x : List ℕ). put int_cmp n x ds) is_empty

    pub out_sorted : IsTrue (is_sorted int_cmp es)
    out_sorted = subst (λ (x : List NumberedText). IsTrue (is_sorted int_cmp x)) (sym out) (sorted_put int_cmp int_cmp_total n [] ds sorted)

    -- the other text is as before
    other_text : diverted_text es c ≡ diverted_text ds c
    other_text =
        sym (diverted_text-without n c es apart)
        ∙ ap (λ (x : List NumberedText). diverted_text x c) (ap (λ (x : List NumberedText). without_text x n) out ∙ without-put_itself n [] ds sorted)
        ∙ diverted_text-without n c ds apart

    -- if the text was refused, it is swapped in again
    module _ (fs : List NumberedText) (refused : fs ≡ es) where
      pub refused_sorted : IsTrue (is_sorted int_cmp fs)
      refused_sorted = subst (λ (x : List NumberedText). IsTrue (is_sorted int_cmp x)) (sym refused) out_sorted

      pub is_found_again : find int_cmp n fs ≢ None
      is_found_again none =
          let there : find int_cmp n fs ≡ Some [] =
          ap (λ (x : List NumberedText). find int_cmp n x) (refused ∙ out)
          ∙ find-put int_cmp int_cmp_total n n [] ds
          ∙ ap (λ (r : Ordering). cond (is_eq r) (Some []) (find int_cmp n ds)) (tied_itself int_cmp_total n) in
          let bad : ◌≡◌ {A = Option (List ℕ)} None (Some []) = sym none ∙ there in
          absurd cc

      pub is_back : (gs : List NumberedText) (text : List ℕ) → text ≡ diverted_text ds n → gs ≡ put int_cmp n text fs → gs ≡ ds
      is_back gs text is back =
          back
          ∙ ap (λ (x : List ℕ). put int_cmp n x fs) is
          ∙ ap (λ (x : List NumberedText). put int_cmp n (diverted_text ds n) x) (refused ∙ out)
          ∙ put-put n [] (diverted_text ds n) ds
          ∙ put_itself n (diverted_text ds n) ds sorted is_there

    -- otherwise its number leaves
    module _ (fs : List NumberedText) (text : List ℕ) (is : text ≡ diverted_text ds n) (added : fs ≡ put int_cmp c (diverted_text es c ++ text) es) where
      pub added_text : diverted_text es c ++ text ≡ diverted_text ds c ++ diverted_text ds n
      added_text = ap (λ (x : List ℕ). x ++ text) other_text ∙ ap (λ (x : List ℕ). diverted_text ds c ++ x) is

      pub added_sorted : IsTrue (is_sorted int_cmp fs)
      added_sorted =
          subst (λ (x : List NumberedText). IsTrue (is_sorted int_cmp x)) (sym added)
          (sorted_put int_cmp int_cmp_total c (diverted_text es c ++ text) es out_sorted)

      pub is_joined : (gs : List NumberedText) → gs ≡ without_text fs n → gs ≡ put int_cmp c (diverted_text ds c ++ diverted_text ds n) (without_text ds n)
      is_joined gs left =
          left
          ∙ ap (λ (x : List NumberedText). without_text x n) (added ∙ ap (λ (x : List ℕ). put int_cmp c x es) added_text)
          ∙ without-put n c (diverted_text ds c ++ diverted_text ds n) es out_sorted apart
          ∙ ap (λ (x : List NumberedText). put int_cmp c (diverted_text ds c ++ diverted_text ds n) x)
          (ap (λ (x : List NumberedText). without_text x n) out ∙ without-put_itself n [] ds sorted)

-- ---- which of the two it is

-- a number that was not found has no text
pub none_there : (c : ℤ) (es : List Entry) → false ≡ is_some (lookup (is_at (int_cmp c)) es) → diverted_text (texts_of es) c ≡ []
none_there c es missing =
    ap (λ (o : Option (List ℕ)). unwrap_or o []) (find-of_texts c es) ∙ by (lookup (is_at (int_cmp c)) es) missing
  where
    by : (o : Option Text) → false ≡ is_some o → unwrap_or (option_map (λ (t : Text). t.items) o) [] ≡ []
    by None e = refl
    by (Some t) e = absurd cc

-- a text that is placed comes after no text
pub placed_alone : {A E : Type 0} (r : Result A E) (c : ℤ) (before text : List ℕ) (left new : List NumberedText) → before ≡ []
    → OnOk r (new ≡ put int_cmp c text left) → OnOk r (new ≡ put int_cmp c (before ++ text) left)
placed_alone (Ok x) c before text left new none ok = ok ∙ sym (ap (λ (b : List ℕ). put int_cmp c (b ++ text) left) none)
placed_alone (Err e) c before text left new none ok = tt

pub sized_alone : {A E : Type 0} (r : Result A E) (before text : List ℕ) → before ≡ [] → OnOk r (length text < 2 ^ 64)
    → OnOk r (length (before ++ text) < 2 ^ 64)
sized_alone r before text none sized = rw none sized

-- what a move gives, in the words of the state
pub moved_as : {A E : Type 0} (r : Result A E) (n c : ℤ) (ds new : List NumberedText) → IsTrue (is_sorted int_cmp ds) → int_eq n c ≡ false
    → diverted_text ds n ≢ [] → OnOk r (new ≡ put int_cmp c (diverted_text ds c ++ diverted_text ds n) (without_text ds n))
    → OnOk r (new ≡ without_text (with_text ds c (diverted_text ds n)) n)
moved_as (Ok x) n c ds new sorted apart some ok = ok ∙ sym (moved_text n c ds sorted apart some)
moved_as (Err e) n c ds new sorted apart some ok = tt
