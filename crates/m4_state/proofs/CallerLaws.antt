-- Laws that crates above cite: a builtin is found by its name; a text is put piece by piece into a
-- writer, and taken block by block from a reader; two texts that are diverted, one after the other, are one.
use Rattle.std.proofs.Common.{◌≡◌, ℕ, ◌+◌, ◌<◌, List, [], ◌++◌, length, get_or, take, drop, drop-cons, add-one, Option}
use Rattle.std.proofs.Common.{Some, None, Result, Ok, Err, refl, sym, ap, ◌∙◌, append_assoc}
use Rattle.std.specs.List.{flat_map}
use Rattle.std.specs.Prelude.{IsErr}
use Rattle.std.proofs.lemmas.List.{take-append-drop, append-nil}
use Rattle.m4_state.specs.declared.builtin.Builtin.{Builtin}
use Rattle.m4_state.specs.declared.builtin.Builtin.TheVariants.{Define, Undefine, Pushdef, Popdef, Defn, Indir}
use Rattle.m4_state.specs.declared.builtin.Builtin.TheVariants.{IndirBuiltin, Ifdef, Ifelse, Shift, Dumpdef, Dnl}
use Rattle.m4_state.specs.declared.builtin.Builtin.TheVariants.{Changequote, Changecom, Divert, Undivert, Divnum, Len}
use Rattle.m4_state.specs.declared.builtin.Builtin.TheVariants.{Index, Substr, Translit, Incr, Decr, Eval, Errprint}
use Rattle.m4_state.specs.declared.builtin.Builtin.TheVariants.{M4wrap, M4exit, File, Line}
use Rattle.m4_state.specs.Builtin.{builtin_named, name_of}
use Rattle.m4_state.specs.Device.{Script, after_bytes, with_bytes, HasPut, HasBegun, Puts}
use Rattle.std.proofs.Common.{◌∷◌, ℤ, Bool, true, false, cond, unwrap_or, Ordering, Less, Equal, Greater}
use Rattle.std.specs.Cmp.{int_cmp_total, tied_itself}
use Rattle.std.specs.Ordering.{int_cmp}
use Rattle.std.specs.FinMap.{put}
use Rattle.std.specs.FinMap.Entries.{by_order, find-put}
use Rattle.m4_state.specs.State.{State, NumberedText, appended, with_text, diverted_text, holds_text}

-- each builtin is found by its own name
pub builtin_named-name_of : (b : Builtin) → builtin_named (name_of b) ≡ Some b
builtin_named-name_of Define = refl
builtin_named-name_of Undefine = refl
builtin_named-name_of Pushdef = refl
builtin_named-name_of Popdef = refl
builtin_named-name_of Defn = refl
builtin_named-name_of Indir = refl
builtin_named-name_of IndirBuiltin = refl
builtin_named-name_of Ifdef = refl
builtin_named-name_of Ifelse = refl
builtin_named-name_of Shift = refl
builtin_named-name_of Dumpdef = refl
builtin_named-name_of Dnl = refl
builtin_named-name_of Changequote = refl
builtin_named-name_of Changecom = refl
builtin_named-name_of Divert = refl
builtin_named-name_of Undivert = refl
builtin_named-name_of Divnum = refl
builtin_named-name_of Len = refl
builtin_named-name_of Index = refl
builtin_named-name_of Substr = refl
builtin_named-name_of Translit = refl
builtin_named-name_of Incr = refl
builtin_named-name_of Decr = refl
builtin_named-name_of Eval = refl
builtin_named-name_of Errprint = refl
builtin_named-name_of M4wrap = refl
builtin_named-name_of M4exit = refl
builtin_named-name_of File = refl
builtin_named-name_of Line = refl

pub with_bytes-append : (old : Option (List ℕ)) (a b : List ℕ) → with_bytes (with_bytes old a) b ≡ with_bytes old (a ++ b)
with_bytes-append None a b = refl
with_bytes-append (Some old) a b = ap (λ (bs : List ℕ). Some bs) (append_assoc old a b)

-- nothing is put
pub with_bytes-nil : (old : Option (List ℕ)) → old ≡ with_bytes old []
with_bytes-nil None = refl
with_bytes-nil (Some old) = ap (λ (bs : List ℕ). Some bs) (sym (append-nil old))

-- the script of a reader after two texts
pub after_bytes-append : (a b : List ℕ) (s : Option Script) → after_bytes a (after_bytes b s) ≡ after_bytes (a ++ b) s
after_bytes-append a b None = refl
after_bytes-append a b (Some s) = ap (λ (bs : List ℕ). let t : Script = record { bytes = bs; fails = s.fails } in Some t) (sym (append_assoc a b s.bytes))

pub HasPut-more : {old mid new : Option (List ℕ)} {bytes rest : List ℕ} (n : ℕ) → HasPut old mid bytes rest
    → new ≡ with_bytes mid (take n rest) → HasPut old new bytes (drop n rest)
HasPut-more {old} {mid} {new} {bytes} {rest} n p e = record {
  front = p.front ++ take n rest;
  parts = p.parts ∙ ap (λ (t : List ℕ). p.front ++ t) (sym (take-append-drop n rest)) ∙ sym (append_assoc p.front (take n rest) (drop n rest));
  holds = e ∙ ap (λ (o : Option (List ℕ)). with_bytes o (take n rest)) p.holds ∙ with_bytes-append old p.front (take n rest);
}

-- a text of which nothing was put yet
pub HasPut-start : (old : Option (List ℕ)) (bytes : List ℕ) → HasPut old old bytes bytes
HasPut-start old bytes = record { front = []; parts = refl; holds = with_bytes-nil old }

-- the next piece is put
pub HasPut-put : {old mid new : Option (List ℕ)} (bytes piece rest : List ℕ) → HasPut old mid bytes (piece ++ rest)
    → new ≡ with_bytes mid piece → HasPut old new bytes rest
HasPut-put {old} bytes piece rest p e = record {
  front = p.front ++ piece;
  parts = p.parts ∙ sym (append_assoc p.front piece rest);
  holds = e ∙ ap (λ (o : Option (List ℕ)). with_bytes o piece) p.holds ∙ with_bytes-append old p.front piece;
}

-- the next piece fails
pub HasPut-cut : {old mid new : Option (List ℕ)} (bytes piece rest : List ℕ) → HasPut old mid bytes (piece ++ rest)
    → (cut : List ℕ) → HasPut mid new piece cut → HasBegun old new bytes
HasPut-cut {old} bytes piece rest p cut q = (
  cut ++ rest,
  record {
    front = p.front ++ q.front;
    parts = p.parts ∙ ap (λ (t : List ℕ). p.front ++ (t ++ rest)) q.parts
        ∙ ap (λ (t : List ℕ). p.front ++ t) (append_assoc q.front cut rest) ∙ sym (append_assoc p.front q.front (cut ++ rest));
    holds = q.holds ∙ ap (λ (o : Option (List ℕ)). with_bytes o q.front) p.holds ∙ with_bytes-append old p.front q.front;
  },
)

-- all of it was put
pub HasPut-all : {old new : Option (List ℕ)} (bytes : List ℕ) → HasPut old new bytes [] → new ≡ with_bytes old bytes
HasPut-all {old} bytes p = p.holds ∙ ap (with_bytes old) (sym (append-nil p.front) ∙ sym p.parts)

-- the last piece decides
pub HasPut-last : {A E : Type 0} {old mid : Option (List ℕ)} (new : Option (List ℕ)) (r : Result A E)
    (bytes piece : List ℕ) → HasPut old mid bytes piece → Puts r mid new piece → Puts r old new bytes
HasPut-last {old = old} new (Ok x) bytes piece p q = q ∙ ap (λ (o : Option (List ℕ)). with_bytes o piece) p.holds
    ∙ with_bytes-append old p.front piece ∙ ap (with_bytes old) (sym p.parts)
HasPut-last new (Err x) bytes piece p q =
    HasPut-cut bytes piece [] (record {
      front = p.front;
      parts = p.parts
          ∙ ap (λ (t : List ℕ). p.front ++ t) (sym (append-nil piece));
      holds = p.holds;
    }) q.0 q.1

-- the first of the items that are left
pub flat_map-drop : {X : Type 0} (f : X → List ℕ) (xs : List X) (i : ℕ) (d : X) → i < length xs
    → flat_map f (drop i xs) ≡ f (get_or xs i d) ++ flat_map f (drop (i + 1) xs)
flat_map-drop f xs i d lt = ap (flat_map f) (drop-cons xs i d lt) ∙ ap (λ (j : ℕ). f (get_or xs i d) ++ flat_map f (drop j xs)) (sym (add-one i))

-- a call that failed amid a text leaves a beginning of it
pub Puts-refused : {A E : Type 0} (r : Result A E) (old new : Option (List ℕ)) (text : List ℕ) → IsErr r → HasBegun old new text → Puts r old new text
Puts-refused (Ok x) old new text is p = absurd cc
Puts-refused (Err x) old new text is p = p

-- the last text of a number counts
pub put-put : (n : ℤ) (v w : List ℕ) (ds : List NumberedText)
    → put int_cmp n w (put int_cmp n v ds) ≡ put int_cmp n w ds
put-put n v w [] = rw (tied_itself int_cmp_total n) refl
put-put n v w (d ∷ ds) = by (int_cmp n d.0) refl (put-put n v w ds)
  where
    by : (r : Ordering) → int_cmp n d.0 ≡ r → put int_cmp n w (put int_cmp n v ds) ≡ put int_cmp n w ds
        → put int_cmp n w (by_order r ((n, v) ∷ d ∷ ds) ((d.0, v) ∷ ds) (d ∷ put int_cmp n v ds))
        ≡ by_order r ((n, w) ∷ d ∷ ds) ((d.0, w) ∷ ds) (d ∷ put int_cmp n w ds)
    by Less e rest = rw (tied_itself int_cmp_total n) refl
    by Equal e rest = rw e refl
    by Greater e rest = rw e (ap (λ (xs : List NumberedText). d ∷ xs) rest)

-- the text that was put is there
diverted_text-put : (n : ℤ) (v : List ℕ) (ds : List NumberedText) → diverted_text (put int_cmp n v ds) n ≡ v
diverted_text-put n v ds =
    ap (λ (o : Option (List ℕ)). unwrap_or o []) (find-put int_cmp int_cmp_total n n v ds)
    ∙ rw (tied_itself int_cmp_total n) refl

-- two texts in order, joined, are one
with_text-twice : (n : ℤ) (a b : List ℕ) (ds : List NumberedText)
    → with_text (with_text ds n a) n b ≡ with_text ds n (a ++ b)
with_text-twice n [] b ds = refl
with_text-twice n (x ∷ a) [] ds = ap (with_text ds n) (sym (append-nil (x ∷ a)))
with_text-twice n (x ∷ a) (y ∷ b) ds =
    rw (diverted_text-put n (diverted_text ds n ++ x ∷ a) ds, put-put n (diverted_text ds n ++ x ∷ a) ((diverted_text ds n ++ x ∷ a) ++ y ∷ b) ds)
    (ap (λ (text : List ℕ). put int_cmp n text ds) (append_assoc (diverted_text ds n) (x ∷ a) (y ∷ b)))

pub appended-twice : (s : State) (a b : List ℕ) → appended (appended s a) b ≡ appended s (a ++ b)
appended-twice s a b = by (holds_text s.current)
  where
    by : (h : Bool) → record s {
      diversions =
          cond h (with_text (cond h (with_text s.diversions s.current a) s.diversions) s.current b)
          (cond h (with_text s.diversions s.current a) s.diversions);
    }
        ≡ record s { diversions = cond h (with_text s.diversions s.current (a ++ b)) s.diversions }
    by true = ap (λ (ds : List NumberedText). record s { diversions = ds }) (with_text-twice s.current a b s.diversions)
    by false = refl
