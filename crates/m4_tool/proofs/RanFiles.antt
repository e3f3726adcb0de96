-- The files and the messages after a run whose frozen text went to a late file.
use Rattle.std.proofs.Common.{◌≡◌, ℕ, Bool, true, false, List, [], ◌∷◌, Option, Some, None, refl, sym, ap, ◌∙◌, subst}
use Rattle.std.proofs.Common.{◌⊎◌, inl, inr}
use Rattle.std.specs.Prelude.{option_map, unwrap_or}
use Rattle.m4_state.specs.Device.{with_bytes, HasBegun}
use Rattle.m4_state.proofs.CallerLaws.{with_bytes-nil, HasPut-start}
use Rattle.m4_engine.specs.declared.ending.Cause.{Cause}
use Rattle.m4_engine.specs.declared.ending.Cause.TheVariants as causes
use Rattle.m4_engine.specs.declared.ending.Ending.{Ending}
use Rattle.m4_engine.specs.Expansion.{Ends}
use Rattle.m4_engine.specs.Run.{RunResult, status_of}
use Rattle.m4_engine.specs.Writers.{Both, ByCause, HasWritten, NoneOfThree, OneOfThree, Three, Contents, writers}
use Rattle.m4_engine.specs.WholeRun.{FrozenBegan, FrozenBy, FrozenLast, HasFrozen, RunGives}
use Rattle.m4_tool.specs.World.{Files, with_file, made_file}
use Rattle.m4_tool.specs.Late.{written, after_writing, is_tried}
use Rattle.m4_tool.specs.LineEnd.{HasPrefix}
use Rattle.m4_tool.specs.LineRun.{CountedBy, RanBy, RanFiles}
use Rattle.m4_tool.proofs.LineEnds.{none_made, seen_from}

text_in : (a b : List ℕ) → Some a ≡ Some b → a ≡ b
text_in a b e = ap (λ (o : Option (List ℕ)). unwrap_or o []) e

made_here : (name text : List ℕ) (f : Files) (failures : ℕ) → failures ≡ 0 → is_tried true failures (Some text) ≡ true
    → with_file name text f ≡ made_file name text f
made_here name [] f failures z t = absurd (let k : false ≡ true = rw z at t in cc)
made_here name (b ∷ bs) f failures z t = refl

-- all of a text was written: the file contains it, and an empty text made none
made_so : (name text : List ℕ) (before now : Option Files) (created : Bool) (failures : ℕ)
    → now ≡ after_writing created name (written created name now) before → is_tried created failures (written created name now) ≡ true
    → failures ≡ 0 → written created name now ≡ with_bytes (written false name before) text
    → now ≡ option_map (made_file name text) before
made_so name text None now false failures s t z w = s
made_so name text None now true failures s t z w = s
made_so name text (Some f) now false failures s t z w =
    let e : [] ≡ text = text_in [] text (sym (ap (written false name) s) ∙ w) in
    s ∙ ap (λ (bs : List ℕ). Some (made_file name bs f)) e
made_so name text (Some f) now true failures s t z w =
    let k : is_tried true failures (Some text) ≡ true = sym (ap (is_tried true failures) w) ∙ t in
    s ∙ ap (λ (o : Option (List ℕ)). Some (with_file name (unwrap_or o []) f)) w ∙ ap (λ (g : Files). Some g) (made_here name text f failures z k)

-- nothing was written, and no write failed
kept_so : (name : List ℕ) (before now : Option Files) (created : Bool) (failures : ℕ)
    → now ≡ after_writing created name (written created name now) before → is_tried created failures (written created name now) ≡ true
    → failures ≡ 0 → written created name now ≡ written false name before → now ≡ before
kept_so name before now created failures s t z w =
    made_so name [] before now created failures s t z (w ∙ with_bytes-nil (written false name before)) ∙ none_made name before

nothing_put : (old : Option (List ℕ)) (text : List ℕ) → HasBegun old old text
nothing_put old text = (text, HasPut-start old text)

-- a prefix of a text was written
prefix_made : (name text : List ℕ) (before now : Option Files) (created : Bool)
    → now ≡ after_writing created name (written created name now) before → HasBegun (written false name before) (written created name now) text
    → (now ≡ before) ⊎ HasPrefix name text before now
prefix_made name text before now false s h = inl s
prefix_made name text None now true s h = inl s
prefix_made name text (Some f) now true s h = inr (record {
  front = h.1.front;
  rest = h.0;
  parts = h.1.parts;
  files = s ∙ ap (λ (o : Option (List ℕ)). Some (with_file name (unwrap_or o []) f)) h.1.holds;
})

-- where it is a value of another type that was not used, the files are as they were
pub untouched : {Z : Type 0} → (files : Z → Option Files) (cause : Cause) (r : RunResult) (z z' : Z) (w : Three (Option (List ℕ)))
    (before now : Option Files) → files z ≡ before → files z' ≡ now → FrozenLast cause r z z' w → FrozenLast cause r before now w
untouched files causes.Write r z z' w before now b n (inl h) = inl (sym n ∙ ap files h ∙ b)
untouched files causes.Write r z z' w before now b n (inr h) = inr h
untouched files cause r z z' w before now b n h = tt

module _ (r : RunResult) (name : List ℕ) (before now : Option Files) (created : Bool) (failures failures0 : ℕ)
    (made0 : Option (List ℕ)) (two : Contents) (two_failures : Both ℕ)
    (m : made0 ≡ written false name before) (z : failures0 ≡ 0)
    (s : now ≡ after_writing created name (written created name now) before)
    (t : is_tried created failures (written created name now) ≡ true) where
  done_by : (frozen : Option (List ℕ)) → HasFrozen frozen
      (record { two = two; frozen_old = made0; frozen_new = written created name now }) → failures ≡ failures0
      → now ≡ option_map (made_file name (unwrap_or frozen [])) before
  done_by None h e = made_so name [] before now created failures s t (e ∙ z) (h ∙ m ∙ with_bytes-nil (written false name before))
  done_by (Some text) h e = made_so name text before now created failures s t (e ∙ z) (h ∙ ap (λ (o : Option (List ℕ)). with_bytes o text) m)

  with_all : (now ≡ before) ⊎ HasPrefix name (unwrap_or r.frozen []) before now → HasWritten r.output r.messages two
      → (now ≡ before) ⊎ (HasPrefix name (unwrap_or r.frozen []) before now × HasWritten r.output r.messages two)
  with_all (inl e) a = inl e
  with_all (inr p) a = inr (p, a)

  write_by : (now ≡ before) ⊎ FrozenBegan r (record { two = two; frozen_old = made0; frozen_new = written created name now })
      → (now ≡ before) ⊎ (HasPrefix name (unwrap_or r.frozen []) before now × HasWritten r.output r.messages two)
  write_by (inl e) = inl e
  write_by (inr b) =
      let p = subst (λ (o : Option (List ℕ)). HasBegun o (written created name now) b.text) m b.begun in
      with_all
      (prefix_made name (unwrap_or r.frozen []) before now created s
      (subst (λ (o : Option (List ℕ)). HasBegun (written false name before) (written created name now)
      (unwrap_or o [])) (sym b.is) p))
      (record { output = b.output; messages = b.messages })

  pub files_by : (cause : Cause) → FrozenBy cause r (record { two = two; frozen_old = made0; frozen_new = written created name now })
      → FrozenLast cause r before now (record { two = two; frozen_old = made0; frozen_new = written created name now })
      → ByCause cause (NoneOfThree (record { two = two_failures; frozen_old = failures0; frozen_new = failures }))
      (OneOfThree (record { two = two_failures; frozen_old = failures0; frozen_new = failures })
      (record { two = two; frozen_old = made0; frozen_new = written created name now }))
      → RanFiles cause name r two before now
  files_by causes.Done h u f = done_by r.frozen h f.1
  files_by causes.Write h u f = write_by u
  files_by c h u f = kept_so name before now created failures s t (f.1 ∙ z) (h ∙ m)

pub counted_by : (cause : Cause) (f : Three ℕ) (w : Three (Option (List ℕ)))
    → ByCause cause (NoneOfThree f) (OneOfThree f w) → CountedBy cause (f.two).messages_old (f.two).messages_new
counted_by causes.Write f w (inl (inl h, i, j)) = inl h.1
counted_by causes.Write f w (inl (inr h, i, j)) = inr h.1
counted_by causes.Write f w (inr h) = inl h.0.1
counted_by c f w h = h.0.1

pub starts_so : (name : List ℕ) (before now : Option Files) (created : Bool) → created ≡ false → now ≡ before
    → written created name now ≡ written false name before
starts_so name before now created c e = ap (λ (b : Bool). written b name now) c ∙ ap (written false name) e

-- a run to a late file
pub ran_so : (r : RunResult) (e : Ending) (m : Bool) (name : List ℕ) (before now : Option Files) (created : Bool)
    (failures failures0 : ℕ) (created0 : Bool) (w0 : Option Files) (o0 o1 m0 m1 : Option (List ℕ)) (of0 of1 mf0 mf1 : ℕ)
    → created0 ≡ false → w0 ≡ before → failures0 ≡ 0
    → RunGives r e (record { two = writers o0 o1 m0 m1; frozen_old = written created0 name w0; frozen_new = written created name now })
    → ByCause e.cause (NoneOfThree (record { two = writers of0 of1 mf0 mf1; frozen_old = failures0; frozen_new = failures }))
    (OneOfThree (record { two = writers of0 of1 mf0 mf1; frozen_old = failures0; frozen_new = failures })
    (record { two = writers o0 o1 m0 m1; frozen_old = written created0 name w0; frozen_new = written created name now }))
    → FrozenLast e.cause r before now (record { two = writers o0 o1 m0 m1; frozen_old = written created0 name w0; frozen_new = written created name now })
    → e.status ≡ status_of (Ends e.cause) m
    → now ≡ after_writing created name (written created name now) before → is_tried created failures (written created name now) ≡ true
    → RanBy name r e (seen_from o0 o1 m0 m1 mf0 mf1 before now)
ran_so r e m name before now created failures failures0 created0 w0 o0 o1 m0 m1 of0 of1 mf0 mf1 c k z g b u st a t = record {
  gives = g.gives;
  counted = counted_by e.cause (record { two = writers of0 of1 mf0 mf1; frozen_old = failures0; frozen_new = failures })
      (record { two = writers o0 o1 m0 m1; frozen_old = written created0 name w0; frozen_new = written created name now }) b;
  any_missing = m;
  is_status = st;
  files = files_by r name before now created failures failures0 (written created0 name w0) (writers o0 o1 m0 m1)
      (writers of0 of1 mf0 mf1) (starts_so name before w0 created0 c k) z a t e.cause g.frozen u b;
}

-- a run that was not begun
pub not_begun : (name : List ℕ) (r : RunResult) (e : Ending) (o m : Option (List ℕ)) (f : ℕ) (old new : Option Files)
    → e ≡ record { status = 1; cause = causes.OutOfMemory; wrapped = false } → new ≡ old
    → RanBy name r e (seen_from o o m m f f old new)
not_begun name r e o m f old new is k = rw is (record {
  gives = record { wrapped = refl; output = nothing_put o r.output; messages = nothing_put m r.messages };
  counted = refl;
  any_missing = false;
  is_status = refl;
  files = k;
})

-- the same run, by the names of its parts
pub ran_as : (name name' : List ℕ) (r : RunResult) (e : Ending) (o o' m m' : Option (List ℕ)) (f f' : ℕ) (old old' new : Option Files)
    → name ≡ name' → old ≡ old' → RanBy name r e (seen_from o o' m m' f f' old new) → RanBy name' r e (seen_from o o' m m' f f' old' new)
ran_as name name' r e o o' m m' f f' old old' new n k h =
    subst (λ (w : Option Files). RanBy name' r e (seen_from o o' m m' f f' w new)) k
    (subst (λ (x : List ℕ). RanBy x r e (seen_from o o' m m' f f' old new)) n h)
