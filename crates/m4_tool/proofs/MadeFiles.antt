-- A file that is made when its first byte is written.
use Rattle.std.proofs.Common.{◌≡◌, ◌<◌, ◌≤◌, ℕ, Bool, true, false, List, [], ◌∷◌, ◌++◌, length, take}
use Rattle.std.proofs.Common.{Option, Some, None, refl, sym, ap, ◌∙◌, arith}
use Rattle.std.specs.Prelude.{option_map, unwrap_or, if◌then◌else◌, Result, Ok, Err, OnOk, OnErr, is_err}
use Rattle.std.specs.Option.{ForSome}
use Rattle.std.specs.Str.{bytes_eq}
use Rattle.m4_state.specs.Device.{Script, with_bytes}
use Rattle.m4_tool.specs.World.{Files, whole_file, with_file, longer, with_more}
use Rattle.std.proofs.lemmas.List.{length-take}
use Rattle.std.proofs.Math.Path.{fun_ext}
use Rattle.std.proofs.lemmas.Slice.Eq.{bytes_eq-Decides}
use Rattle.m4_tool.specs.Late.{bytes_of, written, after_writing, begun_in, is_tried}

longer_by : (b : Bool) (bytes more : List ℕ) (s : Option Script)
    → (if b then longer more (if b then whole_file bytes else s) else (if b then whole_file bytes else s))
    ≡ (if b then whole_file (bytes ++ more) else s)
longer_by true bytes more s = refl
longer_by false bytes more s = refl

pub with_more_file : (name bytes more : List ℕ) (files : Files) → with_more name more (with_file name bytes files) ≡ with_file name (bytes ++ more) files
with_more_file name bytes more files = fun_ext (λ n. longer_by (bytes_eq n name) bytes more (files n))

-- more bytes after those that were written
pub more_after : (name bytes more : List ℕ) (before : Option Files)
    → option_map (with_more name more) (option_map (with_file name bytes) before)
    ≡ option_map (with_file name (bytes ++ more)) before
more_after name bytes more None = refl
more_after name bytes more (Some files) = ap (λ (f : Files). Some f) (with_more_file name bytes more files)

-- the files as a put begins, by what was written before it
pub record Begun (name : List ℕ) (before old mid : Option Files) (created : Bool) : Type 0 where
  pub bytes : List ℕ
  pub files : mid ≡ option_map (with_file name bytes) before
  pub was : written created name old ≡ option_map (λ _. bytes) before

was_at : (name : List ℕ) (before old : Option Files) (b : List ℕ) → old ≡ option_map (with_file name b) before
    → written true name old ≡ option_map (λ _. unwrap_or (written true name old) []) before
was_at name None old b e = rw e refl
was_at name (Some f) old b e = rw e refl

none_at : (name : List ℕ) (before old : Option Files) → old ≡ before → written false name old ≡ option_map (λ _. []) before
none_at name None old e = rw e refl
none_at name (Some f) old e = rw e refl

begun_by : (name : List ℕ) (before old mid : Option Files) (created : Bool)
    → old ≡ after_writing created name (written created name old) before → mid ≡ begun_in created name old → Begun name before old mid created
begun_by name before old mid false e m = record { bytes = []; files = m ∙ ap (option_map (with_file name [])) e; was = none_at name before old e }
begun_by name before old mid true e m =
    record {
      bytes = unwrap_or (written true name old) [];
      files = m ∙ e;
      was = was_at name before old (unwrap_or (written true name old) []) e;
    }

-- the name doesn't matter if the files are not known
named_begun : (name given : List ℕ) (before old : Option Files) (created : Bool) → old ≡ after_writing created name (written created name old) before
    → ForSome before (λ _. given ≡ name) → begun_in created given old ≡ begun_in created name old
named_begun name given None old false e n = rw e refl
named_begun name given None old true e n = refl
named_begun name given (Some f) old created e n = ap (λ (g : List ℕ). begun_in created g old) (n f refl)

pub begun_so : {E : Type 0} (name : List ℕ) (before old mid : Option Files) (created : Bool) (given : List ℕ) (r : Result (Unit {0}) E)
    → old ≡ after_writing created name (written created name old) before → ForSome before (λ _. given ≡ name) → is_err r ≡ false
    → OnOk r (mid ≡ begun_in created given old) → Begun name before old mid created
begun_so name before old mid created given (Ok x) e n is m = begun_by name before old mid created e (m ∙ named_begun name given before old created e n)
begun_so name before old mid created given (Err x) e n is m = absurd cc

bytes_eq-same : (name : List ℕ) → bytes_eq name name ≡ true
bytes_eq-same name = (bytes_eq-Decides name name).1 refl

-- the bytes of the file
here_by : (name bytes : List ℕ) (files : Files) → bytes_of (with_file name bytes files name) ≡ bytes
here_by name bytes files = rw (bytes_eq-same name) refl

pub written_at : (name bytes : List ℕ) (before now : Option Files) → now ≡ option_map (with_file name bytes) before
    → written true name now ≡ option_map (λ _. bytes) before
written_at name bytes None now e = rw e refl
written_at name bytes (Some f) now e = rw e (ap (λ (bs : List ℕ). Some bs) (here_by name bytes f))

-- the files and the bytes agree
pub stands_at : (name bytes : List ℕ) (before now : Option Files) → now ≡ option_map (with_file name bytes) before
    → now ≡ after_writing true name (written true name now) before
stands_at name bytes None now e = e
stands_at name bytes (Some f) now e = e
    ∙ ap (λ (o : Option (List ℕ)). option_map (with_file name (unwrap_or o [])) (Some f))
    (sym (written_at name bytes (Some f) now e))

some_put : (bytes more : List ℕ) (failures : ℕ) → 0 < length more → is_tried true failures (Some (bytes ++ more)) ≡ true
some_put [] [] failures lt = absurd (omega (arith, lt))
some_put [] (m ∷ ms) failures lt = refl
some_put (b ∷ bs) more failures lt = refl

pub tried_at : (name bytes more : List ℕ) (before now : Option Files) (failures : ℕ)
    → now ≡ option_map (with_file name (bytes ++ more)) before → 0 < length more
    → is_tried true failures (written true name now) ≡ true
tried_at name bytes more None now failures e lt = rw (written_at name (bytes ++ more) None now e) refl
tried_at name bytes more (Some f) now failures e lt = rw (written_at name (bytes ++ more) (Some f) now e) (some_put bytes more failures lt)

pub more_at : (name more : List ℕ) (before old mid now : Option Files) (created : Bool)
    → (b : Begun name before old mid created) → now ≡ option_map (with_more name more) mid
    → now ≡ option_map (with_file name (b.bytes ++ more)) before
more_at name more before old mid now created b e = e ∙ ap (option_map (with_more name more)) b.files ∙ more_after name b.bytes more before

with_more_bytes : (bytes more : List ℕ) (before : Option Files) → option_map (λ _. bytes ++ more) before ≡ with_bytes (option_map (λ _. bytes) before) more
with_more_bytes bytes more None = refl
with_more_bytes bytes more (Some f) = refl

-- what is written after a put
pub takes_more : (name more : List ℕ) (before old mid now : Option Files) (created : Bool)
    → (b : Begun name before old mid created) → now ≡ option_map (with_more name more) mid
    → written true name now ≡ with_bytes (written created name old) more
takes_more name more before old mid now created b e =
    written_at name (b.bytes ++ more) before now (more_at name more before old mid now created b e)
    ∙ with_more_bytes b.bytes more before
    ∙ ap (λ (o : Option (List ℕ)). with_bytes o more) (sym b.was)

-- a put that failed
pub takes_none : {T E : Type 0} (r : Result T E) (name : List ℕ) (before old mid now : Option Files) (created : Bool)
    → (b : Begun name before old mid created) → now ≡ mid → OnErr r (written true name now ≡ written created name old)
takes_none (Ok n) name before old mid now created b e = tt
takes_none (Err f) name before old mid now created b e = written_at name b.bytes before now (e ∙ b.files) ∙ sym b.was

named_more : (name given more bytes : List ℕ) (before mid : Option Files) → mid ≡ option_map (with_file name bytes) before
    → ForSome before (λ _. given ≡ name) → option_map (with_more given more) mid ≡ option_map (with_more name more) mid
named_more name given more bytes None mid e n = rw e refl
named_more name given more bytes (Some f) mid e n = ap (λ (g : List ℕ). option_map (with_more g more) mid) (n f refl)

-- the same, by the name that was given
pub put_stands : (name given more : List ℕ) (before old mid now : Option Files) (created : Bool) → ForSome before (λ _. given ≡ name)
    → (b : Begun name before old mid created) → now ≡ option_map (with_more given more) mid → now ≡ after_writing true name (written true name now) before
put_stands name given more before old mid now created n b e =
    stands_at name (b.bytes ++ more) before now (more_at name more before old mid now created b (e ∙ named_more name given more b.bytes before mid b.files n))

pub put_takes : (name given more : List ℕ) (before old mid now : Option Files) (created : Bool) → ForSome before (λ _. given ≡ name)
    → (b : Begun name before old mid created) → now ≡ option_map (with_more given more) mid → written true name now ≡ with_bytes (written created name old) more
put_takes name given more before old mid now created n b e =
    takes_more name more before old mid now created b (e ∙ named_more name given more b.bytes before mid b.files n)

pub put_tried : (name given bytes : List ℕ) (n : ℕ) (before old mid now : Option Files) (created : Bool) (failures : ℕ) → ForSome before (λ _. given ≡ name)
    → (b : Begun name before old mid created) → now ≡ option_map (with_more given (take n bytes)) mid → 0 < n → n ≤ length bytes
    → is_tried true failures (written true name now) ≡ true
put_tried name given bytes n before old mid now created failures m b e lt le =
    tried_at name b.bytes (take n bytes) before now failures
    (more_at name (take n bytes) before old mid now created b (e ∙ named_more name given (take n bytes) b.bytes before mid b.files m))
    (omega (arith, length-take n bytes))
