-- A made file that begins with the mark.
use Rattle.std.proofs.Common.{◌≡◌, inl, inr, ℕ, Bool, true, false, List, [], Option, Some, None, refl, ap, ◌∙◌, subst}
use Rattle.std.specs.Prelude.{option_map, if◌then◌else◌, Result, Ok, Err, OnOk, IfSome, is_err}
use Rattle.std.specs.Option.{ForSome}
use Rattle.std.specs.Str.{bytes_eq}
use Rattle.std.proofs.Math.Path.{fun_ext}
use Rattle.m4_state.specs.Device.{Script}
use Rattle.m4_tool.specs.World.{Files, whole_file, with_file}
use Rattle.m4_tool.specs.Late.{written, after_writing, text_of}
use Rattle.m4_frozen.specs.Unfinished.{is_marked}
use Rattle.m4_tool.specs.Unfinished.{HasMarked, LeavesMarked}
use Rattle.m4_tool.proofs.MadeFiles.{written_at, stands_at}

again_by : (b : Bool) (x y s : Option Script) → (if b then x else (if b then y else s)) ≡ (if b then x else s)
again_by true x y s = refl
again_by false x y s = refl

-- a file that is replaced twice
with_file_again : (name bytes old : List ℕ) (files : Files) → with_file name bytes (with_file name old files) ≡ with_file name bytes files
with_file_again name bytes old files = fun_ext (λ n. again_by (bytes_eq n name) (whole_file bytes) (whole_file old) (files n))

again_in : (name bytes old : List ℕ) (files : Option Files)
    → option_map (with_file name bytes) (option_map (with_file name old) files) ≡ option_map (with_file name bytes) files
again_in name bytes old None = refl
again_in name bytes old (Some f) = ap (λ (g : Files). Some g) (with_file_again name bytes old f)

-- a marked file is marked again
pub marked_again : (name : List ℕ) (before old new : Option Files) → HasMarked name before old → HasMarked name old new → HasMarked name before new
marked_again name before old new h k = record {
  bytes = k.bytes;
  marked = k.marked;
  files = k.files ∙ ap (option_map (with_file name k.bytes)) h.files ∙ again_in name k.bytes h.bytes before;
}

pub still_marked : (name : List ℕ) (before old new : Option Files) → HasMarked name before old → LeavesMarked name old new → HasMarked name before new
still_marked name before old new h (inl e) = record { bytes = h.bytes; marked = h.marked; files = e ∙ h.files }
still_marked name before old new h (inr k) = marked_again name before old new h k

pub leaves_on : (name : List ℕ) (before old new : Option Files) → LeavesMarked name before old → LeavesMarked name old new → LeavesMarked name before new
leaves_on name before old new (inl e) k = subst (λ (o : Option Files). LeavesMarked name o new) e k
leaves_on name before old new (inr h) k = inr (still_marked name before old new h k)

pub marked_stands : (name : List ℕ) (before now : Option Files) → HasMarked name before now → now ≡ after_writing true name (written true name now) before
marked_stands name before now h = stands_at name h.bytes before now h.files

marked_in : (name bytes : List ℕ) (before now : Option Files) → is_marked bytes ≡ true
    → now ≡ option_map (with_file name bytes) before → is_marked (text_of (written true name now)) ≡ true
marked_in name bytes None now m e = rw (written_at name bytes None now e) refl
marked_in name bytes (Some f) now m e = rw (written_at name bytes (Some f) now e) m

pub marked_text : (name : List ℕ) (before now : Option Files) → HasMarked name before now → is_marked (text_of (written true name now)) ≡ true
marked_text name before now h = marked_in name h.bytes before now h.marked h.files

-- a run, and its end
pub leaves_at_end : {F : Type 0} (P : F → Type 0) (failure : Option F) (name given : List ℕ)
    (before mid now : Option Files) → given ≡ name → LeavesMarked name before mid
    → IfSome failure (λ f. P f → LeavesMarked given mid now) → IfSome failure (λ f. P f → LeavesMarked name before now)
leaves_at_end P None name given before mid now e h k = k
leaves_at_end P (Some f) name given before mid now e h k = λ p.
    leaves_on name before mid now h (subst (λ (x : List ℕ). LeavesMarked x mid now) e (k p))

-- what is there as a put begins
begun_marked : {E : Type 0} (name given : List ℕ) (before old mid : Option Files) (created : Bool) (r : Result (Unit {0}) E)
    → old ≡ after_writing created name (written created name old) before → is_marked (text_of (written created name old)) ≡ true
    → given ≡ name → is_err r ≡ false
    → (created ≡ false → OnOk r (HasMarked given old mid)) → (created ≡ true → OnOk r (mid ≡ old)) → HasMarked name before mid
begun_marked name given before old mid created (Err x) e m n is f t = absurd cc
begun_marked name given before old mid false (Ok x) e m n is f t =
    subst (λ (o : Option Files). HasMarked name o mid) e (subst (λ (x : List ℕ). HasMarked x old mid) n (f refl))
begun_marked name given before old mid true (Ok x) e m n is f t =
    record { bytes = text_of (written true name old); marked = m; files = t refl ∙ e }

-- the name doesn't matter if the files are not known
unknown_marked : (name : List ℕ) (now : Option Files) → now ≡ None → HasMarked name None now
unknown_marked name now e = record { bytes = []; marked = refl; files = e }

unknown_has : (name : List ℕ) (old new : Option Files) → old ≡ None → HasMarked name old new → new ≡ None
unknown_has name old new e h = h.files ∙ ap (option_map (with_file name h.bytes)) e

unknown_stays : (name : List ℕ) (old new : Option Files) → old ≡ None → LeavesMarked name old new → new ≡ None
unknown_stays name old new e (inl k) = k ∙ e
unknown_stays name old new e (inr h) = unknown_has name old new e h

none_before : (created : Bool) (name : List ℕ) (old : Option Files) → old ≡ after_writing created name (written created name old) None → old ≡ None
none_before false name old e = e
none_before true name old e = e

unknown_mid : {E : Type 0} (given : List ℕ) (old mid : Option Files) (created : Bool) (r : Result (Unit {0}) E) → old ≡ None → is_err r ≡ false
    → (created ≡ false → OnOk r (HasMarked given old mid)) → (created ≡ true → OnOk r (mid ≡ old)) → mid ≡ None
unknown_mid given old mid created (Err x) e is f t = absurd cc
unknown_mid given old mid false (Ok x) e is f t = unknown_has given old mid e (f refl)
unknown_mid given old mid true (Ok x) e is f t = t refl ∙ e

-- what is there after a put
pub put_marked : {E : Type 0} (name given given' : List ℕ) (before old mid now : Option Files) (created : Bool) (r : Result (Unit {0}) E)
    → old ≡ after_writing created name (written created name old) before → is_marked (text_of (written created name old)) ≡ true
    → ForSome before (λ _. given ≡ name) → ForSome before (λ _. given' ≡ name) → is_err r ≡ false
    → (created ≡ false → OnOk r (HasMarked given old mid)) → (created ≡ true → OnOk r (mid ≡ old))
    → LeavesMarked given' mid now → HasMarked name before now
put_marked name given given' None old mid now created r e m n n' is f t k =
    unknown_marked name now (unknown_stays given' mid now (unknown_mid given old mid created r (none_before created name old e) is f t) k)
put_marked name given given' (Some b) old mid now created r e m n n' is f t k =
    still_marked name (Some b) mid now (begun_marked name given (Some b) old mid created r e m (n b refl) is f t)
    (subst (λ (x : List ℕ). LeavesMarked x mid now) (n' b refl) k)
