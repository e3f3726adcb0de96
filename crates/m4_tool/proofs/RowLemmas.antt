-- The rows of clap, and the line that is made from them.
use Rattle.std.proofs.Common.{◌≡◌, ◌∙◌, ◌^◌, ◌<◌, ◌&&◌, ◌||◌, ℕ, Bool, List, [], ◌∷◌, Option, Some, None, Result, Ok}
use Rattle.std.proofs.Common.{Err, IfOk, IsSome, ap, arith, codes, false, is_some, map, option_map, refl}
use Rattle.std.proofs.Common.{string_bytes, true}
use Rattle.std.specs.Prelude.{find, option_and_then, slice_get, unwrap_or}
use Rattle.std.specs.Str.{bytes_eq}
use Rattle.std.specs.Str.Parse.{ParsesUnsigned, digits_value, without_leading_plus}
use Rattle.clap.proofs.WalkLemmas.{raw_values-rows}
use Rattle.clap.specs.Matches.{ReadsOne}
use Rattle.clap.specs.Words.{Row, Text, all_of, first_of, matched_of, raw_values, rows_of}
use Rattle.clap.specs.declared.parser.matches.Found.{Found}
use Rattle.m4_tool.specs.CommandLine.{HasNoFiles, HoldsFound, IsLimit, ModeIsAlone, files_in, mode_has_others}
use Rattle.m4_tool.specs.CommandLine.{has_files, has_options, is_given}
use Rattle.m4_tool.specs.declared.line.Line.{Line}
use Rattle.m4_tool.specs.declared.line.LineFault.{LineFault}

-- a map keeps whether there is a value
is_some-map : {X Y : Type 0} (f : X → Y) (o : Option X) → is_some o ≡ is_some (option_map f o)
is_some-map f None = refl
is_some-map f (Some x) = refl

-- the values that clap found are those in its rows
pub found_described : (f : Found) (name : Text) → is_some (matched_of f name) ≡ is_given name (rows_of f)
found_described f name = is_some-map raw_values (matched_of f name) ∙ ap is_some (raw_values-rows f name)

-- an option that is not given has no value
first_unless : (name : Text) (rows : List Row) → is_given name rows ≡ false → first_of name rows ≡ None
first_unless name rows absent = go (find (λ r. bytes_eq r.id name) rows) absent
  where
    go : (o : Option Row) → is_some (option_map (λ (r : Row). r.values) o) ≡ false
        → option_and_then (λ (r : Row). slice_get r.values 0) o ≡ None
    go None h = refl
    go (Some r) h = cc

-- no files are read if none is given
files_unless : (rows : List Row) → is_given (codes "files") rows ≡ false → files_in rows ≡ []
files_unless rows absent = go (all_of (codes "files") rows) absent
  where
    go : (o : Option (List Text)) → is_some o ≡ false → unwrap_or o [] ≡ []
    go None h = refl
    go (Some files) h = cc

none_of_map : {X Y : Type 0} (f : X → Y) (o : Option X) → option_map f o ≡ None → o ≡ None
none_of_map f None h = refl
none_of_map f (Some x) h = cc

nil_of_map : {X Y : Type 0} (f : X → Y) (xs : List X) → map f xs ≡ [] → xs ≡ []
nil_of_map f [] h = refl
nil_of_map f (x ∷ xs) h = cc

-- the first of two modes is given with nothing else
first_alone : (a b limits files : Bool) → ((a && b) || ((a || b) && (limits || files))) ≡ false → a ≡ true
    → (b ≡ false) × (files ≡ false)
first_alone false b limits files h t = cc
first_alone true true limits files h t = cc
first_alone true false true files h t = cc
first_alone true false false true h t = cc
first_alone true false false false h t = (refl, refl)

-- and so does the second
second_alone : (a b limits files : Bool) → ((a && b) || ((a || b) && (limits || files))) ≡ false → b ≡ true
    → (a ≡ false) × (files ≡ false)
second_alone a false limits files h t = cc
second_alone true true limits files h t = cc
second_alone false true true files h t = cc
second_alone false true false true h t = cc
second_alone false true false false h t = (refl, refl)

-- none of three is given
none_described : (a b c : Bool) → (a || (b || c)) ≡ false → (a ≡ false) × ((b ≡ false) × (c ≡ false))
none_described true b c h = cc
none_described false true c h = cc
none_described false false true h = cc
none_described false false false h = (refl, (refl, refl))

-- a mode of the line is among the rows
mode_kept : {X : Type 0} (f : X → Text) (file : Option X) (name : Text) (rows : List Row)
    → option_map f file ≡ first_of name rows → IsSome file → is_given name rows ≡ true
mode_kept {X = X} f file name rows is some = go (is_given name rows) refl
  where
    gone : (o : Option X) → IsSome o → o ≡ None → ⊥
    gone None h e = cc
    gone (Some x) h e = cc

    go : (b : Bool) → is_given name rows ≡ b → b ≡ true
    go true e = refl
    go false e = absurd (gone file some (none_of_map f file (is ∙ first_unless name rows e)))

-- a line of rows with no files has none
no_files : (rows : List Row) (line : Line) → HoldsFound rows line → has_files rows ≡ false
    → HasNoFiles line
no_files rows line holds absent =
    let each = none_described (is_given (codes "freeze-state") rows) (is_given (codes "reload-state") rows)
    (is_given (codes "files") rows) absent in record {
      freeze = none_of_map string_bytes line.freeze (holds.freeze ∙ first_unless (codes "freeze-state") rows each.0);
      reload = none_of_map string_bytes line.reload (holds.reload ∙ first_unless (codes "reload-state") rows each.1.0);
      files = nil_of_map string_bytes line.files.items (holds.files ∙ files_unless rows each.1.1);
    }

-- a mode of a line with no company has none in the line
pub mode_is_alone : (rows : List Row) (line : Line) → HoldsFound rows line → mode_has_others rows ≡ false
    → ModeIsAlone line
mode_is_alone rows line holds alone = record {
  canon = λ some.
      let others = first_alone (is_given (codes "canon") rows) (is_given (codes "inspect") rows)
      (has_options rows) (has_files rows)
      alone (mode_kept string_bytes line.canon (codes "canon") rows holds.canon some) in (
        none_of_map string_bytes line.inspect (holds.inspect ∙ first_unless (codes "inspect") rows others.0),
        no_files rows line holds others.1,
      );
  inspect = λ some.
      let others = second_alone (is_given (codes "canon") rows) (is_given (codes "inspect") rows)
      (has_options rows) (has_files rows)
      alone (mode_kept string_bytes line.inspect (codes "inspect") rows holds.inspect some) in (
        none_of_map string_bytes line.canon (holds.canon ∙ first_unless (codes "canon") rows others.0),
        no_files rows line holds others.1,
      );
}

-- and so of a line that was made
pub made_alone : (rows : List Row) (r : Result Line LineFault) → IfOk r (HoldsFound rows)
    → IfOk r (λ _. mode_has_others rows ≡ false) → IfOk r ModeIsAlone
made_alone rows (Ok line) holds alone = mode_is_alone rows line holds alone
made_alone rows (Err fault) holds alone = tt

-- the number that was read of the text of a limit, where it is at least the least one
pub limit_read : (E : Type 0) (G : List ℕ → Result ℕ E → Type 0) (least usual n : ℕ) (o : Option Text)
    → (o ≡ None → ◌≡◌ {A = Option ℕ} (Some n) None) → ((t : List ℕ) → o ≡ Some t → ReadsOne G t (Some n))
    → ((t : List ℕ) (x : Result ℕ E) → G t x → ParsesUnsigned 32 10 t x) → IsLimit least usual o n
limit_read E G least usual n None none value only =
    let bad : ◌≡◌ {A = Option ℕ} (Some n) None = none refl in cc
limit_read E G least usual n (Some t) none value only = λ passed. (only t (Ok n) (value t refl)).1

-- if no number was read, or one below the least, the limit is the usual one
pub limit_unread : (E : Type 0) (G : List ℕ → Result ℕ E → Type 0) (least usual : ℕ) (o : Option Text) (r : Option ℕ)
    → (o ≡ None → r ≡ None) → ((t : List ℕ) → o ≡ Some t → ReadsOne G t r)
    → ((t : List ℕ) (x : Result ℕ E) → G t x → ParsesUnsigned 32 10 t x)
    → ((n : ℕ) → r ≡ Some n → n < least) → IsLimit least usual o usual
limit_unread E G least usual None r none value only below = refl
limit_unread E G least usual (Some t) None none value only below = λ passed.
    let read = value t refl in
    let small : digits_value 10 (without_leading_plus t) < 2 ^ 32 = omega (arith, passed.3) in
    absurd (only t (Err read.0) read.1 (passed.0, small))
limit_unread E G least usual (Some t) (Some n) none value only below = λ passed.
    let is = (only t (Ok n) (value t refl)).1 in
    let low = below n refl in
    absurd (omega (arith, is, low, passed.2))

-- the files that clap has found are those among its rows
pub files_found : (f : Found) (o : Option (List Text))
    → o ≡ option_map raw_values (matched_of f (codes "files")) → unwrap_or o [] ≡ files_in (rows_of f)
files_found f o is = ap (λ (files : Option (List Text)). unwrap_or files []) (is ∙ raw_values-rows f (codes "files"))
