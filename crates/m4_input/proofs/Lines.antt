-- Lines: the rest of a line is found by its newline.
use Rattle.std.proofs.Common.{◌≡◌, ℕ, suc, ◌+◌, ◌-◌, ◌≤◌, Bool, true, false, List, [], ◌∷◌, ◌++◌, length, take}
use Rattle.std.proofs.Common.{drop, Option, Some, None, refl, sym, ap, ◌∙◌, arith, add-one, length-append}
use Rattle.std.proofs.lemmas.List.{take-append-drop}
use Rattle.std.proofs.Math.ListN.{drop_of_length-le}
use Rattle.std.specs.Prelude.{◌==◌, not}
use Rattle.std.proofs.lemmas.Bool.Decides.{nat_tests}
use Rattle.m4_input.specs.Ascii.{newline}
use Rattle.m4_input.specs.Pending.{Pending, text_of, counted, newlines_in, consumed, one_longer, line_length}
use Rattle.m4_input.specs.Input.{Held, longer, all_read, all_read_if_ended, after_line_of, after_line}
use Rattle.m4_input.specs.Blocks.{LineGives}
use Rattle.m4_input.specs.declared.fault.InputFault.{InputFault}
use Rattle.m4_input.proofs.Consumed.{text_longer, consumed_longer, consumed_twice, text-consumed}
use Rattle.m4_input.proofs.OpenEnd.{one_more_is}
use Rattle.m4_input.proofs.Parts.{drop_parts, take_long}
use Rattle.m4_input.specs.OpenToken.{further}
use Rattle.m4_input.specs.Token.{begins, before}

abbrev line_on : Bool → Option ℕ → Option ℕ
line_on true o = Some 1
line_on false o = one_longer o

abbrev before_on : Bool → Option ℕ → Option ℕ
before_on true o = Some 0
before_on false o = one_longer o

line_is : (b : ℕ) (x : List ℕ) → line_length (b ∷ x) ≡ line_on (b == newline) (line_length x)
line_is b x = elim (b == newline) as (λ v. (elim v [ true ↦ Some 1 | false ↦ one_longer (line_length x) ])
    ≡ line_on v (line_length x)) [ true ↦ refl | false ↦ refl ]

before_is : (e : List ℕ) (b : ℕ) (x : List ℕ) → before e (b ∷ x) ≡ before_on (begins e (b ∷ x)) (before e x)
before_is e b x = elim (begins e (b ∷ x)) as
    (λ v. (elim v [ true ↦ Some 0 | false ↦ one_longer (before e x) ]) ≡ before_on v (before e x)) [ true ↦ refl | false ↦ refl ]

both_on : (v : Bool) (o o' : Option ℕ) → o ≡ one_longer o' → line_on v o ≡ one_longer (before_on v o')
both_on true o o' e = refl
both_on false o o' e = ap one_longer e

same_test : (b : ℕ) (x : List ℕ) → (b == newline) ≡ begins (newline ∷ []) (b ∷ x)
same_test b x = grind (arith, nat_tests)

pub line_found : (x : List ℕ) → line_length x ≡ one_longer (before (newline ∷ []) x)
line_found [] = refl
line_found (b ∷ x) =
    line_is b x ∙ both_on (b == newline) (line_length x) (before (newline ∷ []) x) (line_found x)
    ∙ ap (λ v. one_longer (before_on v (before (newline ∷ []) x))) (same_test b x)
    ∙ ap one_longer (sym (before_is (newline ∷ []) b x))

pub line_some : (x : List ℕ) (n : ℕ) → Some n ≡ before (newline ∷ []) x → Some (n + 1) ≡ line_length x
line_some x n e = ap Some (add-one n) ∙ ap one_longer e ∙ sym (line_found x)

pub line_none : (x : List ℕ) → None ≡ before (newline ∷ []) x → None ≡ line_length x
line_none x e = ap one_longer e ∙ sym (line_found x)

-- the rest of a line is dropped as far as it is in hand
pub line_dropped : (old new : Held) (n : ℕ) → line_length (text_of old.pending) ≡ Some n
    → new ≡ record old { pending = consumed n old.pending } → LineGives old new true
line_dropped old new n e f = (
  ap (λ (o : Option ℕ). after_line_of o old.pending) e ∙ ap (λ (h : Held). Some h.pending) (sym f),
  ap (λ (h : Held). h.fault) f,
)

pub all_dropped : (old new : Held) (v : Bool) → (old.pending).may_follow ≡ v → line_length (text_of old.pending) ≡ None
    → new ≡ record old { pending = all_read old.pending } → LineGives old new (not v)
all_dropped old new true m e f = (
  ap (λ (o : Option ℕ). after_line_of o old.pending) e ∙ ap (λ (b : Bool). all_read_if_ended b old.pending) m,
  f,
)
all_dropped old new false m e f = (
  ap (λ (o : Option ℕ). after_line_of o old.pending) e ∙ ap (λ (b : Bool). all_read_if_ended b old.pending) m ∙ ap (λ (h : Held). Some h.pending) (sym f),
  ap (λ (h : Held). h.fault) f,
)

-- everything is consumed
all_read_is : (p : Pending) → all_read p ≡ record p { definition = None; pushed = []; unread = []; newlines = counted p.newlines (newlines_in p.unread) }
all_read_is p =
    let l : length (text_of p) ≡ length p.pushed + length p.unread = length-append p.pushed p.unread in
    let m : length (text_of p) - length p.pushed ≡ length p.unread = omega arith in
    ap (λ (x : List ℕ). let q : Pending =
    record p {
      definition = None;
      pushed = x;
      unread = drop (length (text_of p) - length p.pushed) p.unread;
      newlines = counted p.newlines (newlines_in (take (length (text_of p) - length p.pushed) p.unread));
    } in q)
    (drop_of_length-le p.pushed (omega arith))
    ∙ ap (λ (n : ℕ). let q : Pending = record p {
      definition = None;
      pushed = [];
      unread = drop n p.unread;
      newlines = counted p.newlines (newlines_in (take n p.unread));
    } in q) m
    ∙ ap (λ (x : List ℕ). let q : Pending =
    record p {
      definition = None;
      pushed = [];
      unread = x;
      newlines = counted p.newlines (newlines_in (take (length p.unread) p.unread));
    } in q)
    (drop_of_length-le p.unread (omega arith))
    ∙ ap (λ (x : List ℕ). let q : Pending =
    record p { definition = None; pushed = []; unread = []; newlines = counted p.newlines (newlines_in x) } in q)
    (take_long (length p.unread) p.unread (omega arith))

-- the bytes of a block after those that were dropped
module _ (y : List ℕ) (b : Bool) (p : Pending) where
  text_dropped : text_of (longer y b (all_read p)) ≡ y
  text_dropped = ap (λ (q : Pending). text_of (longer y b q)) (all_read_is p)

  consumed_dropped : (n : ℕ) → consumed n (longer y b (all_read p)) ≡ consumed (length (text_of p) + n) (longer y b p)
  consumed_dropped n =
      ap (consumed n) (sym (consumed_longer y b (length (text_of p)) p (omega arith)))
      ∙ consumed_twice (length (text_of p)) n (longer y b p)

  text_all : length (text_of (longer y b p)) ≡ length (text_of p) + length y
  text_all = ap length (text_longer y b p) ∙ length-append (text_of p) y

  pub rest_dropped : all_read (longer y b p) ≡ all_read (longer y b (all_read p))
  rest_dropped =
      ap (λ (n : ℕ). consumed n (longer y b p)) text_all
      ∙ sym (consumed_dropped (length y))
      ∙ ap (λ (x : List ℕ). consumed (length x) (longer y b (all_read p))) (sym text_dropped)

  line_by : (o : Option ℕ) (v : Bool) → b ≡ v → after_line_of (further (length (text_of p)) o) (longer y b p) ≡ after_line_of o (longer y b (all_read p))
  line_by (Some n) v e = ap Some (sym (consumed_dropped n))
  line_by None true e = ap (λ (w : Bool). all_read_if_ended w (longer y b p)) e ∙ sym (ap (λ (w : Bool). all_read_if_ended w (longer y b (all_read p))) e)
  line_by None false e = ap (λ (w : Bool). all_read_if_ended w (longer y b p)) e ∙ ap Some rest_dropped
      ∙ sym (ap (λ (w : Bool). all_read_if_ended w (longer y b (all_read p))) e)

none_more : (o : Option ℕ) → one_longer o ≡ None → o ≡ None
none_more None e = refl
none_more (Some n) e = cc

further_zero : (o : Option ℕ) → o ≡ further 0 o
further_zero None = refl
further_zero (Some n) = ap Some (omega arith)

further_one : (n : ℕ) (o : Option ℕ) → one_longer (further n o) ≡ further (suc n) o
further_one n None = refl
further_one n (Some m) = ap Some (omega arith)

goes_by : (v : Bool) (x y : List ℕ) → line_on v (line_length x) ≡ None
    → (line_length x ≡ None → line_length (x ++ y) ≡ further (length x) (line_length y))
    → line_on v (line_length (x ++ y)) ≡ further (suc (length x)) (line_length y)
goes_by true x y f h = cc
goes_by false x y f h = ap one_longer (h (none_more (line_length x) f)) ∙ further_one (length x) (line_length y)

-- a line goes on after bytes without a newline
line_goes_on : (x y : List ℕ) → line_length x ≡ None → line_length (x ++ y) ≡ further (length x) (line_length y)
line_goes_on [] y e = further_zero (line_length y)
line_goes_on (b ∷ x) y e =
    let f : line_on (b == newline) (line_length x) ≡ None = sym (line_is b x) ∙ e in
    line_is b (x ++ y) ∙ goes_by (b == newline) x y f (λ g. line_goes_on x y g)

pub line_after_block : (y : List ℕ) (b : Bool) (p : Pending) → line_length (text_of p) ≡ None → after_line (longer y b p) ≡ after_line (longer y b (all_read p))
line_after_block y b p e =
    ap (λ (x : List ℕ). after_line_of (line_length x) (longer y b p)) (text_longer y b p)
    ∙ ap (λ (o : Option ℕ). after_line_of o (longer y b p)) (line_goes_on (text_of p) y e)
    ∙ line_by y b p (line_length y) b refl
    ∙ ap (λ (x : List ℕ). after_line_of (line_length x) (longer y b (all_read p))) (sym (text_dropped y b p))

-- a line that ends in the first bytes
line_in_front : (x y : List ℕ) (n : ℕ) → line_length x ≡ Some n → line_length (x ++ y) ≡ Some n
line_in_front [] y n e = cc
line_in_front (b ∷ x) y n e = line_is b (x ++ y) ∙ by (b == newline) (λ m. line_in_front x y m) (sym (line_is b x) ∙ e)
  where
    by : (v : Bool) → ((m : ℕ) → line_length x ≡ Some m → line_length (x ++ y) ≡ Some m)
        → line_on v (line_length x) ≡ Some n → line_on v (line_length (x ++ y)) ≡ Some n
    by true h f = f
    by false h f = let k = one_more_is (line_length x) n f in ap one_longer (h k.0 k.1) ∙ sym (ap Some k.2)

-- a line is dropped front by front: the rest of it is the same from what is left
pub record IsLeft (old h : Held) : Type 0 where
  pub line : after_line h.pending ≡ after_line old.pending
  pub rest : all_read h.pending ≡ all_read old.pending
  pub fault : h.fault ≡ old.fault

pub none_left : (h : Held) → IsLeft h h
none_left h = record { line = refl; rest = refl; fault = refl }

left_gives : (old h new : Held) (v : Bool) → IsLeft old h → LineGives h new v → LineGives old new v
left_gives old h new true s g = (sym s.line ∙ g.0, g.1 ∙ s.fault)
left_gives old h new false s g = (
  sym s.line ∙ g.0,
  g.1 ∙ ap (λ (p : Pending). let k : Held = record h { pending = p } in k) s.rest
      ∙ ap (λ (f : Option InputFault). let k : Held = record { pending = all_read old.pending; fault = f } in k) s.fault,
)

-- the first bytes, x, are consumed
module _ (old h new : Held) (x : List ℕ) (s : IsLeft old h) (begins : x ≡ take (length x) (text_of h.pending)) where
  whole : x ++ drop (length x) (text_of h.pending) ≡ text_of h.pending
  whole = ap (λ (y : List ℕ). y ++ drop (length x) (text_of h.pending)) begins ∙ take-append-drop (length x) (text_of h.pending)

  pub front_fits : length x ≤ length (text_of h.pending)
  front_fits = let all : length x + length (drop (length x) (text_of h.pending)) ≡ length (text_of h.pending) =
      sym (length-append x (drop (length x) (text_of h.pending))) ∙ ap length whole in omega arith

  -- the line ends in them
  pub left_ends : (m : ℕ) → Some m ≡ line_length x → new ≡ record h { pending = consumed m h.pending } → LineGives old new true
  left_ends m e f =
      let there : line_length (text_of h.pending) ≡ Some m = ap line_length (sym whole) ∙ line_in_front x (drop (length x) (text_of h.pending)) m (sym e) in
      left_gives old h new true s (line_dropped h new m there f)

  module _ (none : None ≡ line_length x) (f : new ≡ record h { pending = consumed (length x) h.pending }) where
    -- others come after them
    text_left : text_of (consumed (length x) h.pending) ≡ drop (length x) (text_of h.pending)
    text_left = sym (drop_parts (length x) (h.pending).pushed (h.pending).unread)

    all_left : all_read (consumed (length x) h.pending) ≡ all_read h.pending
    all_left =
        let len : length (text_of (consumed (length x) h.pending)) ≡ length (text_of h.pending) - length x = text-consumed (length x) h.pending in
        let fits : length x ≤ length (text_of h.pending) = front_fits in
        let sum : length x + length (text_of (consumed (length x) h.pending)) ≡ length (text_of h.pending) = omega arith in
        consumed_twice (length x) (length (text_of (consumed (length x) h.pending))) h.pending ∙ ap (λ (k : ℕ). consumed k h.pending) sum

    same_line : (o : Option ℕ) → after_line_of o (consumed (length x) h.pending) ≡ after_line_of (further (length x) o) h.pending
    same_line (Some m) = ap Some (consumed_twice (length x) m h.pending)
    same_line None = by (h.pending).may_follow
      where
        by : (v : Bool) → all_read_if_ended v (consumed (length x) h.pending) ≡ all_read_if_ended v h.pending
        by true = refl
        by false = ap Some all_left

    line_left : after_line (consumed (length x) h.pending) ≡ after_line h.pending
    line_left =
        ap (λ (y : List ℕ). after_line_of (line_length y) (consumed (length x) h.pending)) text_left
        ∙ same_line (line_length (drop (length x) (text_of h.pending)))
        ∙ ap (λ (o : Option ℕ). after_line_of o h.pending) (sym (line_goes_on x (drop (length x) (text_of h.pending)) (sym none)) ∙ ap line_length whole)

    pub left_more : IsLeft old new
    left_more = record {
      line = ap (λ (k : Held). after_line k.pending) f ∙ line_left ∙ s.line;
      rest = ap (λ (k : Held). all_read k.pending) f ∙ all_left ∙ s.rest;
      fault = ap (λ (k : Held). k.fault) f ∙ s.fault;
    }
