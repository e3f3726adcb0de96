-- Marks: the turn that shows what was written, kept while a run goes on.
use Rattle.std.proofs.Common.{◌≡◌, inl, inr, Bool, ℕ, ◌+◌, List, [], ◌++◌, refl, sym, ap, ◌∙◌, subst, append-nil, arith}
use Rattle.std.proofs.Common.{append_assoc, length, length-append, Option}
use Rattle.std.proofs.lemmas.List.{nil_from_length}
use Rattle.m4_input.specs.Pending.{Pending, text_of, line_length}
use Rattle.m4_input.specs.Input.{Held, longer}
use Rattle.m4_engine.specs.declared.machine.driver.Wanted.{Wanted}
use Rattle.m4_engine.specs.declared.machine.driver.Wanted.TheVariants as wanted
use Rattle.m4_engine.specs.declared.turned.Turned.{Turned}
use Rattle.m4_engine.specs.declared.turned.Turned.TheVariants as turns
use Rattle.m4_engine.specs.Expansion.{RunSoFar}
use Rattle.m4_engine.specs.Engine.{Engine, so_far_of, outer_of, here_of, configuration}
use Rattle.m4_engine.specs.Moments.{Next, moved, made_by}
use Rattle.m4_engine.specs.Turns.{MayFollow, Moves, IsTurned}
use Rattle.m4_engine.specs.Expands.{FlushesSome, FlushesDue}
use Rattle.m4_engine.specs.Continued.{Leads, Marked}
use Rattle.m4_engine.specs.Order.{Shows}
use Rattle.m4_engine.specs.Writers.{writers}
use Rattle.m4_engine.proofs.Growth.{Extends}
use Rattle.m4_engine.proofs.Leading.{leads_then}
use Rattle.m4_engine.proofs.OnlyGrows.{extends_same, skipping_makes, moment_keeps, output_front}

-- what the machine holds when a turn is over was made by then, and perhaps more
pub turn_makes : (e e' : Engine) (i j : Held) (t : Turned)
    → Moves (i.pending).may_follow e' j.pending t (λ z more o m. moved (configuration o m e (longer z more i.pending)))
    → IsTurned e e' i j t → (z : List ℕ) (more : Bool) → MayFollow (i.pending).may_follow z more → (o m : List ℕ)
    → Extends (so_far_of o m e') (made_by (moved (configuration o m e (longer z more i.pending))))
turn_makes e e' i j turns.GoesOn h k z more c o m =
    subst (λ (v : Next). Extends (so_far_of o m e') (made_by v)) (sym (h z more c o m)) (extends_same (so_far_of o m e'))
turn_makes e e' i j turns.SkipsLine h k z more c o m =
    subst (λ (v : Next). Extends (so_far_of o m e') (made_by v)) (sym (h z more c o m))
    (subst (λ (r : RunSoFar). Extends (so_far_of o m e') r)
    (sym (skipping_makes (outer_of e'.open_calls) (line_length (text_of (longer z more j.pending)))
    (here_of o m e' (longer z more j.pending)))) (extends_same (so_far_of o m e')))
turn_makes e e' i j turns.NeedsMore h k z more c o m =
    subst (λ (d : Engine). Extends (so_far_of o m d) (made_by (moved (configuration o m e (longer z more i.pending)))))
    (sym k.engine) (moment_keeps (configuration o m e (longer z more i.pending)))
turn_makes e e' i j (turns.Ends end) h k z more c o m =
    subst (λ (v : Next). Extends (so_far_of o m e') (made_by v)) (sym (h z more c o m)) (extends_same (so_far_of o m e'))

-- an output and a text, each after others
join_front : (a o f x : List ℕ) → (a ++ o) ++ (f ++ x) ≡ (a ++ (o ++ f)) ++ x
join_front a o f x = sym (append_assoc (a ++ o) f x) ∙ ap (λ v. v ++ x) (append_assoc a o f)

-- a beginning of what was buffered before a turn was written
pub mark_front : (w : Wanted) (e0 e : Engine) (p0 p : Pending) (o m f x : List ℕ) → Leads w e0 p0 wanted.Token e p o m
    → e.messages ≡ [] → e.output ≡ f ++ x → Marked w e0 p0 (o ++ f) m
mark_front w e0 e p0 p o m f x l q g = record {
  at = e;
  q = p;
  before = o;
  reported = m;
  leads = l;
  shown = λ z more c a b. inl (
    (x, ap (λ v. (a ++ o) ++ v) g ∙ join_front a o f x),
    sym (ap (λ v. (b ++ m) ++ v) q ∙ append-nil (b ++ m)),
  );
}

-- nothing of it was
pub mark_here : (w : Wanted) (e0 e : Engine) (p0 p : Pending) (o m : List ℕ) → Leads w e0 p0 wanted.Token e p o m
    → e.messages ≡ [] → Marked w e0 p0 o m
mark_here w e0 e p0 p o m l q =
    subst (λ (n : List ℕ). Marked w e0 p0 n m) (append-nil o) (mark_front w e0 e p0 p o m [] e.output l q refl)

-- all of it was, and a beginning of the messages of the turn
pub mark_turn : (w : Wanted) (e0 e e' : Engine) (p0 : Pending) (i j : Held) (t : Turned) (o m y rest : List ℕ)
    → Leads w e0 p0 wanted.Token e i.pending o m
    → Moves (i.pending).may_follow e' j.pending t (λ z more o m. moved (configuration o m e (longer z more i.pending)))
    → IsTurned e e' i j t → e.messages ≡ [] → e'.messages ≡ y ++ rest → Marked w e0 p0 (o ++ e.output) (m ++ y)
mark_turn w e0 e e' p0 i j t o m y rest l h k q g = record {
  at = e;
  q = i.pending;
  before = o;
  reported = m;
  leads = l;
  shown = λ z more c a b.
      let made = turn_makes e e' i j t h k z more (subst (λ v. MayFollow v z more) (sym l.follows) c) (a ++ o) (b ++ m) in
      inr (inl (
        sym (append_assoc a o e.output),
        (y, sym (append_assoc b m y) ∙ ap (λ v. v ++ y) (sym (ap (λ v. (b ++ m) ++ v) q ∙ append-nil (b ++ m)))),
        (
          rest ++ made.reported,
          made.messages
              ∙ ap (λ v. ((b ++ m) ++ v) ++ made.reported) g
              ∙ ap (λ v. v ++ made.reported) (join_front b m y rest)
              ∙ append_assoc (b ++ (m ++ y)) rest made.reported,
        ),
      ));
}

-- all messages of a turn were, and a beginning of its output, where it leaves just these
mark_exact : (w : Wanted) (e0 e e' : Engine) (p0 p : Pending) (o m x rest : List ℕ)
    → Leads w e0 p0 wanted.Token e p o m
    → ((z : List ℕ) (more : Bool) → MayFollow p.may_follow z more → (a b : List ℕ)
    → made_by (moved (configuration a b e (longer z more p))) ≡ so_far_of a b e')
    → e'.output ≡ (e.output ++ x) ++ rest → Marked w e0 p0 (o ++ (e.output ++ x)) (m ++ e'.messages)
mark_exact w e0 e e' p0 p o m x rest l k g = record {
  at = e;
  q = p;
  before = o;
  reported = m;
  leads = l;
  shown = λ z more c a b.
      let made = k z more (subst (λ v. MayFollow v z more) (sym l.follows) c) (a ++ o) (b ++ m) in
      inr (inr (
        (x, sym (append_assoc a o (e.output ++ x)) ∙ sym (append_assoc (a ++ o) e.output x)),
        (
          rest,
          ap (λ (r : RunSoFar). r.output) made ∙ ap (λ v. (a ++ o) ++ v) g ∙ join_front a o (e.output ++ x) rest,
        ),
        sym (ap (λ (r : RunSoFar). r.messages) made ∙ append_assoc b m e'.messages),
      ));
}

-- a turn that needs more leaves nothing of its own
needs_none : (x y rest : List ℕ) → x ≡ (x ++ y) ++ rest → y ≡ []
needs_none x y rest e =
    let sum : length x ≡ (length x + length y) + length rest =
    ap length e ∙ length-append (x ++ y) rest ∙ ap (λ n. n + length rest) (length-append x y) in
    let none : length y ≡ 0 = omega arith in
    nil_from_length y none

-- the same after any turn
pub mark_own : (w : Wanted) (e0 e e' : Engine) (p0 : Pending) (i j : Held) (t : Turned) (o m x rest : List ℕ)
    → Leads w e0 p0 wanted.Token e i.pending o m
    → Moves (i.pending).may_follow e' j.pending t (λ z more o m. moved (configuration o m e (longer z more i.pending)))
    → IsTurned e e' i j t → e.messages ≡ [] → e'.output ≡ (e.output ++ x) ++ rest
    → Marked w e0 p0 (o ++ (e.output ++ x)) (m ++ e'.messages)
mark_own w e0 e e' p0 i j turns.GoesOn o m x rest l h k q g =
    mark_exact w e0 e e' p0 i.pending o m x rest l (λ z more c a b. ap made_by (h z more c a b)) g
mark_own w e0 e e' p0 i j turns.SkipsLine o m x rest l h k q g =
    mark_exact w e0 e e' p0 i.pending o m x rest l
    (λ z more c a b. ap made_by (h z more c a b)
    ∙ skipping_makes (outer_of e'.open_calls) (line_length (text_of (longer z more j.pending)))
    (here_of a b e' (longer z more j.pending))) g
mark_own w e0 e e' p0 i j (turns.Ends end) o m x rest l h k q g =
    mark_exact w e0 e e' p0 i.pending o m x rest l (λ z more c a b. ap made_by (h z more c a b)) g
mark_own w e0 e e' p0 i j turns.NeedsMore o m x rest l h k q g =
    let none : x ≡ [] = needs_none e.output x rest (sym (ap (λ (d : Engine). d.output) k.engine) ∙ g) in
    let quiet : e'.messages ≡ [] = ap (λ (d : Engine). d.messages) k.engine ∙ q in
    subst (λ (n : List ℕ). Marked w e0 p0 (o ++ (e.output ++ n)) (m ++ e'.messages)) (sym none)
    (subst (λ (n : List ℕ). Marked w e0 p0 (o ++ n) (m ++ e'.messages)) (sym (append-nil e.output))
    (subst (λ (n : List ℕ). Marked w e0 p0 (o ++ e.output) n) (sym (ap (λ v. m ++ v) quiet ∙ append-nil m))
    (mark_front w e0 e p0 i.pending o m e.output [] l q (sym (append-nil e.output)))))

-- on from a place that another leads to
pub mark_then : (w v : Wanted) (e0 e : Engine) (p0 p : Pending) (o m x y : List ℕ) → Leads w e0 p0 v e p o m
    → Marked v e p x y → Marked w e0 p0 (o ++ x) (m ++ y)
mark_then w v e0 e p0 p o m x y l k = record {
  at = k.at;
  q = k.q;
  before = o ++ k.before;
  reported = m ++ k.reported;
  leads = leads_then w v wanted.Token e0 e k.at p0 p k.q o m k.before k.reported l k.leads;
  shown = λ z more c a b.
      let s = k.shown z more (subst (λ v. MayFollow v z more) (sym l.follows) c) (a ++ o) (b ++ m) in
      subst (λ (n : List ℕ). Shows (so_far_of (a ++ (o ++ k.before)) (b ++ (m ++ k.reported)) k.at)
      (made_by (moved (configuration (a ++ (o ++ k.before)) (b ++ (m ++ k.reported)) k.at (longer z more k.q)))) (a ++ (o ++ x)) n)
      (append_assoc b m y)
      (subst (λ (n : List ℕ). Shows (so_far_of (a ++ (o ++ k.before)) (b ++ (m ++ k.reported)) k.at)
      (made_by (moved (configuration (a ++ (o ++ k.before)) (b ++ (m ++ k.reported)) k.at (longer z more k.q)))) n ((b ++ m) ++ y))
      (append_assoc a o x)
      (subst (λ (n : List ℕ). Shows (so_far_of (a ++ (o ++ k.before)) n k.at)
      (made_by (moved (configuration (a ++ (o ++ k.before)) n k.at (longer z more k.q)))) ((a ++ o) ++ x) ((b ++ m) ++ y))
      (append_assoc b m k.reported)
      (subst (λ (n : List ℕ). Shows (so_far_of n ((b ++ m) ++ k.reported) k.at)
      (made_by (moved (configuration n ((b ++ m) ++ k.reported) k.at (longer z more k.q)))) ((a ++ o) ++ x) ((b ++ m) ++ y))
      (append_assoc a o k.before) s)));
}

-- ---- after a flush

-- nothing was flushed, or all, is some of it
abbrev pub due_some : (e e2 : Engine) (out out' reported reported' : Option (List ℕ))
    → FlushesDue e e2 (writers out out' reported reported') → FlushesSome e e2 (writers out out' reported reported')
due_some e e2 out out' reported reported' (inl h) = record { front = []; reported = []; held = sym h.0; output = (h.1).output; messages = (h.1).messages }
due_some e e2 out out' reported reported' (inr h) = record {
  front = e.output;
  reported = e.messages;
  held =
      ap (λ (x : List ℕ). let d : Engine = record e { output = x } in d) (sym (append-nil e.output))
      ∙ ap (λ (x : List ℕ). let d : Engine = record e { output = e.output ++ []; messages = x } in d) (sym (append-nil e.messages))
      ∙ ap (λ (d : Engine). let k : Engine = record d { output = e.output ++ d.output; messages = e.messages ++ d.messages } in k) (sym h.0);
  output = (h.1).output;
  messages = (h.1).messages;
}

-- all that a turn left in the buffers was written
pub mark_flushed : (w : Wanted) (e0 e e' : Engine) (p0 : Pending) (i j : Held) (t : Turned) (o m : List ℕ)
    → Leads w e0 p0 wanted.Token e i.pending o m
    → Moves (i.pending).may_follow e' j.pending t (λ z more o m. moved (configuration o m e (longer z more i.pending)))
    → IsTurned e e' i j t → e.messages ≡ [] → Marked w e0 p0 (o ++ e'.output) (m ++ e'.messages)
mark_flushed w e0 e e' p0 i j t o m l h k q =
    let f = output_front e e' i j t h k in
    subst (λ (n : List ℕ). Marked w e0 p0 (o ++ n) (m ++ e'.messages)) (sym f.1)
    (mark_own w e0 e e' p0 i j t o m f.0 [] l h k q (f.1 ∙ sym (append-nil (e.output ++ f.0))))

-- nothing was flushed, or all
pub mark_due : (w : Wanted) (e0 e e2 : Engine) (p0 p : Pending) (o m : List ℕ)
    (out out' reported reported' : Option (List ℕ)) → Marked w e0 p0 o m
    → (f : FlushesDue e e2 (writers out out' reported reported'))
    → Leads w e0 p0 wanted.Token e2 p (o ++ (due_some e e2 out out' reported reported' f).front)
    (m ++ (due_some e e2 out out' reported reported' f).reported)
    → Marked w e0 p0 (o ++ (due_some e e2 out out' reported reported' f).front)
    (m ++ (due_some e e2 out out' reported reported' f).reported)
mark_due w e0 e e2 p0 p o m out out' reported reported' r (inl f) l =
    subst (λ (n : List ℕ). Marked w e0 p0 (o ++ []) n) (sym (append-nil m))
    (subst (λ (n : List ℕ). Marked w e0 p0 n m) (sym (append-nil o)) r)
mark_due w e0 e e2 p0 p o m out out' reported reported' r (inr f) l =
    mark_here w e0 e2 p0 p _ _ l (ap (λ (d : Engine). d.messages) f.0)
