-- Blocks: what several questions to a reader leave, one after another.
use Rattle.std.proofs.Common.{◌≡◌, inr, ◌<◌, ℕ, suc, Bool, true, false, List, [], ◌∷◌, ◌++◌, length, Option, Some}
use Rattle.std.proofs.Common.{None, refl, sym, ap, ◌∙◌, ◌+◌, subst, arith, append_assoc, length-append}
use Rattle.std.specs.Prelude.{nat_lt, Ok, Err}
use Rattle.std.proofs.lemmas.Bool.Decides.{nat_tests}
use Rattle.m4_state.specs.Device.{Script, after_bytes, IsAtFault}
use Rattle.m4_state.proofs.CallerLaws.{after_bytes-append}
use Rattle.m4_input.specs.declared.fault.InputFault.{InputFault}
use Rattle.m4_input.specs.declared.fault.InputFault.TheVariants as faults
use Rattle.m4_state.specs.declared.definition.Def.{Def}
use Rattle.m4_state.specs.declared.delimiters.Delimiters.{Delimiters}
use Rattle.m4_input.specs.declared.front.Scan.{Scan}
use Rattle.m4_input.specs.declared.front.Scan.TheVariants.{Found, Broken, NeedsMore}
use Rattle.m4_input.specs.declared.front.Unended.{Unended}
use Rattle.m4_input.specs.declared.front.Unended.TheVariants.{InString, InComment}
use Rattle.m4_input.specs.InputView.{fault_of}
use Rattle.m4_input.specs.declared.token.Token.{Token}
use Rattle.m4_input.specs.Pending.{Pending, text_of, line_of, consumed}
use Rattle.m4_input.specs.Token.{Taken, front_by, front_from, scan}
use Rattle.m4_input.specs.Input.{Held, longer, all_read, after_line, Reads, Asks, wants_line, IsLasting, Stopped}
use Rattle.m4_input.specs.Input.{StopAsks, wants_token, NextGives}
use Rattle.m4_input.specs.Blocks.{BlockGives, LineGives}
use Rattle.m4_input.proofs.Calls.{reads_nothing, asks_nothing}
use Rattle.m4_input.proofs.Decided.{scan_open, line_open, no_newline}
use Rattle.m4_input.proofs.Lines.{line_after_block, rest_dropped}
use Rattle.std.proofs.lemmas.List.{append-nil}

-- the questions so far gave x, and more may follow
pub record HasRead (before after : Option Script) (old new : Held) (x : List ℕ) : Type 0 where
  pub reads : Reads before after old.pending x new.pending
  pub may : (new.pending).may_follow ≡ true
  pub first : old.fault ≡ None
  pub sound : new.fault ≡ None

pub none_read : (s : Option Script) (h : Held) → (h.pending).may_follow ≡ true → h.fault ≡ None → HasRead s s h h []
none_read s h e f = record { reads = reads_nothing s h.pending; may = e; first = f; sound = f }

pub no_bytes : (x : List ℕ) → nat_lt 0 (length x) ≡ false → x ≡ []
no_bytes [] e = refl
no_bytes (b ∷ x) e = let n : 0 < length (b ∷ x) = omega arith in absurd (grind (arith, nat_tests))

-- a question more: what all of them gave
pub block_read : (s a b : Option Script) (old h new : Held) (x : List ℕ) (came : Bool) → HasRead s a old h x
    → BlockGives a b h new (Ok came)
    → (y : List ℕ) × Reads s b old.pending y new.pending × ((new.pending).may_follow ≡ came) × (new.fault ≡ None)
block_read s a b old h new x came r g =
    let y : List ℕ = g.0 in
    let was : (old.pending).may_follow ≡ true = r.reads.still r.may in
    let now : new.pending ≡ longer y came h.pending = ap (λ (k : Held). k.pending) g.5 in
    let flag : (new.pending).may_follow ≡ came = ap (λ (p : Pending). p.may_follow) now in
    let both : longer y came h.pending ≡ longer (x ++ y) came old.pending =
    ap (longer y came) r.reads.in_hand
    ∙ ap (λ (z : List ℕ). let p : Pending = record old.pending { unread = z; may_follow = came } in p) (append_assoc (old.pending).unread x y) in (
      x ++ y,
      record {
        given = r.reads.given ∙ ap (after_bytes x) g.1 ∙ after_bytes-append x y b;
        in_hand = now ∙ both ∙ ap (λ (v : Bool). longer (x ++ y) v old.pending) (sym flag);
        still = λ e. was;
        at_end = λ e f. g.4 (no_bytes y (sym g.3 ∙ sym flag ∙ f));
        closed = λ e. let no : true ≡ false = sym was ∙ e in cc;
      },
      flag,
      ap (λ (k : Held). k.fault) g.5 ∙ r.sound,
    )

pub block_follows : (s a b : Option Script) (old h new : Held) (x : List ℕ) → HasRead s a old h x
    → BlockGives a b h new (Ok true) → (y : List ℕ) × HasRead s b old new y
block_follows s a b old h new x r g =
    let k = block_read s a b old h new x true r g in
    (k.0, record { reads = k.1; may = k.2; first = r.first; sound = k.3 })

-- a question that failed
stops_so : (s a b : Option Script) (old h new : Held) (x : List ℕ) (f : InputFault) → HasRead s a old h x → b ≡ a
    → new ≡ record h { fault = Some f } → Reads s b old.pending x new.pending × (new.fault ≡ Some f)
stops_so s a b old h new x f r e n = (
  subst (λ (c : Option Script). Reads s c old.pending x new.pending) (sym e)
      (subst (λ (p : Pending). Reads s a old.pending x p) (sym (ap (λ (k : Held). k.pending) n)) r.reads),
  ap (λ (k : Held). k.fault) n,
)

-- the same where the call asks only while this is left open; p is all that was in hand
pub record HasAsked (wants : Pending → Type 0) (before after : Option Script) (old new : Held) (x : List ℕ) (p : Pending) : Type 0 where
  pub reads : Reads before after old.pending x p
  pub may : p.may_follow ≡ (new.pending).may_follow
  pub first : old.fault ≡ None
  pub sound : new.fault ≡ None
  pub asks : Asks wants old.pending x p

pub none_asked : (wants : Pending → Type 0) (s : Option Script) (h : Held) → h.fault ≡ None → HasAsked wants s s h h [] h.pending
none_asked wants s h f = record { reads = reads_nothing s h.pending; may = refl; first = f; sound = f; asks = asks_nothing wants h.pending }

module _ (wants : Pending → Type 0) where
  wanted : (s a : Option Script) (old h : Held) (x : List ℕ) (p : Pending) → HasAsked wants s a old h x p
      → p.may_follow ≡ true → wants p → wants (longer x true old.pending)
  wanted s a old h x p r m w = subst wants (r.reads.in_hand ∙ ap (λ (v : Bool). longer x v old.pending) m) w

  pub asked_more : (s a b : Option Script) (old h new : Held) (x : List ℕ) (p : Pending) (came : Bool)
      → HasAsked wants s a old h x p → p.may_follow ≡ true → wants p → BlockGives a b h new (Ok came)
      → (y : List ℕ) × HasAsked wants s b old new (x ++ y) (longer y came p) × (new.pending ≡ longer y came h.pending)
  asked_more s a b old h new x p came r m w g =
      let y : List ℕ = g.0 in
      let was : (old.pending).may_follow ≡ true = r.reads.still m in
      let there : wants (longer x true old.pending) = wanted s a old h x p r m w in
      let now : new.pending ≡ longer y came h.pending = ap (λ (k : Held). k.pending) g.5 in
      let both : longer y came p ≡ longer (x ++ y) came old.pending =
      ap (longer y came) r.reads.in_hand
      ∙ ap (λ (z : List ℕ). let q : Pending = record old.pending { unread = z; may_follow = came } in q) (append_assoc (old.pending).unread x y) in (
        y,
        record {
          reads = record {
            given = r.reads.given ∙ ap (after_bytes x) g.1 ∙ after_bytes-append x y b;
            in_hand = both;
            still = λ e. was;
            at_end = λ e f. g.4 (no_bytes y (sym g.3 ∙ f));
            closed = λ e. (let no : true ≡ false = sym was ∙ e in cc);
          };
          may = sym (ap (λ (q : Pending). q.may_follow) now);
          first = r.first;
          sound = ap (λ (k : Held). k.fault) g.5 ∙ r.sound;
          asks = record {
            blocks = inr (record { front = x; last = y; parts = refl; within = g.2; undecided = there });
            end = λ e f. subst (λ (z : List ℕ). wants (longer z true old.pending))
                (sym (ap (λ (z : List ℕ). x ++ z) (no_bytes y (sym g.3 ∙ f)) ∙ append-nil x)) there;
          };
        },
        now,
      )

  -- what is left where a call stopped
  pub stopped_at : (f : InputFault) (s a b : Option Script) (old h new : Held) (x : List ℕ) (p : Pending)
      → IsLasting f → HasAsked wants s a old h x p → b ≡ a → new ≡ record h { fault = Some f }
      → (f ≡ faults.Read → IsAtFault b × wants (longer x true old.pending))
      → Stopped f s b old new x p × StopAsks wants f old x p × (new.pending ≡ h.pending)
  stopped_at f s a b old h new x p l r e n w = (
    record {
      lasting = l;
      reads = subst (λ (c : Option Script). Reads s c old.pending x p) (sym e) r.reads;
      first = λ i j. (w j).0;
      again = λ i j. (let no : None ≡ Some i = sym r.first ∙ j in cc);
      answered = ap (λ (k : Held). k.fault) n;
    },
    record { asks = r.asks; failed = λ i j. (w j).1 },
    ap (λ (k : Held). k.pending) n,
  )

  pub asked_stops : (s a b : Option Script) (old h new : Held) (x : List ℕ) (p : Pending) (f : InputFault)
      → HasAsked wants s a old h x p → p.may_follow ≡ true → wants p → BlockGives a b h new (Err f)
      → Stopped f s b old new x p × StopAsks wants f old x p × (new.pending ≡ h.pending)
  asked_stops s a b old h new x p (faults.EndInString line) r m w g = absurd g
  asked_stops s a b old h new x p (faults.EndInComment line) r m w g = absurd g
  asked_stops s a b old h new x p faults.Read r m w g = stopped_at faults.Read s a b old h new x p tt r g.0 g.2 (λ e. (g.1, wanted s a old h x p r m w))
  asked_stops s a b old h new x p faults.OutOfMemory r m w g = stopped_at faults.OutOfMemory s a b old h new x p tt r g.0 g.1 (λ e. cc)

-- a line is skipped over blocks: the rest of it is the same from what is left and from all that was in hand
pub record HasSkipped (before after : Option Script) (old new : Held) (x : List ℕ) (p : Pending) : Type 0 where
  pub asked : HasAsked wants_line before after old new x p
  pub line : after_line p ≡ after_line new.pending
  pub rest : all_read p ≡ all_read new.pending

pub none_skipped : (s : Option Script) (h : Held) → h.fault ≡ None → HasSkipped s s h h [] h.pending
none_skipped s h f = record { asked = none_asked wants_line s h f; line = refl; rest = refl }

-- all that is in hand is dropped
dropped : (s a : Option Script) (old h k : Held) (x : List ℕ) (p : Pending) → HasSkipped s a old h x p
    → LineGives h k false → HasAsked wants_line s a old k x p × wants_line p × (k.pending ≡ all_read p)
dropped s a old h k x p r g =
    let now : k.pending ≡ all_read h.pending = ap (λ (i : Held). i.pending) g.1 in (
      record {
        reads = r.asked.reads;
        may = r.asked.may ∙ sym (ap (λ (q : Pending). q.may_follow) now);
        first = r.asked.first;
        sound = ap (λ (i : Held). i.fault) g.1 ∙ r.asked.sound;
        asks = r.asked.asks;
      },
      r.line ∙ g.0,
      now ∙ sym r.rest,
    )

pub skipped_more : (s a b : Option Script) (old h k new : Held) (x : List ℕ) (p : Pending) (came : Bool)
    → HasSkipped s a old h x p → LineGives h k false → BlockGives a b k new (Ok came)
    → (y : List ℕ) × (q : Pending) × HasSkipped s b old new y q
skipped_more s a b old h k new x p came r g n =
    let d = dropped s a old h k x p r g in
    let m = asked_more wants_line s a b old k new x p came d.0 (line_open p d.1) d.1 n in
    let y : List ℕ = m.0 in
    let now : new.pending ≡ longer y came (all_read p) = m.2 ∙ ap (longer y came) d.2 in (
      x ++ y,
      longer y came p,
      record {
        asked = m.1;
        line = line_after_block y came p (no_newline p d.1) ∙ ap after_line (sym now);
        rest = rest_dropped y came p ∙ ap all_read (sym now);
      },
    )

-- more may follow after so many more blocks, or nothing
abbrev pub blocks_left : Bool → ℕ → ℕ
blocks_left true n = suc n
blocks_left false n = 0

pub blocks_fall : (v w : Bool) (n m : ℕ) → v ≡ true → (w ≡ true → m < n) → blocks_left w m < blocks_left v n
blocks_fall true true n m e h = let l : m < n = h refl in omega arith
blocks_fall true false n m e h = omega arith
blocks_fall false w n m e h = cc

-- the flag after a question
pub came_is : (a b : Option Script) (h new : Held) (came : Bool) → BlockGives a b h new (Ok came) → (new.pending).may_follow ≡ came
came_is a b h new came g = ap (λ (k : Held). (k.pending).may_follow) g.5

-- the bytes that a question adds
pub block_length : (a b : Option Script) (h new : Held) (came : Bool) → (g : BlockGives a b h new (Ok came))
    → length (text_of new.pending) ≡ length (text_of h.pending) + length g.0
block_length a b h new came g =
    let p : Pending = h.pending in
    ap (λ (k : Held). length (text_of k.pending)) g.5 ∙ ap length (sym (append_assoc p.pushed p.unread g.0)) ∙ length-append (p.pushed ++ p.unread) g.0

-- an input that stopped before
pub stopped_before : (wants : Pending → Type 0) (s : Option Script) (h : Held) (f : InputFault) → h.fault ≡ Some f
    → IsLasting f → Stopped f s s h h [] h.pending × StopAsks wants f h [] h.pending
stopped_before wants s h f e l = (
  record {
    lasting = l;
    reads = reads_nothing s h.pending;
    first = λ i j. (let no : None ≡ Some f = sym i ∙ e in cc);
    again = λ i j. ((let k : Some f ≡ Some i = sym e ∙ j in cc), refl, refl);
    answered = e;
  },
  record { asks = asks_nothing wants h.pending; failed = λ i j. (let no : None ≡ Some f = sym i ∙ e in cc) },
)

-- a look at the first token, and what follows it
module _ (q c : Delimiters) (s a : Option Script) (old h : Held) (x : List ℕ) (found : Scan)
    (r : HasAsked (wants_token q c) s a old h x h.pending) (plain : (h.pending).definition ≡ None)
    (look : found ≡ scan q c (h.pending).may_follow (text_of h.pending)) where
  pub token_open : found ≡ NeedsMore → (h.pending).may_follow ≡ true
  token_open e = scan_open q c (h.pending).may_follow (text_of h.pending) (sym look ∙ e)

  token_wanted : found ≡ NeedsMore → wants_token q c h.pending
  token_wanted e = ap (λ (o : Option Def). front_from o q c h.pending) plain ∙ ap (front_by h.pending) (sym look ∙ e)

  pub token_found : (new : Held) (t : Token) (n : ℕ) → found ≡ Found t n → new ≡ record h { pending = consumed n h.pending } → NextGives q c s a old new (Ok t)
  token_found new t n e g = (
    x,
    h.pending,
    r.reads,
    ap (λ (o : Option Def). front_from o q c h.pending) plain ∙ ap (front_by h.pending) (sym look ∙ e) ∙ ap (λ (i : Held). Taken t i.pending) (sym g),
    r.first,
    ap (λ (i : Held). i.fault) g ∙ r.sound,
    r.asks,
  )

  pub token_broken : (new : Held) (what : Unended) → found ≡ Broken what
      → new ≡ record h { pending = all_read h.pending } → NextGives q c s a old new (Err (fault_of what (line_of h.pending)))
  token_broken new InString e g = (
    x,
    h.pending,
    r.reads,
    (
      ap (λ (o : Option Def). front_from o q c h.pending) plain ∙ ap (front_by h.pending) (sym look ∙ e),
      ap (λ (i : Held). i.pending) g,
    ),
    r.first,
    ap (λ (i : Held). i.fault) g ∙ r.sound,
    r.asks,
  )
  token_broken new InComment e g = (
    x,
    h.pending,
    r.reads,
    (
      ap (λ (o : Option Def). front_from o q c h.pending) plain ∙ ap (front_by h.pending) (sym look ∙ e),
      ap (λ (i : Held). i.pending) g,
    ),
    r.first,
    ap (λ (i : Held). i.fault) g ∙ r.sound,
    r.asks,
  )

  pub token_more : (b : Option Script) (new : Held) (came : Bool) → found ≡ NeedsMore → BlockGives a b h new (Ok came)
      → (z : List ℕ) × HasAsked (wants_token q c) s b old new z new.pending × ((new.pending).definition ≡ None)
  token_more b new came e g =
      let m = asked_more (wants_token q c) s a b old h new x h.pending came r (token_open e) (token_wanted e) g in (
        x ++ m.0,
        subst (HasAsked (wants_token q c) s b old new (x ++ m.0)) (sym m.2) m.1,
        ap (λ (p : Pending). p.definition) m.2 ∙ plain,
      )

  stopped_there : (b : Option Script) (new : Held) (f : InputFault) → found ≡ NeedsMore → BlockGives a b h new (Err f)
      → Stopped f s b old new x new.pending × StopAsks (wants_token q c) f old x new.pending
  stopped_there b new f e g =
      let m = asked_stops (wants_token q c) s a b old h new x h.pending f r (token_open e) (token_wanted e) g in
      subst (λ (p : Pending). Stopped f s b old new x p × StopAsks (wants_token q c) f old x p) (sym m.2) (m.0, m.1)

  pub token_stops : (b : Option Script) (new : Held) (f : InputFault) → found ≡ NeedsMore → BlockGives a b h new (Err f) → NextGives q c s b old new (Err f)
  token_stops b new (faults.EndInString line) e g = absurd g
  token_stops b new (faults.EndInComment line) e g = absurd g
  token_stops b new faults.Read e g = let m = stopped_there b new faults.Read e g in (x, new.pending, m.0, m.1, refl)
  token_stops b new faults.OutOfMemory e g = let m = stopped_there b new faults.OutOfMemory e g in (x, new.pending, m.0, m.1, refl)

-- the fault of an earlier call
pub next_again : (q c : Delimiters) (s : Option Script) (h : Held) (f : InputFault) → h.fault ≡ Some f → IsLasting f → NextGives q c s s h h (Err f)
next_again q c s h (faults.EndInString line) e l = absurd l
next_again q c s h (faults.EndInComment line) e l = absurd l
next_again q c s h faults.Read e l = let k = stopped_before (wants_token q c) s h faults.Read e l in ([], h.pending, k.0, k.1, refl)
next_again q c s h faults.OutOfMemory e l = let k = stopped_before (wants_token q c) s h faults.OutOfMemory e l in ([], h.pending, k.0, k.1, refl)
