-- TokenBlocks: blocks that are asked for while the first token is open.
use Rattle.std.proofs.Common.{◌≡◌, inl, inr, ℕ, Bool, true, false, List, [], ◌++◌, Option, None, refl, sym, ap}
use Rattle.std.proofs.Common.{◌∙◌, subst, append_assoc}
use Rattle.std.specs.Prelude.{Ok}
use Rattle.std.proofs.lemmas.List.{append-nil}
use Rattle.m4_state.specs.Device.{Script, after_bytes}
use Rattle.m4_state.proofs.CallerLaws.{after_bytes-append}
use Rattle.m4_state.specs.declared.delimiters.Delimiters.{Delimiters}
use Rattle.m4_state.specs.declared.definition.Def.{Def}
use Rattle.m4_input.specs.declared.front.Scan.TheVariants.{NeedsMore}
use Rattle.m4_input.specs.declared.open_token.OpenToken.{OpenToken}
use Rattle.m4_input.specs.Pending.{Pending, text_of}
use Rattle.m4_input.specs.Token.{front_by, front_from, scan}
use Rattle.m4_input.specs.Input.{Held, longer, wants_token}
use Rattle.m4_input.specs.OpenToken.{IsOpenAt}
use Rattle.m4_input.specs.Blocks.{BlockGives, IsOpenAfter, TokenGives}
use Rattle.m4_input.proofs.Blocks.{HasRead, none_read, block_follows, no_bytes}
use Rattle.m4_input.proofs.OpenTokens.{longer_open}

-- x came, and leaves the first token open
pub record HasCome (q c : Delimiters) (before after : Option Script) (old new : Held) (x : List ℕ) : Type 0 where
  pub read : HasRead before after old new x
  pub undecided : IsOpenAfter q c old.pending x

pub none_came : (q c : Delimiters) (s : Option Script) (h : Held) → (h.pending).may_follow ≡ true → h.fault ≡ None → HasCome q c s s h h []
none_came q c s h e f = record { read = none_read s h e f; undecided = inl refl }

-- a question more
pub come_more : (q c : Delimiters) (s a b : Option Script) (old h new : Held) (x : List ℕ) (came : Bool)
    → HasCome q c s a old h x → BlockGives a b h new (Ok came) → TokenGives q c s b old new (Ok tt)
come_more q c s a b old h new x came r g =
    let y : List ℕ = g.0 in
    let was : (old.pending).may_follow ≡ true = r.read.reads.still r.read.may in
    let now : new.pending ≡ longer y came h.pending = ap (λ (k : Held). k.pending) g.5 in
    let flag : (new.pending).may_follow ≡ came = ap (λ (p : Pending). p.may_follow) now in
    let both : longer y came h.pending ≡ longer (x ++ y) came old.pending =
    ap (longer y came) r.read.reads.in_hand
    ∙ ap (λ (z : List ℕ). let p : Pending = record old.pending { unread = z; may_follow = came } in p) (append_assoc (old.pending).unread x y) in (
      x ++ y,
      record {
        given = r.read.reads.given ∙ ap (after_bytes x) g.1 ∙ after_bytes-append x y b;
        in_hand = now ∙ both ∙ ap (λ (v : Bool). longer (x ++ y) v old.pending) (sym flag);
        still = λ e. was;
        at_end = λ e f. g.4 (no_bytes y (sym g.3 ∙ sym flag ∙ f));
        closed = λ e. let no : true ≡ false = sym was ∙ e in cc;
      },
      record { front = x; last = y; parts = refl; within = g.2; undecided = r.undecided },
      (λ e. subst (IsOpenAfter q c old.pending) (sym (ap (λ (z : List ℕ). x ++ z) (no_bytes y (sym g.3 ∙ sym flag ∙ e)) ∙ append-nil x)) r.undecided),
      ap (λ (k : Held). k.fault) g.5 ∙ r.read.sound,
    )

-- the bytes in hand leave the first token open
wants_so : (q c : Delimiters) (p : Pending) → p.definition ≡ None → p.may_follow ≡ true → scan q c true (text_of p) ≡ NeedsMore → wants_token q c p
wants_so q c p n m e =
    ap (λ (o : Option Def). front_from o q c p) n
    ∙ ap (λ (v : Bool). front_by p (scan q c v (text_of p))) m
    ∙ ap (front_by p) e

-- a block came
module _ (q c : Delimiters) (s a b : Option Script) (old h new : Held) (x : List ℕ) (came : Bool)
    (r : HasCome q c s a old h x) (none : (h.pending).definition ≡ None) (g : BlockGives a b h new (Ok came)) where
  in_hand : new.pending ≡ longer g.0 came h.pending
  in_hand = ap (λ (k : Held). k.pending) g.5

  pub still_none : (new.pending).definition ≡ None
  still_none = ap (λ (p : Pending). p.definition) in_hand ∙ none

  -- the token that was open may still be
  pub open_then : (o : OpenToken) → IsOpenAt q c o (text_of h.pending) → IsOpenAt q c o (text_of new.pending)
  open_then o i =
      subst (IsOpenAt q c o) (sym (ap text_of in_hand ∙ sym (append_assoc (h.pending).pushed (h.pending).unread g.0)))
      (longer_open q c o (text_of h.pending) g.0 i)

  pub come_open : came ≡ true → scan q c true (text_of new.pending) ≡ NeedsMore → (y : List ℕ) × HasCome q c s b old new y
  come_open e i =
      let k = block_follows s a b old h new x r.read (subst (λ (v : Bool). BlockGives a b h new (Ok v)) e g) in
      let p : new.pending ≡ longer k.0 true old.pending = (k.1).reads.in_hand ∙ ap (λ (v : Bool). longer k.0 v old.pending) (k.1).may in (
        k.0,
        record { read = k.1; undecided = inr (subst (wants_token q c) p (wants_so q c new.pending still_none (k.1).may i)) },
      )
