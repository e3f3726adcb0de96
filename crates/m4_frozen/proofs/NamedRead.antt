-- A name's text that is read as its bytes come.
use Rattle.std.proofs.Common.{◌≡◌, ℕ, suc, ◌-◌, ◌≤◌, true, List, [], ◌∷◌, ◌++◌, length, Option, Some, None}
use Rattle.std.proofs.Common.{Ok, Err, refl, sym, ap, subst, ◌∙◌, append_assoc, inl, inr}
use Rattle.std.proofs.lemmas.List.{append-nil}
use Rattle.m4_state.specs.State.{State, pushed}
use Rattle.m4_state.specs.declared.definition.Def.TheVariants as defs
use Rattle.m4_frozen.specs.Ascii.{newline, letter_T}
use Rattle.m4_frozen.specs.declared.begun.Begun.{Begun}
use Rattle.m4_frozen.specs.declared.begun.Begun.TheVariants as begun
use Rattle.m4_frozen.specs.declared.begun.NamedText.{NamedText}
use Rattle.m4_frozen.specs.declared.loading.Loading.{Loading}
use Rattle.m4_frozen.specs.Denote.{denote}
use Rattle.m4_frozen.specs.Directive.{Text}
use Rattle.m4_frozen.specs.Layout.{Layout, Done, last_string, pair_head, pair_layout}
use Rattle.m4_frozen.specs.ReaderSteps.{Step, expect_byte, layout_at, directives_at, file_at}
use Rattle.m4_frozen.specs.Underway.{IsAtDirective, text_left, HasRead, HasReadNamed, HasReadText, ReadAs, IsRead}
use Rattle.m4_frozen.specs.Underway.{short}
use Rattle.m4_frozen.proofs.ReadBack.{pair_head-spelled, comma_on}
use Rattle.m4_frozen.proofs.Parts.{LayoutSays, layout_says}
use Rattle.m4_frozen.proofs.TextRead.{HasHead, text_begins, within_opened, within_more, within_short}
use Rattle.m4_frozen.proofs.TextRead.{has_read_closed, text_ends}

-- the first string of a pair and the length of the second alone
abbrev pub pair_line : Layout (List ℕ × ℕ)
pair_line = pair_head (λ name n. Done (name, n))

-- what is read is read so whatever follows it
abbrev IsHead : List ℕ → List ℕ → List ℕ × ℕ → Type 0
IsHead bytes rest p = HasHead (pair_layout Text) (Text p.0) p.1 bytes rest

head_says : (bytes name : List ℕ) (n : ℕ) (rest : List ℕ) (r : Step (List ℕ × ℕ))
    → LayoutSays pair_line bytes r → r ≡ Ok ((name, n), rest) → IsHead bytes rest (name, n)
head_says bytes name n rest r says e =
    let h = rw e at says in
    let h1 = h.1 in
    let h2 = h1.6 in
    let h3 = h2.6 in
    let h4 = h3.6 in
    let h5 = h4.6 in
    subst (IsHead bytes rest) h5.6.0 (record {
      one = h.0;
      spelled = h.2;
      gives = λ more.
          let parts : h.0 ++ more ≡ h1.1 ++ comma_on h2.3.0 h3.1 (h5.0 ++ more) =
          rw (h1.5, h2.5, h2.3.2, h3.5, h4.5, h4.3, h5.5, h5.3.0, h5.6.1) (simp append_assoc) in
          ap (layout_at (pair_layout Text)) parts
          ∙ pair_head-spelled (λ name. last_string (Text name)) h1.0 h5.0 h3.0 h1.1 h2.3.0 h3.1 more
          h5.3.1 h1.3.0 h1.3.1 h2.3.1 h3.3.0 h3.3.1;
    })

-- a definition is read as its text
named_begins : (line text name : List ℕ) (n : ℕ) → layout_at pair_line line ≡ Ok ((name, n), text)
    → (count : ℕ) (more : List ℕ) → directives_at (suc count) (letter_T ∷ (line ++ more))
    ≡ text_left count (Text name) [] n (text ++ more)
named_begins line text name n e = text_begins letter_T (pair_layout Text) (Text name) n line text refl
    (head_says line name n text (layout_at pair_line line) (layout_says pair_line line) e)

-- a fact about a text is true of an equal one
as_named : (read : List ℕ) (l new : Loading) (t : NamedText) → new.begun ≡ Some (begun.Name t)
    → HasReadNamed read new t → IsRead read new
as_named read l new t is h = subst (λ (o : Option Begun). ReadAs o read new) (sym is) h

-- a name's text was begun
pub named_opened : (read line text : List ℕ) (t : NamedText) (n : ℕ) (l new : Loading)
    → IsAtDirective l.inside (letter_T ∷ line) → l.versioned ≡ true
    → layout_at pair_line line ≡ Ok ((t.name, n), text) → length text ≤ n
    → t.text.items ≡ text → t.missing ≡ n - length text
    → new ≡ record l { begun = Some (begun.Name t) }
    → HasRead read l → IsRead (read ++ letter_T ∷ line) new
named_opened read line text t n l new (inl none) v e le items missing is h = absurd cc
named_opened read line text t n l new (inr at) v e le items missing is h =
    as_named (read ++ letter_T ∷ line) l new t (ap (λ (x : Loading). x.begun) is) (record {
      directives = h.directives;
      state = ap (λ (x : Loading). x.state) is ∙ h.state;
      issued = ap (λ (x : Loading). x.issued.items) is ∙ h.issued;
      within = rw (items, missing) (within_opened read line [] text letter_T (Text t.name) n l new v at.0
          (ap (λ (x : Loading). x.versioned) is) (ap (λ (x : Loading). x.inside) is) le h
          (named_begins line text t.name n e));
    })

-- more of it was read
pub named_more : (read bytes : List ℕ) (l new : Loading) (t u : NamedText) → length bytes ≤ t.missing
    → u.name ≡ t.name → u.text.items ≡ t.text.items ++ bytes → u.missing ≡ t.missing - length bytes
    → new ≡ record l { begun = Some (begun.Name u) }
    → HasReadNamed read l t → IsRead (read ++ bytes) new × (file_at (read ++ bytes) ≡ Err short)
named_more read bytes l new t u le name items missing is h =
    let w = within_more read bytes l new h.directives (Text t.name) t.text.items t.missing h.within le
    (ap (λ (x : Loading). x.versioned) is) (ap (λ (x : Loading). x.inside) is) in (
      as_named (read ++ bytes) l new u (ap (λ (x : Loading). x.begun) is) (record {
        directives = h.directives;
        state = ap (λ (x : Loading). x.state) is ∙ h.state;
        issued = ap (λ (x : Loading). x.issued.items) is ∙ h.issued;
        within = rw (name, items, missing) w;
      }),
      within_short (read ++ bytes) [] new new h.directives (Text t.name) (t.text.items ++ bytes) (t.missing - length bytes) w,
    )

-- it was read whole, and is the name's definition
pub named_text : (bytes c after rest whole : List ℕ) (l new : Loading) (t : NamedText)
    → bytes ≡ c ++ after → t.missing ≡ length c → expect_byte newline after ≡ Ok rest → l.begun ≡ None
    → whole ≡ t.text.items ++ c
    → new ≡ record l { state = pushed l.state t.name (defs.Text whole) }
    → HasReadText (λ read. HasReadNamed read l t) bytes new rest
named_text bytes c after rest whole l new t parts all e none items is =
    text_ends (λ read. HasReadNamed read l t) bytes c after rest new parts e
    (ap (λ (x : Loading). x.begun) is ∙ none)
    (λ read h. has_read_closed read c l new h.directives (Text t.name) t.text.items t.missing h.within all
    (ap (λ (x : Loading). x.versioned) is) (ap (λ (x : Loading). x.inside) is)
    (ap (λ (x : Loading). x.state) is ∙ ap (λ (xs : List ℕ). pushed l.state t.name (defs.Text xs)) items
    ∙ ap (λ (s : State). pushed s t.name (defs.Text (t.text.items ++ c))) h.state)
    (ap (λ (x : Loading). x.issued.items) is ∙ h.issued ∙ sym (append-nil (denote h.directives).issued)))

-- a name's text that is read on: the same was read
pub named_since : (read : List ℕ) (old : Loading) (o now : Option Begun) (t : NamedText) → o ≡ old.begun
    → o ≡ Some (begun.Name t) → IsRead read old → HasReadNamed read (record old { begun = now }) t
named_since read old o now t was at h =
    let k : HasReadNamed read old t = subst (λ (x : Option Begun). ReadAs x read old) (sym was ∙ at) h in record {
      directives = k.directives;
      state = k.state;
      issued = k.issued;
      within = record { place = k.within.place; goes_on = k.within.goes_on };
    }
