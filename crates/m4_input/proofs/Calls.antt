-- Calls: a call that consumes a definition asks no reader.
use Rattle.std.proofs.Common.{◌≡◌, inl, true, false, ℕ, List, [], Option, Some, None, Ok, refl, sym, ap, ◌∙◌}
use Rattle.std.proofs.lemmas.List.{append-nil}
use Rattle.m4_state.specs.Device.{Script, after_bytes}
use Rattle.m4_state.specs.declared.definition.Def.{Def}
use Rattle.m4_state.specs.declared.delimiters.Delimiters.{Delimiters}
use Rattle.m4_input.specs.declared.token.Token.TheVariants.{Definition}
use Rattle.m4_input.specs.Pending.{Pending}
use Rattle.m4_input.specs.Token.{Taken, front_from}
use Rattle.m4_input.specs.Input.{Held, Reads, Asks, wants_token, NextGives}

-- a call that asks no reader
given_nothing : (s : Option Script) → s ≡ after_bytes [] s
given_nothing None = refl
given_nothing (Some s) = refl

pub reads_nothing : (s : Option Script) (p : Pending) → Reads s s p [] p
reads_nothing s p = record {
  given = given_nothing s;
  in_hand = ap (λ (x : List ℕ). record p { unread = x }) (sym (append-nil p.unread));
  still = λ e. e;
  at_end = λ e f. cc;
  closed = λ e. (refl, refl);
}

pub asks_nothing : (wants : Pending → Type 0) (p : Pending) → Asks wants p [] p
asks_nothing wants p = record { blocks = inl refl; end = λ e f. (let no : true ≡ false = sym e ∙ f in cc) }

-- the definition in front is taken
pub definition_taken : (q c : Delimiters) (s : Option Script) (old new : Held) (d : Def)
    → (old.pending).definition ≡ Some d → new ≡ record old { pending = record old.pending { definition = None } }
    → old.fault ≡ None → NextGives q c s s old new (Ok (Definition d))
definition_taken q c s old new d e f g = (
  [],
  old.pending,
  reads_nothing s old.pending,
  ap (λ o. front_from o q c old.pending) e
      ∙ ap (λ (h : Held). Taken (Definition d) h.pending) (sym f),
  g,
  ap (λ (h : Held). h.fault) f
      ∙ g,
  asks_nothing (wants_token q c) old.pending,
)
