use Rattle.std.proofs.Common.{Option, Some, None, rules}
use Rattle.std.specs.Prelude.{IfSome, MatchOption}
use Rattle.std.proofs.lemmas.Option.{IfSome_then}
use Rattle.m4_state.proofs.Appends.{front_of_piece}
use Rattle.m4_state.proofs.text_buffer.TextBuffer.short_piece.Goals as goal

found : {X : Type 0} (o : Option X) (L : Type 0) (P : X → Type 0) → MatchOption o L P → IfSome o P
found None L P m = tt
found (Some x) L P m = m

pub returns-clause-front : goal.returns-clause-front
returns-clause-front c =
    IfSome_then c.first_chunk.result (found c.first_chunk.result _ _ c.first_chunk.ensures.cases) (λ piece p.
    front_of_piece c.args.self.now c.deref.result.now piece.now c.self.inside.len (search rules) (search rules)
    (search rules) p.same)
