use Rattle.std.proofs.Common.{◌≡◌, ◌+◌, ◌++◌, [], ◌∷◌, ℕ, List, drop, map, sym, ap, subst, ◌∙◌, arith, append_assoc}
use Rattle.std.proofs.lemmas.Grind.{common_steps}
use Rattle.std.proofs.lemmas.List.{drop_more}
use Rattle.m4_state.specs.declared.delimiters.Delimiters.{Delimiters}
use Rattle.m4_builtins.specs.declared.args.Arg.{Arg}
use Rattle.m4_builtins.specs.QuotesView.{pair_of}
use Rattle.m4_builtins.specs.Args.{text_of_arg, texts_of, quoted, joined_by}
use Rattle.m4_builtins.proofs.Joins.{joined_rest, quoted_first, quoted_later}
use Rattle.m4_builtins.proofs.substitute.push_list.Goals.{then-not-first+in_ok-push, else-not-first}
use Rattle.m4_builtins.proofs.substitute.push_list.Goals as goal

pub loop-arg-preserved : goal.loop-arg-preserved
loop-arg-preserved c =
    let q : Delimiters = pair_of c.args.quotes in
    let separator : List ℕ = c.args.separator ∷ [] in
    let args : List Arg = c.args.args.now in
    let i : ℕ = c.loop-arg.arg-index in
    let arg : Arg = c.arg-item.result in
    let text : List ℕ = text_of_arg arg in
    let rest : List (List ℕ) = texts_of (drop (i + 1) args) in
    let out : List ℕ = c.loop-arg.out in
    let mid : List ℕ = c.if-not-first.out in
    let new : List ℕ = c.append-in-loop-arg.new.self in
    let all : List ℕ = c.args.out.now ++ joined_by separator (map (quoted q) (texts_of args)) in
    let line : drop i args ≡ arg ∷ drop (i + 1) args = drop_more args i arg (omega arith) ∙ ap (λ (a : Arg). a ∷ drop (i + 1) args) (sym c.arg-item.is) in
    let before : out ++ joined_rest c.loop-arg.first separator (quoted q text ∷ map (quoted q) rest) ≡ all =
    subst (λ (z : List Arg). out ++ joined_rest c.loop-arg.first separator (map (quoted q) (texts_of z)) ≡ all) line c.loop-arg.invariant in
    let written : new ≡ mid ++ quoted q text =
    c.in_ok-append-2.ensures.ok
    ∙ ap (λ (x : List ℕ). x ++ q.end) (c.in_ok-push_argument.ensures ∙ ap (λ (x : List ℕ). x ++ text) c.in_ok-append.ensures.ok)
    ∙ ap (λ (x : List ℕ). x ++ q.end) (append_assoc mid q.begin text) ∙ append_assoc mid (q.begin ++ text) q.end in
    elim c.if-not-first.branch [
      | then-not-first+in_ok-push w ↦
          let separated : mid ≡ out ++ separator = cc (w.out-is, w.in_ok-push.ensures.ok) in
          quoted_later q separator out mid new text all rest c.loop-arg.first w.if-not-first.true separated written before
      | else-not-first w ↦
          let same : mid ≡ out = cc (w.out-is) in
          quoted_first q separator out mid new text all rest c.loop-arg.first w.if-not-first.false same written before
    ]

pub returns : goal.returns
returns c = grind (arith, common_steps)
