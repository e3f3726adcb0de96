use Rattle.std.proofs.Common.{◌≡◌, ◌++◌, ℕ, List, ap, ◌∙◌, rules}
use Rattle.std.specs.Ordering.{is_lt}
use Rattle.std.specs.Cmp.Lexicographic.{nat_list_cmp_total}
use Rattle.std.proofs.lemmas.List.Sorted.{ranks_by, answers_always}
use Rattle.m4_state.specs.Table.{byte_order}
use Rattle.m4_builtins.specs.declared.effect.Effect.{Effect}
use Rattle.m4_builtins.specs.Acted.{only_warning}
use Rattle.m4_builtins.specs.Warned.{with_messages}
use Rattle.m4_builtins.specs.Printing.{warnings_on, lines_of, in_byte_order}
use Rattle.m4_builtins.proofs.Cases.{dumped}
use Rattle.m4_builtins.proofs.SortedTexts.{sorted_in_byte_order}
use Rattle.m4_builtins.proofs.printing.dumpdef.Goals as goal

-- the warnings were made of the names as they were given, and the lines of the sorted ones
pub returns : goal.returns
returns c =
    let p = c.args.place.now in
    let s = c.args.state.now in
    let names : List (List ℕ) = c.in_ok-names.names.items in
    let ordered : c.sort_unstable_by.new.self.items ≡ in_byte_order names =
    sorted_in_byte_order names c.sort_unstable_by.new.self.items c.sort_unstable_by.ensures.permutation
    (c.sort_unstable_by.ensures.sorted (λ x y. is_lt (byte_order x y)) (ranks_by nat_list_cmp_total (λ x. x))
    (answers_always _ _ _ (λ f a r g h. search rules))) in
    let warned : c.push_warnings.new.effect ≡ with_messages c.args.effect.now (warnings_on names p s) = search rules in
    let lines : c.take.result.items ≡ lines_of c.sort_unstable_by.new.self.items s = search rules in
    c.in_ok-add_messages.ensures
    ∙ (λ i. with_messages ((warned ∙ ap (λ (e : Effect). with_messages e (warnings_on names p s)) c.requires) i) (lines i))
    ∙ ap (λ (ns : List (List ℕ)). only_warning (warnings_on names p s ++ lines_of ns s)) ordered
    ∙ ap (λ (ns : List (List ℕ)). only_warning (dumped ns p s)) c.in_ok-names.ensures
