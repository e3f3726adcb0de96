use Rattle.std.proofs.Common.{◌≡◌, ◌++◌, drop}
use Rattle.std.specs.Prelude.{flat_map}
use Rattle.m4_builtins.specs.Naming.{text_given, left_out, tops_of}
use Rattle.m4_builtins.specs.Warned.{with_messages}
use Rattle.m4_builtins.proofs.naming.push_texts.Given as goal

-- the arguments that are left lead to the texts and the warnings that all lead to
abbrev pub invariant-loop-arg : goal.invariant-loop-arg
invariant-loop-arg l = record {
  texts : l.texts ++ flat_map (text_given l.state.quotes) (tops_of l.state (drop l.arg-index l.list))
      ≡ l.fn.texts ++ flat_map (text_given l.state.quotes) (tops_of l.state l.list);
  warned : with_messages l.effect (flat_map (left_out l.place) (tops_of l.state (drop l.arg-index l.list)))
      ≡ with_messages l.fn.effect (flat_map (left_out l.place) (tops_of l.state l.list));
}
