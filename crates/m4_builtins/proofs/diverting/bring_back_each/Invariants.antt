use Rattle.std.proofs.Common.{◌≡◌, ◌++◌, drop}
use Rattle.std.specs.Prelude.{filter_map, flat_map}
use Rattle.m4_state.specs.declared.builtin.Builtin.TheVariants.{Undivert}
use Rattle.m4_builtins.specs.Diverting.{brought_back, issued_by_all, readings_of}
use Rattle.m4_builtins.specs.Numeric.{number_of_reading, reading_warning}
use Rattle.m4_builtins.specs.Warned.{with_messages}
use Rattle.m4_builtins.proofs.diverting.bring_back_each.Given as goal

-- the arguments that are left lead to the state, the output and the warnings that all lead to
abbrev pub invariant-loop-arg : goal.invariant-loop-arg
invariant-loop-arg l = record {
  state : brought_back (filter_map number_of_reading (readings_of (drop l.arg-index l.list))) l.state
      ≡ brought_back (filter_map number_of_reading (readings_of l.list)) l.fn.state;
  output : l.output.items ++ issued_by_all (filter_map number_of_reading (readings_of (drop l.arg-index l.list))) l.state
      ≡ l.fn.output.items ++ issued_by_all (filter_map number_of_reading (readings_of l.list)) l.fn.state;
  warned : with_messages l.effect (flat_map (reading_warning l.place Undivert) (readings_of (drop l.arg-index l.list)))
      ≡ with_messages l.fn.effect (flat_map (reading_warning l.place Undivert) (readings_of l.list));
}
