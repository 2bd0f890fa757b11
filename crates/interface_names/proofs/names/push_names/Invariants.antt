use Rattle.std.proofs.Common.{◌≡◌, ◌++◌, take}
use Rattle.interface_names.specs.Federate.{names_by}
use Rattle.interface_names.proofs.names.push_names.Given as goal

abbrev pub invariant-loop-interface : goal.invariant-loop-interface
invariant-loop-interface g l =
    l.names.items ≡ l.initial.names.items ++ names_by g.T.Named.name_of l.kind l.federate (take l.interface-index l.interfaces)
