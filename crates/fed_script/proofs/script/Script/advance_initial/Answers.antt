-- One action less is left.
use Rattle.std.proofs.Common.{refl, subst, drop}
use Rattle.std.proofs.lemmas.List.{drop-drop}
use Rattle.fed_script.specs.Script.{IsInitial}
use Rattle.fed_script.proofs.Passing.{is_initial_after}
use Rattle.fed_script.proofs.script.Script.advance_initial.Goals as goal

pub invariant_of-self : goal.invariant_of-self
invariant_of-self c =
    let s = c.self.inside in
    record { initial = subst IsInitial (drop-drop 1 s.initial_place s.initial) (is_initial_after (drop s.initial_place s.initial) c.self.invariant.initial); times = c.self.invariant.times }

pub returns-then-self-len : goal.returns-then-self-len
returns-then-self-len c = rw (← c.self.view_is) (rw (drop-drop 1 c.self.inside.initial_place c.self.inside.initial) refl)
