-- What the machine's definitions see of a step.
use Rattle.machine_laws.specs.Machine.{Step}
use Rattle.machine_laws.specs.Machine.Step.{begin, enter, make, request, grant, finish, fail, die, halt}
use Rattle.machine_laws.specs.Plan.Call.{publish, send}
use Rattle.one_place.specs.declared.step.MachineStep.{MachineStep}
use Rattle.one_place.specs.declared.step.MachineStep.TheVariants.{Begin, Enter, Publish, Send, Request, Grant, Finish, Fail, Die, Halt}

abbrev pub step_of : MachineStep → Step
step_of Begin = begin
step_of (Enter f) = enter f
step_of (Publish f publication value) = make f (publish publication value)
step_of (Send f endpoint destination payload) = make f (send endpoint destination payload)
step_of (Request f time mode) = request f time mode
step_of (Grant f) = grant f
step_of (Finish f) = finish f
step_of (Fail f text) = fail f text
step_of (Die f) = die f
step_of (Halt core f) = halt core f
