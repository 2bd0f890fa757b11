use Rattle.std.proofs.Common.{◌∙◌, ap}
use Rattle.helics_time.specs.Steps.{steps_of}
use Rattle.helics_time.proofs.SpelledSteps.{same_time}
use Rattle.helics_time.proofs.parse.parse_time.Goals as goal

pub returns : goal.returns
returns c = c.read_time.ensures ∙ (ap steps_of c.as_bytes.ensures.value ∙ same_time c.args.text.now)
