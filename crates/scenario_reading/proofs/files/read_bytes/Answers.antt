use Rattle.std.proofs.Common.{refl}
use Rattle.scenario_reading.specs.Order.{bytes}
use Rattle.scenario_reading.proofs.files.read_bytes.Goals as goal

pub returns-in-Ok-clause-follows : goal.returns-in-Ok-clause-follows
returns-in-Ok-clause-follows g c = (bytes c.in-Ok.bytes.items, ((c.in-Ok.ensures.bytes, c.in-Ok.ensures.small), refl))
