use Rattle.machine_laws.proofs.Asked.{requests_tell, grants_as_asked}
use Rattle.machine_laws.proofs.Grants.{grants_on_grid, logs_rise, logs_tell}
use Rattle.machine_laws.proofs.laws.grants_on_grid.Goals as goal

pub returns : goal.returns
returns c = record { grid = grants_on_grid; rise = logs_rise; tell = logs_tell; requests = requests_tell; asked = grants_as_asked }
