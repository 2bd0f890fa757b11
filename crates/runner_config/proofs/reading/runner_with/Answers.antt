use Rattle.runner_config.proofs.Valid.{valid}
use Rattle.runner_config.proofs.Ascending.{federates_in_order}
use Rattle.runner_config.proofs.reading.runner_with.Goals as goal

pub returns-clause-valid : goal.returns-clause-valid
returns-clause-valid c =
    rw (c.in_ok-rows.ensures, c.in_ok-found.ensures) (valid c.args.nodes.now.tree c.args.entries c.requires.cores c.requires.fits)

pub returns-clause-places : goal.returns-clause-places
returns-clause-places c = rw c.in_ok-found.ensures (federates_in_order c.args.nodes.now.tree c.args.entries c.requires.places)
