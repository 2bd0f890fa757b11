use Rattle.machine_laws.proofs.Fates.{kept_until, handed_when, handed_once, handed_in_order, fates}
use Rattle.machine_laws.proofs.laws.handed_at_first_reaching.Goals as goal

pub returns : goal.returns
returns c = record { kept = kept_until; reached = handed_when; once = handed_once; ordered = handed_in_order; fates = fates }
