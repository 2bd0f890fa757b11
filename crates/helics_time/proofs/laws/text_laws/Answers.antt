use Rattle.helics_time.proofs.ReadBack.{reads_back}
use Rattle.helics_time.proofs.laws.text_laws.Goals as goal

pub returns : goal.returns
returns c = record { reads_back = reads_back }
