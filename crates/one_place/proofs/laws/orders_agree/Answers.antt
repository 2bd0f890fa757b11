use Rattle.one_place.proofs.Endings.{orders_agree}
use Rattle.one_place.proofs.laws.orders_agree.Goals as goal

pub returns : goal.returns
returns c = orders_agree
