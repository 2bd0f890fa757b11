use Rattle.std.proofs.Common.{◌≡◌, ap, [], Ok}
use Rattle.std.specs.Prelude.{unwrap_or}
use Rattle.json_reading.specs.Keys.{pairs_of}
use Rattle.json_reading.specs.Reading.{◌>>=◌}
use Rattle.fed_config.specs.Federate.{list_at}
use Rattle.fed_config.proofs.Bounds.{list_within}
use Rattle.fed_config.proofs.config.list.Goals as goal

pub returns-clause-few : goal.returns-clause-few
returns-clause-few g c =
    let read = g.R.Reader.reads c.args.reader in
    let members = pairs_of c.args.object.now.entries in
    let is : list_at c.args.key.now read members ≡ Ok (unwrap_or c.in_ok-found.found []) = ap (λ r. r >>= λ found. Ok (unwrap_or found [])) c.in_ok-found.ensures.told in
    rw (c.unwrap_or.ensures, c.new.ensures) (list_within c.args.key.now read members (unwrap_or c.in_ok-found.found []) is)
