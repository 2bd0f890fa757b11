use Rattle.std.proofs.Common.{rules}
use Rattle.json_reading.proofs.Parsing.{json_read, json_none}
use Rattle.json_reading.proofs.document.parse.Goals as goal

pub returns-in-Ok : goal.returns-in-Ok
returns-in-Ok c = json_read _ _ c.in-Ok.ensures.ok.0 c.in-Ok.ensures.ok.1

pub returns-in-Err-2 : goal.returns-in-Err-2
returns-in-Err-2 c = json_none _ (c.in-Err-2.ensures.err (search rules))
