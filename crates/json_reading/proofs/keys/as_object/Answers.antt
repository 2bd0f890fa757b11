use Rattle.std.proofs.Common.{ap, ◌∙◌, option_map}
use Rattle.json_reading.specs.Keys.{members_in}
use Rattle.json_reading.proofs.ObjectMembers.{object_pairs}
use Rattle.json_reading.proofs.keys.as_object.Goals as goal

pub returns : goal.returns
returns c = object_pairs c.as_object.result ∙ ap (option_map members_in) c.as_object.ensures
