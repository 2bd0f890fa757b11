-- A scenario: a plan and a script for each of its federates.
use Rattle.std.specs.Prelude.{◌≡◌, List, length}
use Rattle.hel_lists.specs.Members.{Each}
use Rattle.fed_script.specs.Script.{Course, IsCourse}
use Rattle.federation_plan.specs.Plan.{Federation}

pub record Scene : Type 0 where
  pub plan : Federation
  pub scripts : List Course

pub record IsScene (s : Scene) : Type 0 where
  pub each : length s.scripts ≡ length s.plan.federates
  -- each script keeps what scripts keep
  pub rules : Each IsCourse s.scripts
