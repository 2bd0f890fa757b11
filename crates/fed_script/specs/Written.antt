-- What words that are put together keep.
use Rattle.std.specs.Prelude.{◌≡◌, ◌-◌, ◌^◌, length, min}
use Rattle.fed_script.specs.declared.words.Words.TheInside.{Inside}
use Rattle.fed_script.specs.Rounds.{unrolled, AreFresh}
use Rattle.fed_script.specs.Script.{KeepTimes}

pub record IsWritten (a : Inside) : Type 0 where
  -- no repeat has begun
  pub fresh : AreFresh a.parts.items
  pub times : KeepTimes (unrolled a.parts.items)
  pub count : a.count ≡ min (length (unrolled a.parts.items)) (2 ^ 64 - 1)
