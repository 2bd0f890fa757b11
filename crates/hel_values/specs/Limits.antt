-- How long what a federate hands over may be.
use Rattle.std.specs.Prelude.{ℕ}

-- the greatest length of a payload or a text, in bytes
abbrev pub data_limit : ℕ
data_limit = 65536
