-- How much a federation may hold.
use Rattle.std.specs.Prelude.{ℕ}

-- the most federates
abbrev pub most_federates : ℕ
most_federates = 512

-- the most interfaces of a federate, of all kinds together
abbrev pub most_interfaces : ℕ
most_interfaces = 256

-- the most bytes of a name
abbrev pub longest_name : ℕ
longest_name = 255

-- the parts of a whole
abbrev pub million : ℕ
million = 1000000
