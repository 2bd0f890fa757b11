-- Chance: SplitMix64, with the constants of Sebastiano Vigna.
-- A state is one number of 64 bits.
use Rattle.std.specs.Prelude.{ℕ, ◌+◌, ◌*◌, ◌/◌, ◌%◌, ◌^◌, bit_xor}

-- one step: the state rises by the golden ratio's 64 bits, wrapping
abbrev pub next_state : ℕ → ℕ
next_state state = (state + 0x9e3779b97f4a7c15) % 2 ^ 64

-- z with itself, shifted right, folded in
abbrev pub folded : ℕ → ℕ → ℕ
folded z places = bit_xor z (z / 2 ^ places)

-- a state mixed to a word
abbrev pub mixed : ℕ → ℕ
mixed state =
    let first = folded state 30 * 0xbf58476d1ce4e5b9 % 2 ^ 64 in
    let second = folded first 27 * 0x94d049bb133111eb % 2 ^ 64 in
    folded second 31

-- the first word from a state
abbrev pub word : ℕ → ℕ
word state = mixed (next_state state)

-- the word of a message for a drop filter with this seed
abbrev pub drop_word : ℕ → ℕ → ℕ → ℕ
drop_word seed source sequence = word ((seed + 2 ^ 32 * source + sequence) % 2 ^ 64)
