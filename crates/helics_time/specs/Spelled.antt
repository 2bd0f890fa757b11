-- A time as a text spells it: digits, a point and more digits where there is a fraction, spaces, and a unit.
use Rattle.std.specs.Prelude.{ℕ, ◌+◌, ◌-◌, ◌*◌, ◌/◌, ◌%◌, ◌^◌, ◌==◌, Bool, List, [], ◌∷◌, ◌++◌, length, take_while, drop, codes, nat_lt, if◌then◌else◌, Option, Some, None, option_map, find, Result, Ok, Err}
use Rattle.std.specs.Char.{is_ascii_digit}
use Rattle.std.specs.Str.{bytes_eq}
use Rattle.helics_time.specs.Time.{max_time}
use Rattle.helics_time.specs.declared.parse.TimeText.{TimeText}
use Rattle.helics_time.specs.declared.parse.TimeText.TheVariants.{NotANumber, UnknownUnit, NotWhole, TooLarge}

abbrev pub is_digit : ℕ → Bool
is_digit = is_ascii_digit

-- the digits behind a point in front
abbrev pub fraction_of : List ℕ → List ℕ
fraction_of [] = []
fraction_of (c ∷ cs) = if c == 46 then take_while is_digit cs else []

-- what follows them, and the whole text where there are none
abbrev pub after_fraction : List ℕ → List ℕ
after_fraction text =
    let digits = length (fraction_of text) in
    if digits == 0 then text else drop (1 + digits) text

abbrev pub after_spaces : List ℕ → List ℕ
after_spaces [] = []
after_spaces (c ∷ cs) = if c == 32 then after_spaces cs else c ∷ cs

-- the nanoseconds of each unit; none is seconds
abbrev pub units : List (List ℕ × ℕ)
units =
    (codes "ns", 1)
    ∷ (codes "us", 1000)
    ∷ (codes "ms", 1000000)
    ∷ (codes "s", 1000000000)
    ∷ ([], 1000000000)
    ∷ (codes "min", 60000000000)
    ∷ (codes "h", 3600000000000)
    ∷ []

abbrev pub unit_of : List ℕ → Option ℕ
unit_of word = option_map (λ unit. unit.1) (find (λ unit. bytes_eq unit.0 word) units)

-- the number that digits spell, behind a number
abbrev pub number_after : ℕ → List ℕ → ℕ
number_after n [] = n
number_after n (c ∷ cs) = number_after (10 * n + (c - 48)) cs

abbrev pub number_of : List ℕ → ℕ
number_of = number_after 0

-- the nanoseconds of so many units, by the digits before and behind the point: the number of all digits, in units, has to
-- be a multiple of ten to the power of the places behind the point
abbrev pub nanoseconds : List ℕ → List ℕ → ℕ → Result ℕ TimeText
nanoseconds whole fraction unit =
    let scaled = number_of (whole ++ fraction) * unit in
    let places = 10 ^ length fraction in
    if nat_lt 0 (scaled % places) then Err NotWhole
    else (if nat_lt max_time (scaled / places) then Err TooLarge else Ok (scaled / places))

abbrev pub in_unit : List ℕ → List ℕ → Option ℕ → Result ℕ TimeText
in_unit whole fraction None = Err UnknownUnit
in_unit whole fraction (Some unit) = nanoseconds whole fraction unit

-- the time that a text spells, or the first reason why it spells none
unfoldable pub time_of : List ℕ → Result ℕ TimeText
time_of text =
    let whole = take_while is_digit text in
    let rest = drop (length whole) text in
    if length whole == 0 then Err NotANumber
    else in_unit whole (fraction_of rest) (unit_of (after_spaces (after_fraction rest)))
