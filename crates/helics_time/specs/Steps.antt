-- The steps in which a time is read, for private clauses.
use Rattle.std.specs.Prelude.{ℕ, ◌+◌, ◌-◌, ◌*◌, ◌/◌, ◌%◌, ◌==◌, List, [], ◌∷◌, length, take_while, drop, nat_lt, if◌then◌else◌, Option, Some, None, option_and_then, Result, Ok, Err}
use Rattle.helics_time.specs.Time.{max_time}
use Rattle.helics_time.specs.Spelled.{is_digit, fraction_of, after_fraction, after_spaces, unit_of, number_of}
use Rattle.helics_time.specs.declared.parse.TimeText.{TimeText}
use Rattle.helics_time.specs.declared.parse.TimeText.TheVariants.{NotANumber, UnknownUnit, NotWhole, TooLarge}

-- a tenth, where it is whole
abbrev pub tenth : ℕ → Option ℕ
tenth n = if n % 10 == 0 then Some (n / 10) else None

-- the nanoseconds of the digits behind a point, at a unit, where they are whole
abbrev pub part_of : ℕ → List ℕ → Option ℕ
part_of unit [] = Some 0
part_of unit (c ∷ cs) = option_and_then (λ later. tenth ((c - 48) * unit + later)) (part_of unit cs)

abbrev pub with_part : ℕ → ℕ → Option ℕ → Result ℕ TimeText
with_part whole unit None = Err NotWhole
with_part whole unit (Some part) = if nat_lt max_time (whole * unit + part) then Err TooLarge else Ok (whole * unit + part)

abbrev pub whole_and_part : List ℕ → List ℕ → ℕ → Result ℕ TimeText
whole_and_part whole fraction unit = with_part (number_of whole) unit (part_of unit fraction)

abbrev pub at_unit : List ℕ → List ℕ → Option ℕ → Result ℕ TimeText
at_unit whole fraction None = Err UnknownUnit
at_unit whole fraction (Some unit) = whole_and_part whole fraction unit

unfoldable pub steps_of : List ℕ → Result ℕ TimeText
steps_of text =
    let whole = take_while is_digit text in
    let rest = drop (length whole) text in
    if length whole == 0 then Err NotANumber
    else at_unit whole (fraction_of rest) (unit_of (after_spaces (after_fraction rest)))
