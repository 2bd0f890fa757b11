-- What the calls of an inbox answer and do.
use Rattle.std.specs.Prelude.{◌≡◌, ◌+◌, [], ◌∷◌, Option, Some, None}
use Rattle.endpoint_messages.specs.declared.Letter.{Letter}
use Rattle.endpoint_messages.specs.Mail.{Mail}

-- the oldest goes, and leaves its room; or there is none
abbrev pub Takes : Mail → Option Letter → Mail → Type 0
Takes before None after = (before.letters ≡ []) × (after ≡ before)
Takes before (Some letter) after = (before.letters ≡ letter ∷ after.letters) × (after.spare ≡ before.spare + 1)
