-- Inboxes with the room that they have.
use Rattle.std.specs.Prelude.{ℕ, ◌==◌, ◌-◌, ◌<◌, ◌≤◌, List, [], ◌∷◌, ◌++◌, map, length, slice_index_or, slice_set, count_by}
use Rattle.endpoint_messages.specs.declared.Letter.{Letter}
use Rattle.endpoint_messages.specs.Mail.{Mail}

abbrev pub letters_of : List Mail → List (List Letter)
letters_of mails = map (λ (m : Mail). m.letters) mails

abbrev pub no_mail : Mail
no_mail = record { letters = []; spare = 0 }

-- how many of these letters are for an endpoint
abbrev pub count_for : ℕ → List (ℕ × Letter) → ℕ
count_for endpoint letters = count_by (λ (l : ℕ × Letter). l.0 == endpoint) letters

-- each inbox has room for the letters that are for it
abbrev pub HasRoom : List Mail → List (ℕ × Letter) → Type 0
HasRoom mails letters = (endpoint : ℕ) → endpoint < length mails → count_for endpoint letters ≤ (slice_index_or mails endpoint no_mail).spare

-- an inbox with a letter more
abbrev pub holding : Mail → Letter → Mail
holding m letter = record { letters = m.letters ++ letter ∷ []; spare = m.spare - 1 }

-- the inbox of an endpoint is given a letter
abbrev pub with_letter : List Mail → ℕ → Letter → List Mail
with_letter mails endpoint letter = slice_set mails endpoint (holding (slice_index_or mails endpoint no_mail) letter)
