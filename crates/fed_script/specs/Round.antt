-- Rounds of words: how often words are gone through, and what is left of that.
use Rattle.std.specs.Prelude.{ℕ, ◌≡◌, Bool, true, false, List, [], ◌∷◌, Option, Some, None}
use Rattle.fed_script.specs.declared.word.Word.{Word}

pub record Round : Type 0 where
  -- the words of all rounds
  pub all : List Word
  -- those that are left
  pub rest : List Word
  -- how deeply repeats are nested in them
  pub depth : ℕ

-- the next word passes; after the last of all they stand at their beginning
abbrev pub Passes : Round → Bool → Round → Type 0
Passes before true after = (word : Word) × (before.rest ≡ word ∷ []) × (after.rest ≡ after.all) × (after.all ≡ before.all)
Passes before false after = (word : Word) × (before.rest ≡ word ∷ after.rest) × (after.all ≡ before.all)

-- the words that are left, also where no round is
abbrev pub left_of : Option Round → List Word
left_of None = []
left_of (Some r) = r.rest
