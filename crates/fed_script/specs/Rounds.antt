-- What rounds of parts give.
use Rattle.std.specs.Prelude.{ℕ, zero, suc, ◌+◌, ◌<◌, ◌≡◌, max, Bool, true, false, List, [], ◌∷◌, ◌++◌, length, flat_map}
use Rattle.fed_script.specs.declared.word.Word.{Word}
use Rattle.fed_script.specs.declared.rounds.Part.{Part}
use Rattle.fed_script.specs.declared.rounds.Part.TheVariants.{Word as SingleWord, Repeat}
use Rattle.fed_script.specs.declared.rounds.Rounds.TheInside.{Inside}
use Rattle.std.specs.List.{repeat, AllByRecursion}
use Rattle.fed_script.specs.Round.{Round}

-- the words of a part
abbrev pub words_of : Part → List Word
words_of (SingleWord word) = word ∷ []
words_of (Repeat r) = r.all

-- those that are left of it
abbrev pub rest_of : Part → List Word
rest_of (SingleWord word) = word ∷ []
rest_of (Repeat r) = r.rest

-- the words of parts, one after another
abbrev pub unrolled : List Part → List Word
unrolled parts = flat_map words_of parts

-- those that are left of them, where the part at a place is the next
abbrev pub rest_from : ℕ → List Part → List Word
rest_from n [] = []
rest_from zero (part ∷ parts) = rest_of part ++ unrolled parts
rest_from (suc n) (part ∷ parts) = rest_from n parts

abbrev pub depth_of : Part → ℕ
depth_of (SingleWord word) = 0
depth_of (Repeat r) = r.depth + 1

abbrev pub deepest : List Part → ℕ
deepest [] = 0
deepest (part ∷ parts) = max (depth_of part) (deepest parts)

-- all words of a part are left
abbrev pub IsFresh : Part → Type 0
IsFresh (SingleWord word) = Unit {0}
IsFresh (Repeat r) = r.rest ≡ r.all

abbrev pub AreFresh : List Part → Type 0
AreFresh parts = AllByRecursion IsFresh parts

-- of each part but the one at a place
abbrev pub OthersFresh : ℕ → List Part → Type 0
OthersFresh n [] = Unit {0}
OthersFresh zero (part ∷ parts) = AreFresh parts
OthersFresh (suc n) (part ∷ parts) = IsFresh part × OthersFresh n parts

abbrev pub round_of : Inside → Round
round_of a = record {
  all = repeat a.times (unrolled a.parts.items);
  rest = rest_from a.place a.parts.items ++ repeat a.left (unrolled a.parts.items);
  depth = deepest a.parts.items;
}

pub record IsRound (a : Inside) : Type 0 where
  -- it stands at a part, in the last round or an earlier one
  pub place : a.place < length a.parts.items
  pub left : a.left < a.times
  pub fresh : OthersFresh a.place a.parts.items

-- the next word of a part passes
abbrev pub PassesPart : Part → Bool → Part → Type 0
PassesPart before true after = (word : Word) × (rest_of before ≡ word ∷ []) × IsFresh after × (words_of after ≡ words_of before)
PassesPart before false after = (word : Word) × (rest_of before ≡ word ∷ rest_of after) × (words_of after ≡ words_of before)
