-- The orders of items: the canonical one of the items to all federates, and that of a queue.
use Rattle.std.specs.Prelude.{ℕ, Bool, true, false, nat_lt, ◌==◌, ◌&&◌, ◌||◌, List, [], ◌∷◌}
use Rattle.due_queue.specs.Item.{Parcel, interface_of}
use Rattle.due_queue.specs.Sorted.{IsInOrder, insert_by}

-- the place of an item in a queue: its due, its source, its number, its interface
abbrev pub due_key : Parcel → List ℕ
due_key i = i.due.time ∷ i.due.micro ∷ i.source ∷ i.seq ∷ interface_of i.content ∷ []

-- the place of an item among those of all federates: its target, and then as in a queue
abbrev pub key : Parcel → List ℕ
key i = i.target ∷ due_key i

-- lists of numbers in the order of a dictionary
abbrev pub lex : List ℕ → List ℕ → Bool
lex [] [] = false
lex [] (y ∷ ys) = true
lex (x ∷ xs) [] = false
lex (x ∷ xs) (y ∷ ys) = nat_lt x y || (x == y && lex xs ys)

-- in the canonical order
unfoldable pub comes_before : Parcel → Parcel → Bool
comes_before i j = lex (key i) (key j)

-- in a queue
unfoldable pub is_sooner : Parcel → Parcel → Bool
is_sooner i j = lex (due_key i) (due_key j)

-- none comes before one that stands ahead of it
abbrev pub InOrder : List Parcel → Type 0
InOrder items = IsInOrder comes_before items

-- none is sooner than one that stands ahead of it
abbrev pub InDueOrder : List Parcel → Type 0
InDueOrder items = IsInOrder is_sooner items

-- a list in canonical order with one more, behind those of equal place
abbrev pub insert : Parcel → List Parcel → List Parcel
insert i items = insert_by comes_before i items

abbrev pub insert_all : List Parcel → List Parcel → List Parcel
insert_all [] items = items
insert_all (i ∷ more) items = insert_all more (insert i items)

-- a queue with one more, behind those of equal place
abbrev pub enqueue : Parcel → List Parcel → List Parcel
enqueue i items = insert_by is_sooner i items
