-- An inbox: its letters, the oldest first, and for how many more there is room.
use Rattle.std.specs.Prelude.{ℕ, List}
use Rattle.endpoint_messages.specs.declared.Letter.{Letter}

pub record Mail : Type 0 where
  pub letters : List Letter
  pub spare : ℕ
