use Rattle.std.proofs.Common.{◌≡◌, ◌++◌, drop, string_bytes}
use Rattle.std.specs.List.{flat_map}
use Rattle.log_text.specs.Text.{item_text}
use Rattle.log_text.proofs.items.write_items.Given as goal

-- what is written so far and the text of the other items are the text of all
abbrev pub invariant-loop-item : goal.invariant-loop-item
invariant-loop-item l =
    string_bytes l.out ++ flat_map (item_text l.federates) (drop l.item-index l.items)
    ≡ string_bytes l.fn.out ++ flat_map (item_text l.federates) l.items
