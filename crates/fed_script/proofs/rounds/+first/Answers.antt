-- The next word is that of the part at the place.
use Rattle.std.proofs.Common.{suc, drop, ◌++◌}
use Rattle.std.specs.List.{repeat}
use Rattle.fed_script.specs.Rounds.{unrolled, rest_of}
use Rattle.fed_script.proofs.Lists.{first_append}
use Rattle.fed_script.proofs.Parts.{rest_from_at}
use Rattle.fed_script.proofs.rounds.+first.Goals as goal

pub Rounds::first-returns : goal.Rounds::first-returns
Rounds::first-returns t c =
    let a = c.self.inside in
    let p = c.index.result.now in
    let behind = unrolled (drop (suc a.place) a.parts.items) in
    rw (← c.self.view_is) (rw (rest_from_at a.place a.parts.items p c.self.invariant.place c.index.ensures)
    (first_append (rest_of p ++ behind) (repeat a.left (unrolled a.parts.items)) c.first.result.now
    (first_append (rest_of p) behind c.first.result.now c.first.ensures)))
