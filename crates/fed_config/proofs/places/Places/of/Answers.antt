use Rattle.std.proofs.Common.{arith, ◌≡◌, ◌∙◌, ℕ, suc, ◌-◌, ◌<◌, List, length, map, drop, subst, Some, string_bytes}
use Rattle.std.specs.HashMap.{get_by_text}
use Rattle.std.proofs.lemmas.Map.Text.{hash_map_updates_text}
use Rattle.fed_config.proofs.OneBefore.{place_from, one_before}
use Rattle.fed_config.proofs.places.Places.of.Goals as goal

pub loop-place-preserved : goal.loop-place-preserved
loop-place-preserved g c =
    let name_of = g.T.Named.name_of in
    let xs = c.args.interfaces.now in
    let i : ℕ = c.loop-place.place - 1 in
    let at : c.loop-place.place ≡ suc i = omega (arith, c.loop-place-test.true) in
    let lt : i < length xs = omega (arith, c.loop-place.invariant.0) in
    let x = c.index-interfaces-place.result in
    let known : (q : List ℕ) → get_by_text c.loop-place.places q ≡ place_from (suc i) (map name_of (drop (suc i) xs)) q =
    subst (λ (n : ℕ). (q : List ℕ) → get_by_text c.loop-place.places q ≡ place_from n (map name_of (drop n xs)) q) at c.loop-place.invariant.1 in (
      omega (arith, lt),
      λ q. one_before name_of xs i x (string_bytes c.in_ok-name.name) q (get_by_text c.loop-place.places q) (get_by_text c.insert.new.self q) lt
          c.index-interfaces-place.is (c.in_ok-name.ensures.ok ∙ c.name.ensures) (known q)
          (hash_map_updates_text (string_bytes c.in_ok-name.name) c.loop-place.places c.insert.new.self (Some i) c.in_ok-insert.ensures.updates q),
    )
