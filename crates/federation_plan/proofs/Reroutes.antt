-- The last reroute of a chain.
use Rattle.std.proofs.Common.{◌≡◌, ℕ, ◌+◌, ◌<◌, List, [], ◌∷◌, ◌++◌, length, get_or, take, refl, sym, ◌∙◌, ap, Option, Some, None}
use Rattle.std.specs.List.{last_or}
use Rattle.std.specs.Option.{option_or}
use Rattle.std.proofs.lemmas.List.{take_more}
use Rattle.std.proofs.lemmas.List.Elements.{filter_map-append}
use Rattle.hel_values.specs.declared.EndRef.{EndRef}
use Rattle.interface_names.specs.declared.records.FederateRecord.{FederateRecord}
use Rattle.message_filters.specs.declared.filter.Filter.{Filter}
use Rattle.message_filters.specs.declared.filter.Filter.TheVariants.{Delay, Drop, Reroute}
use Rattle.message_filters.specs.Filter.{reroute_of}
use Rattle.federation_plan.specs.Interfaces.{filter_at}
use Rattle.federation_plan.specs.Chains.{reroutes, filter_of}
use Rattle.federation_plan.specs.Tables.{chain_by}
use Rattle.federation_plan.specs.Depends.{last_reroute}

last_pushed : (o : Option EndRef) (rs : List EndRef) (r : EndRef) → last_or o (rs ++ r ∷ []) ≡ Some r
last_pushed o [] r = refl
last_pushed o (q ∷ qs) r = last_pushed (Some q) qs r

append_none : (rs : List EndRef) → rs ++ [] ≡ rs
append_none [] = refl
append_none (r ∷ rs) = ap (λ (l : List EndRef). r ∷ l) (append_none rs)

-- one more filter
pub last_more : (chain : List Filter) (x : Filter) → last_reroute (chain ++ x ∷ []) ≡ option_or (reroute_of x) (last_reroute chain)
last_more chain (Delay delay) = ap (last_or None) (filter_map-append reroute_of chain (Delay delay ∷ []) ∙ append_none (reroutes chain))
last_more chain (Drop per_million seed) = ap (last_or None) (filter_map-append reroute_of chain (Drop per_million seed ∷ []) ∙ append_none (reroutes chain))
last_more chain (Reroute r) = ap (last_or None) (filter_map-append reroute_of chain (Reroute r ∷ [])) ∙ last_pushed None (reroutes chain) r

-- the filters of these references up to the next one
pub refs_more : (meaning : List ℕ → Option EndRef) (feds : List FederateRecord) (refs : List EndRef) (i : ℕ) (d : EndRef) (now next own : Option EndRef) → i < length refs →
    now ≡ last_reroute (chain_by meaning feds (take i refs)) → own ≡ reroute_of (filter_of meaning (filter_at feds (get_or refs i d)).kind) → next ≡ option_or own now →
    next ≡ last_reroute (chain_by meaning feds (take (i + 1) refs))
refs_more meaning feds refs i d now next own below was here is =
    let x = filter_of meaning (filter_at feds (get_or refs i d)).kind in
    is ∙ ap (λ (o : Option EndRef). option_or o now) here ∙ ap (λ (o : Option EndRef). option_or (reroute_of x) o) was
    ∙ sym (last_more (chain_by meaning feds (take i refs)) x)
    ∙ ap last_reroute (sym (map_append refs i) ∙ ap (λ (l : List EndRef). chain_by meaning feds l) (sym (take_more refs i d below)))
  where
    map_append : (refs : List EndRef) (i : ℕ) → chain_by meaning feds (take i refs ++ get_or refs i d ∷ []) ≡ chain_by meaning feds (take i refs) ++ filter_of meaning (filter_at feds (get_or refs i d)).kind ∷ []
    map_append refs i = go (take i refs)
      where
        go : (l : List EndRef) → chain_by meaning feds (l ++ get_or refs i d ∷ []) ≡ chain_by meaning feds l ++ filter_of meaning (filter_at feds (get_or refs i d)).kind ∷ []
        go [] = refl
        go (y ∷ ys) = ap (λ (c : List Filter). filter_of meaning (filter_at feds y).kind ∷ c) (go ys)
