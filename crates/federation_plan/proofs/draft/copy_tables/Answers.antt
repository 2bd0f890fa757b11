use Rattle.federation_plan.proofs.draft.copy_tables.Goals as goal

pub returns : goal.returns
returns c = rw (c.in_ok-targets.ensures, c.in_ok-chains.ensures) (record {
  endpoints_are = c.in_ok-endpoints.ensures;
  target_places = c.requires.are.target_places;
  targets_are = c.requires.are.targets_are;
  chain_places = c.requires.are.chain_places;
  sources_are = c.requires.are.sources_are;
  destinations_are = c.requires.are.destinations_are;
})
