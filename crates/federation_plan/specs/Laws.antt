-- Laws of plans.
use Rattle.std.specs.Prelude.{ℕ, ◌≡◌, ◌≢◌, ◌<◌, ◌≤◌, ◌⊎◌, true, List, [], length, Some, None}
use Rattle.hel_lists.specs.Members.{IsIn, Each}
use Rattle.hel_values.specs.declared.EndRef.{EndRef}
use Rattle.hel_values.specs.declared.Value.{Value}
use Rattle.due_queue.specs.declared.item.Content.{Content}
use Rattle.due_queue.specs.declared.item.Content.TheVariants.{Value as ValueContent, Message}
use Rattle.interface_names.specs.declared.records.FederateRecord.{FederateRecord}
use Rattle.message_filters.specs.declared.chain.Filtered.TheVariants.{Kept}
use Rattle.dependency_paths.specs.Paths.{row_of}
use Rattle.tree_facts.specs.Tree.{IsTree, Beside, hop}
use Rattle.tree_facts.specs.Cuts.{Beyond}
use Rattle.machine_laws.specs.Plan.{Call, Leg, legs_of, IsPlan}
use Rattle.machine_laws.specs.Plan.Call.{publish, send}
use Rattle.federation_plan.specs.declared.tree.NodeKind.TheVariants.{Core}
use Rattle.federation_plan.specs.declared.tree.NodeRow.{NodeRow}
use Rattle.federation_plan.specs.Interfaces.{AreEndpoints, ArePublications, IsEndpoint, IsInput, IsPublication, endpoint_at, endpoint_of, publication_of}
use Rattle.federation_plan.specs.Chains.{destination_chain, filtered_at, may_send, reroutes}
use Rattle.federation_plan.specs.Plan.{Federation, IsFederation, core_at}
use Rattle.federation_plan.specs.Tree.{kind_at, parents_of}
use Rattle.federation_plan.specs.Wires.{delay_between, destined, objection, wires_of}

-- what is handed to f names interfaces of the plan, that for which it is among those of f
abbrev pub IsKnown : List FederateRecord → ℕ → Content → Type 0
IsKnown feds f (ValueContent input publication value) = IsInput feds (record { fed = f; index = input }) × IsPublication feds publication
IsKnown feds f (Message m) =
    (m.destination.fed ≡ f) × IsEndpoint feds m.destination × IsEndpoint feds m.source × IsEndpoint feds m.original_source × IsEndpoint feds m.original_destination

-- a leg of a call of a: to a federate of the plan, of interfaces of the plan, and no earlier than the settings of both ends say
pub record IsLeg (feds : List FederateRecord) (a : ℕ) (leg : Leg) : Type 0 where
  pub to : leg.target < length feds
  pub known : (time : ℕ) → IsKnown feds leg.target (leg.content time)
  pub delayed : delay_between feds a leg.target ≤ leg.delay

-- a send by this endpoint means an endpoint to which it may send
pub record IsSend (feds : List FederateRecord) (from : EndRef) (name : List ℕ) : Type 0 where
  pub own : IsEndpoint feds from
  pub to : EndRef
  pub means : destined feds (endpoint_at feds from).item name ≡ Some to
  pub known : IsEndpoint feds to
  pub may : may_send feds from to ≡ true

-- the way from node z to t leads over an edge to node w, beyond which t stands
pub record IsWay (nodes : List NodeRow) (z t w : ℕ) : Type 0 where
  pub node : w < length nodes
  pub edge : Beside (parents_of nodes) z w
  pub onward : Beyond (parents_of nodes) z w t

pub record PlanLaws : Type 0 where
  -- a name means a publication, an endpoint of the federation
  pub known : (feds : List FederateRecord) → AreEndpoints feds (endpoint_of feds)
  pub pubs : (feds : List FederateRecord) → ArePublications feds (publication_of feds)
  -- the laws of the machine hold of a plan
  pub plans_are : (p : Federation) → IsFederation p → IsPlan (wires_of p)
  -- an ancestor is a federate, and its ancestors are ancestors, but for the federate itself
  pub within : (p : Federation) (f : ℕ) → IsFederation p → Each (λ a. a < length p.federates) (row_of p.ancestors f)
  pub closed : (p : Federation) (a b f : ℕ) → IsFederation p → IsIn a (row_of p.ancestors b) → IsIn b (row_of p.ancestors f) → a ≢ f → IsIn a (row_of p.ancestors f)
  -- no filter before a destination reroutes
  pub stays : (p : Federation) (e : EndRef) → IsFederation p → reroutes (destination_chain p.federates e) ≡ []
  -- what filters keep of a message to an endpoint arrives at an endpoint: of the sender, where it may send there, or of one
  -- that has it among its ancestors
  pub ends : (p : Federation) (from to end : EndRef) (sequence delay : ℕ) → IsFederation p → IsEndpoint p.federates to →
      filtered_at p.federates from sequence to ≡ Kept end delay → IsEndpoint p.federates end
  pub arrives : (p : Federation) (from to end : EndRef) (sequence delay : ℕ) → IsFederation p → IsEndpoint p.federates from → IsEndpoint p.federates to →
      may_send p.federates from to ≡ true → filtered_at p.federates from sequence to ≡ Kept end delay → (end.fed ≡ from.fed) ⊎ IsIn from.fed (row_of p.ancestors end.fed)
  -- a call to which nothing is objected is of an interface of the federate, and a send means an endpoint to which it may send
  pub publishes : (feds : List FederateRecord) (f publication : ℕ) (value : Value) → objection feds f (publish publication value) ≡ None →
      IsPublication feds (record { fed = f; index = publication })
  pub sends : (feds : List FederateRecord) (f endpoint : ℕ) (name payload : List ℕ) → objection feds f (send endpoint name payload) ≡ None →
      IsSend feds (record { fed = f; index = endpoint }) name
  -- what calls send
  pub legs : (p : Federation) (a sequence : ℕ) (call : Call) (leg : Leg) → IsFederation p → IsIn leg (legs_of (wires_of p) a sequence call) → IsLeg p.federates a leg
  -- nodes form a tree, so that the facts on what its edges cut hold; the core of each federate is a core among them
  pub tree : (p : Federation) → IsFederation p → IsTree (parents_of p.tree.nodes)
  pub cores : (p : Federation) (f : ℕ) → IsFederation p → f < length p.federates → (core_at p f < length p.tree.nodes) × (kind_at p.tree.nodes (core_at p f) ≡ Core)
  pub ways : (p : Federation) (z t : ℕ) → IsFederation p → z < length p.tree.nodes → t < length p.tree.nodes → z ≢ t → IsWay p.tree.nodes z t (hop (parents_of p.tree.nodes) z t)
