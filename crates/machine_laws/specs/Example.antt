-- A plan of two federates, where the second has a message of the first, and a run of it.
use Rattle.std.specs.Prelude.{◌≡◌, ℕ, ◌==◌, if◌then◌else◌, List, [], ◌∷◌, take, Some, None}
use Rattle.hel_values.specs.declared.EndRef.{EndRef}
use Rattle.due_queue.specs.declared.item.Content.{Content}
use Rattle.due_queue.specs.declared.item.Content.TheVariants.{Message}
use Rattle.due_queue.specs.Item.{Parcel}
use Rattle.iteration_rules.specs.declared.Mode.TheVariants.{Next}
use Rattle.iteration_rules.specs.declared.Kind.TheVariants.{NextStep}
use Rattle.machine_laws.specs.declared.refusal.Unlawful.TheVariants.{Early}
use Rattle.machine_laws.specs.Plan.{Plan, IsPlan}
use Rattle.machine_laws.specs.Plan.Call.{send}
use Rattle.machine_laws.specs.Machine.{Step, State, default_terms, member_at, opening, refusal_of, IsRun}
use Rattle.machine_laws.specs.Machine.Step.{begin, enter, make, request, grant}
use Rattle.machine_laws.specs.First.{first_by}

-- the first endpoint of a federate
abbrev pub endpoint_of : ℕ → EndRef
endpoint_of f = record { fed = f; index = 0 }

-- the message of the first federate to the second, handed over at this time
abbrev pub message : List ℕ → ℕ → Content
message payload time =
    Message (record {
      source = endpoint_of 0;
      original_source = endpoint_of 0;
      destination = endpoint_of 1;
      original_destination = endpoint_of 1;
      time = time;
      payload = payload;
    })

-- what the first federate sends is for the second, ten nanoseconds later
abbrev pub pair : Plan
pair = record {
  settings = default_terms ∷ default_terms ∷ [];
  core = λ f. 1;
  is_core = λ node. node == 1;
  ancestors = λ f. if f == 1 then 0 ∷ [] else [];
  objects = λ f call. None;
  publishes = λ f publication value. [];
  sends = λ f endpoint seq destination payload. if f == 0 then Some (record { target = 1; delay = 10; content = message payload }) else None;
  first = λ a s. first_by 10 s;
}

-- the first federate sends after its entry, and the second asks for a later time than the message is due
abbrev pub some_steps : List Step
some_steps =
    begin ∷ enter 0 ∷ enter 1 ∷ grant 0 ∷ make 0 (send 0 [] (7 ∷ [])) ∷ grant 1 ∷ request 1 20 Next ∷ request 0 5 Next ∷ grant 1 ∷ []

abbrev pub handed_item : Parcel
handed_item = record { source = 0; seq = 0; target = 1; due = record { time = 10; micro = 0 }; content = message (7 ∷ []) 10 }

-- the plan is as the laws need it, and the steps are a run that hands the message over at its due; before the first
-- federate asks, the second's grant would be early
pub record PairRuns : Type 0 where
  pub plan : IsPlan pair
  pub end : State
  pub run : IsRun pair (opening pair) some_steps end
  pub items : end.items ≡ []
  pub log : (member_at end 1).log ≡
      (record { grant = record { time = 0; micro = 1; kind = NextStep }; items = [] })
      ∷ (record { grant = record { time = 10; micro = 0; kind = NextStep }; items = handed_item ∷ [] }) ∷ []
  pub asked : State
  pub asking : IsRun pair (opening pair) (take 7 some_steps) asked
  pub early : refusal_of pair asked (grant 1) ≡ Some (Early 0 (record { time = 0; micro = 1 }))
